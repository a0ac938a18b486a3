-- What contracts see of a seat and of the master.
use Rattle.std.specs.Prelude.{ℕ, not, ◌+◌, ◌==◌, List, filter}
use Rattle.atomic_table.specs.Seated.{TableId}

-- a seat: which pool it is of, whose it is, what it holds, what its last load or exchange found, and how many it has made
pub record SeatState : Type 0 where
  pub pool : TableId
  pub caller : ℕ
  pub held : ℕ
  pub found : ℕ
  pub count : ℕ

-- the master: which pool it is of, what was issued, what it holds, and the callers whose seat is out
pub record MasterState : Type 0 where
  pub pool : TableId
  pub issued : ℕ
  pub held : ℕ
  pub out : List ℕ

-- the seat after a load or an exchange that found this room
abbrev pub looked : ℕ → SeatState → SeatState
looked room s = record { pool = s.pool; caller = s.caller; held = s.held; found = room; count = s.count + 1 }

-- the seat with these credits in place of its own
abbrev pub holding : ℕ → SeatState → SeatState
holding credits s = record { pool = s.pool; caller = s.caller; held = credits; found = s.found; count = s.count }

-- the callers without this one
abbrev pub without : ℕ → List ℕ → List ℕ
without caller out = filter (λ c. not (c == caller)) out
