-- A stock's fields, as contracts see them.
use Rattle.std.specs.Prelude.{◌≡◌, ℕ, Option, Some, None, is_some}
use Rattle.atomic_table.specs.Seated.{TableId}
use Rattle.credit_pool.specs.States.{SeatState}
use Rattle.credited_files.specs.declared.stock.Stock.TheInside.{Inside}
use Rattle.credited_files.specs.States.{StockState}

-- the seat is of this pool and this caller, and holds so much; without a seat nothing is held
abbrev pub SeatFits : TableId → ℕ → ℕ → Option SeatState → Type 0
SeatFits pool caller held None = held ≡ 0
SeatFits pool caller held (Some seat) = (seat.pool ≡ pool) × (seat.caller ≡ caller) × (seat.held ≡ held)

abbrev pub stock_state : Inside → StockState
stock_state s = record { pool = s.pool.value; caller = s.caller; held = s.held; seated = is_some s.seat }

abbrev pub IsStock : Inside → Type 0
IsStock s = SeatFits s.pool.value s.caller s.held s.seat
