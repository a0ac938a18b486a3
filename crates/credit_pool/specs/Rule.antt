-- The rule of credits: the room plus what all seats and the master hold is what was issued.
use Rattle.std.specs.Prelude.{◌≡◌, ℕ, ◌+◌, ◌^◌, ◌<◌, ◌≤◌, ◌==◌, ◌&&◌, not, if◌then◌else◌, List, [], ◌∷◌, map, sum_by, count_by, All}
use Rattle.atomic_table.specs.Table.{State}
use Rattle.credit_pool.specs.declared.view.SeatView.{SeatView}
use Rattle.credit_pool.specs.declared.view.MasterView.{MasterView}
use Rattle.credit_pool.specs.declared.view.View.{View}
use Rattle.credit_pool.specs.declared.view.View.TheVariants.{Master, Seat}

-- what a seat may hold: 17 credits, and none once it is spent
abbrev pub most_held : SeatView → ℕ
most_held s = if s.spent then 0 else 17

-- what the seats hold together
abbrev pub held_by : List SeatView → ℕ
held_by seats = sum_by (λ s. s.held) seats

-- how many unspent seats the caller has
abbrev pub seats_of : ℕ → List SeatView → ℕ
seats_of caller seats = count_by (λ s. not s.spent && s.caller == caller) seats

-- how often the caller is out
abbrev pub times_out : ℕ → List ℕ → ℕ
times_out caller out = count_by (λ c. c == caller) out

-- The room plus what the master and all seats hold is what was issued, which is below 2^63. No seat holds more than it
-- may. No caller has two seats, and one with a seat is out.
pub record IsKept (room : ℕ) (master : MasterView) (seats : List SeatView) : Type 0 where
  pub balanced : room + master.held + held_by seats ≡ master.issued
  pub bounded : master.issued < 2 ^ 63
  pub capped : All (λ s. s.held ≤ most_held s) seats
  pub different : (caller : ℕ) → seats_of caller seats ≤ 1
  pub seated : (caller : ℕ) → seats_of caller seats ≤ times_out caller master.out

-- there are seats with which the rule holds of this room, and of what the master has
abbrev pub Accounts : ℕ → ℕ → ℕ → List ℕ → Type 0
Accounts room issued held out = (seats : List SeatView) × IsKept room (record { issued = issued; held = held; out = out; next = 0 }) seats

-- the table has the room for its one word, and what the master knows before what the seats know
abbrev pub Keeps : State (Unit {0}) View → Type 0
Keeps table = (room : ℕ) × (master : MasterView) × (seats : List SeatView) × (table.words ≡ room ∷ []) × (table.views ≡ Master master ∷ map Seat seats) × IsKept room master seats

-- the master of a new pool: nothing is issued, and nobody is out
abbrev pub opened : View
opened = Master (record { issued = 0; held = 0; out = []; next = 0 })
