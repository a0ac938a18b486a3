-- What a draw leaves of a seat, by its answer.
use Rattle.std.specs.Prelude.{◌≡◌, ◌≢◌, ℕ, ◌+◌, ◌<◌, ◌≤◌}
use Rattle.credit_pool.specs.declared.fault.DrawFault.{DrawFault}
use Rattle.credit_pool.specs.declared.fault.DrawFault.TheVariants.{Short, Raced}
use Rattle.credit_pool.specs.States.{SeatState, looked, holding}

-- the exchange found the room wanted, and the seat holds n more
abbrev pub drawn : ℕ → ℕ → SeatState → SeatState
drawn room n s = holding (s.held + n) (looked room s)

-- an exchange of the room wanted for less failed: it found another, and the seat has only looked
abbrev pub TakeFails : ℕ → SeatState → SeatState → DrawFault → Type 0
TakeFails wanted old new fault = (fault ≡ Raced wanted new.found) × (new.found ≢ wanted) × (new ≡ looked new.found old)

-- A draw of n failed. Short: the load saw fewer than n, and there was no exchange. Raced: it saw enough, and the exchange found another room
abbrev pub DrawFails : ℕ → SeatState → SeatState → DrawFault → Type 0
DrawFails n old new (Short room) = (room < n) × (new ≡ looked room old)
DrawFails n old new (Raced wanted room) = (n ≤ wanted) × (room ≢ wanted) × (new ≡ looked room (looked wanted old))
