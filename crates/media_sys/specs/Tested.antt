-- How a body is read: it is tested, and then taken apart.
use Rattle.std.specs.Prelude.{ℕ, Bool, if◌then◌else◌, List, Option, Some, None}

-- the node that a body of this type spells, if it passes the test
abbrev pub tested : {X : Type 0} → (ℕ → List ℕ → Bool) → (List ℕ → X) → ℕ → List ℕ → Option X
tested test at kind body = if test kind body then Some (at body) else None
