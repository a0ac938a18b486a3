-- Bounds of the dirty nodes at each node of a table and below it.
use Rattle.std.specs.Prelude.{ℕ, ◌≤◌, List, [], ◌∷◌, length, ⊤}
use Rattle.std.proofs.Props.{props}

-- there are as many lists as numbers, and no list has more elements than the number beside it says
abbrev pub AreNoLonger : List (List ℕ) → List ℕ → Type 0
AreNoLonger [] [] = ⊤
AreNoLonger [] (most ∷ others) = ⊥
AreNoLonger (numbers ∷ lists) [] = ⊥
AreNoLonger (numbers ∷ lists) (most ∷ others) = (length numbers ≤ most) × AreNoLonger lists others

-- this is so in one way at most
pub no_longer-prop : (lists : List (List ℕ)) (bounds : List ℕ) → IsProp (AreNoLonger lists bounds)
no_longer-prop [] [] = hlevel props
no_longer-prop [] (most ∷ others) = hlevel props
no_longer-prop (numbers ∷ lists) [] = hlevel props
no_longer-prop (numbers ∷ lists) (most ∷ others) = let behind = no_longer-prop lists others in hlevel (props, behind)
