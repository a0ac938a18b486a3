-- Leaves that are wrong among others, as far as the first place at which one is.
use Rattle.std.specs.Prelude.{◌≡◌, ◌⊎◌, IsFalse, IsTrue, List, [], ◌∷◌, ◌++◌, Option}
use Rattle.std.specs.List.{AllByRecursion}
use Rattle.index_tree.specs.declared.leaf.Leaf.{Leaf}
use Rattle.sound_image.specs.Wrong.{IsOneOf}
use Rattle.leaf_check.specs.Overlaps.{IsOverlapped, StandsBefore, touches}

-- a leaf is not sound, or overlaps another of these leaves
abbrev pub IsBadAmong : (Leaf → Type 0) → List Leaf → Leaf → Type 0
IsBadAmong IsSound leaves leaf = (IsSound leaf → ⊥) ⊎ IsOverlapped leaves leaf

-- a leaf is sound, and overlaps no other of these leaves
abbrev pub IsRightAmong : (Leaf → Type 0) → List Leaf → Leaf → Type 0
IsRightAmong IsSound leaves leaf = IsSound leaf × (IsOverlapped leaves leaf → ⊥)

-- a leaf is one of these, or one of them stands before it
abbrev pub IsUpTo : List Leaf → Leaf → Type 0
IsUpTo wrong leaf = IsOneOf leaf wrong ⊎ ((other : Leaf) × IsOneOf other wrong × StandsBefore other leaf)

-- a leaf was kept, since it overlaps a neighbour or is not sound; or it is right
abbrev pub IsLeafJudged : (Leaf → Type 0) → Option Leaf → Leaf → List Leaf → List Leaf → List Leaf → Type 0
IsLeafJudged IsSound last leaf behind old new =
    ((new ≡ old ++ (leaf ∷ [])) × (IsTrue (touches last leaf behind) ⊎ (IsSound leaf → ⊥)))
    ⊎ ((new ≡ old) × IsFalse (touches last leaf behind) × IsSound leaf)

-- of these leaves some are wrong, and each other one is right, or stands behind one that is wrong
pub record IsSwept (IsSound : Leaf → Type 0) (leaves wrong : List Leaf) : Type 0 where
  pub are : AllByRecursion (λ leaf. IsOneOf leaf leaves × IsBadAmong IsSound leaves leaf) wrong
  pub rest : (leaf : Leaf) → IsOneOf leaf leaves → IsRightAmong IsSound leaves leaf ⊎ IsUpTo wrong leaf
