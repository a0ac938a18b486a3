-- The LEBs that a commit is given.
use Rattle.std.specs.Prelude.{◌≡◌, ◌⊎◌, ◌<◌, ℕ, List, [], ◌∷◌, ⊤}

-- the LEB is one of these
abbrev pub IsGiven : List ℕ → ℕ → Type 0
IsGiven [] k = ⊥
IsGiven (lnum ∷ lebs) k = (k ≡ lnum) ⊎ IsGiven lebs k

-- no LEB is one of both
abbrev pub AreLebsApart : List ℕ → List ℕ → Type 0
AreLebsApart lebs others = (k : ℕ) → IsGiven lebs k → IsGiven others k → ⊥

-- LEBs of a volume of so many, no two of them the same
abbrev pub AreGivable : ℕ → List ℕ → Type 0
AreGivable leb_cnt [] = ⊤
AreGivable leb_cnt (lnum ∷ lebs) = (lnum < leb_cnt) × (IsGiven lebs lnum → ⊥) × AreGivable leb_cnt lebs
