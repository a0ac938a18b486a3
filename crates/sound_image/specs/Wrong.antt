-- Places at which something is wrong, and the first of them.
use Rattle.std.specs.Prelude.{◌≡◌, ◌⊎◌, ℕ, ◌+◌, ◌==◌, ◌&&◌, ◌||◌, nat_lt, IsFalse, Bool, true, false, List, ◌∷◌, ◌++◌, get_or}
use Rattle.media_sys.specs.declared.feature.Feature.{Feature}
use Rattle.media_sys.specs.declared.feature.Feature.TheVariants.{KeyHash, KeyFmt, Version, Heads, DoubleHash, Encryption, Authentication, Flags, BigModel, Compressed, Attributes}

-- what is wrong at a place: a feature that isn't known here is needed, or one value is wanted and another found
pub data Misfit : Type 0 where
  needs : Feature → Misfit
  differs : (wanted found : ℕ) → Misfit

-- a place, and what is wrong there
pub record Wrong : Type 0 where
  pub lnum : ℕ
  pub offs : ℕ
  pub misfit : Misfit

-- the features in the order in which they are tested
abbrev pub feature_number : Feature → ℕ
feature_number KeyHash = 0
feature_number KeyFmt = 1
feature_number Version = 2
feature_number Heads = 3
feature_number DoubleHash = 4
feature_number Encryption = 5
feature_number Authentication = 6
feature_number Flags = 7
feature_number BigModel = 8
feature_number Compressed = 9
feature_number Attributes = 10

-- whether one pair of numbers comes before another: by the first, and then by the second
abbrev pub is_lesser : ℕ × ℕ → ℕ × ℕ → Bool
is_lesser a b = nat_lt a.0 b.0 || ((a.0 == b.0) && nat_lt a.1 b.1)

-- of what is wrong at one place, a feature is told first, and then the lesser values
abbrev pub is_told_before : Misfit → Misfit → Bool
is_told_before (needs a) (needs b) = nat_lt (feature_number a) (feature_number b)
is_told_before (needs a) (differs wanted found) = true
is_told_before (differs wanted found) (needs b) = false
is_told_before (differs wanted found) (differs other there) = is_lesser (wanted, found) (other, there)

-- whether one comes before another: by LEB, then by offset, and at one place by what is wrong
abbrev pub comes_before : Wrong → Wrong → Bool
comes_before a b = is_lesser (a.lnum, a.offs) (b.lnum, b.offs) || ((a.lnum == b.lnum) && ((a.offs == b.offs) && is_told_before a.misfit b.misfit))

-- this is wrong, and nothing comes before it
pub record IsFirstWrong (IsWrong : Wrong → Type 0) (first : Wrong) : Type 0 where
  pub wrong : IsWrong first
  pub least : (other : Wrong) → IsWrong other → IsFalse (comes_before other first)

-- this is wrong first; or nothing is wrong so, and the other holds
abbrev pub IsFirstOr : (Wrong → Type 0) → (Wrong → Type 0) → Wrong → Type 0
IsFirstOr IsWrong Else at = IsFirstWrong IsWrong at ⊎ (((other : Wrong) → IsWrong other → ⊥) × Else at)

-- this is one of a list
abbrev pub IsOneOf : {X : Type 0} → X → List X → Type 0
IsOneOf {X = X} x xs = (before : List X) × (behind : List X) × (xs ≡ before ++ (x ∷ behind))

-- the byte that stands for a node's type at a place; 255 where nothing is written
abbrev pub type_byte : List ℕ → ℕ → ℕ
type_byte leb place = get_or leb (place + 20) 255
