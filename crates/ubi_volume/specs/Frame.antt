-- What calls that work on several LEBs leave as it was, and what a cut leaves of the whole volume on the way.
use Rattle.std.specs.Prelude.{◌≡◌, ℕ, List}
use Rattle.ubi_volume.specs.Volume.{VolumeState, Each, Leaves}

-- a LEB is as it was, and a cut leaves nothing of it that it might not have left before
pub record IsSameLeb (old new : VolumeState) (lnum : ℕ) : Type 0 where
  pub holds : new.holds lnum ≡ old.holds lnum
  pub written : new.written lnum ≡ old.written lnum
  pub left : (c : List ℕ) → new.left_now lnum c → old.left_now lnum c
  pub mapped : (c : List ℕ) → new.left_mapped lnum c → old.left_mapped lnum c

-- contents in which a cut left of the LEBs that aren't touched what it might have left before
abbrev pub Elsewhere : VolumeState → (ℕ → Type 0) → (ℕ → List ℕ) → Type 0
Elsewhere old Touched c = (k : ℕ) → (Touched k → ⊥) → old.left_now k (c k)

-- Calls that touch some LEBs, whatever they answer: all other LEBs are as they were, and a cut on the way or afterwards leaves
-- contents with Left.
pub record Works (old new : VolumeState) (Touched : ℕ → Type 0) (Left : (ℕ → List ℕ) → Type 0) : Type 0 where
  pub others : (k : ℕ) → (Touched k → ⊥) → IsSameLeb old new k
  pub left : (c : ℕ → List ℕ) → Each new.left_now c → Left c
  pub time : Leaves old new Left
  pub spent : old.spent → new.spent
  pub unbroken : new.unbroken → old.unbroken
