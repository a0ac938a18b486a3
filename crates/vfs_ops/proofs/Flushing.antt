-- A sync after puts.
use Rattle.std.proofs.Common.{◌≡◌, ℕ, ◌+◌, ◌*◌, ◌≤◌, Bool, true, false, cond, List, [], ◌∷◌, length, Option, Some, sym, subst, ◌∙◌, arith}
use Rattle.std.specs.Prelude.{◌==◌, filter}
use Rattle.buffered_files.specs.Present.{DirtyPages}
use Rattle.fs_model.specs.Backing.{BackingState, Goes}
use Rattle.buffered_files.specs.CallLaws.{Goes-then, Goes-within}

-- a sync puts no node
pub goes_on : (n : ℕ) (a b c : BackingState) → Goes n a b → Goes 0 b c → Goes n a c
goes_on n a b c put synced = Goes-within (n + 0) n a c (omega arith) (Goes-then n 0 a b c put synced)

few_of : {X : Type 0} (test : X → Bool) (xs : List X) → length (filter test xs) ≤ length xs
few_of test [] = omega arith
few_of test (x ∷ xs) = by (few_of test xs) (test x)
  where
    by : length (filter test xs) ≤ length xs → (b : Bool) → length (cond b (x ∷ filter test xs) (filter test xs)) ≤ length (x ∷ xs)
    by more true = omega (arith, more)
    by more false = omega (arith, more)

-- the pages of one file are no more than all
pub file_within : (dirty : DirtyPages) (ino : ℕ) (a b : BackingState) → Goes (2 * length (filter (λ e. e.0.0 == ino) dirty)) a b → Goes (2 * length dirty) a b
file_within dirty ino a b put = let few = few_of (λ e. e.0.0 == ino) dirty in Goes-within (2 * length (filter (λ e. e.0.0 == ino) dirty)) (2 * length dirty) a b (omega (arith, few)) put

-- a file that is open in a slot is one
pub same_open : (P : ℕ → Type 0) (o : Option ℕ) (a b : ℕ) → o ≡ Some a → o ≡ Some b → P a → P b
same_open P o a b first second there = let both : Some a ≡ Some b = sym first ∙ second in let same : a ≡ b = cc both in subst P same there
