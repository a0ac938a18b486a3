-- An inode that is open in a slot is open in another where more than one slot has it open.
use Rattle.std.proofs.Common.{◌≡◌, ℕ, zero, suc, ◌||◌, Bool, true, false, cond, [], ◌∷◌, length, Some, refl, sym, ap, ◌∙◌, arith}
use Rattle.std.specs.Prelude.{◌==◌, nat_lt, filter}
use Rattle.std.specs.List.{list_any}
use Rattle.std.specs.Map.{lookup, remove_entry}
use Rattle.std.specs.BTreeMap.{is_at}
use Rattle.std.proofs.lemmas.Bool.{eq-eqb}
use Rattle.std.proofs.lemmas.Bool.Decides.{nat_tests}
use Rattle.fs_model.specs.Files.{Handles, pair_cmp}

some_counted : (n : ℕ) → nat_lt 0 (suc n) ≡ true
some_counted n = grind (arith, nat_tests)

two_counted : (n : ℕ) → nat_lt 1 (suc n) ≡ nat_lt 0 n
two_counted zero = refl
two_counted (suc n) = let a : nat_lt 1 (suc (suc n)) ≡ true = grind (arith, nat_tests) in let b : nat_lt 0 (suc n) ≡ true = grind (arith, nat_tests) in a ∙ sym b

-- what passes is some where one is counted
any_counted : (ino : ℕ) (es : Handles) → nat_lt 0 (length (filter (λ handle. handle.1 == ino) es)) ≡ list_any (λ handle. handle.1 == ino) es
any_counted ino [] = refl
any_counted ino (e ∷ es) = by (any_counted ino es) (e.1 == ino)
  where
    by : nat_lt 0 (length (filter (λ handle. handle.1 == ino) es)) ≡ list_any (λ handle. handle.1 == ino) es → (b : Bool)
        → nat_lt 0 (length (cond b (e ∷ filter (λ handle. handle.1 == ino) es) (filter (λ handle. handle.1 == ino) es))) ≡ b || list_any (λ handle. handle.1 == ino) es
    by more true = some_counted (length (filter (λ handle. handle.1 == ino) es))
    by more false = more

-- what is found and goes was counted once
counted_once : (k : ℕ × ℕ) (ino : ℕ) (es : Handles) → lookup (is_at (pair_cmp k)) es ≡ Some ino
    → length (filter (λ handle. handle.1 == ino) es) ≡ suc (length (filter (λ handle. handle.1 == ino) (remove_entry (is_at (pair_cmp k)) es)))
counted_once k ino [] found = absurd cc
counted_once k ino (e ∷ es) found = by (counted_once k ino es) (is_at (pair_cmp k) e.0) (e.1 == ino) refl found
  where
    open_in : Handles → ℕ
    open_in handles = length (filter (λ handle. handle.1 == ino) handles)

    by : (lookup (is_at (pair_cmp k)) es ≡ Some ino → open_in es ≡ suc (open_in (remove_entry (is_at (pair_cmp k)) es))) → (b t : Bool) → (e.1 == ino) ≡ t → cond b (Some e.1) (lookup (is_at (pair_cmp k)) es) ≡ Some ino
        → length (cond t (e ∷ filter (λ handle. handle.1 == ino) es) (filter (λ handle. handle.1 == ino) es)) ≡ suc (open_in (cond b es (e ∷ remove_entry (is_at (pair_cmp k)) es)))
    by more true true is f = refl
    by more true false is f = let same : e.1 ≡ ino = cc f in let yes = eq-eqb e.1 ino same in absurd cc
    by more false true is f = rw is (ap (λ n. suc n) (more f))
    by more false false is f = rw is (more f)

pub beside : (k : ℕ × ℕ) (ino : ℕ) (es : Handles) → lookup (is_at (pair_cmp k)) es ≡ Some ino → nat_lt 1 (length (filter (λ handle. handle.1 == ino) es)) ≡ list_any (λ handle. handle.1 == ino) (remove_entry (is_at (pair_cmp k)) es)
beside k ino es found = ap (λ n. nat_lt 1 n) (counted_once k ino es found) ∙ two_counted (length (filter (λ handle. handle.1 == ino) (remove_entry (is_at (pair_cmp k)) es))) ∙ any_counted ino (remove_entry (is_at (pair_cmp k)) es)
