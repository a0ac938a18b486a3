use Rattle.std.proofs.Common.{◌≡◌, ◌<◌, ◌≤◌, ◌==◌, ◌⊎◌, ◌||◌, ℕ, suc, Bool, true, false, List, [], ◌∷◌, length, arith, refl, sym, ◌∙◌, eq-eqb, eqb-true, inl, inr, suc-le-suc, zero-le}
use Rattle.std.specs.Prelude.{is_ok, slice_index_or}
use Rattle.std.specs.declared.result.Result.{Result}
use Rattle.std.specs.declared.result.Result.TheVariants.{Ok, Err}
use Rattle.std.specs.Result.{MatchResult}
use Rattle.std.proofs.lemmas.List.Folds.{list_any_at}
use Rattle.std.proofs.lemmas.List.Sorted.{searched}
use Rattle.std.proofs.lemmas.Bool.{cases_lt}
use Rattle.tree_check.specs.Reach.{mem}
use Rattle.tree_check.proofs.reach.is_among.Goals as goal

among : (xs : List ℕ) (q : ℕ) (r : Result ℕ ℕ)
    → MatchResult r (λ i. (i < length xs) × (slice_index_or xs i 0 ≡ q)) (λ i. (i ≤ length xs) × ((k : ℕ) → k < i → slice_index_or xs k 0 < q) × ((k : ℕ) → i ≤ k → k < length xs → q < slice_index_or xs k 0))
    → is_ok r ≡ mem q xs
among xs q (Ok i) h = sym (list_any_at (λ n. n == q) xs i 0 h.0 (eq-eqb (slice_index_or xs i 0) q h.1))
among xs q (Err i) h = sym (none_at xs (λ k l. by k (cases_lt k i) l))
  where
    none_at : (ys : List ℕ) → ((k : ℕ) → k < length ys → (slice_index_or ys k 0 ≡ q) → ⊥) → mem q ys ≡ false
    none_at [] g = refl
    none_at (y ∷ ys) g = other (y == q) refl (none_at ys (λ k l. g (suc k) (suc-le-suc l)))
      where
        other : (b : Bool) → (y == q) ≡ b → mem q ys ≡ false → (b || mem q ys) ≡ false
        other false e more = more
        other true e more = absurd (g 0 (suc-le-suc zero-le) (eqb-true y q e))

    by : (k : ℕ) → (k < i) ⊎ (i ≤ k) → k < length xs → (slice_index_or xs k 0 ≡ q) → ⊥
    by k (inl below) l e = let low = h.1 k below in omega (arith, low, e)
    by k (inr above) l e = let high = h.2 k above l in omega (arith, high, e)

pub returns : goal.returns
returns c = c.is_ok.ensures.value ∙ among c.args.numbers.now c.args.number c.binary_search.result (searched c.args.numbers.now c.args.number c.binary_search.result c.binary_search.ensures.position (λ i j a b. c.requires i j 0 a b))
