-- Who is out, and how many pages some bytes touch.
use Rattle.std.proofs.Common.{◌≡◌, ℕ, zero, suc, ◌+◌, ◌<◌, ◌≤◌, ◌==◌, Bool, true, false, cond, not, List, [], ◌∷◌, ◌++◌, length, Ok, Err, Contains, refl, ap, subst, sym, ◌∙◌, arith}
use Rattle.std.specs.Prelude.{◌-◌, ◌/◌, ◌%◌, Result, OnErr, OnOk, filter, is_ok}
use Rattle.std.specs.List.{range_with_len}
use Rattle.std.proofs.lemmas.Bool.{eqb-true, false≢true}
use Rattle.std.proofs.lemmas.List.FromFn.{length-range_with_len}
use Rattle.std.proofs.lemmas.List.{append-nil, length-append}
use Rattle.std.proofs.lemmas.List.Elements.{filter-append}
use Rattle.std.proofs.lemmas.Bool.Decides.{nat_tests}
use Rattle.atomic_table.specs.Seated.{TableId}
use Rattle.credit_pool.specs.States.{MasterState, without}
use Rattle.credit_pool.proofs.Counting.{is_gone}
use Rattle.fs_model.specs.Files.{pages_of}

-- how many pages some bytes touch
pub pages_count : (offs len : ℕ) → 0 < len → length (pages_of offs len) ≡ (offs % 4096 + len - 1) / 4096 + 1
pages_count offs len some = by (len == 0) refl
  where
    by : (b : Bool) → (len == 0) ≡ b → length (cond b [] (range_with_len (offs / 4096) (suc ((offs + len - 1) / 4096 - offs / 4096)))) ≡ (offs % 4096 + len - 1) / 4096 + 1
    by true none = let zero = eqb-true len 0 none in absurd (omega (arith, some, zero))
    by false other = let long = length-range_with_len (offs / 4096) (suc ((offs + len - 1) / 4096 - offs / 4096)) in omega (arith, long, some)

filter_few : {A : Type 0} (p : A → Bool) (xs : List A) → length (filter p xs) ≤ length xs
filter_few p [] = omega arith
filter_few p (x ∷ xs) = by (p x) (filter_few p xs)
  where
    by : (b : Bool) → length (filter p xs) ≤ length xs → length (cond b (x ∷ filter p xs) (filter p xs)) ≤ length (x ∷ xs)
    by true le = omega (arith, le)
    by false le = omega (arith, le)

-- if a filter takes nothing out, it is the list
pub filter_all : {A : Type 0} (p : A → Bool) (xs : List A) → length (filter p xs) ≡ length xs → filter p xs ≡ xs
filter_all p [] same = refl
filter_all {A = A} p (x ∷ xs) same = by (p x) (filter_all p xs) same
  where
    by : (b : Bool) → (length (filter p xs) ≡ length xs → filter p xs ≡ xs) → length (cond b (x ∷ filter p xs) (filter p xs)) ≡ length (x ∷ xs) → cond b (x ∷ filter p xs) (filter p xs) ≡ x ∷ xs
    by true rest same = ap (λ (l : List A). x ∷ l) (rest (omega (arith, same)))
    by false rest same = let le = filter_few p xs in absurd (omega (arith, same, le))

-- if no fewer others are out, the caller isn't
pub not_out : (caller : ℕ) (out : List ℕ) → length (without caller out) ≡ length out → ¬ Contains out caller
not_out caller out same = subst (λ (l : List ℕ). ¬ Contains l caller) (filter_all (λ c. not (c == caller)) out same) (is_gone caller out)

-- where a caller isn't out, the others are all
pub all_others : (caller : ℕ) (out : List ℕ) → ¬ Contains out caller → without caller out ≡ out
all_others caller [] away = refl
all_others caller (c ∷ out) away = by (c == caller) refl (all_others caller out (λ p. away (suc p.0, (let lt = p.1 in omega (arith, lt)), p.2)))
  where
    by : (b : Bool) → (c == caller) ≡ b → without caller out ≡ out → cond (not b) (c ∷ without caller out) (without caller out) ≡ c ∷ out
    by true here rest = absurd (away (zero, omega arith, eqb-true c caller here))
    by false other rest = ap (λ (l : List ℕ). c ∷ l) rest

-- after a split the master holds and has issued what it did, and there is room for one more who is out
pub split_leaves : {T E : Type 0} (r : Result T E) (pool : TableId) (caller callers : ℕ) (old new : MasterState) → old.pool ≡ pool → length old.out < callers
    → OnOk r (new ≡ record { pool = pool; issued = old.issued; held = old.held; out = old.out ++ caller ∷ [] }) → OnErr r (new ≡ old) → (new.pool ≡ pool) × (new.held ≡ old.held) × (new.issued ≡ old.issued) × (length new.out ≤ callers)
split_leaves (Ok x) pool caller callers old new of few ok err =
    let long = ap (λ (m : MasterState). length m.out) ok in
    let more = length-append old.out (caller ∷ []) in
    (ap (λ (m : MasterState). m.pool) ok, ap (λ (m : MasterState). m.held) ok, ap (λ (m : MasterState). m.issued) ok, omega (arith, long, more, few))
split_leaves (Err e) pool caller callers old new of few ok err =
    let long = ap (λ (m : MasterState). length m.out) err in
    (ap (λ (m : MasterState). m.pool) err ∙ of, ap (λ (m : MasterState). m.held) err, ap (λ (m : MasterState). m.issued) err, omega (arith, long, few))

-- the others are those that they were before the caller went out
pub others_again : (caller : ℕ) (out : List ℕ) → ¬ Contains out caller → without caller (out ++ caller ∷ []) ≡ out
others_again caller out away = filter-append (λ c. not (c == caller)) out (caller ∷ []) ∙ ap (λ (l : List ℕ). l ++ without caller (caller ∷ [])) (all_others caller out away) ∙ by (caller == caller) refl
  where
    by : (b : Bool) → (caller == caller) ≡ b → out ++ cond (not b) (caller ∷ []) [] ≡ out
    by true is = append-nil out
    by false is = absurd (grind (arith, nat_tests, is))

-- after a split fewer others are out than there are callers, and without a seat the caller isn't
pub may_come_again : {T E : Type 0} (r : Result T E) (pool : TableId) (caller callers : ℕ) (old new : MasterState) → ¬ Contains old.out caller → length old.out < callers
    → OnOk r (new ≡ record { pool = pool; issued = old.issued; held = old.held; out = old.out ++ caller ∷ [] }) → OnErr r (new ≡ old) → (length (without caller new.out) < callers) × (is_ok r ≡ false → ¬ Contains new.out caller)
may_come_again (Ok x) pool caller callers old new away few ok err = (
  subst (λ (l : List ℕ). length l < callers) (sym (ap (λ (m : MasterState). without caller m.out) ok ∙ others_again caller old.out away)) few,
  λ no. absurd (false≢true (sym no)),
)
may_come_again (Err e) pool caller callers old new away few ok err = (
  subst (λ (l : List ℕ). length l < callers) (sym (ap (λ (m : MasterState). without caller m.out) err ∙ all_others caller old.out away)) few,
  λ no. subst (λ (m : MasterState). ¬ Contains m.out caller) (sym err) away,
)
