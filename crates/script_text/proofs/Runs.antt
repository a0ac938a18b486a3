-- Runs of equal bytes, one byte more at a time.
use Rattle.std.proofs.Common.{◌≡◌, ℕ, ◌+◌, ◌<◌, Bool, true, false, eqb, cond, List, [], ◌∷◌, ◌++◌, length, get_or, drop, arith, sym, refl, ap, ◌∙◌, append_assoc}
use Rattle.std.proofs.lemmas.Bool.Decides.{Decides-eqb}
use Rattle.std.proofs.lemmas.List.{drop_more}
use Rattle.script_text.specs.Reply.{with_run, runs_of, run_text, runs_text}

same_byte : (b : ℕ) → eqb b b ≡ true
same_byte b = (Decides-eqb b b).1 refl

-- one more of the same byte
pub with_run_same : (n b : ℕ) (runs : List (ℕ × ℕ)) → with_run n b (with_run 1 b runs) ≡ with_run (n + 1) b runs
with_run_same n b [] = rw (same_byte b) refl
with_run_same n b (run ∷ runs) = elim (eqb b run.1) as (λ t. with_run n b (cond t ((1 + run.0, b) ∷ runs) ((1, b) ∷ run ∷ runs)) ≡ cond t ((n + 1 + run.0, b) ∷ runs) ((n + 1, b) ∷ run ∷ runs)) [
  | true ↦ rw (same_byte b) (let e : n + (1 + run.0) ≡ n + 1 + run.0 = omega arith in cc)
  | false ↦ rw (same_byte b) refl
]

-- another byte begins a run
pub with_run_other : (n b x : ℕ) (runs : List (ℕ × ℕ)) → eqb b x ≡ false → with_run n b (with_run 1 x runs) ≡ (n, b) ∷ with_run 1 x runs
with_run_other n b x [] e = rw e refl
with_run_other n b x (run ∷ runs) e = elim (eqb x run.1) as (λ t. with_run n b (cond t ((1 + run.0, x) ∷ runs) ((1, x) ∷ run ∷ runs)) ≡ (n, b) ∷ cond t ((1 + run.0, x) ∷ runs) ((1, x) ∷ run ∷ runs)) [
  | true ↦ rw e refl
  | false ↦ rw e refl
]

-- a comma stands between two runs
pub runs_text_more : (first : ℕ × ℕ) (n b : ℕ) (runs : List (ℕ × ℕ)) → runs_text (first ∷ with_run n b runs) ≡ run_text first ++ (44 ∷ runs_text (with_run n b runs))
runs_text_more first n b [] = refl
runs_text_more first n b (run ∷ runs) = elim (eqb b run.1) as (λ t. runs_text (first ∷ cond t ((n + run.0, b) ∷ runs) ((n, b) ∷ run ∷ runs)) ≡ run_text first ++ (44 ∷ runs_text (cond t ((n + run.0, b) ∷ runs) ((n, b) ∷ run ∷ runs)))) [
  | true ↦ refl
  | false ↦ refl
]

is_false : (t : Bool) → (t ≡ true → ⊥) → t ≡ false
is_false true h = absurd (h refl)
is_false false h = refl

-- the next byte is the same
pub step_same : (line total xs : List ℕ) (i n b : ℕ) → i < length xs → get_or xs i 0 ≡ b
    → line ++ runs_text (with_run n b (runs_of (drop i xs))) ≡ total → line ++ runs_text (with_run (n + 1) b (runs_of (drop (i + 1) xs))) ≡ total
step_same line total xs i n b fits same e =
    let bytes : drop i xs ≡ b ∷ drop (i + 1) xs = drop_more xs i 0 fits ∙ ap (λ (x : ℕ). x ∷ drop (i + 1) xs) same in
    ap (λ (r : List (ℕ × ℕ)). line ++ runs_text r) (sym (with_run_same n b (runs_of (drop (i + 1) xs))) ∙ ap (λ (l : List ℕ). with_run n b (runs_of l)) (sym bytes)) ∙ e

-- the next byte is another
pub step_other : (line after total xs : List ℕ) (i n b x : ℕ) → i < length xs → get_or xs i 0 ≡ x → (x ≡ b → ⊥)
    → line ++ runs_text (with_run n b (runs_of (drop i xs))) ≡ total → after ≡ line ++ run_text (n, b) ++ (44 ∷ [])
    → after ++ runs_text (with_run 1 x (runs_of (drop (i + 1) xs))) ≡ total
step_other line after total xs i n b x fits is other e d =
    let bytes : drop i xs ≡ x ∷ drop (i + 1) xs = drop_more xs i 0 fits ∙ ap (λ (y : ℕ). y ∷ drop (i + 1) xs) is in
    let differ : eqb b x ≡ false = is_false (eqb b x) (λ t. other (sym ((Decides-eqb b x).0 t))) in
    let rest : List (ℕ × ℕ) = runs_of (drop (i + 1) xs) in
    let more : runs_text (with_run n b (runs_of (drop i xs))) ≡ run_text (n, b) ++ (44 ∷ runs_text (with_run 1 x rest)) =
    ap (λ (l : List ℕ). runs_text (with_run n b (runs_of l))) bytes ∙ ap runs_text (with_run_other n b x rest differ) ∙ runs_text_more (n, b) 1 x rest in
    ap (λ (l : List ℕ). l ++ runs_text (with_run 1 x rest)) d
    ∙ append_assoc (line ++ run_text (n, b)) (44 ∷ []) (runs_text (with_run 1 x rest))
    ∙ append_assoc line (run_text (n, b)) (44 ∷ runs_text (with_run 1 x rest))
    ∙ ap (λ (l : List ℕ). line ++ l) (sym more) ∙ e
