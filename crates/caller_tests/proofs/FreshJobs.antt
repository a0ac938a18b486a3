-- The jobs of callers who have made no call.
use Rattle.std.proofs.Common.{◌≡◌, ℕ, zero, suc, List, [], ◌∷◌, ◌++◌, length, map, All, refl, ap, sym, ◌∙◌, subst, arith, append_assoc, length-append}
use Rattle.std.proofs.lemmas.List.{append-nil, length-map}
use Rattle.std.proofs.lemmas.List.Elements.{All-cons, All-head, All-nil, All-push, All-tail}
use Rattle.atomic_table.specs.Seated.{TableId}
use Rattle.fs_laws.specs.Sound.{IsCall}
use Rattle.traced_files.specs.States.{TracedPassState, fresh_pass, fresh_passes}
use Rattle.writeback.specs.declared.job.Job.{Job}
use Rattle.writeback.specs.Runs.{MayRun}

abbrev pub pass_of : Job → TracedPassState
pass_of j = j.pass

abbrev pub HasCalls : Job → Type 0
HasCalls j = All IsCall j.ops.items

abbrev pub IsOf : TableId → TableId → TracedPassState → Type 0
IsOf word pool p = (p.word ≡ word) × (p.pool ≡ pool)

-- one more came
pub one_came : {A : Type 0} (came left rest whole : List A) (x : A) → came ++ left ≡ whole → left ≡ x ∷ rest → (came ++ x ∷ []) ++ rest ≡ whole
one_came {A = A} came left rest whole x is next = append_assoc came (x ∷ []) rest ∙ (ap (λ (l : List A). came ++ l) (sym next) ∙ is)

-- where nothing is left, all that came is the whole
pub all_came : {A : Type 0} (came left whole : List A) → came ++ left ≡ whole → length left ≡ 0 → came ≡ whole
all_came came [] whole is none = sym (append-nil came) ∙ is
all_came came (x ∷ xs) whole is none = absurd (omega arith)

pub all_fresh : (word pool : TableId) (n : ℕ) → All (IsOf word pool) (fresh_passes word pool n)
all_fresh word pool zero = All-nil (IsOf word pool)
all_fresh word pool (suc n) = All-push (IsOf word pool) (fresh_passes word pool n) (fresh_pass word pool (suc n)) (all_fresh word pool n) (refl, refl)

length-fresh_passes : (word pool : TableId) (n : ℕ) → length (fresh_passes word pool n) ≡ n
length-fresh_passes word pool zero = omega arith
length-fresh_passes word pool (suc n) = omega (arith, length-append (fresh_passes word pool n) (fresh_pass word pool (suc n) ∷ []), length-fresh_passes word pool n)

all_may : (word pool : TableId) (jobs : List Job) → All (IsOf word pool) (map pass_of jobs) → All HasCalls jobs → All (λ j. MayRun word pool j) jobs
all_may word pool [] passes calls = All-nil (λ (j : Job). MayRun word pool j)
all_may word pool (j ∷ js) passes calls =
    let first = All-head (IsOf word pool) (pass_of j) (map pass_of js) passes in
    All-cons (λ (j : Job). MayRun word pool j) j js (first.0, first.1, All-head HasCalls j js calls) (all_may word pool js (All-tail (IsOf word pool) (pass_of j) (map pass_of js) passes) (All-tail HasCalls j js calls))

-- the jobs of new passes may run
pub fresh_may : (word pool : TableId) (n : ℕ) (jobs : List Job) (passes : List TracedPassState) → map pass_of jobs ≡ passes → passes ≡ fresh_passes word pool n → All HasCalls jobs → All (λ j. MayRun word pool j) jobs
fresh_may word pool n jobs passes are fresh calls = all_may word pool jobs (subst (All (IsOf word pool)) (sym (are ∙ fresh)) (all_fresh word pool n)) calls

-- there is one for each
pub as_many : (word pool : TableId) (n : ℕ) (jobs : List Job) (passes : List TracedPassState) → map pass_of jobs ≡ passes → passes ≡ fresh_passes word pool n → length jobs ≡ n
as_many word pool n jobs passes are fresh = sym (length-map jobs pass_of) ∙ ap length (are ∙ fresh) ∙ length-fresh_passes word pool n
