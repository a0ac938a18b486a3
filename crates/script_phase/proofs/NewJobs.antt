-- The jobs of callers who have made no call.
use Rattle.std.proofs.Common.{◌≡◌, ℕ, zero, suc, ◌+◌, ◌<◌, Bool, true, false, cond, List, [], ◌∷◌, ◌++◌, length, map, get_or, All, refl, ap, sym, ◌∙◌, subst, arith, append_assoc, length-append}
use Rattle.std.specs.Prelude.{◌==◌}
use Rattle.std.proofs.lemmas.List.{append-nil, length-map}
use Rattle.std.proofs.lemmas.List.Elements.{All-cons, All-head, All-nil, All-push, All-tail}
use Rattle.atomic_table.specs.Seated.{TableId}
use Rattle.fs_model.specs.declared.op.Op.{Op}
use Rattle.fs_model.specs.declared.trace.TraceLine.{TraceLine}
use Rattle.fs_laws.specs.Sound.{IsCall}
use Rattle.trace_word.specs.Knowledge.{lines_of}
use Rattle.traced_files.specs.States.{TracedPassState, fresh_pass, fresh_passes}
use Rattle.writeback.specs.declared.job.Job.{Job}
use Rattle.writeback.specs.Runs.{HasLines, MayRun}
use Rattle.script_phase.specs.declared.lines.CallerLine.{CallerLine}
use Rattle.script_phase.specs.Phases.{AreNumberedFrom, ops_by}
use Rattle.script_phase.proofs.Found.{IsServedJob, pass_of}

-- one more came
pub one_came : {A : Type 0} (came left rest whole : List A) (x : A) → came ++ left ≡ whole → left ≡ x ∷ rest → (came ++ x ∷ []) ++ rest ≡ whole
one_came {A = A} came left rest whole x is next = append_assoc came (x ∷ []) rest ∙ (ap (λ (l : List A). came ++ l) (sym next) ∙ is)

-- where nothing is left, all that came is the whole
pub all_came : {A : Type 0} (came left whole : List A) → came ++ left ≡ whole → length left ≡ 0 → came ≡ whole
all_came came [] whole is none = sym (append-nil came) ∙ is
all_came came (x ∷ xs) whole is none = absurd (omega arith)

-- a new pass of this word and this pool
pub record IsNewPass (word pool : TableId) (p : TracedPassState) : Type 0 where
  pub word_is : p.word ≡ word
  pub pool_is : p.pool ≡ pool
  pub seen : p.seen ≡ []

pub all_fresh : (word pool : TableId) (n : ℕ) → All (IsNewPass word pool) (fresh_passes word pool n)
all_fresh word pool zero = All-nil (IsNewPass word pool)
all_fresh word pool (suc n) = All-push (IsNewPass word pool) (fresh_passes word pool n) (fresh_pass word pool (suc n)) (all_fresh word pool n) (record { word_is = refl; pool_is = refl; seen = refl })

pub length-fresh_passes : (word pool : TableId) (n : ℕ) → length (fresh_passes word pool n) ≡ n
length-fresh_passes word pool zero = omega arith
length-fresh_passes word pool (suc n) = omega (arith, length-append (fresh_passes word pool n) (fresh_pass word pool (suc n) ∷ []), length-fresh_passes word pool n)

numbered_push : (caller : ℕ) (xs : List TracedPassState) (p : TracedPassState) → AreNumberedFrom caller xs → p.caller ≡ caller + length xs + 1 → AreNumberedFrom caller (xs ++ p ∷ [])
numbered_push caller [] p all is = (omega (arith, is), tt)
numbered_push caller (x ∷ xs) p all is = (all.0, numbered_push (caller + 1) xs p all.1 (omega (arith, is)))

-- new passes are those of the callers from 1 on
pub fresh_numbered : (word pool : TableId) (n : ℕ) → AreNumberedFrom 0 (fresh_passes word pool n)
fresh_numbered word pool zero = tt
fresh_numbered word pool (suc n) = numbered_push 0 (fresh_passes word pool n) (fresh_pass word pool (suc n)) (fresh_numbered word pool n) (omega (arith, length-fresh_passes word pool n))

-- its caller's operations, at this time
abbrev pub IsJobOf : ℕ → List CallerLine → Job → Type 0
IsJobOf now lines j = (j.now ≡ now) × (j.ops.items ≡ ops_by j.pass.caller lines)

abbrev pub GivesBytes : CallerLine → Type 0
GivesBytes line = (0 < line.caller) × IsCall line.op

keep : (b : Bool) (op : Op) (ops : List Op) → IsCall op → All IsCall ops → All IsCall (cond b (op ∷ ops) ops)
keep true op ops one all = All-cons IsCall op ops one all
keep false op ops one all = all

map_cond : (b : Bool) (x : CallerLine) (xs : List CallerLine) → map (λ (line : CallerLine). line.op) (cond b (x ∷ xs) xs) ≡ cond b (x.op ∷ map (λ (line : CallerLine). line.op) xs) (map (λ (line : CallerLine). line.op) xs)
map_cond true x xs = refl
map_cond false x xs = refl

-- a caller's operations are calls, as all lines are
calls_by : (caller : ℕ) (lines : List CallerLine) → All GivesBytes lines → All IsCall (ops_by caller lines)
calls_by caller [] all = All-nil IsCall
calls_by caller (x ∷ xs) all =
    subst (All IsCall) (sym (map_cond (x.caller == caller) x _)) (keep (x.caller == caller) x.op (ops_by caller xs) (All-head GivesBytes x xs all).1 (calls_by caller xs (All-tail GivesBytes x xs all)))

all_may : (word pool : TableId) (now : ℕ) (lines : List CallerLine) (jobs : List Job) → All GivesBytes lines → All (IsNewPass word pool) (map pass_of jobs) → All (IsJobOf now lines) jobs → All (λ j. MayRun word pool j) jobs
all_may word pool now lines [] calls passes all = All-nil (λ (j : Job). MayRun word pool j)
all_may word pool now lines (j ∷ js) calls passes all =
    let first = All-head (IsNewPass word pool) (pass_of j) (map pass_of js) passes in
    let ops = (All-head (IsJobOf now lines) j js all).1 in
    All-cons (λ (j : Job). MayRun word pool j) j js (first.word_is, first.pool_is, subst (All IsCall) (sym ops) (calls_by j.pass.caller lines calls))
    (all_may word pool now lines js calls (All-tail (IsNewPass word pool) (pass_of j) (map pass_of js) passes) (All-tail (IsJobOf now lines) j js all))

-- the jobs of new passes may run
pub fresh_may : (word pool : TableId) (n now : ℕ) (lines : List CallerLine) (jobs : List Job) (passes : List TracedPassState) → map pass_of jobs ≡ passes → passes ≡ fresh_passes word pool n → All GivesBytes lines → All (IsJobOf now lines) jobs
    → All (λ j. MayRun word pool j) jobs
fresh_may word pool n now lines jobs passes are fresh calls all = all_may word pool now lines jobs calls (subst (All (IsNewPass word pool)) (sym (are ∙ fresh)) (all_fresh word pool n)) all

-- there is one for each
pub as_many : (word pool : TableId) (n : ℕ) (jobs : List Job) (passes : List TracedPassState) → map pass_of jobs ≡ passes → passes ≡ fresh_passes word pool n → length jobs ≡ n
as_many word pool n jobs passes are fresh = sym (length-map jobs pass_of) ∙ ap length (are ∙ fresh) ∙ length-fresh_passes word pool n

abbrev pub count_of : Job → ℕ
count_of j = length j.ops.items

-- Each job was served, if each caller has as many lines as its job has operations.
pub all_whole : (word pool : TableId) (trace : List TraceLine) (now : ℕ) (lines : List CallerLine) (first : ℕ) (jobs : List Job) → AreNumberedFrom first (map pass_of jobs) → All (IsNewPass word pool) (map pass_of jobs)
    → All (HasLines trace) jobs → All (IsJobOf now lines) jobs → ((k : ℕ) → k < length (map count_of jobs) → lines_of (first + k + 1) trace ≡ get_or (map count_of jobs) k 0) → All (IsServedJob trace now lines) jobs
all_whole word pool trace now lines first [] numbered passes has all many = All-nil (IsServedJob trace now lines)
all_whole word pool trace now lines first (j ∷ js) numbered passes has all many =
    let one = All-head (IsJobOf now lines) j js all in
    let new = All-head (IsNewPass word pool) (pass_of j) (map pass_of js) passes in
    let number : j.pass.caller ≡ first + 0 + 1 = numbered.0 ∙ omega arith in
    All-cons (IsServedJob trace now lines) j js
    (record {
      has = All-head (HasLines trace) j js has;
      seen = new.seen;
      at = one.0;
      ops = one.1;
      many = ap (λ (c : ℕ). lines_of c trace) number ∙ many 0 (omega arith);
    })
    (all_whole word pool trace now lines (first + 1) js numbered.1 (All-tail (IsNewPass word pool) (pass_of j) (map pass_of js) passes) (All-tail (HasLines trace) j js has) (All-tail (IsJobOf now lines) j js all)
    (λ k less. ap (λ (c : ℕ). lines_of c trace) (omega arith) ∙ many (suc k) (omega (arith, less))))
