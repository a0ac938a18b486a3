-- The lines of jobs in a trace that was closed.
use Rattle.std.proofs.Common.{◌≡◌, ℕ, Bool, cond, List, [], ◌∷◌, ◌++◌, All, ap, sym, ◌∙◌, subst, arith}
use Rattle.std.specs.Prelude.{◌==◌, filter}
use Rattle.std.proofs.lemmas.List.{append-nil, nil_from_length}
use Rattle.std.proofs.lemmas.List.Elements.{All-cons, All-head, All-nil, All-tail, filter-append}
use Rattle.std.proofs.lemmas.List.Sums.{sum_by-append, length-filter}
use mathlib.Core.List.{IsPrefix}
use Rattle.atomic_table.specs.Seated.{TableId}
use Rattle.fs_model.specs.declared.trace.TraceLine.{TraceLine}
use Rattle.trace_word.specs.Knowledge.{lines_of}
use Rattle.traced_files.specs.Calls.{StandsInTrace}
use Rattle.traced_files.specs.States.{TracedPassState}
use Rattle.writeback.specs.declared.job.Job.{Job}
use Rattle.writeback.specs.Runs.{HasLines, HasRun, HaveRun, MayRun, lines_by}

-- a longer trace that has no line more of a caller has its lines
same_lines : (caller : ℕ) (seen trace : List TraceLine) → IsPrefix seen trace → lines_of caller trace ≡ lines_of caller seen → lines_by caller trace ≡ lines_by caller seen
same_lines caller seen trace begins same =
    let p : TraceLine → Bool = λ line. line.caller == caller in
    let sums = sum_by-append (λ (line : TraceLine). cond (p line) 1 0) seen begins.0 in
    let whole = ap (lines_of caller) begins.1 in
    let none : filter p begins.0 ≡ [] = nil_from_length (filter p begins.0) (length-filter p begins.0 ∙ omega arith) in
    ap (lines_by caller) (sym begins.1) ∙ (filter-append p seen begins.0 ∙ (ap (λ (l : List TraceLine). lines_by caller seen ++ l) none ∙ append-nil (lines_by caller seen)))

one_closed : (trace : List TraceLine) (job : Job) (pass : TracedPassState) → HasRun job.pass job.now job.ops.items pass → StandsInTrace trace pass → HasLines trace job
one_closed trace job pass run stands =
    let same = same_lines pass.caller pass.seen trace stands.0 (stands.1 ∙ sym run.counted) in (
      run.calls,
      run.are,
      subst (λ (c : ℕ). lines_by c trace ≡ lines_by c pass.seen) run.caller same ∙ run.lines,
    )

-- a trace in which the passes of jobs stand has the lines of the jobs
pub all_closed : (trace : List TraceLine) (jobs : List Job) (passes : List TracedPassState) → HaveRun jobs passes → All (λ p. StandsInTrace trace p) passes → All (λ j. HasLines trace j) jobs
all_closed trace [] passes run stand = All-nil (λ (j : Job). HasLines trace j)
all_closed trace (j ∷ js) passes run stand =
    let all : All (λ p. StandsInTrace trace p) (run.0 ∷ run.1) = subst (All (λ (p : TracedPassState). StandsInTrace trace p)) run.2 stand in
    All-cons (λ (j : Job). HasLines trace j) j js (one_closed trace j run.0 run.3 (All-head (λ (p : TracedPassState). StandsInTrace trace p) run.0 run.1 all)) (all_closed trace js run.1 run.4 (All-tail (λ (p : TracedPassState). StandsInTrace trace p) run.0 run.1 all))

-- the passes are of the word that the jobs' were of
pub all_of_word : (word pool : TableId) (jobs : List Job) (passes : List TracedPassState) → All (λ j. MayRun word pool j) jobs → HaveRun jobs passes → All (λ p. p.word ≡ word) passes
all_of_word word pool [] passes may none = subst (All (λ (p : TracedPassState). p.word ≡ word)) (sym none) (All-nil (λ (p : TracedPassState). p.word ≡ word))
all_of_word word pool (j ∷ js) passes may run =
    let first = (All-head (λ (j : Job). MayRun word pool j) j js may).0 in
    let rest = all_of_word word pool js run.1 (All-tail (λ (j : Job). MayRun word pool j) j js may) run.4 in
    subst (All (λ (p : TracedPassState). p.word ≡ word)) (sym run.2) (All-cons (λ (p : TracedPassState). p.word ≡ word) run.0 run.1 (run.3.word ∙ first) rest)
