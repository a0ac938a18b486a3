-- What the program finds of a trace: each caller's lines are those of its operations.
use Rattle.std.proofs.Common.{◌≡◌, ◌≢◌, ◌⊎◌, inl, inr, ℕ, zero, suc, ◌+◌, ◌<◌, ◌≤◌, Bool, true, false, cond, List, [], ◌∷◌, ◌++◌, length, map, All, refl, sym, ap, subst, ◌∙◌, arith}
use Rattle.std.specs.Prelude.{◌==◌, filter}
use Rattle.std.proofs.lemmas.Bool.{false≢true}
use Rattle.std.proofs.lemmas.Bool.Decides.{nat_tests}
use Rattle.std.proofs.lemmas.List.Elements.{All-cons, All-head, All-nil, All-tail}
use Rattle.std.proofs.lemmas.List.Sums.{length-filter}
use Rattle.fs_model.specs.declared.trace.TraceLine.{TraceLine}
use Rattle.trace_word.specs.Knowledge.{lines_of}
use Rattle.traced_files.specs.States.{TracedPassState}
use Rattle.writeback.specs.declared.job.Job.{Job}
use Rattle.writeback.specs.Runs.{HasLines, lines_by}
use Rattle.script_phase.specs.declared.lines.CallerLine.{CallerLine}
use Rattle.script_phase.specs.Phases.{AreNumberedFrom, is_memory, last_caller, ops_by, traced_by}
use Rattle.script_phase.proofs.Called.{IsAt, all_called, op_in}
use Rattle.script_phase.proofs.TraceLines.{IsToldOf}

abbrev pub pass_of : Job → TracedPassState
pass_of j = j.pass

-- What is known of a job: it is a new pass's, has its caller's operations at this time, and the trace has as many lines of its caller.
pub record IsServedJob (trace : List TraceLine) (now : ℕ) (lines : List CallerLine) (j : Job) : Type 0 where
  pub has : HasLines trace j
  pub seen : j.pass.seen ≡ []
  pub at : j.now ≡ now
  pub ops : j.ops.items ≡ ops_by j.pass.caller lines
  pub many : lines_of j.pass.caller trace ≡ length j.ops.items

-- what is known of a caller's lines
abbrev pub IsServedCaller : List TraceLine → ℕ → List CallerLine → ℕ → Type 0
IsServedCaller trace now lines caller = (traced_by caller trace ≡ ops_by caller lines) × All (IsAt now) (lines_by caller trace)

one_served : (trace : List TraceLine) (now : ℕ) (lines : List CallerLine) (j : Job) → IsServedJob trace now lines j → IsServedCaller trace now lines j.pass.caller
one_served trace now lines j s =
    let calls = s.has.0 in
    let are : lines_by j.pass.caller trace ≡ calls = s.has.2 ∙ ap (λ (seen : List TraceLine). lines_by j.pass.caller seen ++ calls) s.seen in
    let counted = length-filter (λ (line : TraceLine). line.caller == j.pass.caller) trace in
    let all = all_called j.pass.caller j.now j.pass.made j.ops.items calls s.has.1 (sym (ap length are) ∙ (counted ∙ s.many)) in (
      ap (map op_in) are ∙ (all.0 ∙ s.ops),
      subst (λ (n : ℕ). All (IsAt n) (lines_by j.pass.caller trace)) s.at (subst (All (IsAt j.now)) (sym are) all.1),
    )

-- the job at a place is that of the caller of the next number
served_at : (trace : List TraceLine) (now : ℕ) (lines : List CallerLine) (first k : ℕ) (jobs : List Job) → AreNumberedFrom first (map pass_of jobs) → All (IsServedJob trace now lines) jobs → k < length jobs → IsServedCaller trace now lines (first + k + 1)
served_at trace now lines first k [] numbered all less = absurd (omega (arith, less))
served_at trace now lines first zero (j ∷ js) numbered all less =
    subst (IsServedCaller trace now lines) (numbered.0 ∙ omega arith) (one_served trace now lines j (All-head (IsServedJob trace now lines) j js all))
served_at trace now lines first (suc k) (j ∷ js) numbered all less =
    subst (IsServedCaller trace now lines) (omega arith) (served_at trace now lines (first + 1) k js numbered.1 (All-tail (IsServedJob trace now lines) j js all) (omega (arith, less)))

-- Every caller's lines are known, if all lines are of callers who have a job.
pub record AreOfCallers (trace : List TraceLine) (lines : List CallerLine) (callers : ℕ) : Type 0 where
  pub traced : (caller : ℕ) → (caller ≡ 0) ⊎ (callers < caller) → lines_by caller trace ≡ []
  pub given : (caller : ℕ) → (caller ≡ 0) ⊎ (callers < caller) → ops_by caller lines ≡ []

none_served : (trace : List TraceLine) (now : ℕ) (lines : List CallerLine) (callers caller : ℕ) → AreOfCallers trace lines callers → (caller ≡ 0) ⊎ (callers < caller) → IsServedCaller trace now lines caller
none_served trace now lines callers caller of out = (
  ap (map op_in) (of.traced caller out) ∙ sym (of.given caller out),
  subst (All (IsAt now)) (sym (of.traced caller out)) (All-nil (IsAt now)),
)

pub all_served : (trace : List TraceLine) (now : ℕ) (lines : List CallerLine) (jobs : List Job) → AreNumberedFrom 0 (map pass_of jobs) → All (IsServedJob trace now lines) jobs → AreOfCallers trace lines (length jobs) → (caller : ℕ) → IsServedCaller trace now lines caller
all_served trace now lines jobs numbered all of zero = none_served trace now lines (length jobs) 0 of (inl refl)
all_served trace now lines jobs numbered all of (suc k) = by (decide k (length jobs))
  where
    decide : (a b : ℕ) → (a < b) ⊎ (b < suc a)
    decide a zero = inr (omega arith)
    decide zero (suc b) = inl (omega arith)
    decide (suc a) (suc b) = next (decide a b)
      where
        next : (a < b) ⊎ (b < suc a) → (suc a < suc b) ⊎ (suc b < suc (suc a))
        next (inl less) = inl (omega (arith, less))
        next (inr more) = inr (omega (arith, more))

    by : (k < length jobs) ⊎ (length jobs < suc k) → IsServedCaller trace now lines (suc k)
    by (inl less) = subst (IsServedCaller trace now lines) (omega arith) (served_at trace now lines 0 k jobs numbered all less)
    by (inr more) = none_served trace now lines (length jobs) (suc k) of (inr more)

-- the first passes where the test is so, and the rest passes anyway
kept : {X : Type 0} (P : X → Type 0) (b : Bool) (x : X) (xs : List X) → All P (cond b (x ∷ xs) xs) → (b ≡ true → P x) × All P xs
kept P true x xs all = (λ is. All-head P x xs all, All-tail P x xs all)
kept P false x xs all = (λ is. absurd (false≢true is), all)

equal_is : (n : ℕ) → (n == n) ≡ true
equal_is n = grind (arith, nat_tests)

other_is : (n m : ℕ) → n ≢ m → (n == m) ≡ false
other_is n m differ = grind (arith, nat_tests, differ)

-- what holds of each caller's lines holds of all
pub all_own : (P : TraceLine → Type 0) (trace : List TraceLine) → ((caller : ℕ) → All P (lines_by caller trace)) → All P trace
all_own P [] own = All-nil P
all_own P (x ∷ xs) own =
    All-cons P x xs ((kept P (x.caller == x.caller) x (lines_by x.caller xs) (own x.caller)).0 (equal_is x.caller)) (all_own P xs (λ caller. (kept P (x.caller == caller) x (lines_by caller xs) (own caller)).1))

gone : {X : Type 0} (b : Bool) (x : X) (xs : List X) → b ≡ false → xs ≡ [] → cond b (x ∷ xs) xs ≡ []
gone true x xs is none = absurd (false≢true (sym is))
gone false x xs is none = none

abbrev pub IsFrom : ℕ → ℕ → Type 0
IsFrom callers caller = (0 < caller) × (caller ≤ callers)

out_of : (callers caller other : ℕ) → IsFrom callers caller → (other ≡ 0) ⊎ (callers < other) → caller ≢ other
out_of callers caller other from (inl zero_is) same = let low = from.0 in omega (arith, low, zero_is, same)
out_of callers caller other from (inr above) same = let high = from.1 in omega (arith, high, above, same)

-- nobody else has a line
pub none_traced : (trace : List TraceLine) (callers other : ℕ) → All (λ (line : TraceLine). IsFrom callers line.caller) trace → (other ≡ 0) ⊎ (callers < other) → lines_by other trace ≡ []
none_traced [] callers other all out = refl
none_traced (x ∷ xs) callers other all out =
    let P : TraceLine → Type 0 = λ line. IsFrom callers line.caller in
    gone (x.caller == other) x (lines_by other xs) (other_is x.caller other (out_of callers x.caller other (All-head P x xs all) out)) (none_traced xs callers other (All-tail P x xs all) out)

abbrev by_caller : ℕ → List CallerLine → List CallerLine
by_caller caller lines = filter (λ (line : CallerLine). line.caller == caller) lines

none_lines : (lines : List CallerLine) (callers other : ℕ) → All (λ (line : CallerLine). IsFrom callers line.caller) lines → (other ≡ 0) ⊎ (callers < other) → by_caller other lines ≡ []
none_lines [] callers other all out = refl
none_lines (x ∷ xs) callers other all out =
    let P : CallerLine → Type 0 = λ line. IsFrom callers line.caller in
    gone (x.caller == other) x (by_caller other xs) (other_is x.caller other (out_of callers x.caller other (All-head P x xs all) out)) (none_lines xs callers other (All-tail P x xs all) out)

-- nobody else has an operation
pub none_given : (lines : List CallerLine) (callers other : ℕ) → All (λ (line : CallerLine). IsFrom callers line.caller) lines → (other ≡ 0) ⊎ (callers < other) → ops_by other lines ≡ []
none_given lines callers other all out = ap (map (λ (line : CallerLine). line.op)) (none_lines lines callers other all out)

-- each caller of a phase is from 1 to the greatest
pub from_first : (lines : List CallerLine) (callers : ℕ) → last_caller lines ≤ callers → All (λ (line : CallerLine). 0 < line.caller) lines → All (λ (line : CallerLine). IsFrom callers line.caller) lines
from_first [] callers most all = All-nil (λ (line : CallerLine). IsFrom callers line.caller)
from_first (x ∷ xs) callers most all =
    let P : CallerLine → Type 0 = λ line. 0 < line.caller in
    All-cons (λ (line : CallerLine). IsFrom callers line.caller) x xs (All-head P x xs all, omega (arith, most)) (from_first xs callers (omega (arith, most)) (All-tail P x xs all))

pub weaken : {X : Type 0} (P Q : X → Type 0) → ((x : X) → P x → Q x) → (xs : List X) → All P xs → All Q xs
weaken P Q so [] all = All-nil Q
weaken P Q so (x ∷ xs) all = All-cons Q x xs (so x (All-head P x xs all)) (weaken P Q so xs (All-tail P x xs all))

-- What is found of a trace: each caller's lines are those of its operations, at the phase's time, and none was refused for want of memory.
pub record IsFound (now : ℕ) (lines : List CallerLine) (trace : List TraceLine) : Type 0 where
  pub own : (caller : ℕ) → traced_by caller trace ≡ ops_by caller lines
  pub time : All (λ (line : TraceLine). line.now ≡ now) trace
  pub memory : All (λ (line : TraceLine). is_memory line.reply ≡ false) trace

abbrev pub IsPositive : CallerLine → Type 0
IsPositive line = 0 < line.caller

-- a trace is whole, if each job was served and nobody else has a line
pub found_of : (trace : List TraceLine) (now : ℕ) (lines : List CallerLine) (jobs : List Job) → AreNumberedFrom 0 (map pass_of jobs) → All (IsServedJob trace now lines) jobs → last_caller lines ≡ length jobs
    → All IsPositive lines → All (IsToldOf (length jobs)) trace → IsFound now lines trace
found_of trace now lines jobs numbered all last positive told =
    let callers = length jobs in
    let from = weaken (IsToldOf callers) (λ (line : TraceLine). IsFrom callers line.caller) (λ line is. (is.0, is.1)) trace told in
    let served = all_served trace now lines jobs numbered all
    (record {
      traced = λ other out. none_traced trace callers other from out;
      given = λ other out. none_given lines callers other (from_first lines callers (omega (arith, last)) positive) out;
    }) in
    record {
      own = λ caller. (served caller).0;
      time = all_own (IsAt now) trace (λ caller. (served caller).1);
      memory = weaken (IsToldOf callers) (λ (line : TraceLine). is_memory line.reply ≡ false) (λ line is. is.2) trace told;
    }

-- the greatest number of some callers
pub some_caller : (lines : List CallerLine) → 0 < length lines → All IsPositive lines → 0 < last_caller lines
some_caller [] some all = absurd (omega (arith, some))
some_caller (x ∷ xs) some all = let one = All-head IsPositive x xs all in omega (arith, one)
