-- Lists of tasks.
use Rattle.std.proofs.Common.{◌≡◌, ℕ, zero, suc, ◌+◌, ◌≤◌, List, [], ◌∷◌, ◌++◌, length, map, All, Option, None, option_to_list, refl, ap, sym, ◌∙◌, subst, arith, length-append, append_assoc}
use Rattle.std.proofs.lemmas.List.{append-nil, length-map}
use Rattle.std.proofs.lemmas.List.Elements.{All-append, All-cons, All-nil, All-head, All-tail, All-map}
use Rattle.atomic_table.specs.Seated.{TableId}
use Rattle.traced_files.specs.States.{TracedPassState}
use Rattle.writeback.specs.declared.job.Job.{Job}
use Rattle.writeback.specs.declared.together.Task.{Task}
use Rattle.writeback.specs.Runs.{HaveRun, MayRun}
use Rattle.writeback.specs.Tasks.{task_of, work_of, workers_to, tasks_for, IsTaskReady, AreTasksDone, IsOver, passes_in}

pub length-workers_to : (n : ℕ) → length (workers_to n) ≡ n
length-workers_to zero = omega arith
length-workers_to (suc n) = omega (arith, length-append (workers_to n) (work_of (suc n) ∷ []), length-workers_to n)

pub length-tasks_for : (jobs : List Job) (n : ℕ) → length (tasks_for jobs n) ≡ length jobs + n
length-tasks_for jobs n = omega (arith, length-append (map task_of jobs) (workers_to n), length-map jobs task_of, length-workers_to n)

pub passes_in-append : (xs ys : List Task) → passes_in (xs ++ ys) ≡ passes_in xs ++ passes_in ys
passes_in-append [] ys = refl
passes_in-append (x ∷ xs) ys = ap (λ (ps : List TracedPassState). option_to_list x.pass ++ ps) (passes_in-append xs ys) ∙ sym (append_assoc (option_to_list x.pass) (passes_in xs) (passes_in ys))

abbrev HasNoJob : Task → Type 0
HasNoJob t = (t.job ≡ None) × (t.pass ≡ None)

none_has : (n : ℕ) → All (λ t. HasNoJob t) (workers_to n)
none_has zero = All-nil (λ (t : Task). HasNoJob t)
none_has (suc n) = All-append (λ (t : Task). HasNoJob t) (workers_to n) (work_of (suc n) ∷ []) (none_has n) (All-cons (λ (t : Task). HasNoJob t) (work_of (suc n)) [] (refl, refl) (All-nil (λ (t : Task). HasNoJob t)))

-- each task is ready where each job's pass is of the word
pub all_ready : (word pool : TableId) (jobs : List Job) (n : ℕ) → All (MayRun word pool) jobs → All (λ t. IsTaskReady word pool t) (tasks_for jobs n)
all_ready word pool jobs n all = All-append (λ (t : Task). IsTaskReady word pool t) (map task_of jobs) (workers_to n) (All-map (λ (t : Task). IsTaskReady word pool t) task_of jobs all) (idlers n)
  where
    idlers : (k : ℕ) → All (λ t. IsTaskReady word pool t) (workers_to k)
    idlers zero = All-nil (λ (t : Task). IsTaskReady word pool t)
    idlers (suc k) = All-append (λ (t : Task). IsTaskReady word pool t) (workers_to k) (work_of (suc k) ∷ []) (idlers k) (All-cons (λ (t : Task). IsTaskReady word pool t) (work_of (suc k)) [] tt (All-nil (λ (t : Task). IsTaskReady word pool t)))

done_behind : (o n : Task) (os ns : List Task) → AreTasksDone (o ∷ os) (n ∷ ns) → AreTasksDone os ns
done_behind o n os ns done = λ k d lt. done (suc k) d (omega arith)

-- who had no job has no pass
none_idle : (os ns : List Task) → All (λ t. HasNoJob t) os → length ns ≡ length os → AreTasksDone os ns → passes_in ns ≡ []
none_idle [] [] all len done = refl
none_idle [] (n ∷ ns) all len done = absurd (omega arith)
none_idle (o ∷ os) [] all len done = absurd (omega arith)
none_idle (o ∷ os) (n ∷ ns) all len done =
    let is : HasNoJob o = All-head (λ (t : Task). HasNoJob t) o os all in
    let none : n.pass ≡ None = subst (λ (x : Option Job × Option TracedPassState). IsOver x.0 x.1 n.pass) (λ k. (is.0 k, is.1 k)) (done zero o (omega arith)) in
    let rest = none_idle os ns (All-tail (λ (t : Task). HasNoJob t) o os all) (omega arith) (done_behind o n os ns done) in
    ap (λ (p : Option TracedPassState). option_to_list p ++ passes_in ns) none ∙ rest

-- all jobs have run, and their passes are there in order
pub all_run : (jobs : List Job) (n : ℕ) (news : List Task) → length news ≡ length (tasks_for jobs n) → AreTasksDone (tasks_for jobs n) news → HaveRun jobs (passes_in news)
all_run [] n news len done = none_idle (workers_to n) news (none_has n) len done
all_run (j ∷ js) n [] len done = absurd (omega arith)
all_run (j ∷ js) n (x ∷ xs) len done =
    let first = done zero x (omega arith) in (
      first.0,
      passes_in xs,
      ap (λ (p : Option TracedPassState). option_to_list p ++ passes_in xs) first.1,
      first.2,
      all_run js n xs (omega arith) (done_behind (task_of j) x (tasks_for js n) xs done),
    )

-- as many passes as jobs
pub as_many : (jobs : List Job) (passes : List TracedPassState) → HaveRun jobs passes → length passes ≡ length jobs
as_many [] passes none = ap length none
as_many (j ∷ js) passes h = ap length h.2 ∙ ap suc (as_many js h.1 h.4)

-- there is room for one pass more
pub room_left : (came left rest whole : List Task) (t : Task) → came ++ left ≡ whole → left ≡ t ∷ rest → length (passes_in came) + length (option_to_list t.pass) ≤ length (passes_in whole)
room_left came left rest whole t is next =
    let a : length (passes_in (came ++ left)) ≡ length (passes_in whole) = ap (λ (ts : List Task). length (passes_in ts)) is in
    let b = ap length (passes_in-append came left) in
    let c = length-append (passes_in came) (passes_in left) in
    let d : length (passes_in left) ≡ length (option_to_list t.pass ++ passes_in rest) = ap (λ (ts : List Task). length (passes_in ts)) next in
    let e = length-append (option_to_list t.pass) (passes_in rest) in
    omega arith

pub one_pass : (came : List Task) (t : Task) → passes_in came ++ option_to_list t.pass ≡ passes_in (came ++ t ∷ [])
one_pass came t = sym (passes_in-append came (t ∷ []) ∙ ap (λ (ps : List TracedPassState). passes_in came ++ ps) (append-nil (option_to_list t.pass)))
