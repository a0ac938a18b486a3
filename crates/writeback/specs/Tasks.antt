-- The tasks of a phase.
use Rattle.std.specs.Prelude.{◌≡◌, ℕ, zero, suc, ◌<◌, List, [], ◌∷◌, ◌++◌, length, map, Option, Some, None, slice_index_or, option_to_list}
use Rattle.atomic_table.specs.Seated.{TableId}
use Rattle.traced_files.specs.States.{TracedPassState}
use Rattle.writeback.specs.declared.job.Job.{Job}
use Rattle.writeback.specs.declared.together.Task.{Task}
use Rattle.writeback.specs.Runs.{HasRun, MayRun}

abbrev pub task_of : Job → Task
task_of j = record { job = Some j; pass = None; worker = 0 }

abbrev pub work_of : ℕ → Task
work_of worker = record { job = None; pass = None; worker = worker }

-- the tasks of the workers from 1 on
abbrev pub workers_to : ℕ → List Task
workers_to zero = []
workers_to (suc n) = workers_to n ++ work_of (suc n) ∷ []

-- callers stand first
abbrev pub tasks_for : List Job → ℕ → List Task
tasks_for jobs workers = map task_of jobs ++ workers_to workers

-- its job, if it has one, may run
abbrev MayBegin : TableId → TableId → Option Job → Type 0
MayBegin word pool None = Unit {0}
MayBegin word pool (Some j) = MayRun word pool j

abbrev pub IsTaskReady : TableId → TableId → Task → Type 0
IsTaskReady word pool t = MayBegin word pool t.job

-- its job, if it had one, has run
abbrev pub IsOver : Option Job → Option TracedPassState → Option TracedPassState → Type 0
IsOver None old new = new ≡ old
IsOver (Some j) old new = (p : TracedPassState) × (new ≡ Some p) × HasRun j.pass j.now j.ops.items p

abbrev pub IsTaskDone : Task → Task → Type 0
IsTaskDone old new = IsOver old.job old.pass new.pass

-- all are done
abbrev pub AreTasksDone : List Task → List Task → Type 0
AreTasksDone olds news = (k : ℕ) (d : Task) → k < length olds → IsTaskDone (slice_index_or olds k d) (slice_index_or news k d)

-- the passes that they have
abbrev pub passes_in : List Task → List TracedPassState
passes_in [] = []
passes_in (t ∷ ts) = option_to_list t.pass ++ passes_in ts
