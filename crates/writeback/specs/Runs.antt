-- The operations of one caller, and the lines that they leave.
use Rattle.std.specs.Prelude.{◌≡◌, ◌⊎◌, ℕ, ◌+◌, ◌==◌, List, [], ◌∷◌, ◌++◌, length, filter, All}
use mathlib.Core.List.{IsPrefix}
use Rattle.atomic_table.specs.Seated.{TableId}
use Rattle.fs_model.specs.declared.op.Op.{Op}
use Rattle.fs_model.specs.declared.reply.Reply.{Reply}
use Rattle.fs_model.specs.declared.trace.TraceLine.{TraceLine}
use Rattle.fs_laws.specs.Sound.{IsCall}
use Rattle.trace_word.specs.Knowledge.{lines_of}
use Rattle.traced_files.specs.States.{TracedPassState}
use Rattle.writeback.specs.declared.job.Job.{Job}

-- the lines of this caller, in order
abbrev pub lines_by : ℕ → List TraceLine → List TraceLine
lines_by caller lines = filter (λ line. line.caller == caller) lines

-- Lines of these operations, in order, at one moment, with a caller's next numbers. If there was no memory for a line, its operation has none.
abbrev pub AreCalls : ℕ → ℕ → ℕ → List Op → List TraceLine → Type 0
AreCalls caller now made [] lines = lines ≡ []
AreCalls caller now made (op ∷ ops) lines =
    AreCalls caller now made ops lines
    ⊎ ((reply : Reply) × (rest : List TraceLine)
    × (lines ≡ (record { caller = caller; number = made + 1; now = now; op = op; reply = reply }) ∷ rest)
    × AreCalls caller now (made + 1) ops rest)

-- A caller has made these operations with a pass. It has seen a trace that begins with what it had seen. Its own lines there are those that it had, and then those of the operations.
pub record HasRun (old : TracedPassState) (now : ℕ) (ops : List Op) (new : TracedPassState) : Type 0 where
  pub word : new.word ≡ old.word
  pub pool : new.pool ≡ old.pool
  pub caller : new.caller ≡ old.caller
  pub begins : IsPrefix old.seen new.seen
  pub calls : List TraceLine
  pub are : AreCalls old.caller now old.made ops calls
  pub lines : lines_by old.caller new.seen ≡ lines_by old.caller old.seen ++ calls
  pub made : new.made ≡ old.made + length calls
  pub counted : lines_of new.caller new.seen ≡ new.made

-- the pass is of this word and this pool, and each operation gives bytes
abbrev pub MayRun : TableId → TableId → Job → Type 0
MayRun word pool job = (job.pass.word ≡ word) × (job.pass.pool ≡ pool) × All IsCall job.ops.items

-- the jobs have run, each with its pass, in order
abbrev pub HaveRun : List Job → List TracedPassState → Type 0
HaveRun [] passes = passes ≡ []
HaveRun (j ∷ js) passes = (p : TracedPassState) × (ps : List TracedPassState) × (passes ≡ p ∷ ps) × HasRun j.pass j.now j.ops.items p × HaveRun js ps

-- of the job's caller a trace has the lines that its pass had seen, and then those of the job's operations, and no others
abbrev pub HasLines : List TraceLine → Job → Type 0
HasLines trace job =
    (calls : List TraceLine) × AreCalls job.pass.caller job.now job.pass.made job.ops.items calls
    × (lines_by job.pass.caller trace ≡ lines_by job.pass.caller job.pass.seen ++ calls)
