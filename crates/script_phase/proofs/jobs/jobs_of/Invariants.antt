use Rattle.std.proofs.Common.{◌≡◌, ℕ, ◌<◌, ◌++◌, length, map, All}
use Rattle.script_phase.specs.Phases.{AreNumberedFrom, ops_by}
use Rattle.script_phase.proofs.Found.{pass_of}
use Rattle.script_phase.proofs.NewJobs.{IsJobOf}
use Rattle.script_phase.proofs.jobs.jobs_of.Given as goal

abbrev pub invariant-loop-pass : goal.invariant-loop-pass
invariant-loop-pass l = record {
  all : l.yielded ++ l.pass-iterator.rest.items ≡ l.fn.passes.items;
  numbered : AreNumberedFrom (length l.yielded) l.pass-iterator.rest.items;
  passes : map pass_of l.jobs.items ≡ l.yielded;
  ops : All (IsJobOf l.now l.fn.lines.items) l.jobs.items;
  left : (other : ℕ) → length l.yielded < other → ops_by other l.left.items ≡ ops_by other l.fn.lines.items;
}
