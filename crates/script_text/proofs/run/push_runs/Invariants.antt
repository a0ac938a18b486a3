use Rattle.std.proofs.Common.{◌≡◌, ◌++◌, ◌+◌, ◌≤◌, drop}
use Rattle.script_text.specs.Reply.{with_run, runs_text, runs_of}
use Rattle.script_text.proofs.run.push_runs.Given as goal

abbrev pub invariant-loop-x : goal.invariant-loop-x
invariant-loop-x l = record {
  few : l.n ≤ l.x-index + 1;
  text : l.line.items ++ runs_text (with_run l.n l.byte (runs_of (drop l.x-index l.x-items))) ≡ l.fn.line.items ++ runs_text (runs_of l.bytes);
}
