use Rattle.std.proofs.Common.{◌≡◌, ℕ, ◌+◌, ◌≤◌, ◌++◌, List, All, length}
use Rattle.script_run.specs.Phases.{AreServed}
use Rattle.script_run.specs.Run.{ScriptRunning}
use Rattle.script_run.specs.Sessions.{IsSession, IsWaiting, running_of, state_in}
use Rattle.script_run.proofs.phase.serve_lines.Given as goal

abbrev pub invariant-loop-line : goal.invariant-loop-line
invariant-loop-line l = record {
  session : IsSession (state_in l.fn.session).geometry l.session;
  mounted : l.session.mounted ≡ l.fn.session.mounted;
  lines : All (IsWaiting l.fn.session.mounted) l.line-iterator.rest.items;
  few : l.session.number + length l.line-iterator.rest.items ≤ l.fn.session.number + length l.fn.lines.items;
  served : (more : List ℕ) (last : ScriptRunning) → AreServed (state_in l.fn.session).geometry (running_of l.session) l.line-iterator.rest.items more last
      → (all : List ℕ) × AreServed (state_in l.fn.session).geometry (running_of l.fn.session) l.fn.lines.items all last × (l.fn.text.items ++ all ≡ l.text.items ++ more);
}
