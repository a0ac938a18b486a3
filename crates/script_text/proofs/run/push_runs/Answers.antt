use Rattle.std.proofs.Common.{◌∷◌, ◌++◌, [], List, ℕ, arith, ap, refl, ◌∙◌}
use Rattle.script_text.proofs.Runs.{step_same, step_other}
use Rattle.script_text.proofs.run.push_runs.Goals as goal
use Rattle.script_text.proofs.run.push_runs.Goals.{then-x-byte, else-x-byte+in_ok-push_run+in_ok-push}

pub loop-x-preserved : goal.loop-x-preserved
loop-x-preserved c = elim c.if-x-byte.branch [
  | then-x-byte w ↦ record {
    few = omega arith;
    text = rw (w.line-is, w.n-is, w.byte-is) (step_same c.loop-x.line.items _ c.split_at.result.1.now c.loop-x.x-index c.loop-x.n c.loop-x.byte c.loop-x-test.true w.if-x-byte.true c.loop-x.invariant.text);
  }
  | else-x-byte+in_ok-push_run+in_ok-push w ↦ record {
    few = omega arith;
    text = rw (w.line-is, w.n-is, w.byte-is) (step_other c.loop-x.line.items w.push.new.self.items _ c.split_at.result.1.now c.loop-x.x-index c.loop-x.n c.loop-x.byte _ c.loop-x-test.true refl w.if-x-byte.false c.loop-x.invariant.text
        (w.in_ok-push.ensures.items ∙ ap (λ (ds : List ℕ). ds ++ (44 ∷ [])) w.in_ok-push_run.ensures));
  }
]
