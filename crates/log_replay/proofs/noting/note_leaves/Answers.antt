use Rattle.std.proofs.Common.{◌∙◌}
use Rattle.log_replay.proofs.Noted.{note_on}
use Rattle.log_replay.proofs.noting.note_leaves.Goals as goal

pub noting-preserved : goal.noting-preserved
noting-preserved c = record {
  noted = λ kept told keyed. note_on kept c.noting.left.items c.pop.new.self.items c.in-Some.node c.noting.standing c.note_leaf.new.standing keyed c.in-Some.ensures.items (c.noting.invariant.noted kept told keyed) c.in_ok-note_leaf.ensures.notes;
  index = c.note_leaf.ensures.index ∙ c.noting.invariant.index;
}
