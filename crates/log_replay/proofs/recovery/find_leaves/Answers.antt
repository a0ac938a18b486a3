use Rattle.std.proofs.Common.{ap, ◌∙◌}
use Rattle.log_replay.specs.Moving.{candidates_of}
use Rattle.log_replay.proofs.Recovering.{leaves_are_found}
use Rattle.log_replay.proofs.recovery.find_leaves.Goals as goal

pub returns : goal.returns
returns c = λ parts references named is.
    leaves_are_found parts c.args.leaves.items references c.args.copies.items c.args.named.now c.in_ok-ranked.ranked c.drop_owned.new.ranked c.in_ok-reads.reads.items c.in_ok-settled.settled.items
    c.in_ok-candidates.candidates.items is named c.in_ok-ranked.ensures c.in_ok-reads.ensures (λ parts cs left can e has. c.in_ok-drop_owned.ensures parts cs left can (c.deref.ensures.value ∙ e) has)
    c.in_ok-settled.ensures (c.in_ok-candidates.ensures ∙ ap (candidates_of c.args.named.now) c.deref-2.ensures.value)
