use Rattle.std.proofs.Common.{List, sym, subst}
use Rattle.log_replay.specs.declared.read_leaf.ReadLeaf.{ReadLeaf}
use Rattle.log_replay.specs.Settling.{settled_of}
use Rattle.log_replay.proofs.Settles.{Settling, settle_on}
use Rattle.log_replay.proofs.settling.settle.Goals as goal

pub loop-read-preserved : goal.loop-read-preserved
loop-read-preserved c = λ parts cs left can e has.
    let all = settled_of parts left cs in
    let before = subst (λ (rest : List ReadLeaf). Settling parts all c.loop-read.settled.items rest c.loop-read.ranked) c.in-Some.ensures.steps.0 (c.loop-read.invariant parts cs left can e has) in
    subst (λ (xs : List ReadLeaf). Settling parts all xs c.next.new.self.rest.items c.settle_leaf.new.ranked) (sym c.in_ok-push.ensures.items)
    (settle_on parts all c.loop-read.settled.items c.next.new.self.rest.items c.in-Some.read c.in_ok-settle_leaf.field-0 c.loop-read.ranked c.settle_leaf.new.ranked before c.in_ok-settle_leaf.ensures)
