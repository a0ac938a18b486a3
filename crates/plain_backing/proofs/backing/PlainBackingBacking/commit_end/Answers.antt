use Rattle.std.proofs.Common.{ap, ◌∙◌}
use Rattle.ubifs_base.specs.RawOf.{raw_of}
use Rattle.plain_backing.specs.PlainBacking.{ended_as}
use Rattle.plain_backing.proofs.PlainGoing.{sure_after}
use Rattle.plain_backing.proofs.Promises.{end_covers}
use Rattle.plain_backing.specs.declared.numbers.Numbers.{Numbers}
use Rattle.plain_backing.proofs.Told.{end_told, end_whole, end_started, end_heads, end_leaves}
use Rattle.plain_backing.proofs.backing.PlainBackingBacking.commit_end.Goals as goal

pub returns-clause-ok : goal.returns-clause-ok
returns-clause-ok c =
    let self = c.args.self.now in
    let told = c.end_story.new.story.value in
    record {
      running = ap (λ (n : Numbers). n.running) c.end.ensures;
      nodes = ap (λ (n : Numbers). n.nodes) c.end.ensures ∙ ap (λ (n : Numbers). n.later) c.in_ok-changing_call.ensures.ok.0;
      committed = end_started self.story.value told c.end_story.ensures;
      heads = end_heads self.tree self.story.value told c.end_story.ensures self.told;
    }

pub returns-clause-cut : goal.returns-clause-cut
returns-clause-cut c = end_leaves c.args.self.now.tree c.args.self.now.story.value c.end_story.new.story.value c.end_story.ensures c.args.self.now.told

pub invariant_of-self-2-clause-told : goal.invariant_of-self-2-clause-told
invariant_of-self-2-clause-told c = end_told c.args.self.now.tree c.args.self.now.story.value c.end_story.new.story.value c.end_story.ensures c.args.self.now.told

pub invariant_of-self-2-clause-whole : goal.invariant_of-self-2-clause-whole
invariant_of-self-2-clause-whole c = λ written. end_whole c.args.self.now.story.value c.end_story.new.story.value c.end_story.ensures (c.args.self.now.whole c.in_ok-changing_call.ensures.ok.2)

pub returns-clause-sure : goal.returns-clause-sure
returns-clause-sure c =
    let self = c.args.self.now in
    let geo = raw_of self.geo in
    let ended = c.end.ensures ∙ ap (λ (n : Numbers). ended_as n c.in-Some.cmt_no c.full_index_weight-weight.result) c.in_ok-changing_call.ensures.ok.0 in
    sure_after _ geo self.tree self.tree self.story.value c.end_story.new.story.value self.numbers c.end.new.numbers _ c.in_ok-changing_call.ensures.ok.1
    (ap (λ (n : Numbers). n.strike) ended) (ap (λ (n : Numbers). n.faults) ended)
    (end_covers geo self.tree self.story.value c.end_story.new.story.value self.numbers c.end.new.numbers c.in-Some.cmt_no c.full_index_weight-weight.result c.leaves.result
    ended c.leaves.ensures.all c.full_index_weight-weight.ensures.lowest (λ before later need. c.what_takes_no_more_keeps_what_was_granted.ensures.room geo before later need))
