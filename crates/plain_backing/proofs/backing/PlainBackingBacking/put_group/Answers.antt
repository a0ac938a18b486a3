use Rattle.std.proofs.Common.{List, [], ◌∷◌, length, ap, ◌∙◌}
use Rattle.fs_model.specs.Journal.{base_head}
use Rattle.ubifs_base.specs.RawOf.{raw_of}
use Rattle.fs_model.specs.declared.change.Change.{Change}
use Rattle.plain_backing.specs.PlainBacking.{counted_call, group_spent}
use Rattle.plain_backing.proofs.PlainGoing.{sure_after}
use Rattle.plain_backing.proofs.Promises.{group_covers}
use Rattle.plain_backing.specs.declared.numbers.Numbers.{Numbers}
use Rattle.plain_backing.specs.Story.{lost_by}
use Rattle.plain_backing.proofs.Told.{failed_told, failed_leaves, done_leaves, group_told, refused_mode, refused_running, idle_after, idle_done, whole_all}
use Rattle.plain_backing.proofs.backing.PlainBackingBacking.put_group.Goals as goal

pub returns-in-Err-clause-cut : goal.returns-in-Err-clause-cut
returns-in-Err-clause-cut c = failed_leaves c.args.self.now.story.value c.lose_group.new.story.value (lost_by c.in-Err.fault ((base_head, c.args.group.now) ∷ [])) c.lose_group.ensures

pub returns-clause-cut : goal.returns-clause-cut
returns-clause-cut c = done_leaves c.args.self.now.story.value c.add_group.new.story.value c.count_all.new.story.value ((base_head, c.args.group.now) ∷ []) c.add_group.ensures c.count_all.ensures

pub invariant_of-self-clause-told : goal.invariant_of-self-clause-told
invariant_of-self-clause-told c =
    let self = c.args.self.now in
    failed_told self.tree self.story.value c.lose_group.new.story.value (lost_by c.in-Err.fault ((base_head, c.args.group.now) ∷ [])) c.lose_group.ensures self.told

pub invariant_of-self-clause-whole : goal.invariant_of-self-clause-whole
invariant_of-self-clause-whole c = λ written. absurd (refused_mode c.args.self.now.numbers c.changing_call.new.numbers c.in-Err.fault c.in-Err.ensures.told written)

pub invariant_of-self-clause-idle : goal.invariant_of-self-clause-idle
invariant_of-self-clause-idle c =
    let self = c.args.self.now in
    idle_after self.story.value c.lose_group.new.story.value (lost_by c.in-Err.fault ((base_head, c.args.group.now) ∷ [])) self.numbers.running c.changing_call.new.numbers.running c.lose_group.ensures
    (refused_running self.numbers c.changing_call.new.numbers c.in-Err.fault c.in-Err.ensures.told) self.idle

pub invariant_of-self-2-clause-told : goal.invariant_of-self-2-clause-told
invariant_of-self-2-clause-told c =
    let self = c.args.self.now in
    group_told self.tree c.apply.new.self self.story.value c.add_group.new.story.value c.count_all.new.story.value c.args.group.now c.add_group.ensures c.count_all.ensures c.in_ok-apply.ensures.ok self.told (self.whole c.in_default.ensures.ok.2) c.requires.revives_none

pub invariant_of-self-2-clause-whole : goal.invariant_of-self-2-clause-whole
invariant_of-self-2-clause-whole c = λ written. whole_all c.add_group.new.story.value c.count_all.new.story.value c.count_all.ensures

pub invariant_of-self-2-clause-idle : goal.invariant_of-self-2-clause-idle
invariant_of-self-2-clause-idle c =
    let self = c.args.self.now in
    idle_done self.story.value c.add_group.new.story.value c.count_all.new.story.value ((base_head, c.args.group.now) ∷ []) self.numbers.running c.spend_grant.new.numbers.running c.add_group.ensures c.count_all.ensures
    (ap (λ (n : Numbers). n.running) c.spend_grant.ensures ∙ ap (λ (n : Numbers). n.running) c.in_default.ensures.ok.0) self.idle

pub returns-clause-sure : goal.returns-clause-sure
returns-clause-sure c =
    let self = c.args.self.now in
    let geo = raw_of self.geo in
    let spent =
    c.spend_grant.ensures
    ∙ ap (λ (n : Numbers). group_spent n (length c.as_slice-nodes.result.now)) c.in_default.ensures.ok.0
    ∙ ap (λ (xs : List Change). group_spent (counted_call self.numbers) (length xs)) c.as_slice-nodes.ensures in
    sure_after _ geo self.tree c.apply.new.self self.story.value c.count_all.new.story.value self.numbers c.spend_grant.new.numbers _ c.in_default.ensures.ok.1
    (ap (λ (n : Numbers). n.strike) spent) (ap (λ (n : Numbers). n.faults) spent)
    (group_covers geo self.geo.in_range self.tree c.apply.new.self c.args.group.now self.story.value c.count_all.new.story.value self.numbers c.spend_grant.new.numbers
    c.in_ok-apply.ensures.ok c.requires spent (λ before later grant. c.what_was_admitted_can_be_put.ensures.group geo before later grant))
