use Rattle.std.proofs.Common.{ap, ◌∙◌}
use Rattle.fs_model.specs.Backing.{page_puts}
use Rattle.ubifs_base.specs.RawOf.{raw_of}
use Rattle.plain_backing.specs.PlainBacking.{page_spent}
use Rattle.plain_backing.proofs.PlainGoing.{sure_after}
use Rattle.plain_backing.proofs.Promises.{page_covers}
use Rattle.plain_backing.specs.declared.numbers.Numbers.{Numbers}
use Rattle.plain_backing.specs.Story.{lost_by}
use Rattle.plain_backing.proofs.Told.{failed_told, failed_leaves, done_leaves, page_told, refused_mode, refused_running, idle_after, idle_done, whole_all}
use Rattle.plain_backing.proofs.backing.PlainBackingBacking.put_page.Goals as goal

pub returns-in-Err-clause-cut : goal.returns-in-Err-clause-cut
returns-in-Err-clause-cut c = failed_leaves c.args.self.now.story.value c.lose_page.new.story.value (lost_by c.in-Err.fault (page_puts c.args.page.now)) c.lose_page.ensures

pub returns-clause-cut : goal.returns-clause-cut
returns-clause-cut c = done_leaves c.args.self.now.story.value c.add_page.new.story.value c.count_all.new.story.value (page_puts c.args.page.now) c.add_page.ensures c.count_all.ensures

pub invariant_of-self-clause-told : goal.invariant_of-self-clause-told
invariant_of-self-clause-told c =
    let self = c.args.self.now in
    failed_told self.tree self.story.value c.lose_page.new.story.value (lost_by c.in-Err.fault (page_puts c.args.page.now)) c.lose_page.ensures self.told

pub invariant_of-self-clause-whole : goal.invariant_of-self-clause-whole
invariant_of-self-clause-whole c = λ written. absurd (refused_mode c.args.self.now.numbers c.changing_call.new.numbers c.in-Err.fault c.in-Err.ensures.told written)

pub invariant_of-self-clause-idle : goal.invariant_of-self-clause-idle
invariant_of-self-clause-idle c =
    let self = c.args.self.now in
    idle_after self.story.value c.lose_page.new.story.value (lost_by c.in-Err.fault (page_puts c.args.page.now)) self.numbers.running c.changing_call.new.numbers.running c.lose_page.ensures
    (refused_running self.numbers c.changing_call.new.numbers c.in-Err.fault c.in-Err.ensures.told) self.idle

pub invariant_of-self-2-clause-told : goal.invariant_of-self-2-clause-told
invariant_of-self-2-clause-told c =
    let self = c.args.self.now in
    page_told self.tree c.set_page.new.self self.story.value c.add_page.new.story.value c.count_all.new.story.value c.args.page.now c.add_page.ensures c.count_all.ensures c.in_ok-set_page.ensures.ok self.told (self.whole c.in_default.ensures.ok.2) c.requires.revives_none

pub invariant_of-self-2-clause-whole : goal.invariant_of-self-2-clause-whole
invariant_of-self-2-clause-whole c = λ written. whole_all c.add_page.new.story.value c.count_all.new.story.value c.count_all.ensures

pub invariant_of-self-2-clause-idle : goal.invariant_of-self-2-clause-idle
invariant_of-self-2-clause-idle c =
    let self = c.args.self.now in
    idle_done self.story.value c.add_page.new.story.value c.count_all.new.story.value (page_puts c.args.page.now) self.numbers.running c.spend_page.new.numbers.running c.add_page.ensures c.count_all.ensures
    (ap (λ (n : Numbers). n.running) c.spend_page.ensures ∙ ap (λ (n : Numbers). n.running) c.in_default.ensures.ok.0) self.idle

pub returns-clause-sure : goal.returns-clause-sure
returns-clause-sure c =
    let self = c.args.self.now in
    let geo = raw_of self.geo in
    let spent = c.spend_page.ensures ∙ ap page_spent c.in_default.ensures.ok.0 in
    sure_after _ geo self.tree c.set_page.new.self self.story.value c.count_all.new.story.value self.numbers c.spend_page.new.numbers _ c.in_default.ensures.ok.1
    (ap (λ (n : Numbers). n.strike) spent) (ap (λ (n : Numbers). n.faults) spent)
    (page_covers geo self.geo.in_range self.tree c.set_page.new.self c.args.page.now self.story.value c.count_all.new.story.value self.numbers c.spend_page.new.numbers
    c.in_ok-set_page.ensures.ok c.requires.fits c.requires.covered spent (λ before later grant. c.what_was_admitted_can_be_put.ensures.page geo before later grant))
