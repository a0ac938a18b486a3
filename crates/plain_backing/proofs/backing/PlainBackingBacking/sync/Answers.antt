use Rattle.std.proofs.Common.{sym, ap, ◌∙◌, refl}
use Rattle.plain_backing.specs.declared.numbers.Numbers.{Numbers}
use Rattle.plain_backing.specs.Story.{is_story_idle}
use Rattle.plain_backing.proofs.Told.{sync_told, sync_leaves, sync_kept, sync_heads}
use Rattle.plain_backing.proofs.backing.PlainBackingBacking.sync.Goals as goal

pub returns-clause-ok : goal.returns-clause-ok
returns-clause-ok c = record { held = refl; heads = sync_heads c.args.self.now.story.value c.sync_story.new.story.value c.sync_story.ensures }

pub returns-clause-cut : goal.returns-clause-cut
returns-clause-cut c = sync_leaves c.args.self.now.tree c.args.self.now.story.value c.sync_story.new.story.value c.sync_story.ensures c.args.self.now.told

pub invariant_of-self-2-clause-told : goal.invariant_of-self-2-clause-told
invariant_of-self-2-clause-told c =
    let self = c.args.self.now in
    sync_told self.tree self.story.value c.sync_story.new.story.value c.sync_story.ensures self.told (self.whole c.in_ok-changing_call.ensures.ok.2)

pub invariant_of-self-2-clause-whole : goal.invariant_of-self-2-clause-whole
invariant_of-self-2-clause-whole c = λ written. sync_kept c.args.self.now.story.value c.sync_story.new.story.value c.sync_story.ensures (c.args.self.now.whole c.in_ok-changing_call.ensures.ok.2)

pub invariant_of-self-2-clause-idle : goal.invariant_of-self-2-clause-idle
invariant_of-self-2-clause-idle c = λ none. ap is_story_idle c.sync_story.ensures ∙ c.args.self.now.idle (sym (ap (λ (n : Numbers). n.running) c.in_ok-changing_call.ensures.ok.0) ∙ none)
