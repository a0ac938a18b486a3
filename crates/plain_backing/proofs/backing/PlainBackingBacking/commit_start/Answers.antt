use Rattle.std.proofs.Common.{◌≡◌, sym, ap, ◌∙◌, refl, None}
use Rattle.plain_backing.specs.declared.numbers.Numbers.{Numbers}
use Rattle.plain_backing.proofs.Told.{begin_told, begin_whole, begin_heads, begin_began, begin_leaves}
use Rattle.plain_backing.proofs.backing.PlainBackingBacking.commit_start.Goals as goal

pub returns-clause-ok : goal.returns-clause-ok
returns-clause-ok c =
    let self = c.args.self.now in
    let told = c.begin_story.new.story.value in
    let none : self.numbers.running ≡ None = sym (ap (λ (n : Numbers). n.running) c.in_ok-changing_call.ensures.ok.0) ∙ c.in_default.is in (
      none,
      (_, ap (λ (n : Numbers). n.running) c.start.ensures),
      ap (λ (n : Numbers). n.later) c.start.ensures,
      ap (λ (n : Numbers). n.closed) c.start.ensures,
      begin_began self.tree self.story.value told c.begin_story.ensures,
      record { held = refl; heads = begin_heads self.tree self.story.value told c.begin_story.ensures },
    )

pub returns-clause-cut : goal.returns-clause-cut
returns-clause-cut c =
    let self = c.args.self.now in
    let none : self.numbers.running ≡ None = sym (ap (λ (n : Numbers). n.running) c.in_ok-changing_call.ensures.ok.0) ∙ c.in_default.is in
    begin_leaves self.tree self.story.value c.begin_story.new.story.value c.begin_story.ensures self.told (self.idle none)

pub invariant_of-self-2-clause-told : goal.invariant_of-self-2-clause-told
invariant_of-self-2-clause-told c =
    let self = c.args.self.now in
    let none : self.numbers.running ≡ None = sym (ap (λ (n : Numbers). n.running) c.in_ok-changing_call.ensures.ok.0) ∙ c.in_default.is in
    begin_told self.tree self.story.value c.begin_story.new.story.value c.begin_story.ensures self.told (self.whole c.in_ok-changing_call.ensures.ok.2) (self.idle none)

pub invariant_of-self-2-clause-whole : goal.invariant_of-self-2-clause-whole
invariant_of-self-2-clause-whole c = λ written. begin_whole c.args.self.now.tree c.args.self.now.story.value c.begin_story.new.story.value c.begin_story.ensures
