use Rattle.std.proofs.Common.{rules, refl, ap, sym, ◌∙◌, subst}
use Rattle.ubi_volume.specs.Frame.{Works}
use Rattle.bud_log.specs.LogAnswers.{IsSection}
use Rattle.bud_log.specs.LogAt.{LogAt, IsOfEarlierSection, IsWithin, without_old_sections}
use Rattle.bud_log.specs.LogCalls.{EndUnderWay}
use Rattle.bud_log.proofs.Ended.{ended_moment, ended_ready}
use Rattle.bud_log.proofs.Sections.{ended_section}
use Rattle.bud_log.proofs.Steps.{within_ended}
use Rattle.bud_log.proofs.log.Log.end_section.Goals as goal

pub returns-in_err-unmap_between-clause-works : goal.returns-in_err-unmap_between-clause-works
returns-in_err-unmap_between-clause-works g c =
    let W : LogAt → Type 0 = λ at. Works (g.V.Volume.state c.args.volume.now) (g.V.Volume.state c.unmap_between.new.volume) (IsOfEarlierSection at) (EndUnderWay (g.V.Volume.state c.args.volume.now) at) in
    subst W c.self.view_is c.unmap_between.ensures.works

pub returns-in_err-unmap_between-clause-stands : goal.returns-in_err-unmap_between-clause-stands
returns-in_err-unmap_between-clause-stands g c = λ number buds h.
    let a = g.V.Volume.state c.args.volume.now in
    let b = g.V.Volume.state c.unmap_between.new.volume in
    let W : LogAt → Type 0 = λ at. Works a b (IsOfEarlierSection at) (EndUnderWay a at) in
    ended_ready a b c.args.self.now number buds h c.requires.at.first c.requires.at.section c.requires.at.here c.requires.at.on_the_way (λ k. g.met.V.Volume.mapped_now c.unmap_between.new.volume k (b.holds k) (g.met.V.Volume.holds_now c.unmap_between.new.volume k)) (subst W c.self.view_is c.unmap_between.ensures.works)

pub returns-in_err-unmap_between-clause-any_moment : goal.returns-in_err-unmap_between-clause-any_moment
returns-in_err-unmap_between-clause-any_moment g c = λ number buds h.
    let a = g.V.Volume.state c.args.volume.now in
    let b = g.V.Volume.state c.unmap_between.new.volume in
    let W : LogAt → Type 0 = λ at. Works a b (IsOfEarlierSection at) (EndUnderWay a at) in
    let works = subst W c.self.view_is c.unmap_between.ensures.works in
    ended_moment a b c.args.self.now number buds h c.requires.at.first c.requires.at.section c.requires.at.here c.requires.at.on_the_way works.time

pub returns-clause-works : goal.returns-clause-works
returns-clause-works g c =
    let W : LogAt → Type 0 = λ at. Works (g.V.Volume.state c.args.volume.now) (g.V.Volume.state c.unmap_between.new.volume) (IsOfEarlierSection at) (EndUnderWay (g.V.Volume.state c.args.volume.now) at) in
    subst W c.self.view_is c.unmap_between.ensures.works

pub returns-clause-stands : goal.returns-clause-stands
returns-clause-stands g c = λ number buds h.
    let a = g.V.Volume.state c.args.volume.now in
    let b = g.V.Volume.state c.unmap_between.new.volume in
    let W : LogAt → Type 0 = λ at. Works a b (IsOfEarlierSection at) (EndUnderWay a at) in
    ended_ready a b c.args.self.now number buds h c.requires.at.first c.requires.at.section c.requires.at.here c.requires.at.on_the_way (λ k. g.met.V.Volume.mapped_now c.unmap_between.new.volume k (b.holds k) (g.met.V.Volume.holds_now c.unmap_between.new.volume k)) (subst W c.self.view_is c.unmap_between.ensures.works)

pub returns-clause-any_moment : goal.returns-clause-any_moment
returns-clause-any_moment g c = λ number buds h.
    let a = g.V.Volume.state c.args.volume.now in
    let b = g.V.Volume.state c.unmap_between.new.volume in
    let W : LogAt → Type 0 = λ at. Works a b (IsOfEarlierSection at) (EndUnderWay a at) in
    let works = subst W c.self.view_is c.unmap_between.ensures.works in
    ended_moment a b c.args.self.now number buds h c.requires.at.first c.requires.at.section c.requires.at.here c.requires.at.on_the_way works.time

pub returns-clause-ended : goal.returns-clause-ended
returns-clause-ended g c =
    let W : LogAt → Type 0 = λ z. IsWithin z in
    record {
      unwritten = search rules;
      moved = search rules;
      at = search rules;
      within = λ h. subst W (ap without_old_sections (sym c.self.view_is) ∙ refl) (within_ended c.args.self.now c.requires.at.first c.requires.at.section c.requires.at.here c.requires.at.on_the_way h);
      section = λ low section.
          let a = g.V.Volume.state c.args.volume.now in
          let b = g.V.Volume.state c.unmap_between.new.volume in
          let at = c.args.self.now in
          let T : LogAt → Type 0 = λ z. Works a b (IsOfEarlierSection z) (EndUnderWay a z) in
          let S : LogAt → Type 0 = λ z. IsSection b z low in
          subst S (ap without_old_sections (sym c.self.view_is) ∙ refl)
          (ended_section a b at low c.requires.at.on_the_way (λ k. g.met.V.Volume.mapped_now c.unmap_between.new.volume k (b.holds k) (g.met.V.Volume.holds_now c.unmap_between.new.volume k)) (subst T c.self.view_is c.unmap_between.ensures.works) section);
    }
