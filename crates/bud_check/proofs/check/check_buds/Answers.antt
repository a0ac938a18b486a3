use Rattle.std.proofs.Common.{subst, ◌∙◌, List}
use Rattle.std.specs.Prelude.{IfErr, IfOk}
use Rattle.ubifs_base.specs.RawOf.{raw_of}
use Rattle.bud_log.specs.declared.head_at.HeadAt.{HeadAt}
use Rattle.sound_image.specs.Breaches.{IsWrongInBuds}
use Rattle.sound_image.specs.Wrong.{IsFirstWrong}
use Rattle.sound_image.specs.declared.rule.Rule.TheVariants as rules
use Rattle.image_check.specs.Told.{IsBreachOf, TellsBreach}
use Rattle.bud_check.specs.Found.{AreFoundBuds}
use Rattle.bud_check.proofs.NamedBuds.{named_places}
use Rattle.bud_check.proofs.check.check_buds.Goals as goal

pub check_places-requires-clause-buds : goal.check_places-requires-clause-buds
check_places-requires-clause-buds g c = named_places (raw_of c.args.geometry.now) c.args.references.now c.deref.result.now (c.deref.ensures.value ∙ c.in-Ok.ensures) c.requires.named

pub returns-in-Ok-clause-met : goal.returns-in-Ok-clause-met
returns-in-Ok-clause-met g c =
    let contents = (g.V.Volume.state c.args.volume.now).holds in
    let P : List HeadAt → Type 0 = λ buds. IfOk c.check_places.result (AreFoundBuds contents buds) in
    subst P (c.deref.ensures.value ∙ c.in-Ok.ensures) c.check_places.ensures.met

pub returns-in-Ok-clause-broken : goal.returns-in-Ok-clause-broken
returns-in-Ok-clause-broken g c =
    let contents = (g.V.Volume.state c.args.volume.now).holds in
    let P : List HeadAt → Type 0 = λ buds. IfErr c.check_places.result (TellsBreach (IsBreachOf rules.Buds (IsFirstWrong (IsWrongInBuds contents buds)))) in
    subst P (c.deref.ensures.value ∙ c.in-Ok.ensures) c.check_places.ensures.broken
