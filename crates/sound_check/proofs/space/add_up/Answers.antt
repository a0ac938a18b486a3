use Rattle.std.proofs.Common.{◌∙◌, List, length, ap, subst}
use Rattle.std.specs.Prelude.{IfErr, IfOk}
use Rattle.ubifs_base.specs.RawOf.{raw_of}
use Rattle.media_lpt.specs.declared.lprop.Lprop.{Lprop}
use Rattle.sound_image.specs.Breaches.{IsWrongSum}
use Rattle.sound_image.specs.Space.{HasSums}
use Rattle.sound_image.specs.Wrong.{IsFirstWrong}
use Rattle.sound_image.specs.declared.rule.Rule.TheVariants as rules
use Rattle.image_check.specs.Told.{IsBreachOf, TellsBreach}
use Rattle.sound_check.proofs.Spaces.{lists_found}
use Rattle.sound_check.proofs.space.add_up.Goals as goal

pub check_sums-requires : goal.check_sums-requires
check_sums-requires c = ap length c.as_slice.ensures.value ∙ c.requires

pub returns-clause-met : goal.returns-clause-met
returns-clause-met c placed found =
    let geo = raw_of c.args.areas.now.begun.geometry in
    let lists = lists_found placed c.args.areas.now.index c.as_slice-2.result.now c.as_slice-3.result.now found c.as_slice-2.ensures.value c.as_slice-3.ensures.value in
    let P : List Lprop → Type 0 = λ props. IfOk c.check_sums.result (λ x. HasSums geo props placed) in
    subst P c.as_slice.ensures.value (c.check_sums.ensures.met placed lists)

pub returns-clause-broken : goal.returns-clause-broken
returns-clause-broken c placed found =
    let geo = raw_of c.args.areas.now.begun.geometry in
    let lists = lists_found placed c.args.areas.now.index c.as_slice-2.result.now c.as_slice-3.result.now found c.as_slice-2.ensures.value c.as_slice-3.ensures.value in
    let P : List Lprop → Type 0 = λ props. IfErr c.check_sums.result (TellsBreach (IsBreachOf rules.Sums (IsFirstWrong (IsWrongSum geo props placed)))) in
    subst P c.as_slice.ensures.value (c.check_sums.ensures.broken placed lists)
