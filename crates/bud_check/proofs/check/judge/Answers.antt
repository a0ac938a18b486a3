use Rattle.sound_image.specs.Wrong.{IsFirstWrong}
use Rattle.bud_check.specs.Findings.{IsWrongTexts}
use Rattle.bud_check.proofs.SoundBuds.{all_sound, told_breach}
use Rattle.bud_check.proofs.check.judge.Goals as goal

pub returns-in-Some-clause-broken : goal.returns-in-Some-clause-broken
returns-in-Some-clause-broken c = told_breach (IsFirstWrong (IsWrongTexts c.args.texts.now)) c.in-Some.wrong c.breach_of.result c.breach_of.ensures c.in-Some.ensures

pub returns-in-Ok-clause-met : goal.returns-in-Ok-clause-met
returns-in-Ok-clause-met c =
    let journal = c.in-Ok.ensures in
    let sound = all_sound c.args.texts.now journal.reads journal.of_buds journal.texts c.in_default.ensures in
    record { journal = journal; sound = sound; clean = c.are_clean.ensures journal.reads journal.of_buds sound }
