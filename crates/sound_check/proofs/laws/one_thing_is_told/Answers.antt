use Rattle.std.proofs.Common.{◌∙◌, ap, sym}
use Rattle.sound_check.specs.Reads.{told_of}
use Rattle.sound_check.proofs.Told.{told_elsewhere}
use Rattle.sound_check.proofs.laws.one_thing_is_told.Goals as goal

pub returns : goal.returns
returns c = λ contents a b bytes sound other.
    let one = c.contents_say_one_thing.ensures.image contents a b bytes sound other in
    sym (ap told_of one.1) ∙ told_elsewhere b a.latest one.0
