use Rattle.image_report.proofs.OneFault.{one_unsound}
use Rattle.image_report.proofs.OneTold.{never_unsound, one_line}
use Rattle.image_report.proofs.law.one_text_is_told.Goals as goal

pub returns-clause-never : goal.returns-clause-never
returns-clause-never c = never_unsound c.never_both.ensures.both c.never_both.ensures.geometry c.a_first_breach_is_one.ensures.sound

pub returns-clause-line : goal.returns-clause-line
returns-clause-line c = one_line c.never_both.ensures.geometry c.contents_say_one_thing.ensures.image

pub returns-clause-unsound : goal.returns-clause-unsound
returns-clause-unsound c = one_unsound c.never_both.ensures.both c.never_both.ensures.geometry c.a_first_breach_is_one.ensures.one
