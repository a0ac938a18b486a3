use Rattle.sound_image.proofs.ReadLog.{read_log_has}
use Rattle.sound_image.proofs.laws.a_log_that_was_read_meets_the_rule.Goals as goal

pub returns : goal.returns
returns c = read_log_has
