use Rattle.sound_image.proofs.FreshLog.{fresh_log}
use Rattle.sound_image.proofs.laws.a_fresh_log_meets_the_rule.Goals as goal

pub returns : goal.returns
returns c = fresh_log
