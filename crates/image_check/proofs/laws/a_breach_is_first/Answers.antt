use Rattle.image_check.proofs.FirstOfAll.{first_of_all}
use Rattle.image_check.proofs.laws.a_breach_is_first.Goals as goal

pub returns : goal.returns
returns c = first_of_all
