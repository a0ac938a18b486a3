use Rattle.sound_image.proofs.LinksFirst.{links_or_first}
use Rattle.sound_image.proofs.SumsFirst.{sums_or_first}
use Rattle.sound_image.proofs.laws.sums_and_links_are_right_or_one_is_wrong.Goals as goal

pub returns-clause-sums : goal.returns-clause-sums
returns-clause-sums c = sums_or_first

pub returns-clause-links : goal.returns-clause-links
returns-clause-links c = links_or_first
