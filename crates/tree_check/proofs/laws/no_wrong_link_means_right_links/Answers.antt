use Rattle.tree_check.proofs.LinkFirst.{links_right}
use Rattle.tree_check.proofs.laws.no_wrong_link_means_right_links.Goals as goal

pub returns : goal.returns
returns c = links_right
