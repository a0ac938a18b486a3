use Rattle.tree_check.proofs.PlacesRight.{places_right}
use Rattle.tree_check.proofs.laws.nothing_misplaced_means_in_place.Goals as goal

pub returns : goal.returns
returns c = places_right
