use Rattle.node_table.proofs.KeptPlaces.{kept_shape, given_kept, none_kept, both_kept, fewer_numbers}
use Rattle.node_table.proofs.laws.places_are_kept.Goals as goal

pub returns : goal.returns
returns c = record { shape = kept_shape; given = given_kept; none = none_kept; both = both_kept; fewer = fewer_numbers }
