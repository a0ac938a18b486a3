use Rattle.log_replay.proofs.Places.{nodes_set}
use Rattle.log_replay.proofs.laws.what_fits_leaves_is_of_a_journal.Goals as goal

pub returns : goal.returns
returns c = λ parts kept fits distinct places. record {
  copies = nodes_set kept parts.copies fits.leaves.keyed fits.copies;
  found = c.found_leaves_are_of_an_index.ensures parts kept fits;
  distinct = distinct;
  places = places;
}
