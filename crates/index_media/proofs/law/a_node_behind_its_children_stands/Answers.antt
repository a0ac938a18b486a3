use Rattle.index_media.proofs.Moves.{index_stays, row_stays, parent_stands, beside, node_written}
use Rattle.index_media.proofs.Taken.{with_place_disjoint}
use Rattle.index_media.proofs.law.a_node_behind_its_children_stands.Goals as goal

pub returns : goal.returns
returns c = record { stays = index_stays; row_stays = row_stays; written = node_written; parent = parent_stands; beside = beside; disjoint = with_place_disjoint }
