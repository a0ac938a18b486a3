use Rattle.index_media.proofs.Moves.{root_stands}
use Rattle.index_media.proofs.law.a_root_behind_its_children_makes_an_index.Goals as goal

pub returns : goal.returns
returns c = root_stands
