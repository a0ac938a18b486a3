use Rattle.index_media.proofs.Depths.{is_index}
use Rattle.index_media.proofs.Lists.{index_listed, index_there}
use Rattle.index_media.proofs.law.a_stored_index_is_an_index.Goals as goal

pub returns : goal.returns
returns c = record { index = is_index; listed = index_listed; there = index_there }
