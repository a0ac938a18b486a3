use Rattle.index_media.proofs.Moves.{lebs_alone}
use Rattle.index_media.proofs.law.an_index_depends_on_its_lebs_alone.Goals as goal

pub returns : goal.returns
returns c = lebs_alone
