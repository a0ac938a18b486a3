use Rattle.index_media.proofs.OneRow.{one_index}
use Rattle.index_media.proofs.law.a_root_leads_to_one_index.Goals as goal

pub returns : goal.returns
returns c = one_index c.one_node.ensures
