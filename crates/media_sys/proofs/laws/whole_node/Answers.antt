use Rattle.media_sys.proofs.SystemLaws.{whole}
use Rattle.media_sys.proofs.laws.whole_node.Goals as goal

pub returns : goal.returns
returns c = whole
