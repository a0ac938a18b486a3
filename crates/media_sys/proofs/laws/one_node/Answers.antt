use Rattle.media_sys.proofs.SystemLaws.{one}
use Rattle.media_sys.proofs.laws.one_node.Goals as goal

pub returns : goal.returns
returns c = one
