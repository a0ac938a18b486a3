use Rattle.leb_scan.proofs.Aligned.{aligned}
use Rattle.leb_scan.proofs.laws.aligned_nodes.Goals as goal

pub returns : goal.returns
returns c = aligned
