use Rattle.leb_scan.proofs.Shown.{unwritten}
use Rattle.leb_scan.proofs.laws.unwritten_is_meant.Goals as goal

pub returns : goal.returns
returns c = unwritten
