use Rattle.leb_scan.proofs.Shown.{shown}
use Rattle.leb_scan.proofs.laws.meant_item.Goals as goal

pub returns : goal.returns
returns c = shown
