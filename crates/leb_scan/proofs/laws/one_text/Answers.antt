use Rattle.leb_scan.proofs.Texts.{one}
use Rattle.leb_scan.proofs.laws.one_text.Goals as goal

pub returns : goal.returns
returns c = one
