use Rattle.leb_scan.proofs.Shown.{of_front, of_meant, of_padding, of_untorn}
use Rattle.leb_scan.proofs.laws.untorn_is_meant.Goals as goal

pub returns : goal.returns
returns c = record { items = of_untorn; front = of_front; same = of_meant; gap = of_padding }
