use Rattle.std.proofs.Common.{◌∙◌, ap}
use Rattle.journal_scan.specs.Content.{highest_told}
use Rattle.journal_scan.proofs.Numbers.{highest_is}
use Rattle.journal_scan.proofs.read.highest_in.Goals as goal

pub returns : goal.returns
returns c = λ xs told. c.highest_told.ensures ∙ ap highest_told told ∙ highest_is 0 xs
