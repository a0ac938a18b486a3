use Rattle.script_text.proofs.MadeLines.{listing_given}
use Rattle.script_text.proofs.law.manifest_lines_are_given.Goals as goal

pub returns : goal.returns
returns c = listing_given
