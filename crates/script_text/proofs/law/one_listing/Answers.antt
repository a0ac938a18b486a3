use Rattle.script_text.proofs.MadeLines.{listing_once}
use Rattle.script_text.proofs.law.one_listing.Goals as goal

pub returns-clause-lines : goal.returns-clause-lines
returns-clause-lines c = listing_once
