use Rattle.manifest_tree.proofs.Lines.{made_once, names_no_bad, names_once}
use Rattle.manifest_tree.proofs.read.one_named_manifest.Goals as goal

pub returns-clause-one : goal.returns-clause-one
returns-clause-one c = names_once c.one_listing.ensures.lines

pub returns-clause-made : goal.returns-clause-made
returns-clause-made c = made_once c.one_listing.ensures.lines

pub returns-clause-none : goal.returns-clause-none
returns-clause-none c = names_no_bad c.one_listing.ensures.lines c.one_listing.ensures.none
