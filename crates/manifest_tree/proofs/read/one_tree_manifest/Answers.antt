use Rattle.std.proofs.Common.{[]}
use Rattle.manifest_tree.proofs.Lines.{bad_tree_once, made_once, names_no_bad}
use Rattle.manifest_tree.proofs.read.one_tree_manifest.Goals as goal

pub returns-clause-one : goal.returns-clause-one
returns-clause-one c = λ text this that these those h k. made_once c.one_listing.ensures.lines text this that [] these those h k

pub returns-clause-none : goal.returns-clause-none
returns-clause-none c = λ text volume tree number h bad. names_no_bad c.one_listing.ensures.lines c.one_listing.ensures.none text volume h.copied h.names number h.is bad

pub returns-clause-bad : goal.returns-clause-bad
returns-clause-bad c = bad_tree_once c.one_listing.ensures.lines c.one_listing.ensures.none
