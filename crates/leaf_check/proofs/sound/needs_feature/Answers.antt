use Rattle.std.proofs.Common.{arith, sym, ◌∙◌}
use Rattle.leaf_check.proofs.KnownNodes.{block_known, entry_known}
use Rattle.leaf_check.proofs.sound.needs_feature.Goals as goal

pub returns-in-Data-clause-no : goal.returns-in-Data-clause-no
returns-in-Data-clause-no c = λ no. block_known c.args.bytes.now c.args.found.sqnum c.args.found.group c.requires.node.0 (λ i. omega (arith, c.type_inv.bytes i)) c.requires.node.1.is (sym c.in-Data.is ∙ c.requires.node.1.kind)

pub returns-in-Entry-clause-no : goal.returns-in-Entry-clause-no
returns-in-Entry-clause-no c = λ no. entry_known c.args.bytes.now c.args.found.sqnum c.args.found.group c.requires.node.0 (λ i. omega (arith, c.type_inv.bytes i)) c.requires.node.1.is (sym c.in-Entry.is ∙ c.requires.node.1.kind)

pub inode_needs-requires : goal.inode_needs-requires
inode_needs-requires c = (c.args.found.sqnum, c.args.found.group, c.requires.node.0, c.requires.node.1.is, sym c.in-Inode.is ∙ c.requires.node.1.kind)
