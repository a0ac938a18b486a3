use Rattle.std.proofs.Common.{None, Some, sym, ◌∙◌}
use Rattle.index_tree.proofs.LastBlockLaws.{last_block-greatest, last_block-none}
use Rattle.index_tree.specs.Shape.{contents}
use Rattle.index_tree.specs.Tree.{shape}
use Rattle.index_tree.proofs.LastLeaf.{found_block, no_block}
use Rattle.index_tree.proofs.index.Index.last_of.Goals as goal

pub returns-then-is_block_of-clause-greatest : goal.returns-then-is_block_of-clause-greatest
returns-then-is_block_of-clause-greatest c =
    let xs = contents (shape c.args.self.now.root) in
    let x = c.in_ok-leaf.leaf in
    let e = found_block c.args.ino _ xs _ x c.args.self.now.ordered c.args.self.now.keyed c.last_rank.ensures c.last_rooted.ensures c.in_ok-leaf.was (sym c.is_block_of.ensures ∙ c.if-is_block_of.true) in
    last_block-greatest c.args.ino xs (Some x) c.args.self.now.ordered e

pub returns-clause-none : goal.returns-clause-none
returns-clause-none c =
    let xs = contents (shape c.args.self.now.root) in
    let x = c.in_ok-leaf.leaf in
    let e = no_block c.args.ino _ xs _ x c.args.self.now.ordered c.args.self.now.keyed c.last_rank.ensures c.last_rooted.ensures c.in_ok-leaf.was (sym c.is_block_of.ensures ∙ c.if-is_block_of.false) in
    last_block-none c.args.ino xs None e
