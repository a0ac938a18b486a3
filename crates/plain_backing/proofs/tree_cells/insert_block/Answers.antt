use Rattle.std.proofs.Common.{ℕ, ap, ◌∙◌, arith, refl}
use Rattle.plain_backing.specs.Cells.{seen_cells}
use Rattle.fs_model.specs.Cover.{block_bytes}
use Rattle.plain_backing.proofs.Counted.{insert_counts, exact_blocks, tree_same}
use Rattle.plain_backing.proofs.Orders.{pair_cmp-total}
use Rattle.plain_backing.proofs.Seen.{seen-inserted}
use Rattle.plain_backing.proofs.tree_cells.insert_block.Goals as goal

pub overflow_sub-cells : goal.overflow_sub-cells
overflow_sub-cells c =
    let put = c.in_ok-old.ensures in
    let counts = insert_counts pair_cmp-total exact_blocks block_bytes c.args.cells.now.blocks.entries c.insert.new.map.entries (c.args.ino, c.args.block) c.args.bytes c.in_ok-old.old put.ordered put.cells put.old in
    omega (arith, counts, c.requires.counted.0, c.block_bytes-added.ensures, c.freed_block.ensures)

pub returns-clause-ok : goal.returns-clause-ok
returns-clause-ok c =
    let put = c.in_ok-old.ensures in
    let key : ℕ × ℕ = (c.args.ino, c.args.block) in
    tree_same _ _ _ _ _ _ _ _ refl (ap seen_cells put.cells ∙ seen-inserted pair_cmp-total exact_blocks c.args.cells.now.blocks.entries key c.args.bytes put.ordered) refl refl

pub returns-clause-counted : goal.returns-clause-counted
returns-clause-counted c =
    let put = c.in_ok-old.ensures in
    let counts = insert_counts pair_cmp-total exact_blocks block_bytes c.args.cells.now.blocks.entries c.insert.new.map.entries (c.args.ino, c.args.block) c.args.bytes c.in_ok-old.old put.ordered put.cells put.old in
    (omega (arith, counts, c.requires.counted.0, c.block_bytes-added.ensures, c.freed_block.ensures), c.requires.counted.1)
