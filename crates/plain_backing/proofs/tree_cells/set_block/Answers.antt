use Rattle.std.proofs.Common.{ℕ, ap, ◌∙◌, arith}
use Rattle.plain_backing.specs.Cells.{seen_cells}
use Rattle.fs_model.specs.Cover.{block_bytes}
use Rattle.plain_backing.proofs.Counted.{block_set, held_there, set_counts, keeps_put, exact_blocks}
use Rattle.plain_backing.proofs.Orders.{pair_cmp-total}
use Rattle.plain_backing.proofs.Seen.{seen-put}
use Rattle.plain_backing.proofs.tree_cells.set_block.Goals as goal

pub overflow_sub-cells : goal.overflow_sub-cells
overflow_sub-cells c =
    let put = c.put-old.ensures in
    let counts = set_counts pair_cmp-total exact_blocks block_bytes c.args.cells.now.blocks.entries c.put-old.new.map.entries (c.args.ino, c.args.block) c.args.bytes c.put-old.result put.ordered c.requires.room put.cells put.old in
    omega (arith, counts, c.requires.counted.0, c.block_bytes-added.ensures, c.freed_block.ensures)

pub returns : goal.returns
returns c =
    let put = c.put-old.ensures in
    let old = c.args.cells.now.blocks.entries in
    let key : ℕ × ℕ = (c.args.ino, c.args.block) in
    let there = held_there c.held.result _ c.is_none.result c.held.ensures c.is_none.ensures c.if-is_none.false in
    let counts = set_counts pair_cmp-total exact_blocks block_bytes old c.put-old.new.map.entries key c.args.bytes c.put-old.result put.ordered c.requires.room put.cells put.old in
    record {
      tree = block_set c.args.cells.now c.args.ino c.args.block c.max-cells.result c.args.bytes _ there (ap seen_cells put.cells ∙ seen-put pair_cmp-total exact_blocks old key c.args.bytes put.ordered c.requires.room) c.max-cells.ensures;
      counted = (omega (arith, counts, c.requires.counted.0, c.block_bytes-added.ensures, c.freed_block.ensures), c.requires.counted.1);
      bytes = omega (arith, c.block_bytes-added.ensures);
      room = record { inodes = λ key h. h; blocks = keeps_put _ _ _ _ _ put.cells; entries = λ key h. h };
    }
