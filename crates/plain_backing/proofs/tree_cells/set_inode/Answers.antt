use Rattle.std.proofs.Common.{ap, ◌∙◌, ◌+◌, ◌-◌, arith, refl}
use Rattle.std.proofs.lemmas.Cmp.{nat_cmp_total}
use Rattle.std.proofs.lemmas.Map.Lookups.{exact_unsigned}
use Rattle.plain_backing.specs.Cells.{seen_cells}
use Rattle.fs_model.specs.Cover.{inode_bytes}
use Rattle.plain_backing.proofs.Counted.{set_counts, keeps_put, tree_same, few_orphans, orphans_set}
use Rattle.plain_backing.proofs.Seen.{seen-put}
use Rattle.plain_backing.proofs.tree_cells.set_inode.Goals as goal

pub overflow_sub-cells : goal.overflow_sub-cells
overflow_sub-cells c =
    let put = c.put-old.ensures in
    let counts = set_counts nat_cmp_total exact_unsigned inode_bytes c.args.cells.now.inodes.entries c.put-old.new.map.entries c.args.ino c.args.inode c.put-old.result put.ordered c.requires.room put.cells put.old in
    omega (arith, counts, c.requires.counted.0, c.inode_bytes-added.ensures, c.freed_inode.ensures)

pub overflow_add-cells-2 : goal.overflow_add-cells-2
overflow_add-cells-2 c =
    let few = few_orphans c.args.cells.now c.args.inode c.requires.counted.1 c.requires.counted.0 in
    omega (arith, few, c.requires.fits, c.orphans_in-more.ensures)

pub overflow_sub-cells-2 : goal.overflow_sub-cells-2
overflow_sub-cells-2 c =
    let put = c.put-old.ensures in
    let orphans = orphans_set c.args.cells.now.inodes.entries c.put-old.new.map.entries c.args.ino c.args.inode c.put-old.result c.freed_orphans.result c.args.cells.now.orphans put.ordered c.requires.room put.cells put.old c.freed_orphans.ensures c.requires.counted.1 in
    let less = orphans.0 in
    omega (arith, less, c.orphans_in-more.ensures)

pub returns : goal.returns
returns c =
    let put = c.put-old.ensures in
    let old = c.args.cells.now.inodes.entries in
    let orphans = orphans_set old c.put-old.new.map.entries c.args.ino c.args.inode c.put-old.result c.freed_orphans.result c.args.cells.now.orphans put.ordered c.requires.room put.cells put.old c.freed_orphans.ensures c.requires.counted.1 in
    let counts = set_counts nat_cmp_total exact_unsigned inode_bytes old c.put-old.new.map.entries c.args.ino c.args.inode c.put-old.result put.ordered c.requires.room put.cells put.old in
    record {
      tree = tree_same _ _ _ _ _ _ _ _ (ap seen_cells put.cells ∙ seen-put nat_cmp_total exact_unsigned old c.args.ino c.args.inode put.ordered c.requires.room) refl refl c.max-cells.ensures;
      counted = (omega (arith, counts, c.requires.counted.0, c.inode_bytes-added.ensures, c.freed_inode.ensures), ap (λ n. c.args.cells.now.orphans + n - c.freed_orphans.result) c.orphans_in-more.ensures ∙ orphans.1);
      bytes = omega (arith, c.inode_bytes-added.ensures);
      room = record { inodes = keeps_put _ _ _ _ _ put.cells; blocks = λ key h. h; entries = λ key h. h };
    }
