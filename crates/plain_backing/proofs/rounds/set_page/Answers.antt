use Rattle.std.proofs.Common.{refl}
use Rattle.plain_backing.specs.TreeCells.{tree_of_cells}
use Rattle.plain_backing.proofs.Counted.{page_set, tree_same}
use Rattle.plain_backing.proofs.rounds.set_page.Goals as goal

pub returns-in-Ok-clause-ok : goal.returns-in-Ok-clause-ok
returns-in-Ok-clause-ok c =
    let same = tree_same _ _ _ _ _ _ _ _ c.in_ok-make_cell.ensures.same refl refl refl in
    page_set (tree_of_cells c.args.cells.now) _ (tree_of_cells c.insert_block.new.cells) (tree_of_cells c.set_inode.new.cells) c.args.page.now c.in_ok-inode.inode c.in_ok-bytes.bytes c.in_ok-inode.ensures c.in_ok-bytes.ensures same c.in-Ok.ensures.ok c.set_inode.ensures.tree
