use Rattle.std.proofs.Common.{ap, subst, ◌∙◌}
use Rattle.std.specs.Map.{keys_of}
use Rattle.std.specs.Ordering.{nat_cmp}
use Rattle.fs_model.specs.Files.{Tree, name_cmp, pair_cmp}
use Rattle.fs_model.specs.Proper.{ascends, IsInOrder}
use Rattle.plain_backing.specs.Cells.{seen_cells}
use Rattle.plain_backing.proofs.Counted.{keys-entries_of}
use Rattle.plain_backing.proofs.Opening.{sorted_ascends}
use Rattle.plain_backing.proofs.Seen.{sorted-seen}
use Rattle.plain_backing.proofs.tree.Tree.show_order.Goals as goal

pub returns : goal.returns
returns c =
    let cells = c.self.inside.cells in
    let P : Tree → Type 0 = λ tree. IsInOrder tree in
    subst P c.self.view_is (record {
      inodes = sorted_ascends nat_cmp (keys_of (seen_cells cells.inodes.entries)) (sorted-seen nat_cmp cells.inodes.entries c.len.ensures.ordered);
      blocks = sorted_ascends pair_cmp (keys_of (seen_cells cells.blocks.entries)) (sorted-seen pair_cmp cells.blocks.entries c.len-2.ensures.ordered);
      entries = ap (ascends name_cmp) (keys-entries_of (seen_cells cells.entries.entries)) ∙ sorted_ascends name_cmp (keys_of (seen_cells cells.entries.entries)) (sorted-seen name_cmp cells.entries.entries c.len-3.ensures.ordered);
    })
