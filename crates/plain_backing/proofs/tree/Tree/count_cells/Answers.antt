use Rattle.std.proofs.Common.{◌≤◌, ℕ, List, [], ◌∷◌, Option, Some, None, length, subst, arith}
use Rattle.std.proofs.lemmas.List.{length-map}
use Rattle.fs_model.specs.declared.inode.Entry.{Entry}
use Rattle.fs_model.specs.Files.{Tree}
use Rattle.plain_backing.specs.declared.tree_cells.Named.{Named}
use Rattle.plain_backing.specs.Cells.{seen_cells}
use Rattle.plain_backing.specs.TreeCells.{entry_of}
use Rattle.plain_backing.proofs.tree.Tree.count_cells.Goals as goal

-- no more is seen than there are cells
seen_few : {K V : Type 0} (cells : List (K × Option V)) → length (seen_cells cells) ≤ length cells
seen_few [] = omega arith
seen_few ((key, None) ∷ cells) = let few = seen_few cells in omega (arith, few)
seen_few ((key, Some value) ∷ cells) = let few = seen_few cells in omega (arith, few)

pub returns-clause-inodes : goal.returns-clause-inodes
returns-clause-inodes c =
    let few = seen_few c.self.inside.cells.inodes.entries in
    subst (λ (t : Tree). length t.inodes ≤ c.len.result) c.self.view_is (omega (arith, few, c.len.ensures))

pub returns-clause-blocks : goal.returns-clause-blocks
returns-clause-blocks c =
    let few = seen_few c.self.inside.cells.blocks.entries in
    subst (λ (t : Tree). length t.blocks ≤ c.len-2.result) c.self.view_is (omega (arith, few, c.len-2.ensures))

pub returns-clause-entries : goal.returns-clause-entries
returns-clause-entries c =
    let few = seen_few c.self.inside.cells.entries.entries in
    let entry : (ℕ × List ℕ) × Named → (ℕ × List ℕ) × Entry = λ e. (e.0, entry_of e.0 e.1) in
    let as_many = length-map (seen_cells c.self.inside.cells.entries.entries) entry in
    subst (λ (t : Tree). length t.entries ≤ c.len-3.result) c.self.view_is (omega (arith, few, as_many, c.len-3.ensures))
