-- What the group of an operation asks for.
use Rattle.std.proofs.Common.{◌≡◌, ℕ, List, [], ◌∷◌, refl, sym, ap, ◌∙◌, arith}
use Rattle.std.specs.Prelude.{sum_by}
use Rattle.std.specs.List.{AllByRecursion}
use Rattle.std.specs.Option.{option_map_or}
use Rattle.std.proofs.lemmas.List.Sums.{sum_by-cons}
use Rattle.fs_model.specs.declared.change.Change.{Change}
use Rattle.fs_model.specs.declared.change.Change.TheVariants.{SetInode, SetEntry, DropEntry, SetBlock, CutBlocks, DropInode}
use Rattle.fs_model.specs.Cover.{inode_bytes}
use Rattle.fs_model.specs.Files.{Tree, inode_at}
use Rattle.fs_model.specs.Need.{change_bytes}
use Rattle.op_groups.specs.Facts.{IsGone, bytes_asked}
use Rattle.vfs_ops.specs.Operations.{LeavesOthers, gone_bytes}

-- the bytes of the node of a number's inode
abbrev pub bytes_at : Tree → ℕ → ℕ
bytes_at tree ino = option_map_or inode_bytes (inode_at tree ino) 160

one_goes : (tree : Tree) (ino gone : ℕ) (group : List Change) → AllByRecursion (LeavesOthers ino) group → gone ≡ bytes_at tree ino → IsGone tree gone group
one_goes tree ino gone [] all is = tt
one_goes tree ino gone (SetInode n inode ∷ group) all is = (refl, one_goes tree ino gone group all.1 is)
one_goes tree ino gone (SetEntry entry ∷ group) all is = (refl, one_goes tree ino gone group all.1 is)
one_goes tree ino gone (DropEntry dir name ∷ group) all is = (refl, one_goes tree ino gone group all.1 is)
one_goes tree ino gone (SetBlock n block bytes ∷ group) all is = (refl, one_goes tree ino gone group all.1 is)
one_goes tree ino gone (CutBlocks n old_size new_size ∷ group) all is = (refl, one_goes tree ino gone group all.1 is)
one_goes tree ino gone (DropInode n ∷ group) all is = (ap (λ m. bytes_at tree m) all.0 ∙ sym is, one_goes tree ino gone group all.1 is)

-- what goes with a group is the first inode that does
pub goes_first : (tree : Tree) (ino gone : ℕ) (group : List Change) → AllByRecursion (LeavesOthers ino) group → gone ≡ gone_bytes tree group → IsGone tree gone group
goes_first tree ino gone [] all is = tt
goes_first tree ino gone (SetInode n inode ∷ group) all is = (refl, goes_first tree ino gone group all.1 is)
goes_first tree ino gone (SetEntry entry ∷ group) all is = (refl, goes_first tree ino gone group all.1 is)
goes_first tree ino gone (DropEntry dir name ∷ group) all is = (refl, goes_first tree ino gone group all.1 is)
goes_first tree ino gone (SetBlock n block bytes ∷ group) all is = (refl, goes_first tree ino gone group all.1 is)
goes_first tree ino gone (CutBlocks n old_size new_size ∷ group) all is = (refl, goes_first tree ino gone group all.1 is)
goes_first tree ino gone (DropInode n ∷ group) all is = (sym is, one_goes tree ino gone group all.1 (is ∙ ap (λ m. bytes_at tree m) all.0))

-- what is reckoned without the tree is what a group's nodes take
pub sum_same : (tree : Tree) (gone : ℕ) (group : List Change) → IsGone tree gone group → sum_by (bytes_asked gone) group ≡ sum_by (change_bytes tree) group
sum_same tree gone [] all = refl
sum_same tree gone (change ∷ group) all =
    let a = sum_by-cons (bytes_asked gone) change group in
    let b = sum_by-cons (change_bytes tree) change group in
    let first = all.0 in
    let rest = sum_same tree gone group all.1 in
    omega (arith, a, b, first, rest)
