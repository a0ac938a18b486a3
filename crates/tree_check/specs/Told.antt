-- What leaves show, as it is told.
use Rattle.std.specs.Prelude.{◌≡◌, List, [], ◌∷◌, ⊤, Option, Some, None}
use Rattle.ubifs_base.specs.Key.{key_words}
use Rattle.fs_model.specs.declared.change.Change.{Change}
use Rattle.fs_model.specs.declared.change.Change.TheVariants as changes
use Rattle.leaf_map.specs.Kept.{Kept, shown_by}
use Rattle.tree_check.specs.declared.shown_leaf.Shown.{Shown}
use Rattle.tree_check.specs.declared.shown_leaf.Shown.TheVariants.{Inode, Entry, Deletion, Block, Truncation, Nothing}
use Rattle.tree_check.specs.declared.shown_leaf.ShownLeaf.{ShownLeaf}

-- what a leaf shows is told so; no leaf shows an inode that goes
abbrev pub shown_told : Option Change → Option Shown
shown_told None = Some Nothing
shown_told (Some (changes.SetInode ino inode)) = Some (Inode ino inode.kind inode.nlink)
shown_told (Some (changes.SetEntry e)) = Some (Entry e.dir e.name e.ino e.kind)
shown_told (Some (changes.DropEntry dir name)) = Some (Deletion dir name)
shown_told (Some (changes.SetBlock ino number bytes)) = Some (Block ino number)
shown_told (Some (changes.CutBlocks ino old_size new_size)) = Some (Truncation ino new_size)
shown_told (Some (changes.DropInode ino)) = None

-- this is told of a leaf: its place, the number in its key, and what it shows
pub record IsShownBy (x : Kept) (leaf : ShownLeaf) : Type 0 where
  pub lnum : leaf.lnum ≡ x.leaf.lnum
  pub offs : leaf.offs ≡ x.leaf.offs
  pub number : leaf.number ≡ (key_words x.leaf.key).0
  pub shown : shown_told (shown_by x) ≡ Some leaf.shown

-- of each leaf, in order
abbrev pub AreShownBy : List Kept → List ShownLeaf → Type 0
AreShownBy [] [] = ⊤
AreShownBy [] (leaf ∷ leaves) = ⊥
AreShownBy (x ∷ kept) [] = ⊥
AreShownBy (x ∷ kept) (leaf ∷ leaves) = IsShownBy x leaf × AreShownBy kept leaves
