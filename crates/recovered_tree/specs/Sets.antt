-- The changes that set what leaves show.
use Rattle.std.specs.Prelude.{◌≡◌, ℕ, List, [], ◌∷◌, Option, Some}
use Rattle.media_leaf.specs.LeafNode.{IsLeafNode, LeafNode}
use Rattle.fs_model.specs.declared.change.Change.{Change}
use Rattle.fs_model.specs.declared.change.Change.TheVariants.{SetInode, SetEntry, SetBlock}
use Rattle.leaf_map.specs.Kept.{Kept, shown, shown_by}
use Rattle.sound_image.specs.Summary.{with_a_link}
use Rattle.recovered_tree.specs.declared.leaf_sets.LeafSets.{LeafSets}

-- what these bytes show, if they are a node
abbrev pub IsShownIn : List ℕ → Option Change → Type 0
IsShownIn bytes read = (sqnum group : ℕ) (node : LeafNode) → IsLeafNode bytes sqnum group node → read ≡ shown node

-- the inode that is shown, with a link if it is a directory, before others
abbrev pub with_set_inode : Option Change → List Change → List Change
with_set_inode (Some (SetInode ino inode)) changes = SetInode ino (with_a_link inode) ∷ changes
with_set_inode shown changes = changes

-- the block or the name that is shown, before others
abbrev pub with_set_other : Option Change → List Change → List Change
with_set_other (Some (SetBlock ino number bytes)) changes = SetBlock ino number bytes ∷ changes
with_set_other (Some (SetEntry e)) changes = SetEntry e ∷ changes
with_set_other shown changes = changes

-- the inodes of leaves, in their order
abbrev pub set_inodes : List Kept → List Change
set_inodes [] = []
set_inodes (x ∷ kept) = with_set_inode (shown_by x) (set_inodes kept)

-- their blocks and names
abbrev pub set_others : List Kept → List Change
set_others [] = []
set_others (x ∷ kept) = with_set_other (shown_by x) (set_others kept)

-- these changes set what leaves show
pub record AreSetsOf (kept : List Kept) (sets : LeafSets) : Type 0 where
  pub inodes : sets.inodes.items ≡ set_inodes kept
  pub others : sets.others.items ≡ set_others kept
