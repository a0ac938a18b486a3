-- Leaves as an index has them: each with its own node, in order of key, and none twice.
use Rattle.std.specs.Prelude.{◌≡◌, ◌<◌, ◌^◌, ◌&&◌, not, Bool, true, false, IsTrue, List, [], ◌∷◌, map, Option, Some, None}
use Rattle.std.specs.List.{list_all, AllByRecursion}
use Rattle.ubifs_base.specs.declared.key.Key.TheVariants.{Ino, Block, Dent}
use Rattle.ubifs_base.specs.R5.{r5_of}
use Rattle.index_tree.specs.declared.leaf.Leaf.{Leaf}
use Rattle.index_tree.specs.Order.{ordered_from}
use Rattle.fs_model.specs.declared.change.Change.{Change}
use Rattle.fs_model.specs.declared.change.Change.TheVariants.{SetInode, SetEntry, SetBlock}
use Rattle.leaf_map.specs.After.{goes}
use Rattle.leaf_map.specs.Kept.{Kept, shown_by}

-- what is shown is an inode, a block or an entry, and the leaf has its key
abbrev pub HasKeyOf : Leaf → Option Change → Type 0
HasKeyOf leaf (Some (SetInode ino inode)) = leaf.key ≡ Ino ino
HasKeyOf leaf (Some (SetBlock ino number bytes)) = (leaf.key ≡ Block ino number) × (number < 2 ^ 29)
HasKeyOf leaf (Some (SetEntry e)) = leaf.key ≡ Dent e.dir (r5_of e.name)
HasKeyOf leaf other = ⊥

-- a leaf shows something, and has its key
abbrev pub IsKeyed : Kept → Type 0
IsKeyed x = HasKeyOf x.leaf (shown_by x)

-- whether two leaves show the same inode, block or name
abbrev pub shows_same : Option Change → Option Change → Bool
shows_same None other = false
shows_same (Some change) other = goes change other

-- whether no leaf shows what one behind it shows
abbrev pub are_apart : List Kept → Bool
are_apart [] = true
are_apart (x ∷ kept) = list_all (λ y. not (shows_same (shown_by x) (shown_by y))) kept && are_apart kept

-- the leaves of an index, with their nodes
pub record IsLeafMap (kept : List Kept) : Type 0 where
  pub keyed : AllByRecursion IsKeyed kept
  pub ordered : IsTrue (ordered_from 0 (map (λ x. x.leaf) kept))
  pub apart : IsTrue (are_apart kept)
