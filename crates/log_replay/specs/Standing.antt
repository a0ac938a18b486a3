-- An index with its maps, as those of a list of leaves with their nodes.
use Rattle.std.specs.Prelude.{◌≡◌, ℕ, ◌==◌, not, Bool, true, false, List, [], ◌∷◌, filter, map, Option, Some}
use Rattle.std.specs.BTreeMap.{get}
use Rattle.std.specs.List.{find}
use Rattle.std.specs.Option.{option_map}
use Rattle.std.specs.Ordering.{nat_cmp}
use Rattle.index_tree.specs.declared.leaf.Leaf.{Leaf}
use Rattle.index_tree.specs.Distinct.{AreDistinct}
use Rattle.index_tree.specs.Removal.{holds}
use Rattle.index_tree.specs.Shape.{contents}
use Rattle.index_tree.specs.Tree.{shape}
use Rattle.ubifs_base.specs.declared.key.Key.{Key}
use Rattle.fs_model.specs.declared.change.Change.{Change}
use Rattle.fs_model.specs.declared.change.Change.TheVariants.{SetInode, DropEntry}
use Rattle.fs_model.specs.Files.{name_cmp}
use Rattle.leaf_map.specs.After.{goes, is_inode, kept_after}
use Rattle.leaf_map.specs.Kept.{Kept, Placed, kept_at, shown, shown_by}
use Rattle.leaf_map.specs.LeafMap.{IsLeafMap}
pub use Rattle.leaf_map.specs.RankLaws.{is_entry}
use Rattle.log_replay.specs.declared.application.Place.{Place}
use Rattle.log_replay.specs.declared.standing.Standing.{Standing}

-- a leaf of a key at a place
abbrev pub leaf_of_key : Key → Place → Leaf
leaf_of_key key place = record { key = key; lnum = place.lnum; offs = place.offs; len = place.len }

-- whether a name of a directory is shown
abbrev pub is_name_shown : ℕ × List ℕ → Option Change → Bool
is_name_shown q s = goes (DropEntry q.0 q.1) s

-- whether an inode with links is shown
abbrev pub is_linked_inode : Option Change → Bool
is_linked_inode (Some (SetInode ino inode)) = not (inode.nlink == 0)
is_linked_inode other = false

-- the leaves of a list
abbrev pub leaves : List Kept → List Leaf
leaves kept = map (λ x. x.leaf) kept

-- those that show names
abbrev pub names_in : List Kept → List Kept
names_in kept = filter (λ x. is_entry (shown_by x)) kept

-- A node that sets a name stands at the place of no name's leaf.
abbrev pub IsFreshPlace : List Kept → Placed → Type 0
IsFreshPlace kept new = is_entry (shown new.node) ≡ true → holds (kept_at new).leaf (leaves (names_in kept)) ≡ false

-- each node of these does so when it is applied
abbrev pub AreFresh : List Kept → List Placed → Type 0
AreFresh kept [] = Unit {0}
AreFresh kept (new ∷ nodes) = IsFreshPlace kept new × AreFresh (kept_after kept new) nodes

-- the leaves of the index
abbrev pub leaves_in : Standing → List Leaf
leaves_in s = contents (shape s.index.root)

-- of each inode among leaves, whether it has links
abbrev pub links_among : List Kept → ℕ → Option Bool
links_among kept ino = option_map (λ x. is_linked_inode (shown_by x)) (find (λ x. is_inode ino (shown_by x)) kept)

-- of each name among leaves, its leaf
abbrev pub leaf_of_name : List Kept → ℕ × List ℕ → Option Leaf
leaf_of_name kept q = option_map (λ x. x.leaf) (find (λ x. is_name_shown q (shown_by x)) kept)

-- The index has these leaves, which are those of an index, and no two names have one leaf; the maps say what they show.
pub record StandsForLeaves (kept : List Kept) (s : Standing) : Type 0 where
  pub in_index : leaves_in s ≡ leaves kept
  pub leaf_map : IsLeafMap kept
  pub distinct : AreDistinct (leaves (names_in kept))
  pub inodes : (ino : ℕ) → get nat_cmp s.inodes ino ≡ links_among kept ino
  pub names : (q : ℕ × List ℕ) → get name_cmp s.names q ≡ leaf_of_name kept q
