-- The index with the leaves where they were found, and what these show.
use Rattle.std.specs.Prelude.{◌≡◌, ◌^◌, nat_lt, Bool, true, if◌then◌else◌, List, [], ◌∷◌, map, Option, Some, None, MatchOption}
use Rattle.std.specs.List.{AllByRecursion}
use Rattle.std.specs.Option.{option_map}
use Rattle.ubifs_base.specs.declared.key.Key.{Key}
use Rattle.ubifs_base.specs.declared.key.Key.TheVariants.{Ino, Block, Dent, Xent}
use Rattle.index_tree.specs.declared.leaf.Leaf.{Leaf}
use Rattle.index_tree.specs.Distinct.{AreDistinct}
use Rattle.index_tree.specs.Removal.{without}
use Rattle.index_tree.specs.Replacement.{swapped}
use Rattle.leaf_map.specs.Kept.{Kept}
use Rattle.leaf_map.specs.LeafMap.{IsKeyed}
use Rattle.journal_scan.specs.declared.journal_node.JournalNode.{JournalNode}
use Rattle.log_replay.specs.declared.application.Place.{Place}
use Rattle.log_replay.specs.declared.read_leaf.ReadLeaf.{ReadLeaf}
use Rattle.log_replay.specs.declared.standing.Standing.{Standing}
use Rattle.log_replay.specs.Changes.{place_of_node}
use Rattle.log_replay.specs.Noting.{Notes, Says}
use Rattle.log_replay.specs.Standing.{leaf_of_key, leaves, leaves_in}
use Rattle.log_replay.specs.Told.{told_leaf}

-- whether the parts of a key fit
abbrev pub is_key : Key → Bool
is_key (Ino ino) = true
is_key (Block ino number) = nat_lt number (2 ^ 29)
is_key (Dent dir hash) = nat_lt hash (2 ^ 29)
is_key (Xent ino hash) = nat_lt hash (2 ^ 29)

-- leaves with one of them at another place
abbrev pub moved_to : Place → Leaf → List Leaf → List Leaf
moved_to place leaf xs = if is_key leaf.key then swapped leaf (leaf_of_key leaf.key place) xs else xs

-- a committed leaf, and as what it was found, if it was
pub record LeafFound : Type 0 where
  pub leaf : Leaf
  pub kept : Option Kept

-- the leaves that were found
abbrev pub present_leaves : List LeafFound → List Kept
present_leaves [] = []
present_leaves (f ∷ found) = with_kept f.kept (present_leaves found)
  where
    with_kept : Option Kept → List Kept → List Kept
    with_kept None kept = kept
    with_kept (Some x) kept = x ∷ kept

-- a leaf that was found has the key of what it shows, which is that of the committed leaf
pub record IsLeafSound (leaf : Leaf) (x : Kept) : Type 0 where
  pub keyed : IsKeyed x
  pub key : x.leaf.key ≡ leaf.key
  pub is_key : is_key leaf.key ≡ true

abbrev pub IsFoundWell : LeafFound → Type 0
IsFoundWell f = MatchOption f.kept (Unit {0}) (IsLeafSound f.leaf)

-- what is told of leaves
abbrev pub pair_told : ReadLeaf → Leaf × Option JournalNode
pair_told read = (read.leaf, read.node)

abbrev pub pair_found : LeafFound → Leaf × Option JournalNode
pair_found f = (f.leaf, option_map told_leaf f.kept)

-- The index has these committed leaves, each as it is told, and nothing is kept of them yet.
pub record AreSettled (found : List LeafFound) (s : Standing) (settled : List ReadLeaf) : Type 0 where
  pub in_index : leaves_in s ≡ map (λ f. f.leaf) found
  pub told : map pair_told settled ≡ map pair_found found
  pub distinct : AreDistinct (map (λ f. f.leaf) found)
  pub well : AllByRecursion IsFoundWell found
  pub says : Says [] s

-- The index has the leaves that were found, and the maps say what they show.
pub record ArePlaced (found : List LeafFound) (s : Standing) : Type 0 where
  pub in_index : leaves_in s ≡ leaves (present_leaves found)
  pub says : Says (present_leaves found) s

-- a leaf without a node goes, and one with a node goes where it stands, and what it shows is kept
abbrev pub Places : ReadLeaf → Standing → Standing → Type 0
Places read s t = by read.node
  where
    by : Option JournalNode → Type 0
    by None = (leaves_in t ≡ without read.leaf (leaves_in s)) × (t.inodes ≡ s.inodes) × (t.names ≡ s.names)
    by (Some node) = (between : Standing) × (leaves_in between ≡ moved_to (place_of_node node) read.leaf (leaves_in s)) × (between.inodes ≡ s.inodes) × (between.names ≡ s.names)
        × (t.index ≡ between.index) × Notes node between t
