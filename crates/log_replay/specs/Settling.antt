-- Leaves without a node of their own go to copies, told of what a mount has read.
use Rattle.std.specs.Prelude.{◌≡◌, ℕ, not, is_some, cond, Bool, true, false, List, [], ◌∷◌, filter, map, slice_get, Option, Some, None, MatchOption}
use Rattle.std.specs.BTreeMap.{is_at}
use Rattle.std.specs.List.{AllByRecursion, list_any}
use Rattle.std.specs.Option.{option_map}
use Rattle.std.specs.Ordering.{nat_cmp}
use Rattle.media_leaf.specs.LeafNode.{IsLeaf}
use Rattle.index_tree.specs.declared.leaf.Leaf.{Leaf}
use Rattle.index_tree.specs.Order.{leaf_rank}
use Rattle.leaf_map.specs.Kept.{Kept, Placed, kept_at}
use Rattle.leaf_map.specs.Parts.{Committed, Parts, own_node}
use Rattle.leaf_map.specs.Recovered.{copies_left, copy_of_leaf, copy_of_key, is_original, stand_in}
use Rattle.journal_scan.specs.Content.{told}
use Rattle.journal_scan.specs.declared.journal_node.JournalNode.{JournalNode}
use Rattle.log_replay.specs.declared.application.Place.{Place}
use Rattle.log_replay.specs.declared.read_leaf.ReadLeaf.{ReadLeaf}
use Rattle.log_replay.specs.Copies.{at_rank, first_taken, other_leaf_nodes, Ranked}
use Rattle.log_replay.specs.Told.{IsSetting, told_leaf}

-- What stands at a leaf's place is a node of the grammar, if anything does.
abbrev pub HasGrammar : Committed → Type 0
HasGrammar c = MatchOption c.found (Unit {0}) (λ (node : Placed). IsLeaf node.node)

-- what stands at the leaves' places is of the grammar, and each copy sets an inode, a block or a name
pub record CanSettle (parts : Parts) (committed : List Committed) (left : List Placed) : Type 0 where
  pub found : AllByRecursion HasGrammar committed
  pub copies : AllByRecursion (λ c. IsSetting c.node) parts.copies
  pub copies_left : AllByRecursion (λ c. IsSetting c.node) left

-- the copies of one place in the order
abbrev pub copies_of_rank : ℕ → List Placed → List Placed
copies_of_rank r copies = filter (λ c. is_at (nat_cmp (leaf_rank (kept_at c).leaf)) r) copies

-- by the place of their keys in the order these copies are told
abbrev pub HasCopies : List Placed → Ranked → Type 0
HasCopies copies ranked = (r : ℕ) → at_rank ranked r ≡ map told (copies_of_rank r copies)

-- what is found of a leaf before any goes to its copy
abbrev pub kept_of : Committed → Option Placed → Option Kept
kept_of c None = option_map (λ node. record { leaf = c.leaf; sqnum = 0; node = node }) (stand_in c.leaf.key)
kept_of c (Some own) = Some (record { leaf = c.leaf; sqnum = own.sqnum; node = own.node })

-- where a copy of a leaf's node stands
abbrev pub copy_at : List Placed → Kept → Option Place
copy_at copies x = option_map (λ c. record { lnum = c.lnum; offs = c.offs; len = c.len }) (copy_of_leaf copies x)

-- a leaf that is read so
abbrev pub read_as : Parts → Leaf → Bool → Option Kept → ReadLeaf
read_as parts leaf own None = record { leaf = leaf; is_own = own; node = None; copy = None }
read_as parts leaf own (Some x) = record { leaf = leaf; is_own = own; node = Some (told_leaf x); copy = copy_at parts.copies x }

-- a leaf as it is read
abbrev pub leaf_read_of : Parts → Committed → ReadLeaf
leaf_read_of parts c = read_as parts c.leaf (is_some (own_node parts.named c)) (kept_of c (own_node parts.named c))

-- the copies of what own nodes of none of these leaves show
abbrev pub spare_of : Parts → List Committed → List Placed → List Placed
spare_of parts committed left = filter (λ c. not (list_any (is_original parts.named c) committed)) left

-- a leaf without a node of its own, at its copy if one is left
abbrev pub settled_at : Parts → Committed → Option Placed → ReadLeaf
settled_at parts c None = leaf_read_of parts c
settled_at parts c (Some copy) = record { leaf = c.leaf; is_own = false; node = Some (told copy); copy = None }

abbrev pub settled_one : Parts → List Placed → Committed → Option Placed → ReadLeaf
settled_one parts left c (Some own) = leaf_read_of parts c
settled_one parts left c None = settled_at parts c (copy_of_key c.leaf left)

-- the leaves, where these copies are to be had
abbrev pub settled_of : Parts → List Placed → List Committed → List ReadLeaf
settled_of parts left [] = []
settled_of parts left (c ∷ committed) =
    settled_one parts left c (own_node parts.named c) ∷ settled_of parts (copies_left left c (own_node parts.named c)) committed

-- the copies of a leaf's own node go
abbrev pub owned : ReadLeaf → List JournalNode → List JournalNode
owned read copies = by read.is_own read.node
  where
    by : Bool → Option JournalNode → List JournalNode
    by true (Some node) = other_leaf_nodes node.content copies
    by own other = copies

abbrev pub DropsOwned : ReadLeaf → Ranked → Ranked → Type 0
DropsOwned read old new = (r : ℕ) → at_rank new r ≡ cond (is_at (nat_cmp (leaf_rank read.leaf)) r) (owned read (at_rank old r)) (at_rank old r)

-- a leaf at a copy, if there is one
abbrev pub at_copy_told : ReadLeaf → Option JournalNode → ReadLeaf
at_copy_told read None = read
at_copy_told read (Some node) = record { leaf = read.leaf; is_own = false; node = Some node; copy = None }

-- a leaf without a node of its own goes to the first copy of its key, which is taken
abbrev pub SettlesLeaf : ReadLeaf → ReadLeaf → Ranked → Ranked → Type 0
SettlesLeaf read settled old new = by read.is_own
  where
    by : Bool → Type 0
    by true = (settled ≡ read) × (new ≡ old)
    by false = (settled ≡ at_copy_told read (slice_get (at_rank old (leaf_rank read.leaf)) 0))
        × ((r : ℕ) → at_rank new r ≡ cond (is_at (nat_cmp (leaf_rank read.leaf)) r) (first_taken (at_rank old r)) (at_rank old r))
