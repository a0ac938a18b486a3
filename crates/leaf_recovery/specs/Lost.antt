-- The leaves that recovery can't find, by what is told, and which of them the journal hasn't replaced.
use Rattle.std.specs.Prelude.{ℕ, ◌==◌, ◌&&◌, not, is_some, Bool, true, false, if◌then◌else◌, List, [], ◌∷◌, ◌++◌, filter, map, Option, Some, None}
use Rattle.std.specs.List.{find, list_any}
use Rattle.media_sys.specs.declared.ref_node.RefNode.{RefNode}
use Rattle.index_tree.specs.declared.leaf.Leaf.{Leaf}
use Rattle.index_tree.specs.Order.{key_rank, leaf_rank}
use Rattle.index_tree.specs.Removal.{same_leaf}
use Rattle.journal_scan.specs.declared.node_content.NodeContent.{NodeContent}
use Rattle.journal_scan.specs.declared.node_content.NodeContent.TheVariants.{Truncation}
use Rattle.journal_scan.specs.declared.journal_node.JournalNode.{JournalNode}
use Rattle.log_replay.specs.declared.committed_leaf.CommittedLeaf.{CommittedLeaf}
use Rattle.leaf_recovery.specs.declared.lost_leaf.LostLeaf.{LostLeaf}
use Rattle.leaf_recovery.specs.declared.recovered_leaf.RecoveredLeaf.{RecoveredLeaf}
use Rattle.leaf_recovery.specs.Named.{in_bud_told}
use Rattle.leaf_recovery.specs.Things.{leaf_told, node_key_told, same_name_told, shows_thing}

-- whether a node has a leaf's key, place and length, but shows nothing
abbrev pub is_nothing_told : List RefNode → Leaf → JournalNode → Bool
is_nothing_told references leaf node = not (in_bud_told references leaf) && not (shows_thing node.content) && same_leaf leaf (leaf_told node)

-- whether what stands at a leaf's place is such a node
abbrev pub shows_nothing_told : List RefNode → CommittedLeaf → Bool
shows_nothing_told references x = by x.found
  where
    by : Option JournalNode → Bool
    by None = false
    by (Some node) = is_nothing_told references x.leaf node

-- whether one of some nodes has this name
abbrev pub has_name_told : List JournalNode → NodeContent → Bool
has_name_told nodes content = list_any (λ y. same_name_told content y.content) nodes

-- whether the journal has a node of the name of a lost leaf that can be read
abbrev pub is_renamed_told : List JournalNode → CommittedLeaf → Bool
is_renamed_told nodes x = by x.found
  where
    by : Option JournalNode → Bool
    by None = false
    by (Some node) = has_name_told nodes node.content

-- what is kept of a leaf that is lost
abbrev pub lost_leaf_told : List RefNode → List JournalNode → CommittedLeaf → LostLeaf
lost_leaf_told references nodes x = record { leaf = x.leaf; is_empty = shows_nothing_told references x; is_renamed = is_renamed_told nodes x }

-- whether a committed leaf has a node that can be read, with this name
abbrev pub reads_name_told : List RefNode → NodeContent → CommittedLeaf → Bool
reads_name_told references content x = by x.found
  where
    by : Option JournalNode → Bool
    by None = false
    by (Some node) = same_name_told node.content content && not (in_bud_told references x.leaf)

-- whether a leaf that can be read, or one that is found, has a node's name
abbrev pub is_taken_told : List RefNode → List CommittedLeaf → List RecoveredLeaf → JournalNode → Bool
is_taken_told references committed found y =
    if list_any (reads_name_told references y.content) committed then true else list_any (λ k. same_name_told k.content y.content) found

-- the nodes of the journal that may stand for names that can't be read
abbrev pub spare_names_told : List RefNode → List CommittedLeaf → List RecoveredLeaf → List JournalNode → List JournalNode
spare_names_told references committed found nodes = filter (λ y. not (is_taken_told references committed found y)) nodes

-- whether a node makes a leaf at this place in the order
abbrev pub has_rank_told : ℕ → NodeContent → Bool
has_rank_told rank (Truncation ino size) = false
has_rank_told rank content = key_rank (node_key_told content) == rank

-- the node that stands for a lost leaf whose name can't be read: the first of its key
abbrev pub stands_for_told : List JournalNode → Leaf → Option JournalNode
stands_for_told names leaf = find (λ y. has_rank_told (leaf_rank leaf) y.content) names

-- the nodes of other names
abbrev pub names_left_told : Option JournalNode → List JournalNode → List JournalNode
names_left_told None names = names
names_left_told (Some y) names = filter (λ z. not (same_name_told y.content z.content)) names

-- the leaves among lost ones that the journal hasn't replaced, where no node can be read
abbrev pub unnamed_told : List JournalNode → List LostLeaf → List Leaf
unnamed_told names [] = []
unnamed_told names (x ∷ lost) =
    if x.is_empty then unnamed_told names lost
    else (if is_some (stands_for_told names x.leaf) then [] else x.leaf ∷ []) ++ unnamed_told (names_left_told (stands_for_told names x.leaf) names) lost

-- the leaves among lost ones that the journal hasn't replaced, whose node names no inode
abbrev pub empty_told : List LostLeaf → List Leaf
empty_told lost = map (λ x. x.leaf) (filter (λ x. x.is_empty && not x.is_renamed) lost)
