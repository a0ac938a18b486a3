-- What is recovered, by what is told.
use Rattle.std.specs.Prelude.{ℕ, List, [], map}
use Rattle.media_sys.specs.declared.ref_node.RefNode.{RefNode}
use Rattle.index_tree.specs.declared.leaf.Leaf.{Leaf}
use Rattle.journal_scan.specs.declared.journal_node.JournalNode.{JournalNode}
use Rattle.log_replay.specs.declared.committed_leaf.CommittedLeaf.{CommittedLeaf}
use Rattle.leaf_recovery.specs.declared.recovered_leaf.RecoveredLeaf.{RecoveredLeaf}
use Rattle.leaf_recovery.specs.Applied.{leaves_left_told, listed_left_told}
use Rattle.leaf_recovery.specs.Found.{found_leaves_told, lost_leaves_told, spare_copies_told}
use Rattle.leaf_recovery.specs.Lost.{empty_told, lost_leaf_told, spare_names_told, unnamed_told}
use Rattle.leaf_recovery.specs.Moved.{all_moved_told}
use Rattle.leaf_recovery.specs.Repeated.{repeated_behind_told}

-- the committed leaves, each with its node, and those that aren't found
abbrev pub leaves_found_told : List RefNode → List CommittedLeaf → List JournalNode → List RecoveredLeaf
leaves_found_told references committed copies = found_leaves_told references (spare_copies_told references committed copies) committed

abbrev pub lost_told : List RefNode → List CommittedLeaf → List JournalNode → List CommittedLeaf
lost_told references committed copies = lost_leaves_told references (spare_copies_told references committed copies) committed

-- the leaves after recovery
abbrev pub recovered_told : List RefNode → List CommittedLeaf → List JournalNode → List JournalNode → List ℕ → List RecoveredLeaf
recovered_told references committed nodes copies listed =
    all_moved_told references copies (leaves_left_told (leaves_found_told references committed copies) nodes (listed_left_told references committed listed))

-- those that are found and show what one before them shows
abbrev pub repeated_told : List RefNode → List CommittedLeaf → List JournalNode → List RecoveredLeaf
repeated_told references committed copies = repeated_behind_told [] (leaves_found_told references committed copies)

-- the lost leaves of which no node can be read, where the journal hasn't replaced them
abbrev pub missing_told : List RefNode → List CommittedLeaf → List JournalNode → List JournalNode → List Leaf
missing_told references committed nodes copies =
    unnamed_told (spare_names_told references committed (leaves_found_told references committed copies) nodes) (map (lost_leaf_told references nodes) (lost_told references committed copies))

-- and those whose node names no inode
abbrev pub empty_names_told : List RefNode → List CommittedLeaf → List JournalNode → List JournalNode → List Leaf
empty_names_told references committed nodes copies = empty_told (map (lost_leaf_told references nodes) (lost_told references committed copies))
