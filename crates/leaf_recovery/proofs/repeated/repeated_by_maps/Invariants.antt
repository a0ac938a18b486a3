use Rattle.std.proofs.Common.{◌≡◌, ◌++◌, [], List, drop}
use Rattle.std.specs.List.{list_any}
use Rattle.journal_scan.specs.declared.node_content.NodeContent.{NodeContent}
use Rattle.leaf_recovery.specs.declared.recovered_leaf.RecoveredLeaf.{RecoveredLeaf}
use Rattle.leaf_recovery.specs.Repeated.{repeated_behind_told}
use Rattle.leaf_recovery.specs.Seen.{has_seen}
use Rattle.leaf_recovery.specs.Things.{shows_told}
use Rattle.leaf_recovery.proofs.repeated.repeated_by_maps.Given as goal

-- the leaves so far are those of which what they show is kept
abbrev pub invariant-loop-leaf : goal.invariant-loop-leaf
invariant-loop-leaf l =
    (before : List RecoveredLeaf)
    × ((c : NodeContent) → has_seen l.seen c ≡ list_any (λ y. shows_told y.content c) before)
    × (l.repeated.items ++ repeated_behind_told before (drop l.leaf-index l.found) ≡ repeated_behind_told [] l.found)
