-- What a mount makes of what it has read is a tree that a cut may leave.
use Rattle.std.proofs.Common.{◌≡◌, ℕ, List, ap, ◌∙◌}
use Rattle.std.specs.Prelude.{fold}
use Rattle.fs_model.specs.Change.{apply}
use Rattle.fs_model.specs.Files.{Tree}
use Rattle.fs_model.specs.Recovery.{Head, IsRecovered, KeepsSynced, Numbered, recovered, taken}
use Rattle.fs_laws.specs.Forgotten.{apply_in_order}
use Rattle.leaf_map.specs.Allowed.{FitsTree, in_turn}
use Rattle.leaf_map.specs.Kept.{Kept}
use Rattle.leaf_map.specs.Parts.{Parts}
use Rattle.leaf_map.specs.Recovered.{committed_highest, nodes_in_order, leaves_after, leaves_found, leaves_left, listed_left, moved_to_its_copy, recovered_of, tree_found}
use Rattle.leaf_map.specs.Shown.{tree_of}
use Rattle.leaf_map.proofs.Agrees.{agree_after}
use Rattle.leaf_map.proofs.Copies.{moved_node, same_tree}
use Rattle.leaf_map.proofs.Forgets.{forget, forgets_all, forgets_close, orphans_tree}
use Rattle.leaf_map.proofs.Replays.{map_replayed, tree_replayed}
use Rattle.leaf_map.proofs.Sorted.{leaves_sorted}

pub found_is : (parts : Parts) (committed : Tree) (changes : Numbered) → FitsTree parts committed changes → tree_found parts ≡ recovered committed changes
found_is parts committed changes fits =
    let kept : List Kept = leaves_found parts in
    let before = committed_highest parts in
    let now = (recovered_of parts).highest in
    let read = fits.nodes in
    let after : List Kept = leaves_after kept (nodes_in_order parts.nodes) in
    let start = leaves_sorted kept before fits.leaves in
    let all = tree_replayed (nodes_in_order parts.nodes) _ kept before read fits.leaves in
    let close = agree_after (listed_left parts) (in_turn changes) (tree_of kept before) committed start fits.sorted fits.shows in
    let is = map_replayed (nodes_in_order parts.nodes) _ kept read fits.leaves in
    same_tree (moved_to_its_copy parts (leaves_left parts)) (leaves_left parts) now (moved_node parts (leaves_left parts))
    ∙ orphans_tree (listed_left parts) after now is
    ∙ ap (λ t. fold forget t (listed_left parts)) all
    ∙ forgets_close (listed_left parts) (apply (tree_of kept before) (in_turn changes)) (apply committed (in_turn changes)) (apply_in_order (in_turn changes) (tree_of kept before) start) (apply_in_order (in_turn changes) committed fits.sorted) close
    ∙ forgets_all (listed_left parts) (apply committed (in_turn changes)) (apply_in_order (in_turn changes) committed fits.sorted) fits.listed

pub found_allowed : (parts : Parts) (committed : Tree) (heads : List Head) (counts : List ℕ) → KeepsSynced heads counts → FitsTree parts committed (taken heads counts) → IsRecovered committed heads (tree_found parts)
found_allowed parts committed heads counts keeps fits = record { counts = counts; synced = keeps; tree_is = found_is parts committed (taken heads counts) fits }
