-- Each event keeps the files.
use Rattle.std.proofs.Common.{◌≡◌, ℕ, List, map, ◌∙◌, Option, Some, None}
use Rattle.index_tree.specs.Distinct.{AreDistinct}
use Rattle.leaf_map.specs.Kept.{Kept}
use Rattle.leaf_map.specs.Shown.{tree_of}
use Rattle.store_model.specs.Events.{at_its_copy, Copying, end_commit, free_victim, move, start, write_index}
use Rattle.store_model.specs.Invariant.{HasFiles}
use Rattle.store_model.specs.Legal.{CanMove}
use Rattle.store_model.specs.Store.{Moving, Next, Store}
use Rattle.store_model.proofs.Moves.{copied_map, copy_node}

-- leaves that stand elsewhere show the same
abbrev pub PlacesLaw : Type 0
PlacesLaw = (go : Kept → Kept) (kept : List Kept) (highest : ℕ) → ((x : Kept) → (go x).node ≡ x.node) → tree_of (map go kept) highest ≡ tree_of kept highest

pub moved_files : PlacesLaw → (m : Store) (c : Copying) → CanMove m c → AreDistinct (map (λ x. x.leaf) m.live) → HasFiles m → HasFiles (move c m)
moved_files places m c can d f = record {
  leaves = copied_map c m.live d can.live can.node_is f.leaves;
  tree = places (at_its_copy c) m.live m.tree.highest (copy_node c) ∙ f.tree;
  index = can.index.contents_are;
}

pub freed_files : (m : Store) (moving : Option Moving) → HasFiles m → HasFiles (free_victim m moving)
freed_files m None f = f
freed_files m (Some moving) f = record { leaves = f.leaves; tree = f.tree; index = f.index }

pub started_files : (m : Store) (taken : List ℕ) → HasFiles m → HasFiles (start taken m)
started_files m taken f = record { leaves = f.leaves; tree = f.tree; index = f.index }

pub written_files : (m : Store) (next : Option Next) → HasFiles m → HasFiles (write_index m next)
written_files m None f = f
written_files m (Some next) f = record { leaves = f.leaves; tree = f.tree; index = f.index }

pub ended_files : (m : Store) (next : Option Next) → HasFiles m → HasFiles (end_commit m next)
ended_files m None f = f
ended_files m (Some next) f = record { leaves = f.leaves; tree = f.tree; index = f.index }
