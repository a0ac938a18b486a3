-- The leaves of a row that stands on a volume ascend.
use Rattle.std.proofs.Common.{ℕ, ◌-◌, List, subst}
use Rattle.std.specs.Prelude.{None}
use Rattle.std.specs.List.{AllByRecursion}
use Rattle.ubifs_base.specs.Key.{IsKey}
use Rattle.index_tree.specs.Shape.{Shape, contents}
use Rattle.index_media.specs.InsertionSound.{AreKeys}
use Rattle.index_media.specs.KeyedRow.{all_clean}
use Rattle.index_media.specs.InsertionLaws.{clean_bare}
use Rattle.index_media.specs.PlacedRow.{PlacedRow, ended, leaf_at, node_at, plain, branches_of}
use Rattle.index_media.specs.Stored.{AreStored}
use Rattle.media_sys.specs.declared.branch.Branch.{Branch}
use Rattle.ubi_volume.specs.Volume.{VolumeState}
use Rattle.node_cache.specs.Loaded.{IsRowOn}
use Rattle.node_cache.specs.RowsOn.{clean_bounded, said_is_node}
use Rattle.node_cache.specs.LastBlockLaws.{Ascend, keyed_ascend}

are_keys : (media : ℕ → List ℕ) (levels : ℕ) (row : PlacedRow) → AreStored media levels row → AllByRecursion (λ (branch : Branch). IsKey branch.key) (branches_of row) → AreKeys (all_clean row)
unfolding AreStored
are_keys media levels ended s k = tt
are_keys media levels (leaf_at x rest) s k = (k.0, are_keys media levels rest s.1 k.1)
are_keys media levels (node_at b c rest) s k =
    let own = said_is_node media b (record { level = levels - 1; branches = branches_of c }) s.1 in
    (k.0, are_keys media (levels - 1) c s.2 own.keys, are_keys media levels rest s.3 k.1)

pub row_ascends : (s : VolumeState) (fanout levels : ℕ) (row : PlacedRow) → IsRowOn s fanout levels row → Ascend 0 (contents (plain row))
row_ascends s fanout levels row on =
    let P : Shape → Type 0 = λ t. Ascend 0 (contents t) in
    subst P (clean_bare row) (keyed_ascend 0 None (all_clean row) (clean_bounded 0 None row on.bounded) (are_keys s.holds levels row on.stored on.keys))
