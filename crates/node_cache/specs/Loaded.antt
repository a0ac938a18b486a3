-- What stands on a volume where an index is loaded from it.
use Rattle.std.specs.Prelude.{◌<◌, ℕ, IsTrue, All, None, Result}
use Rattle.std.specs.List.{AllByRecursion}
use Rattle.ubifs_base.specs.Key.{IsKey}
use Rattle.index_tree.specs.Shape.{fits}
use Rattle.media_sys.specs.declared.branch.Branch.{Branch}
use Rattle.index_media.specs.Keys.{AreBounded}
use Rattle.index_media.specs.PlacedRow.{PlacedRow, plain, branches_of, lebs_of}
use Rattle.index_media.specs.Stored.{AreStored, IsStoredIndex}
use Rattle.ubi_volume.specs.Faults.{HasAreaCause, StaysSureArea}
use Rattle.ubi_volume.specs.Volume.{VolumeState, Keeps, SameShape}
use Rattle.ubi_volume.specs.declared.fault.AreaFault.{AreaFault}

-- a call that only reads a volume
pub record IsReadOnlyCall {T : Type 0} (old new : VolumeState) (result : Result T AreaFault) : Type 0 where
  pub keeps : Keeps old new
  pub shape : SameShape old new
  pub cause : HasAreaCause old.faults new.faults result
  pub sure : StaysSureArea old new result

-- an index stands in a volume's LEBs, from the root's branch on, to which a key is given
pub record IsIndexOn (state : VolumeState) (fanout : ℕ) (root : Branch) (placed : PlacedRow) : Type 0 where
  pub index : IsStoredIndex state.holds fanout root placed
  pub there : All (λ lnum. lnum < state.leb_cnt) (lebs_of placed)
  pub key : IsKey root.key

-- a row of an index stands in a volume's LEBs, with so many levels of nodes
pub record IsRowOn (state : VolumeState) (fanout levels : ℕ) (row : PlacedRow) : Type 0 where
  pub stored : AreStored state.holds levels row
  pub fits : IsTrue (fits fanout (plain row))
  pub bounded : AreBounded 0 None row
  pub keys : AllByRecursion (λ branch. IsKey branch.key) (branches_of row)
  pub there : All (λ lnum. lnum < state.leb_cnt) (lebs_of row)
