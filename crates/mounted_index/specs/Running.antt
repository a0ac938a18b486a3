-- A commit in steps, and the index that is shown meanwhile.
use Rattle.std.specs.Prelude.{◌≡◌, ◌<◌, ◌+◌, ◌++◌, ℕ, All, List, [], ◌∷◌, Option, None, Result, Ok, Err, IfOk, length, slice_get, ⊤}
use Rattle.commit_steps.specs.UnderWay.{AreSettledLebs, AreWithinLebs, IsCommitUnderWay}
use Rattle.index_cache.specs.Paged.{dirty_of, frozen_of}
use Rattle.index_commit.specs.Answers.{IsIndexNotFailed, OnMemory}
use Rattle.index_commit.specs.LebTexts.{IsLebLeft, IsLebOf, index_bytes}
use Rattle.index_commit.specs.Lebs.{IsGiven}
use Rattle.index_commit.specs.Written.{WorksInLebs}
use Rattle.index_commit.specs.declared.index_at.WrittenLeb.{WrittenLeb}
use Rattle.index_commit.specs.declared.index_fault.IndexFault.{IndexFault}
use Rattle.index_commit.specs.declared.index_fault.IndexFault.TheVariants.{Memory, Full, EqualKeys, Volume}
use Rattle.index_media.specs.Clean.{placed_of}
use Rattle.index_media.specs.KeyedKeys.{AreKeysBounded}
use Rattle.index_media.specs.KeyedRow.{KeyedRow, bare}
use Rattle.index_media.specs.PlacedRow.{lebs_of}
use Rattle.index_tree.specs.Order.{leaf_rank, of_rank, placed}
use Rattle.index_tree.specs.Shape.{contents}
use Rattle.index_tree.specs.declared.leaf.Leaf.{Leaf}
use Rattle.media_sys.specs.Index.{Index}
use Rattle.media_sys.specs.declared.branch.Branch.{Branch}
use Rattle.node_table.specs.Placing.{KeepsPlaces}
use Rattle.ubi_volume.specs.Volume.{VolumeState, Leaves}
use Rattle.ubifs_base.specs.declared.raw_geometry.RawGeometry.{RawGeometry}
use Rattle.mounted_index.specs.Committed.{IsRootOn}
use Rattle.mounted_index.specs.Shown.{KeepsShown, Shows, StandsIn}
use Rattle.mounted_index.specs.declared.mounted.IndexNodes.{IndexNodes}
use Rattle.mounted_index.specs.declared.mounted.IndexNodes.TheVariants.{OnMedium, InMemory}
use Rattle.mounted_index.specs.declared.mounted.MountedIndex.{MountedIndex}

-- the nodes that a commit in steps has yet to write
abbrev pub dirty_left : IndexNodes → List ℕ
dirty_left (OnMedium root) = []
dirty_left (InMemory index) = dirty_of index

-- A commit in steps writes the first row, and these nodes are of the second one. Both are one row, which stands on the volume in settled LEBs. Or the
-- first one is frozen, with places, and its commit is under way.
abbrev pub IsCommitOfNodes : VolumeState → List ℕ → List ℕ → KeyedRow → KeyedRow → IndexNodes → Type 0
IsCommitOfNodes state kept given begun row (OnMedium root) = (row ≡ begun) × AreSettledLebs state (given ++ kept) × AreWithinLebs state.holds (given ++ kept) begun
IsCommitOfNodes state kept given begun row (InMemory index) = IsCommitUnderWay state kept given index × KeepsPlaces begun (frozen_of index)

-- A commit in steps runs of the row that the index showed when it began, while the index shows another one. Clean nodes of both stand in
-- LEBs that were kept when it began, and in those that it was given since
pub record IsCommitRunning (state : VolumeState) (kept given : List ℕ) (begun : KeyedRow) (index : MountedIndex) (row : KeyedRow) : Type 0 where
  pub shown : Shows state index row
  pub there : (k : ℕ) → IsGiven (given ++ kept) k → k < state.leb_cnt
  pub nodes : IsCommitOfNodes state kept given begun row index.nodes

-- each commit in steps that runs goes on, and the index shows what it showed
abbrev pub KeepsRunning : VolumeState → VolumeState → MountedIndex → MountedIndex → Type 0
KeepsRunning old new before after = (kept given : List ℕ) (begun row : KeyedRow) → IsCommitRunning old kept given begun before row → IsCommitRunning new kept given begun after row

-- the first of these holds after a step that wrote to its LEB, and the second one where memory was wanting
abbrev pub IsAfterStep : Type 0 → Type 0 → Result WrittenLeb IndexFault → Type 0
IsAfterStep done same (Ok x) = done
IsAfterStep done same (Err Memory) = same
IsAfterStep done same (Err (Full need given)) = ⊥
IsAfterStep done same (Err EqualKeys) = ⊤
IsAfterStep done same (Err (Volume count)) = ⊤

-- A step of a commit that runs. The index shows the row that it showed, with places for nodes that were dirty. After Ok the commit runs on, and
-- was given the LEB too. If memory is wanting, what is shown or staged is as it was. Unless the volume failed, clean nodes stand in the LEB and
-- in those of before
pub record IsCommitStep (old new : VolumeState) (lnum : ℕ) (kept given : List ℕ) (begun : KeyedRow) (before after : MountedIndex) (row : KeyedRow) (result : Result WrittenLeb IndexFault) : Type 0 where
  pub now : KeyedRow
  pub places : KeepsPlaces row now
  pub shown : Shows new after now
  pub running : IsAfterStep (IsCommitRunning new kept (lnum ∷ given) begun after now) (IsCommitRunning new kept given begun after now × (now ≡ row)) result
  pub same : OnMemory (KeepsShown old new before after) result
  pub stands : IsIndexNotFailed result → StandsIn new (lnum ∷ (given ++ kept)) now

-- Nodes were written to this LEB, with the sequence numbers behind the first: it holds them alone, or it is as it was. A cut leaves of it what
-- it might have left before, or all of them. Other LEBs are as they were
pub record IsStepWritten (geo : RawGeometry) (old new : VolumeState) (lnum first last : ℕ) (result : Result WrittenLeb IndexFault) : Type 0 where
  pub nodes : List Index
  pub number : last ≡ first + length nodes
  pub works : WorksInLebs old new (lnum ∷ [])
  pub left : Leaves old new (λ c. IsLebLeft geo old lnum first nodes (c lnum))
  pub text : IsIndexNotFailed result → IsLebOf geo old new lnum first nodes
  pub used : IfOk result (λ done. done.used ≡ index_bytes nodes)

-- A commit in steps has ended. The row that it began on stands on the volume from this root on, with the places that it had. It stands in LEBs that
-- were kept or given, and a cut leaves what they hold. The index shows what it showed, and stands in the LEBs of that row and in given ones: the next
-- commit may begin on these
pub record IsCommitEnded (state : VolumeState) (kept given : List ℕ) (begun row : KeyedRow) (after : MountedIndex) (at : Option Branch) : Type 0 where
  pub now : KeyedRow
  pub places : KeepsPlaces begun now
  pub root : IsRootOn state after.geometry.fanout now at
  pub lebs : All (IsGiven (given ++ kept)) (lebs_of (placed_of now))
  pub shown : Shows state after row
  pub settled : AreSettledLebs state (given ++ lebs_of (placed_of now))
  pub stands : StandsIn state (given ++ lebs_of (placed_of now)) row

-- Steps of a commit were taken, each to one of these LEBs: the commit runs on, and was given no others. The index shows the row that it
-- showed, with places for nodes that were dirty
pub record AreStepsTaken (state : VolumeState) (lebs kept given : List ℕ) (begun row : KeyedRow) (after : MountedIndex) : Type 0 where
  pub now : KeyedRow
  pub places : KeepsPlaces row now
  pub since : List ℕ
  pub among : All (IsGiven (lebs ++ given)) since
  pub running : IsCommitRunning state kept since begun after now

-- A leaf was put between steps to these LEBs. Where keys were in order, the index shows the leaves that it showed and this one, and the first
-- leaf of its key was found among them
pub record IsPutMeanwhile (lebs given : List ℕ) (row : KeyedRow) (leaf : Leaf) (found : Option Leaf) : Type 0 where
  pub now : KeyedRow
  pub since : List ℕ
  pub among : All (IsGiven (lebs ++ given)) since
  pub leaves : AreKeysBounded 0 None row → contents (bare now) ≡ placed leaf (contents (bare row))
  pub first : AreKeysBounded 0 None row → found ≡ slice_get (of_rank (leaf_rank leaf) (placed leaf (contents (bare row)))) 0
