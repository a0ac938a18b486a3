-- While a commit in steps runs: where the index stands, and work beside its LEBs.
use Rattle.std.proofs.Common.{◌≡◌, ℕ, ◌<◌, ◌++◌, List, sym, subst}
use Rattle.commit_steps.specs.UnderWay.{AreSettledLebs, AreWithinLebs, WorksBeside}
use Rattle.commit_steps.specs.UnderWayLaws.{DependsOnItsLebs, WorksBeside-keeps, commit_beside, within_moved}
use Rattle.index_commit.specs.Lebs.{IsGiven}
use Rattle.index_media.specs.KeyedRow.{KeyedRow}
use Rattle.ubi_volume.specs.FrameLaws.{Only-same}
use Rattle.ubi_volume.specs.Volume.{VolumeState, Keeps, SameShape}
use Rattle.mounted_index.specs.Running.{IsCommitOfNodes, IsCommitRunning, KeepsRunning}
use Rattle.mounted_index.specs.Shown.{IsRowOfNodes, IsTakenUp, KeepsShown, Shows, StandsIn}
use Rattle.mounted_index.specs.ShownLaws.{IsTakenUp-beside}
use Rattle.mounted_index.specs.declared.mounted.IndexNodes.{IndexNodes}
use Rattle.mounted_index.specs.declared.mounted.IndexNodes.TheVariants.{OnMedium, InMemory}
use Rattle.mounted_index.specs.declared.mounted.MountedIndex.{MountedIndex}

nodes_stand : (state : VolumeState) (fanout : ℕ) (kept given : List ℕ) (begun row : KeyedRow) (nodes : IndexNodes) → IsRowOfNodes state fanout row nodes → IsCommitOfNodes state kept given begun row nodes
    → AreWithinLebs state.holds (given ++ kept) row
nodes_stand state fanout kept given begun row (OnMedium root) own h = let W : KeyedRow → Type 0 = λ r. AreWithinLebs state.holds (given ++ kept) r in subst W (sym h.0) h.2
nodes_stand state fanout kept given begun row (InMemory index) own h = let W : KeyedRow → Type 0 = λ r. AreWithinLebs state.holds (given ++ kept) r in subst W (sym own.0) h.0.seen

nodes_settled : (state : VolumeState) (kept given : List ℕ) (begun row : KeyedRow) (nodes : IndexNodes) → IsCommitOfNodes state kept given begun row nodes → AreSettledLebs state (given ++ kept)
nodes_settled state kept given begun row (OnMedium root) h = h.1
nodes_settled state kept given begun row (InMemory index) h = h.0.settled

nodes_go_on : (old new : VolumeState) (kept given : List ℕ) (begun row : KeyedRow) (nodes : IndexNodes) → WorksBeside old new (given ++ kept) → IsCommitOfNodes old kept given begun row nodes → IsCommitOfNodes new kept given begun row nodes
nodes_go_on old new kept given begun row (OnMedium root) works h = (
  h.0,
  λ k one. Only-same old new k (h.1 k one) (works.same k one),
  within_moved old.holds new.holds (given ++ kept) begun (λ k one. (works.same k one).holds) h.2,
)
nodes_go_on old new kept given begun row (InMemory index) works h = (commit_beside old new kept given index works h.0, h.1)

-- the row that is shown stands in the LEBs of the commit
pub StandsIn-running : (state : VolumeState) (kept given : List ℕ) (begun : KeyedRow) (index : MountedIndex) (row : KeyedRow) → IsCommitRunning state kept given begun index row → StandsIn state (given ++ kept) row
StandsIn-running state kept given begun index row h = record { there = h.there; within = nodes_stand state index.geometry.fanout kept given begun row index.nodes h.shown.nodes h.nodes }

-- a cut leaves of these LEBs what they hold
pub settled-running : (state : VolumeState) (kept given : List ℕ) (begun : KeyedRow) (index : MountedIndex) (row : KeyedRow) → IsCommitRunning state kept given begun index row → AreSettledLebs state (given ++ kept)
settled-running state kept given begun index row h = nodes_settled state kept given begun row index.nodes h.nodes

-- Work beside the LEBs of a commit leaves the index; what look-ups keep of the LEBs that were written is cleared then
pub IsTakenUp-running : DependsOnItsLebs → (old new : VolumeState) (kept given : List ℕ) (begun : KeyedRow) (index : MountedIndex) (row : KeyedRow) → SameShape old new → WorksBeside old new (given ++ kept)
    → IsCommitRunning old kept given begun index row → IsTakenUp new index row
IsTakenUp-running depends old new kept given begun index row shape works h =
    IsTakenUp-beside depends old new (given ++ kept) index row shape (λ k one. (works.same k one).holds) (StandsIn-running old kept given begun index row h) h.shown.nodes

-- the commit runs on beside such work, once the index is shown over what was written
pub IsCommitRunning-beside : (old new : VolumeState) (kept given : List ℕ) (begun : KeyedRow) (before after : MountedIndex) (row : KeyedRow) → SameShape old new → WorksBeside old new (given ++ kept) → after.nodes ≡ before.nodes
    → Shows new after row → IsCommitRunning old kept given begun before row → IsCommitRunning new kept given begun after row
IsCommitRunning-beside old new kept given begun before after row shape works same shown h =
    let P : ℕ → Type 0 = λ n. (k : ℕ) → IsGiven (given ++ kept) k → k < n in
    let N : IndexNodes → Type 0 = λ n. IsCommitOfNodes new kept given begun row n in
    record { shown = shown; there = subst P (sym shape.leb_cnt) h.there; nodes = subst N (sym same) (nodes_go_on old new kept given begun row before.nodes works h.nodes) }

-- a look-up leaves each commit that runs
pub KeepsRunning-read : (old new : VolumeState) (before after : MountedIndex) → Keeps old new → SameShape old new → KeepsShown old new before after → after.nodes ≡ before.nodes → KeepsRunning old new before after
KeepsRunning-read old new before after keeps shape shown same kept given begun row h =
    IsCommitRunning-beside old new kept given begun before after row shape (WorksBeside-keeps old new (given ++ kept) keeps) same (shown.shown row h.shown) h
