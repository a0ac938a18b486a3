-- How long an index has the row that it has, and where its clean nodes stand.
use Rattle.std.proofs.Common.{◌≡◌, ◌<◌, ℕ, List, sym, subst}
use Rattle.std.specs.Prelude.{All}
use Rattle.std.proofs.lemmas.List.Elements.{All-weaker}
use Rattle.commit_steps.specs.UnderWayLaws.{DependsOnItsLebs, all_given, clean_lebs, given_all, within_moved, within_of, within_there}
use Rattle.index_cache.specs.Paged.{keyed_tree_of, DoesIndexStand}
use Rattle.index_cache.specs.declared.calls.Staged.{Staged}
use Rattle.index_cache.specs.declared.paged.PagedIndex.{PagedIndex}
use Rattle.index_commit.specs.Lebs.{IsGiven}
use Rattle.index_commit.specs.Standing.{AreOutside}
use Rattle.index_media.specs.KeyedRow.{KeyedRow, all_clean}
use Rattle.index_media.specs.PlacedRow.{PlacedRow, lebs_of}
use Rattle.index_media.specs.Stored.{IsStoredIndex}
use Rattle.media_sys.specs.declared.branch.Branch.{Branch}
use Rattle.node_cache.specs.Loaded.{IsIndexOn}
use Rattle.node_cache.specs.OnVolume.{IsOnVolume}
use Rattle.node_table.specs.StandingRows.{standing_row}
use Rattle.table_nodes.specs.NodeView.{tree_at}
use Rattle.ubi_volume.specs.Volume.{VolumeState, SameShape}
use Rattle.mounted_index.specs.Shown.{IsRowOfNodes, IsStagedRow, IsTakenUp, StandsIn}
use Rattle.mounted_index.specs.declared.mounted.IndexNodes.{IndexNodes}
use Rattle.mounted_index.specs.declared.mounted.IndexNodes.TheVariants.{OnMedium, InMemory}
use Rattle.mounted_index.specs.declared.mounted.MountedIndex.{MountedIndex}
use Rattle.node_cache.specs.CleanRows.{all_is_clean, placed_again}

-- clean nodes stand where they stood if their LEBs hold what they held: whatever was written to others
pub StandsIn-beside : (old new : VolumeState) (lebs : List ℕ) (row : KeyedRow) → SameShape old new → ((k : ℕ) → IsGiven lebs k → new.holds k ≡ old.holds k) → StandsIn old lebs row → StandsIn new lebs row
StandsIn-beside old new lebs row shape same h =
    let P : ℕ → Type 0 = λ n. (k : ℕ) → IsGiven lebs k → k < n in
    record { there = subst P (sym shape.leb_cnt) h.there; within = within_moved old.holds new.holds lebs row same h.within }

-- all clean nodes of a row that stands in LEBs of a volume stand on it, and so do those of an index that aren't loaded
pub StandsIn-there : (state : VolumeState) (lebs : List ℕ) (row : KeyedRow) → StandsIn state lebs row → IsOnVolume state row
StandsIn-there state lebs row h = within_there state lebs row h.there h.within

pub StandsIn-index : (state : VolumeState) (lebs : List ℕ) (index : PagedIndex) (row : KeyedRow) → row ≡ keyed_tree_of index → StandsIn state lebs row → DoesIndexStand state index
StandsIn-index state lebs index row is h = let S : KeyedRow → Type 0 = λ r. StandsIn state lebs r in standing_row state index.table.nodes.items index.root (StandsIn-there state lebs (keyed_tree_of index) (subst S is h))

nodes_beside : DependsOnItsLebs → (old new : VolumeState) (fanout : ℕ) (lebs : List ℕ) (row : KeyedRow) (nodes : IndexNodes) → SameShape old new
    → ((k : ℕ) → IsGiven lebs k → new.holds k ≡ old.holds k) → StandsIn old lebs row → IsRowOfNodes old fanout row nodes → IsRowOfNodes new fanout row nodes
nodes_beside depends old new fanout lebs row (OnMedium root) shape same stands h =
    let placed = h.0 in
    let W : KeyedRow → Type 0 = λ r. StandsIn old lebs r in
    let own = clean_lebs old.holds lebs (all_clean placed) (all_is_clean placed) (subst W h.1 stands).within in
    let A : PlacedRow → Type 0 = λ r. All (IsGiven lebs) (lebs_of r) in
    let all = subst A (placed_again placed) own in
    let N : ℕ → Type 0 = λ n. All (λ lnum. lnum < n) (lebs_of placed) in (
      placed,
      h.1,
      record {
        index = depends old.holds new.holds fanout root placed (All-weaker (IsGiven lebs) (λ k. new.holds k ≡ old.holds k) same (lebs_of placed) all) h.2.index;
        there = subst N (sym shape.leb_cnt) h.2.there;
        key = h.2.key;
      },
    )
nodes_beside depends old new fanout lebs row (InMemory index) shape same stands h = (h.0, h.1, StandsIn-index new lebs index row h.0 (StandsIn-beside old new lebs row shape same stands))

-- what is written to LEBs beside those that its clean nodes stand in leaves an index
pub IsTakenUp-beside : DependsOnItsLebs → (old new : VolumeState) (lebs : List ℕ) (index : MountedIndex) (row : KeyedRow) → SameShape old new
    → ((k : ℕ) → IsGiven lebs k → new.holds k ≡ old.holds k) → StandsIn old lebs row → IsTakenUp old index row → IsTakenUp new index row
IsTakenUp-beside depends old new lebs index row shape same stands h = nodes_beside depends old new index.geometry.fanout lebs row index.nodes shape same stands h

-- the clause `loaded` of changes_keep_what_stands of index_commit
abbrev pub LoadedNodesStand : Type 0
LoadedNodesStand = (contents : ℕ → List ℕ) (lebs : List ℕ) (fanout : ℕ) (root : Branch) (placed : PlacedRow) → IsStoredIndex contents fanout root placed
    → All (λ k. IsGiven lebs k → ⊥) (lebs_of placed) → AreOutside contents lebs (all_clean placed)

-- an index that is taken up stands in its own LEBs
pub StandsIn-taken : LoadedNodesStand → (state : VolumeState) (fanout : ℕ) (root : Branch) (placed : PlacedRow) → IsIndexOn state fanout root placed → StandsIn state (lebs_of placed) (all_clean placed)
StandsIn-taken stand state fanout root placed on =
    let lebs : List ℕ = lebs_of placed in
    record {
      there = all_given (λ k. k < state.leb_cnt) lebs on.there;
      within = within_of state.holds lebs (all_clean placed) (λ others two.
          stand state.holds others fanout root placed on.index (given_all (λ k. IsGiven others k → ⊥) lebs (λ k one other. two k one other)));
    }

staged_beside : (old new : VolumeState) (fanout : ℕ) (lebs : List ℕ) (staged : Staged) (row : KeyedRow) (nodes : IndexNodes) → SameShape old new → ((k : ℕ) → IsGiven lebs k → new.holds k ≡ old.holds k) → StandsIn old lebs row
    → IsStagedRow old fanout row staged nodes → IsStagedRow new fanout row staged nodes
staged_beside old new fanout lebs staged row (OnMedium root) shape same stands h = h
staged_beside old new fanout lebs staged row (InMemory index) shape same stands h =
    let S : KeyedRow → Type 0 = λ r. StandsIn new lebs r in
    let items = index.table.nodes.items in
    let there = StandsIn-there new lebs (tree_at items staged.root) (subst S h.0 (StandsIn-beside old new lebs row shape same stands)) in
    (h.0, h.1, h.2, standing_row new items staged.root there)

-- and it leaves what was staged of it
pub IsStagedRow-beside : (old new : VolumeState) (lebs : List ℕ) (index : MountedIndex) (staged : Staged) (row : KeyedRow) → SameShape old new → ((k : ℕ) → IsGiven lebs k → new.holds k ≡ old.holds k) → StandsIn old lebs row
    → IsStagedRow old index.geometry.fanout row staged index.nodes → IsStagedRow new index.geometry.fanout row staged index.nodes
IsStagedRow-beside old new lebs index staged row shape same stands h = staged_beside old new index.geometry.fanout lebs staged row index.nodes shape same stands h
