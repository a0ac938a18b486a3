-- What an index shows, by where its nodes are, and while a volume is only read.
use Rattle.std.proofs.Common.{◌≡◌, ℕ, List, refl, ap, sym, ◌∙◌, subst}
use Rattle.index_cache.specs.Paged.{fanout_of, keyed_tree_of, DoesIndexStand}
use Rattle.index_cache.specs.declared.calls.Staged.{Staged}
use Rattle.index_cache.specs.declared.paged.PagedIndex.{PagedIndex}
use Rattle.index_media.specs.KeyedRow.{KeyedRow, all_clean, bare}
use Rattle.index_media.specs.PlacedRow.{PlacedRow, plain}
use Rattle.index_tree.specs.Shape.{Shape}
use Rattle.media_sys.specs.declared.branch.Branch.{Branch}
use Rattle.node_cache.specs.Kept.{AreKept}
use Rattle.node_cache.specs.Loaded.{IsIndexOn}
use Rattle.node_cache.specs.RowsOn.{index_moved}
use Rattle.node_cache.specs.declared.cache.NodeCache.{NodeCache}
use Rattle.node_table.specs.Changing.{changed_by}
use Rattle.node_table.specs.Unloaded.{DoesRootStand}
use Rattle.node_table.specs.UnloadedRoots.{root_moved}
use Rattle.table_nodes.specs.NodeView.{tree_at}
use Rattle.node_table.specs.Staging.{IsSoundRoot}
use Rattle.node_table.specs.declared.change.Change.{Change}
use Rattle.ubi_volume.specs.Volume.{VolumeState, Keeps, SameShape}
use Rattle.mounted_index.specs.Shown.{IsRowOfNodes, IsStagedRow, KeepsShown, Shows}
use Rattle.mounted_index.specs.declared.mounted.IndexNodes.{IndexNodes}
use Rattle.mounted_index.specs.declared.mounted.IndexNodes.TheVariants.{OnMedium, InMemory}
use Rattle.mounted_index.specs.declared.mounted.MountedIndex.{MountedIndex}

-- by where the nodes are
pub nodes_as : (a : VolumeState) (fanout : ℕ) (row : KeyedRow) (nodes same : IndexNodes) → nodes ≡ same → IsRowOfNodes a fanout row nodes → IsRowOfNodes a fanout row same
nodes_as a fanout row nodes same is h = let P : IndexNodes → Type 0 = λ n. IsRowOfNodes a fanout row n in subst P is h

pub staged_as : (a : VolumeState) (fanout : ℕ) (row : KeyedRow) (staged : Staged) (nodes same : IndexNodes) → nodes ≡ same → IsStagedRow a fanout row staged nodes → IsStagedRow a fanout row staged same
staged_as a fanout row staged nodes same is h = let P : IndexNodes → Type 0 = λ n. IsStagedRow a fanout row staged n in subst P is h

-- a call that only reads leaves them
pub nodes_moved : (a b : VolumeState) (fanout : ℕ) (row : KeyedRow) (nodes : IndexNodes) → Keeps a b → SameShape a b → IsRowOfNodes a fanout row nodes → IsRowOfNodes b fanout row nodes
nodes_moved a b fanout row (OnMedium root) keeps shape h = (h.0, h.1, index_moved a b fanout root h.0 keeps shape h.2)
nodes_moved a b fanout row (InMemory index) keeps shape h = (h.0, h.1, root_moved a b index.table.nodes.items index.root keeps shape h.2)

staged_moved : (a b : VolumeState) (fanout : ℕ) (row : KeyedRow) (staged : Staged) (nodes : IndexNodes) → Keeps a b → SameShape a b → IsStagedRow a fanout row staged nodes → IsStagedRow b fanout row staged nodes
staged_moved a b fanout row staged (OnMedium root) keeps shape h = h
staged_moved a b fanout row staged (InMemory index) keeps shape h = (h.0, h.1, h.2, root_moved a b index.table.nodes.items staged.root keeps shape h.3)

-- so an index shows what it showed, if what look-ups keep is of the LEBs
pub looked_shown : (a b : VolumeState) (self : MountedIndex) (cache : NodeCache) → Keeps a b → SameShape a b → (AreKept a.holds self.cache → AreKept b.holds cache)
    → KeepsShown a b self (record { geometry = self.geometry; nodes = self.nodes; cache = cache })
looked_shown a b self cache keeps shape kept = record {
  shown = λ row h. record { nodes = nodes_moved a b self.geometry.fanout row self.nodes keeps shape h.nodes; kept = kept h.kept };
  staged = λ staged row h. record { nodes = staged_moved a b self.geometry.fanout row staged self.nodes keeps shape h.nodes; kept = kept h.kept };
  alone = refl;
  geometry = refl;
}

-- bare (all_clean row) ≡ plain row, for each row
abbrev pub IsPlainWhereClean : Type 0
IsPlainWhereClean = (row : PlacedRow) → bare (all_clean row) ≡ plain row

-- what holds of the shape that stands there holds of the one that is shown
pub of_medium : IsPlainWhereClean → (a : VolumeState) (fanout : ℕ) (row : KeyedRow) (nodes : IndexNodes) (root : Branch) (P : Shape → Type 0) → nodes ≡ OnMedium root → IsRowOfNodes a fanout row nodes
    → ((placed : PlacedRow) → IsIndexOn a fanout root placed → P (plain placed)) → P (bare row)
of_medium clean a fanout row nodes root P is h f =
    let own = nodes_as a fanout row nodes (OnMedium root) is h in
    subst P (sym (ap bare own.1 ∙ clean own.0)) (f own.0 own.2)

-- what isn't loaded of an index in memory stands on the volume
pub index_stands : (a : VolumeState) (self : MountedIndex) (row : KeyedRow) (index : PagedIndex) → self.nodes ≡ InMemory index → Shows a self row → DoesIndexStand a index
index_stands a self row index is h = (nodes_as a self.geometry.fanout row self.nodes (InMemory index) is h.nodes).2

-- ---- changes
-- what changes make, over the index in memory
pub made_there : (f own : ℕ) (row : KeyedRow) (changes : List Change) (index : PagedIndex) → own ≡ f → row ≡ keyed_tree_of index → fanout_of index ≡ own
    → changed_by f changes row ≡ changed_by (fanout_of index) changes (keyed_tree_of index)
made_there f own row changes index same is fanout =
    ap (λ (n : ℕ). changed_by n changes row) (sym (fanout ∙ same)) ∙ ap (λ (r : KeyedRow). changed_by (fanout_of index) changes r) is

-- a list of changes was staged in memory
pub staged_row : (b : VolumeState) (f own : ℕ) (row : KeyedRow) (changes : List Change) (index new : PagedIndex) (staged : Staged) → own ≡ f → row ≡ keyed_tree_of index → fanout_of index ≡ own
    → tree_at new.table.nodes.items staged.root ≡ changed_by (fanout_of index) changes (keyed_tree_of index) → fanout_of new ≡ fanout_of index → IsSoundRoot new.table.nodes.items staged.root
    → DoesRootStand b new.table.nodes.items staged.root → IsStagedRow b own (changed_by f changes row) staged (InMemory new)
staged_row b f own row changes index new staged same is was made fanout sound stands = (made_there f own row changes index same is was ∙ sym made, fanout ∙ was, sound, stands)
