-- A commit in steps, from call to call.
use Rattle.std.proofs.Common.{◌≡◌, ℕ, ◌-◌, ◌<◌, true, List, [], ◌∷◌, ◌++◌, length, refl, ap, sym, ◌∙◌, subst, arith, inl, inr}
use Rattle.std.specs.Prelude.{◌&&◌, Bool, Option, None, Some, All, IfOk, OnErr, OnOk, Result, Ok, Err, option_map, slice_get}
use Rattle.std.proofs.lemmas.List.Elements.{All-weaker}
use Rattle.ubifs_base.specs.declared.geometry.Geometry.{Geometry}
use Rattle.ubifs_base.specs.declared.raw_geometry.RawGeometry.{RawGeometry}
use Rattle.index_media.specs.Clean.{is_clean_row, node_branch, placed_of}
use Rattle.index_media.specs.KeyedKeys.{AreKeysBounded, key_before}
use Rattle.index_media.specs.KeyedRow.{KeyedRow, no_more, leaf_in, node_in, all_clean}
use Rattle.index_media.specs.PlacedRow.{PlacedRow, Stretch, branches_of, lebs_of}
use Rattle.index_media.specs.InsertionSound.{AreKeys}
use Rattle.index_tree.specs.Order.{key_rank, leaf_rank}
use Rattle.media_sys.specs.Index.{in_order, may_follow}
use Rattle.media_sys.specs.declared.branch.Branch.{Branch}
use Rattle.ubifs_base.specs.declared.key.Key.{Key}
use Rattle.node_cache.specs.Kept.{AreKept}
use Rattle.node_cache.specs.Loaded.{IsIndexOn}
use Rattle.node_cache.specs.declared.cache.NodeCache.{NodeCache}
use Rattle.table_nodes.specs.NodeView.{tree_at}
use Rattle.node_table.specs.Placing.{KeepsPlaces}
use Rattle.node_table.specs.Staging.{IsSoundRoot}
use Rattle.node_table.specs.Unloaded.{DoesRootStand}
use Rattle.node_table.specs.UnloadedRoots.{root_moved}
use Rattle.table_nodes.specs.declared.node.Root.{Root}
use Rattle.table_nodes.specs.declared.node.TableNode.{TableNode}
use Rattle.index_cache.specs.Paged.{dirty_of, fanout_of, frozen_of, keyed_tree_of, DoesIndexStand, KeepsNodes}
use Rattle.index_cache.specs.declared.calls.Staged.{Staged}
use Rattle.index_cache.specs.declared.commit.DirtyNode.{DirtyNode}
use Rattle.index_cache.specs.declared.paged.PagedIndex.{PagedIndex}
use Rattle.index_commit.specs.Answers.{IsIndexNotFailed, IsNotFull, OnMemory}
use Rattle.index_commit.specs.LebTexts.{IsLebLeft, IsLebOf, IsNextLeb, index_bytes, nodes_written}
use Rattle.index_commit.specs.Lebs.{AreLebsApart, IsGiven}
use Rattle.index_commit.specs.Ordered.{AreKeysInOrder}
use Rattle.index_commit.specs.Rooms.{Room}
use Rattle.index_commit.specs.Standing.{AreOutside}
use Rattle.index_commit.specs.Written.{AreStanding, IsIndexTaken, IsRootOf, IsIndexUntouched, WorksInLebs}
use Rattle.index_commit.specs.declared.index_at.WrittenLeb.{WrittenLeb}
use Rattle.index_commit.specs.declared.index_fault.IndexFault.{IndexFault}
use Rattle.index_commit.specs.declared.index_fault.IndexFault.TheVariants.{Memory, Full, EqualKeys, Volume}
use Rattle.commit_steps.specs.UnderWay.{AreSettledLebs, AreWithinLebs, IsCommitUnderWay}
use Rattle.commit_steps.specs.UnderWayLaws.{WorksBeside-keeps, all_given, clean_lebs, commit_begun, commit_beside, commit_ended, commit_step, given_behind, given_front, given_of, index_changed, outside_of, within_of}
use Rattle.ubi_volume.specs.FrameLaws.{IsSameLeb-none}
use Rattle.ubi_volume.specs.Volume.{VolumeState, Keeps, Leaves, Only, SameShape}
use Rattle.ubi_volume.specs.VolumeLaws.{Leaves-none}
use Rattle.node_table.specs.Dirty.{dirty_below}
use Rattle.ubifs_base.specs.declared.memory.Memory.{Memory as MemoryFault}
use Rattle.mounted_index.specs.Committed.{HasNodesFrom, IsRootOn, dirty_nodes_in}
use Rattle.mounted_index.specs.DirtyLaws.{counted_below}
use Rattle.mounted_index.specs.Running.{IsAfterStep, IsCommitEnded, IsCommitOfNodes, IsCommitRunning, IsCommitStep, IsStepWritten, dirty_left}
use Rattle.mounted_index.specs.RunningLaws.{StandsIn-running}
use Rattle.mounted_index.specs.Shown.{KeepsOutside, KeepsShown, Shows, ShowsStaged, StandsIn, are_on_medium}
use Rattle.mounted_index.specs.ShownLaws.{LoadedNodesStand, StandsIn-taken}
use Rattle.mounted_index.specs.declared.mounted.IndexNodes.{IndexNodes}
use Rattle.mounted_index.specs.declared.mounted.IndexNodes.TheVariants.{OnMedium, InMemory}
use Rattle.mounted_index.specs.declared.mounted.MountedIndex.{MountedIndex}
use Rattle.mounted_index.proofs.Committed.{if_ok_done, index_as, kept_shown, nodes_count, nodes_let_go, none_works, root_on, stands_after, stands_more, written_stands}
use Rattle.mounted_index.proofs.Shown.{nodes_as, staged_as}
use Rattle.node_cache.specs.CleanRows.{all_is_clean, placed_again}

-- an index with these nodes
abbrev pub with_nodes : MountedIndex → IndexNodes → NodeCache → MountedIndex
with_nodes self nodes cache = record { geometry = self.geometry; nodes = nodes; cache = cache }

run_as : (a : VolumeState) (kept given : List ℕ) (begun row : KeyedRow) (nodes same : IndexNodes) → nodes ≡ same → IsCommitOfNodes a kept given begun row nodes → IsCommitOfNodes a kept given begun row same
run_as a kept given begun row nodes same is h = let N : IndexNodes → Type 0 = λ n. IsCommitOfNodes a kept given begun row n in subst N is h

-- ---- it begins
-- nothing is let go, and what is shown or staged stays
pub same_shown : (a : VolumeState) (self : MountedIndex) → KeepsShown a a self self
same_shown a self = record { shown = λ row s. s; staged = λ staged row s. s; alone = refl; geometry = refl }

pub frozen_shown : (a : VolumeState) (self : MountedIndex) (index final : PagedIndex) → self.nodes ≡ InMemory index → final.table.nodes.items ≡ index.table.nodes.items → final.root ≡ index.root → fanout_of final ≡ fanout_of index
    → KeepsShown a a self (with_nodes self (InMemory final) self.cache)
frozen_shown a self index final is items seen fanout =
    let f = self.geometry.fanout in
    let tree : keyed_tree_of final ≡ keyed_tree_of index = ap (λ (xs : List TableNode). tree_at xs final.root) items ∙ ap (tree_at index.table.nodes.items) seen in
    record {
      shown = λ row s. let own = nodes_as a f row self.nodes (InMemory index) is s.nodes in record { nodes = (own.0 ∙ sym tree, fanout ∙ own.1, index_as a index final items seen own.2); kept = s.kept };
      staged = λ staged row s.
          let own = staged_as a f row staged self.nodes (InMemory index) is s.nodes in
          let S : List TableNode → Type 0 = λ xs. IsSoundRoot xs staged.root in
          let D : List TableNode → Type 0 = λ xs. DoesRootStand a xs staged.root in
          record { nodes = (own.0 ∙ sym (ap (λ (xs : List TableNode). tree_at xs staged.root) items), fanout ∙ own.1, subst S (sym items) own.2, subst D (sym items) own.3); kept = s.kept };
      alone = sym (ap are_on_medium is);
      geometry = refl;
    }

pub begun_alone : (a : VolumeState) (kept : List ℕ) (self : MountedIndex) (row : KeyedRow) (root : Branch) → self.nodes ≡ OnMedium root → Shows a self row → StandsIn a kept row → AreSettledLebs a kept
    → IsCommitRunning a kept [] row self row
begun_alone a kept self row root is s stands settled =
    let N : IndexNodes → Type 0 = λ n. IsCommitOfNodes a kept [] row row n in
    record { shown = s; there = stands.there; nodes = subst N (sym is) (refl, settled, stands.within) }

pub begun_frozen : ((row : KeyedRow) → KeepsPlaces row row) → (a : VolumeState) (kept : List ℕ) (self : MountedIndex) (row : KeyedRow) (index final : PagedIndex) → self.nodes ≡ InMemory index → frozen_of final ≡ keyed_tree_of index
    → keyed_tree_of final ≡ keyed_tree_of index → fanout_of final ≡ fanout_of index → (DoesIndexStand a index → DoesIndexStand a final) → Shows a self row → StandsIn a kept row → AreSettledLebs a kept → IsCommitRunning a kept [] row (with_nodes self (InMemory final) self.cache) row
begun_frozen none a kept self row index final is frozen tree fanout there s stands settled =
    let own = nodes_as a self.geometry.fanout row self.nodes (InMemory index) is s.nodes in
    let W : KeyedRow → Type 0 = λ r. AreWithinLebs a.holds kept r in
    let K : KeyedRow → Type 0 = λ r. KeepsPlaces row r in
    record {
      shown = record { nodes = (own.0 ∙ sym tree, fanout ∙ own.1, there own.2); kept = s.kept };
      there = stands.there;
      nodes = (commit_begun a kept index final frozen tree (record { settled = settled; seen = subst W own.0 stands.within }), subst K (own.0 ∙ sym frozen) (none row));
    }

-- ---- changes
-- the index was loaded from the volume, and frozen
pub loaded_running : ((row : KeyedRow) → KeepsPlaces row row) → (a b : VolumeState) (kept given : List ℕ) (begun : KeyedRow) (self : MountedIndex) (row : KeyedRow) (root : Branch) (loaded final : PagedIndex) (cache : NodeCache)
    → self.nodes ≡ OnMedium root → Keeps a b → ((placed : PlacedRow) → IsIndexOn a self.geometry.fanout root placed → keyed_tree_of loaded ≡ all_clean placed) → fanout_of final ≡ self.geometry.fanout
    → frozen_of final ≡ keyed_tree_of loaded → keyed_tree_of final ≡ keyed_tree_of loaded → DoesIndexStand b final → AreKept b.holds cache → SameShape a b → IsCommitRunning a kept given begun self row → IsCommitRunning b kept given begun (with_nodes self (InMemory final) cache) row
loaded_running none a b kept given begun self row root loaded final cache is keeps loads fanout frozen tree there clear shape h =
    let lebs : List ℕ = given ++ kept in
    let own = nodes_as a self.geometry.fanout row self.nodes (OnMedium root) is h.shown.nodes in
    let run = run_as a kept given begun row self.nodes (OnMedium root) is h.nodes in
    let same : keyed_tree_of loaded ≡ row = loads own.0 own.2 ∙ sym own.1 in
    let whole : frozen_of final ≡ begun = frozen ∙ same ∙ run.0 in
    let seen : keyed_tree_of final ≡ begun = tree ∙ same ∙ run.0 in
    let W : KeyedRow → Type 0 = λ r. AreWithinLebs a.holds lebs r in
    let K : KeyedRow → Type 0 = λ r. KeepsPlaces begun r in
    let P : ℕ → Type 0 = λ n. (k : ℕ) → IsGiven lebs k → k < n in
    let way : IsCommitUnderWay a kept given final = record {
      settled = run.1;
      frozen = subst W (sym whole) run.2;
      seen = subst W (sym seen) run.2;
      shared = λ others two out. let O : KeyedRow → Type 0 = λ r. AreOutside a.holds others r in subst O (whole ∙ sym seen) out;
    } in
    record {
      shown = record { nodes = (sym (tree ∙ same), fanout, there); kept = clear };
      there = subst P (sym shape.leb_cnt) h.there;
      nodes = (commit_beside a b kept given final (WorksBeside-keeps a b lebs keeps) way, subst K (sym whole) (none begun));
    }

-- changes were made beside what is shown
pub staged_running : (a b : VolumeState) (kept given : List ℕ) (begun : KeyedRow) (self : MountedIndex) (row : KeyedRow) (index new : PagedIndex) (cache : NodeCache) → self.nodes ≡ InMemory index → KeepsNodes index new
    → keyed_tree_of new ≡ keyed_tree_of index → Keeps a b → SameShape a b → DoesIndexStand b new → AreKept b.holds cache → IsCommitRunning a kept given begun self row → IsCommitRunning b kept given begun (with_nodes self (InMemory new) cache) row
staged_running a b kept given begun self row index new cache is nodes tree keeps shape there clear h =
    let lebs : List ℕ = given ++ kept in
    let own = nodes_as a self.geometry.fanout row self.nodes (InMemory index) is h.shown.nodes in
    let was = run_as a kept given begun row self.nodes (InMemory index) is h.nodes in
    let way = commit_beside a b kept given index (WorksBeside-keeps a b lebs keeps) was.0 in
    let P : ℕ → Type 0 = λ n. (k : ℕ) → IsGiven lebs k → k < n in
    let K : KeyedRow → Type 0 = λ r. KeepsPlaces begun r in
    record {
      shown = record { nodes = (own.0 ∙ sym tree, nodes.fanout ∙ own.1, there); kept = clear };
      there = subst P (sym shape.leb_cnt) h.there;
      nodes = (
        index_changed b kept given index new (λ others out. let O : KeyedRow → Type 0 = λ r. AreOutside b.holds others r in subst O (sym tree) out) nodes.frozen_tree way,
        subst K (sym nodes.frozen_tree) was.1,
      );
    }

-- they are shown
pub adopted_running : (b : VolumeState) (kept given : List ℕ) (begun : KeyedRow) (self : MountedIndex) (row made : KeyedRow) (index new : PagedIndex) (staged : Staged) → self.nodes ≡ InMemory index → KeepsNodes index new
    → keyed_tree_of new ≡ tree_at index.table.nodes.items staged.root → (DoesRootStand b index.table.nodes.items staged.root → DoesIndexStand b new) → IsCommitRunning b kept given begun self row → ShowsStaged b self staged made → KeepsOutside row made
    → IsCommitRunning b kept given begun (with_nodes self (InMemory new) self.cache) made
adopted_running b kept given begun self row made index new staged is nodes tree there h s keeps =
    let f = self.geometry.fanout in
    let own = nodes_as b f row self.nodes (InMemory index) is h.shown.nodes in
    let run = run_as b kept given begun row self.nodes (InMemory index) is h.nodes in
    let beside = staged_as b f made staged self.nodes (InMemory index) is s.nodes in
    let to : keyed_tree_of new ≡ made = tree ∙ sym beside.0 in
    let K : KeyedRow → Type 0 = λ r. KeepsPlaces begun r in
    record {
      shown = record { nodes = (sym to, nodes.fanout ∙ own.1, there beside.3); kept = h.shown.kept };
      there = h.there;
      nodes = (
        index_changed b kept given index new (λ others out. let O : KeyedRow → Type 0 = λ r. AreOutside b.holds others r in subst O (sym to) (keeps b.holds others (subst O (sym own.0) out))) nodes.frozen_tree run.0,
        subst K (sym nodes.frozen_tree) run.1,
      );
    }

-- what was staged stands, once it is adopted
pub adopted_stands : (b : VolumeState) (index new : PagedIndex) (staged : Staged) → new.table.nodes.items ≡ index.table.nodes.items → new.root ≡ staged.root → DoesRootStand b index.table.nodes.items staged.root → DoesIndexStand b new
adopted_stands b index new staged items root h =
    let D : List TableNode → Type 0 = λ xs. DoesRootStand b xs new.root in
    let R : Option Root → Type 0 = λ r. DoesRootStand b index.table.nodes.items r in
    subst D (sym items) (subst R (sym root) h)

pub adopted_nowhere : (b : VolumeState) (self : MountedIndex) (made : KeyedRow) (staged : Staged) (root : Branch) → self.nodes ≡ OnMedium root → ShowsStaged b self staged made → ⊥
adopted_nowhere b self made staged root is s = staged_as b self.geometry.fanout made staged self.nodes (OnMedium root) is s.nodes

-- ---- a step
pub never_alone : (nodes : IndexNodes) (root : Branch) → nodes ≡ OnMedium root → 0 < length (dirty_left nodes) → ⊥
never_alone nodes root is some = let P : IndexNodes → Type 0 = λ n. 0 < length (dirty_left n) in let none : 0 < 0 = subst P is some in omega (arith, none)

-- what write_next_leb says of a step
pub record IsLebTaken (geo : RawGeometry) (a b : VolumeState) (lnum i j : ℕ) (index final : PagedIndex) (room : ℕ → Room) (result : Result WrittenLeb IndexFault) : Type 0 where
  pub taken : IsIndexTaken room index final i j
  pub standing : IsIndexNotFailed result → AreStanding a b (lnum ∷ []) index final i j × IsLebOf geo a b lnum i (nodes_written index final (j - i))
  pub works : WorksInLebs a b (lnum ∷ [])
  pub some : IfOk result (λ done. i < j)
  pub same : OnMemory (IsIndexUntouched a b index final i j) result
  pub full : IsNotFull result

step_there : (a b : VolumeState) (lnum : ℕ) (lebs : List ℕ) → SameShape a b → lnum < a.leb_cnt → ((k : ℕ) → IsGiven lebs k → k < a.leb_cnt) → (k : ℕ) → IsGiven (lnum ∷ lebs) k → k < b.leb_cnt
step_there a b lnum lebs shape own there k one =
    let P : ℕ → Type 0 = λ n. k < n in
    let Q : ℕ → Type 0 = λ n. n < a.leb_cnt in
    subst P (sym shape.leb_cnt) (elim one [ inl e ↦ subst Q (sym e) own | inr more ↦ there k more ])

one_apart : (lebs : List ℕ) (lnum : ℕ) → (IsGiven lebs lnum → ⊥) → AreLebsApart lebs (lnum ∷ [])
one_apart lebs lnum apart k own one = let G : ℕ → Type 0 = λ m. IsGiven lebs m in elim one [ inl e ↦ apart (subst G e own) | inr none ↦ none ]

step_running : {room : ℕ → Room} → ((first second third : KeyedRow) → KeepsPlaces first second → KeepsPlaces second third → KeepsPlaces first third) → (geo : RawGeometry) (a b : VolumeState) (lnum i j : ℕ) (kept given : List ℕ) (begun : KeyedRow)
    (self : MountedIndex) (row : KeyedRow) (index final : PagedIndex) (cache : NodeCache) (result : Result WrittenLeb IndexFault) → self.nodes ≡ InMemory index → SameShape a b → lnum < a.leb_cnt
    → IsLebTaken geo a b lnum i j index final room result → Shows b (with_nodes self (InMemory final) cache) (keyed_tree_of final) → IsCommitRunning a kept given begun self row → (IsGiven (given ++ kept) lnum → ⊥)
    → IsAfterStep (IsCommitRunning b kept (lnum ∷ given) begun (with_nodes self (InMemory final) cache) (keyed_tree_of final)) (IsCommitRunning b kept given begun (with_nodes self (InMemory final) cache) (keyed_tree_of final) × (keyed_tree_of final ≡ row)) result
step_running both geo a b lnum i j kept given begun self row index final cache (Ok x) is shape there leb shown h apart =
    let run = run_as a kept given begun row self.nodes (InMemory index) is h.nodes in
    record {
      shown = shown;
      there = step_there a b lnum (given ++ kept) shape there h.there;
      nodes = (commit_step geo a b kept given lnum i j index final apart leb.taken leb.some (leb.standing tt) leb.works run.0, both begun (frozen_of index) (frozen_of final) run.1 leb.taken.kept.frozen);
    }
step_running both geo a b lnum i j kept given begun self row index final cache (Err Memory) is shape there leb shown h apart =
    let own = nodes_as a self.geometry.fanout row self.nodes (InMemory index) is h.shown.nodes in
    let run = run_as a kept given begun row self.nodes (InMemory index) is h.nodes in
    let N : PagedIndex → Type 0 = λ x. IsCommitUnderWay b kept given x × KeepsPlaces begun (frozen_of x) in
    let P : ℕ → Type 0 = λ n. (k : ℕ) → IsGiven (given ++ kept) k → k < n in (
      record {
        shown = shown;
        there = subst P (sym shape.leb_cnt) h.there;
        nodes = subst N (sym leb.same.index) (commit_beside a b kept given index (WorksBeside-keeps a b (given ++ kept) leb.same.volume) run.0, run.1);
      },
      ap keyed_tree_of leb.same.index ∙ sym own.0,
    )
step_running both geo a b lnum i j kept given begun self row index final cache (Err (Full need wanted)) is shape there leb shown h apart = leb.full
step_running both geo a b lnum i j kept given begun self row index final cache (Err EqualKeys) is shape there leb shown h apart = tt
step_running both geo a b lnum i j kept given begun self row index final cache (Err (Volume count)) is shape there leb shown h apart = tt

memory_more : (P Q : Type 0) (r : Result WrittenLeb IndexFault) → OnMemory P r → (P → Q) → OnMemory Q r
memory_more P Q (Ok x) h f = tt
memory_more P Q (Err Memory) h f = f h
memory_more P Q (Err (Full need given)) h f = tt
memory_more P Q (Err EqualKeys) h f = tt
memory_more P Q (Err (Volume count)) h f = tt

pub stepped : {room : ℕ → Room} → ((first second third : KeyedRow) → KeepsPlaces first second → KeepsPlaces second third → KeepsPlaces first third) → (geo : RawGeometry) (a b : VolumeState) (lnum i j : ℕ) (kept given : List ℕ) (begun : KeyedRow)
    (self : MountedIndex) (row : KeyedRow) (index final : PagedIndex) (cache : NodeCache) (result : Result WrittenLeb IndexFault) → self.nodes ≡ InMemory index → SameShape a b → lnum < a.leb_cnt
    → IsLebTaken geo a b lnum i j index final room result → AreKept b.holds cache → IsCommitRunning a kept given begun self row → (IsGiven (given ++ kept) lnum → ⊥)
    → IsCommitStep a b lnum kept given begun self (with_nodes self (InMemory final) cache) row result
stepped both geo a b lnum i j kept given begun self row index final cache result is shape there leb clear h apart =
    let own = nodes_as a self.geometry.fanout row self.nodes (InMemory index) is h.shown.nodes in
    let run = run_as a kept given begun row self.nodes (InMemory index) is h.nodes in
    let K : KeyedRow → Type 0 = λ r. KeepsPlaces r (keyed_tree_of final) in
    let seen : StandsIn a (given ++ kept) (keyed_tree_of index) = record { there = h.there; within = run.0.seen } in
    let here = written_stands a b (given ++ kept) (lnum ∷ []) index final shape (one_apart (given ++ kept) lnum apart) leb.works seen leb.taken.kept.unplaced leb.taken.kept.roots.root in
    let shown : Shows b (with_nodes self (InMemory final) cache) (keyed_tree_of final) = record { nodes = (refl, leb.taken.kept.roots.fanout ∙ own.1, here); kept = clear } in
    record {
      now = keyed_tree_of final;
      places = subst K (sym own.0) leb.taken.kept.tree;
      shown = shown;
      running = step_running both geo a b lnum i j kept given begun self row index final cache result is shape there leb shown h apart;
      same = memory_more (IsIndexUntouched a b index final i j) (KeepsShown a b self (with_nodes self (InMemory final) cache)) result leb.same
          (λ u. kept_shown a b self cache index final is clear (λ root s. root_moved a b index.table.nodes.items root u.volume shape s) (ap (λ (x : PagedIndex). x.table.nodes.items) u.index, ap (λ (x : PagedIndex). x.root) u.index) (ap fanout_of u.index));
      stands = λ fine.
          let standing = (leb.standing fine).0 in
          let S : Option Root → Type 0 = λ r. StandsIn b ((lnum ∷ []) ++ (given ++ kept)) (tree_at final.table.nodes.items r) in
          subst S (sym leb.taken.kept.roots.root) (stands_after a b (given ++ kept) (lnum ∷ []) (keyed_tree_of index) (tree_at final.table.nodes.items index.root) shape (there, (λ none. none), tt) (one_apart (given ++ kept) lnum apart)
          (λ others two out. standing.nodes others index.root two out) (record { there = h.there; within = run.0.seen }));
    }

-- memory was wanting before the step
pub step_refused : ((row : KeyedRow) → KeepsPlaces row row) → (a : VolumeState) (lnum : ℕ) (kept given : List ℕ) (begun : KeyedRow) (self : MountedIndex) (row : KeyedRow) (index : PagedIndex) (cache : NodeCache) → self.nodes ≡ InMemory index
    → lnum < a.leb_cnt → AreKept a.holds cache → IsCommitRunning a kept given begun self row → IsCommitStep a a lnum kept given begun self (with_nodes self (InMemory index) cache) row (Err Memory)
step_refused none a lnum kept given begun self row index cache is there clear h =
    let own = nodes_as a self.geometry.fanout row self.nodes (InMemory index) is h.shown.nodes in
    let run = run_as a kept given begun row self.nodes (InMemory index) is h.nodes in
    let shown : Shows a (with_nodes self (InMemory index) cache) row = record { nodes = own; kept = clear } in
    record {
      now = row;
      places = none row;
      shown = shown;
      running = (record { shown = shown; there = h.there; nodes = run }, refl);
      same = kept_shown a a self cache index index is clear (λ root s. s) (refl, refl) refl;
      stands = λ fine. stands_more a (given ++ kept) (lnum ∷ []) row (there, (λ given. given), tt) (StandsIn-running a kept given begun self row h);
    }

-- no byte of it was written then
pub nothing_written : (geo : RawGeometry) (a : VolumeState) (lnum i : ℕ) → IsStepWritten geo a a lnum i i (Err Memory)
nothing_written geo a lnum i = record {
  nodes = [];
  number = omega arith;
  works = none_works a (lnum ∷ []);
  left = Leaves-none a (λ c. IsLebLeft geo a lnum i [] (c lnum));
  text = λ fine. IsSameLeb-none a lnum;
  used = tt;
}

-- what a step says of its LEB
abbrev IsStepDone : RawGeometry → ℕ → ℕ → PagedIndex → PagedIndex → WrittenLeb → Type 0
IsStepDone geo lnum n index final done = IsNextLeb geo lnum n (dirty_of final) done.head × (done.used ≡ index_bytes (nodes_written index final n))

pub step_text : {room : ℕ → Room} (geo : RawGeometry) (a b : VolumeState) (lnum i j : ℕ) (index final : PagedIndex) (result : Result WrittenLeb IndexFault) → IsLebTaken geo a b lnum i j index final room result
    → Leaves a b (λ c. IsLebLeft geo a lnum i (nodes_written index final (j - i)) (c lnum)) → IfOk result (λ done. IsStepDone geo lnum (j - i) index final done) → IsStepWritten geo a b lnum i j result
step_text geo a b lnum i j index final result leb left done = record {
  nodes = nodes_written index final (j - i);
  number = nodes_count index final i j leb.taken;
  works = leb.works;
  left = left;
  text = λ fine. (leb.standing fine).1;
  used = if_ok_done (λ (x : WrittenLeb). IsStepDone geo lnum (j - i) index final x) (λ (x : WrittenLeb). x.used ≡ index_bytes (nodes_written index final (j - i))) result (λ fine x h. h.1) done;
}

pub step_next : (geo : RawGeometry) (lnum n : ℕ) (index final : PagedIndex) (result : Result WrittenLeb IndexFault) → IfOk result (λ done. IsStepDone geo lnum n index final done) → IfOk result (λ done. IsNextLeb geo lnum n (dirty_of final) done.head)
step_next geo lnum n index final result done = if_ok_done (λ (x : WrittenLeb). IsStepDone geo lnum n index final x) (λ (x : WrittenLeb). IsNextLeb geo lnum n (dirty_of final) x.head) result (λ fine x h. h.0) done

pub step_some : (geo : RawGeometry) (lnum i j : ℕ) (index final : PagedIndex) (result : Result WrittenLeb IndexFault) → IfOk result (λ done. IsStepDone geo lnum (j - i) index final done) → IfOk result (λ done. i < j)
step_some geo lnum i j index final result done =
    if_ok_done (λ (x : WrittenLeb). IsStepDone geo lnum (j - i) index final x) (λ (x : WrittenLeb). i < j) result (λ fine x h. let some = h.0.some in omega (arith, some)) done

-- ---- keys in order, whatever the places
branch_key : (key : Key) (o : Option Stretch) → (node_branch key o).key ≡ key
branch_key key None = refl
branch_key key (Some s) = refl

order_as : (before : Option Key) (row now : KeyedRow) → KeepsPlaces row now → in_order before (branches_of (placed_of now)) ≡ in_order before (branches_of (placed_of row))
order_as before no_more now h = ap (λ (r : KeyedRow). in_order before (branches_of (placed_of r))) h
order_as before (leaf_in x rest) now h =
    ap (λ (r : KeyedRow). in_order before (branches_of (placed_of r))) h.1 ∙ ap (λ b. may_follow before x.key && b) (order_as (Some x.key) rest h.0 h.2)
order_as before (node_in key old children rest) now h =
    let from : Option Stretch → KeyedRow → Bool = λ place others. in_order before (node_branch key place ∷ branches_of (placed_of others)) in
    let same : (place : Option Stretch) (others : KeyedRow) → from place others ≡ (may_follow before key && in_order (Some key) (branches_of (placed_of others))) =
    λ place others. ap (λ (k : Key). may_follow before k && in_order (Some k) (branches_of (placed_of others))) (branch_key key place) in
    ap (λ (r : KeyedRow). in_order before (branches_of (placed_of r))) h.3 ∙ same h.0 h.2 ∙ ap (λ b. may_follow before key && b) (order_as (Some key) rest h.2 h.6) ∙ sym (same old rest)

pub order_kept : (row now : KeyedRow) → KeepsPlaces row now → AreKeysInOrder row → AreKeysInOrder now
order_kept no_more now h order = subst AreKeysInOrder (sym h) tt
order_kept (leaf_in x rest) now h order = subst AreKeysInOrder (sym h.1) (order_kept rest h.0 h.2 order)
order_kept (node_in key old children rest) now h order =
    subst AreKeysInOrder (sym h.3) (order_as None children h.1 h.5 ∙ order.0, order_kept children h.1 h.5 order.1, order_kept rest h.2 h.6 order.2)

-- what is frozen is what the commit began on, with places
pub frozen_places : (a : VolumeState) (kept given : List ℕ) (begun : KeyedRow) (self : MountedIndex) (row : KeyedRow) (index : PagedIndex) → self.nodes ≡ InMemory index → IsCommitRunning a kept given begun self row → KeepsPlaces begun (frozen_of index)
frozen_places a kept given begun self row index is h = (run_as a kept given begun row self.nodes (InMemory index) is h.nodes).1

-- ---- it ends
-- a root stands where it is told of all contents
abbrev IsToldRoot : PagedIndex → Option Branch → Type 0
IsToldRoot index at = (contents : ℕ → List ℕ) (lebs : List ℕ) → AreOutside contents lebs (frozen_of index) → IsRootOf contents (fanout_of index) (frozen_of index) at

told_on : (a : VolumeState) (f : ℕ) (lebs : List ℕ) (index : PagedIndex) (at : Option Branch) → fanout_of index ≡ f → frozen_of index ≡ all_clean (placed_of (frozen_of index)) → IsToldRoot index at → AreKeys (frozen_of index) → StandsIn a lebs (frozen_of index)
    → IsRootOn a f (frozen_of index) at
told_on a f lebs index at fanout clean told keys stands =
    let R : ℕ → Type 0 = λ n. IsRootOf a.holds n (frozen_of index) at in
    root_on a f lebs (frozen_of index) at clean (subst R fanout (told a.holds [] (outside_of a.holds lebs [] (frozen_of index) (λ k one none. none) stands.within))) stands keys

-- LEBs that were given, and others of the commit
own_there : (P : ℕ → Type 0) (kept given own : List ℕ) → All (IsGiven (given ++ kept)) own → ((k : ℕ) → IsGiven (given ++ kept) k → P k) → (k : ℕ) → IsGiven (given ++ own) k → P k
own_there P kept given own all holds k one = elim (given_of given own k one) [
  | inl front ↦ holds k (given_front given kept k front)
  | inr behind ↦ all_given P own (All-weaker (IsGiven (given ++ kept)) P holds own all) k behind
]

pub ended : (a : VolumeState) (kept given : List ℕ) (begun : KeyedRow) (self : MountedIndex) (row : KeyedRow) (index : PagedIndex) (after : MountedIndex) (at : Option Branch) → self.nodes ≡ InMemory index
    → frozen_of index ≡ all_clean (placed_of (frozen_of index)) → IsToldRoot index at → AreKeys (frozen_of index) → after.geometry ≡ self.geometry → Shows a after row → IsCommitRunning a kept given begun self row
    → IsCommitEnded a kept given begun row after at
ended a kept given begun self row index after at is clean told keys same shown h =
    let f = self.geometry.fanout in
    let own = nodes_as a f row self.nodes (InMemory index) is h.shown.nodes in
    let run = run_as a kept given begun row self.nodes (InMemory index) is h.nodes in
    let lebs : List ℕ = lebs_of (placed_of (frozen_of index)) in
    let all_clean_row : is_clean_row (frozen_of index) ≡ true = ap is_clean_row clean ∙ all_is_clean (placed_of (frozen_of index)) in
    let all = clean_lebs a.holds (given ++ kept) (frozen_of index) all_clean_row run.0.frozen in
    let final = commit_ended a kept given index all_clean_row run.0 in
    let W : KeyedRow → Type 0 = λ r. AreWithinLebs a.holds (given ++ lebs) r in
    let R : Geometry → Type 0 = λ g. IsRootOn a g.fanout (frozen_of index) at in
    record {
      now = frozen_of index;
      places = run.1;
      root = subst R (sym same) (told_on a f (given ++ kept) index at own.1 clean told keys (record { there = h.there; within = run.0.frozen }));
      lebs = all;
      shown = shown;
      settled = final.settled;
      stands = record { there = own_there (λ (k : ℕ). k < a.leb_cnt) kept given lebs all h.there; within = subst W (sym own.0) final.seen };
    }

pub ended_alone : LoadedNodesStand → ((row : KeyedRow) → KeepsPlaces row row) → (a : VolumeState) (kept given : List ℕ) (begun : KeyedRow) (self : MountedIndex) (row : KeyedRow) (root : Branch) → self.nodes ≡ OnMedium root
    → IsCommitRunning a kept given begun self row → IsCommitEnded a kept given begun row (with_nodes self (OnMedium root) self.cache) (Some root)
ended_alone stand none a kept given begun self row root is h =
    let f = self.geometry.fanout in
    let own = nodes_as a f row self.nodes (OnMedium root) is h.shown.nodes in
    let run = run_as a kept given begun row self.nodes (OnMedium root) is h.nodes in
    let whole : begun ≡ all_clean own.0 = sym run.0 ∙ own.1 in
    let lebs : List ℕ = lebs_of (placed_of begun) in
    let same : lebs ≡ lebs_of own.0 = ap (λ (r : KeyedRow). lebs_of (placed_of r)) whole ∙ ap lebs_of (placed_again own.0) in
    let all = clean_lebs a.holds (given ++ kept) begun (ap is_clean_row whole ∙ all_is_clean own.0) run.2 in
    let S : KeyedRow → Type 0 = λ r. StandsIn a (lebs_of own.0) r in
    let L : List ℕ → Type 0 = λ l. StandsIn a l row in
    let there = subst L (sym same) (subst S (sym own.1) (StandsIn-taken stand a f root own.0 own.2)) in
    record {
      now = begun;
      places = none begun;
      root = (own.0, whole, own.2);
      lebs = all;
      shown = record { nodes = own; kept = h.shown.kept };
      settled = own_there (λ (k : ℕ). Only (a.holds k) (a.left_now k)) kept given lebs all run.1;
      stands = record {
        there = own_there (λ (k : ℕ). k < a.leb_cnt) kept given lebs all h.there;
        within = within_of a.holds (given ++ lebs) row (λ others two. outside_of a.holds lebs others row (λ k one other. two k (given_behind given lebs k one) other) there.within);
      };
    }

-- all nodes of the index that is shown are clean, and go
pub let_go_shown : (a : VolumeState) (kept given : List ℕ) (begun : KeyedRow) (self : MountedIndex) (row : KeyedRow) (index final : PagedIndex) (root : Option Branch) (nodes : IndexNodes) → self.nodes ≡ InMemory index → frozen_of final ≡ keyed_tree_of index
    → fanout_of final ≡ fanout_of index → frozen_of final ≡ all_clean (placed_of (frozen_of final)) → IsToldRoot final root → AreKeys (keyed_tree_of index) → HasNodesFrom self.geometry.fanout root nodes → IsCommitRunning a kept given begun self row
    → Shows a (with_nodes self nodes self.cache) row
let_go_shown a kept given begun self row index final root nodes is frozen fanout clean told keys has h =
    let f = self.geometry.fanout in
    let own = nodes_as a f row self.nodes (InMemory index) is h.shown.nodes in
    let stands = StandsIn-running a kept given begun self row h in
    let whole : frozen_of final ≡ row = frozen ∙ sym own.0 in
    let S : KeyedRow → Type 0 = λ r. StandsIn a (given ++ kept) r in
    let K : KeyedRow → Type 0 = λ r. AreKeys r in
    let R : KeyedRow → Type 0 = λ r. IsRootOn a f r root in
    record {
      nodes = nodes_let_go a f row root nodes (subst R whole (told_on a f (given ++ kept) final root (fanout ∙ own.1) clean told (subst K (sym frozen) keys) (subst S (sym whole) stands))) has;
      kept = h.shown.kept;
    }

-- the nodes stay
pub stay_shown : (a : VolumeState) (kept given : List ℕ) (begun : KeyedRow) (self : MountedIndex) (row : KeyedRow) (index final : PagedIndex) → self.nodes ≡ InMemory index → keyed_tree_of final ≡ keyed_tree_of index → fanout_of final ≡ fanout_of index
    → DoesIndexStand a final → IsCommitRunning a kept given begun self row → Shows a (with_nodes self (InMemory final) self.cache) row
stay_shown a kept given begun self row index final is tree fanout there h =
    let own = nodes_as a self.geometry.fanout row self.nodes (InMemory index) is h.shown.nodes in
    record { nodes = (own.0 ∙ sym tree, fanout ∙ own.1, there); kept = h.shown.kept }

-- ---- keys, whatever the places
before_kept : (most : Option ℕ) (row now : KeyedRow) → KeepsPlaces row now → key_before now most ≡ key_before row most
before_kept most no_more now kept = ap (λ (r : KeyedRow). key_before r most) kept
before_kept most (leaf_in x rest) now kept = ap (λ (r : KeyedRow). key_before r most) kept.1
before_kept most (node_in key place children rest) now kept = ap (λ (r : KeyedRow). key_before r most) kept.3

pub bounded_kept : (least : ℕ) (most : Option ℕ) (row now : KeyedRow) → KeepsPlaces row now → AreKeysBounded least most row → AreKeysBounded least most now
bounded_kept least most no_more now kept h = let B : KeyedRow → Type 0 = λ r. AreKeysBounded least most r in subst B (sym kept) tt
bounded_kept least most (leaf_in x rest) now kept h =
    let B : KeyedRow → Type 0 = λ r. AreKeysBounded least most r in subst B (sym kept.1) (h.0, h.1, bounded_kept (leaf_rank x) most rest kept.0 kept.2 h.2)
bounded_kept least most (node_in key place children rest) now kept h =
    let B : KeyedRow → Type 0 = λ r. AreKeysBounded least most r in
    let C : Option ℕ → Type 0 = λ m. AreKeysBounded (key_rank key) m kept.1 in
    subst B (sym kept.3) (
      h.0,
      h.1,
      subst C (sym (before_kept most rest kept.2 kept.6)) (bounded_kept (key_rank key) (key_before rest most) children kept.1 kept.5 h.2),
      bounded_kept (key_rank key) most rest kept.2 kept.6 h.3,
    )

-- ---- what is left
none_dirty : (numbers : List ℕ) → slice_get numbers 0 ≡ None → numbers ≡ []
none_dirty [] e = refl
none_dirty (n ∷ numbers) e = absurd cc

pub none_first : (found : Option DirtyNode) (numbers : List ℕ) → option_map (λ (d : DirtyNode). d.node) found ≡ slice_get numbers 0 → found ≡ None → numbers ≡ []
none_first found numbers first is = none_dirty numbers (sym first ∙ ap (option_map (λ (d : DirtyNode). d.node)) is)

pub some_first : (found : Option DirtyNode) (numbers : List ℕ) (node : DirtyNode) → option_map (λ (d : DirtyNode). d.node) found ≡ slice_get numbers 0 → found ≡ Some node → numbers ≡ [] → ⊥
some_first found numbers node first is none =
    let there : Some node.node ≡ slice_get {X = ℕ} [] 0 = sym (ap (option_map (λ (d : DirtyNode). d.node)) is) ∙ first ∙ ap (λ (l : List ℕ). slice_get l 0) none in
    absurd cc

no_length : (xs : List ℕ) → length xs ≡ 0 → xs ≡ []
no_length [] e = refl
no_length (x ∷ xs) e = absurd (omega (arith, e))

-- an index from which clean nodes went has dirty ones if it had
pub evicted_dirty : {T : Type 0} (r : Result T MemoryFault) (begun new : PagedIndex) → OnOk r (new.frozen ≡ new.root) → OnErr r ((new.table.nodes.items ≡ begun.table.nodes.items) × (new.root ≡ begun.root) × (new.frozen ≡ begun.frozen))
    → keyed_tree_of new ≡ keyed_tree_of begun → begun.frozen ≡ begun.root → dirty_of new ≡ [] → dirty_of begun ≡ []
evicted_dirty (Ok x) begun new frozen same tree all none =
    let now = ap (λ (o : Option Root). length (dirty_below new.table.nodes.items o)) frozen ∙ counted_below new new.root new.there in
    let was = ap (λ (o : Option Root). length (dirty_below begun.table.nodes.items o)) all ∙ counted_below begun begun.root begun.there in
    let empty = ap length none in
    let both = ap dirty_nodes_in tree in
    no_length (dirty_of begun) (omega (arith, now, was, empty, both))
evicted_dirty (Err e) begun new frozen same tree all none =
    sym (ap (λ (items : List TableNode). dirty_below items new.frozen) same.0 ∙ ap (dirty_below begun.table.nodes.items) same.2) ∙ none

pub dirty_there : (nodes : IndexNodes) (index : PagedIndex) → nodes ≡ InMemory index → dirty_left nodes ≡ [] → dirty_of index ≡ []
dirty_there nodes index is none = let P : IndexNodes → Type 0 = λ n. dirty_left n ≡ [] in subst P is none

pub dirty_here : (nodes : IndexNodes) (index : PagedIndex) → nodes ≡ InMemory index → dirty_of index ≡ [] → dirty_left nodes ≡ []
dirty_here nodes index is none = let P : IndexNodes → Type 0 = λ n. dirty_left n ≡ [] in subst P (sym is) none
