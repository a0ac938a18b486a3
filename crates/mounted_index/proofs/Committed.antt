-- What was written to some LEBs stands on the volume, and is an index that a mount takes up.
use Rattle.std.proofs.Common.{◌≡◌, ℕ, ◌+◌, ◌-◌, ◌*◌, ◌/◌, ◌%◌, ◌<◌, ◌≤◌, true, List, [], ◌∷◌, ◌++◌, length, take, drop, refl, ap, sym, ◌∙◌, subst, arith, inl, inr, append-nil, append_assoc}
use Rattle.std.specs.Prelude.{◌⊎◌, Option, None, Some, All, IfOk, Result, Ok, Err, is_some, min}
use Rattle.std.specs.Int.{div_ceil}
use Rattle.std.proofs.Math.Nat.{le-div_iff_mul-le, mul_comm, mul-le-mul_left, zero-div, zero-mod}
use Rattle.std.proofs.Math.Seq.{drop-nil, take-nil}
use Rattle.std.proofs.lemmas.Grind.{div_ceil_times}
use Rattle.std.proofs.lemmas.List.{length-map}
use Rattle.std.proofs.lemmas.List.Elements.{All-weaker}
use Rattle.ubifs_base.specs.Key.{IsKey}
use Rattle.ubifs_base.specs.Geometry.{index_node_len, index_nodes_per_leb}
use Rattle.ubifs_base.specs.RawOf.{raw_of}
use Rattle.ubifs_base.specs.declared.geometry.Geometry.{Geometry}
use Rattle.ubifs_base.specs.declared.raw_geometry.RawGeometry.{RawGeometry}
use Rattle.index_media.specs.Clean.{is_clean_row, placed_of}
use Rattle.index_media.specs.InsertionSound.{AreKeys}
use Rattle.index_media.specs.KeyedRow.{KeyedRow, no_more, all_clean, bare}
use Rattle.index_media.specs.PlacedRow.{PlacedRow, ended, leaf_at, node_at, lebs_of, stretch_of}
use Rattle.index_tree.specs.Distinct.{AreDistinct}
use Rattle.index_tree.specs.Shape.{contents}
use Rattle.media_sys.specs.Index.{Index}
use Rattle.media_sys.specs.declared.branch.Branch.{Branch}
use Rattle.node_cache.specs.Kept.{AreKept}
use Rattle.node_cache.specs.Loaded.{IsIndexOn}
use Rattle.node_cache.specs.OnVolume.{IsOnVolume}
use Rattle.node_cache.specs.declared.cache.NodeCache.{NodeCache}
use Rattle.node_table.specs.Dirty.{dirty_below}
use Rattle.table_nodes.specs.NodeView.{tree_at}
use Rattle.node_table.specs.Placing.{KeepsPlaces}
use Rattle.node_table.specs.StandingRows.{standing_row}
use Rattle.node_table.specs.Staging.{IsSoundRoot}
use Rattle.node_table.specs.Unloaded.{DoesRootStand}
use Rattle.table_nodes.specs.Stubs.{unplaced}
use Rattle.table_nodes.specs.declared.node.Root.{Root}
use Rattle.table_nodes.specs.declared.node.TableNode.{TableNode}
use Rattle.ubi_volume.specs.Frame.{Elsewhere}
use Rattle.ubi_volume.specs.FrameLaws.{IsSameLeb-none, Works-none}
use Rattle.ubi_volume.specs.Volume.{VolumeState, Keeps, Leaves, Only, SameShape}
use Rattle.ubi_volume.specs.VolumeLaws.{Leaves-none}
use Rattle.index_cache.specs.Commit.{said_of}
use Rattle.index_cache.specs.Paged.{dirty_of, fanout_of, frozen_of, keyed_tree_of, DoesIndexStand, KeepsRoots}
use Rattle.index_cache.specs.declared.paged.PagedIndex.{PagedIndex}
use Rattle.index_commit.specs.Answers.{IsFullOf, IsIndexNotFailed, OnMemory}
use Rattle.index_commit.specs.LebTexts.{AreLebsLeft, AreLebsOf, IsLebOf, firsts, nodes_written}
use Rattle.index_commit.specs.Lebs.{AreLebsApart, AreGivable, IsGiven}
use Rattle.index_commit.specs.Ordered.{AreKeysInOrder, IsNotEqualKeys}
use Rattle.index_commit.specs.Rooms.{AreDistinctNumbers, IsIndexLaidOut, Room, all_rooms, last_head, place_room, rooms_of}
use Rattle.index_commit.specs.Standing.{AreOutside}
use Rattle.index_commit.specs.Written.{AreLebsSettled, AreStanding, IsHeadAfter, IsHeadIn, IsIndexAt, IsIndexTaken, IsRootOf, WorksInLebs}
use Rattle.index_commit.specs.declared.index_at.IndexAt.{IndexAt}
use Rattle.index_commit.specs.declared.index_at.IndexHead.{IndexHead}
use Rattle.index_commit.specs.declared.index_fault.IndexFault.{IndexFault}
use Rattle.index_commit.specs.declared.index_fault.IndexFault.TheVariants.{Memory, Full, EqualKeys, Volume}
use Rattle.commit_steps.specs.UnderWayLaws.{clean_lebs, given_behind, given_front, given_of, outside_of, within_of}
use Rattle.mounted_index.specs.Committed.{HasNodesFrom, AreNodesWritten, IsBeside, IsCommit, IsRootOn, IsShortOf, IsWrittenAt, OnWant, nodes_to_write}
use Rattle.mounted_index.specs.Shown.{IsRowOfNodes, KeepsShown, Shows, StandsIn, are_on_medium}
use Rattle.mounted_index.specs.ShownLaws.{StandsIn-beside, StandsIn-index}
use Rattle.mounted_index.specs.declared.mounted.IndexNodes.{IndexNodes}
use Rattle.mounted_index.specs.declared.mounted.IndexNodes.TheVariants.{OnMedium, InMemory}
use Rattle.mounted_index.specs.declared.mounted.MountedIndex.{MountedIndex}
use Rattle.mounted_index.proofs.Shown.{nodes_as, staged_as}
use Rattle.node_cache.specs.CleanRows.{all_is_clean, placed_again}

givable_there : (n : ℕ) (lebs : List ℕ) → AreGivable n lebs → (k : ℕ) → IsGiven lebs k → k < n
givable_there n [] h k given = absurd given
givable_there n (lnum ∷ lebs) h k (inl e) = let P : ℕ → Type 0 = λ m. m < n in subst P (sym e) h.0
givable_there n (lnum ∷ lebs) h k (inr given) = givable_there n lebs h.2 k given

-- ---- where nodes stand
-- the nodes that were written, and those that stood, stand in the given LEBs and in those of before
pub stands_after : (a b : VolumeState) (kept lebs : List ℕ) (old new : KeyedRow) → SameShape a b → AreGivable a.leb_cnt lebs → AreLebsApart kept lebs
    → ((others : List ℕ) → AreLebsApart lebs others → AreOutside a.holds (lebs ++ others) old → AreOutside b.holds others new)
    → StandsIn a kept old → StandsIn b (lebs ++ kept) new
stands_after a b kept lebs old new shape givable two nodes h = record {
  there = λ k given.
      let P : ℕ → Type 0 = λ n. k < n in
      subst P (sym shape.leb_cnt) (elim (given_of lebs kept k given) [
        | inl one ↦ givable_there a.leb_cnt lebs givable k one
        | inr other ↦ h.there k other
      ]);
  within = within_of b.holds (lebs ++ kept) new (λ others apart.
      nodes others (λ k one other. apart k (given_front lebs kept k one) other)
      (outside_of a.holds kept (lebs ++ others) old (λ k own given. elim (given_of lebs others k given) [
        | inl one ↦ two k own one
        | inr other ↦ apart k (given_behind lebs kept k own) other
      ]) h.within));
}

-- nodes that stand in some LEBs stand in these and others
pub stands_more : (a : VolumeState) (kept lebs : List ℕ) (row : KeyedRow) → AreGivable a.leb_cnt lebs → StandsIn a kept row → StandsIn a (lebs ++ kept) row
stands_more a kept lebs row givable h = record {
  there = λ k given. elim (given_of lebs kept k given) [
    | inl one ↦ givable_there a.leb_cnt lebs givable k one
    | inr other ↦ h.there k other
  ];
  within = within_of a.holds (lebs ++ kept) row (λ others apart. outside_of a.holds kept others row (λ k own given. apart k (given_behind lebs kept k own) given) h.within);
}

-- ---- an index that is written
root_key : (root : Branch) (row : KeyedRow) (placed children : PlacedRow) → row ≡ all_clean placed → placed ≡ node_at root children ended → AreKeys row → IsKey root.key
root_key root row placed children clean whole h = let K : KeyedRow → Type 0 = λ r. AreKeys r in (subst K (clean ∙ ap all_clean whole) h).0

-- a clean row that stands from a root on is an index that a mount takes up
pub root_on : (b : VolumeState) (f : ℕ) (lebs : List ℕ) (row : KeyedRow) (root : Option Branch) → row ≡ all_clean (placed_of row) → IsRootOf b.holds f row root
    → StandsIn b lebs row → AreKeys row → IsRootOn b f row root
root_on b f lebs row None clean h stands keys = h
root_on b f lebs row (Some root) clean h stands keys =
    let placed = placed_of row in
    let C : KeyedRow → Type 0 = λ r. is_clean_row r ≡ true in
    let is = subst C (sym clean) (all_is_clean placed) in (
      placed,
      clean,
      record {
        index = h;
        there = All-weaker (IsGiven lebs) (λ k. k < b.leb_cnt) stands.there (lebs_of placed) (clean_lebs b.holds lebs row is stands.within);
        key = root_key root row placed h.children clean h.whole keys;
      },
    )

head_end : (b : VolumeState) (lebs dirty : List ℕ) (now : Option IndexHead) → IsHeadAfter b lebs dirty None now → (now ≡ None) ⊎ IsHeadIn b lebs now
head_end b lebs dirty now (inl none) = inl none.0
head_end b lebs dirty now (inr some) = inr some.1

-- the index that is seen, where its clean nodes stand once it was written
pub seen_stands : (a b : VolumeState) (kept lebs : List ℕ) (old begun final : PagedIndex) (first last : ℕ) → SameShape a b → AreGivable a.leb_cnt lebs → AreLebsApart kept lebs
    → AreStanding a b lebs begun final first last → final.root ≡ begun.root → keyed_tree_of begun ≡ keyed_tree_of old → StandsIn a kept (keyed_tree_of old) → StandsIn b (lebs ++ kept) (keyed_tree_of final)
seen_stands a b kept lebs old begun final first last shape givable two standing root tree h =
    let T : Option Root → Type 0 = λ r. StandsIn b (lebs ++ kept) (tree_at final.table.nodes.items r) in
    let S : KeyedRow → Type 0 = λ r. StandsIn a kept r in
    subst T (sym root) (stands_after a b kept lebs (keyed_tree_of begun) (tree_at final.table.nodes.items begun.root) shape givable two (λ others apart out. standing.nodes others begun.root apart out) (subst S (sym tree) h))

-- where it stands then
pub seen_at : (b : VolumeState) (geo : RawGeometry) (lebs all : List ℕ) (nodes : ℕ) (old begun final : PagedIndex) (at : IndexAt)
    → IsIndexAt b geo.fanout lebs begun final at × IsIndexLaidOut geo lebs nodes begun final at → KeepsRoots begun final
    → begun.frozen ≡ old.root → begun.root ≡ old.root → frozen_of begun ≡ keyed_tree_of old → IsSoundRoot begun.table.nodes.items begun.root
    → (AreDistinct (contents (bare (frozen_of begun))) → AreDistinctNumbers (dirty_of begun))
    → StandsIn b all (keyed_tree_of final) → IsWrittenAt b geo lebs nodes (keyed_tree_of old) (keyed_tree_of final) at
seen_at b geo lebs all nodes old begun final at h roots frozen seen tree sound distinct stands =
    let items = final.table.nodes.items in
    let same : final.frozen ≡ final.root = roots.frozen ∙ frozen ∙ sym (roots.root ∙ seen) in
    let rows : frozen_of final ≡ keyed_tree_of final = ap (tree_at items) same in
    let C : KeyedRow → Type 0 = λ r. r ≡ all_clean (placed_of r) in
    let R : KeyedRow → Type 0 = λ r. IsRootOf b.holds geo.fanout r at.root in
    let L : KeyedRow → Type 0 = λ r. AreLebsSettled b lebs (placed_of r) in
    let K : Option Root → Type 0 = λ r. AreKeys (tree_at items r) in
    let D : KeyedRow → Type 0 = λ r. AreDistinct (contents (bare r)) in
    let M : KeyedRow → Type 0 = λ r. rooms_of r ≡ all_rooms geo lebs 0 (rooms_of (keyed_tree_of old)) in
    let O : KeyedRow → Type 0 = λ r. rooms_of (frozen_of final) ≡ all_rooms geo lebs 0 (rooms_of r) in
    record {
      root = root_on b geo.fanout all (keyed_tree_of final) at.root (subst C rows h.0.clean) (subst R rows h.0.root) stands (subst K (sym roots.root) (roots.sound begun.root sound).keys);
      settled = subst L rows h.0.left;
      head = h.1.head;
      end = head_end b lebs (dirty_of begun) at.head h.0.head;
      rooms = λ two. subst M rows (subst O tree (h.1.rooms (distinct (subst D (sym tree) two))));
    }

-- ---- numbers, and what is wanting
pub want_of : (F M P : Type 0) (need given : ℕ) (r : Result IndexAt IndexFault) → IsFullOf F need given r → OnMemory M r → (F → P) → (M → P) → OnWant P r
want_of F M P need given (Ok x) full memory f m = tt
want_of F M P need given (Err Memory) full memory f m = m memory
want_of F M P need given (Err (Full n k)) full memory f m = f full.3
want_of F M P need given (Err EqualKeys) full memory f m = tt
want_of F M P need given (Err (Volume count)) full memory f m = tt

pub nodes_count : {r : ℕ → Room} (a b : PagedIndex) (i j : ℕ) → IsIndexTaken r a b i j → j ≡ i + length (nodes_written a b (j - i))
nodes_count a b i j h =
    let number = h.number in
    let count : j - i ≡ length h.numbers = omega (arith, number) in
    let same : firsts (j - i) (dirty_of a) ≡ h.numbers = ap (λ (n : ℕ). firsts n (dirty_of a)) count ∙ h.firsts in
    let long = length-map (firsts (j - i) (dirty_of a)) (λ (number : ℕ). said_of b number) in
    let whole = ap length same in
    omega (arith, number, long, whole)

pub nodes_are : {r : ℕ → Room} {T : Type 0} (geo : RawGeometry) (old new : VolumeState) (lebs : List ℕ) (a b : PagedIndex) (i j : ℕ) (result : Result T IndexFault) → IsIndexTaken r a b i j
    → Leaves old new (AreLebsLeft geo lebs old i (nodes_written a b (j - i))) → (IsIndexNotFailed result → AreLebsOf geo lebs old new i (nodes_written a b (j - i))) → AreNodesWritten geo old new lebs i j result
nodes_are geo old new lebs a b i j result taken left texts = record { nodes = nodes_written a b (j - i); number = nodes_count a b i j taken; left = left; texts = texts }

abbrev empty_list : (X : Type 0) → List X
empty_list X = []

no_nodes : (q n : ℕ) → take q (drop n (empty_list Index)) ≡ []
no_nodes q n = ap (take q) (drop-nil n) ∙ take-nil q

pub none_written : {T : Type 0} (geo : RawGeometry) (a : VolumeState) (lebs : List ℕ) (i : ℕ) (result : Result T IndexFault) → AreNodesWritten geo a a lebs i i result
none_written geo a lebs i result = record {
  nodes = [];
  number = omega arith;
  left = Leaves-none a (AreLebsLeft geo lebs a i []);
  texts = λ fine k lnum is.
      let q = index_nodes_per_leb geo in
      let P : List Index → Type 0 = λ l. IsLebOf geo a a lnum (i + k * q) l in
      subst P (sym (no_nodes q (k * q))) (IsSameLeb-none a lnum);
}

pub none_works : (state : VolumeState) (lebs : List ℕ) → WorksInLebs state state lebs
none_works state lebs = Works-none state (IsGiven lebs) (Elsewhere state (IsGiven lebs)) (λ x each k apart. each k)

lebs_suffice : (n each given : ℕ) → 0 < each → div_ceil n each ≤ given → n ≤ each * given
lebs_suffice n each given some fits =
    let most = (div_ceil_times n each some).0 in
    let need = n / each + min 1 (n % each) in
    let more = mul-le-mul_left {m = need} {n = given} each fits in
    let turned : need * each ≡ each * need = mul_comm need each in
    omega (arith, most, more, turned)

pub some_nodes : (geo : Geometry) → 0 < index_nodes_per_leb (raw_of geo)
some_nodes geo =
    let least = geo.in_range.leb_size.0 in
    let most = geo.in_range.fanout.1 in
    let room = index_node_len (raw_of geo) in
    let some : 0 < room = omega arith in
    let one : 1 * room ≤ geo.leb_size = omega (arith, least, most) in
    let fits = (le-div_iff_mul-le {k = room} {x = 1} {y = geo.leb_size} some).1 one in
    omega (arith, fits)

-- sequence numbers rise by no more than the nodes that the LEBs take
pub number_most : (K : Type 0) (q given i j : ℕ) (old new : PagedIndex) (r : Result IndexAt IndexFault) → 0 < q → j + length (dirty_of new) ≤ i + length (dirty_of old)
    → IsFullOf (K × (new ≡ old)) (div_ceil (length (dirty_of old)) q) given r → j ≤ i + q * given
number_most K q given i j old new (Ok x) some most full = let fits = lebs_suffice (length (dirty_of old)) q given some full in omega (arith, fits, most)
number_most K q given i j old new (Err Memory) some most full = let fits = lebs_suffice (length (dirty_of old)) q given some full in omega (arith, fits, most)
number_most K q given i j old new (Err (Full n m)) some most full =
    let same : length (dirty_of new) ≡ length (dirty_of old) = ap (λ (x : PagedIndex). length (dirty_of x)) full.3.1 in
    omega (arith, same, most)
number_most K q given i j old new (Err EqualKeys) some most full = let fits = lebs_suffice (length (dirty_of old)) q given some full in omega (arith, fits, most)
number_most K q given i j old new (Err (Volume count)) some most full = let fits = lebs_suffice (length (dirty_of old)) q given some full in omega (arith, fits, most)

-- ---- an index of which no node is dirty
rooms_full : (geo : RawGeometry) (lebs : List ℕ) (row : PlacedRow) (n : ℕ) (more : List (Option Room)) → all_rooms geo lebs n more ≡ more
    → all_rooms geo lebs n (rooms_of (all_clean row) ++ more) ≡ rooms_of (all_clean row) ++ more
rooms_full geo lebs ended n more h = h
rooms_full geo lebs (leaf_at x rest) n more h = rooms_full geo lebs rest n more h
rooms_full geo lebs (node_at branch children rest) n more h =
    let own = place_room (stretch_of branch) in
    let below = rooms_of (all_clean children) in
    let behind = rooms_of (all_clean rest) in
    let split : (below ++ Some own ∷ behind) ++ more ≡ below ++ (Some own ∷ behind ++ more) = append_assoc below (Some own ∷ behind) more in
    let P : List (Option Room) → Type 0 = λ l. all_rooms geo lebs n l ≡ l in
    subst P (sym split) (rooms_full geo lebs children n (Some own ∷ behind ++ more) (ap (λ (l : List (Option Room)). Some own ∷ l) (rooms_full geo lebs rest n more h)))

clean_rooms : (geo : RawGeometry) (lebs : List ℕ) (row : PlacedRow) → rooms_of (all_clean row) ≡ all_rooms geo lebs 0 (rooms_of (all_clean row))
clean_rooms geo lebs row =
    let rooms = rooms_of (all_clean row) in
    let P : List (Option Room) → Type 0 = λ l. l ≡ all_rooms geo lebs 0 l in
    subst P (append-nil rooms) (sym (rooms_full geo lebs row 0 [] refl))

-- LEBs of which none has a node of the row
settled_beside : (b : VolumeState) (kept lebs : List ℕ) (row : PlacedRow) → AreLebsApart kept lebs → StandsIn b kept (all_clean row) → AreLebsSettled b lebs row
settled_beside b kept lebs row two h =
    let P : ℕ → Type 0 = λ k. IsGiven lebs k → Only (b.holds k) (b.left_now k) in
    let Q : PlacedRow → Type 0 = λ r. All (IsGiven kept) (lebs_of r) in
    All-weaker (IsGiven kept) P (λ k own given. absurd (two k own given)) (lebs_of row) (subst Q (placed_again row) (clean_lebs b.holds kept (all_clean row) (all_is_clean row) h.within))

-- where it stands, though nothing was written
pub clean_at : (a : VolumeState) (geo : RawGeometry) (kept lebs : List ℕ) (n : ℕ) (root : Branch) (row : KeyedRow) → n ≡ 0 → (placed : PlacedRow) × (row ≡ all_clean placed) × IsIndexOn a geo.fanout root placed
    → AreLebsApart kept lebs → StandsIn a kept row → IsWrittenAt a geo lebs n row row (record { root = Some root; head = None })
clean_at a geo kept lebs n root row none on two stands =
    let placed = on.0 in
    let S : KeyedRow → Type 0 = λ r. StandsIn a kept r in
    let L : PlacedRow → Type 0 = λ r. AreLebsSettled a lebs r in
    let R : KeyedRow → Type 0 = λ r. rooms_of r ≡ all_rooms geo lebs 0 (rooms_of r) in
    record {
      root = on;
      settled = subst L (sym (ap placed_of on.1 ∙ placed_again placed)) (settled_beside a kept lebs placed two (subst S on.1 stands));
      head = sym (ap (last_head geo lebs) none);
      end = inl refl;
      rooms = λ distinct. subst R (sym on.1) (clean_rooms geo lebs placed);
    }

-- what holds of a commit's answer where the volume didn't fail
pub if_ok_done : {T : Type 0} (P Q : T → Type 0) (r : Result T IndexFault) → (IsIndexNotFailed r → (x : T) → P x → Q x) → IfOk r P → IfOk r Q
if_ok_done P Q (Ok x) f p = f tt x p
if_ok_done P Q (Err e) f p = tt

-- no number is taken where the index is as it was
pub number_same : {r : ℕ → Room} (old new : PagedIndex) (i j : ℕ) → IsIndexTaken r old new i j → new ≡ old → j ≡ i
number_same old new i j taken e =
    let same : length (dirty_of new) ≡ length (dirty_of old) = ap (λ (x : PagedIndex). length (dirty_of x)) e in
    let most = taken.most in
    let number = taken.number in
    omega (arith, same, most, number)

none_needed : (q given : ℕ) (nodes : IndexNodes) (root : Branch) → nodes ≡ OnMedium root → div_ceil (nodes_to_write nodes) q ≤ given
none_needed q given nodes root e =
    let N : ℕ → Type 0 = λ n. div_ceil n q ≤ given in
    let none : div_ceil 0 q ≤ given = let quotient = zero-div q in let rest = zero-mod q in rw (quotient, rest) (omega arith) in
    subst N (sym (ap nodes_to_write e)) none

-- a commit of an index that is on the volume alone
pub commit_clean : ((row : KeyedRow) → KeepsPlaces row row) → (a : VolumeState) (lebs kept : List ℕ) (i : ℕ) (self after : MountedIndex) (row : KeyedRow) (root : Branch) → self.nodes ≡ OnMedium root → AreGivable a.leb_cnt lebs
    → IsBeside a lebs kept self row → Shows a after row → IsCommit a a lebs kept i i self after row (Ok (record { root = Some root; head = None }))
commit_clean none a lebs kept i self after row root is givable h shown =
    let geo = raw_of self.geometry in
    let on = nodes_as a self.geometry.fanout row self.nodes (OnMedium root) is h.shown.nodes in
    record {
      now = row;
      shown = shown;
      places = none row;
      at = clean_at a geo kept lebs (i - i) root row (omega arith) on h.apart h.stands;
      untouched = tt;
      full = none_needed (index_nodes_per_leb geo) (length lebs) self.nodes root is;
      stands = λ fine. stands_more a kept lebs row givable h.stands;
      order = λ order. tt;
      same = tt;
    }

-- ---- an index in memory
-- what write_seen says of the index that was seen
pub record IsSeenWritten (a b : VolumeState) (geo : RawGeometry) (lebs kept : List ℕ) (i j need : ℕ) (old new : KeyedRow) (result : Result IndexAt IndexFault) : Type 0 where
  pub places : KeepsPlaces old new
  pub at : IfOk result (IsWrittenAt b geo lebs (j - i) old new)
  pub untouched : OnWant (Keeps a b × (new ≡ old) × (j ≡ i)) result
  pub full : IsShortOf (div_ceil need (index_nodes_per_leb geo)) (length lebs) result
  pub stands : StandsIn a kept old → AreLebsApart kept lebs → IsIndexNotFailed result → StandsIn b (lebs ++ kept) new
  pub order : AreKeysInOrder old → IsNotEqualKeys result

pub commit_seen : (a b : VolumeState) (lebs kept : List ℕ) (i j : ℕ) (self after : MountedIndex) (row : KeyedRow) (index final : PagedIndex) (result : Result IndexAt IndexFault) → self.nodes ≡ InMemory index → IsBeside a lebs kept self row
    → IsSeenWritten a b (raw_of self.geometry) lebs kept i j (length (dirty_below index.table.nodes.items index.root)) (keyed_tree_of index) (keyed_tree_of final) result → Shows b after (keyed_tree_of final) → OnWant (KeepsShown a b self after) result
    → IsCommit a b lebs kept i j self after row result
commit_seen a b lebs kept i j self after row index final result is h seen shown same =
    let own = nodes_as a self.geometry.fanout row self.nodes (InMemory index) is h.shown.nodes in
    let S : KeyedRow → Type 0 = λ r. StandsIn a kept r in
    let here = subst S own.0 h.stands in
    let P : KeyedRow → Type 0 = λ r. IsCommit a b lebs kept i j self after r result in
    let F : ℕ → Type 0 = λ n. IsShortOf (div_ceil n (index_nodes_per_leb (raw_of self.geometry))) (length lebs) result in
    subst P (sym own.0) (record {
      now = keyed_tree_of final;
      shown = shown;
      places = seen.places;
      at = seen.at;
      untouched = seen.untouched;
      same = same;
      full = subst F (sym (ap nodes_to_write is)) seen.full;
      stands = seen.stands here h.apart;
      order = seen.order;
    })

-- what holds where a commit wants memory, or LEBs
pub want_more : {T : Type 0} (P Q : Type 0) (r : Result T IndexFault) → OnWant P r → (P → Q) → OnWant Q r
want_more P Q (Ok x) h f = tt
want_more P Q (Err Memory) h f = f h
want_more P Q (Err (Full n k)) h f = f h
want_more P Q (Err EqualKeys) h f = tt
want_more P Q (Err (Volume count)) h f = tt

pub want_both : {T : Type 0} (P Q : Type 0) (r : Result T IndexFault) → OnWant P r → OnWant Q r → OnWant (P × Q) r
want_both P Q (Ok x) h k = tt
want_both P Q (Err Memory) h k = (h, k)
want_both P Q (Err (Full n m)) h k = (h, k)
want_both P Q (Err EqualKeys) h k = tt
want_both P Q (Err (Volume count)) h k = tt

-- the same nodes and the same root stand where those do
pub index_as : (b : VolumeState) (index final : PagedIndex) → final.table.nodes.items ≡ index.table.nodes.items → final.root ≡ index.root → DoesIndexStand b index → DoesIndexStand b final
index_as b index final items root h =
    let D : List TableNode → Type 0 = λ xs. DoesRootStand b xs final.root in
    let R : Option Root → Type 0 = λ r. DoesRootStand b index.table.nodes.items r in
    subst D (sym items) (subst R (sym root) h)

-- an index in memory of which neither a node nor the root changed shows what it showed, once changes are adopted too, if roots that stood do
pub kept_shown : (a b : VolumeState) (self : MountedIndex) (cache : NodeCache) (index final : PagedIndex) → self.nodes ≡ InMemory index → AreKept b.holds cache
    → ((root : Option Root) → DoesRootStand a index.table.nodes.items root → DoesRootStand b index.table.nodes.items root) → (final.table.nodes.items ≡ index.table.nodes.items) × (final.root ≡ index.root) → fanout_of final ≡ fanout_of index
    → KeepsShown a b self (record { geometry = self.geometry; nodes = InMemory final; cache = cache })
kept_shown a b self cache index final is kept moved same fanout =
    let f = self.geometry.fanout in
    let items = index.table.nodes.items in
    let tree : keyed_tree_of final ≡ keyed_tree_of index = ap (λ (xs : List TableNode). tree_at xs final.root) same.0 ∙ ap (tree_at items) same.1 in
    record {
      shown = λ row s. let own = nodes_as a f row self.nodes (InMemory index) is s.nodes in record { nodes = (own.0 ∙ sym tree, fanout ∙ own.1, index_as b index final same.0 same.1 (moved index.root own.2)); kept = kept };
      staged = λ staged row s.
          let own = staged_as a f row staged self.nodes (InMemory index) is s.nodes in
          let S : List TableNode → Type 0 = λ xs. IsSoundRoot xs staged.root in
          let D : List TableNode → Type 0 = λ xs. DoesRootStand b xs staged.root in
          record { nodes = (own.0 ∙ sym (ap (λ (xs : List TableNode). tree_at xs staged.root) same.0), fanout ∙ own.1, subst S (sym same.0) own.2, subst D (sym same.0) (moved staged.root own.3)); kept = kept };
      alone = sym (ap are_on_medium is);
      geometry = refl;
    }

-- of an empty index no node needs to stand
empty_stands : (b : VolumeState) (index : PagedIndex) → keyed_tree_of index ≡ no_more → DoesIndexStand b index
empty_stands b index none = let O : KeyedRow → Type 0 = λ r. IsOnVolume b r in standing_row b index.table.nodes.items index.root (subst O (sym none) tt)

-- an index stands after nodes were written to LEBs beside those that its clean nodes stand in, and have got places
pub written_stands : (a b : VolumeState) (kept lebs : List ℕ) (index final : PagedIndex) → SameShape a b → AreLebsApart kept lebs → WorksInLebs a b lebs → StandsIn a kept (keyed_tree_of index)
    → unplaced final.table.nodes.items ≡ unplaced index.table.nodes.items → final.root ≡ index.root → DoesIndexStand b final
written_stands a b kept lebs index final shape two works stands nodes root =
    let now = StandsIn-beside a b kept (keyed_tree_of index) shape (λ k one. (works.others k (λ given. two k one given)).holds) stands in
    let D : List TableNode → Type 0 = λ xs. IsOnVolume b (tree_at xs final.root) in
    let R : Option Root → Type 0 = λ r. DoesRootStand b index.table.nodes.items r in
    subst D (sym nodes) (subst R (sym root) (StandsIn-index b kept index (keyed_tree_of index) refl now))

-- the nodes are on the volume from the root on that was written; an empty index has none
pub nodes_let_go : (b : VolumeState) (f : ℕ) (row : KeyedRow) (root : Option Branch) (nodes : IndexNodes) → IsRootOn b f row root → HasNodesFrom f root nodes → IsRowOfNodes b f row nodes
nodes_let_go b f row None nodes on h = let P : IndexNodes → Type 0 = λ n. IsRowOfNodes b f row n in subst P (sym h.1) (on ∙ sym h.2, h.3, empty_stands b h.0 h.2)
nodes_let_go b f row (Some root) nodes on h = let P : IndexNodes → Type 0 = λ n. IsRowOfNodes b f row n in subst P (sym h) on

pub alone_from : (f : ℕ) (root : Option Branch) (nodes : IndexNodes) → HasNodesFrom f root nodes → are_on_medium nodes ≡ is_some root
alone_from f None nodes h = ap are_on_medium h.1
alone_from f (Some root) nodes h = ap are_on_medium h

-- when LEBs are wanting
pub short_of : (P : Type 0) (need given : ℕ) (r : Result IndexAt IndexFault) → IsFullOf P need given r → IsShortOf need given r
short_of P need given (Ok x) h = h
short_of P need given (Err Memory) h = tt
short_of P need given (Err (Full n m)) h = (h.0, h.1, h.2)
short_of P need given (Err EqualKeys) h = h
short_of P need given (Err (Volume count)) h = h

pub frozen_dirty : (old begun : PagedIndex) → begun.table.nodes.items ≡ old.table.nodes.items → begun.frozen ≡ old.root → dirty_of begun ≡ dirty_below old.table.nodes.items old.root
frozen_dirty old begun nodes frozen = ap (λ (items : List TableNode). dirty_below items begun.frozen) nodes ∙ ap (dirty_below old.table.nodes.items) frozen
