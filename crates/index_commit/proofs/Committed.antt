-- An index that is written whole stands.
use Rattle.std.proofs.Common.{◌≡◌, ◌≤◌, ◌<◌, ◌*◌, ◌/◌, ◌%◌, ◌+◌, ℕ, true, List, [], ap, sym, ◌∙◌, subst, arith, ◌∷◌, ◌++◌, map}
use Rattle.std.specs.Prelude.{Option, None, Some, All, min, slice_get}
use Rattle.std.proofs.Math.Nat.{le-div_iff_mul-le, mul_comm, mul-le-mul_left}
use Rattle.std.proofs.lemmas.Grind.{div_ceil_times}
use Rattle.std.proofs.lemmas.List.Elements.{All-cons, All-head, All-nil, All-tail}
use Rattle.std.specs.Int.{div_ceil}
use Rattle.ubifs_base.specs.Geometry.{index_node_len, index_nodes_per_leb}
use Rattle.ubifs_base.specs.RawOf.{raw_of}
use Rattle.ubifs_base.specs.declared.geometry.Geometry.{Geometry}
use Rattle.index_tree.specs.Levels.{levelled}
use Rattle.index_tree.specs.Shape.{fits, is_whole}
use Rattle.index_media.specs.Clean.{is_clean_row, placed_of}
use Rattle.index_media.specs.KeyedKeys.{AreKeysBounded}
use Rattle.index_media.specs.KeyedRow.{KeyedRow, no_more, leaf_in, node_in, all_clean, bare}
use Rattle.index_media.specs.PlacedRow.{all_nodes, branches_of}
use Rattle.index_media.specs.Standing.{AreStandingAs}
use Rattle.media_sys.specs.declared.branch.Branch.{Branch}
use Rattle.table_nodes.specs.NodeView.{tree_at}
use Rattle.table_nodes.specs.declared.node.Root.{Root}
use Rattle.ubi_volume.specs.Volume.{VolumeState, Only}
use Rattle.index_cache.specs.Paged.{dirty_of, fanout_of, frozen_of}
use Rattle.index_cache.specs.declared.paged.PagedIndex.{PagedIndex}
use Rattle.index_commit.specs.Lebs.{IsGiven}
use Rattle.index_commit.specs.Rooms.{Room}
use Rattle.index_commit.specs.Standing.{AreOutside}
use Rattle.index_commit.specs.Written.{AreLebsSettled, AreStanding, IsHeadAfter, IsIndexAt, IsIndexTaken, IsNewIn}
use Rattle.index_commit.specs.declared.index_at.IndexHead.{IndexHead}
use Rattle.index_commit.proofs.Whole.{IsFrozenIndex, root_of}
use Rattle.node_cache.specs.CleanRows.{all_is_clean, clean_node}

-- the frozen index stands where it stood while it was written
frozen_written : {room : ℕ → Room} (old new : VolumeState) (lebs : List ℕ) (a b : PagedIndex) (i j : ℕ) → IsIndexTaken room a b i j → AreStanding old new lebs a b i j → AreOutside old.holds lebs (frozen_of a)
    → AreStandingAs new.holds (IsNewIn new lebs i j) (frozen_of b)
frozen_written old new lebs a b i j taken standing h =
    let P : Option Root → Type 0 = λ root. AreStandingAs new.holds (IsNewIn new lebs i j) (tree_at b.table.nodes.items root) in
    subst P (sym taken.kept.roots.frozen) (standing.written a.frozen h)

abbrev leb_of : Branch → ℕ
leb_of branch = branch.lnum

both_all : (P : ℕ → Type 0) (xs ys : List Branch) → All P (map leb_of xs) → All P (map leb_of ys) → All P (map leb_of (xs ++ ys))
both_all P [] ys h k = k
both_all P (x ∷ xs) ys h k = All-cons P x.lnum (map leb_of (xs ++ ys)) (All-head P x.lnum (map leb_of xs) h) (both_all P xs ys (All-tail P x.lnum (map leb_of xs) h) k)

row_settled : (state : VolumeState) (lebs : List ℕ) (i j : ℕ) (row : KeyedRow) → is_clean_row row ≡ true → AreStandingAs state.holds (IsNewIn state lebs i j) row → AreLebsSettled state lebs (placed_of row)
row_settled state lebs i j no_more c h = All-nil (λ k. IsGiven lebs k → Only (state.holds k) (state.left_now k))
row_settled state lebs i j (leaf_in x rest) c h = row_settled state lebs i j rest c h
row_settled state lebs i j (node_in key None children rest) c h = let none = (clean_node key None children rest c).0 in absurd cc
row_settled state lebs i j (node_in key (Some s) children rest) c h =
    let parts = clean_node key (Some s) children rest c in
    let P : ℕ → Type 0 = λ k. IsGiven lebs k → Only (state.holds k) (state.left_now k) in
    let below = all_nodes (placed_of children) in
    let others = all_nodes (placed_of rest) in
    All-cons P s.lnum (map leb_of (below ++ others)) (λ given. (h.0.holds given).left)
    (both_all P below others (row_settled state lebs i j children parts.1 h.1) (row_settled state lebs i j rest parts.2 h.2))

pub index_at : {room : ℕ → Room} (old new : VolumeState) (fanout i j : ℕ) (lebs : List ℕ) (a b : PagedIndex) (root : Option Branch) (head : Option IndexHead) → IsIndexTaken room a b i j → AreStanding old new lebs a b i j
    → AreOutside old.holds lebs (frozen_of a) → dirty_of b ≡ [] → fanout_of a ≡ fanout → frozen_of b ≡ all_clean (placed_of (frozen_of b)) → fits (fanout_of b) (bare (frozen_of b)) ≡ true
    → is_whole (bare (frozen_of b)) ≡ true → (level : ℕ) × (levelled level (bare (frozen_of b)) ≡ true) → AreKeysBounded 0 None (frozen_of b)
    → root ≡ slice_get (branches_of (placed_of (frozen_of b))) 0 → IsHeadAfter new lebs (dirty_of a) None head
    → IsIndexAt new fanout lebs a b (record { root = root; head = head })
index_at old new fanout i j lebs a b root head taken standing outside none same clean fit whole levels bounded first at_end =
    let most : fanout_of b ≡ fanout = taken.kept.roots.fanout ∙ same in
    let F : ℕ → Type 0 = λ n. fits n (bare (frozen_of b)) ≡ true in
    let is : IsFrozenIndex fanout (frozen_of b) = record {
      clean = ap is_clean_row clean ∙ all_is_clean (placed_of (frozen_of b));
      fits = subst F most fit;
      whole = whole;
      levels = levels;
      bounded = bounded;
    } in
    let stand = frozen_written old new lebs a b i j taken standing outside in
    record {
      none = none;
      clean = clean;
      root = root_of new.holds (IsNewIn new lebs i j) fanout (frozen_of b) is stand root first;
      left = row_settled new lebs i j (frozen_of b) is.clean stand;
      head = at_end;
    }

-- so many LEBs have room for all
pub lebs_suffice : (nodes each given : ℕ) → 0 < each → div_ceil nodes each ≤ given → nodes ≤ each * given
lebs_suffice nodes each given some fits =
    let most = (div_ceil_times nodes each some).0 in
    let need = nodes / each + min 1 (nodes % each) in
    let more = mul-le-mul_left {m = need} {n = given} each fits in
    let turned : need * each ≡ each * need = mul_comm need each in
    omega (arith, most, more, turned)

pub some_nodes : (geo : Geometry) → 0 < index_nodes_per_leb (raw_of geo)
some_nodes geo =
    let least = geo.in_range.leb_size.0 in
    let most = geo.in_range.fanout.1 in
    let room = index_node_len (raw_of geo) in
    let some : 0 < room = omega arith in
    let one : 1 * room ≤ geo.leb_size = omega (arith, least, most) in
    let fits = (le-div_iff_mul-le {k = room} {x = 1} {y = geo.leb_size} some).1 one in
    omega (arith, fits)
