-- Clean nodes that stand on a volume: they stand while it is read, and what is below one is a row that is looked up there.
use Rattle.std.proofs.Common.{◌≡◌, ℕ, ◌+◌, ◌-◌, ◌<◌, true, List, ◌++◌, [], ◌∷◌, map, refl, sym, subst, arith}
use Rattle.std.specs.Prelude.{All, Option, None, Some}
use Rattle.std.proofs.lemmas.List.Elements.{All-nil, All-cons, All-head, All-tail}
use Rattle.ubifs_base.specs.declared.key.Key.{Key}
use Rattle.ubifs_base.specs.declared.key.Key.TheVariants.{Ino}
use Rattle.index_tree.specs.Levels.{levelled}
use Rattle.index_tree.specs.Order.{key_rank}
use Rattle.index_tree.specs.Shape.{Shape, done, node, fits}
use Rattle.media_sys.specs.Index.{Index}
use Rattle.media_sys.specs.declared.branch.Branch.{Branch}
use Rattle.index_media.specs.Clean.{is_clean_row, node_branch, placed_of}
use Rattle.index_media.specs.InsertionSound.{fit_node}
use Rattle.index_media.specs.KeyedKeys.{AreKeysBounded}
use Rattle.index_media.specs.KeyedRow.{KeyedRow, no_more, leaf_in, node_in, bare}
use Rattle.index_media.specs.Keys.{AreBounded}
use Rattle.index_media.specs.PlacedRow.{PlacedRow, ended, node_at, Stretch, branches_of, all_nodes, lebs_of}
use Rattle.index_media.specs.Standing.{AreStandingAs}
use Rattle.index_media.specs.Stored.{IsIndexNodeAt, AreStored}
use Rattle.ubi_volume.specs.Volume.{VolumeState, Keeps, SameShape}
use Rattle.node_cache.specs.CleanRows.{clean_node, one_level, row_bounded, row_plain, row_stored}
use Rattle.node_cache.specs.Loaded.{IsRowOn}
use Rattle.node_cache.specs.OnVolume.{IsOnVolume}
use Rattle.node_cache.specs.RowsOn.{lebs_alone, node_moved}

-- ---- a volume that keeps all keeps clean nodes where they stand
pub on_volume_moved : (a b : VolumeState) (row : KeyedRow) → Keeps a b → SameShape a b → IsOnVolume a row → IsOnVolume b row
on_volume_moved a b no_more k s h = tt
on_volume_moved a b (leaf_in x rest) k s h = on_volume_moved a b rest k s h
on_volume_moved a b (node_in key None children rest) k s h = (tt, on_volume_moved a b children k s h.1, on_volume_moved a b rest k s h.2)
on_volume_moved a b (node_in key (Some place) children rest) k s h =
    let own = h.0 in
    let said : Index = record { level = own.level; branches = branches_of (placed_of children) } in
    let P : ℕ → Type 0 = λ n. place.lnum < n in (
      record {
        clean = own.clean;
        level = own.level;
        levels = own.levels;
        node = node_moved a.holds b.holds (node_branch key (Some place)) said (k.holds place.lnum) own.node;
        holds = subst P (sym s.leb_cnt) own.holds;
      },
      on_volume_moved a b children k s h.1,
      on_volume_moved a b rest k s h.2,
    )

-- ---- their LEBs
abbrev leb_of : Branch → ℕ
leb_of branch = branch.lnum

both_all : (P : ℕ → Type 0) (xs ys : List Branch) → All P (map leb_of xs) → All P (map leb_of ys) → All P (map leb_of (xs ++ ys))
both_all P [] ys h k = k
both_all P (x ∷ xs) ys h k = All-cons P x.lnum (map leb_of (xs ++ ys)) (All-head P x.lnum (map leb_of xs) h) (both_all P xs ys (All-tail P x.lnum (map leb_of xs) h) k)

row_there : (s : VolumeState) (row : KeyedRow) → is_clean_row row ≡ true → IsOnVolume s row → All (λ lnum. lnum < s.leb_cnt) (lebs_of (placed_of row))
row_there s no_more c h = All-nil (λ lnum. lnum < s.leb_cnt)
row_there s (leaf_in x rest) c h = row_there s rest c h
row_there s (node_in key None children rest) c h = let none = (clean_node key None children rest c).0 in absurd cc
row_there s (node_in key (Some place) children rest) c h =
    let parts = clean_node key (Some place) children rest c in
    let P : ℕ → Type 0 = λ lnum. lnum < s.leb_cnt in
    let below = all_nodes (placed_of children) in
    let others = all_nodes (placed_of rest) in
    All-cons P place.lnum (map leb_of (below ++ others)) h.0.holds (both_all P below others (row_there s children parts.1 h.1) (row_there s rest parts.2 h.2))

-- ---- a node that stands is looked up there
-- a branch to a node that stands at a place, with some key
abbrev pub branch_of_place : Stretch → Branch
branch_of_place place = record { lnum = place.lnum; offs = place.offs; len = place.len; key = Ino 0 }

no_rank : key_rank (Ino 0) ≡ 0
unfolding key_rank
no_rank = omega arith

pub node_on_volume : (s : VolumeState) (fanout level : ℕ) (key : Key) (place : Stretch) (children : KeyedRow) → fits fanout (node (bare children) done) ≡ true → levelled level (bare children) ≡ true
    → AreKeysBounded 0 None children → IsOnVolume s (node_in key (Some place) children no_more) → IsRowOn s fanout (level + 1) (node_at (branch_of_place place) (placed_of children) ended)
unfolding AreStored
node_on_volume s fanout level key place children fit levels bounded h =
    let own = h.0 in
    let own_node = own.node in
    let branch = branch_of_place place in
    let below = placed_of children in
    let fitting = fit_node fanout (bare children) done fit in
    let up : level ≡ level + 1 - 1 = omega arith in
    let same = one_level fanout own.level level (bare children) fitting.children fitting.least own.levels levels in
    let at_place : IsIndexNodeAt s.holds branch (record { level = own.level; branches = branches_of below }) = record { sqnum = own_node.sqnum; group = own_node.group; room = own_node.room; is = own_node.is } in
    let N : ℕ → Type 0 = λ n. IsIndexNodeAt s.holds branch (record { level = n; branches = branches_of below }) in
    let S : ℕ → Type 0 = λ n. AreStored s.holds n below in
    let F : Shape → Type 0 = λ t. fits fanout (node t done) ≡ true in
    let B : ℕ → Type 0 = λ n. AreBounded n None below in
    let there = row_there s children own.clean h.1 in
    let standing = row_stored s.holds (λ place sqnum group. place.lnum < s.leb_cnt) fanout level children own.clean fitting.children levels h.1 in
    record {
      stored = (omega arith, subst N up (subst N same at_place), subst S up standing, tt);
      fits = subst F (sym (row_plain children)) fit;
      bounded = (omega arith, tt, subst B (sym no_rank) (row_bounded 0 None children own.clean bounded), tt);
      keys = (omega arith, tt);
      there = lebs_alone (λ lnum. lnum < s.leb_cnt) branch below own.holds there;
    }
