-- A stored index has its leaves at one depth, and keys that are keys.
use Rattle.std.proofs.Common.{◌≡◌, ℕ, ◌-◌, ◌<◌, true, List, [], length, refl, sym, subst, arith}
use Rattle.std.specs.Prelude.{nat_lt, ◌==◌}
use Rattle.std.specs.List.{AllByRecursion}
use Rattle.std.proofs.lemmas.Bool.{and_from, lt-ltb, eq-eqb}
use Rattle.std.proofs.lemmas.List.Elements.{All-nil, All-cons, All-append}
use Rattle.ubifs_base.specs.Key.{IsKey}
use Rattle.index_tree.specs.Keyed.{HasKey, HaveKeys}
use Rattle.index_tree.specs.Levels.{levelled}
use Rattle.index_tree.specs.Listing.{height}
use Rattle.index_tree.specs.Rebuild.{IsIndex}
use Rattle.index_tree.specs.Shape.{contents, count, is_whole}
use Rattle.media_sys.specs.Index.{Index, IsIdxNode}
use Rattle.media_sys.specs.declared.branch.Branch.{Branch}
use Rattle.index_media.specs.PlacedRow.{PlacedRow, ended, leaf_at, node_at, plain, branches_of}
use Rattle.index_media.specs.Stored.{IsIndexNodeAt, AreStored, IsStoredIndex}
use Rattle.index_media.proofs.Ordered.{row_ordered}

pub length_branches : (row : PlacedRow) → length (branches_of row) ≡ count (plain row)
length_branches ended = refl
length_branches (leaf_at x rest) = let others = length_branches rest in omega (arith, others)
length_branches (node_at b c rest) = let others = length_branches rest in omega (arith, others)

stored_levelled : (media : ℕ → List ℕ) (levels : ℕ) (row : PlacedRow) → AreStored media levels row → levelled levels (plain row) ≡ true
unfolding AreStored
stored_levelled media levels ended h = refl
stored_levelled media levels (leaf_at x rest) h = and_from (levels == 0) (levelled levels (plain rest)) (eq-eqb levels 0 h.0) (stored_levelled media levels rest h.1)
stored_levelled media levels (node_at b c rest) h =
    let above : nat_lt 0 levels ≡ true = lt-ltb 0 levels h.0 in
    let children = stored_levelled media (levels - 1) c h.2 in
    let others = stored_levelled media levels rest h.3 in
    rw (above, children, others) refl

said_by : (media : ℕ → List ℕ) (branch : Branch) (said : Index) → IsIndexNodeAt media branch said → IsIdxNode said
said_by media branch said h = h.is.is

stored_height : (media : ℕ → List ℕ) (levels : ℕ) (row : PlacedRow) → 0 < count (plain row) → AreStored media levels row → height (plain row) ≡ levels
unfolding AreStored
stored_height media levels ended some h = absurd (omega (arith, some))
stored_height media levels (leaf_at x rest) some h = sym h.0
stored_height media levels (node_at b c rest) some h =
    let node = said_by media b (record { level = levels - 1; branches = branches_of c }) h.1 in
    let least = node.some in
    let number = length_branches c in
    let below = stored_height media (levels - 1) c (omega (arith, least, number)) h.2 in
    let above = h.0 in
    omega (arith, below, above)

row_keyed : (media : ℕ → List ℕ) (levels : ℕ) (row : PlacedRow) → AllByRecursion (λ branch. IsKey branch.key) (branches_of row) → AreStored media levels row → HaveKeys (contents (plain row))
unfolding AreStored
row_keyed media levels ended k h = All-nil HasKey
row_keyed media levels (leaf_at x rest) k h = All-cons HasKey x (contents (plain rest)) k.0 (row_keyed media levels rest k.1 h.1)
row_keyed media levels (node_at b c rest) k h =
    let node = said_by media b (record { level = levels - 1; branches = branches_of c }) h.1 in
    All-append HasKey (contents (plain c)) (contents (plain rest)) (row_keyed media (levels - 1) c node.keys h.2) (row_keyed media levels rest k.1 h.3)

-- of the root no key is asked
root_keyed : (media : ℕ → List ℕ) (levels : ℕ) (root : Branch) (c : PlacedRow) → AreStored media levels (node_at root c ended) → HaveKeys (contents (plain (node_at root c ended)))
unfolding AreStored
root_keyed media levels root c h =
    let node = said_by media root (record { level = levels - 1; branches = branches_of c }) h.1 in
    All-append HasKey (contents (plain c)) [] (row_keyed media (levels - 1) c node.keys h.2) (All-nil HasKey)

pub index_height : (media : ℕ → List ℕ) (fanout : ℕ) (root : Branch) (placed : PlacedRow) (h : IsStoredIndex media fanout root placed) → height (plain placed) ≡ h.levels
index_height media fanout root placed h =
    let P : PlacedRow → Type 0 = λ row. 0 < count (plain row) in
    let one : 0 < count (plain (node_at root h.children ended)) = omega arith in
    stored_height media h.levels placed (subst P (sym h.whole) one) h.stored

pub is_index : (media : ℕ → List ℕ) (fanout : ℕ) (root : Branch) (placed : PlacedRow) → IsStoredIndex media fanout root placed → IsIndex fanout (plain placed)
is_index media fanout root placed h =
    let Whole : PlacedRow → Type 0 = λ row. is_whole (plain row) ≡ true in
    let At : ℕ → Type 0 = λ n. levelled n (plain placed) ≡ true in
    let Stored : PlacedRow → Type 0 = λ row. AreStored media h.levels row in
    let Keyed : PlacedRow → Type 0 = λ row. HaveKeys (contents (plain row)) in
    record {
      whole = subst Whole (sym h.whole) refl;
      sound = h.fits;
      ordered = row_ordered 0 _ placed h.bounded;
      levels = subst At (sym (index_height media fanout root placed h)) (stored_levelled media h.levels placed h.stored);
      keyed = subst Keyed (sym h.whole) (root_keyed media h.levels root h.children (subst Stored h.whole h.stored));
    }
