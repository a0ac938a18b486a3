-- What was laid of a tree, and that it stays so where its LEBs do.
use Rattle.std.proofs.Common.{◌≡◌, ◌⊎◌, ℕ, ◌+◌, ◌-◌, ◌<◌, ◌≤◌, List, [], ◌∷◌, length, map, refl, sym, ap, subst, ◌∙◌, arith, inl, inr}
use Rattle.std.specs.Prelude.{drop, get_or, take, All}
use Rattle.std.specs.List.{AllByRecursion}
use Rattle.std.proofs.lemmas.List.{length-map}
use Rattle.std.proofs.lemmas.List.Elements.{All-head, All-tail}
use Rattle.ubifs_base.specs.Areas.{main_first}
use Rattle.ubifs_base.specs.declared.raw_geometry.RawGeometry.{RawGeometry}
use Rattle.ubi_volume.specs.Volume.{filled}
use Rattle.media_leaf.specs.LeafNode.{LeafNode, IsLeafNode}
use Rattle.media_sys.specs.declared.branch.Branch.{Branch}
use Rattle.fs_model.specs.Files.{Tree}
use Rattle.index_media.specs.PlacedRow.{branch_to}
use Rattle.leaf_map.specs.Kept.{Placed}
use Rattle.leb_scan.specs.Text.{is_blank}
use Rattle.lpt_area.specs.Written.{in_units}
use Rattle.image_maker.specs.Leaves.{live_leaves}
use Rattle.image_maker.specs.Places.{AreLaid, IsWrittenLeaf, numbered_text, placed_rows, row_bytes}
use Rattle.image_maker.specs.declared.laid_leaves.LaidLeaves.{LaidLeaves}
use Rattle.sound_image.specs.Leaves.{IsPlacedIn}
use Rattle.laid_image.specs.Laid.{leaf_of_placed}
use Rattle.laid_main.specs.Filling.{AreFilled, TakesOfLebs}
use Rattle.laid_tree.specs.Leaves.{AreLeavesLaid}
use Rattle.laid_tree.proofs.Rows.{rows_fill, rows_order, rows_take}
use Rattle.laid_tree.proofs.Stands.{nodes_are, rows_stand}

-- the LEBs of the rows
held_rows : (geo : RawGeometry) (leaves : List LeafNode) (contents : ℕ → List ℕ) (laid : LaidLeaves) (h : AreLaid geo leaves contents laid) → length (map (map numbered_text) h.rows) ≡ length h.rows
held_rows geo leaves contents laid h = length-map h.rows (map numbered_text)

used_rows : (geo : RawGeometry) (leaves : List LeafNode) (contents : ℕ → List ℕ) (laid : LaidLeaves) (h : AreLaid geo leaves contents laid) → length laid.used.items ≡ length h.rows
used_rows geo leaves contents laid h = ap length h.used ∙ length-map h.rows row_bytes

-- the nodes of what was laid
pub laid_nodes_of : (geo : RawGeometry) (tree : Tree) (contents : ℕ → List ℕ) (laid : LaidLeaves) → 0 < geo.min_io → (h : AreLaid geo (live_leaves tree) contents laid)
    → AreLeavesLaid geo contents tree (placed_rows (main_first geo) h.rows) laid.used.items
laid_nodes_of geo tree contents laid some h =
    let first = main_first geo in
    let rows = held_rows geo (live_leaves tree) contents laid h in
    let used = sym h.used in
    record {
      are = nodes_are first h.rows (live_leaves tree) h.all;
      stand = rows_stand geo contents first h.rows (λ k l. h.held.main k (omega (arith, l, rows))) (subst (AllByRecursion IsWrittenLeaf) (sym h.all) h.nodes);
      order = rows_order first first 0 h.rows (inr (refl, omega arith));
      takes = subst (λ u. TakesOfLebs first u (map branch_to (map leaf_of_placed (placed_rows first h.rows)))) used (rows_take first h.rows);
      filled = subst (λ u. AreFilled geo contents first u) used (rows_fill geo contents first h.rows some h.each (λ k l. h.held.main k (omega (arith, l, rows))));
    }

pub next_number : (geo : RawGeometry) (tree : Tree) (contents : ℕ → List ℕ) (laid : LaidLeaves) → (h : AreLaid geo (live_leaves tree) contents laid) → laid.sqnum ≡ length (placed_rows (main_first geo) h.rows) + 1
next_number geo tree contents laid h =
    let are = ap length (nodes_are (main_first geo) h.rows (live_leaves tree) h.all) in
    let same = length-map (placed_rows (main_first geo) h.rows) (λ (x : Placed). x.node) in
    let number = h.sqnum in
    omega (arith, are, same, number)

pub unwritten_lebs : (geo : RawGeometry) (leaves : List LeafNode) (contents : ℕ → List ℕ) (laid : LaidLeaves) → AreLaid geo leaves contents laid → (n : ℕ) → n < geo.leb_cnt
    → (n < main_first geo) ⊎ (main_first geo + length laid.used.items ≤ n) → contents n ≡ filled geo.leb_size []
unwritten_lebs geo leaves contents laid h n inside (inl early) = h.held.before n early
unwritten_lebs geo leaves contents laid h n inside (inr late) =
    let rows = held_rows geo leaves contents laid h in
    let used = used_rows geo leaves contents laid h in
    h.held.behind n (omega (arith, late, rows, used)) inside

pub room_left : (geo : RawGeometry) (leaves : List LeafNode) (contents : ℕ → List ℕ) (laid : LaidLeaves) → AreLaid geo leaves contents laid → main_first geo + length laid.used.items < geo.leb_cnt
room_left geo leaves contents laid h = let used = used_rows geo leaves contents laid h in let room = h.room in omega (arith, used, room)

-- ---- in contents that have the same LEBs
still_stands : (old new : ℕ → List ℕ) (x : Placed) → new x.lnum ≡ old x.lnum → IsPlacedIn old x → IsPlacedIn new x
still_stands old new x same h =
    let long : length (new x.lnum) ≡ length (old x.lnum) = ap length same in
    let room = h.room in
    let P : List ℕ → Type 0 = λ leb. IsLeafNode (take x.len (drop x.offs leb)) x.sqnum x.group x.node in
    record { room = omega (arith, room, long); is = subst P (sym same) h.is }

all_stand : (old new : ℕ → List ℕ) (first count : ℕ) (nodes : List Placed) → ((k : ℕ) → k < count → new (first + k) ≡ old (first + k))
    → All (λ (branch : Branch). (first ≤ branch.lnum) × (branch.lnum < first + count)) (map branch_to (map leaf_of_placed nodes)) → AllByRecursion (IsPlacedIn old) nodes → AllByRecursion (IsPlacedIn new) nodes
all_stand old new first count [] same within h = tt
all_stand old new first count (x ∷ nodes) same within h =
    let P : Branch → Type 0 = λ branch. (first ≤ branch.lnum) × (branch.lnum < first + count) in
    let here : P (branch_to (leaf_of_placed x)) = All-head P (branch_to (leaf_of_placed x)) (map branch_to (map leaf_of_placed nodes)) within in
    let low = here.0 in
    let high = here.1 in
    let at : first + (x.lnum - first) ≡ x.lnum = omega (arith, low) in
    let stays : new x.lnum ≡ old x.lnum = subst (λ (n : ℕ). new n ≡ old n) at (same (x.lnum - first) (omega (arith, low, high))) in
    (still_stands old new x stays h.0, all_stand old new first count nodes same (All-tail P (branch_to (leaf_of_placed x)) (map branch_to (map leaf_of_placed nodes)) within) h.1)

pub stay_laid : (geo : RawGeometry) (old new : ℕ → List ℕ) (tree : Tree) (nodes : List Placed) (used : List ℕ) → ((k : ℕ) → k < length used → new (main_first geo + k) ≡ old (main_first geo + k))
    → AreLeavesLaid geo old tree nodes used → AreLeavesLaid geo new tree nodes used
stay_laid geo old new tree nodes used same h = record {
  are = h.are;
  stand = all_stand old new (main_first geo) (length used) nodes same h.takes.within h.stand;
  order = h.order;
  takes = h.takes;
  filled = record { some = h.filled.some; ends = λ k l. ap (λ leb. is_blank (drop (in_units geo.min_io (get_or used k 0)) leb)) (same k l) ∙ h.filled.ends k l };
}
