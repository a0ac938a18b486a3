-- The leaves of a covered tree, or of one that is admitted, leave room for their index.
use Rattle.std.proofs.Common.{◌≡◌, ℕ, suc, ◌+◌, ◌-◌, ◌*◌, ◌^◌, ◌<◌, ◌≤◌, [], ◌∷◌, length, refl, ap, arith, inl, inr}
use Rattle.std.specs.List.{sum_by, flat_map}
use Rattle.std.specs.Map.{values_of}
use Rattle.std.proofs.lemmas.Bool.{cases_lt}
use Rattle.std.proofs.lemmas.List.Sums.{sum_by-cons}
use Rattle.std.proofs.lemmas.Nat.{div-add-mod', le-div, mod_below, mul-le}
use Rattle.std.proofs.Math.Nat.{div-mul-le_self, mul-le-mul_right, suc-mul}
use Rattle.ubifs_base.specs.Areas.{main_lebs}
use Rattle.ubifs_base.specs.declared.raw_geometry.RawGeometry.{RawGeometry}
use Rattle.ubifs_base.specs.Geometry.{IsGeometry, index_node_len, index_nodes_per_leb, leb_reserve}
use Rattle.fs_model.specs.Cover.{index_lebs, inode_bytes, tree_bytes}
use Rattle.fs_model.specs.Files.{Inodes, Tree}
use Rattle.image_maker.specs.Leaves.{leaf_nodes_of, live_leaves}
use Rattle.image_maker.specs.Packed.{packed_leaves}
use Rattle.laid_index.specs.Packing.{index_used}
use Rattle.plain_backing.specs.Covering.{leaf_count}
use Rattle.tree_space.specs.Laid.{laid_weight}
use Rattle.whole_image.specs.Made.{IsCoveredTree, IsCrowded, most_leaf_bytes}

-- a LEB takes an index node at least
pub node_fits : (geo : RawGeometry) → IsGeometry geo → 1 ≤ index_nodes_per_leb geo
node_fits geo h =
    let below = div-mul-le_self (28 + 20 * geo.fanout + 7) 8 in
    let size = h.leb_size.0 in
    let wide = h.fanout.1 in
    le-div 1 geo.leb_size (index_node_len geo) (omega arith) (omega (arith, below, size, wide))

-- so many nodes fit in the LEBs that an index of this weight takes
weight_fits : (geo : RawGeometry) (weight : ℕ) → 1 ≤ index_nodes_per_leb geo → weight ≤ index_lebs geo weight * index_nodes_per_leb geo
weight_fits geo weight some =
    let whole = div-add-mod' (weight + index_nodes_per_leb geo - 1) (index_nodes_per_leb geo) in
    let rest = mod_below (weight + index_nodes_per_leb geo - 1) (index_nodes_per_leb geo) some in
    omega (arith, whole, rest, some)

-- the factor of a product that is no greater
pub factor_le : (a b each : ℕ) → 1 ≤ each → a * each ≤ b * each → a ≤ b
factor_le a b each some le = elim (cases_lt b a) [
  | inl more ↦
      let part : suc b * each ≤ a * each = mul-le-mul_right each more in
      let next = suc-mul b each in
      absurd (omega (arith, part, next, le, some))
  | inr ge ↦ omega (arith, ge)
]

-- the LEBs of an index
pub index_few : (geo : RawGeometry) (lebs weight : ℕ) → 1 ≤ index_nodes_per_leb geo → lebs * index_nodes_per_leb geo ≤ 2 * weight + index_nodes_per_leb geo → lebs ≤ 2 * index_lebs geo weight + 1
index_few geo lebs weight some le =
    let each = index_nodes_per_leb geo in
    let fits = weight_fits geo weight some in
    let most : (2 * index_lebs geo weight + 1) * each ≡ index_lebs geo weight * each + index_lebs geo weight * each + each = omega arith in
    factor_le lebs (2 * index_lebs geo weight + 1) each some (omega (arith, le, fits, most))

-- a proper tree takes bytes
pub some_bytes : (tree : Tree) → 0 < length (live_leaves tree) → 0 < tree_bytes tree
some_bytes tree some = by tree.inodes refl
  where
    by : (inodes : Inodes) → tree.inodes ≡ inodes → 0 < tree_bytes tree
    by [] none = let e = ap (λ (xs : Inodes). length (flat_map (leaf_nodes_of tree) xs)) none in absurd (omega (arith, e, some))
    by (e ∷ inodes) is =
        let all = ap (λ (xs : Inodes). sum_by inode_bytes (values_of xs)) is in
        let first = sum_by-cons inode_bytes e.1 (values_of inodes) in
        omega (arith, all, first)

-- part of the volume
pub part_small : (geo : RawGeometry) (kept : ℕ) → IsGeometry geo → (main_lebs geo - kept - 6) * (geo.leb_size - leb_reserve geo) ≤ 2 ^ 30
part_small geo kept g =
    let most = g.leb_cnt.1 in
    let part = mul-le (main_lebs geo - kept - 6) (geo.leb_size - leb_reserve geo) geo.max_leb_cnt geo.leb_size (omega (arith, most)) (omega arith) in
    let all = g.max_leb_cnt in
    omega (arith, part, all)

-- The leaves have room beside three times the LEBs that this weight asks for and six more, and the weight has a node for each `fanout` of them.
pub record LeavesLebs (geo : RawGeometry) (tree : Tree) : Type 0 where
  pub weight : ℕ
  pub weighed : length (live_leaves tree) ≤ geo.fanout * weight
  pub fits : tree_bytes tree ≤ (main_lebs geo - 3 * index_lebs geo weight - 6) * (geo.leb_size - leb_reserve geo)

pub covered : (geo : RawGeometry) (tree : Tree) → IsCoveredTree geo tree → length (live_leaves tree) ≤ leaf_count tree → LeavesLebs geo tree
covered geo tree h count = record { weight = h.weight; weighed = let w = h.weighed in omega (arith, count, w); fits = h.fits }

-- a smaller reserve leaves more
pub less_kept : (main three beside bytes : ℕ) → bytes ≤ (main - three - 10) * beside → bytes ≤ (main - three - 6) * beside
less_kept main three beside bytes fits =
    let part = mul-le-mul_right beside (fewer main three) in
    omega (arith, fits, part)
  where
    fewer : (main three : ℕ) → main - three - 10 ≤ main - three - 6
    fewer main three = omega arith

pub admitted : (geo : RawGeometry) (tree : Tree) → length (live_leaves tree) ≤ geo.fanout * laid_weight geo tree
    → tree_bytes tree ≤ (main_lebs geo - 3 * index_lebs geo (laid_weight geo tree) - 10) * (geo.leb_size - leb_reserve geo) → LeavesLebs geo tree
admitted geo tree weighed fits = record {
  weight = laid_weight geo tree;
  weighed = weighed;
  fits = less_kept (main_lebs geo) (3 * index_lebs geo (laid_weight geo tree)) (geo.leb_size - leb_reserve geo) (tree_bytes tree) fits;
}

few_bytes : (geo : RawGeometry) (tree : Tree) (kept : ℕ) → tree_bytes tree ≤ (main_lebs geo - kept - 6) * (geo.leb_size - leb_reserve geo) → tree_bytes tree ≤ most_leaf_bytes geo
few_bytes geo tree kept fits =
    let part = mul-le-mul_right (geo.leb_size - leb_reserve geo) (fewer (main_lebs geo) kept) in
    omega (arith, fits, part)
  where
    fewer : (main kept : ℕ) → main - kept - 6 ≤ main - 6
    fewer main kept = omega arith

pub not_full : (geo : RawGeometry) (tree : Tree) → IsCoveredTree geo tree → tree_bytes tree ≤ most_leaf_bytes geo
not_full geo tree h = few_bytes geo tree (3 * index_lebs geo h.weight) h.fits

pub admitted_not_full : (geo : RawGeometry) (tree : Tree) → tree_bytes tree ≤ (main_lebs geo - 3 * index_lebs geo (laid_weight geo tree) - 10) * (geo.leb_size - leb_reserve geo) → tree_bytes tree ≤ most_leaf_bytes geo
admitted_not_full geo tree fits =
    let kept = 3 * index_lebs geo (laid_weight geo tree) in
    few_bytes geo tree kept (less_kept (main_lebs geo) kept (geo.leb_size - leb_reserve geo) (tree_bytes tree) fits)

-- no index is left without room
roomy : (main three lebs leaves weight_lebs : ℕ) → three ≡ 3 * weight_lebs → 1 ≤ main - three - 6 → lebs ≤ 2 * weight_lebs + 1 → leaves ≤ main - three - 6 + 1 → lebs + leaves + 1 ≤ main
roomy main three lebs leaves weight_lebs is some few many = omega (arith, is, some, few, many)

pub not_crowded : (geo : RawGeometry) (tree : Tree) (need room : ℕ) → IsGeometry geo → LeavesLebs geo tree → 0 < length (live_leaves tree)
    → ((leaves weight : ℕ) → 0 < leaves → leaves ≤ geo.fanout * weight → length (index_used geo leaves) * index_nodes_per_leb geo ≤ 2 * weight + index_nodes_per_leb geo)
    → (tree_bytes tree ≤ 2 ^ 30 → length (packed_leaves geo.leb_size 0 (live_leaves tree)) * (geo.leb_size - leb_reserve geo) ≤ tree_bytes tree + (geo.leb_size - leb_reserve geo))
    → IsCrowded geo tree need room → ⊥
not_crowded geo tree need room g h some index lebs crowded =
    let three = 3 * index_lebs geo h.weight in
    let beside = geo.leb_size - leb_reserve geo in
    let left = main_lebs geo - three - 6 in
    let fits = h.fits in
    let small = part_small geo three g in
    let few = index_few geo (length (index_used geo (length (live_leaves tree)))) h.weight (node_fits geo g) (index (length (live_leaves tree)) h.weight some h.weighed) in
    let taken = lebs (omega (arith, fits, small)) in
    let bytes = some_bytes tree some in
    let reserve = g.leb_size.3 in
    let one : 1 ≤ left = elim (cases_lt 0 left) [
      | inl more ↦ omega (arith, more)
      | inr none ↦
          let zero : left ≡ 0 = omega (arith, none) in
          let e = ap (λ (n : ℕ). n * beside) zero in
          absurd (omega (arith, fits, e, bytes))
    ] in
    let next = suc-mul left beside in
    let many : length (packed_leaves geo.leb_size 0 (live_leaves tree)) ≤ suc left = factor_le (length (packed_leaves geo.leb_size 0 (live_leaves tree))) (suc left) beside (omega (arith, reserve)) (omega (arith, taken, fits, next)) in
    let all = roomy (main_lebs geo) three (length (index_used geo (length (live_leaves tree)))) (length (packed_leaves geo.leb_size 0 (live_leaves tree))) (index_lebs geo h.weight) refl one few (omega (arith, many)) in
    let need_is = crowded.need_is in
    let room_is = crowded.room_is in
    let more = crowded.more in
    omega (arith, all, need_is, room_is, more)
