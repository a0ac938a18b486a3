-- What admission keeps beside the leaves of a tree.
use Rattle.std.proofs.Common.{◌≡◌, ℕ, ◌+◌, ◌-◌, ◌*◌, ◌^◌, ◌<◌, ◌≤◌, max, length, ap, arith}
use Rattle.std.proofs.Math.Nat.{mul-le-mul_right}
use Rattle.ubifs_base.specs.Areas.{main_lebs}
use Rattle.ubifs_base.specs.Geometry.{IsGeometry, leb_reserve}
use Rattle.ubifs_base.specs.declared.raw_geometry.RawGeometry.{RawGeometry}
use Rattle.fs_model.specs.Cover.{index_lebs, index_room, tree_bytes}
use Rattle.fs_model.specs.Files.{Tree}
use Rattle.image_maker.specs.Leaves.{live_leaves}
use Rattle.plain_backing.specs.Covering.{leaf_count}
use Rattle.plain_backing.specs.FullIndex.{full_index_weight}
use Rattle.tree_space.specs.Laid.{IsTreeAdmitted, laid_weight}
use Rattle.tree_space.proofs.CountedLeaves.{few_leaves}
use Rattle.tree_space.proofs.Weights.{weight_few, weight_lowest}

pub weighed : (geo : RawGeometry) (tree : Tree) → IsGeometry geo → length (live_leaves tree) ≤ geo.fanout * laid_weight geo tree
weighed geo tree g = weight_lowest geo.fanout (length (live_leaves tree)) g.fanout.0

pub admitted_fits : (geo : RawGeometry) (tree : Tree) → IsTreeAdmitted geo tree
    → tree_bytes tree ≤ (main_lebs geo - 3 * index_lebs geo (laid_weight geo tree) - 10) * (geo.leb_size - leb_reserve geo)
admitted_fits geo tree h =
    let weight = laid_weight geo tree in
    let lebs = index_lebs geo weight in
    let beside = geo.leb_size - leb_reserve geo in
    let fits = h.fits in
    let kept : 3 * lebs ≤ index_room geo lebs (weight + 2 * (0 + 0) + 0) = room_kept (index_lebs geo) weight in
    let part : (main_lebs geo - index_room geo lebs (weight + 2 * (0 + 0) + 0) - 10) * beside ≤ (main_lebs geo - 3 * lebs - 10) * beside = mul-le-mul_right beside (less (main_lebs geo) (3 * lebs) (index_room geo lebs (weight + 2 * (0 + 0) + 0)) kept) in
    omega (arith, fits, part)
  where
    less : (main three room : ℕ) → three ≤ room → main - room - 10 ≤ main - three - 10
    less main three room h = omega (arith, h)

    room_kept : (lebs : ℕ → ℕ) (weight : ℕ) → 3 * lebs weight ≤ max (3 * lebs (weight + 2 * (0 + 0) + 0)) (lebs weight + lebs (weight + 2 * (0 + 0) + 0))
    room_kept lebs weight =
        let same : lebs (weight + 2 * (0 + 0) + 0) ≡ lebs weight = ap lebs (omega arith) in
        omega (arith, same)

-- ---- numbers that are small
pub few_leaves_small : (tree : Tree) → length (live_leaves tree) ≤ leaf_count tree → tree_bytes tree < 2 ^ 40 → length (live_leaves tree) < 2 ^ 35
few_leaves_small tree count small = let few = few_leaves tree in omega (arith, few, count, small)

pub weight_small : (geo : RawGeometry) (tree : Tree) (leaves weight : ℕ) → IsGeometry geo → leaves ≡ length (live_leaves tree) → length (live_leaves tree) < 2 ^ 35 → weight ≡ full_index_weight geo.fanout leaves → weight < 2 ^ 40
weight_small geo tree leaves weight g is few said =
    let most = weight_few geo.fanout leaves g.fanout.0 in
    omega (arith, is, few, said, most)
