-- Covered numbers are small: what is used, held and granted fits the main area, and so does the index that they lead to.
use Rattle.std.proofs.Common.{ℕ, zero, suc, ◌+◌, ◌-◌, ◌*◌, ◌/◌, ◌<◌, ◌≤◌, max, arith}
use Rattle.std.proofs.Math.Nat.{div-mul-le_self, mod-lt, div-le_self}
use Rattle.std.proofs.lemmas.Nat.{div-add-mod', le-div, mul-le}
use Rattle.ubifs_base.specs.declared.raw_geometry.RawGeometry.{RawGeometry}
use Rattle.ubifs_base.specs.Geometry.{IsGeometry, index_node_len, index_nodes_per_leb, leb_reserve}
use Rattle.fs_model.specs.declared.space.Space.{Space}
use Rattle.fs_model.specs.Backing.{IsSmall}
use Rattle.fs_model.specs.Cover.{index_lebs, index_room}
use Rattle.fs_model.specs.Settled.{IsCovered}

-- a LEB takes an index node at least
pub index_nodes-positive : (geo : RawGeometry) → IsGeometry geo → 1 ≤ index_nodes_per_leb geo
index_nodes-positive geo h =
    let below = div-mul-le_self (28 + 20 * geo.fanout + 7) 8 in
    let whole = div-add-mod' (28 + 20 * geo.fanout + 7) 8 in
    let rest = mod-lt (28 + 20 * geo.fanout + 7) {m = 8} (omega arith) in
    let size = h.leb_size.0 in
    let wide = h.fanout.1 in
    le-div 1 geo.leb_size (index_node_len geo) (omega (arith, whole, rest)) (omega (arith, below, size, wide))

-- as many nodes as a LEB takes, in each LEB that the index takes, are no fewer than its nodes
weight-fits : (geo : RawGeometry) (weight : ℕ) → 1 ≤ index_nodes_per_leb geo → weight ≤ index_lebs geo weight * index_nodes_per_leb geo
weight-fits geo weight some =
    let whole = div-add-mod' (weight + index_nodes_per_leb geo - 1) (index_nodes_per_leb geo) in
    let rest = mod-lt (weight + index_nodes_per_leb geo - 1) {m = index_nodes_per_leb geo} (omega (arith, some)) in
    omega (arith, whole, rest, some)

-- What is covered is small, in a store that uses any byte at all; each does, for the root has an inode.
pub what_is_covered_is_small : (geo : RawGeometry) (space : Space) → IsGeometry geo → space.main ≤ geo.max_leb_cnt → 0 < space.used → IsCovered geo space → IsSmall space
what_is_covered_is_small geo space h main used covered =
    let most : ℕ = space.weight + 2 * (space.credits + 0) + 0 in
    let lebs : ℕ = index_room geo space.index most in
    let left : ℕ = space.main - lebs - 6 in
    let fits : space.used + space.held + 4304 * (space.credits + 0) + 0 ≤ left * (geo.leb_size - leb_reserve geo) = covered.fits in
    let area : left * (geo.leb_size - leb_reserve geo) ≤ geo.max_leb_cnt * geo.leb_size = mul-le left (geo.leb_size - leb_reserve geo) geo.max_leb_cnt geo.leb_size (omega (arith, main)) (omega arith) in
    let some : 1 ≤ left = some_left left (geo.leb_size - leb_reserve geo) (omega (arith, used, fits)) in
    let index : index_lebs geo most ≤ space.main = few (index_lebs geo most) space.index (omega (arith, some)) in
    let weight = weight-fits geo most (index_nodes-positive geo h) in
    let per = div-mul-le_self geo.leb_size (index_node_len geo) in
    let nodes : index_lebs geo most * index_nodes_per_leb geo ≤ geo.max_leb_cnt * geo.leb_size = mul-le (index_lebs geo most) (index_nodes_per_leb geo) geo.max_leb_cnt geo.leb_size (omega (arith, index, main)) (fewer geo.leb_size (index_node_len geo)) in
    let limit = h.max_leb_cnt in
    record {
      used = omega (arith, fits, area, limit);
      held = omega (arith, fits, area, limit);
      credits = omega (arith, fits, area, limit);
      weight = omega (arith, weight, nodes, limit);
    }
  where
    some_left : (n m : ℕ) → 0 < n * m → 1 ≤ n
    some_left zero m p = absurd (omega arith)
    some_left (suc n) m p = omega arith

    few : (n index : ℕ) → 0 < space.main - max (3 * n) (index + n) → n ≤ space.main
    few n index p = grind arith

    fewer : (n m : ℕ) → n / m ≤ n
    fewer n m = div-le_self n m
