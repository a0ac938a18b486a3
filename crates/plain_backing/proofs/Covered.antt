-- What is covered is small, since a volume has at most 2^30 bytes.
use Rattle.std.proofs.Common.{◌≡◌, ℕ, ◌+◌, ◌-◌, ◌*◌, ◌^◌, ◌≤◌, ◌<◌, arith}
use Rattle.std.proofs.lemmas.Nat.{mul-le}
use Rattle.ubifs_base.specs.declared.raw_geometry.RawGeometry.{RawGeometry}
use Rattle.ubifs_base.specs.Areas.{main_lebs, main_first}
use Rattle.ubifs_base.specs.Geometry.{IsGeometry, leb_reserve}
use Rattle.fs_model.specs.declared.space.Space.{Space}
use Rattle.fs_model.specs.declared.space.Need.{Need}
use Rattle.fs_model.specs.Cover.{needed, room_for, index_room, reserve}

-- a part of the main area, in LEBs and of each LEB, is at most the volume
part_of_volume : (first cnt most size kept reserved : ℕ) → cnt ≤ most → (cnt - first - kept) * (size - reserved) ≤ most * size
part_of_volume first cnt most size kept reserved le = mul-le (cnt - first - kept) (size - reserved) most size (omega (arith, le)) (omega arith)

room_small : (geo : RawGeometry) → IsGeometry geo → (space : Space) (need : Need) → space.main ≡ main_lebs geo → room_for geo space need ≤ 2 ^ 30
room_small geo h space need main =
    let index = index_room geo space.index (space.weight + 2 * (space.credits + need.credits) + need.nodes) in
    let part = part_of_volume (main_first geo) geo.leb_cnt geo.max_leb_cnt geo.leb_size (index + reserve need.class) (leb_reserve geo) h.leb_cnt.1 in
    let same : space.main - index - reserve need.class ≡ geo.leb_cnt - main_first geo - (index + reserve need.class) = omega (arith, main) in
    let most = h.max_leb_cnt in
    rw same (omega (arith, part, most))

pub few_credits : (geo : RawGeometry) → IsGeometry geo → (space : Space) (need : Need) → space.main ≡ main_lebs geo → needed space need ≤ room_for geo space need → space.credits + need.credits < 2 ^ 40
few_credits geo h space need main covered =
    let small = room_small geo h space need main in
    omega (arith, small, covered)
