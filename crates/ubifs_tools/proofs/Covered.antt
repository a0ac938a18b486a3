-- A tree that has room by what is promised is a covered tree.
use Rattle.std.proofs.Common.{◌≡◌, ℕ, zero, suc, ◌+◌, ◌-◌, ◌*◌, ◌/◌, ◌≤◌, None, ap, subst, arith, refl}
use Rattle.std.proofs.lemmas.Nat.{le-div}
use Rattle.std.proofs.Math.Nat.{div-mul-le_self, div-zero, mul-le-mul_right}
use Rattle.ubifs_base.specs.declared.raw_geometry.RawGeometry.{RawGeometry}
use Rattle.ubifs_base.specs.Geometry.{index_nodes_per_leb, leb_reserve}
use Rattle.fs_model.specs.declared.space.Class.TheVariants.{Removal}
use Rattle.fs_model.specs.declared.space.Need.{Need}
use Rattle.fs_model.specs.declared.space.Space.{Space}
use Rattle.fs_model.specs.Cover.{index_lebs, index_room, needed, reserve, room_for, tree_bytes}
use Rattle.fs_model.specs.Files.{Tree}
use Rattle.plain_backing.specs.Covering.{granted_need}
use Rattle.whole_image.specs.Made.{IsCoveredTree}
use Rattle.script_run.specs.Played.{IsCoveredIn}

quotient_grows : (q m n : ℕ) → m ≤ n → m / q ≤ n / q
quotient_grows zero m n h = rw (div-zero m, div-zero n) (omega arith)
quotient_grows (suc q) m n h =
    let below = div-mul-le_self m (suc q) in
    le-div (m / suc q) n (suc q) (omega arith) (omega (arith, below, h))

lebs_grow : (geo : RawGeometry) (m n : ℕ) → m ≤ n → index_lebs geo m ≤ index_lebs geo n
lebs_grow geo m n h = quotient_grows (index_nodes_per_leb geo) (m + index_nodes_per_leb geo - 1) (n + index_nodes_per_leb geo - 1) (omega (arith, h))

-- the room for a need beside the weight that there is
room_le : (geo : RawGeometry) (space : Space) (need : Need) → need.class ≡ Removal → room_for geo space need ≤ (space.main - 3 * index_lebs geo space.weight - 6) * (geo.leb_size - leb_reserve geo)
room_le geo space need removal =
    let later = space.weight + 2 * (space.credits + need.credits) + need.nodes in
    let grown = lebs_grow geo space.weight later (omega arith) in
    let kept : 3 * index_lebs geo later ≤ index_room geo space.index later = omega arith in
    let six : reserve need.class ≡ 6 = ap reserve removal in
    mul-le-mul_right (geo.leb_size - leb_reserve geo) (omega (arith, grown, kept, six))

pub covered_tree : (geo : RawGeometry) (tree : Tree) → IsCoveredIn geo tree → IsCoveredTree geo tree
covered_tree geo tree h =
    let space = h.space in
    let used = h.used in
    let fits = h.covers.room.fits in
    let least : space.used ≤ needed space (granted_need None) = omega arith in
    let most = room_le geo space (granted_need None) refl in
    let P : ℕ → Type 0 = λ n. tree_bytes tree ≤ (n - 3 * index_lebs geo space.weight - 6) * (geo.leb_size - leb_reserve geo) in
    record { weight = space.weight; weighed = h.covers.weighed; fits = subst P h.main (omega (arith, fits, least, most, used)) }
