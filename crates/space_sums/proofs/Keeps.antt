-- What keeps a store covered and settled.
use Rattle.std.proofs.Common.{◌≡◌, ℕ, ◌+◌, ◌-◌, ◌*◌, ◌≤◌, None, arith}
use Rattle.std.proofs.Math.Nat.{mul-le-mul_right}
use Rattle.std.proofs.lemmas.Bool.Decides.{nat_tests}
use Rattle.ubifs_base.specs.declared.raw_geometry.RawGeometry.{RawGeometry}
use Rattle.ubifs_base.specs.Geometry.{leb_reserve}
use Rattle.fs_model.specs.declared.space.Space.{Space}
use Rattle.fs_model.specs.declared.space.Need.{Need}
use Rattle.fs_model.specs.Cover.{index_lebs, index_room, reserve, needed, room_for}
use Rattle.fs_model.specs.Settled.{IsCovered, IsSettled, leaf_room, settled}
use Rattle.space_sums.specs.Spaces.{IsLeftByCut, IsAfterCommit, AsksNoLess, with_empty, with_lebs}
use Rattle.space_sums.proofs.Index.{index_lebs-grows, index_room-grows, index_room-anew}

-- more LEBs beside fewer that are kept have more room
pub more_room : (size m n i j r s : ℕ) → m ≤ n → j ≤ i → s ≤ r → (m - i - r) * size ≤ (n - j - s) * size
more_room size m n i j r s h k l = mul-le-mul_right {m = m - i - r} {n = n - j - s} size (omega arith)

pub needed-grows : (less more : Space) (asked asked_more : Need) → AsksNoLess less asked more asked_more → needed less asked ≤ needed more asked_more
needed-grows less more asked asked_more h = omega (arith, h.used, h.held, h.credits, h.bytes)

pub room_for-falls : (geo : RawGeometry) (less more : Space) (asked asked_more : Need) → AsksNoLess less asked more asked_more → room_for geo more asked_more ≤ room_for geo less asked
room_for-falls geo less more asked asked_more h =
    more_room (geo.leb_size - leb_reserve geo) more.main less.main
    (index_room geo more.index (more.weight + 2 * (more.credits + asked_more.credits) + asked_more.nodes))
    (index_room geo less.index (less.weight + 2 * (less.credits + asked.credits) + asked.nodes))
    (reserve asked_more.class) (reserve asked.class)
    h.main
    (index_room-grows geo less.index more.index
    (less.weight + 2 * (less.credits + asked.credits) + asked.nodes)
    (more.weight + 2 * (more.credits + asked_more.credits) + asked_more.nodes)
    h.index (omega (arith, h.weight, h.credits, h.nodes)))
    h.reserve

-- a store of which no more is asked
covered_below : (geo : RawGeometry) (old new : Space) →
    new.used + new.held + 4304 * new.credits ≤ old.used + old.held + 4304 * old.credits →
    old.main ≤ new.main →
    index_room geo new.index (new.weight + 2 * (new.credits + 0) + 0) ≤ index_room geo old.index (old.weight + 2 * (old.credits + 0) + 0) →
    IsCovered geo old → IsCovered geo new
covered_below geo old new need main index h = record {
  fits = omega (
    arith,
    h.fits,
    more_room (geo.leb_size - leb_reserve geo) old.main new.main
        (index_room geo old.index (old.weight + 2 * (old.credits + 0) + 0))
        (index_room geo new.index (new.weight + 2 * (new.credits + 0) + 0))
        6 6 main index (omega arith),
  );
}

pub covered_by_cut : (geo : RawGeometry) (old new : Space) (taken : ℕ) → IsLeftByCut taken old new → IsCovered geo old → IsCovered geo new
covered_by_cut geo old new taken cut h =
    covered_below geo old new
    (omega (arith, cut.used, cut.held, cut.credits))
    (omega (arith, cut.main))
    (index_room-grows geo new.index old.index (new.weight + 2 * (new.credits + 0) + 0) (old.weight + 2 * (old.credits + 0) + 0)
    (omega (arith, cut.index)) (omega (arith, cut.weight, cut.credits)))
    h

pub settled_by_cut : (geo : RawGeometry) (old new : Space) (taken : ℕ) → IsLeftByCut taken old new → IsSettled geo (with_empty taken old) → IsSettled geo new
settled_by_cut geo old new taken cut h =
    let fewer : index_lebs geo new.weight ≤ index_lebs geo old.weight = index_lebs-grows geo new.weight old.weight cut.weight in
    record {
      empty = omega (arith, h.empty, fewer, cut.empty);
      index = omega (arith, h.index, fewer, cut.empty, cut.index);
    }

pub covered_by_commit : (geo : RawGeometry) (old new : Space) → IsAfterCommit geo old new → IsCovered geo old → IsCovered geo new
covered_by_commit geo old new end h =
    covered_below geo old new
    (omega (arith, end.bytes, end.credits))
    (omega (arith, end.main))
    (index_room-anew geo old.index old.weight new.index (new.weight + 2 * (new.credits + 0) + 0) (old.weight + 2 * (old.credits + 0) + 0)
    end.index (omega arith) (omega (arith, end.weight, end.credits)))
    h

pub settled_by_commit : (geo : RawGeometry) (old new : Space) → IsAfterCommit geo old new → old.empty + old.index ≤ new.empty + new.index → IsSettled geo old → IsSettled geo new
settled_by_commit geo old new end lebs h =
    let fewer : index_lebs geo new.weight ≤ index_lebs geo old.weight = index_lebs-grows geo new.weight old.weight end.weight in
    record { empty = omega (arith, h.index, fewer, end.index, lebs); index = omega (arith, h.index, fewer, lebs) }

pub covered_by_growth : (geo : RawGeometry) (space : Space) (lebs : ℕ) → IsCovered geo space → IsCovered geo (with_lebs lebs space)
covered_by_growth geo space lebs h =
    covered_below geo space (with_lebs lebs space) (omega arith) (omega arith)
    (index_room-grows geo space.index space.index (space.weight + 2 * (space.credits + 0) + 0) (space.weight + 2 * (space.credits + 0) + 0) (omega arith) (omega arith))
    h

pub settled_by_growth : (geo : RawGeometry) (space : Space) (lebs : ℕ) → IsSettled geo space → IsSettled geo (with_lebs lebs space)
settled_by_growth geo space lebs h = record { empty = omega (arith, h.empty); index = omega (arith, h.index) }

-- none of the three tests fails
no_cause : (geo : RawGeometry) (space : Space) → space.used + space.held ≤ leaf_room geo space → IsSettled geo space → settled geo space ≡ None
no_cause geo space h s = grind (arith, nat_tests, h, s.empty, s.index)

pub no_cause_of_covered : (geo : RawGeometry) (space : Space) → IsCovered geo space → IsSettled geo space → settled geo space ≡ None
no_cause_of_covered geo space h s =
    no_cause geo space
    (omega (
      arith,
      h.fits,
      more_room (geo.leb_size - leb_reserve geo) space.main space.main
          (index_room geo space.index (space.weight + 2 * (space.credits + 0) + 0))
          (index_room geo space.index space.weight)
          6 6 (omega arith)
          (index_room-grows geo space.index space.index space.weight (space.weight + 2 * (space.credits + 0) + 0) (omega arith) (omega arith))
          (omega arith),
    ))
    s

-- what no cause says of the bytes
fits_without_cause : (geo : RawGeometry) (space : Space) → settled geo space ≡ None → space.used + space.held ≤ leaf_room geo space
fits_without_cause geo space e = grind (arith, nat_tests, e)

settled_without_cause : (geo : RawGeometry) (space : Space) → settled geo space ≡ None → IsSettled geo space
settled_without_cause geo space e = record { empty = grind (arith, nat_tests, e); index = grind (arith, nat_tests, e) }

pub no_cause_by_growth : (geo : RawGeometry) (space : Space) (lebs : ℕ) → settled geo space ≡ None → settled geo (with_lebs lebs space) ≡ None
no_cause_by_growth geo space lebs e =
    no_cause geo (with_lebs lebs space)
    (omega (
      arith,
      fits_without_cause geo space e,
      more_room (geo.leb_size - leb_reserve geo) space.main (space.main + lebs) (index_room geo space.index space.weight) (index_room geo space.index space.weight)
          6 6 (omega arith) (omega arith) (omega arith),
    ))
    (settled_by_growth geo space lebs (settled_without_cause geo space e))
