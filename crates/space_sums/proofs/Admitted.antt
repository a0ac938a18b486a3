-- What was admitted can be put.
use Rattle.std.proofs.Common.{ℕ, ◌+◌, ◌-◌, ◌*◌, ◌≤◌, arith}
use Rattle.ubifs_base.specs.declared.raw_geometry.RawGeometry.{RawGeometry}
use Rattle.ubifs_base.specs.Geometry.{leb_reserve}
use Rattle.fs_model.specs.declared.space.Space.{Space}
use Rattle.fs_model.specs.declared.space.Need.{Need}
use Rattle.fs_model.specs.declared.space.Class.{Class}
use Rattle.fs_model.specs.declared.space.Class.TheVariants.{Ordinary, Removal}
use Rattle.fs_model.specs.Cover.{index_room, reserve, needed, room_for}
use Rattle.fs_model.specs.Settled.{IsCovered, nothing}
use Rattle.space_sums.specs.Spaces.{AsksNoLess, HasRoom, IsAfterCommit, IsAfterPage, IsAfterGroup, IsNoMore, with_credits, grant_of}
use Rattle.space_sums.proofs.Index.{index_room-anew, index_room-grows}
use Rattle.space_sums.proofs.Keeps.{more_room, needed-grows, room_for-falls}

-- what the index may weigh
weight_with : Space → Need → ℕ
weight_with space need = space.weight + 2 * (space.credits + need.credits) + need.nodes

-- where no more is asked, and the index comes to no more
still_has_room : (geo : RawGeometry) (old new : Space) (asked need : Need) →
    needed new need ≤ needed old asked → old.main ≤ new.main → new.index ≤ old.index →
    weight_with new need ≤ weight_with old asked → reserve need.class ≤ reserve asked.class →
    HasRoom geo old asked → needed new need ≤ room_for geo new need
unfolding weight_with
still_has_room geo old new asked need less main index weight kept h = omega (
  arith,
  h.fits,
  more_room (geo.leb_size - leb_reserve geo) old.main new.main
      (index_room geo old.index (weight_with old asked))
      (index_room geo new.index (weight_with new need))
      (reserve asked.class) (reserve need.class) main
      (index_room-grows geo new.index old.index (weight_with new need) (weight_with old asked) index weight)
      kept,
)

least_reserve : (class : Class) → 6 ≤ reserve class
least_reserve Ordinary = omega arith
least_reserve Removal = omega arith

pub has_room_below : (geo : RawGeometry) (less more : Space) (asked asked_more : Need) → AsksNoLess less asked more asked_more → HasRoom geo more asked_more → HasRoom geo less asked
has_room_below geo less more asked asked_more h room = record {
  fits = omega (arith, room.fits, needed-grows less more asked asked_more h, room_for-falls geo less more asked asked_more h);
}

pub covered_with_room : (geo : RawGeometry) (space : Space) (need : Need) → HasRoom geo space need → IsCovered geo space
unfolding weight_with
covered_with_room geo space need h = record {
  fits = still_has_room geo space space need nothing (omega arith) (omega arith) (omega arith) (omega arith) (least_reserve need.class) h;
}

pub has_room_once_granted : (geo : RawGeometry) (space : Space) (need : Need) → HasRoom geo space need → HasRoom geo (with_credits need.credits space) (grant_of need)
unfolding weight_with
has_room_once_granted geo space need h = record {
  fits = still_has_room geo space (with_credits need.credits space) need (grant_of need) (omega arith) (omega arith) (omega arith) (omega arith) (least_reserve need.class) h;
}

pub has_room_after_page : (geo : RawGeometry) (old new : Space) (grant : Need) → IsAfterPage old new → HasRoom geo old grant → HasRoom geo new grant
unfolding weight_with
has_room_after_page geo old new grant put h = record {
  fits = still_has_room geo old new grant grant
      (omega (arith, put.bytes, put.credits)) (omega (arith, put.main)) (omega (arith, put.index)) (omega (arith, put.weight, put.credits)) (omega arith) h;
}

pub covered_after_page : (geo : RawGeometry) (old new : Space) → IsAfterPage old new → IsCovered geo old → IsCovered geo new
covered_after_page geo old new put h =
    let room : HasRoom geo old nothing = record { fits = h.fits } in
    let after : HasRoom geo new nothing = has_room_after_page geo old new nothing put room in
    record { fits = after.fits }

pub covered_after_group : (geo : RawGeometry) (old new : Space) (grant : Need) → IsAfterGroup grant old new → HasRoom geo old grant → IsCovered geo new
unfolding weight_with
covered_after_group geo old new grant put h = record {
  fits = still_has_room geo old new grant nothing
      (omega (arith, put.bytes, put.credits)) (omega (arith, put.main)) (omega (arith, put.index)) (omega (arith, put.weight, put.credits)) (least_reserve grant.class) h;
}

pub has_room_with_no_more : (geo : RawGeometry) (old new : Space) (need : Need) → IsNoMore old new → HasRoom geo old need → HasRoom geo new need
unfolding weight_with
has_room_with_no_more geo old new need less h = record {
  fits = still_has_room geo old new need need
      (omega (arith, less.bytes, less.credits)) (omega (arith, less.main)) (omega (arith, less.index)) (omega (arith, less.weight, less.credits)) (omega arith) h;
}

pub covered_with_no_more : (geo : RawGeometry) (old new : Space) → IsNoMore old new → IsCovered geo old → IsCovered geo new
covered_with_no_more geo old new less h =
    let room : HasRoom geo old nothing = record { fits = h.fits } in
    let after : HasRoom geo new nothing = has_room_with_no_more geo old new nothing less room in
    record { fits = after.fits }

pub has_room_after_commit : (geo : RawGeometry) (old new : Space) (need : Need) → IsAfterCommit geo old new → HasRoom geo old need → HasRoom geo new need
has_room_after_commit geo old new need end h = record {
  fits = omega (
    arith,
    h.fits,
    end.bytes,
    end.credits,
    more_room (geo.leb_size - leb_reserve geo) old.main new.main
        (index_room geo old.index (old.weight + 2 * (old.credits + need.credits) + need.nodes))
        (index_room geo new.index (new.weight + 2 * (new.credits + need.credits) + need.nodes))
        (reserve need.class) (reserve need.class) (omega (arith, end.main))
        (index_room-anew geo old.index old.weight new.index
        (new.weight + 2 * (new.credits + need.credits) + need.nodes)
        (old.weight + 2 * (old.credits + need.credits) + need.nodes)
        end.index (omega arith) (omega (arith, end.weight, end.credits)))
        (omega arith),
  );
}
