-- What was granted stays covered. The laws over numbers are taken as arguments, as the clauses of their functions give them.
use Rattle.std.proofs.Common.{◌≡◌, ℕ, ◌+◌, ◌-◌, ◌*◌, ◌≤◌, refl, ap, subst, Option, Some, arith}
use Rattle.std.proofs.Math.Nat.{mul-le-mul_right}
use Rattle.ubifs_base.specs.declared.raw_geometry.RawGeometry.{RawGeometry}
use Rattle.ubifs_base.specs.Geometry.{leb_reserve}
use Rattle.fs_model.specs.declared.space.Space.{Space}
use Rattle.fs_model.specs.declared.space.Need.{Need}
use Rattle.fs_model.specs.declared.space.Grant.{Grant}
use Rattle.fs_model.specs.Cover.{index_lebs, index_room, reserve, room_for}
use Rattle.fs_model.specs.Settled.{IsCovered}
use Rattle.space_sums.specs.Spaces.{AsksNoLess, HasRoom, IsAfterGroup, IsAfterPage, grant_of, with_credits}
use Rattle.space_budget.specs.Books.{AreGrantsCovered, BookState, IsPaidByCredit, IsPaidByGrant, after_admission, after_commit, after_group, after_move, after_page, after_return, after_sync, next_group_need}

abbrev pub AdmissionLaw : Type 0
AdmissionLaw = (geo : RawGeometry) (space : Space) (need : Need) → HasRoom geo space need → HasRoom geo (with_credits need.credits space) (grant_of need)

abbrev pub PageLaw : Type 0
PageLaw = (geo : RawGeometry) (old new : Space) (grant : Need) → IsAfterPage old new → HasRoom geo old grant → HasRoom geo new grant

abbrev pub GroupLaw : Type 0
GroupLaw = (geo : RawGeometry) (old new : Space) (grant : Need) → IsAfterGroup grant old new → HasRoom geo old grant → IsCovered geo new

abbrev pub LessLaw : Type 0
LessLaw = (geo : RawGeometry) (less more : Space) (asked asked_more : Need) → AsksNoLess less asked more asked_more → HasRoom geo more asked_more → HasRoom geo less asked

abbrev pub IndexLaw : Type 0
IndexLaw = (geo : RawGeometry) (old_index old_weight new_index new_weight more : ℕ) → new_weight ≤ old_weight → new_index ≤ 2 * index_lebs geo old_weight →
    index_room geo new_index (new_weight + more) ≤ index_room geo old_index (old_weight + more)

pub admission-covers : AdmissionLaw → (book : BookState) (need : Need) → HasRoom book.geo book.space need → AreGrantsCovered (after_admission book need)
admission-covers law book need h = record { room = law book.geo book.space need h }

pub return-covers : LessLaw → (book : BookState) (credits : ℕ) → AreGrantsCovered book → AreGrantsCovered (after_return book credits)
return-covers law book credits h = record {
  room = law book.geo (after_return book credits).space book.space (next_group_need book.grant) (next_group_need book.grant) (record {
    used = omega arith;
    held = omega arith;
    credits = omega arith;
    bytes = omega arith;
    nodes = omega arith;
    index = omega arith;
    weight = omega arith;
    main = omega arith;
    reserve = omega arith;
  }) h.room;
}

pub page-covers : PageLaw → (book : BookState) (used held nodes : ℕ) → IsPaidByCredit book.space used held nodes → AreGrantsCovered book → AreGrantsCovered (after_page book used held nodes)
page-covers law book used held nodes paid h = record {
  room = law book.geo book.space (after_page book used held nodes).space (next_group_need book.grant) (record {
    bytes = omega (arith, paid.bytes_paid);
    credits = omega (arith, paid.credit);
    weight = omega (arith, paid.nodes_paid);
    index = refl;
    main = refl;
  }) h.room;
}

pub group-covers : GroupLaw → (book : BookState) (used held nodes : ℕ) → IsPaidByGrant book used held nodes → AreGrantsCovered book → AreGrantsCovered (after_group book used held nodes)
group-covers law book used held nodes paid h =
    let new : Space = (after_group book used held nodes).space in
    let G : Option Grant → Type 0 = λ grant. HasRoom book.geo book.space (next_group_need grant) in
    let put : IsAfterGroup (next_group_need (Some paid.grant)) book.space new = record {
      bytes = omega (arith, paid.bytes_paid);
      credits = refl;
      weight = omega (arith, paid.nodes_paid);
      index = refl;
      main = refl;
    } in
    let covered : IsCovered book.geo new = law book.geo book.space new (next_group_need (Some paid.grant)) put (subst G paid.is h.room) in
    record { room = record { fits = covered.fits } }

pub move-covers : (book : BookState) (used held empty : ℕ) → used + held ≤ book.space.used + book.space.held → AreGrantsCovered book → AreGrantsCovered (after_move book used held empty)
move-covers book used held empty less h = record { room = record { fits = omega (arith, h.room.fits, less) } }

pub sync-covers : (book : BookState) → AreGrantsCovered book → AreGrantsCovered (after_sync book)
sync-covers book h = record { room = record { fits = omega (arith, h.room.fits) } }

pub commit-covers : IndexLaw → (book : BookState) (weight index empty : ℕ) → weight ≤ book.space.weight → index ≤ 2 * index_lebs book.geo book.space.weight →
    AreGrantsCovered book → AreGrantsCovered (after_commit book weight index empty)
commit-covers law book weight index empty lighter few h =
    let need : Need = next_group_need book.grant in
    let new : Space = (after_commit book weight index empty).space in
    let more : ℕ = 2 * (book.space.credits + need.credits) + need.nodes in
    let fewer : index_room book.geo index (weight + more) ≤ index_room book.geo book.space.index (book.space.weight + more) =
    law book.geo book.space.index book.space.weight index weight more lighter few in
    let grows : room_for book.geo book.space need ≤ room_for book.geo new need =
    wider (index_room book.geo index (weight + more)) (index_room book.geo book.space.index (book.space.weight + more)) fewer
    (ap (index_room book.geo index) (omega arith)) (ap (index_room book.geo book.space.index) (omega arith)) in
    record { room = record { fits = omega (arith, h.room.fits, grows) } }
  where
    wider : (a b : ℕ) → a ≤ b →
        a ≡ index_room book.geo index (weight + 2 * (book.space.credits + (next_group_need book.grant).credits) + (next_group_need book.grant).nodes) →
        b ≡ index_room book.geo book.space.index (book.space.weight + 2 * (book.space.credits + (next_group_need book.grant).credits) + (next_group_need book.grant).nodes) →
        room_for book.geo book.space (next_group_need book.grant) ≤ room_for book.geo (after_commit book weight index empty).space (next_group_need book.grant)
    wider a b l p q =
        let size : ℕ = book.geo.leb_size - leb_reserve book.geo in
        let kept : ℕ = reserve (next_group_need book.grant).class in
        let m : (book.space.main - b - kept) * size ≤ (book.space.main - a - kept) * size = mul-le-mul_right {m = book.space.main - b - kept} {n = book.space.main - a - kept} size (omega arith) in
        let P : ℕ → Type 0 = λ v. (book.space.main - v - kept) * size ≤ (book.space.main - a - kept) * size in
        let Q : ℕ → Type 0 = λ v. (book.space.main - index_room book.geo book.space.index (book.space.weight + 2 * (book.space.credits + (next_group_need book.grant).credits) + (next_group_need book.grant).nodes) - kept) * size ≤ (book.space.main - v - kept) * size in
        subst Q p (subst P q m)
