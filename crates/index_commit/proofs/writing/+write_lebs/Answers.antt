use Rattle.std.proofs.Common.{◌≡◌, ◌+◌, ◌-◌, ◌<◌, ℕ, List, [], rules, refl, ap, ◌∙◌, subst, arith, inl, inr, length}
use Rattle.std.proofs.lemmas.Grind
use native.Mathlib.Omega
use Rattle.std.specs.Prelude.{◌⊎◌, Option, Some}
use Rattle.ubifs_base.specs.Geometry.{index_node_len, index_nodes_per_leb}
use Rattle.ubifs_base.specs.RawOf.{raw_of}
use Rattle.index_cache.specs.Paged.{dirty_of}
use Rattle.ubi_volume.specs.VolumeLaws.{Leaves-none}
use Rattle.index_commit.specs.Answers.{IsIndexNotFailed}
use Rattle.index_commit.specs.Rooms.{head_after, room_in, taken_room}
use Rattle.index_commit.specs.Written.{AreFirstsTaken, IsHeadAfter}
use Rattle.index_commit.specs.declared.index_at.IndexHead.{IndexHead}
use Rattle.index_commit.proofs.Answered.{answered_none, answered_then}
use Rattle.index_commit.proofs.Committed.{some_nodes}
use Rattle.index_commit.proofs.Laid.{index_none, taken_fewer}
use Rattle.index_commit.proofs.LastTaken.{none_from_none}
use Rattle.index_commit.proofs.Rooming.{both_taken, first_taken, head_both}
use Rattle.index_commit.proofs.Lebs.{both_worked, both_written, fits_then, geometry_then, givable_then, head_behind, if_ok, none_written, one_written, one_worked, some_dirty}
use Rattle.index_commit.proofs.HeldLebs.{all_lebs, all_lefts, first_lefts, first_lebs, idle_lebs}
use Rattle.index_commit.proofs.writing.+write_lebs.Goals as goal

pub returns-then-is_none-clause-standing : goal.returns-then-is_none-clause-standing
returns-then-is_none-clause-standing g t c = λ done. none_written (g.V.Volume.state c.args.volume.now) c.args.lebs.now c.args.index.now c.args.sqnum.now

pub returns-then-is_none-clause-index : goal.returns-then-is_none-clause-index
returns-then-is_none-clause-index g t c = index_none c.places_are_kept.ensures.none (taken_room (raw_of c.args.geometry.now) c.args.lebs.now) c.args.index.now c.args.sqnum.now

pub returns-in_err-offs-clause-standing : goal.returns-in_err-offs-clause-standing
returns-in_err-offs-clause-standing g t c = λ failed.
    let a = g.V.Volume.state c.args.volume.now in
    let b = g.V.Volume.state c.write_leb.new.volume in
    let lnum = c.in-Some.lnum.now in
    let rest = c.in-Some.rest.now in
    let is = c.in-Some.ensures.cases.0 in
    let apart = (givable_then a.leb_cnt a.leb_cnt lnum rest c.args.lebs.now refl is c.requires.lebs).1 in
    let other : IsIndexNotFailed c.write_leb.result = search (rules, failed) in
    let number = c.write_leb.ensures.index.number in
    one_written a b lnum rest c.args.lebs.now c.args.index.now c.write_leb.new.index c.args.sqnum.now c.write_leb.new.sqnum is (omega (arith, number)) apart c.write_leb.ensures.works (c.write_leb.ensures.standing other)

pub returns-in_err-offs-clause-works : goal.returns-in_err-offs-clause-works
returns-in_err-offs-clause-works g t c =
    one_worked (g.V.Volume.state c.args.volume.now) (g.V.Volume.state c.write_leb.new.volume) c.in-Some.lnum.now c.in-Some.rest.now c.args.lebs.now c.in-Some.ensures.cases.0 c.write_leb.ensures.works

pub write_lebs-requires : goal.write_lebs-requires
write_lebs-requires g t c κs within =
    let a = g.V.Volume.state c.args.volume.now in
    let b = g.V.Volume.state c.write_leb.new.volume in
    let geo = c.args.geometry.now in
    let lnum = c.in-Some.lnum.now in
    let rest = c.in-Some.rest.now in
    let is = c.in-Some.ensures.cases.0 in
    let long = ap length is in
    let made = c.in_ok-offs.ensures in
    let old = dirty_of c.args.index.now in
    let new = dirty_of c.write_leb.new.index in
    let fewer = taken_fewer c.places_are_kept.ensures.fewer made.index.numbers old new made.index.taken in
    let number = made.index.number in
    let most = c.requires.number in (
      omega (arith, long, c.decreases),
      (
        within,
        (
          geometry_then (raw_of geo) a b made.answer.shape c.requires.geometry,
          (
            made.index.kept.roots.fanout ∙ c.requires.fanout,
            (
              (givable_then a.leb_cnt b.leb_cnt lnum rest c.args.lebs.now made.answer.shape.leb_cnt is c.requires.lebs).2,
              (omega (arith, fewer, number, most), (made.len ∙ c.requires.whole, fits_then (index_nodes_per_leb (raw_of geo)) (length old) (length new) new lnum rest c.args.lebs.now is c.requires.fits refl made.all)),
            ),
          ),
        ),
      ),
    )

pub returns-clause-head : goal.returns-clause-head
returns-clause-head g t c =
    let a = g.V.Volume.state c.args.volume.now in
    let b = g.V.Volume.state c.write_leb.new.volume in
    let d = g.V.Volume.state c.write_lebs.new.volume in
    let lnum = c.in-Some.lnum.now in
    let rest = c.in-Some.rest.now in
    let is = c.in-Some.ensures.cases.0 in
    let apart = (givable_then a.leb_cnt a.leb_cnt lnum rest c.args.lebs.now refl is c.requires.lebs).1 in
    let offs = c.in_ok-offs.offs in
    let some : 0 < length (dirty_of c.args.index.now) = some_dirty (dirty_of c.args.index.now) (search (rules)) in
    let now : Option IndexHead = Some (record { lnum = lnum; offs = offs }) in
    if_ok (λ found. IsHeadAfter d rest (dirty_of c.write_leb.new.index) now found) (λ found. IsHeadAfter d c.args.lebs.now (dirty_of c.args.index.now) c.args.head found) c.write_lebs.result
    (λ found h. head_behind b d lnum offs rest c.args.lebs.now (dirty_of c.args.index.now) (dirty_of c.write_leb.new.index) c.args.head now found is apart some c.write_lebs.ensures.works
    c.write_lebs.ensures.answer.shape refl c.in_ok-offs.ensures.end h) c.write_lebs.ensures.head

pub returns-clause-standing : goal.returns-clause-standing
returns-clause-standing g t c = λ other.
    let a = g.V.Volume.state c.args.volume.now in
    let b = g.V.Volume.state c.write_leb.new.volume in
    let d = g.V.Volume.state c.write_lebs.new.volume in
    let lnum = c.in-Some.lnum.now in
    let rest = c.in-Some.rest.now in
    let is = c.in-Some.ensures.cases.0 in
    let apart = (givable_then a.leb_cnt a.leb_cnt lnum rest c.args.lebs.now refl is c.requires.lebs).1 in
    let number = c.in_ok-offs.ensures.index.number in
    let last = c.write_lebs.ensures.index.number in
    both_written a b d lnum rest c.args.lebs.now c.args.index.now c.write_leb.new.index c.write_lebs.new.index c.args.sqnum.now c.write_leb.new.sqnum c.write_lebs.new.sqnum is (omega (arith, number))
    (omega (arith, last)) apart c.write_leb.ensures.works c.write_lebs.ensures.works (c.in_ok-offs.ensures.standing tt)
    (c.write_lebs.ensures.standing other)

pub returns-in_err-offs-clause-index : goal.returns-in_err-offs-clause-index
returns-in_err-offs-clause-index g t c =
    first_taken (raw_of c.args.geometry.now) c.in-Some.lnum.now c.in-Some.rest.now c.args.lebs.now c.args.index.now c.write_leb.new.index c.args.sqnum.now c.write_leb.new.sqnum c.in-Some.ensures.cases.0
    c.write_leb.ensures.most c.write_leb.ensures.index

pub returns-clause-end : goal.returns-clause-end
returns-clause-end g t c =
    let geo = raw_of c.args.geometry.now in
    let lnum = c.in-Some.lnum.now in
    let rest = c.in-Some.rest.now in
    let offs = c.in_ok-offs.offs in
    let one = c.in_ok-offs.ensures in
    let later = c.write_lebs.ensures.index in
    let last = later.number in
    let i = c.args.sqnum.now in
    let j = c.write_leb.new.sqnum in
    let k = c.write_lebs.new.sqnum in
    let now : Option IndexHead = Some (record { lnum = lnum; offs = offs }) in
    let full : (k ≡ j) ⊎ (j ≡ i + index_nodes_per_leb geo) = elim one.full [
      | inl none ↦
          let P : List ℕ → Type 0 = λ l. AreFirstsTaken later.numbers l (dirty_of c.write_lebs.new.index) in
          let empty = ap length (none_from_none later.numbers (dirty_of c.write_lebs.new.index) (subst P none later.taken)) in
          inl (omega (arith, empty, last))
      | inr whole ↦ inr whole
    ] in
    if_ok (λ found. found ≡ head_after geo rest now (k - j)) (λ found. found ≡ head_after geo c.args.lebs.now c.args.head (k - i)) c.write_lebs.result
    (λ found h. head_both geo lnum rest c.args.lebs.now [] offs i j k c.args.head now found c.in-Some.ensures.cases.0 (some_nodes c.args.geometry.now) one.some (omega (arith, last)) one.most full one.units refl h)
    c.write_lebs.ensures.end

pub returns-clause-index : goal.returns-clause-index
returns-clause-index g t c =
    both_taken c.places_are_kept.ensures.both (raw_of c.args.geometry.now) c.in-Some.lnum.now c.in-Some.rest.now c.args.lebs.now c.args.index.now c.write_leb.new.index c.write_lebs.new.index
    c.args.sqnum.now c.write_leb.new.sqnum c.write_lebs.new.sqnum c.in-Some.ensures.cases.0 (some_nodes c.args.geometry.now) c.in_ok-offs.ensures.most c.in_ok-offs.ensures.full
    c.in_ok-offs.ensures.index c.write_lebs.ensures.index

pub returns-clause-works : goal.returns-clause-works
returns-clause-works g t c =
    both_worked (g.V.Volume.state c.args.volume.now) (g.V.Volume.state c.write_leb.new.volume) (g.V.Volume.state c.write_lebs.new.volume) c.in-Some.lnum.now c.in-Some.rest.now c.args.lebs.now
    c.in-Some.ensures.cases.0 c.write_leb.ensures.works c.write_lebs.ensures.works

pub returns-then-is_none-clause-text : goal.returns-then-is_none-clause-text
returns-then-is_none-clause-text g t c = λ done. idle_lebs (raw_of c.args.geometry.now) (g.V.Volume.state c.args.volume.now) c.args.lebs.now c.args.index.now c.args.sqnum.now

pub returns-in_err-offs-clause-text : goal.returns-in_err-offs-clause-text
returns-in_err-offs-clause-text g t c = λ failed.
    let a = g.V.Volume.state c.args.volume.now in
    let lnum = c.in-Some.lnum.now in
    let rest = c.in-Some.rest.now in
    let is = c.in-Some.ensures.cases.0 in
    let apart = (givable_then a.leb_cnt a.leb_cnt lnum rest c.args.lebs.now refl is c.requires.lebs).1 in
    let other : IsIndexNotFailed c.write_leb.result = search (rules, failed) in
    first_lebs {r = room_in lnum (index_node_len (raw_of c.args.geometry.now)) 0} (raw_of c.args.geometry.now) a (g.V.Volume.state c.write_leb.new.volume) lnum rest c.args.lebs.now c.args.index.now c.write_leb.new.index c.args.sqnum.now c.write_leb.new.sqnum is apart
    c.write_leb.ensures.works c.write_leb.ensures.index c.write_leb.ensures.most (c.write_leb.ensures.text other)

pub returns-clause-text : goal.returns-clause-text
returns-clause-text g t c = λ other.
    let a = g.V.Volume.state c.args.volume.now in
    let lnum = c.in-Some.lnum.now in
    let rest = c.in-Some.rest.now in
    let is = c.in-Some.ensures.cases.0 in
    let geo = raw_of c.args.geometry.now in
    let apart = (givable_then a.leb_cnt a.leb_cnt lnum rest c.args.lebs.now refl is c.requires.lebs).1 in
    let one = c.in_ok-offs.ensures in
    let whole = both_taken c.places_are_kept.ensures.both geo lnum rest c.args.lebs.now c.args.index.now c.write_leb.new.index c.write_lebs.new.index c.args.sqnum.now c.write_leb.new.sqnum
    c.write_lebs.new.sqnum is (some_nodes c.args.geometry.now) one.most one.full one.index c.write_lebs.ensures.index in
    all_lebs {r1 = room_in lnum (index_node_len geo) 0} {r2 = taken_room geo rest} {r = taken_room geo c.args.lebs.now} geo a (g.V.Volume.state c.write_leb.new.volume) (g.V.Volume.state c.write_lebs.new.volume) lnum rest c.args.lebs.now c.args.index.now c.write_leb.new.index c.write_lebs.new.index
    c.args.sqnum.now c.write_leb.new.sqnum c.write_lebs.new.sqnum is apart c.write_leb.ensures.works c.write_lebs.ensures.works one.index c.write_lebs.ensures.index whole one.most one.full
    (one.text tt) (c.write_lebs.ensures.text other)

pub returns-in_err-offs-clause-left : goal.returns-in_err-offs-clause-left
returns-in_err-offs-clause-left g t c =
    let a = g.V.Volume.state c.args.volume.now in
    let lnum = c.in-Some.lnum.now in
    let rest = c.in-Some.rest.now in
    let is = c.in-Some.ensures.cases.0 in
    let apart = (givable_then a.leb_cnt a.leb_cnt lnum rest c.args.lebs.now refl is c.requires.lebs).1 in
    first_lefts {r = room_in lnum (index_node_len (raw_of c.args.geometry.now)) 0} (raw_of c.args.geometry.now) a (g.V.Volume.state c.write_leb.new.volume) lnum rest c.args.lebs.now c.args.index.now
    c.write_leb.new.index c.args.sqnum.now c.write_leb.new.sqnum is apart c.write_leb.ensures.works c.write_leb.ensures.index c.write_leb.ensures.most c.write_leb.ensures.left

pub returns-clause-left : goal.returns-clause-left
returns-clause-left g t c =
    let a = g.V.Volume.state c.args.volume.now in
    let lnum = c.in-Some.lnum.now in
    let rest = c.in-Some.rest.now in
    let is = c.in-Some.ensures.cases.0 in
    let geo = raw_of c.args.geometry.now in
    let apart = (givable_then a.leb_cnt a.leb_cnt lnum rest c.args.lebs.now refl is c.requires.lebs).1 in
    let one = c.in_ok-offs.ensures in
    let whole = both_taken c.places_are_kept.ensures.both geo lnum rest c.args.lebs.now c.args.index.now c.write_leb.new.index c.write_lebs.new.index c.args.sqnum.now c.write_leb.new.sqnum
    c.write_lebs.new.sqnum is (some_nodes c.args.geometry.now) one.most one.full one.index c.write_lebs.ensures.index in
    all_lefts {r1 = room_in lnum (index_node_len geo) 0} {r2 = taken_room geo rest} {r = taken_room geo c.args.lebs.now} geo a (g.V.Volume.state c.write_leb.new.volume)
    (g.V.Volume.state c.write_lebs.new.volume) lnum rest c.args.lebs.now c.args.index.now c.write_leb.new.index c.write_lebs.new.index c.args.sqnum.now c.write_leb.new.sqnum c.write_lebs.new.sqnum is apart
    c.write_leb.ensures.works c.write_lebs.ensures.works one.index c.write_lebs.ensures.index whole one.most one.full (one.text tt) c.write_leb.ensures.left c.write_lebs.ensures.left

pub returns-then-is_none-clause-left : goal.returns-then-is_none-clause-left
returns-then-is_none-clause-left g t c = Leaves-none (g.V.Volume.state c.args.volume.now) _

pub returns-then-is_none-clause-clean : goal.returns-then-is_none-clause-clean
returns-then-is_none-clause-clean g t c = grind (Omega.arith, Grind.common_steps) steps 2000000

pub returns-then-is_none-clause-end : goal.returns-then-is_none-clause-end
returns-then-is_none-clause-end g t c = grind (Omega.arith, Grind.common_steps) steps 2000000

pub returns-then-is_none-clause-answer : goal.returns-then-is_none-clause-answer
returns-then-is_none-clause-answer g t c = answered_none _ _

pub returns-then-is_none-clause-fault : goal.returns-then-is_none-clause-fault
returns-then-is_none-clause-fault g t c = tt

pub returns-then-is_none-clause-memory : goal.returns-then-is_none-clause-memory
returns-then-is_none-clause-memory g t c = tt

pub returns-then-is_none-clause-equal : goal.returns-then-is_none-clause-equal
returns-then-is_none-clause-equal g t c = tt

pub returns-in_default-clause-clean : goal.returns-in_default-clause-clean
returns-in_default-clause-clean g t c = grind (Omega.arith, Grind.common_steps) steps 2000000

pub returns-in_default-clause-none : goal.returns-in_default-clause-none
returns-in_default-clause-none g t c = grind (Omega.arith, Grind.common_steps) steps 2000000

pub returns-in_default-clause-head : goal.returns-in_default-clause-head
returns-in_default-clause-head g t c = grind (Omega.arith, Grind.common_steps) steps 2000000

pub returns-in_default-clause-end : goal.returns-in_default-clause-end
returns-in_default-clause-end g t c = grind (Omega.arith, Grind.common_steps) steps 2000000

pub returns-in_default-clause-standing : goal.returns-in_default-clause-standing
returns-in_default-clause-standing g t c = grind (Omega.arith, Grind.common_steps) steps 2000000

pub returns-in_default-clause-text : goal.returns-in_default-clause-text
returns-in_default-clause-text g t c = grind (Omega.arith, Grind.common_steps) steps 2000000

pub returns-in_default-clause-index : goal.returns-in_default-clause-index
returns-in_default-clause-index g t c = grind (Omega.arith, Grind.common_steps) steps 2000000

pub returns-in_default-clause-works : goal.returns-in_default-clause-works
returns-in_default-clause-works g t c = grind (Omega.arith, Grind.common_steps) steps 2000000

pub returns-in_default-clause-left : goal.returns-in_default-clause-left
returns-in_default-clause-left g t c = grind (Omega.arith, Grind.common_steps) steps 2000000

pub returns-in_default-clause-answer : goal.returns-in_default-clause-answer
returns-in_default-clause-answer g t c = answered_none _ _

pub returns-in_default-clause-fault : goal.returns-in_default-clause-fault
returns-in_default-clause-fault g t c = tt

pub returns-in_default-clause-memory : goal.returns-in_default-clause-memory
returns-in_default-clause-memory g t c = tt

pub returns-in_default-clause-equal : goal.returns-in_default-clause-equal
returns-in_default-clause-equal g t c = tt

pub returns-in_err-offs-clause-clean : goal.returns-in_err-offs-clause-clean
returns-in_err-offs-clause-clean g t c = grind (Omega.arith, Grind.common_steps) steps 2000000

pub returns-in_err-offs-clause-none : goal.returns-in_err-offs-clause-none
returns-in_err-offs-clause-none g t c = grind (Omega.arith, Grind.common_steps) steps 2000000

pub returns-in_err-offs-clause-head : goal.returns-in_err-offs-clause-head
returns-in_err-offs-clause-head g t c = grind (Omega.arith, Grind.common_steps) steps 2000000

pub returns-in_err-offs-clause-end : goal.returns-in_err-offs-clause-end
returns-in_err-offs-clause-end g t c = grind (Omega.arith, Grind.common_steps) steps 2000000

pub returns-in_err-offs-clause-answer : goal.returns-in_err-offs-clause-answer
returns-in_err-offs-clause-answer g t c = grind (Omega.arith, Grind.common_steps) steps 2000000

pub returns-in_err-offs-clause-fault : goal.returns-in_err-offs-clause-fault
returns-in_err-offs-clause-fault g t c = grind (Omega.arith, Grind.common_steps) steps 2000000

pub returns-in_err-offs-clause-memory : goal.returns-in_err-offs-clause-memory
returns-in_err-offs-clause-memory g t c = grind (Omega.arith, Grind.common_steps) steps 2000000

pub returns-in_err-offs-clause-equal : goal.returns-in_err-offs-clause-equal
returns-in_err-offs-clause-equal g t c = grind (Omega.arith, Grind.common_steps) steps 2000000

pub returns-clause-answer : goal.returns-clause-answer
returns-clause-answer g t c = answered_then _ _ _ c.in_ok-offs.offs _ c.in_ok-offs.ensures.answer c.write_lebs.ensures.works.spent c.write_lebs.ensures.answer
