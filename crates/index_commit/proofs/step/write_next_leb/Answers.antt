use Rattle.std.proofs.Common.{[], ◌∷◌, rules}
use Rattle.ubifs_base.specs.Geometry.{index_node_len}
use Rattle.ubifs_base.specs.RawOf.{raw_of}
use Rattle.index_cache.specs.Paged.{dirty_of, frozen_of}
use Rattle.ubi_volume.specs.VolumeLaws.{Leaves-none}
use Rattle.index_commit.specs.Answers.{IsIndexNotFailed}
use Rattle.index_commit.specs.Ordered.{AreKeysInOrder, IsNotEqualKeys}
use Rattle.index_commit.specs.Rooms.{room_in}
use Rattle.index_commit.proofs.Laid.{index_none}
use Rattle.index_commit.proofs.LebTexts.{idle_leb, next_leb}
use Rattle.index_commit.proofs.Lebs.{keeps_indexes, none_standing, none_works, written_standing}
use Rattle.index_commit.proofs.Ordered.{never_equal}
use Rattle.index_commit.proofs.step.write_next_leb.Goals as goal

pub returns-in_err-leb-clause-standing : goal.returns-in_err-leb-clause-standing
returns-in_err-leb-clause-standing g c = λ other. (
  none_standing (g.V.Volume.state c.args.volume.now) (c.args.lnum ∷ []) c.args.index.now c.args.sqnum.now,
  idle_leb (raw_of c.args.geometry.now) (g.V.Volume.state c.args.volume.now) c.args.lnum c.args.index.now c.args.sqnum.now,
)

pub returns-in_err-leb-clause-index : goal.returns-in_err-leb-clause-index
returns-in_err-leb-clause-index g c = index_none c.places_are_kept.ensures.none (room_in c.args.lnum (index_node_len (raw_of c.args.geometry.now)) 0) c.args.index.now c.args.sqnum.now

pub returns-in_err-offs-clause-standing : goal.returns-in_err-offs-clause-standing
returns-in_err-offs-clause-standing g c = λ other.
    let failed : IsIndexNotFailed c.write_leb.result = search (rules, other) in (
      written_standing (g.V.Volume.state c.args.volume.now) (g.V.Volume.state c.write_leb.new.volume) (c.args.lnum ∷ []) c.args.index.now c.write_leb.new.index c.args.sqnum.now c.write_leb.new.sqnum
          (c.write_leb.ensures.standing failed),
      c.write_leb.ensures.text failed,
    )

pub returns-in_err-offs-clause-old_stays : goal.returns-in_err-offs-clause-old_stays
returns-in_err-offs-clause-old_stays g c =
    keeps_indexes c.an_index_depends_on_its_lebs_alone.ensures (g.V.Volume.state c.args.volume.now) (g.V.Volume.state c.write_leb.new.volume) (c.args.lnum ∷ []) c.write_leb.ensures.works

pub returns-in_err-offs-clause-answer : goal.returns-in_err-offs-clause-answer
returns-in_err-offs-clause-answer g c =
    let fine : AreKeysInOrder (frozen_of c.args.index.now) → IsNotEqualKeys c.write_leb.result =
    λ order. never_equal c.args.index.now c.write_leb.new.index c.write_leb.result c.write_leb.ensures.index.kept.frozen order c.write_leb.ensures.equal in
    (search rules, search rules, search rules, (λ order. let fact = fine order in search (rules, fact)), search rules)

pub returns-clause-done : goal.returns-clause-done
returns-clause-done g c =
    let made = c.in_ok-offs.ensures in
    (next_leb (raw_of c.args.geometry.now) c.args.lnum c.in_ok-offs.offs c.args.sqnum.now c.write_leb.new.sqnum (dirty_of c.write_leb.new.index) made.some made.most made.full made.units, made.live)

pub returns-clause-standing : goal.returns-clause-standing
returns-clause-standing g c = λ done. (
  written_standing (g.V.Volume.state c.args.volume.now) (g.V.Volume.state c.write_leb.new.volume) (c.args.lnum ∷ []) c.args.index.now c.write_leb.new.index c.args.sqnum.now c.write_leb.new.sqnum
      (c.in_ok-offs.ensures.standing tt),
  c.in_ok-offs.ensures.text tt,
)

pub returns-clause-old_stays : goal.returns-clause-old_stays
returns-clause-old_stays g c =
    keeps_indexes c.an_index_depends_on_its_lebs_alone.ensures (g.V.Volume.state c.args.volume.now) (g.V.Volume.state c.write_leb.new.volume) (c.args.lnum ∷ []) c.write_leb.ensures.works

pub returns-in_err-leb-clause-works : goal.returns-in_err-leb-clause-works
returns-in_err-leb-clause-works g c = (none_works (g.V.Volume.state c.args.volume.now) (c.args.lnum ∷ []), Leaves-none (g.V.Volume.state c.args.volume.now) _)

pub returns-in_err-offs-clause-works : goal.returns-in_err-offs-clause-works
returns-in_err-offs-clause-works g c = (c.write_leb.ensures.works, c.write_leb.ensures.left)

pub returns-clause-works : goal.returns-clause-works
returns-clause-works g c = (c.write_leb.ensures.works, c.write_leb.ensures.left)

pub returns-in_err-buffer-clause-standing : goal.returns-in_err-buffer-clause-standing
returns-in_err-buffer-clause-standing g c = λ other. (
  none_standing (g.V.Volume.state c.args.volume.now) (c.args.lnum ∷ []) c.args.index.now c.args.sqnum.now,
  idle_leb (raw_of c.args.geometry.now) (g.V.Volume.state c.args.volume.now) c.args.lnum c.args.index.now c.args.sqnum.now,
)

pub returns-in_err-buffer-clause-index : goal.returns-in_err-buffer-clause-index
returns-in_err-buffer-clause-index g c = index_none c.places_are_kept.ensures.none (room_in c.args.lnum (index_node_len (raw_of c.args.geometry.now)) 0) c.args.index.now c.args.sqnum.now

pub returns-in_err-buffer-clause-works : goal.returns-in_err-buffer-clause-works
returns-in_err-buffer-clause-works g c = (none_works (g.V.Volume.state c.args.volume.now) (c.args.lnum ∷ []), Leaves-none (g.V.Volume.state c.args.volume.now) _)
