use Rattle.std.proofs.Common.{rules, ◌≡◌, ◌≤◌, ℕ, ap, ◌∙◌, subst, arith, length, true}
use Rattle.std.specs.Int.{div_ceil}
use Rattle.ubifs_base.specs.Geometry.{index_nodes_per_leb}
use Rattle.ubifs_base.specs.RawOf.{raw_of}
use Rattle.index_tree.specs.Shape.{Shape, fits}
use Rattle.index_media.specs.KeyedRow.{bare}
use Rattle.index_cache.specs.Paged.{dirty_of, fanout_of, frozen_of}
use Rattle.ubi_volume.specs.VolumeLaws.{Leaves-none}
use Rattle.index_commit.specs.Answers.{IsIndexNotFailed}
use Rattle.index_commit.proofs.Committed.{index_at, lebs_suffice, some_nodes}
use Rattle.index_commit.proofs.Laid.{index_none}
use Rattle.index_commit.proofs.Lebs.{keeps_indexes, none_standing, none_works, written_standing}
use Rattle.index_commit.proofs.HeldLebs.{idle_lebs}
use Rattle.index_commit.specs.Ordered.{AreKeysInOrder, IsNotEqualKeys}
use Rattle.index_commit.specs.Rooms.{taken_room}
use Rattle.index_commit.proofs.Ordered.{never_equal}
use Rattle.index_commit.proofs.Rooming.{ended}
use Rattle.index_commit.proofs.writing.write_index.Goals as goal

pub returns-then-need-given-clause-standing : goal.returns-then-need-given-clause-standing
returns-then-need-given-clause-standing g c = λ full. (
  none_standing (g.V.Volume.state c.args.volume.now) c.args.lebs.now c.args.index.now c.args.sqnum.now,
  idle_lebs (raw_of c.args.geometry.now) (g.V.Volume.state c.args.volume.now) c.args.lebs.now c.args.index.now c.args.sqnum.now,
)

pub returns-then-need-given-clause-index : goal.returns-then-need-given-clause-index
returns-then-need-given-clause-index g c = index_none c.places_are_kept.ensures.none (taken_room (raw_of c.args.geometry.now) c.args.lebs.now) c.args.index.now c.args.sqnum.now

pub returns-in_err-leb-clause-standing : goal.returns-in_err-leb-clause-standing
returns-in_err-leb-clause-standing g c = λ other. (
  none_standing (g.V.Volume.state c.args.volume.now) c.args.lebs.now c.args.index.now c.args.sqnum.now,
  idle_lebs (raw_of c.args.geometry.now) (g.V.Volume.state c.args.volume.now) c.args.lebs.now c.args.index.now c.args.sqnum.now,
)

pub returns-in_err-leb-clause-index : goal.returns-in_err-leb-clause-index
returns-in_err-leb-clause-index g c = index_none c.places_are_kept.ensures.none (taken_room (raw_of c.args.geometry.now) c.args.lebs.now) c.args.index.now c.args.sqnum.now

pub write_lebs-requires-clause-fits : goal.write_lebs-requires-clause-fits
write_lebs-requires-clause-fits g c =
    let geo = c.args.geometry.now in
    let nodes = length (dirty_of c.args.index.now) in
    let each = index_nodes_per_leb (raw_of geo) in
    let given = length c.args.lebs.now in
    let is : c.div_ceil-need.result ≡ div_ceil nodes each =
    c.div_ceil-need.ensures ∙ ap (λ (n : ℕ). div_ceil n c.index_nodes_per_leb-each.result) c.dirty_nodes.ensures ∙ ap (λ (n : ℕ). div_ceil nodes n) c.index_nodes_per_leb-each.ensures in
    let no = c.if-need-given.false in
    let few : c.div_ceil-need.result ≤ given = omega (arith, no) in
    let P : ℕ → Type 0 = λ n. n ≤ given in
    lebs_suffice nodes each given (some_nodes geo) (subst P is few)

pub returns-in_err-head-clause-old_stays : goal.returns-in_err-head-clause-old_stays
returns-in_err-head-clause-old_stays g c =
    keeps_indexes c.an_index_depends_on_its_lebs_alone.ensures (g.V.Volume.state c.args.volume.now) (g.V.Volume.state c.write_lebs.new.volume) c.args.lebs.now c.write_lebs.ensures.works

pub returns-clause-written : goal.returns-clause-written
returns-clause-written g c =
    let branch = c.frozen_branch.ensures in
    let F : Shape → Type 0 = λ s. fits (fanout_of c.args.index.now) s ≡ true in
    let N : ℕ → Type 0 = λ n. fits n (bare (frozen_of c.write_lebs.new.index)) ≡ true in
    let standing = written_standing (g.V.Volume.state c.args.volume.now) (g.V.Volume.state c.write_lebs.new.volume) c.args.lebs.now c.args.index.now c.write_lebs.new.index c.args.sqnum.now
    c.write_lebs.new.sqnum (c.in_ok-head.ensures.standing tt) in (
      index_at (g.V.Volume.state c.args.volume.now) (g.V.Volume.state c.write_lebs.new.volume) c.args.geometry.now.fanout c.args.sqnum.now c.write_lebs.new.sqnum c.args.lebs.now c.args.index.now
          c.write_lebs.new.index c.frozen_branch.result c.in_ok-head.head c.write_lebs.ensures.index standing c.requires.outside c.in_ok-head.ensures.none c.requires.fanout c.in_ok-head.ensures.clean branch.fits
          branch.whole branch.levels branch.sound.bounded branch.first c.in_ok-head.ensures.head,
      ended (raw_of c.args.geometry.now) c.args.lebs.now c.args.index.now c.write_lebs.new.index c.args.sqnum.now c.write_lebs.new.sqnum c.frozen_branch.result c.in_ok-head.head
          c.write_lebs.ensures.index c.in_ok-head.ensures.none branch.first c.in_ok-head.ensures.end (subst F (c.places_are_kept.ensures.shape (frozen_of c.args.index.now) (frozen_of c.write_lebs.new.index)
          c.write_lebs.ensures.index.kept.frozen) (subst N c.write_lebs.ensures.index.kept.roots.fanout branch.fits)),
    )

pub returns-clause-old_stays : goal.returns-clause-old_stays
returns-clause-old_stays g c =
    keeps_indexes c.an_index_depends_on_its_lebs_alone.ensures (g.V.Volume.state c.args.volume.now) (g.V.Volume.state c.write_lebs.new.volume) c.args.lebs.now c.write_lebs.ensures.works

pub returns-in_err-head-clause-standing : goal.returns-in_err-head-clause-standing
returns-in_err-head-clause-standing g c = λ other.
    let failed : IsIndexNotFailed c.write_lebs.result = search (rules, other) in (
      written_standing (g.V.Volume.state c.args.volume.now) (g.V.Volume.state c.write_lebs.new.volume) c.args.lebs.now c.args.index.now c.write_lebs.new.index c.args.sqnum.now c.write_lebs.new.sqnum
          (c.write_lebs.ensures.standing failed),
      c.write_lebs.ensures.text failed,
    )

pub returns-clause-standing : goal.returns-clause-standing
returns-clause-standing g c = λ done. (
  written_standing (g.V.Volume.state c.args.volume.now) (g.V.Volume.state c.write_lebs.new.volume) c.args.lebs.now c.args.index.now c.write_lebs.new.index c.args.sqnum.now c.write_lebs.new.sqnum
      (c.in_ok-head.ensures.standing tt),
  c.in_ok-head.ensures.text tt,
)

pub returns-in_err-head-clause-answer : goal.returns-in_err-head-clause-answer
returns-in_err-head-clause-answer g c =
    let fine : AreKeysInOrder (frozen_of c.args.index.now) → IsNotEqualKeys c.write_lebs.result =
    λ order. never_equal c.args.index.now c.write_lebs.new.index c.write_lebs.result c.write_lebs.ensures.index.kept.frozen order c.write_lebs.ensures.equal in
    (search rules, search rules, search rules, (λ order. let fact = fine order in search (rules, fact)), search rules)

pub returns-then-need-given-clause-works : goal.returns-then-need-given-clause-works
returns-then-need-given-clause-works g c = (none_works (g.V.Volume.state c.args.volume.now) c.args.lebs.now, Leaves-none (g.V.Volume.state c.args.volume.now) _)

pub returns-in_err-leb-clause-works : goal.returns-in_err-leb-clause-works
returns-in_err-leb-clause-works g c = (none_works (g.V.Volume.state c.args.volume.now) c.args.lebs.now, Leaves-none (g.V.Volume.state c.args.volume.now) _)

pub returns-in_err-head-clause-works : goal.returns-in_err-head-clause-works
returns-in_err-head-clause-works g c = (c.write_lebs.ensures.works, c.write_lebs.ensures.left)

pub returns-clause-works : goal.returns-clause-works
returns-clause-works g c = (c.write_lebs.ensures.works, c.write_lebs.ensures.left)

pub returns-in_err-buffer-clause-standing : goal.returns-in_err-buffer-clause-standing
returns-in_err-buffer-clause-standing g c = λ other. (
  none_standing (g.V.Volume.state c.args.volume.now) c.args.lebs.now c.args.index.now c.args.sqnum.now,
  idle_lebs (raw_of c.args.geometry.now) (g.V.Volume.state c.args.volume.now) c.args.lebs.now c.args.index.now c.args.sqnum.now,
)

pub returns-in_err-buffer-clause-index : goal.returns-in_err-buffer-clause-index
returns-in_err-buffer-clause-index g c = index_none c.places_are_kept.ensures.none (taken_room (raw_of c.args.geometry.now) c.args.lebs.now) c.args.index.now c.args.sqnum.now

pub returns-in_err-buffer-clause-works : goal.returns-in_err-buffer-clause-works
returns-in_err-buffer-clause-works g c = (none_works (g.V.Volume.state c.args.volume.now) c.args.lebs.now, Leaves-none (g.V.Volume.state c.args.volume.now) _)
