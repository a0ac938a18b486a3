use Rattle.std.proofs.Common.{rules, inl, false, refl, ℕ, ◌+◌, ◌*◌, length, sym, ◌∙◌, subst, arith}
use Rattle.std.specs.Prelude.{fold}
use Rattle.bud_log.specs.Buds.{named_also, buds_of}
use Rattle.bud_log.specs.Log.{next_leb}
use Rattle.ubi_volume.specs.FrameLaws.{Works-on}
use Rattle.bud_log.specs.LogAt.{LogAt, IsWithin, starting, padded_room_of, references_to}
use Rattle.bud_log.specs.LogAnswers.{StartsWith, IsSection}
use Rattle.bud_log.specs.LogText.{StartsCommit}
use Rattle.bud_log.specs.LogCalls.{AddDuring}
use Rattle.bud_log.specs.Writing.{AreOthersOlder, IsLogReady}
use Rattle.bud_log.proofs.OneBud.{start_in, free_of, section_moment}
use Rattle.bud_log.proofs.Sections.{started_section}
use Rattle.bud_log.proofs.Steps.{within_started}
use Rattle.bud_log.proofs.log.Log.start_section.Goals as goal

pub returns-in_err-write_section-clause-any_moment : goal.returns-in_err-write_section-clause-any_moment
returns-in_err-write_section-clause-any_moment g c = λ from buds start h.
    let a = g.V.Volume.state c.args.volume.now in
    let b = g.V.Volume.state c.write_section.new.volume in
    let at = c.args.self.now in
    section_moment c.one_node.ensures a b at from c.args.sqnum.now (padded_room_of at.geo.min_io (32 + 64 * length c.args.heads.now)) c.args.cmt_no buds c.args.heads.now c.requires.at c.requires.kept start (g.met.V.Volume.mapped_now c.args.volume.now) c.write_section.ensures.spelled c.write_section.ensures.works h

pub returns-clause-done : goal.returns-clause-done
returns-clause-done g c = λ from buds start h.
    let a = g.V.Volume.state c.args.volume.now in
    let b = g.V.Volume.state c.write_section.new.volume in
    let at = c.args.self.now in
    let next : ℕ = c.args.sqnum.now + (1 + length c.args.heads.now) in
    let P : LogAt → Type 0 = λ z. IsLogReady b z.geo from z.lnum z.offs next (fold named_also buds (references_to c.args.heads.now)) in
    subst P (sym (c.self.view_is ∙ c.in_ok-write_section.ensures.moved)) (c.in_ok-write_section.ensures.done from next buds (start_in a at from c.requires.at start) (free_of a at from c.requires.at start c.requires.kept) (omega arith) h)

pub returns-clause-section : goal.returns-clause-section
returns-clause-section g c = λ older.
    let b = g.V.Volume.state c.write_section.new.volume in
    let next : ℕ = c.args.sqnum.now + (1 + length c.args.heads.now) in
    let P : LogAt → Type 0 = λ z. IsLogReady b z.geo z.lnum z.lnum z.offs next (buds_of (references_to c.args.heads.now)) in
    subst P (sym (c.self.view_is ∙ c.in_ok-write_section.ensures.moved)) (c.in_ok-write_section.ensures.section next (omega arith) older)

pub returns-clause-started : goal.returns-clause-started
returns-clause-started g c =
    let b = g.V.Volume.state c.write_section.new.volume in
    let at = c.args.self.now in
    let moved = c.self.view_is ∙ c.in_ok-write_section.ensures.moved in
    let C : LogAt → Type 0 = λ z. StartsCommit (b.holds z.lnum) z.lnum c.args.cmt_no in
    let S : LogAt → Type 0 = λ z. StartsWith (b.holds z.lnum) z.lnum (c.args.sqnum.now + 1) in
    let W : LogAt → Type 0 = λ z. IsWithin (starting z z.lnum z.offs) in
    record {
      commit = subst C (sym moved) c.in_ok-write_section.ensures.commit;
      starts = subst S (sym moved) c.in_ok-write_section.ensures.starts;
      moved = search rules;
      at = search rules;
      within = λ room. subst W (sym moved)
          (within_started at (padded_room_of at.geo.min_io (32 + 64 * length c.args.heads.now)) c.requires.at.first c.requires.at.here (free_of (g.V.Volume.state c.args.volume.now) at at.first c.requires.at (inl refl) c.requires.kept) room);
      section = λ older.
          let a = g.V.Volume.state c.args.volume.now in
          let room = padded_room_of at.geo.min_io (32 + 64 * length c.args.heads.now) in
          let there = next_leb at.geo at.lnum in
          let P : LogAt → Type 0 = λ z. AreOthersOlder a at.geo z.lnum c.args.sqnum.now → IsSection b (starting z z.lnum z.offs) c.args.sqnum.now in
          subst P (sym moved) (started_section a b at c.args.sqnum.now room there (AddDuring false a at room) c.in_ok-write_section.ensures.starts c.write_section.ensures.works) older;
    }

pub returns-clause-any_moment : goal.returns-clause-any_moment
returns-clause-any_moment g c = λ from buds start h.
    let a = g.V.Volume.state c.args.volume.now in
    let b = g.V.Volume.state c.write_section.new.volume in
    let at = c.args.self.now in
    section_moment c.one_node.ensures a b at from c.args.sqnum.now (padded_room_of at.geo.min_io (32 + 64 * length c.args.heads.now)) c.args.cmt_no buds c.args.heads.now c.requires.at c.requires.kept start (g.met.V.Volume.mapped_now c.args.volume.now) c.write_section.ensures.spelled c.write_section.ensures.works h

pub returns-clause-works : goal.returns-clause-works
returns-clause-works g c =
    let a = g.V.Volume.state c.args.volume.now in
    let at = c.args.self.now in
    Works-on a (g.V.Volume.state c.write_section.new.volume) (next_leb at.geo at.lnum) (AddDuring false a at (padded_room_of at.geo.min_io (32 + 64 * length c.args.heads.now))) c.write_section.ensures.works

pub returns-in_err-write_section-clause-works : goal.returns-in_err-write_section-clause-works
returns-in_err-write_section-clause-works g c =
    let a = g.V.Volume.state c.args.volume.now in
    let at = c.args.self.now in
    Works-on a (g.V.Volume.state c.write_section.new.volume) (next_leb at.geo at.lnum) (AddDuring false a at (padded_room_of at.geo.min_io (32 + 64 * length c.args.heads.now))) c.write_section.ensures.works
