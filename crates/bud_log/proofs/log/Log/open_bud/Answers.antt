use Rattle.std.proofs.Common.{◌≡◌, ◌+◌, inr, refl, rules, ℕ, Bool, false, List, [], ◌∷◌, sym, subst}
use Rattle.std.specs.Prelude.{◌≢◌}
use Rattle.ubi_volume.specs.Volume.{ChangeUnderWay}
use Rattle.media_sys.specs.SystemNode.{reference}
use Rattle.media_sys.specs.declared.ref_node.RefNode.{RefNode}
use Rattle.bud_log.specs.Buds.{named_also}
use Rattle.bud_log.specs.Log.{IsLogLeb, next_leb}
use Rattle.bud_log.specs.LogAnswers.{StartsWith, IsSection}
use Rattle.bud_log.specs.LogAt.{LogAt, IsWithin, has_room, ending, lnum_at, padded_room_of, offs_at, next_lnum, next_offs}
use Rattle.bud_log.specs.LogCalls.{AddDuring, OpenUnderWay}
use Rattle.bud_log.specs.Writing.{IsLogReady, IsOldOrMeant}
use Rattle.bud_log.proofs.OneBud.{main_out, start_in, free_of, bud_moment, first_works, log_same, both_works, both_moment, emptied_still}
use Rattle.bud_log.proofs.Opened.{bud_ready}
use Rattle.bud_log.proofs.Sections.{opened_section}
use Rattle.bud_log.proofs.Steps.{within_opened}
use Rattle.bud_log.proofs.log.Log.open_bud.Goals as goal

pub returns-in_err-clear_bud-clause-any_moment : goal.returns-in_err-clear_bud-clause-any_moment
returns-in_err-clear_bud-clause-any_moment g c = λ from buds start h.
    let a = g.V.Volume.state c.args.volume.now in
    let at = c.args.self.now in
    let node : RefNode = record { lnum = c.args.lnum; offs = 0; head = c.args.head } in
    bud_moment a (g.V.Volume.state c.clear_bud.new.volume) at from c.args.sqnum.now buds node (λ left. IsOldOrMeant a (next_lnum at) (next_offs at) c.args.sqnum.now (reference node ∷ []) (left (next_lnum at))) (ChangeUnderWay a c.args.lnum [])
    c.requires.at start c.requires.main h c.clear_bud.ensures.works

pub returns-in_err-clear_bud-clause-works : goal.returns-in_err-clear_bud-clause-works
returns-in_err-clear_bud-clause-works g c =
    let at = c.args.self.now in
    first_works c.has_room-here.result (g.V.Volume.state c.args.volume.now) (g.V.Volume.state c.clear_bud.new.volume) at c.args.lnum (padded_room_of at.geo.min_io 64) c.requires.at c.has_room-here.ensures c.requires.main c.clear_bud.ensures.works

pub returns-in_err-clear_bud-clause-answered : goal.returns-in_err-clear_bud-clause-answered
returns-in_err-clear_bud-clause-answered g c =
    let same = log_same c.has_room-here.result (g.V.Volume.state c.args.volume.now) (g.V.Volume.state c.clear_bud.new.volume) c.args.self.now c.args.lnum (ChangeUnderWay (g.V.Volume.state c.args.volume.now) c.args.lnum []) c.requires.at c.has_room-here.ensures c.requires.main c.clear_bud.ensures.works in
    search rules

pub returns-in_err-write_reference-clause-any_moment : goal.returns-in_err-write_reference-clause-any_moment
returns-in_err-write_reference-clause-any_moment g c = λ from buds start h.
    let a = g.V.Volume.state c.args.volume.now in
    let b = g.V.Volume.state c.clear_bud.new.volume in
    let e = g.V.Volume.state c.write_reference.new.volume in
    let at = c.args.self.now in
    let node : RefNode = record { lnum = c.args.lnum; offs = 0; head = c.args.head } in
    both_moment c.one_node.ensures c.has_room-here.result a b e at from c.args.sqnum.now (padded_room_of at.geo.min_io 64) buds node c.requires.at c.has_room-here.ensures (c.is_full.ensures.kept c.if-is_full.false) c.requires.main start
    (g.met.V.Volume.mapped_now c.args.volume.now) c.write_reference.ensures.spelled c.clear_bud.ensures.shape.leb_size c.in_ok-clear_bud.ensures.done c.clear_bud.ensures.works c.write_reference.ensures.works h

pub returns-in_err-write_reference-clause-works : goal.returns-in_err-write_reference-clause-works
returns-in_err-write_reference-clause-works g c =
    let a = g.V.Volume.state c.args.volume.now in
    let b = g.V.Volume.state c.clear_bud.new.volume in
    let e = g.V.Volume.state c.write_reference.new.volume in
    let at = c.args.self.now in
    both_works c.has_room-here.result a b e at c.args.lnum (padded_room_of at.geo.min_io 64) c.requires.at c.has_room-here.ensures c.requires.main c.clear_bud.ensures.shape.leb_size c.in_ok-clear_bud.ensures.done c.clear_bud.ensures.works c.write_reference.ensures.works

pub returns-clause-done : goal.returns-clause-done
returns-clause-done g c = λ from buds start h.
    let a = g.V.Volume.state c.args.volume.now in
    let b = g.V.Volume.state c.clear_bud.new.volume in
    let e = g.V.Volume.state c.write_reference.new.volume in
    let at = c.args.self.now in
    let node : RefNode = record { lnum = c.args.lnum; offs = 0; head = c.args.head } in
    let f = start_in a at from c.requires.at start in
    let kept = c.is_full.ensures.kept c.if-is_full.false in
    let ready = bud_ready a b at.geo from at.lnum at.offs c.args.sqnum.now c.args.lnum buds (ChangeUnderWay a c.args.lnum []) h f (main_out at.geo c.args.lnum c.requires.main) c.clear_bud.ensures.works in
    let P : LogAt → Type 0 = λ z. IsLogReady e z.geo from z.lnum z.offs (c.args.sqnum.now + 1) (named_also buds node) in
    subst P (sym c.in_ok-write_reference.ensures.moved) (c.in_ok-write_reference.ensures.done from buds f (λ r. free_of a at from c.requires.at start (kept r)) ready)

pub returns-clause-any_moment : goal.returns-clause-any_moment
returns-clause-any_moment g c = λ from buds start h.
    let a = g.V.Volume.state c.args.volume.now in
    let b = g.V.Volume.state c.clear_bud.new.volume in
    let e = g.V.Volume.state c.write_reference.new.volume in
    let at = c.args.self.now in
    let node : RefNode = record { lnum = c.args.lnum; offs = 0; head = c.args.head } in
    both_moment c.one_node.ensures c.has_room-here.result a b e at from c.args.sqnum.now (padded_room_of at.geo.min_io 64) buds node c.requires.at c.has_room-here.ensures (c.is_full.ensures.kept c.if-is_full.false) c.requires.main start
    (g.met.V.Volume.mapped_now c.args.volume.now) c.write_reference.ensures.spelled c.clear_bud.ensures.shape.leb_size c.in_ok-clear_bud.ensures.done c.clear_bud.ensures.works c.write_reference.ensures.works h

pub returns-clause-works : goal.returns-clause-works
returns-clause-works g c =
    let a = g.V.Volume.state c.args.volume.now in
    let b = g.V.Volume.state c.clear_bud.new.volume in
    let e = g.V.Volume.state c.write_reference.new.volume in
    let at = c.args.self.now in
    both_works c.has_room-here.result a b e at c.args.lnum (padded_room_of at.geo.min_io 64) c.requires.at c.has_room-here.ensures c.requires.main c.clear_bud.ensures.shape.leb_size c.in_ok-clear_bud.ensures.done c.clear_bud.ensures.works c.write_reference.ensures.works

pub returns-clause-opened : goal.returns-clause-opened
returns-clause-opened g c =
    let a = g.V.Volume.state c.args.volume.now in
    let b = g.V.Volume.state c.clear_bud.new.volume in
    let e = g.V.Volume.state c.write_reference.new.volume in
    let at = c.args.self.now in
    let here = c.has_room-here.result in
    let room = padded_room_of at.geo.min_io 64 in
    let done = c.in_ok-write_reference.ensures in
    let M : Bool → Type 0 = λ r. c.write_reference.new.self ≡ ending at (lnum_at r at) (offs_at r at + room) in
    let W : LogAt → Type 0 = λ z. IsWithin z in
    let kept = c.is_full.ensures.kept c.if-is_full.false in
    let free : here ≡ false → next_leb at.geo at.lnum ≢ at.section = λ r. free_of a at at.section c.requires.at (inr refl) (kept r) in
    let works = both_works here a b e at c.args.lnum room c.requires.at c.has_room-here.ensures c.requires.main c.clear_bud.ensures.shape.leb_size c.in_ok-clear_bud.ensures.done c.clear_bud.ensures.works c.write_reference.ensures.works in
    record {
      emptied = emptied_still here a b e at c.args.lnum (AddDuring here b at room) c.requires.at c.requires.main c.in_ok-clear_bud.ensures.done c.write_reference.ensures.works;
      moved = subst M c.has_room-here.ensures done.moved;
      at = done.at;
      within = λ h. subst W (sym done.moved) (within_opened here at (offs_at here at + room) c.has_room-here.ensures c.requires.at.first c.requires.at.here (c.is_full.ensures.no c.if-is_full.false) h);
      section = λ number low buds h section.
          let in_log = c.requires.at.section in
          let out = main_out at.geo c.args.lnum c.requires.main in
          let ready = bud_ready a b at.geo at.section at.lnum at.offs number c.args.lnum buds (ChangeUnderWay a c.args.lnum []) h in_log out c.clear_bud.ensures.works in
          let F : List ℕ → Type 0 = λ leb. StartsWith leb at.section (low + 1) in
          let L : ℕ → Type 0 = λ n. IsLogLeb at.geo n in
          let starts = subst F (sym (c.clear_bud.ensures.works.others at.section (λ same. out (subst L same in_log)))) section.starts in
          let S : LogAt → Type 0 = λ z. IsSection e z low in
          subst S (sym done.moved) (opened_section here a e at low c.args.lnum (offs_at here at + room) (OpenUnderWay (has_room at) a at c.args.lnum room) c.has_room-here.ensures in_log c.requires.at.here free c.requires.main works (done.section at.section number (low + 1) buds in_log free ready starts) section);
    }
