use Rattle.buffered_files.specs.Present.{present}
use Rattle.vfs_ops.specs.Steps.{Passage}
use Rattle.vfs_ops.proofs.Picking.{there}
use Rattle.vfs_ops.proofs.Placing.{placed, put_weighed, unplaced}
use Rattle.vfs_ops.proofs.Orphaning.{keeps_alike}
use Rattle.vfs_ops.proofs.Takes.{alike_sound}
use Rattle.vfs_ops.proofs.pages.put_open.Goals as goal

pub returns-in-Ok-clause-put : goal.returns-in-Ok-clause-put
returns-in-Ok-clause-put g c =
    let p : Passage = record { old = g.B.Backing.state c.args.backing.now; new = g.B.Backing.state c.put_ticket.new.backing; before = c.args.kept.now; after = c.put_ticket.new.kept } in
    let t = there c.args.kept.now c.args.page.now c.requires.current in
    let e = c.in-Ok.ensures in
    placed p c.args.page.now t _ (e.placed t.current t.node t.found) c.requires.current e.put e.pages e.inodes e.handles

pub returns-in-Err-clause-put : goal.returns-in-Err-clause-put
returns-in-Err-clause-put g c =
    let p : Passage = record { old = g.B.Backing.state c.args.backing.now; new = g.B.Backing.state c.put_ticket.new.backing; before = c.args.kept.now; after = c.put_ticket.new.kept } in
    let t = there c.args.kept.now c.args.page.now c.requires.current in
    let e = c.in-Err.ensures in
    unplaced p c.args.page.now t.node c.in-Err.fault t.found (e.placed t.current t.node t.found) c.requires.current e.err e.cause c.requires.open

pub returns-in-Ok-clause-ready : goal.returns-in-Ok-clause-ready
returns-in-Ok-clause-ready g c =
    let tree = (g.B.Backing.state c.put_ticket.new.backing).tree in
    let kept = c.put_ticket.new.kept in
    let e = c.put_ticket.ensures in
    record {
      kept_fits = e.kept;
      paid = e.paid;
      sound = alike_sound (present (g.B.Backing.state c.args.backing.now).tree c.args.kept.now) (present tree kept) e.same (c.present_files_are_sound.ensures.proper tree kept e.kept) c.requires.ready.sound;
    }

pub returns-in-Err-clause-ready : goal.returns-in-Err-clause-ready
returns-in-Err-clause-ready g c =
    let tree = (g.B.Backing.state c.put_ticket.new.backing).tree in
    let kept = c.put_ticket.new.kept in
    let e = c.put_ticket.ensures in
    record {
      kept_fits = e.kept;
      paid = e.paid;
      sound = alike_sound (present (g.B.Backing.state c.args.backing.now).tree c.args.kept.now) (present tree kept) e.same (c.present_files_are_sound.ensures.proper tree kept e.kept) c.requires.ready.sound;
    }

pub returns-in-Err-clause-weighed : goal.returns-in-Err-clause-weighed
returns-in-Err-clause-weighed g c =
    put_weighed c.args.page.now c.in-Err.fault (g.B.Backing.state c.args.backing.now) (g.B.Backing.state c.put_ticket.new.backing) c.args.kept.now c.put_ticket.new.kept c.in-Err.ensures.grows

pub returns-in-Ok-clause-orphans : goal.returns-in-Ok-clause-orphans
returns-in-Ok-clause-orphans g c =
    let old = g.B.Backing.state c.args.backing.now in
    let new = g.B.Backing.state c.put_ticket.new.backing in
    let kept = c.put_ticket.new.kept in
    keeps_alike old new (present old.tree c.args.kept.now) (present new.tree kept) (c.present_files_are_sound.ensures.nameless old.tree c.args.kept.now c.requires.ready.kept_fits) (c.present_files_are_sound.ensures.nameless new.tree kept c.put_ticket.ensures.kept)
    c.put_ticket.ensures.closed c.put_ticket.ensures.same

pub returns-in-Err-clause-orphans : goal.returns-in-Err-clause-orphans
returns-in-Err-clause-orphans g c =
    let old = g.B.Backing.state c.args.backing.now in
    let new = g.B.Backing.state c.put_ticket.new.backing in
    let kept = c.put_ticket.new.kept in
    keeps_alike old new (present old.tree c.args.kept.now) (present new.tree kept) (c.present_files_are_sound.ensures.nameless old.tree c.args.kept.now c.requires.ready.kept_fits) (c.present_files_are_sound.ensures.nameless new.tree kept c.put_ticket.ensures.kept)
    c.put_ticket.ensures.closed c.put_ticket.ensures.same
