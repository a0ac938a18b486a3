use Rattle.fs_model.specs.Change.{apply}
use Rattle.buffered_files.specs.Present.{present}
use Rattle.std.proofs.Common.{inl}
use Rattle.vfs_ops.proofs.Orphaning.{group_fits_list, keeps_alike}
use Rattle.vfs_ops.proofs.Takes.{alike_sound}
use Rattle.vfs_ops.proofs.apply.apply_over.Goals as goal

pub returns-in-Ok-clause-ready : goal.returns-in-Ok-clause-ready
returns-in-Ok-clause-ready g c =
    let files = present (g.B.Backing.state c.args.backing.now).tree c.args.kept.now in
    let tree = (g.B.Backing.state c.apply_group.new.backing).tree in
    let kept = c.apply_group.new.kept in
    record {
      kept_fits = c.apply_group.ensures.kept;
      paid = c.apply_group.ensures.paid;
      sound = alike_sound (record files { tree = apply files.tree c.args.group.now }) (present tree kept) c.in-Ok.ensures.ok (c.present_files_are_sound.ensures.proper tree kept c.apply_group.ensures.kept) c.requires.sound;
    }

pub returns-in-Err-clause-ready : goal.returns-in-Err-clause-ready
returns-in-Err-clause-ready g c =
    let files = present (g.B.Backing.state c.args.backing.now).tree c.args.kept.now in
    let tree = (g.B.Backing.state c.apply_group.new.backing).tree in
    let kept = c.apply_group.new.kept in
    record {
      kept_fits = c.apply_group.ensures.kept;
      paid = c.apply_group.ensures.paid;
      sound = alike_sound files (present tree kept) c.in-Err.ensures.same (c.present_files_are_sound.ensures.proper tree kept c.apply_group.ensures.kept) c.requires.ready.sound;
    }

pub returns-in-Ok-clause-list : goal.returns-in-Ok-clause-list
returns-in-Ok-clause-list g c =
    let old = g.B.Backing.state c.args.backing.now in
    let new = g.B.Backing.state c.apply_group.new.backing in
    let kept = c.apply_group.new.kept in
    let many = c.present_files_are_sound.ensures.nameless in
    group_fits_list old new (present old.tree c.args.kept.now) (present new.tree kept) c.args.group.now (many old.tree c.args.kept.now c.requires.ready.kept_fits) (many new.tree kept c.apply_group.ensures.kept) c.apply_group.ensures.closed c.requires.orphans c.in-Ok.ensures.ok

pub returns-in-Err-clause-list : goal.returns-in-Err-clause-list
returns-in-Err-clause-list g c =
    let old = g.B.Backing.state c.args.backing.now in
    let new = g.B.Backing.state c.apply_group.new.backing in
    let kept = c.apply_group.new.kept in
    let many = c.present_files_are_sound.ensures.nameless in
    inl (keeps_alike old new (present old.tree c.args.kept.now) (present new.tree kept) (many old.tree c.args.kept.now c.requires.ready.kept_fits) (many new.tree kept c.apply_group.ensures.kept) c.apply_group.ensures.closed c.in-Err.ensures.same)
