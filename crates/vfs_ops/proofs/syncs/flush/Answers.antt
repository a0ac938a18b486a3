use Rattle.std.proofs.Common.{◌*◌, Err, length, rules}
use Rattle.buffered_files.specs.CallLaws.{Sure-then}
use Rattle.buffered_files.specs.Present.{present}
use Rattle.vfs_ops.proofs.Cutting.{cut_nothing}
use Rattle.vfs_ops.proofs.Flushing.{goes_on}
use Rattle.vfs_ops.proofs.Held.{closed_still, issued_still, kept_still, no_more, paid_still, same_still, stopped_then}
use Rattle.vfs_ops.proofs.Takes.{alike_sound, sound_on}
use Rattle.fs_model.specs.declared.reply.Reply.{Reply}
use Rattle.vfs_ops.proofs.Weighing.{before_look, never, refused_wider}
use Rattle.vfs_ops.proofs.syncs.flush.Goals as goal

pub returns-in_err-put_all-clause-sound : goal.returns-in_err-put_all-clause-sound
returns-in_err-put_all-clause-sound g c =
    let later = (g.B.Backing.state c.put_all.new.backing).tree in
    let kept = c.put_all.new.kept in
    let before = present (g.B.Backing.state c.args.backing.now).tree c.args.kept.now in
    let sound = alike_sound before (present later kept) c.put_all.ensures.same (c.present_files_are_sound.ensures.proper later kept c.put_all.ensures.kept) c.requires.sound in
    sound

pub returns-in_err-sync-clause-sound : goal.returns-in_err-sync-clause-sound
returns-in_err-sync-clause-sound g c =
    let later = (g.B.Backing.state c.put_all.new.backing).tree in
    let kept = c.put_all.new.kept in
    let before = present (g.B.Backing.state c.args.backing.now).tree c.args.kept.now in
    let sound = alike_sound before (present later kept) c.put_all.ensures.same (c.present_files_are_sound.ensures.proper later kept c.put_all.ensures.kept) c.requires.sound in
    sound_on (g.B.Backing.state c.sync.new.backing).tree later kept c.sync.ensures.files.tree sound

pub returns-clause-sound : goal.returns-clause-sound
returns-clause-sound g c =
    let later = (g.B.Backing.state c.put_all.new.backing).tree in
    let kept = c.put_all.new.kept in
    let before = present (g.B.Backing.state c.args.backing.now).tree c.args.kept.now in
    let sound = alike_sound before (present later kept) c.put_all.ensures.same (c.present_files_are_sound.ensures.proper later kept c.put_all.ensures.kept) c.requires.sound in
    sound_on (g.B.Backing.state c.sync.new.backing).tree later kept c.sync.ensures.files.tree sound

pub returns-in_err-sync-clause-goes : goal.returns-in_err-sync-clause-goes
returns-in_err-sync-clause-goes g c = goes_on (2 * length c.args.kept.now.pages.dirty) (g.B.Backing.state c.args.backing.now) (g.B.Backing.state c.put_all.new.backing) (g.B.Backing.state c.sync.new.backing) c.put_all.ensures.goes c.sync.ensures.goes

pub returns-clause-goes : goal.returns-clause-goes
returns-clause-goes g c = goes_on (2 * length c.args.kept.now.pages.dirty) (g.B.Backing.state c.args.backing.now) (g.B.Backing.state c.put_all.new.backing) (g.B.Backing.state c.sync.new.backing) c.put_all.ensures.goes c.sync.ensures.goes

pub returns-in_err-put_all-clause-grows : goal.returns-in_err-put_all-clause-grows
returns-in_err-put_all-clause-grows g c =
    let f = refused_wider (Unit {0}) Reply 0 0 2 2 c.in_err-put_all.field-0.0 (g.B.Backing.state c.args.backing.now) (g.B.Backing.state c.put_all.new.backing) c.args.kept.now c.put_all.new.kept (no_more 2) c.in_err-put_all.ensures.grows in
    search (rules, f)

pub returns-in_err-sync-clause-grows : goal.returns-in_err-sync-clause-grows
returns-in_err-sync-clause-grows g c =
    let none = before_look 0 (g.B.Backing.state c.args.backing.now) (g.B.Backing.state c.put_all.new.backing) (g.B.Backing.state c.sync.new.backing) c.args.kept.now c.put_all.new.kept c.put_all.new.kept c.in_ok-put_all.ensures.grows c.sync.ensures.goes (no_more (length c.put_all.new.kept.pages.dirty)) in
    let f = never {T = Reply} 0 2 (Err c.in_err-sync.field-0.0) (g.B.Backing.state c.args.backing.now) (g.B.Backing.state c.sync.new.backing) c.args.kept.now c.put_all.new.kept none in
    search (rules, f)

pub returns-clause-grows : goal.returns-clause-grows
returns-clause-grows g c = before_look 0 (g.B.Backing.state c.args.backing.now) (g.B.Backing.state c.put_all.new.backing) (g.B.Backing.state c.sync.new.backing) c.args.kept.now c.put_all.new.kept c.put_all.new.kept c.in_ok-put_all.ensures.grows c.sync.ensures.goes (no_more (length c.put_all.new.kept.pages.dirty))

pub returns-in_err-sync-clause-closed : goal.returns-in_err-sync-clause-closed
returns-in_err-sync-clause-closed g c = closed_still (g.B.Backing.state c.args.backing.now) (g.B.Backing.state c.put_all.new.backing) (g.B.Backing.state c.sync.new.backing) c.put_all.ensures.closed c.sync.ensures.files.closed

pub returns-clause-closed : goal.returns-clause-closed
returns-clause-closed g c = closed_still (g.B.Backing.state c.args.backing.now) (g.B.Backing.state c.put_all.new.backing) (g.B.Backing.state c.sync.new.backing) c.put_all.ensures.closed c.sync.ensures.files.closed

pub returns-in_err-sync-clause-cut : goal.returns-in_err-sync-clause-cut
returns-in_err-sync-clause-cut g c = cut_nothing (g.B.Backing.state c.args.backing.now) (g.B.Backing.state c.put_all.new.backing) (g.B.Backing.state c.sync.new.backing) c.args.kept.now c.put_all.ensures.cut c.sync.ensures.cut

pub returns-clause-cut : goal.returns-clause-cut
returns-clause-cut g c = cut_nothing (g.B.Backing.state c.args.backing.now) (g.B.Backing.state c.put_all.new.backing) (g.B.Backing.state c.sync.new.backing) c.args.kept.now c.put_all.ensures.cut c.sync.ensures.cut

pub returns-in_err-sync-clause-kept : goal.returns-in_err-sync-clause-kept
returns-in_err-sync-clause-kept g c = kept_still (g.B.Backing.state c.put_all.new.backing) (g.B.Backing.state c.sync.new.backing) c.put_all.new.kept c.sync.ensures.files c.put_all.ensures.kept

pub returns-in_err-sync-clause-paid : goal.returns-in_err-sync-clause-paid
returns-in_err-sync-clause-paid g c = paid_still (g.B.Backing.state c.put_all.new.backing) (g.B.Backing.state c.sync.new.backing) (length c.put_all.new.kept.pages.dirty) c.sync.ensures.files c.put_all.ensures.paid

pub returns-in_err-sync-clause-issued : goal.returns-in_err-sync-clause-issued
returns-in_err-sync-clause-issued g c = issued_still (g.B.Backing.state c.args.backing.now) (g.B.Backing.state c.put_all.new.backing) (g.B.Backing.state c.sync.new.backing) (length c.args.kept.now.pages.dirty) (length c.put_all.new.kept.pages.dirty) c.sync.ensures.files c.put_all.ensures.issued

pub returns-in_err-sync-clause-same : goal.returns-in_err-sync-clause-same
returns-in_err-sync-clause-same g c = same_still (g.B.Backing.state c.put_all.new.backing) (g.B.Backing.state c.sync.new.backing) (present (g.B.Backing.state c.args.backing.now).tree c.args.kept.now) c.put_all.new.kept c.sync.ensures.files c.put_all.ensures.same

pub returns-in_err-sync-clause-sure : goal.returns-in_err-sync-clause-sure
returns-in_err-sync-clause-sure g c = Sure-then (g.B.Backing.outlook c.args.backing.now) (g.B.Backing.outlook c.put_all.new.backing) (g.B.Backing.outlook c.sync.new.backing) (g.B.Backing.state c.args.backing.now) (g.B.Backing.state c.put_all.new.backing) (g.B.Backing.state c.sync.new.backing) c.put_all.ensures.sure c.sync.ensures.sure

pub returns-clause-kept : goal.returns-clause-kept
returns-clause-kept g c = kept_still (g.B.Backing.state c.put_all.new.backing) (g.B.Backing.state c.sync.new.backing) c.put_all.new.kept c.sync.ensures.files c.put_all.ensures.kept

pub returns-clause-paid : goal.returns-clause-paid
returns-clause-paid g c = paid_still (g.B.Backing.state c.put_all.new.backing) (g.B.Backing.state c.sync.new.backing) (length c.put_all.new.kept.pages.dirty) c.sync.ensures.files c.put_all.ensures.paid

pub returns-clause-issued : goal.returns-clause-issued
returns-clause-issued g c = issued_still (g.B.Backing.state c.args.backing.now) (g.B.Backing.state c.put_all.new.backing) (g.B.Backing.state c.sync.new.backing) (length c.args.kept.now.pages.dirty) (length c.put_all.new.kept.pages.dirty) c.sync.ensures.files c.put_all.ensures.issued

pub returns-clause-same : goal.returns-clause-same
returns-clause-same g c = same_still (g.B.Backing.state c.put_all.new.backing) (g.B.Backing.state c.sync.new.backing) (present (g.B.Backing.state c.args.backing.now).tree c.args.kept.now) c.put_all.new.kept c.sync.ensures.files c.put_all.ensures.same

pub returns-clause-sure : goal.returns-clause-sure
returns-clause-sure g c = Sure-then (g.B.Backing.outlook c.args.backing.now) (g.B.Backing.outlook c.put_all.new.backing) (g.B.Backing.outlook c.sync.new.backing) (g.B.Backing.state c.args.backing.now) (g.B.Backing.state c.put_all.new.backing) (g.B.Backing.state c.sync.new.backing) c.put_all.ensures.sure c.sync.ensures.sure

pub returns-in_err-sync-clause-refused : goal.returns-in_err-sync-clause-refused
returns-in_err-sync-clause-refused g c =
    let refused = stopped_then (2 * length c.args.kept.now.pages.dirty) (g.B.Backing.state c.args.backing.now) (g.B.Backing.state c.put_all.new.backing) (g.B.Backing.state c.sync.new.backing) c.in_err-sync.field-0.0 c.put_all.ensures.goes c.in_err-sync.ensures.refused in
    search (rules, refused)
