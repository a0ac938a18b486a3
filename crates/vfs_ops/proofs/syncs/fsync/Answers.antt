use Rattle.std.proofs.Common.{◌≡◌, ℕ, ◌*◌, Err, false, inl, length, None, Some, Ok, refl, rules, sym, true, ◌∙◌}
use Rattle.fs_model.specs.declared.op.Op.TheVariants.{Fsync}
use Rattle.fs_model.specs.declared.refusal.Refusal.TheVariants.{Ebadf, Einval}
use Rattle.fs_model.specs.declared.reply.Reply.TheVariants.{Done}
use Rattle.fs_model.specs.Files.{Files, handle_at}
use Rattle.fs_model.specs.Handles.{is_bad_slot, synced}
use Rattle.fs_model.specs.Operation.{outcome_of}
use Rattle.buffered_files.specs.CallLaws.{Sure-none, Sure-then}
use Rattle.buffered_files.specs.Present.{dirty_of_others, has_dirty, present}
use Rattle.vfs_ops.proofs.Cutting.{cut_nothing, cut_same}
use Rattle.vfs_ops.proofs.Flushing.{goes_on, same_open}
use Rattle.vfs_ops.proofs.Held.{closed_still, goes_none, grows_none, issued_still, kept_still, no_more, paid_still, same_still, stopped_turned}
use Rattle.vfs_ops.proofs.Looking.{same_looks, stopped_late}
use Rattle.vfs_ops.proofs.Serving.{alike_self}
use Rattle.vfs_ops.proofs.Takes.{alike_sound, sound_on}
use Rattle.fs_model.specs.declared.reply.Reply.{Reply}
use Rattle.vfs_ops.proofs.Weighing.{before_look, never, refused_wider}
use Rattle.vfs_ops.proofs.syncs.fsync.Goals as goal

-- a slot that is open is synced
synced_is : (files : Files) (caller slot ino : ℕ) → is_bad_slot slot ≡ false → handle_at files caller slot ≡ Some ino → synced files caller slot ≡ Ok (Done, files)
synced_is files caller slot ino bad found = rw (bad, found) refl

-- a slot that none may have isn't synced
synced_bad : (files : Files) (caller slot : ℕ) → is_bad_slot slot ≡ true → synced files caller slot ≡ Err Einval
synced_bad files caller slot bad = rw bad refl

-- nor is one that isn't open
synced_unopened : (files : Files) (caller slot : ℕ) → is_bad_slot slot ≡ false → handle_at files caller slot ≡ None → synced files caller slot ≡ Err Ebadf
synced_unopened files caller slot bad none = rw (bad, none) refl

pub returns-clause-done : goal.returns-clause-done
returns-clause-done g c now =
    synced_is (present (g.B.Backing.state c.args.backing.now).tree c.args.kept.now) c.args.caller c.args.slot c.in-Some.ino (sym c.is_bad_slot.ensures ∙ c.if-is_bad_slot.false) (sym c.get.ensures ∙ c.in-Some.is)

pub returns-clause-pages : goal.returns-clause-pages
returns-clause-pages g c ino held = same_open (λ i. has_dirty c.put_file.new.kept.pages.dirty i ≡ false) _ c.in-Some.ino ino (sym c.get.ensures ∙ c.in-Some.is) held c.in_ok-put_file.ensures.pages

pub returns-clause-others : goal.returns-clause-others
returns-clause-others g c ino held = same_open (λ i. dirty_of_others c.put_file.new.kept.pages.dirty i ≡ dirty_of_others c.args.kept.now.pages.dirty i) _ c.in-Some.ino ino (sym c.get.ensures ∙ c.in-Some.is) held c.put_file.ensures.others

pub returns-in_err-put_file-clause-others : goal.returns-in_err-put_file-clause-others
returns-in_err-put_file-clause-others g c ino held = same_open (λ i. dirty_of_others c.put_file.new.kept.pages.dirty i ≡ dirty_of_others c.args.kept.now.pages.dirty i) _ c.in-Some.ino ino (sym c.get.ensures ∙ c.in-Some.is) held c.put_file.ensures.others

pub returns-in_err-sync-clause-others : goal.returns-in_err-sync-clause-others
returns-in_err-sync-clause-others g c ino held = same_open (λ i. dirty_of_others c.put_file.new.kept.pages.dirty i ≡ dirty_of_others c.args.kept.now.pages.dirty i) _ c.in-Some.ino ino (sym c.get.ensures ∙ c.in-Some.is) held c.put_file.ensures.others

pub returns-in_err-put_file-clause-sound : goal.returns-in_err-put_file-clause-sound
returns-in_err-put_file-clause-sound g c =
    let later = (g.B.Backing.state c.put_file.new.backing).tree in
    let kept = c.put_file.new.kept in
    let before = present (g.B.Backing.state c.args.backing.now).tree c.args.kept.now in
    alike_sound before (present later kept) c.put_file.ensures.same (c.present_files_are_sound.ensures.proper later kept c.put_file.ensures.kept) c.requires.sound

pub returns-in_err-sync-clause-sound : goal.returns-in_err-sync-clause-sound
returns-in_err-sync-clause-sound g c =
    let later = (g.B.Backing.state c.put_file.new.backing).tree in
    let kept = c.put_file.new.kept in
    let before = present (g.B.Backing.state c.args.backing.now).tree c.args.kept.now in
    let sound = alike_sound before (present later kept) c.put_file.ensures.same (c.present_files_are_sound.ensures.proper later kept c.put_file.ensures.kept) c.requires.sound in
    sound_on (g.B.Backing.state c.sync.new.backing).tree later kept c.sync.ensures.files.tree sound

pub returns-clause-sound : goal.returns-clause-sound
returns-clause-sound g c =
    let later = (g.B.Backing.state c.put_file.new.backing).tree in
    let kept = c.put_file.new.kept in
    let before = present (g.B.Backing.state c.args.backing.now).tree c.args.kept.now in
    let sound = alike_sound before (present later kept) c.put_file.ensures.same (c.present_files_are_sound.ensures.proper later kept c.put_file.ensures.kept) c.requires.sound in
    sound_on (g.B.Backing.state c.sync.new.backing).tree later kept c.sync.ensures.files.tree sound

pub returns-in_err-sync-clause-goes : goal.returns-in_err-sync-clause-goes
returns-in_err-sync-clause-goes g c = goes_on (2 * length c.args.kept.now.pages.dirty) (g.B.Backing.state c.args.backing.now) (g.B.Backing.state c.put_file.new.backing) (g.B.Backing.state c.sync.new.backing) c.put_file.ensures.goes c.sync.ensures.goes

pub returns-clause-goes : goal.returns-clause-goes
returns-clause-goes g c = goes_on (2 * length c.args.kept.now.pages.dirty) (g.B.Backing.state c.args.backing.now) (g.B.Backing.state c.put_file.new.backing) (g.B.Backing.state c.sync.new.backing) c.put_file.ensures.goes c.sync.ensures.goes

pub returns-in_err-put_file-clause-early : goal.returns-in_err-put_file-clause-early
returns-in_err-put_file-clause-early g c =
    let late = stopped_late (g.B.Backing.state c.args.backing.now) (g.B.Backing.state c.put_file.new.backing) c.in_err-put_file.field-0.0 c.in_err-put_file.ensures.refused in
    search (rules, late)

pub returns-in_err-sync-clause-early : goal.returns-in_err-sync-clause-early
returns-in_err-sync-clause-early g c =
    let late = stopped_late (g.B.Backing.state c.put_file.new.backing) (g.B.Backing.state c.sync.new.backing) c.in_err-sync.field-0.0 c.in_err-sync.ensures.refused in
    search (rules, late)

pub returns-in_err-put_file-clause-grows : goal.returns-in_err-put_file-clause-grows
returns-in_err-put_file-clause-grows g c =
    let f = refused_wider (Unit {0}) Reply 0 0 2 2 c.in_err-put_file.field-0.0 (g.B.Backing.state c.args.backing.now) (g.B.Backing.state c.put_file.new.backing) c.args.kept.now c.put_file.new.kept (no_more 2) c.in_err-put_file.ensures.grows in
    search (rules, f)

pub returns-in_err-sync-clause-grows : goal.returns-in_err-sync-clause-grows
returns-in_err-sync-clause-grows g c =
    let none = before_look 0 (g.B.Backing.state c.args.backing.now) (g.B.Backing.state c.put_file.new.backing) (g.B.Backing.state c.sync.new.backing) c.args.kept.now c.put_file.new.kept c.put_file.new.kept c.in_ok-put_file.ensures.grows c.sync.ensures.goes (no_more (length c.put_file.new.kept.pages.dirty)) in
    let f = never {T = Reply} 0 2 (Err c.in_err-sync.field-0.0) (g.B.Backing.state c.args.backing.now) (g.B.Backing.state c.sync.new.backing) c.args.kept.now c.put_file.new.kept none in
    search (rules, f)

pub returns-clause-grows : goal.returns-clause-grows
returns-clause-grows g c = before_look 0 (g.B.Backing.state c.args.backing.now) (g.B.Backing.state c.put_file.new.backing) (g.B.Backing.state c.sync.new.backing) c.args.kept.now c.put_file.new.kept c.put_file.new.kept c.in_ok-put_file.ensures.grows c.sync.ensures.goes (no_more (length c.put_file.new.kept.pages.dirty))

pub returns-in_err-sync-clause-closed : goal.returns-in_err-sync-clause-closed
returns-in_err-sync-clause-closed g c = closed_still (g.B.Backing.state c.args.backing.now) (g.B.Backing.state c.put_file.new.backing) (g.B.Backing.state c.sync.new.backing) c.put_file.ensures.closed c.sync.ensures.files.closed

pub returns-clause-closed : goal.returns-clause-closed
returns-clause-closed g c = closed_still (g.B.Backing.state c.args.backing.now) (g.B.Backing.state c.put_file.new.backing) (g.B.Backing.state c.sync.new.backing) c.put_file.ensures.closed c.sync.ensures.files.closed

pub returns-in_err-sync-clause-cut : goal.returns-in_err-sync-clause-cut
returns-in_err-sync-clause-cut g c = cut_nothing (g.B.Backing.state c.args.backing.now) (g.B.Backing.state c.put_file.new.backing) (g.B.Backing.state c.sync.new.backing) c.args.kept.now c.put_file.ensures.cut c.sync.ensures.cut

pub returns-clause-cut : goal.returns-clause-cut
returns-clause-cut g c = cut_nothing (g.B.Backing.state c.args.backing.now) (g.B.Backing.state c.put_file.new.backing) (g.B.Backing.state c.sync.new.backing) c.args.kept.now c.put_file.ensures.cut c.sync.ensures.cut

pub returns-then-is_bad_slot-clause-cut : goal.returns-then-is_bad_slot-clause-cut
returns-then-is_bad_slot-clause-cut g c = cut_same (g.B.Backing.state c.args.backing.now) (g.B.Backing.state c.args.backing.now) c.args.kept.now refl

pub returns-in_default-clause-cut : goal.returns-in_default-clause-cut
returns-in_default-clause-cut g c = cut_same (g.B.Backing.state c.args.backing.now) (g.B.Backing.state c.args.backing.now) c.args.kept.now refl

pub returns-then-is_bad_slot-clause-goes : goal.returns-then-is_bad_slot-clause-goes
returns-then-is_bad_slot-clause-goes g c = goes_none (2 * length c.args.kept.now.pages.dirty) (g.B.Backing.state c.args.backing.now)

pub returns-then-is_bad_slot-clause-grows : goal.returns-then-is_bad_slot-clause-grows
returns-then-is_bad_slot-clause-grows g c = grows_none 0 (g.B.Backing.state c.args.backing.now) c.args.kept.now

pub returns-then-is_bad_slot-clause-sure : goal.returns-then-is_bad_slot-clause-sure
returns-then-is_bad_slot-clause-sure g c = Sure-none (g.B.Backing.outlook c.args.backing.now) (g.B.Backing.state c.args.backing.now)

pub returns-then-is_bad_slot-clause-closed : goal.returns-then-is_bad_slot-clause-closed
returns-then-is_bad_slot-clause-closed g c = no_more (g.B.Backing.state c.args.backing.now).closed

pub returns-then-is_bad_slot-clause-early : goal.returns-then-is_bad_slot-clause-early
returns-then-is_bad_slot-clause-early g c early = same_looks (g.B.Backing.state c.args.backing.now) (g.B.Backing.state c.args.backing.now) c.args.kept.now c.args.kept.now refl refl

pub returns-then-is_bad_slot-clause-same : goal.returns-then-is_bad_slot-clause-same
returns-then-is_bad_slot-clause-same g c = alike_self (present (g.B.Backing.state c.args.backing.now).tree c.args.kept.now)

pub returns-then-is_bad_slot-clause-others : goal.returns-then-is_bad_slot-clause-others
returns-then-is_bad_slot-clause-others g c ino held = refl

pub returns-in_default-clause-goes : goal.returns-in_default-clause-goes
returns-in_default-clause-goes g c = goes_none (2 * length c.args.kept.now.pages.dirty) (g.B.Backing.state c.args.backing.now)

pub returns-in_default-clause-grows : goal.returns-in_default-clause-grows
returns-in_default-clause-grows g c = grows_none 0 (g.B.Backing.state c.args.backing.now) c.args.kept.now

pub returns-in_default-clause-sure : goal.returns-in_default-clause-sure
returns-in_default-clause-sure g c = Sure-none (g.B.Backing.outlook c.args.backing.now) (g.B.Backing.state c.args.backing.now)

pub returns-in_default-clause-closed : goal.returns-in_default-clause-closed
returns-in_default-clause-closed g c = no_more (g.B.Backing.state c.args.backing.now).closed

pub returns-in_default-clause-early : goal.returns-in_default-clause-early
returns-in_default-clause-early g c early = same_looks (g.B.Backing.state c.args.backing.now) (g.B.Backing.state c.args.backing.now) c.args.kept.now c.args.kept.now refl refl

pub returns-in_default-clause-same : goal.returns-in_default-clause-same
returns-in_default-clause-same g c = alike_self (present (g.B.Backing.state c.args.backing.now).tree c.args.kept.now)

pub returns-in_default-clause-others : goal.returns-in_default-clause-others
returns-in_default-clause-others g c ino held = refl

pub returns-in_err-sync-clause-kept : goal.returns-in_err-sync-clause-kept
returns-in_err-sync-clause-kept g c = kept_still (g.B.Backing.state c.put_file.new.backing) (g.B.Backing.state c.sync.new.backing) c.put_file.new.kept c.sync.ensures.files c.put_file.ensures.kept

pub returns-in_err-sync-clause-paid : goal.returns-in_err-sync-clause-paid
returns-in_err-sync-clause-paid g c = paid_still (g.B.Backing.state c.put_file.new.backing) (g.B.Backing.state c.sync.new.backing) (length c.put_file.new.kept.pages.dirty) c.sync.ensures.files c.put_file.ensures.paid

pub returns-in_err-sync-clause-issued : goal.returns-in_err-sync-clause-issued
returns-in_err-sync-clause-issued g c = issued_still (g.B.Backing.state c.args.backing.now) (g.B.Backing.state c.put_file.new.backing) (g.B.Backing.state c.sync.new.backing) (length c.args.kept.now.pages.dirty) (length c.put_file.new.kept.pages.dirty) c.sync.ensures.files c.put_file.ensures.issued

pub returns-in_err-sync-clause-same : goal.returns-in_err-sync-clause-same
returns-in_err-sync-clause-same g c = same_still (g.B.Backing.state c.put_file.new.backing) (g.B.Backing.state c.sync.new.backing) (present (g.B.Backing.state c.args.backing.now).tree c.args.kept.now) c.put_file.new.kept c.sync.ensures.files c.put_file.ensures.same

pub returns-in_err-sync-clause-sure : goal.returns-in_err-sync-clause-sure
returns-in_err-sync-clause-sure g c = Sure-then (g.B.Backing.outlook c.args.backing.now) (g.B.Backing.outlook c.put_file.new.backing) (g.B.Backing.outlook c.sync.new.backing) (g.B.Backing.state c.args.backing.now) (g.B.Backing.state c.put_file.new.backing) (g.B.Backing.state c.sync.new.backing) c.put_file.ensures.sure c.sync.ensures.sure

pub returns-clause-kept : goal.returns-clause-kept
returns-clause-kept g c = kept_still (g.B.Backing.state c.put_file.new.backing) (g.B.Backing.state c.sync.new.backing) c.put_file.new.kept c.sync.ensures.files c.put_file.ensures.kept

pub returns-clause-paid : goal.returns-clause-paid
returns-clause-paid g c = paid_still (g.B.Backing.state c.put_file.new.backing) (g.B.Backing.state c.sync.new.backing) (length c.put_file.new.kept.pages.dirty) c.sync.ensures.files c.put_file.ensures.paid

pub returns-clause-issued : goal.returns-clause-issued
returns-clause-issued g c = issued_still (g.B.Backing.state c.args.backing.now) (g.B.Backing.state c.put_file.new.backing) (g.B.Backing.state c.sync.new.backing) (length c.args.kept.now.pages.dirty) (length c.put_file.new.kept.pages.dirty) c.sync.ensures.files c.put_file.ensures.issued

pub returns-clause-same : goal.returns-clause-same
returns-clause-same g c = same_still (g.B.Backing.state c.put_file.new.backing) (g.B.Backing.state c.sync.new.backing) (present (g.B.Backing.state c.args.backing.now).tree c.args.kept.now) c.put_file.new.kept c.sync.ensures.files c.put_file.ensures.same

pub returns-clause-sure : goal.returns-clause-sure
returns-clause-sure g c = Sure-then (g.B.Backing.outlook c.args.backing.now) (g.B.Backing.outlook c.put_file.new.backing) (g.B.Backing.outlook c.sync.new.backing) (g.B.Backing.state c.args.backing.now) (g.B.Backing.state c.put_file.new.backing) (g.B.Backing.state c.sync.new.backing) c.put_file.ensures.sure c.sync.ensures.sure

pub returns-clause-early : goal.returns-clause-early
returns-clause-early g c early = absurd early

pub returns-then-is_bad_slot-clause-refused : goal.returns-then-is_bad_slot-clause-refused
returns-then-is_bad_slot-clause-refused g c = inl (λ now. synced_bad (present (g.B.Backing.state c.args.backing.now).tree c.args.kept.now) c.args.caller c.args.slot (sym c.is_bad_slot.ensures ∙ c.if-is_bad_slot.true))

pub returns-in_default-clause-refused : goal.returns-in_default-clause-refused
returns-in_default-clause-refused g c = inl (λ now. synced_unopened (present (g.B.Backing.state c.args.backing.now).tree c.args.kept.now) c.args.caller c.args.slot (sym c.is_bad_slot.ensures ∙ c.if-is_bad_slot.false) (sym c.get.ensures ∙ c.in_default.is))

pub returns-in_err-sync-clause-refused : goal.returns-in_err-sync-clause-refused
returns-in_err-sync-clause-refused g c =
    let files = present (g.B.Backing.state c.args.backing.now).tree c.args.kept.now in
    let r = c.in_err-sync.field-0.0 in
    let refused = stopped_turned ((now : ℕ) → outcome_of files c.args.caller now (Fsync c.args.slot) ≡ Err r) (2 * length c.args.kept.now.pages.dirty) (g.B.Backing.state c.args.backing.now) (g.B.Backing.state c.put_file.new.backing) (g.B.Backing.state c.sync.new.backing) r c.put_file.ensures.goes c.in_err-sync.ensures.refused in
    search (rules, refused)
