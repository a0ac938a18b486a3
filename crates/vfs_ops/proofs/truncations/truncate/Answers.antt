use Rattle.std.proofs.Common.{◌≡◌, Some, Ok, Err, inl, refl, sym, ap, subst, ◌∙◌, length, max, rules}
use Rattle.std.proofs.lemmas.Bool.{ltb-false}
use Rattle.fs_model.specs.declared.refusal.Refusal.TheVariants.{Efbig, Einval, Ebadf}
use Rattle.fs_model.specs.declared.reply.Reply.{Reply}
use Rattle.fs_model.specs.declared.reply.Reply.TheVariants.{Done}
use Rattle.fs_model.specs.declared.op.Op.TheVariants.{Truncate}
use Rattle.fs_model.specs.Files.{Tree, handle_at, inode_at, size_of}
use Rattle.fs_model.specs.Handles.{size_limit}
use Rattle.fs_model.specs.Need.{need_of}
use Rattle.fs_model.specs.Operation.{outcome_of}
use Rattle.fs_model.specs.Outcome.{done_by}
use Rattle.buffered_files.specs.Alike.{IsAlike}
use Rattle.buffered_files.specs.CallLaws.{Sure-none, Sure-then}
use Rattle.buffered_files.specs.Present.{IsKept, present}
use Rattle.buffered_files.specs.Cuts.{refused_fate}
use Rattle.buffered_files.specs.Cuts.GroupFate.{WasPut}
use Rattle.vfs_ops.proofs.Buffering.{at_hand, open_file}
use Rattle.vfs_ops.proofs.Cutting.{call_refused, cut_looked, cut_same}
use Rattle.vfs_ops.proofs.Held.{closed_few, closed_then, fault_at_once, fault_only, goes_none, grows_looked, grows_none, issued_on, issued_then, kept_on, no_more, paid_on, same_on}
use Rattle.vfs_ops.proofs.Looking.{looked, room_late, same_looks}
use Rattle.vfs_ops.proofs.NewSize.{PassesSize, file_kind, passes, resized_files, size_admitted, size_alone, size_cut, size_done, size_goes, size_grows, size_ok, size_refused, size_room, size_sound, size_test}
use Rattle.vfs_ops.proofs.Serving.{alike_self}
use Rattle.vfs_ops.specs.Operations.{nodes_asked}
use Rattle.vfs_ops.proofs.States.{tree_on}
use Rattle.vfs_ops.proofs.Takes.{alike_sound, goes_looked, sound_on}
use Rattle.vfs_ops.proofs.Truncating.{size_bad_slot, size_not_open, size_too_big}
use Rattle.vfs_ops.proofs.Weighing.{never, refused_wider}
use Rattle.vfs_ops.proofs.truncations.truncate.Goals as goal

pub returns-then-is_bad_slot-clause-refused : goal.returns-then-is_bad_slot-clause-refused
returns-then-is_bad_slot-clause-refused g c =
    let files = present (g.B.Backing.state c.args.backing.now).tree c.args.kept.now in
    inl (inl (ap (λ plan. done_by files plan) (size_bad_slot files c.args.caller c.args.now c.args.slot c.args.size (sym c.is_bad_slot.ensures ∙ c.if-is_bad_slot.true))))

pub returns-in_default-clause-refused : goal.returns-in_default-clause-refused
returns-in_default-clause-refused g c =
    let files = present (g.B.Backing.state c.args.backing.now).tree c.args.kept.now in
    inl (inl (ap (λ plan. done_by files plan) (size_not_open files c.args.caller c.args.now c.args.slot c.args.size (sym c.is_bad_slot.ensures ∙ c.if-is_bad_slot.false) (sym c.get.ensures ∙ c.in_default.is))))

pub returns-then-is_too_big-clause-refused : goal.returns-then-is_too_big-clause-refused
returns-then-is_too_big-clause-refused g c =
    let files = present (g.B.Backing.state c.args.backing.now).tree c.args.kept.now in
    let there : handle_at files c.args.caller c.args.slot ≡ Some c.in-Some.ino = sym c.get.ensures ∙ c.in-Some.is in
    let at = at_hand files c.in-Some.ino (open_file files c.args.caller c.args.slot c.in-Some.ino c.requires.sound there) in
    inl (inl (ap (λ plan. done_by files plan) (size_too_big files c.args.caller c.args.now c.args.slot c.args.size c.in-Some.ino (sym c.is_bad_slot.ensures ∙ c.if-is_bad_slot.false) there at (sym c.is_too_big.ensures ∙ c.if-is_too_big.true))))

pub measured-requires-clause-file : goal.measured-requires-clause-file
measured-requires-clause-file g c =
    let files = present (g.B.Backing.state c.args.backing.now).tree c.args.kept.now in
    let there : handle_at files c.args.caller c.args.slot ≡ Some c.in-Some.ino = sym c.get.ensures ∙ c.in-Some.is in
    let at = at_hand files c.in-Some.ino (open_file files c.args.caller c.args.slot c.in-Some.ino c.requires.sound there) in
    (at.inode, at.found)

pub returns-clause-done : goal.returns-clause-done
returns-clause-done g c =
    let files = present (g.B.Backing.state c.args.backing.now).tree c.args.kept.now in
    let p : PassesSize files c.args.caller c.args.now c.args.slot c.args.size c.in-Some.ino c.in_ok-inode.inode = passes (sym c.is_bad_slot.ensures ∙ c.if-is_bad_slot.false) (sym c.get.ensures ∙ c.in-Some.is) c.in_ok-inode.ensures.found (sym c.is_too_big.ensures ∙ c.if-is_too_big.false) in (
      resized_files files c.in-Some.ino c.in_ok-inode.inode c.args.size c.args.now,
      size_done p,
      size_ok c.measured.ensures.looks (g.B.Backing.state c.set_size.new.backing) c.args.kept.now p (present (g.B.Backing.state c.set_size.new.backing).tree c.set_size.new.kept) c.in_ok-set_size.ensures.ok,
    )

pub returns-clause-sound : goal.returns-clause-sound
returns-clause-sound g c =
    let files = present (g.B.Backing.state c.args.backing.now).tree c.args.kept.now in
    let last = (g.B.Backing.state c.set_size.new.backing).tree in
    let leaves = c.an_operation_leaves_files_sound.ensures files c.args.caller c.args.now (Truncate c.args.slot c.args.size) c.requires.sound c.ranges.now.fits refl in
    size_sound c.measured.ensures.looks (g.B.Backing.state c.set_size.new.backing) c.args.kept.now (passes (sym c.is_bad_slot.ensures ∙ c.if-is_bad_slot.false) (sym c.get.ensures ∙ c.in-Some.is) c.in_ok-inode.ensures.found (sym c.is_too_big.ensures ∙ c.if-is_too_big.false)) (present last c.set_size.new.kept) leaves c.in_ok-set_size.ensures.ok (c.present_files_are_sound.ensures.proper last c.set_size.new.kept c.set_size.ensures.kept)

pub returns-in_err-set_size-clause-sound : goal.returns-in_err-set_size-clause-sound
returns-in_err-set_size-clause-sound g c =
    let last = (g.B.Backing.state c.set_size.new.backing).tree in
    let mid = (g.B.Backing.state c.measured.new.backing).tree in
    alike_sound (present mid c.args.kept.now) (present last c.set_size.new.kept) c.in_err-set_size.ensures.same (c.present_files_are_sound.ensures.proper last c.set_size.new.kept c.set_size.ensures.kept) (sound_on mid (g.B.Backing.state c.args.backing.now).tree c.args.kept.now (tree_on c.measured.ensures.looks) c.requires.sound)

pub returns-in_err-set_size-clause-same : goal.returns-in_err-set_size-clause-same
returns-in_err-set_size-clause-same g c =
    let after = present (g.B.Backing.state c.set_size.new.backing).tree c.set_size.new.kept in
    let same = subst (λ t. IsAlike (present t c.args.kept.now) after) (tree_on c.measured.ensures.looks) c.in_err-set_size.ensures.same in
    search (rules, same)

pub returns-in_err-set_size-clause-refused : goal.returns-in_err-set_size-clause-refused
returns-in_err-set_size-clause-refused g c =
    let refused = size_refused c.measured.ensures.looks (g.B.Backing.state c.set_size.new.backing) c.args.kept.now (passes {now = c.args.now} (sym c.is_bad_slot.ensures ∙ c.if-is_bad_slot.false) (sym c.get.ensures ∙ c.in-Some.is) c.in_ok-inode.ensures.found (sym c.is_too_big.ensures ∙ c.if-is_too_big.false)) c.set_size.new.kept c.in_err-set_size.field-0.0 c.in_err-set_size.ensures.refused in
    search (rules, refused)

pub returns-clause-admitted : goal.returns-clause-admitted
returns-clause-admitted g c = size_admitted c.measured.ensures.looks (g.B.Backing.state c.set_size.new.backing) c.args.kept.now (passes (sym c.is_bad_slot.ensures ∙ c.if-is_bad_slot.false) (sym c.get.ensures ∙ c.in-Some.is) c.in_ok-inode.ensures.found (sym c.is_too_big.ensures ∙ c.if-is_too_big.false)) c.in_ok-set_size.ensures.admitted

pub returns-in_err-set_size-clause-at_once : goal.returns-in_err-set_size-clause-at_once
returns-in_err-set_size-clause-at_once g c done out room =
    let old = g.B.Backing.state c.args.backing.now in
    let p : PassesSize (present old.tree c.args.kept.now) c.args.caller c.args.now c.args.slot c.args.size c.in-Some.ino c.in_ok-inode.inode = passes (sym c.is_bad_slot.ensures ∙ c.if-is_bad_slot.false) (sym c.get.ensures ∙ c.in-Some.is) c.in_ok-inode.ensures.found (sym c.is_too_big.ensures ∙ c.if-is_too_big.false) in
    let never = c.in_err-set_size.ensures.at_once (size_room c.measured.ensures.looks (g.B.Backing.state c.set_size.new.backing) c.args.kept.now p (size_test p old room)) in
    search (rules, never)

pub returns-then-is_bad_slot-clause-alone : goal.returns-then-is_bad_slot-clause-alone
returns-then-is_bad_slot-clause-alone g c done out room = goes_none _ (g.B.Backing.state c.args.backing.now)

pub returns-in_default-clause-alone : goal.returns-in_default-clause-alone
returns-in_default-clause-alone g c done out room = goes_none _ (g.B.Backing.state c.args.backing.now)

pub returns-then-is_too_big-clause-alone : goal.returns-then-is_too_big-clause-alone
returns-then-is_too_big-clause-alone g c done out room = goes_none _ (g.B.Backing.state c.args.backing.now)

pub returns-in_err-inode-clause-alone : goal.returns-in_err-inode-clause-alone
returns-in_err-inode-clause-alone g c done out room = goes_looked c.measured.ensures.looks _

pub returns-in_err-set_size-clause-alone : goal.returns-in_err-set_size-clause-alone
returns-in_err-set_size-clause-alone g c done out room =
    let old = g.B.Backing.state c.args.backing.now in
    let p : PassesSize (present old.tree c.args.kept.now) c.args.caller c.args.now c.args.slot c.args.size c.in-Some.ino c.in_ok-inode.inode = passes (sym c.is_bad_slot.ensures ∙ c.if-is_bad_slot.false) (sym c.get.ensures ∙ c.in-Some.is) c.in_ok-inode.ensures.found (sym c.is_too_big.ensures ∙ c.if-is_too_big.false) in
    let new = g.B.Backing.state c.set_size.new.backing in
    size_alone c.measured.ensures.looks new c.args.kept.now p (c.set_size.ensures.alone (size_room c.measured.ensures.looks new c.args.kept.now p (size_test p old room)))

pub returns-clause-alone : goal.returns-clause-alone
returns-clause-alone g c done out room =
    let old = g.B.Backing.state c.args.backing.now in
    let p : PassesSize (present old.tree c.args.kept.now) c.args.caller c.args.now c.args.slot c.args.size c.in-Some.ino c.in_ok-inode.inode = passes (sym c.is_bad_slot.ensures ∙ c.if-is_bad_slot.false) (sym c.get.ensures ∙ c.in-Some.is) c.in_ok-inode.ensures.found (sym c.is_too_big.ensures ∙ c.if-is_too_big.false) in
    let new = g.B.Backing.state c.set_size.new.backing in
    size_alone c.measured.ensures.looks new c.args.kept.now p (c.set_size.ensures.alone (size_room c.measured.ensures.looks new c.args.kept.now p (size_test p old room)))

pub returns-in_err-inode-clause-early : goal.returns-in_err-inode-clause-early
returns-in_err-inode-clause-early g c early = looked c.measured.ensures.looks c.args.kept.now c.args.kept.now refl

pub returns-in_err-set_size-clause-early : goal.returns-in_err-set_size-clause-early
returns-in_err-set_size-clause-early g c =
    let late = room_late (g.B.Backing.state c.measured.new.backing) (g.B.Backing.state c.set_size.new.backing) c.set_size.new.kept _ c.in_err-set_size.field-0.0 c.in_err-set_size.ensures.refused in
    search (rules, late)

pub returns-in_err-inode-clause-grows : goal.returns-in_err-inode-clause-grows
returns-in_err-inode-clause-grows g c =
    let n = nodes_asked (present (g.B.Backing.state c.args.backing.now).tree c.args.kept.now) c.args.caller c.args.now (Truncate c.args.slot c.args.size) in
    let none = never {T = Reply} n (max 2 n) (Err c.in_err-inode.field-0.0) (g.B.Backing.state c.args.backing.now) (g.B.Backing.state c.measured.new.backing) c.args.kept.now c.args.kept.now (grows_looked c.measured.ensures.looks 0 c.args.kept.now) in
    search (rules, none)

pub returns-clause-grows : goal.returns-clause-grows
returns-clause-grows g c =
    size_grows c.measured.ensures.looks (g.B.Backing.state c.set_size.new.backing) c.args.kept.now (passes (sym c.is_bad_slot.ensures ∙ c.if-is_bad_slot.false) (sym c.get.ensures ∙ c.in-Some.is) c.in_ok-inode.ensures.found (sym c.is_too_big.ensures ∙ c.if-is_too_big.false)) {T = Reply} (Ok Done) c.set_size.new.kept c.in_ok-set_size.ensures.grows

pub returns-in_err-set_size-clause-grows : goal.returns-in_err-set_size-clause-grows
returns-in_err-set_size-clause-grows g c =
    let e = c.in_err-set_size.field-0.0 in
    let put = size_grows c.measured.ensures.looks (g.B.Backing.state c.set_size.new.backing) c.args.kept.now (passes (sym c.is_bad_slot.ensures ∙ c.if-is_bad_slot.false) (sym c.get.ensures ∙ c.in-Some.is) c.in_ok-inode.ensures.found (sym c.is_too_big.ensures ∙ c.if-is_too_big.false)) {T = Unit {0}} (Err e) c.set_size.new.kept c.in_err-set_size.ensures.grows in
    let n = nodes_asked (present (g.B.Backing.state c.args.backing.now).tree c.args.kept.now) c.args.caller c.args.now (Truncate c.args.slot c.args.size) in
    let f = refused_wider (Unit {0}) Reply n n (max 2 n) (max 2 n) e (g.B.Backing.state c.args.backing.now) (g.B.Backing.state c.set_size.new.backing) c.args.kept.now c.set_size.new.kept (no_more (max 2 n)) put in
    search (rules, f)

pub returns-in_err-inode-clause-closed : goal.returns-in_err-inode-clause-closed
returns-in_err-inode-clause-closed g c = closed_few c.measured.ensures.looks

pub returns-in_err-set_size-clause-closed : goal.returns-in_err-set_size-clause-closed
returns-in_err-set_size-clause-closed g c = closed_then c.measured.ensures.looks (g.B.Backing.state c.set_size.new.backing) c.set_size.ensures.closed

pub returns-clause-closed : goal.returns-clause-closed
returns-clause-closed g c = closed_then c.measured.ensures.looks (g.B.Backing.state c.set_size.new.backing) c.set_size.ensures.closed

pub returns-then-is_bad_slot-clause-cut : goal.returns-then-is_bad_slot-clause-cut
returns-then-is_bad_slot-clause-cut g c = let old = g.B.Backing.state c.args.backing.now in call_refused old old c.args.kept.now c.args.caller c.args.now (Truncate c.args.slot c.args.size) Einval (cut_same old old c.args.kept.now refl)

pub returns-in_default-clause-cut : goal.returns-in_default-clause-cut
returns-in_default-clause-cut g c = let old = g.B.Backing.state c.args.backing.now in call_refused old old c.args.kept.now c.args.caller c.args.now (Truncate c.args.slot c.args.size) Ebadf (cut_same old old c.args.kept.now refl)

pub returns-then-is_too_big-clause-cut : goal.returns-then-is_too_big-clause-cut
returns-then-is_too_big-clause-cut g c = let old = g.B.Backing.state c.args.backing.now in call_refused old old c.args.kept.now c.args.caller c.args.now (Truncate c.args.slot c.args.size) Efbig (cut_same old old c.args.kept.now refl)

pub returns-in_err-inode-clause-cut : goal.returns-in_err-inode-clause-cut
returns-in_err-inode-clause-cut g c =
    let f = call_refused (g.B.Backing.state c.args.backing.now) (g.B.Backing.state c.measured.new.backing) c.args.kept.now c.args.caller c.args.now (Truncate c.args.slot c.args.size) c.in_err-inode.field-0.0 (cut_looked c.measured.ensures.looks c.args.kept.now) in
    search (rules, f)

pub returns-in_err-set_size-clause-cut : goal.returns-in_err-set_size-clause-cut
returns-in_err-set_size-clause-cut g c =
    let f = size_cut c.measured.ensures.looks (g.B.Backing.state c.set_size.new.backing) c.args.kept.now (passes (sym c.is_bad_slot.ensures ∙ c.if-is_bad_slot.false) (sym c.get.ensures ∙ c.in-Some.is) c.in_ok-inode.ensures.found (sym c.is_too_big.ensures ∙ c.if-is_too_big.false)) (refused_fate c.in_err-set_size.field-0.0) c.in_err-set_size.ensures.cut in
    search (rules, f)

pub returns-clause-cut : goal.returns-clause-cut
returns-clause-cut g c = size_cut c.measured.ensures.looks (g.B.Backing.state c.set_size.new.backing) c.args.kept.now (passes (sym c.is_bad_slot.ensures ∙ c.if-is_bad_slot.false) (sym c.get.ensures ∙ c.in-Some.is) c.in_ok-inode.ensures.found (sym c.is_too_big.ensures ∙ c.if-is_too_big.false)) WasPut c.in_ok-set_size.ensures.cut

pub returns-in_err-set_size-clause-goes : goal.returns-in_err-set_size-clause-goes
returns-in_err-set_size-clause-goes g c = size_goes c.measured.ensures.looks (g.B.Backing.state c.set_size.new.backing) c.args.kept.now (passes (sym c.is_bad_slot.ensures ∙ c.if-is_bad_slot.false) (sym c.get.ensures ∙ c.in-Some.is) c.in_ok-inode.ensures.found (sym c.is_too_big.ensures ∙ c.if-is_too_big.false)) c.set_size.ensures.goes

pub returns-clause-goes : goal.returns-clause-goes
returns-clause-goes g c = size_goes c.measured.ensures.looks (g.B.Backing.state c.set_size.new.backing) c.args.kept.now (passes (sym c.is_bad_slot.ensures ∙ c.if-is_bad_slot.false) (sym c.get.ensures ∙ c.in-Some.is) c.in_ok-inode.ensures.found (sym c.is_too_big.ensures ∙ c.if-is_too_big.false)) c.set_size.ensures.goes

pub returns-in_err-inode-clause-goes : goal.returns-in_err-inode-clause-goes
returns-in_err-inode-clause-goes g c = goes_looked c.measured.ensures.looks _

pub returns-clause-sure : goal.returns-clause-sure
returns-clause-sure g c =
    Sure-then (g.B.Backing.outlook c.args.backing.now) (g.B.Backing.outlook c.measured.new.backing) (g.B.Backing.outlook c.set_size.new.backing) (g.B.Backing.state c.args.backing.now) (g.B.Backing.state c.measured.new.backing) (g.B.Backing.state c.set_size.new.backing) c.measured.ensures.looks.sure c.set_size.ensures.sure

pub returns-in_err-set_size-clause-sure : goal.returns-in_err-set_size-clause-sure
returns-in_err-set_size-clause-sure g c =
    Sure-then (g.B.Backing.outlook c.args.backing.now) (g.B.Backing.outlook c.measured.new.backing) (g.B.Backing.outlook c.set_size.new.backing) (g.B.Backing.state c.args.backing.now) (g.B.Backing.state c.measured.new.backing) (g.B.Backing.state c.set_size.new.backing) c.measured.ensures.looks.sure c.set_size.ensures.sure

pub set_size-requires-clause-kept : goal.set_size-requires-clause-kept
set_size-requires-clause-kept g c = subst (λ t. IsKept t c.args.kept.now) (sym (tree_on c.measured.ensures.looks)) c.requires.kept

pub set_size-requires-clause-file : goal.set_size-requires-clause-file
set_size-requires-clause-file g c =
    let files = present (g.B.Backing.state c.args.backing.now).tree c.args.kept.now in
    file_kind files c.in-Some.ino c.in_ok-inode.inode (open_file files c.args.caller c.args.slot c.in-Some.ino c.requires.sound (sym c.get.ensures ∙ c.in-Some.is)) c.in_ok-inode.ensures.found

pub returns-then-is_bad_slot-clause-goes : goal.returns-then-is_bad_slot-clause-goes
returns-then-is_bad_slot-clause-goes g c = goes_none _ (g.B.Backing.state c.args.backing.now)

pub returns-then-is_bad_slot-clause-grows : goal.returns-then-is_bad_slot-clause-grows
returns-then-is_bad_slot-clause-grows g c = grows_none 0 (g.B.Backing.state c.args.backing.now) c.args.kept.now

pub returns-then-is_bad_slot-clause-sure : goal.returns-then-is_bad_slot-clause-sure
returns-then-is_bad_slot-clause-sure g c = Sure-none (g.B.Backing.outlook c.args.backing.now) (g.B.Backing.state c.args.backing.now)

pub returns-then-is_bad_slot-clause-closed : goal.returns-then-is_bad_slot-clause-closed
returns-then-is_bad_slot-clause-closed g c = no_more (g.B.Backing.state c.args.backing.now).closed

pub returns-then-is_bad_slot-clause-early : goal.returns-then-is_bad_slot-clause-early
returns-then-is_bad_slot-clause-early g c early = same_looks (g.B.Backing.state c.args.backing.now) (g.B.Backing.state c.args.backing.now) c.args.kept.now c.args.kept.now refl refl

pub returns-then-is_bad_slot-clause-same : goal.returns-then-is_bad_slot-clause-same
returns-then-is_bad_slot-clause-same g c = alike_self (present (g.B.Backing.state c.args.backing.now).tree c.args.kept.now)

pub returns-then-is_bad_slot-clause-at_once : goal.returns-then-is_bad_slot-clause-at_once
returns-then-is_bad_slot-clause-at_once g c done out room = tt

pub returns-in_default-clause-goes : goal.returns-in_default-clause-goes
returns-in_default-clause-goes g c = goes_none _ (g.B.Backing.state c.args.backing.now)

pub returns-in_default-clause-grows : goal.returns-in_default-clause-grows
returns-in_default-clause-grows g c = grows_none 0 (g.B.Backing.state c.args.backing.now) c.args.kept.now

pub returns-in_default-clause-sure : goal.returns-in_default-clause-sure
returns-in_default-clause-sure g c = Sure-none (g.B.Backing.outlook c.args.backing.now) (g.B.Backing.state c.args.backing.now)

pub returns-in_default-clause-closed : goal.returns-in_default-clause-closed
returns-in_default-clause-closed g c = no_more (g.B.Backing.state c.args.backing.now).closed

pub returns-in_default-clause-early : goal.returns-in_default-clause-early
returns-in_default-clause-early g c early = same_looks (g.B.Backing.state c.args.backing.now) (g.B.Backing.state c.args.backing.now) c.args.kept.now c.args.kept.now refl refl

pub returns-in_default-clause-same : goal.returns-in_default-clause-same
returns-in_default-clause-same g c = alike_self (present (g.B.Backing.state c.args.backing.now).tree c.args.kept.now)

pub returns-in_default-clause-at_once : goal.returns-in_default-clause-at_once
returns-in_default-clause-at_once g c done out room = tt

pub returns-then-is_too_big-clause-goes : goal.returns-then-is_too_big-clause-goes
returns-then-is_too_big-clause-goes g c = goes_none _ (g.B.Backing.state c.args.backing.now)

pub returns-then-is_too_big-clause-grows : goal.returns-then-is_too_big-clause-grows
returns-then-is_too_big-clause-grows g c = grows_none 0 (g.B.Backing.state c.args.backing.now) c.args.kept.now

pub returns-then-is_too_big-clause-sure : goal.returns-then-is_too_big-clause-sure
returns-then-is_too_big-clause-sure g c = Sure-none (g.B.Backing.outlook c.args.backing.now) (g.B.Backing.state c.args.backing.now)

pub returns-then-is_too_big-clause-closed : goal.returns-then-is_too_big-clause-closed
returns-then-is_too_big-clause-closed g c = no_more (g.B.Backing.state c.args.backing.now).closed

pub returns-then-is_too_big-clause-early : goal.returns-then-is_too_big-clause-early
returns-then-is_too_big-clause-early g c early = same_looks (g.B.Backing.state c.args.backing.now) (g.B.Backing.state c.args.backing.now) c.args.kept.now c.args.kept.now refl refl

pub returns-then-is_too_big-clause-same : goal.returns-then-is_too_big-clause-same
returns-then-is_too_big-clause-same g c = alike_self (present (g.B.Backing.state c.args.backing.now).tree c.args.kept.now)

pub returns-then-is_too_big-clause-at_once : goal.returns-then-is_too_big-clause-at_once
returns-then-is_too_big-clause-at_once g c done out room = tt

pub returns-in_err-inode-clause-kept : goal.returns-in_err-inode-clause-kept
returns-in_err-inode-clause-kept g c = kept_on c.measured.ensures.looks c.args.kept.now c.requires.kept

pub returns-in_err-inode-clause-paid : goal.returns-in_err-inode-clause-paid
returns-in_err-inode-clause-paid g c = paid_on c.measured.ensures.looks (length c.args.kept.now.pages.dirty) c.requires.paid

pub returns-in_err-inode-clause-sound : goal.returns-in_err-inode-clause-sound
returns-in_err-inode-clause-sound g c = sound_on (g.B.Backing.state c.measured.new.backing).tree (g.B.Backing.state c.args.backing.now).tree c.args.kept.now (tree_on c.measured.ensures.looks) c.requires.sound

pub returns-in_err-inode-clause-issued : goal.returns-in_err-inode-clause-issued
returns-in_err-inode-clause-issued g c = issued_on c.measured.ensures.looks (length c.args.kept.now.pages.dirty)

pub returns-in_err-inode-clause-same : goal.returns-in_err-inode-clause-same
returns-in_err-inode-clause-same g c = let same = same_on c.measured.ensures.looks c.args.kept.now in search (rules, same)

pub returns-in_err-inode-clause-sure : goal.returns-in_err-inode-clause-sure
returns-in_err-inode-clause-sure g c = c.measured.ensures.looks.sure

pub returns-in_err-inode-clause-at_once : goal.returns-in_err-inode-clause-at_once
returns-in_err-inode-clause-at_once g c done out room =
    let never = fault_at_once Reply (g.B.Backing.state c.args.backing.now) (g.B.Backing.state c.measured.new.backing) c.in_err-inode.field-0.0 c.in_err-inode.ensures.refused in
    search (rules, never)

pub returns-in_err-inode-clause-refused : goal.returns-in_err-inode-clause-refused
returns-in_err-inode-clause-refused g c =
    let files = present (g.B.Backing.state c.args.backing.now).tree c.args.kept.now in
    let op = Truncate c.args.slot c.args.size in
    let refused = fault_only (g.B.Backing.state c.args.backing.now) (g.B.Backing.state c.measured.new.backing) c.args.kept.now (need_of files c.args.caller c.args.now op) (outcome_of files c.args.caller c.args.now op) c.in_err-inode.field-0.0 c.in_err-inode.ensures.refused in
    search (rules, refused)

pub set_size-requires-clause-paid : goal.set_size-requires-clause-paid
set_size-requires-clause-paid g c = paid_on c.measured.ensures.looks (length c.args.kept.now.pages.dirty) c.requires.paid

pub set_size-requires-clause-found : goal.set_size-requires-clause-found
set_size-requires-clause-found g c = subst (λ (t : Tree). inode_at (present t c.args.kept.now).tree c.in-Some.ino ≡ Some c.in_ok-inode.inode) (sym (tree_on c.measured.ensures.looks)) c.in_ok-inode.ensures.found

pub set_size-requires-clause-sized : goal.set_size-requires-clause-sized
set_size-requires-clause-sized g c = subst (λ (t : Tree). c.in_ok-inode.old_size ≡ size_of (present t c.args.kept.now).tree c.in-Some.ino c.in_ok-inode.inode) (sym (tree_on c.measured.ensures.looks)) c.in_ok-inode.ensures.size

pub set_size-requires-clause-inside : goal.set_size-requires-clause-inside
set_size-requires-clause-inside g c = ltb-false size_limit c.args.size (sym c.is_too_big.ensures ∙ c.if-is_too_big.false)

pub returns-in_err-set_size-clause-issued : goal.returns-in_err-set_size-clause-issued
returns-in_err-set_size-clause-issued g c = issued_then c.measured.ensures.looks (g.B.Backing.state c.set_size.new.backing) (length c.args.kept.now.pages.dirty) (length c.set_size.new.kept.pages.dirty) c.set_size.ensures.issued

pub returns-clause-issued : goal.returns-clause-issued
returns-clause-issued g c = issued_then c.measured.ensures.looks (g.B.Backing.state c.set_size.new.backing) (length c.args.kept.now.pages.dirty) (length c.set_size.new.kept.pages.dirty) c.set_size.ensures.issued

pub returns-clause-early : goal.returns-clause-early
returns-clause-early g c early = absurd early
