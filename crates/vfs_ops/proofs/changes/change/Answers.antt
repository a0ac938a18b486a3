use Rattle.std.proofs.Common.{◌≡◌, ℕ, ◌≤◌, ◌+◌, ◌∙◌, max, rules, refl, true, false, ◌&&◌, inl, inr, Err, length, sym, ap, subst, List}
use Rattle.std.specs.Prelude.{◌==◌, ◌-◌}
use Rattle.fs_model.specs.Orphan.{nameless}
use Rattle.fs_model.specs.declared.change.Change.{Change}
use Rattle.fs_model.specs.declared.space.Grant.{Grant}
use Rattle.fs_model.specs.declared.space.Need.{Need}
use Rattle.fs_model.specs.Backing.{BackingState, FitsGroup, FitsOrphans, IsModest, orphan_room}
use Rattle.fs_model.specs.Change.{apply}
use Rattle.fs_model.specs.Need.{need_of}
use Rattle.fs_model.specs.Operation.{group_of, outcome_of}
use Rattle.buffered_files.specs.Follow.{AreOfNames}
use Rattle.buffered_files.specs.Present.{present}
use Rattle.fs_model.specs.Orphan.{within_orphans}
use Rattle.buffered_files.specs.Cuts.{refused_fate}
use Rattle.buffered_files.specs.Cuts.GroupFate.{NotPut, WasPut}
use Rattle.vfs_ops.proofs.Cutting.{cut_looked, cut_refused, cut_with, looked_put, no_changes}
use Rattle.vfs_ops.proofs.Admitted.{alone_whole, fits_once, group_admitted, plan_refused}
use Rattle.vfs_ops.proofs.Groups.{AreFitting, group_fits, leaves, names_of}
use Rattle.vfs_ops.proofs.Held.{closed_few, closed_then, fault_at_once, fault_turned, grows_looked, issued_on, issued_then, kept_on, no_more, paid_on, plan_turned, same_on, same_then, sure_then}
use Rattle.vfs_ops.proofs.Looking.{looked, room_late}
use Rattle.vfs_ops.proofs.Orphans.{within_none, within_full, within_done, done_alike, orphans_fit, orphan_room_on, orphan_limit_on}
use Rattle.vfs_ops.proofs.States.{both, tree_on}
use Rattle.vfs_ops.proofs.Takes.{alike_on, alike_sound, sound_done, sound_on, fits_on, goes_looked, goes_whole, group_is, need_whole, not_truncate, pays_whole, refused_whole, last_done}
use Rattle.vfs_ops.proofs.Truncating.{nodes_are}
use Rattle.vfs_ops.proofs.changes.change.Given.{Over}
use Rattle.vfs_ops.specs.Operations.{orphans}
use Rattle.std.proofs.lemmas.Bool.{eqb-true}
use Rattle.fs_model.specs.declared.refusal.Refusal.TheVariants.{Enfile}
use Rattle.fs_model.specs.declared.refusal.Table.TheVariants.{Orphans as OrphanTable}
use Rattle.fs_model.specs.declared.reply.Reply.{Reply}
use Rattle.buffered_files.specs.Calls.{GrowsBy, added_or_refused}
use Rattle.vfs_ops.proofs.Weighing.{after_look, never, refused_wider}
use Rattle.vfs_ops.proofs.changes.change.Goals as goal

-- the group of the plan is that of the operation, and fits
fitting : (g : Over) (c : goal.After-class_of g) → AreFitting (present (g.B.Backing.state c.args.backing.now).tree c.args.kept.now).tree c.in_ok-reply.group
fitting g c =
    let tree = (g.B.Backing.state c.args.backing.now).tree in
    let files = present tree c.args.kept.now in
    let made = group_is files c.args.caller c.args.now c.args.op.now c.in_ok-reply.reply c.in_ok-reply.group c.in_ok-reply.ensures.found in
    subst (λ group. AreFitting files.tree group) made (group_fits files c.args.caller c.args.now c.args.op.now c.requires.op)

-- a backing takes it, under a grant of what the operation asks for
taken : (g : Over) (c : goal.After-class_of g) → FitsGroup (present (g.B.Backing.state c.args.backing.now).tree c.args.kept.now).tree
    (record { bytes = (need_of (present (g.B.Backing.state c.args.backing.now).tree c.args.kept.now) c.args.caller c.args.now c.args.op.now).bytes; nodes = (need_of (present (g.B.Backing.state c.args.backing.now).tree c.args.kept.now) c.args.caller c.args.now c.args.op.now).nodes })
    (group_of (present (g.B.Backing.state c.args.backing.now).tree c.args.kept.now) c.args.caller c.args.now c.args.op.now)
taken g c =
    let tree = (g.B.Backing.state c.args.backing.now).tree in
    let files = present tree c.args.kept.now in
    let whole = need_of files c.args.caller c.args.now c.args.op.now in
    let sound = c.requires.sound in
    c.an_operation_fits_its_grant.ensures files c.args.caller c.args.now c.args.op.now (record { bytes = whole.bytes; nodes = whole.nodes }) sound c.ranges.now.fits c.requires.call (pays_whole whole whole refl)

-- what was reckoned is what the operation asks for
asked : (g : Over) (c : goal.After-need-2-1 g) → c.in_ok-need.need ≡ need_of (present (g.B.Backing.state c.args.backing.now).tree c.args.kept.now) c.args.caller c.args.now c.args.op.now
asked g c =
    let tree = (g.B.Backing.state c.args.backing.now).tree in
    let files = present tree c.args.kept.now in
    let made = group_is files c.args.caller c.args.now c.args.op.now c.in_ok-reply.reply c.in_ok-reply.group c.in_ok-reply.ensures.found in
    need_whole (g.B.Backing.state c.plan.new.backing).tree tree c.args.kept.now c.args.caller c.args.now c.args.op.now c.in_ok-reply.group c.class_of.result c.in_ok-need.need
    c.requires.op (tree_on c.plan.ensures.looks) made c.class_of.ensures c.in_ok-need.ensures.need

pub plan-requires-clause-op : goal.plan-requires-clause-op
plan-requires-clause-op g c = not_truncate c.args.op.now c.requires.op

pub returns-then-is_empty-clause-done : goal.returns-then-is_empty-clause-done
returns-then-is_empty-clause-done g c =
    let tree = (g.B.Backing.state c.args.backing.now).tree in
    let files = present tree c.args.kept.now in
    let none : (length c.in_ok-reply.group == 0) ≡ true = ap (λ (group : List Change). length group == 0) (sym c.as_slice.ensures) ∙ sym c.is_empty.ensures ∙ c.if-is_empty.true in
    let limit = (g.B.Backing.state c.args.backing.now).orphan_limit in
    (files, within_none (orphan_room (g.B.Backing.state c.args.backing.now)) limit files c.args.caller c.args.now c.args.op.now c.in_ok-reply.reply c.in_ok-reply.group c.requires.op c.in_ok-reply.ensures.found none, alike_on (g.B.Backing.state c.plan.new.backing).tree tree c.args.kept.now (tree_on c.plan.ensures.looks))

pub need_of-requires-clause-gone : goal.need_of-requires-clause-gone
need_of-requires-clause-gone g c =
    let fits = fitting g c in
    (fits.gone, leaves (present (g.B.Backing.state c.args.backing.now).tree c.args.kept.now).tree fits.gone c.in_ok-reply.group fits.all)

pub need_of-requires-clause-limit : goal.need_of-requires-clause-limit
need_of-requires-clause-limit g c =
    let tree = (g.B.Backing.state c.args.backing.now).tree in
    let files = present tree c.args.kept.now in
    let whole = need_of files c.args.caller c.args.now c.args.op.now in
    let made = group_is files c.args.caller c.args.now c.args.op.now c.in_ok-reply.reply c.in_ok-reply.group c.in_ok-reply.ensures.found in
    (fits_on (g.B.Backing.state c.plan.new.backing).tree tree c.args.kept.now (record { bytes = whole.bytes; nodes = whole.nodes }) (group_of files c.args.caller c.args.now c.args.op.now) c.in_ok-reply.group (tree_on c.plan.ensures.looks) made (taken g c)).limit

pub returns-in_err-need-clause-goes : goal.returns-in_err-need-clause-goes
returns-in_err-need-clause-goes g c = goes_looked (both c.plan.ensures.looks c.need_of.ensures.looks) _

pub apply_group-requires-clause-modest : goal.apply_group-requires-clause-modest
apply_group-requires-clause-modest g c =
    let tree = (g.B.Backing.state c.args.backing.now).tree in
    let files = present tree c.args.kept.now in
    let sound = c.requires.sound in
    subst (λ need. IsModest need) (sym (asked g c)) (c.an_operation_asks_for_little.ensures files c.args.caller c.args.now c.args.op.now sound c.ranges.now.fits c.requires.call)

pub apply_group-requires-clause-fits : goal.apply_group-requires-clause-fits
apply_group-requires-clause-fits g c =
    let tree = (g.B.Backing.state c.args.backing.now).tree in
    let files = present tree c.args.kept.now in
    let made = group_is files c.args.caller c.args.now c.args.op.now c.in_ok-reply.reply c.in_ok-reply.group c.in_ok-reply.ensures.found in
    let grant : Grant = record { bytes = c.in_ok-need.need.bytes; nodes = c.in_ok-need.need.nodes } in
    let sound = c.requires.sound in
    let pays = pays_whole c.in_ok-need.need (need_of files c.args.caller c.args.now c.args.op.now) (asked g c) in
    let fits = c.an_operation_fits_its_grant.ensures files c.args.caller c.args.now c.args.op.now grant sound c.ranges.now.fits c.requires.call pays in
    fits_on (g.B.Backing.state c.need_of.new.backing).tree tree c.args.kept.now grant (group_of files c.args.caller c.args.now c.args.op.now) c.in_ok-reply.group
    (tree_on (both c.plan.ensures.looks c.need_of.ensures.looks)) made fits

pub apply_group-requires-clause-orphans : goal.apply_group-requires-clause-orphans
apply_group-requires-clause-orphans g c =
    let old = g.B.Backing.state c.args.backing.now in
    let files = present old.tree c.args.kept.now in
    let looks = both c.plan.ensures.looks c.need_of.ensures.looks in
    let free : ((orphan_room old == 0) && orphans c.in_ok-reply.group) ≡ false =
    ap (λ n. (n == 0) && orphans c.in_ok-reply.group) (sym (orphan_room_on c.plan.ensures.looks)) ∙ sym c.lacks_orphan_room.ensures ∙ c.if-lacks_orphan_room.false in
    let as_many = c.present_files_are_sound.ensures.nameless old.tree c.args.kept.now c.requires.kept in
    let room : orphan_room old ≡ old.orphan_limit - (length (nameless files.tree) + old.closed) = rw (sym as_many) refl in
    let fits = orphans_fit files c.args.caller c.args.now c.args.op.now c.in_ok-reply.reply c.in_ok-reply.group (orphan_room old) old.closed old.orphan_limit c.requires.sound c.requires.op c.in_ok-reply.ensures.found room free in
    subst (λ (s : BackingState). FitsOrphans (present s.tree c.args.kept.now).tree s.closed s.orphan_limit c.in_ok-reply.group) (sym looks.reads) fits

pub apply_group-requires-clause-names : goal.apply_group-requires-clause-names
apply_group-requires-clause-names g c =
    let tree = (g.B.Backing.state c.args.backing.now).tree in
    let files = present tree c.args.kept.now in
    let made = group_is files c.args.caller c.args.now c.args.op.now c.in_ok-reply.reply c.in_ok-reply.group c.in_ok-reply.ensures.found in
    let fits = subst (λ group. AreFitting files.tree group) made (group_fits files c.args.caller c.args.now c.args.op.now c.requires.op) in
    subst (λ t. AreOfNames (present t c.args.kept.now).tree c.in_ok-reply.group) (sym (tree_on (both c.plan.ensures.looks c.need_of.ensures.looks))) (names_of files.tree fits.gone c.in_ok-reply.group fits.all)

pub returns-in_err-apply_group-clause-refused : goal.returns-in_err-apply_group-clause-refused
returns-in_err-apply_group-clause-refused g c =
    let tree = (g.B.Backing.state c.args.backing.now).tree in
    let files = present tree c.args.kept.now in
    let whole = need_of files c.args.caller c.args.now c.args.op.now in
    let made = group_is files c.args.caller c.args.now c.args.op.now c.in_ok-reply.reply c.in_ok-reply.group c.in_ok-reply.ensures.found in
    let is : c.in_ok-need.need ≡ whole = need_whole (g.B.Backing.state c.plan.new.backing).tree tree c.args.kept.now c.args.caller c.args.now c.args.op.now c.in_ok-reply.group c.class_of.result c.in_ok-need.need c.requires.op (tree_on c.plan.ensures.looks) made c.class_of.ensures c.in_ok-need.ensures.need in
    let limit = (g.B.Backing.state c.args.backing.now).orphan_limit in
    let free : ((orphan_room (g.B.Backing.state c.args.backing.now) == 0) && orphans c.in_ok-reply.group) ≡ false =
    ap (λ n. (n == 0) && orphans c.in_ok-reply.group) (sym (orphan_room_on c.plan.ensures.looks)) ∙ sym c.lacks_orphan_room.ensures ∙ c.if-lacks_orphan_room.false in
    let plain = within_orphans (orphan_room (g.B.Backing.state c.args.backing.now)) limit files (outcome_of files c.args.caller c.args.now c.args.op.now) in
    let done = within_done (orphan_room (g.B.Backing.state c.args.backing.now)) limit files c.args.caller c.args.now c.args.op.now c.in_ok-reply.reply c.in_ok-reply.group c.requires.sound c.requires.op c.in_ok-reply.ensures.found free in
    let refused = refused_whole (both c.plan.ensures.looks c.need_of.ensures.looks) (g.B.Backing.state c.apply_group.new.backing) c.apply_group.new.kept c.in_ok-need.need whole c.in_err-apply_group.field-0.0 plain is (last_done plain (c.in_ok-reply.reply, record files { tree = apply files.tree c.in_ok-reply.group }) c.in_err-apply_group.field-0.0 done) c.in_err-apply_group.ensures.refused in
    search (rules, refused)

pub returns-in_err-apply_group-clause-goes : goal.returns-in_err-apply_group-clause-goes
returns-in_err-apply_group-clause-goes g c =
    let files = present (g.B.Backing.state c.args.backing.now).tree c.args.kept.now in
    let made = group_is files c.args.caller c.args.now c.args.op.now c.in_ok-reply.reply c.in_ok-reply.group c.in_ok-reply.ensures.found in
    goes_whole (both c.plan.ensures.looks c.need_of.ensures.looks) (g.B.Backing.state c.apply_group.new.backing) (length c.args.kept.now.pages.dirty) (group_of files c.args.caller c.args.now c.args.op.now) c.in_ok-reply.group made c.apply_group.ensures.goes

pub returns-clause-goes : goal.returns-clause-goes
returns-clause-goes g c =
    let files = present (g.B.Backing.state c.args.backing.now).tree c.args.kept.now in
    let made = group_is files c.args.caller c.args.now c.args.op.now c.in_ok-reply.reply c.in_ok-reply.group c.in_ok-reply.ensures.found in
    goes_whole (both c.plan.ensures.looks c.need_of.ensures.looks) (g.B.Backing.state c.apply_group.new.backing) (length c.args.kept.now.pages.dirty) (group_of files c.args.caller c.args.now c.args.op.now) c.in_ok-reply.group made c.apply_group.ensures.goes

pub returns-in_err-reply-clause-sound : goal.returns-in_err-reply-clause-sound
returns-in_err-reply-clause-sound g c = sound_on (g.B.Backing.state c.plan.new.backing).tree (g.B.Backing.state c.args.backing.now).tree c.args.kept.now (tree_on c.plan.ensures.looks) c.requires.sound

pub returns-then-is_empty-clause-sound : goal.returns-then-is_empty-clause-sound
returns-then-is_empty-clause-sound g c = sound_on (g.B.Backing.state c.plan.new.backing).tree (g.B.Backing.state c.args.backing.now).tree c.args.kept.now (tree_on c.plan.ensures.looks) c.requires.sound

pub returns-in_err-need-clause-sound : goal.returns-in_err-need-clause-sound
returns-in_err-need-clause-sound g c = sound_on (g.B.Backing.state c.need_of.new.backing).tree (g.B.Backing.state c.args.backing.now).tree c.args.kept.now (tree_on (both c.plan.ensures.looks c.need_of.ensures.looks)) c.requires.sound

pub returns-in_err-apply_group-clause-sound : goal.returns-in_err-apply_group-clause-sound
returns-in_err-apply_group-clause-sound g c =
    let tree = (g.B.Backing.state c.args.backing.now).tree in
    let later = (g.B.Backing.state c.need_of.new.backing).tree in
    let last = (g.B.Backing.state c.apply_group.new.backing).tree in
    alike_sound (present later c.args.kept.now) (present last c.apply_group.new.kept) c.in_err-apply_group.ensures.same (c.present_files_are_sound.ensures.proper last c.apply_group.new.kept c.apply_group.ensures.kept)
    (sound_on later tree c.args.kept.now (tree_on (both c.plan.ensures.looks c.need_of.ensures.looks)) c.requires.sound)

pub returns-clause-sound : goal.returns-clause-sound
returns-clause-sound g c =
    let tree = (g.B.Backing.state c.args.backing.now).tree in
    let later = (g.B.Backing.state c.need_of.new.backing).tree in
    let last = (g.B.Backing.state c.apply_group.new.backing).tree in
    let leaves = c.an_operation_leaves_files_sound.ensures (present tree c.args.kept.now) c.args.caller c.args.now c.args.op.now c.requires.sound c.ranges.now.fits c.requires.call in
    sound_done later tree c.args.kept.now c.args.caller c.args.now c.args.op.now c.in_ok-reply.reply c.in_ok-reply.group (present last c.apply_group.new.kept) c.requires.op
    (tree_on (both c.plan.ensures.looks c.need_of.ensures.looks)) c.in_ok-reply.ensures.found leaves c.in_ok-apply_group.ensures.ok (c.present_files_are_sound.ensures.proper last c.apply_group.new.kept c.apply_group.ensures.kept)

pub returns-then-lacks_orphan_room-clause-refused : goal.returns-then-lacks_orphan_room-clause-refused
returns-then-lacks_orphan_room-clause-refused g c =
    let tree = (g.B.Backing.state c.args.backing.now).tree in
    let files = present tree c.args.kept.now in
    let limit = (g.B.Backing.state c.args.backing.now).orphan_limit in
    let looks = c.plan.ensures.looks in
    let full : ((orphan_room (g.B.Backing.state c.args.backing.now) == 0) && orphans c.in_ok-reply.group) ≡ true =
    ap (λ n. (n == 0) && orphans c.in_ok-reply.group) (sym (orphan_room_on looks)) ∙ sym c.lacks_orphan_room.ensures ∙ c.if-lacks_orphan_room.true in
    let refused = within_full (orphan_room (g.B.Backing.state c.args.backing.now)) limit files c.args.caller c.args.now c.args.op.now c.in_ok-reply.reply c.in_ok-reply.group c.requires.sound c.requires.op c.in_ok-reply.ensures.found full in
    inl (inl (refused ∙ ap (λ n. Err (Enfile OrphanTable n)) (sym (c.orphan_limit.ensures ∙ orphan_limit_on looks))))

pub returns-clause-done : goal.returns-clause-done
returns-clause-done g c =
    let tree = (g.B.Backing.state c.args.backing.now).tree in
    let later = (g.B.Backing.state c.need_of.new.backing).tree in
    let limit = (g.B.Backing.state c.args.backing.now).orphan_limit in
    let free : ((orphan_room (g.B.Backing.state c.args.backing.now) == 0) && orphans c.in_ok-reply.group) ≡ false =
    ap (λ n. (n == 0) && orphans c.in_ok-reply.group) (sym (orphan_room_on c.plan.ensures.looks)) ∙ sym c.lacks_orphan_room.ensures ∙ c.if-lacks_orphan_room.false in
    done_alike (orphan_room (g.B.Backing.state c.args.backing.now)) limit later tree c.args.kept.now c.args.caller c.args.now c.args.op.now c.in_ok-reply.reply c.in_ok-reply.group (present (g.B.Backing.state c.apply_group.new.backing).tree c.apply_group.new.kept)
    c.requires.sound c.requires.op (tree_on (both c.plan.ensures.looks c.need_of.ensures.looks)) c.in_ok-reply.ensures.found free c.in_ok-apply_group.ensures.ok

pub returns-then-is_empty-clause-admitted : goal.returns-then-is_empty-clause-admitted
returns-then-is_empty-clause-admitted g c =
    let files = present (g.B.Backing.state c.args.backing.now).tree c.args.kept.now in
    let none : (length c.in_ok-reply.group == 0) ≡ true = ap (λ (group : List Change). length group == 0) (sym c.as_slice.ensures) ∙ sym c.is_empty.ensures ∙ c.if-is_empty.true in
    let made = group_is files c.args.caller c.args.now c.args.op.now c.in_ok-reply.reply c.in_ok-reply.group c.in_ok-reply.ensures.found in
    inl (ap (λ group. length group) made ∙ eqb-true (length c.in_ok-reply.group) 0 none)

pub returns-clause-admitted : goal.returns-clause-admitted
returns-clause-admitted g c =
    let files = present (g.B.Backing.state c.args.backing.now).tree c.args.kept.now in
    let made = group_is files c.args.caller c.args.now c.args.op.now c.in_ok-reply.reply c.in_ok-reply.group c.in_ok-reply.ensures.found in
    let is = need_whole (g.B.Backing.state c.plan.new.backing).tree (g.B.Backing.state c.args.backing.now).tree c.args.kept.now c.args.caller c.args.now c.args.op.now c.in_ok-reply.group c.class_of.result c.in_ok-need.need c.requires.op (tree_on c.plan.ensures.looks) made c.class_of.ensures c.in_ok-need.ensures.need in
    group_admitted (both c.plan.ensures.looks c.need_of.ensures.looks) (g.B.Backing.state c.apply_group.new.backing) c.args.kept.now c.in_ok-need.need (need_of files c.args.caller c.args.now c.args.op.now) (group_of files c.args.caller c.args.now c.args.op.now) c.in_ok-reply.group
    is made (nodes_are files c.args.caller c.args.now c.args.op.now (not_truncate c.args.op.now c.requires.op)) c.in_ok-apply_group.ensures.admitted

pub returns-in_err-reply-clause-at_once : goal.returns-in_err-reply-clause-at_once
returns-in_err-reply-clause-at_once g c done out room =
    let files = present (g.B.Backing.state c.args.backing.now).tree c.args.kept.now in
    let never = plan_refused (g.B.Backing.state c.args.backing.now) (g.B.Backing.state c.plan.new.backing) files c.args.caller c.args.now c.args.op.now c.in_err-reply.field-0.0 done c.requires.op c.in_err-reply.ensures.refused out in
    search (rules, never)

pub returns-in_err-apply_group-clause-at_once : goal.returns-in_err-apply_group-clause-at_once
returns-in_err-apply_group-clause-at_once g c done out room =
    let old = g.B.Backing.state c.args.backing.now in
    let files = present old.tree c.args.kept.now in
    let whole = need_of files c.args.caller c.args.now c.args.op.now in
    let made = group_is files c.args.caller c.args.now c.args.op.now c.in_ok-reply.reply c.in_ok-reply.group c.in_ok-reply.ensures.found in
    let is = need_whole (g.B.Backing.state c.plan.new.backing).tree old.tree c.args.kept.now c.args.caller c.args.now c.args.op.now c.in_ok-reply.group c.class_of.result c.in_ok-need.need c.requires.op (tree_on c.plan.ensures.looks) made c.class_of.ensures c.in_ok-need.ensures.need in
    let some : (length c.in_ok-reply.group == 0) ≡ false = ap (λ (group : List Change). length group == 0) (sym c.as_slice.ensures) ∙ sym c.is_empty.ensures ∙ c.if-is_empty.false in
    let nodes = nodes_are files c.args.caller c.args.now c.args.op.now (not_truncate c.args.op.now c.requires.op) in
    let fits = fits_once (both c.plan.ensures.looks c.need_of.ensures.looks) c.in_ok-need.need whole (group_of files c.args.caller c.args.now c.args.op.now) c.in_ok-reply.group is made nodes some room in
    let never = c.in_err-apply_group.ensures.at_once fits in
    search (rules, never)

pub returns-in_err-reply-clause-alone : goal.returns-in_err-reply-clause-alone
returns-in_err-reply-clause-alone g c done out room = goes_looked c.plan.ensures.looks _

pub returns-then-is_empty-clause-alone : goal.returns-then-is_empty-clause-alone
returns-then-is_empty-clause-alone g c done out room = goes_looked c.plan.ensures.looks _

pub returns-then-lacks_orphan_room-clause-alone : goal.returns-then-lacks_orphan_room-clause-alone
returns-then-lacks_orphan_room-clause-alone g c done out room = goes_looked c.plan.ensures.looks _

pub returns-in_err-need-clause-alone : goal.returns-in_err-need-clause-alone
returns-in_err-need-clause-alone g c done out room = goes_looked (both c.plan.ensures.looks c.need_of.ensures.looks) _

pub returns-in_err-apply_group-clause-alone : goal.returns-in_err-apply_group-clause-alone
returns-in_err-apply_group-clause-alone g c done out room =
    let old = g.B.Backing.state c.args.backing.now in
    let files = present old.tree c.args.kept.now in
    let whole = need_of files c.args.caller c.args.now c.args.op.now in
    let made = group_is files c.args.caller c.args.now c.args.op.now c.in_ok-reply.reply c.in_ok-reply.group c.in_ok-reply.ensures.found in
    let is = need_whole (g.B.Backing.state c.plan.new.backing).tree old.tree c.args.kept.now c.args.caller c.args.now c.args.op.now c.in_ok-reply.group c.class_of.result c.in_ok-need.need c.requires.op (tree_on c.plan.ensures.looks) made c.class_of.ensures c.in_ok-need.ensures.need in
    let some : (length c.in_ok-reply.group == 0) ≡ false = ap (λ (group : List Change). length group == 0) (sym c.as_slice.ensures) ∙ sym c.is_empty.ensures ∙ c.if-is_empty.false in
    let nodes = nodes_are files c.args.caller c.args.now c.args.op.now (not_truncate c.args.op.now c.requires.op) in
    let fits = fits_once (both c.plan.ensures.looks c.need_of.ensures.looks) c.in_ok-need.need whole (group_of files c.args.caller c.args.now c.args.op.now) c.in_ok-reply.group is made nodes some room in
    alone_whole (both c.plan.ensures.looks c.need_of.ensures.looks) (g.B.Backing.state c.apply_group.new.backing) (group_of files c.args.caller c.args.now c.args.op.now) c.in_ok-reply.group made (c.apply_group.ensures.alone fits)

pub returns-clause-alone : goal.returns-clause-alone
returns-clause-alone g c done out room =
    let old = g.B.Backing.state c.args.backing.now in
    let files = present old.tree c.args.kept.now in
    let whole = need_of files c.args.caller c.args.now c.args.op.now in
    let made = group_is files c.args.caller c.args.now c.args.op.now c.in_ok-reply.reply c.in_ok-reply.group c.in_ok-reply.ensures.found in
    let is = need_whole (g.B.Backing.state c.plan.new.backing).tree old.tree c.args.kept.now c.args.caller c.args.now c.args.op.now c.in_ok-reply.group c.class_of.result c.in_ok-need.need c.requires.op (tree_on c.plan.ensures.looks) made c.class_of.ensures c.in_ok-need.ensures.need in
    let some : (length c.in_ok-reply.group == 0) ≡ false = ap (λ (group : List Change). length group == 0) (sym c.as_slice.ensures) ∙ sym c.is_empty.ensures ∙ c.if-is_empty.false in
    let nodes = nodes_are files c.args.caller c.args.now c.args.op.now (not_truncate c.args.op.now c.requires.op) in
    let fits = fits_once (both c.plan.ensures.looks c.need_of.ensures.looks) c.in_ok-need.need whole (group_of files c.args.caller c.args.now c.args.op.now) c.in_ok-reply.group is made nodes some room in
    alone_whole (both c.plan.ensures.looks c.need_of.ensures.looks) (g.B.Backing.state c.apply_group.new.backing) (group_of files c.args.caller c.args.now c.args.op.now) c.in_ok-reply.group made (c.apply_group.ensures.alone fits)

pub returns-in_err-reply-clause-early : goal.returns-in_err-reply-clause-early
returns-in_err-reply-clause-early g c early = looked c.plan.ensures.looks c.args.kept.now c.args.kept.now refl

pub returns-in_err-need-clause-early : goal.returns-in_err-need-clause-early
returns-in_err-need-clause-early g c early = looked (both c.plan.ensures.looks c.need_of.ensures.looks) c.args.kept.now c.args.kept.now refl

pub returns-then-lacks_orphan_room-clause-early : goal.returns-then-lacks_orphan_room-clause-early
returns-then-lacks_orphan_room-clause-early g c early = looked c.plan.ensures.looks c.args.kept.now c.args.kept.now refl

pub returns-in_err-apply_group-clause-early : goal.returns-in_err-apply_group-clause-early
returns-in_err-apply_group-clause-early g c =
    let late = room_late (g.B.Backing.state c.need_of.new.backing) (g.B.Backing.state c.apply_group.new.backing) c.apply_group.new.kept c.in_ok-need.need c.in_err-apply_group.field-0.0 c.in_err-apply_group.ensures.refused in
    search (rules, late)

pub returns-in_err-reply-clause-grows : goal.returns-in_err-reply-clause-grows
returns-in_err-reply-clause-grows g c =
    let n = length (group_of (present (g.B.Backing.state c.args.backing.now).tree c.args.kept.now) c.args.caller c.args.now c.args.op.now) in
    let none = never {T = Reply} n (max 2 n) (Err c.in_err-reply.field-0.0) (g.B.Backing.state c.args.backing.now) (g.B.Backing.state c.plan.new.backing) c.args.kept.now c.args.kept.now (grows_looked c.plan.ensures.looks 0 c.args.kept.now) in
    search (rules, none)

pub returns-then-is_empty-clause-grows : goal.returns-then-is_empty-clause-grows
returns-then-is_empty-clause-grows g c = grows_looked c.plan.ensures.looks _ c.args.kept.now

pub returns-then-lacks_orphan_room-clause-grows : goal.returns-then-lacks_orphan_room-clause-grows
returns-then-lacks_orphan_room-clause-grows g c = grows_looked c.plan.ensures.looks _ c.args.kept.now

pub returns-in_err-need-clause-grows : goal.returns-in_err-need-clause-grows
returns-in_err-need-clause-grows g c =
    let n = length (group_of (present (g.B.Backing.state c.args.backing.now).tree c.args.kept.now) c.args.caller c.args.now c.args.op.now) in
    let none = never {T = Reply} n (max 2 n) (Err c.in_err-need.field-0.0) (g.B.Backing.state c.args.backing.now) (g.B.Backing.state c.need_of.new.backing) c.args.kept.now c.args.kept.now (grows_looked (both c.plan.ensures.looks c.need_of.ensures.looks) 0 c.args.kept.now) in
    search (rules, none)

pub returns-in_err-apply_group-clause-grows : goal.returns-in_err-apply_group-clause-grows
returns-in_err-apply_group-clause-grows g c =
    let files = present (g.B.Backing.state c.args.backing.now).tree c.args.kept.now in
    let made = group_is files c.args.caller c.args.now c.args.op.now c.in_ok-reply.reply c.in_ok-reply.group c.in_ok-reply.ensures.found in
    let n : length (group_of files c.args.caller c.args.now c.args.op.now) ≡ length c.in_ok-reply.group = ap (λ (group : List Change). length group) made in
    let put = after_look (added_or_refused {T = Unit {0}} (length c.in_ok-reply.group) (max 2 (length c.in_ok-reply.group)) (Err c.in_err-apply_group.field-0.0)) (g.B.Backing.state c.args.backing.now) (g.B.Backing.state c.need_of.new.backing) (g.B.Backing.state c.apply_group.new.backing) c.args.kept.now c.apply_group.new.kept (both c.plan.ensures.looks c.need_of.ensures.looks).goes c.in_err-apply_group.ensures.grows in
    let f = refused_wider (Unit {0}) Reply (length c.in_ok-reply.group) (length (group_of files c.args.caller c.args.now c.args.op.now)) (max 2 (length c.in_ok-reply.group)) (max 2 (length (group_of files c.args.caller c.args.now c.args.op.now))) c.in_err-apply_group.field-0.0 (g.B.Backing.state c.args.backing.now) (g.B.Backing.state c.apply_group.new.backing) c.args.kept.now c.apply_group.new.kept (subst (λ (k : ℕ). max 2 (length c.in_ok-reply.group) ≤ max 2 k) (sym n) (no_more (max 2 (length c.in_ok-reply.group)))) put in
    search (rules, f)

pub returns-clause-grows : goal.returns-clause-grows
returns-clause-grows g c =
    let files = present (g.B.Backing.state c.args.backing.now).tree c.args.kept.now in
    let made = group_is files c.args.caller c.args.now c.args.op.now c.in_ok-reply.reply c.in_ok-reply.group c.in_ok-reply.ensures.found in
    let n : length (group_of files c.args.caller c.args.now c.args.op.now) ≡ length c.in_ok-reply.group = ap (λ (group : List Change). length group) made in
    let put = after_look (length c.in_ok-reply.group) (g.B.Backing.state c.args.backing.now) (g.B.Backing.state c.need_of.new.backing) (g.B.Backing.state c.apply_group.new.backing) c.args.kept.now c.apply_group.new.kept (both c.plan.ensures.looks c.need_of.ensures.looks).goes c.in_ok-apply_group.ensures.grows in
    subst (λ (k : ℕ). GrowsBy k (g.B.Backing.state c.args.backing.now) (g.B.Backing.state c.apply_group.new.backing) c.args.kept.now c.apply_group.new.kept) (sym n) put

pub returns-in_err-reply-clause-closed : goal.returns-in_err-reply-clause-closed
returns-in_err-reply-clause-closed g c = closed_few c.plan.ensures.looks

pub returns-then-is_empty-clause-closed : goal.returns-then-is_empty-clause-closed
returns-then-is_empty-clause-closed g c = closed_few c.plan.ensures.looks

pub returns-then-lacks_orphan_room-clause-closed : goal.returns-then-lacks_orphan_room-clause-closed
returns-then-lacks_orphan_room-clause-closed g c = closed_few c.plan.ensures.looks

pub returns-in_err-need-clause-closed : goal.returns-in_err-need-clause-closed
returns-in_err-need-clause-closed g c = closed_few (both c.plan.ensures.looks c.need_of.ensures.looks)

pub returns-in_err-apply_group-clause-closed : goal.returns-in_err-apply_group-clause-closed
returns-in_err-apply_group-clause-closed g c = closed_then (both c.plan.ensures.looks c.need_of.ensures.looks) (g.B.Backing.state c.apply_group.new.backing) c.apply_group.ensures.closed

pub returns-clause-closed : goal.returns-clause-closed
returns-clause-closed g c = closed_then (both c.plan.ensures.looks c.need_of.ensures.looks) (g.B.Backing.state c.apply_group.new.backing) c.apply_group.ensures.closed

pub returns-in_err-reply-clause-cut : goal.returns-in_err-reply-clause-cut
returns-in_err-reply-clause-cut g c =
    let f = cut_refused (g.B.Backing.state c.args.backing.now) (g.B.Backing.state c.plan.new.backing) c.args.kept.now (group_of (present (g.B.Backing.state c.args.backing.now).tree c.args.kept.now) c.args.caller c.args.now c.args.op.now) c.in_err-reply.field-0.0 (cut_looked c.plan.ensures.looks c.args.kept.now) in
    search (rules, f)

pub returns-then-is_empty-clause-cut : goal.returns-then-is_empty-clause-cut
returns-then-is_empty-clause-cut g c =
    let old = g.B.Backing.state c.args.backing.now in
    let made = group_is (present old.tree c.args.kept.now) c.args.caller c.args.now c.args.op.now c.in_ok-reply.reply c.in_ok-reply.group c.in_ok-reply.ensures.found in
    let none : (length c.in_ok-reply.group == 0) ≡ true = ap (λ (group : List Change). length group == 0) (sym c.as_slice.ensures) ∙ sym c.is_empty.ensures ∙ c.if-is_empty.true in
    cut_with old (g.B.Backing.state c.plan.new.backing) c.args.kept.now _ WasPut (inr (made ∙ no_changes c.in_ok-reply.group none, refl)) (cut_looked c.plan.ensures.looks c.args.kept.now)

pub returns-then-lacks_orphan_room-clause-cut : goal.returns-then-lacks_orphan_room-clause-cut
returns-then-lacks_orphan_room-clause-cut g c = cut_with (g.B.Backing.state c.args.backing.now) (g.B.Backing.state c.plan.new.backing) c.args.kept.now _ NotPut refl (cut_looked c.plan.ensures.looks c.args.kept.now)

pub returns-in_err-need-clause-cut : goal.returns-in_err-need-clause-cut
returns-in_err-need-clause-cut g c =
    let f = cut_refused (g.B.Backing.state c.args.backing.now) (g.B.Backing.state c.need_of.new.backing) c.args.kept.now (group_of (present (g.B.Backing.state c.args.backing.now).tree c.args.kept.now) c.args.caller c.args.now c.args.op.now) c.in_err-need.field-0.0 (cut_looked (both c.plan.ensures.looks c.need_of.ensures.looks) c.args.kept.now) in
    search (rules, f)

pub returns-in_err-apply_group-clause-cut : goal.returns-in_err-apply_group-clause-cut
returns-in_err-apply_group-clause-cut g c =
    let old = g.B.Backing.state c.args.backing.now in
    let new = g.B.Backing.state c.apply_group.new.backing in
    let files = present old.tree c.args.kept.now in
    let made = group_is files c.args.caller c.args.now c.args.op.now c.in_ok-reply.reply c.in_ok-reply.group c.in_ok-reply.ensures.found in
    let f = looked_put (both c.plan.ensures.looks c.need_of.ensures.looks) new c.args.kept.now (group_of files c.args.caller c.args.now c.args.op.now) c.in_ok-reply.group (refused_fate c.in_err-apply_group.field-0.0) made c.in_err-apply_group.ensures.cut in
    search (rules, f)

pub returns-clause-cut : goal.returns-clause-cut
returns-clause-cut g c =
    let old = g.B.Backing.state c.args.backing.now in
    let new = g.B.Backing.state c.apply_group.new.backing in
    let files = present old.tree c.args.kept.now in
    let made = group_is files c.args.caller c.args.now c.args.op.now c.in_ok-reply.reply c.in_ok-reply.group c.in_ok-reply.ensures.found in
    looked_put (both c.plan.ensures.looks c.need_of.ensures.looks) new c.args.kept.now (group_of files c.args.caller c.args.now c.args.op.now) c.in_ok-reply.group WasPut made c.in_ok-apply_group.ensures.cut

pub need_of-requires-clause-kept : goal.need_of-requires-clause-kept
need_of-requires-clause-kept g c = kept_on c.plan.ensures.looks c.args.kept.now c.requires.kept

pub apply_group-requires-clause-kept : goal.apply_group-requires-clause-kept
apply_group-requires-clause-kept g c = kept_on (both c.plan.ensures.looks c.need_of.ensures.looks) c.args.kept.now c.requires.kept

pub apply_group-requires-clause-paid : goal.apply_group-requires-clause-paid
apply_group-requires-clause-paid g c = paid_on (both c.plan.ensures.looks c.need_of.ensures.looks) (length c.args.kept.now.pages.dirty) c.requires.paid

pub apply_group-requires-clause-credits : goal.apply_group-requires-clause-credits
apply_group-requires-clause-credits g c = ap (λ (need : Need). need.credits) c.in_ok-need.ensures.need

pub returns-in_err-reply-clause-kept : goal.returns-in_err-reply-clause-kept
returns-in_err-reply-clause-kept g c = kept_on c.plan.ensures.looks c.args.kept.now c.requires.kept

pub returns-in_err-reply-clause-paid : goal.returns-in_err-reply-clause-paid
returns-in_err-reply-clause-paid g c = paid_on c.plan.ensures.looks (length c.args.kept.now.pages.dirty) c.requires.paid

pub returns-in_err-reply-clause-issued : goal.returns-in_err-reply-clause-issued
returns-in_err-reply-clause-issued g c = issued_on c.plan.ensures.looks (length c.args.kept.now.pages.dirty)

pub returns-in_err-reply-clause-sure : goal.returns-in_err-reply-clause-sure
returns-in_err-reply-clause-sure g c = c.plan.ensures.looks.sure

pub returns-in_err-reply-clause-goes : goal.returns-in_err-reply-clause-goes
returns-in_err-reply-clause-goes g c = goes_looked c.plan.ensures.looks _

pub returns-in_err-reply-clause-same : goal.returns-in_err-reply-clause-same
returns-in_err-reply-clause-same g c = let same = same_on c.plan.ensures.looks c.args.kept.now in search (rules, same)

pub returns-then-is_empty-clause-kept : goal.returns-then-is_empty-clause-kept
returns-then-is_empty-clause-kept g c = kept_on c.plan.ensures.looks c.args.kept.now c.requires.kept

pub returns-then-is_empty-clause-paid : goal.returns-then-is_empty-clause-paid
returns-then-is_empty-clause-paid g c = paid_on c.plan.ensures.looks (length c.args.kept.now.pages.dirty) c.requires.paid

pub returns-then-is_empty-clause-issued : goal.returns-then-is_empty-clause-issued
returns-then-is_empty-clause-issued g c = issued_on c.plan.ensures.looks (length c.args.kept.now.pages.dirty)

pub returns-then-is_empty-clause-sure : goal.returns-then-is_empty-clause-sure
returns-then-is_empty-clause-sure g c = c.plan.ensures.looks.sure

pub returns-then-is_empty-clause-goes : goal.returns-then-is_empty-clause-goes
returns-then-is_empty-clause-goes g c = goes_looked c.plan.ensures.looks _

pub returns-then-lacks_orphan_room-clause-kept : goal.returns-then-lacks_orphan_room-clause-kept
returns-then-lacks_orphan_room-clause-kept g c = kept_on c.plan.ensures.looks c.args.kept.now c.requires.kept

pub returns-then-lacks_orphan_room-clause-paid : goal.returns-then-lacks_orphan_room-clause-paid
returns-then-lacks_orphan_room-clause-paid g c = paid_on c.plan.ensures.looks (length c.args.kept.now.pages.dirty) c.requires.paid

pub returns-then-lacks_orphan_room-clause-issued : goal.returns-then-lacks_orphan_room-clause-issued
returns-then-lacks_orphan_room-clause-issued g c = issued_on c.plan.ensures.looks (length c.args.kept.now.pages.dirty)

pub returns-then-lacks_orphan_room-clause-sure : goal.returns-then-lacks_orphan_room-clause-sure
returns-then-lacks_orphan_room-clause-sure g c = c.plan.ensures.looks.sure

pub returns-then-lacks_orphan_room-clause-goes : goal.returns-then-lacks_orphan_room-clause-goes
returns-then-lacks_orphan_room-clause-goes g c = goes_looked c.plan.ensures.looks _

pub returns-in_err-need-clause-kept : goal.returns-in_err-need-clause-kept
returns-in_err-need-clause-kept g c = kept_on (both c.plan.ensures.looks c.need_of.ensures.looks) c.args.kept.now c.requires.kept

pub returns-in_err-need-clause-paid : goal.returns-in_err-need-clause-paid
returns-in_err-need-clause-paid g c = paid_on (both c.plan.ensures.looks c.need_of.ensures.looks) (length c.args.kept.now.pages.dirty) c.requires.paid

pub returns-in_err-need-clause-issued : goal.returns-in_err-need-clause-issued
returns-in_err-need-clause-issued g c = issued_on (both c.plan.ensures.looks c.need_of.ensures.looks) (length c.args.kept.now.pages.dirty)

pub returns-in_err-need-clause-sure : goal.returns-in_err-need-clause-sure
returns-in_err-need-clause-sure g c = (both c.plan.ensures.looks c.need_of.ensures.looks).sure

pub returns-in_err-need-clause-same : goal.returns-in_err-need-clause-same
returns-in_err-need-clause-same g c = let same = same_on (both c.plan.ensures.looks c.need_of.ensures.looks) c.args.kept.now in search (rules, same)

pub returns-then-lacks_orphan_room-clause-same : goal.returns-then-lacks_orphan_room-clause-same
returns-then-lacks_orphan_room-clause-same g c = same_on c.plan.ensures.looks c.args.kept.now

pub returns-then-lacks_orphan_room-clause-sound : goal.returns-then-lacks_orphan_room-clause-sound
returns-then-lacks_orphan_room-clause-sound g c = sound_on (g.B.Backing.state c.plan.new.backing).tree (g.B.Backing.state c.args.backing.now).tree c.args.kept.now (tree_on c.plan.ensures.looks) c.requires.sound

pub returns-then-is_empty-clause-early : goal.returns-then-is_empty-clause-early
returns-then-is_empty-clause-early g c early = absurd early

pub returns-clause-early : goal.returns-clause-early
returns-clause-early g c early = absurd early

pub returns-in_err-apply_group-clause-kept : goal.returns-in_err-apply_group-clause-kept
returns-in_err-apply_group-clause-kept g c = c.apply_group.ensures.kept

pub returns-in_err-apply_group-clause-paid : goal.returns-in_err-apply_group-clause-paid
returns-in_err-apply_group-clause-paid g c = c.apply_group.ensures.paid

pub returns-in_err-apply_group-clause-issued : goal.returns-in_err-apply_group-clause-issued
returns-in_err-apply_group-clause-issued g c = issued_then (both c.plan.ensures.looks c.need_of.ensures.looks) (g.B.Backing.state c.apply_group.new.backing) (length c.args.kept.now.pages.dirty) (length c.apply_group.new.kept.pages.dirty) c.apply_group.ensures.issued

pub returns-in_err-apply_group-clause-sure : goal.returns-in_err-apply_group-clause-sure
returns-in_err-apply_group-clause-sure g c = sure_then (both c.plan.ensures.looks c.need_of.ensures.looks) (g.B.Backing.outlook c.apply_group.new.backing) (g.B.Backing.state c.apply_group.new.backing) c.apply_group.ensures.sure

pub returns-clause-kept : goal.returns-clause-kept
returns-clause-kept g c = c.apply_group.ensures.kept

pub returns-clause-paid : goal.returns-clause-paid
returns-clause-paid g c = c.apply_group.ensures.paid

pub returns-clause-issued : goal.returns-clause-issued
returns-clause-issued g c = issued_then (both c.plan.ensures.looks c.need_of.ensures.looks) (g.B.Backing.state c.apply_group.new.backing) (length c.args.kept.now.pages.dirty) (length c.apply_group.new.kept.pages.dirty) c.apply_group.ensures.issued

pub returns-clause-sure : goal.returns-clause-sure
returns-clause-sure g c = sure_then (both c.plan.ensures.looks c.need_of.ensures.looks) (g.B.Backing.outlook c.apply_group.new.backing) (g.B.Backing.state c.apply_group.new.backing) c.apply_group.ensures.sure

pub returns-in_err-apply_group-clause-same : goal.returns-in_err-apply_group-clause-same
returns-in_err-apply_group-clause-same g c =
    let last = present (g.B.Backing.state c.apply_group.new.backing).tree c.apply_group.new.kept in
    let same = same_then (both c.plan.ensures.looks c.need_of.ensures.looks) c.args.kept.now last c.in_err-apply_group.ensures.same in
    search (rules, same)

pub returns-in_err-need-clause-at_once : goal.returns-in_err-need-clause-at_once
returns-in_err-need-clause-at_once g c done out room =
    let never = fault_at_once Reply (g.B.Backing.state c.plan.new.backing) (g.B.Backing.state c.need_of.new.backing) c.in_err-need.field-0.0 c.in_err-need.ensures.refused in
    search (rules, never)

pub returns-in_err-need-clause-refused : goal.returns-in_err-need-clause-refused
returns-in_err-need-clause-refused g c =
    let old = g.B.Backing.state c.args.backing.now in
    let files = present old.tree c.args.kept.now in
    let plain = within_orphans (orphan_room old) old.orphan_limit files (outcome_of files c.args.caller c.args.now c.args.op.now) in
    let refused = fault_turned c.plan.ensures.looks (g.B.Backing.state c.need_of.new.backing) c.args.kept.now (need_of files c.args.caller c.args.now c.args.op.now) plain c.in_err-need.field-0.0 c.in_err-need.ensures.refused in
    search (rules, refused)

pub returns-in_err-reply-clause-refused : goal.returns-in_err-reply-clause-refused
returns-in_err-reply-clause-refused g c =
    let old = g.B.Backing.state c.args.backing.now in
    let files = present old.tree c.args.kept.now in
    let refused = plan_turned old (g.B.Backing.state c.plan.new.backing) c.args.kept.now (need_of files c.args.caller c.args.now c.args.op.now) files c.args.caller c.args.now (orphan_room old) old.orphan_limit c.args.op.now c.in_err-reply.field-0.0 c.requires.op c.in_err-reply.ensures.refused in
    search (rules, refused)
