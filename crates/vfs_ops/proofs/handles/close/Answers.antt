use Rattle.std.proofs.Common.{ℕ, ap, arith, inl, length, refl, rules, sym, subst, ◌∙◌}
use Rattle.std.specs.BTreeMap.{is_at}
use Rattle.std.specs.Map.{remove_entry}
use Rattle.fs_model.specs.Backing.{BackingState, next_orphans}
use Rattle.fs_model.specs.CallFaults.{refusal_of}
use Rattle.fs_model.specs.Change.{without_inode}
use Rattle.fs_model.specs.Files.{pair_cmp}
use Rattle.fs_model.specs.Handles.{closed}
use Rattle.fs_model.specs.Proper.{IsProper}
use Rattle.buffered_files.specs.CallLaws.{Goes-then, Sure-none}
use Rattle.buffered_files.specs.Present.{covered, present}
use Rattle.vfs_ops.proofs.Closing.{bad_closed, closed_sound, dropped_done, dropped_sound, handles_done, handles_kept, handles_sound, lost_nameless, lost_sound, unopened_closed}
use Rattle.vfs_ops.proofs.Held.{fault_refused, files_none, files_on, files_then, goes_none, grows_none, issued_on, issued_then, kept_on, no_more, paid_on, stays_sound, store_turned, sure_then}
use Rattle.vfs_ops.proofs.Looking.{looked, same_looks, store_late}
use Rattle.vfs_ops.proofs.States.{tree_on}
use Rattle.vfs_ops.proofs.Takes.{sound_on}
use Rattle.vfs_ops.proofs.Orphaning.{looked_orphans}
use Rattle.vfs_ops.proofs.Weighing.{after_look, no_heavier}
use Rattle.vfs_ops.proofs.handles.close.Goals as goal

pub drop_orphan-requires-clause-proper : goal.drop_orphan-requires-clause-proper
drop_orphan-requires-clause-proper g c =
    let tree = (g.B.Backing.state c.args.backing.now).tree in
    let kept = c.args.kept.now in
    let files = present tree kept in
    let law = c.a_closed_file_keeps_trees_proper.ensures files c.args.caller 0 c.args.slot c.requires.sound in
    let sound = lost_sound files c.args.caller c.args.slot c.in-Some.ino (sym c.is_bad_slot.ensures ∙ c.if-is_bad_slot.false) (sym c.get.ensures ∙ c.in-Some.is) (sym c.in_ok-is_lost.ensures.lost ∙ c.if-branch.true) law in
    subst (λ t. IsProper (without_inode (covered t kept.inodes kept.pages.dirty) c.in-Some.ino)) (sym (tree_on c.is_lost.ensures.looks)) sound.proper

pub returns-in_err-drop_orphan-clause-goes : goal.returns-in_err-drop_orphan-clause-goes
returns-in_err-drop_orphan-clause-goes g c =
    Goes-then 0 0 (g.B.Backing.state c.args.backing.now) (g.B.Backing.state c.is_lost.new.backing) (g.B.Backing.state c.drop_orphan.new.backing) c.is_lost.ensures.looks.goes c.drop_orphan.ensures.goes

pub returns-then-branch-clause-sound : goal.returns-then-branch-clause-sound
returns-then-branch-clause-sound g c =
    let tree = (g.B.Backing.state c.args.backing.now).tree in
    let kept = c.args.kept.now in
    let files = present tree kept in
    let law = c.a_closed_file_keeps_trees_proper.ensures files c.args.caller 0 c.args.slot c.requires.sound in
    let sound = lost_sound files c.args.caller c.args.slot c.in-Some.ino (sym c.is_bad_slot.ensures ∙ c.if-is_bad_slot.false) (sym c.get.ensures ∙ c.in-Some.is) (sym c.in_ok-is_lost.ensures.lost ∙ c.if-branch.true) law in
    dropped_sound (g.B.Backing.state c.is_lost.new.backing).tree tree (g.B.Backing.state c.drop_orphan.new.backing).tree kept c.drop_orphan.new.kept c.remove.new.self c.args.caller c.args.slot c.in-Some.ino
    (tree_on c.is_lost.ensures.looks) c.in_ok-drop_orphan.ensures.ok c.remove.ensures.gone sound

pub returns-then-branch-clause-goes : goal.returns-then-branch-clause-goes
returns-then-branch-clause-goes g c =
    Goes-then 0 0 (g.B.Backing.state c.args.backing.now) (g.B.Backing.state c.is_lost.new.backing) (g.B.Backing.state c.drop_orphan.new.backing) c.is_lost.ensures.looks.goes c.drop_orphan.ensures.goes

pub returns-clause-kept : goal.returns-clause-kept
returns-clause-kept g c =
    handles_kept (g.B.Backing.state c.is_lost.new.backing).tree (g.B.Backing.state c.args.backing.now).tree c.args.kept.now c.remove-2.new.self (tree_on c.is_lost.ensures.looks) c.requires.kept

pub returns-clause-sound : goal.returns-clause-sound
returns-clause-sound g c =
    let tree = (g.B.Backing.state c.args.backing.now).tree in
    let kept = c.args.kept.now in
    let files = present tree kept in
    let law = c.a_closed_file_keeps_trees_proper.ensures files c.args.caller 0 c.args.slot c.requires.sound in
    let sound = closed_sound files c.args.caller c.args.slot c.in-Some.ino (sym c.is_bad_slot.ensures ∙ c.if-is_bad_slot.false) (sym c.get.ensures ∙ c.in-Some.is) (sym c.in_ok-is_lost.ensures.lost ∙ c.if-branch.false) law in
    handles_sound (g.B.Backing.state c.is_lost.new.backing).tree tree kept c.remove-2.new.self (remove_entry (is_at (pair_cmp (c.args.caller, c.args.slot))) kept.handles) (tree_on c.is_lost.ensures.looks) c.remove-2.ensures.gone sound

pub returns-in_err-drop_orphan-clause-early : goal.returns-in_err-drop_orphan-clause-early
returns-in_err-drop_orphan-clause-early g c =
    let late = store_late c.in_err-drop_orphan.field-0.0 in
    search (rules, late)

pub returns-in_err-is_lost-clause-grows : goal.returns-in_err-is_lost-clause-grows
returns-in_err-is_lost-clause-grows g c = no_heavier 0 (g.B.Backing.state c.args.backing.now) (g.B.Backing.state c.is_lost.new.backing) c.args.kept.now c.args.kept.now c.is_lost.ensures.looks.goes (omega arith)

pub returns-in_err-is_lost-clause-orphans : goal.returns-in_err-is_lost-clause-orphans
returns-in_err-is_lost-clause-orphans g c = looked_orphans c.is_lost.ensures.looks

pub returns-in_err-drop_orphan-clause-grows : goal.returns-in_err-drop_orphan-clause-grows
returns-in_err-drop_orphan-clause-grows g c = after_look 0 (g.B.Backing.state c.args.backing.now) (g.B.Backing.state c.is_lost.new.backing) (g.B.Backing.state c.drop_orphan.new.backing) c.args.kept.now c.drop_orphan.new.kept c.is_lost.ensures.looks.goes c.drop_orphan.ensures.grows

pub returns-in_err-drop_orphan-clause-orphans : goal.returns-in_err-drop_orphan-clause-orphans
returns-in_err-drop_orphan-clause-orphans g c = let first = looked_orphans c.is_lost.ensures.looks in let second = c.drop_orphan.ensures.orphans in omega (arith, first, second)

pub returns-then-branch-clause-grows : goal.returns-then-branch-clause-grows
returns-then-branch-clause-grows g c = after_look 0 (g.B.Backing.state c.args.backing.now) (g.B.Backing.state c.is_lost.new.backing) (g.B.Backing.state c.drop_orphan.new.backing) c.args.kept.now c.drop_orphan.new.kept c.is_lost.ensures.looks.goes c.drop_orphan.ensures.grows

pub returns-then-branch-clause-orphans : goal.returns-then-branch-clause-orphans
returns-then-branch-clause-orphans g c = let first = looked_orphans c.is_lost.ensures.looks in let second = c.drop_orphan.ensures.orphans in omega (arith, first, second)

pub returns-clause-grows : goal.returns-clause-grows
returns-clause-grows g c = no_heavier 0 (g.B.Backing.state c.args.backing.now) (g.B.Backing.state c.is_lost.new.backing) c.args.kept.now c.args.kept.now c.is_lost.ensures.looks.goes (omega arith)

pub returns-clause-orphans : goal.returns-clause-orphans
returns-clause-orphans g c = looked_orphans c.is_lost.ensures.looks

pub returns-in_err-is_lost-clause-journal : goal.returns-in_err-is_lost-clause-journal
returns-in_err-is_lost-clause-journal g c = ap (λ (s : BackingState). s.journal) c.is_lost.ensures.looks.reads

pub returns-in_err-drop_orphan-clause-journal : goal.returns-in_err-drop_orphan-clause-journal
returns-in_err-drop_orphan-clause-journal g c = c.drop_orphan.ensures.journal ∙ ap (λ (s : BackingState). s.journal) c.is_lost.ensures.looks.reads

pub returns-then-branch-clause-journal : goal.returns-then-branch-clause-journal
returns-then-branch-clause-journal g c = c.drop_orphan.ensures.journal ∙ ap (λ (s : BackingState). s.journal) c.is_lost.ensures.looks.reads

pub returns-clause-journal : goal.returns-clause-journal
returns-clause-journal g c = ap (λ (s : BackingState). s.journal) c.is_lost.ensures.looks.reads

pub drop_orphan-requires-clause-kept : goal.drop_orphan-requires-clause-kept
drop_orphan-requires-clause-kept g c = kept_on c.is_lost.ensures.looks c.args.kept.now c.requires.kept

pub drop_orphan-requires-clause-paid : goal.drop_orphan-requires-clause-paid
drop_orphan-requires-clause-paid g c = paid_on c.is_lost.ensures.looks (length c.args.kept.now.pages.dirty) c.requires.paid

pub drop_orphan-requires-clause-nameless : goal.drop_orphan-requires-clause-nameless
drop_orphan-requires-clause-nameless g c = lost_nameless (g.B.Backing.state c.is_lost.new.backing).tree (g.B.Backing.state c.args.backing.now).tree c.args.kept.now c.in-Some.ino _ (tree_on c.is_lost.ensures.looks) (sym c.in_ok-is_lost.ensures.lost ∙ c.if-branch.true)

pub returns-then-is_bad_slot-clause-goes : goal.returns-then-is_bad_slot-clause-goes
returns-then-is_bad_slot-clause-goes g c = goes_none 0 (g.B.Backing.state c.args.backing.now)

pub returns-then-is_bad_slot-clause-grows : goal.returns-then-is_bad_slot-clause-grows
returns-then-is_bad_slot-clause-grows g c = grows_none 0 (g.B.Backing.state c.args.backing.now) c.args.kept.now

pub returns-then-is_bad_slot-clause-sure : goal.returns-then-is_bad_slot-clause-sure
returns-then-is_bad_slot-clause-sure g c = Sure-none (g.B.Backing.outlook c.args.backing.now) (g.B.Backing.state c.args.backing.now)

pub returns-then-is_bad_slot-clause-files : goal.returns-then-is_bad_slot-clause-files
returns-then-is_bad_slot-clause-files g c = files_none (g.B.Backing.state c.args.backing.now)

pub returns-then-is_bad_slot-clause-orphans : goal.returns-then-is_bad_slot-clause-orphans
returns-then-is_bad_slot-clause-orphans g c = no_more (next_orphans (g.B.Backing.state c.args.backing.now))

pub returns-then-is_bad_slot-clause-early : goal.returns-then-is_bad_slot-clause-early
returns-then-is_bad_slot-clause-early g c early = same_looks (g.B.Backing.state c.args.backing.now) (g.B.Backing.state c.args.backing.now) c.args.kept.now c.args.kept.now refl refl

pub returns-in_default-clause-goes : goal.returns-in_default-clause-goes
returns-in_default-clause-goes g c = goes_none 0 (g.B.Backing.state c.args.backing.now)

pub returns-in_default-clause-grows : goal.returns-in_default-clause-grows
returns-in_default-clause-grows g c = grows_none 0 (g.B.Backing.state c.args.backing.now) c.args.kept.now

pub returns-in_default-clause-sure : goal.returns-in_default-clause-sure
returns-in_default-clause-sure g c = Sure-none (g.B.Backing.outlook c.args.backing.now) (g.B.Backing.state c.args.backing.now)

pub returns-in_default-clause-files : goal.returns-in_default-clause-files
returns-in_default-clause-files g c = files_none (g.B.Backing.state c.args.backing.now)

pub returns-in_default-clause-orphans : goal.returns-in_default-clause-orphans
returns-in_default-clause-orphans g c = no_more (next_orphans (g.B.Backing.state c.args.backing.now))

pub returns-in_default-clause-early : goal.returns-in_default-clause-early
returns-in_default-clause-early g c early = same_looks (g.B.Backing.state c.args.backing.now) (g.B.Backing.state c.args.backing.now) c.args.kept.now c.args.kept.now refl refl

pub returns-then-is_bad_slot-clause-refused : goal.returns-then-is_bad_slot-clause-refused
returns-then-is_bad_slot-clause-refused g c now = inl (bad_closed (present (g.B.Backing.state c.args.backing.now).tree c.args.kept.now) c.args.caller c.args.slot (sym c.is_bad_slot.ensures ∙ c.if-is_bad_slot.true))

pub returns-in_default-clause-refused : goal.returns-in_default-clause-refused
returns-in_default-clause-refused g c now = inl (unopened_closed (present (g.B.Backing.state c.args.backing.now).tree c.args.kept.now) c.args.caller c.args.slot (sym c.is_bad_slot.ensures ∙ c.if-is_bad_slot.false) (sym c.get.ensures ∙ c.in_default.is))

pub returns-in_err-is_lost-clause-kept : goal.returns-in_err-is_lost-clause-kept
returns-in_err-is_lost-clause-kept g c = kept_on c.is_lost.ensures.looks c.args.kept.now c.requires.kept

pub returns-in_err-is_lost-clause-paid : goal.returns-in_err-is_lost-clause-paid
returns-in_err-is_lost-clause-paid g c = paid_on c.is_lost.ensures.looks (length c.args.kept.now.pages.dirty) c.requires.paid

pub returns-in_err-is_lost-clause-sound : goal.returns-in_err-is_lost-clause-sound
returns-in_err-is_lost-clause-sound g c = sound_on (g.B.Backing.state c.is_lost.new.backing).tree (g.B.Backing.state c.args.backing.now).tree c.args.kept.now (tree_on c.is_lost.ensures.looks) c.requires.sound

pub returns-in_err-is_lost-clause-issued : goal.returns-in_err-is_lost-clause-issued
returns-in_err-is_lost-clause-issued g c = issued_on c.is_lost.ensures.looks (length c.args.kept.now.pages.dirty)

pub returns-in_err-is_lost-clause-files : goal.returns-in_err-is_lost-clause-files
returns-in_err-is_lost-clause-files g c = let kept = files_on c.is_lost.ensures.looks in search (rules, kept)

pub returns-in_err-is_lost-clause-early : goal.returns-in_err-is_lost-clause-early
returns-in_err-is_lost-clause-early g c early = looked c.is_lost.ensures.looks c.args.kept.now c.args.kept.now refl

pub returns-in_err-is_lost-clause-goes : goal.returns-in_err-is_lost-clause-goes
returns-in_err-is_lost-clause-goes g c = c.is_lost.ensures.looks.goes

pub returns-in_err-is_lost-clause-sure : goal.returns-in_err-is_lost-clause-sure
returns-in_err-is_lost-clause-sure g c = c.is_lost.ensures.looks.sure

pub returns-in_err-is_lost-clause-refused : goal.returns-in_err-is_lost-clause-refused
returns-in_err-is_lost-clause-refused g c =
    let fault = c.in_err-is_lost.ensures.refused in
    let refused = λ (now : ℕ). fault_refused (g.B.Backing.state c.args.backing.now) (g.B.Backing.state c.is_lost.new.backing) (closed (present (g.B.Backing.state c.args.backing.now).tree c.args.kept.now) c.args.caller c.args.slot) c.in_err-is_lost.field-0.0 fault in
    search (rules, refused)

pub returns-in_err-drop_orphan-clause-sound : goal.returns-in_err-drop_orphan-clause-sound
returns-in_err-drop_orphan-clause-sound g c = stays_sound c.is_lost.ensures.looks (g.B.Backing.state c.drop_orphan.new.backing) c.args.kept.now c.drop_orphan.new.kept c.in_err-drop_orphan.ensures.same c.in_err-drop_orphan.ensures.files.tree c.requires.sound

pub returns-in_err-drop_orphan-clause-files : goal.returns-in_err-drop_orphan-clause-files
returns-in_err-drop_orphan-clause-files g c = let kept = files_then c.is_lost.ensures.looks (g.B.Backing.state c.drop_orphan.new.backing) c.in_err-drop_orphan.ensures.files in search (rules, kept)

pub returns-in_err-drop_orphan-clause-refused : goal.returns-in_err-drop_orphan-clause-refused
returns-in_err-drop_orphan-clause-refused g c =
    let fault = store_turned c.is_lost.ensures.looks (g.B.Backing.state c.drop_orphan.new.backing) c.in_err-drop_orphan.field-0.0 c.in_err-drop_orphan.ensures.cause c.in_err-drop_orphan.ensures.mode in
    let refused = λ (now : ℕ). fault_refused (g.B.Backing.state c.args.backing.now) (g.B.Backing.state c.drop_orphan.new.backing) (closed (present (g.B.Backing.state c.args.backing.now).tree c.args.kept.now) c.args.caller c.args.slot) (refusal_of c.in_err-drop_orphan.field-0.0) fault in
    search (rules, refused)

pub returns-in_err-drop_orphan-clause-kept : goal.returns-in_err-drop_orphan-clause-kept
returns-in_err-drop_orphan-clause-kept g c = c.drop_orphan.ensures.kept

pub returns-in_err-drop_orphan-clause-paid : goal.returns-in_err-drop_orphan-clause-paid
returns-in_err-drop_orphan-clause-paid g c = c.drop_orphan.ensures.paid

pub returns-in_err-drop_orphan-clause-issued : goal.returns-in_err-drop_orphan-clause-issued
returns-in_err-drop_orphan-clause-issued g c = issued_then c.is_lost.ensures.looks (g.B.Backing.state c.drop_orphan.new.backing) (length c.args.kept.now.pages.dirty) (length c.drop_orphan.new.kept.pages.dirty) c.drop_orphan.ensures.issued

pub returns-in_err-drop_orphan-clause-sure : goal.returns-in_err-drop_orphan-clause-sure
returns-in_err-drop_orphan-clause-sure g c = sure_then c.is_lost.ensures.looks (g.B.Backing.outlook c.drop_orphan.new.backing) (g.B.Backing.state c.drop_orphan.new.backing) c.drop_orphan.ensures.sure

pub returns-then-branch-clause-paid : goal.returns-then-branch-clause-paid
returns-then-branch-clause-paid g c = c.drop_orphan.ensures.paid

pub returns-then-branch-clause-issued : goal.returns-then-branch-clause-issued
returns-then-branch-clause-issued g c = issued_then c.is_lost.ensures.looks (g.B.Backing.state c.drop_orphan.new.backing) (length c.args.kept.now.pages.dirty) (length c.drop_orphan.new.kept.pages.dirty) c.drop_orphan.ensures.issued

pub returns-then-branch-clause-sure : goal.returns-then-branch-clause-sure
returns-then-branch-clause-sure g c = sure_then c.is_lost.ensures.looks (g.B.Backing.outlook c.drop_orphan.new.backing) (g.B.Backing.state c.drop_orphan.new.backing) c.drop_orphan.ensures.sure

pub returns-then-branch-clause-kept : goal.returns-then-branch-clause-kept
returns-then-branch-clause-kept g c = handles_kept (g.B.Backing.state c.drop_orphan.new.backing).tree (g.B.Backing.state c.drop_orphan.new.backing).tree c.drop_orphan.new.kept c.remove.new.self refl c.drop_orphan.ensures.kept

pub returns-then-branch-clause-early : goal.returns-then-branch-clause-early
returns-then-branch-clause-early g c early = absurd early

pub returns-then-branch-clause-done : goal.returns-then-branch-clause-done
returns-then-branch-clause-done g c now = dropped_done (g.B.Backing.state c.is_lost.new.backing).tree (g.B.Backing.state c.args.backing.now).tree (g.B.Backing.state c.drop_orphan.new.backing).tree c.args.kept.now c.drop_orphan.new.kept c.remove.new.self c.args.caller c.args.slot c.in-Some.ino (sym c.is_bad_slot.ensures ∙ c.if-is_bad_slot.false) (sym c.get.ensures ∙ c.in-Some.is) (sym c.in_ok-is_lost.ensures.lost ∙ c.if-branch.true) (tree_on c.is_lost.ensures.looks) c.in_ok-drop_orphan.ensures.ok c.remove.ensures.gone

pub returns-clause-paid : goal.returns-clause-paid
returns-clause-paid g c = paid_on c.is_lost.ensures.looks (length c.args.kept.now.pages.dirty) c.requires.paid

pub returns-clause-issued : goal.returns-clause-issued
returns-clause-issued g c = issued_on c.is_lost.ensures.looks (length c.args.kept.now.pages.dirty)

pub returns-clause-goes : goal.returns-clause-goes
returns-clause-goes g c = c.is_lost.ensures.looks.goes

pub returns-clause-sure : goal.returns-clause-sure
returns-clause-sure g c = c.is_lost.ensures.looks.sure

pub returns-clause-early : goal.returns-clause-early
returns-clause-early g c early = absurd early

pub returns-clause-done : goal.returns-clause-done
returns-clause-done g c now = handles_done (g.B.Backing.state c.is_lost.new.backing).tree (g.B.Backing.state c.args.backing.now).tree c.args.kept.now c.remove-2.new.self c.args.caller c.args.slot c.in-Some.ino (sym c.is_bad_slot.ensures ∙ c.if-is_bad_slot.false) (sym c.get.ensures ∙ c.in-Some.is) (sym c.in_ok-is_lost.ensures.lost ∙ c.if-branch.false) (tree_on c.is_lost.ensures.looks) c.remove-2.ensures.gone
