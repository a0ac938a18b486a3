use Rattle.std.proofs.Common.{◌≡◌, ℕ, ◌+◌, ◌*◌, ap, arith, false, true, inr, length, max, refl, rules, subst, sym, ◌∙◌, IfOk, Ok}
use Rattle.std.proofs.lemmas.Bool.{false≢true}
use Rattle.buffered_files.specs.Present.{present}
use Rattle.fs_model.specs.Backing.{Goes}
use Rattle.fs_model.specs.Files.{Files}
use Rattle.fs_model.specs.Outcome.{Outcome}
use Rattle.buffered_files.specs.Alike.{IsAlike}
use Rattle.vfs_ops.specs.Kinds.{is_look}
use Rattle.buffered_files.specs.Calls.{GrowsBy, added_or_refused}
use Rattle.buffered_files.specs.Cuts.{group_fate}
use Rattle.vfs_ops.proofs.Cutting.{call_seen, cut_answered, cut_looked, cut_same}
use Rattle.vfs_ops.proofs.Admitted.{after_ok, names_admitted, none_admitted, on_ok, other_at_once}
use Rattle.vfs_ops.proofs.Held.{after_err, clean_grows, clean_issued, clean_paid, clean_same, clean_sound, files_on, goes_more, goes_wider, issued_pages, none_synced, on_err, on_errs, paid_pages, same_kept}
use Rattle.vfs_ops.proofs.Dispatched.{look_group, look_others, look_refused, look_sync, names_allowed, names_refused}
use Rattle.vfs_ops.proofs.Looking.{looked, names_early, only_early, opened_looks, unsynced_early}
use Rattle.vfs_ops.proofs.Others.{idle_on, names_idle, names_leave, others_on}
use Rattle.vfs_ops.proofs.Serving.{alike_self, done_on, refused_on, ok_map, err_map, at_now, names_synced, or_fault_last, or_unsynced_last, synced_on, unsynced_last}
use Rattle.page_cache.specs.Pages.{Pages}
use Rattle.vfs_plans.specs.Operations.{is_truncate}
use Rattle.vfs_ops.specs.Operations.{has_group, is_of_names, nodes_asked}
use Rattle.fs_model.specs.declared.op.Op.{Op}
use Rattle.vfs_ops.specs.Events.{PutsCall}
use Rattle.vfs_ops.specs.Steps.{IsAtOnce, WasAdmitted}
use Rattle.fs_model.specs.Legal.{is_sync}
use Rattle.vfs_ops.proofs.NewSize.{size_keep, size_turned}
use Rattle.vfs_ops.proofs.Orphaning.{keeps_alike, keeps_few, looked_orphans, names_keep}
use Rattle.vfs_ops.proofs.Takes.{not_truncate}
use Rattle.vfs_ops.proofs.Truncating.{nodes_are}
use Rattle.vfs_ops.proofs.Weighing.{never, no_heavier, wider}
use Rattle.vfs_ops.proofs.answers.serve_without.Goals as goal

pub returns-in-OpenFile-clause-done : goal.returns-in-OpenFile-clause-done
returns-in-OpenFile-clause-done g c =
    let files = present (g.B.Backing.state c.args.backing.now).tree c.args.kept.now in
    ok_map c.open.result (λ reply h. done_on (g.B.Backing.state c.args.backing.now) files _ (present (g.B.Backing.state c.open.new.backing).tree c.open.new.kept) c.args.caller c.args.now c.args.op.now _ reply c.in-OpenFile.is refl (h c.args.now) (alike_self _)) c.open.ensures.done

pub returns-in-OpenFile-clause-refused : goal.returns-in-OpenFile-clause-refused
returns-in-OpenFile-clause-refused g c =
    let files = present (g.B.Backing.state c.args.backing.now).tree c.args.kept.now in
    err_map c.open.result (λ refusal h. refused_on (g.B.Backing.state c.args.backing.now) (g.B.Backing.state c.open.new.backing) c.open.new.kept files c.args.caller c.args.now c.args.grant c.args.op.now _ refusal c.in-OpenFile.is refl (or_fault_last (g.B.Backing.state c.args.backing.now) (g.B.Backing.state c.open.new.backing) _ refusal (h c.args.now))) c.open.ensures.refused

pub returns-in-Close-clause-done : goal.returns-in-Close-clause-done
returns-in-Close-clause-done g c =
    let files = present (g.B.Backing.state c.args.backing.now).tree c.args.kept.now in
    ok_map c.close.result (λ reply h. done_on (g.B.Backing.state c.args.backing.now) files _ (present (g.B.Backing.state c.close.new.backing).tree c.close.new.kept) c.args.caller c.args.now c.args.op.now _ reply c.in-Close.is refl (h c.args.now) (alike_self _)) c.close.ensures.done

pub returns-in-Close-clause-refused : goal.returns-in-Close-clause-refused
returns-in-Close-clause-refused g c =
    let files = present (g.B.Backing.state c.args.backing.now).tree c.args.kept.now in
    err_map c.close.result (λ refusal h. refused_on (g.B.Backing.state c.args.backing.now) (g.B.Backing.state c.close.new.backing) c.close.new.kept files c.args.caller c.args.now c.args.grant c.args.op.now _ refusal c.in-Close.is refl (or_fault_last (g.B.Backing.state c.args.backing.now) (g.B.Backing.state c.close.new.backing) _ refusal (h c.args.now))) c.close.ensures.refused

pub returns-in-Fsync-clause-done : goal.returns-in-Fsync-clause-done
returns-in-Fsync-clause-done g c =
    let files = present (g.B.Backing.state c.args.backing.now).tree c.args.kept.now in
    ok_map c.synced.result (λ reply h. done_on (g.B.Backing.state c.args.backing.now) files _ (present (g.B.Backing.state c.synced.new.backing).tree c.synced.new.kept) c.args.caller c.args.now c.args.op.now _ reply c.in-Fsync.is refl (h c.args.now) c.synced.ensures.same) c.synced.ensures.done

pub returns-in-Flush-clause-done : goal.returns-in-Flush-clause-done
returns-in-Flush-clause-done g c =
    let files = present (g.B.Backing.state c.args.backing.now).tree c.args.kept.now in
    ok_map c.flushed.result (λ reply h. done_on (g.B.Backing.state c.args.backing.now) files _ (present (g.B.Backing.state c.flushed.new.backing).tree c.flushed.new.kept) c.args.caller c.args.now c.args.op.now _ reply c.in-Flush.is refl (h c.args.caller c.args.now) c.flushed.ensures.same) c.flushed.ensures.done

pub returns-in-Flush-clause-refused : goal.returns-in-Flush-clause-refused
returns-in-Flush-clause-refused g c =
    let files = present (g.B.Backing.state c.args.backing.now).tree c.args.kept.now in
    err_map c.flushed.result (λ refusal h. refused_on (g.B.Backing.state c.args.backing.now) (g.B.Backing.state c.flushed.new.backing) c.flushed.new.kept files c.args.caller c.args.now c.args.grant c.args.op.now _ refusal c.in-Flush.is refl (inr (h, unsynced_last (g.B.Backing.state c.args.backing.now) (g.B.Backing.state c.flushed.new.backing) _ refusal h))) c.flushed.ensures.refused

pub returns-in-Fsync-clause-refused : goal.returns-in-Fsync-clause-refused
returns-in-Fsync-clause-refused g c =
    let files = present (g.B.Backing.state c.args.backing.now).tree c.args.kept.now in
    err_map c.synced.result (λ refusal h. refused_on (g.B.Backing.state c.args.backing.now) (g.B.Backing.state c.synced.new.backing) c.synced.new.kept files c.args.caller c.args.now c.args.grant c.args.op.now _ refusal c.in-Fsync.is refl (or_unsynced_last (g.B.Backing.state c.args.backing.now) (g.B.Backing.state c.synced.new.backing) _ refusal (at_now c.args.now h))) c.synced.ensures.refused

pub returns-then-is_of_names-clause-written : goal.returns-then-is_of_names-clause-written
returns-then-is_of_names-clause-written g c =
    ok_map c.change.result (λ reply h. names_synced (g.B.Backing.state c.args.backing.now).mode (g.B.Backing.state c.change.new.backing) c.args.kept.now c.change.new.kept c.args.caller c.args.op.now reply (sym c.is_of_names.ensures ∙ c.if-is_of_names.true)) c.change.ensures.done

pub returns-in-Flush-clause-written : goal.returns-in-Flush-clause-written
returns-in-Flush-clause-written g c =
    ok_map c.flushed.result (λ reply h. synced_on (g.B.Backing.state c.args.backing.now).mode (g.B.Backing.state c.flushed.new.backing) c.args.kept.now c.flushed.new.kept c.args.caller c.args.op.now _ reply c.in-Flush.is (h c.args.caller)) c.flushed.ensures.written

pub returns-in-Fsync-clause-written : goal.returns-in-Fsync-clause-written
returns-in-Fsync-clause-written g c =
    ok_map c.synced.result (λ reply h. synced_on (g.B.Backing.state c.args.backing.now).mode (g.B.Backing.state c.synced.new.backing) c.args.kept.now c.synced.new.kept c.args.caller c.args.op.now _ reply c.in-Fsync.is h) c.synced.ensures.written

pub returns-then-is_of_names-clause-admitted : goal.returns-then-is_of_names-clause-admitted
returns-then-is_of_names-clause-admitted g c =
    on_ok c.change.result (λ h. names_admitted (g.B.Backing.state c.args.backing.now) (g.B.Backing.state c.change.new.backing) c.args.kept.now c.args.caller c.args.now c.args.grant c.args.op.now (sym c.is_of_names.ensures ∙ c.if-is_of_names.true) h) c.change.ensures.admitted

pub returns-in-OpenFile-clause-admitted : goal.returns-in-OpenFile-clause-admitted
returns-in-OpenFile-clause-admitted g c =
    after_ok c.open.result (none_admitted (g.B.Backing.state c.args.backing.now) (g.B.Backing.state c.open.new.backing) c.args.kept.now c.args.caller c.args.now c.args.grant c.args.op.now (ap has_group c.in-OpenFile.is) c.requires.without)

pub returns-in-Close-clause-admitted : goal.returns-in-Close-clause-admitted
returns-in-Close-clause-admitted g c =
    after_ok c.close.result (none_admitted (g.B.Backing.state c.args.backing.now) (g.B.Backing.state c.close.new.backing) c.args.kept.now c.args.caller c.args.now c.args.grant c.args.op.now (ap has_group c.in-Close.is) c.requires.without)

pub returns-in-Fsync-clause-admitted : goal.returns-in-Fsync-clause-admitted
returns-in-Fsync-clause-admitted g c =
    after_ok c.synced.result (none_admitted (g.B.Backing.state c.args.backing.now) (g.B.Backing.state c.synced.new.backing) c.args.kept.now c.args.caller c.args.now c.args.grant c.args.op.now (ap has_group c.in-Fsync.is) c.requires.without)

pub returns-in-Flush-clause-admitted : goal.returns-in-Flush-clause-admitted
returns-in-Flush-clause-admitted g c =
    after_ok c.flushed.result (none_admitted (g.B.Backing.state c.args.backing.now) (g.B.Backing.state c.flushed.new.backing) c.args.kept.now c.args.caller c.args.now c.args.grant c.args.op.now (ap has_group c.in-Flush.is) c.requires.without)

pub returns-then-is_of_names-clause-at_once : goal.returns-then-is_of_names-clause-at_once
returns-then-is_of_names-clause-at_once g c =
    let files = present (g.B.Backing.state c.args.backing.now).tree c.args.kept.now in
    let names = sym c.is_of_names.ensures ∙ c.if-is_of_names.true in
    let P : ℕ → Type 0 = λ n. Goes n (g.B.Backing.state c.args.backing.now) (g.B.Backing.state c.change.new.backing) in
    λ is done out room. (c.change.ensures.at_once done out room, subst P (sym (nodes_are files c.args.caller c.args.now c.args.op.now (not_truncate c.args.op.now names))) (c.change.ensures.alone done out room))

pub returns-in-OpenFile-clause-at_once : goal.returns-in-OpenFile-clause-at_once
returns-in-OpenFile-clause-at_once g c = other_at_once _ (g.B.Backing.state c.args.backing.now) (g.B.Backing.state c.open.new.backing) c.args.kept.now c.args.caller c.args.now c.args.op.now c.open.result (ap has_group c.in-OpenFile.is)

pub returns-in-Close-clause-at_once : goal.returns-in-Close-clause-at_once
returns-in-Close-clause-at_once g c = other_at_once _ (g.B.Backing.state c.args.backing.now) (g.B.Backing.state c.close.new.backing) c.args.kept.now c.args.caller c.args.now c.args.op.now c.close.result (ap has_group c.in-Close.is)

pub returns-in-Fsync-clause-at_once : goal.returns-in-Fsync-clause-at_once
returns-in-Fsync-clause-at_once g c = other_at_once _ (g.B.Backing.state c.args.backing.now) (g.B.Backing.state c.synced.new.backing) c.args.kept.now c.args.caller c.args.now c.args.op.now c.synced.result (ap has_group c.in-Fsync.is)

pub returns-in-Flush-clause-at_once : goal.returns-in-Flush-clause-at_once
returns-in-Flush-clause-at_once g c = other_at_once _ (g.B.Backing.state c.args.backing.now) (g.B.Backing.state c.flushed.new.backing) c.args.kept.now c.args.caller c.args.now c.args.op.now c.flushed.result (ap has_group c.in-Flush.is)

pub returns-then-is_of_names-clause-looked : goal.returns-then-is_of_names-clause-looked
returns-then-is_of_names-clause-looked g c = names_early c.args.op.now c.change.result (sym c.is_of_names.ensures ∙ c.if-is_of_names.true) c.change.ensures.early

pub returns-in-OpenFile-clause-looked : goal.returns-in-OpenFile-clause-looked
returns-in-OpenFile-clause-looked g c asks = opened_looks c.open.ensures.looks c.args.kept.now c.open.new.kept c.open.ensures.pages c.open.ensures.inodes

pub returns-in-Close-clause-looked : goal.returns-in-Close-clause-looked
returns-in-Close-clause-looked g c = only_early c.args.op.now _ c.close.result c.in-Close.is refl c.close.ensures.early

pub returns-in-Fsync-clause-looked : goal.returns-in-Fsync-clause-looked
returns-in-Fsync-clause-looked g c = only_early c.args.op.now _ c.synced.result c.in-Fsync.is refl c.synced.ensures.early

pub returns-in-Flush-clause-looked : goal.returns-in-Flush-clause-looked
returns-in-Flush-clause-looked g c =
    only_early c.args.op.now _ c.flushed.result c.in-Flush.is refl (unsynced_early (g.B.Backing.state c.args.backing.now) (g.B.Backing.state c.flushed.new.backing) c.flushed.result c.flushed.ensures.refused)

pub returns-then-is_of_names-clause-others : goal.returns-then-is_of_names-clause-others
returns-then-is_of_names-clause-others g c = names_leave c.args.kept.now c.change.new.kept c.args.caller c.args.op.now (sym c.is_of_names.ensures ∙ c.if-is_of_names.true)

pub returns-in-OpenFile-clause-others : goal.returns-in-OpenFile-clause-others
returns-in-OpenFile-clause-others g c = others_on c.args.kept.now c.open.new.kept c.args.caller c.args.op.now _ c.in-OpenFile.is tt

pub returns-in-Close-clause-others : goal.returns-in-Close-clause-others
returns-in-Close-clause-others g c = others_on c.args.kept.now c.close.new.kept c.args.caller c.args.op.now _ c.in-Close.is tt

pub returns-in-Fsync-clause-others : goal.returns-in-Fsync-clause-others
returns-in-Fsync-clause-others g c = others_on c.args.kept.now c.synced.new.kept c.args.caller c.args.op.now _ c.in-Fsync.is c.synced.ensures.others

pub returns-in-Flush-clause-others : goal.returns-in-Flush-clause-others
returns-in-Flush-clause-others g c = others_on c.args.kept.now c.flushed.new.kept c.args.caller c.args.op.now _ c.in-Flush.is tt

pub returns-in-OpenFile-clause-grows : goal.returns-in-OpenFile-clause-grows
returns-in-OpenFile-clause-grows g c =
    let same : length c.open.new.kept.pages.dirty ≡ length c.args.kept.now.pages.dirty = ap (λ (p : Pages). length p.dirty) c.open.ensures.pages in
    let none = no_heavier 0 (g.B.Backing.state c.args.backing.now) (g.B.Backing.state c.open.new.backing) c.args.kept.now c.open.new.kept c.open.ensures.looks.goes (omega (arith, same)) in
    omega (arith, none)

pub returns-in-Close-clause-grows : goal.returns-in-Close-clause-grows
returns-in-Close-clause-grows g c = let none = c.close.ensures.grows in omega (arith, none)

pub returns-in-Fsync-clause-grows : goal.returns-in-Fsync-clause-grows
returns-in-Fsync-clause-grows g c = wider 0 (nodes_asked (present (g.B.Backing.state c.args.backing.now).tree c.args.kept.now) c.args.caller c.args.now c.args.op.now) 2 (max 2 (nodes_asked (present (g.B.Backing.state c.args.backing.now).tree c.args.kept.now) c.args.caller c.args.now c.args.op.now)) c.synced.result (g.B.Backing.state c.args.backing.now) (g.B.Backing.state c.synced.new.backing) c.args.kept.now c.synced.new.kept (omega arith) (omega arith) c.synced.ensures.grows

pub returns-in-Flush-clause-grows : goal.returns-in-Flush-clause-grows
returns-in-Flush-clause-grows g c = wider 0 (nodes_asked (present (g.B.Backing.state c.args.backing.now).tree c.args.kept.now) c.args.caller c.args.now c.args.op.now) 2 (max 2 (nodes_asked (present (g.B.Backing.state c.args.backing.now).tree c.args.kept.now) c.args.caller c.args.now c.args.op.now)) c.flushed.result (g.B.Backing.state c.args.backing.now) (g.B.Backing.state c.flushed.new.backing) c.args.kept.now c.flushed.new.kept (omega arith) (omega arith) c.flushed.ensures.grows

pub returns-then-is_of_names-clause-orphans : goal.returns-then-is_of_names-clause-orphans
returns-then-is_of_names-clause-orphans g c =
    names_keep c.change.result (g.B.Backing.state c.args.backing.now) (g.B.Backing.state c.change.new.backing) (present (g.B.Backing.state c.args.backing.now).tree c.args.kept.now) (present (g.B.Backing.state c.change.new.backing).tree c.change.new.kept) c.args.caller c.args.now c.args.op.now c.requires.ready.sound (sym c.is_of_names.ensures ∙ c.if-is_of_names.true)
    (c.present_files_are_sound.ensures.nameless (g.B.Backing.state c.args.backing.now).tree c.args.kept.now c.requires.ready.kept_fits) (c.present_files_are_sound.ensures.nameless (g.B.Backing.state c.change.new.backing).tree c.change.new.kept c.change.ensures.kept) c.change.ensures.closed c.change.ensures.done c.change.ensures.same

pub returns-in-OpenFile-clause-orphans : goal.returns-in-OpenFile-clause-orphans
returns-in-OpenFile-clause-orphans g c = keeps_few (g.B.Backing.state c.args.backing.now) (g.B.Backing.state c.open.new.backing) (present (g.B.Backing.state c.args.backing.now).tree c.args.kept.now) (present (g.B.Backing.state c.open.new.backing).tree c.open.new.kept) (looked_orphans c.open.ensures.looks)

pub returns-in-Close-clause-orphans : goal.returns-in-Close-clause-orphans
returns-in-Close-clause-orphans g c = keeps_few (g.B.Backing.state c.args.backing.now) (g.B.Backing.state c.close.new.backing) (present (g.B.Backing.state c.args.backing.now).tree c.args.kept.now) (present (g.B.Backing.state c.close.new.backing).tree c.close.new.kept) c.close.ensures.orphans

pub returns-in-Fsync-clause-orphans : goal.returns-in-Fsync-clause-orphans
returns-in-Fsync-clause-orphans g c =
    keeps_few (g.B.Backing.state c.args.backing.now) (g.B.Backing.state c.synced.new.backing) (present (g.B.Backing.state c.args.backing.now).tree c.args.kept.now) (present (g.B.Backing.state c.synced.new.backing).tree c.synced.new.kept) (keeps_alike (g.B.Backing.state c.args.backing.now) (g.B.Backing.state c.synced.new.backing) (present (g.B.Backing.state c.args.backing.now).tree c.args.kept.now) (present (g.B.Backing.state c.synced.new.backing).tree c.synced.new.kept)
    (c.present_files_are_sound.ensures.nameless (g.B.Backing.state c.args.backing.now).tree c.args.kept.now c.requires.ready.kept_fits) (c.present_files_are_sound.ensures.nameless (g.B.Backing.state c.synced.new.backing).tree c.synced.new.kept c.synced.ensures.ready.kept_fits) c.synced.ensures.closed c.synced.ensures.same)

pub returns-in-Flush-clause-orphans : goal.returns-in-Flush-clause-orphans
returns-in-Flush-clause-orphans g c =
    keeps_few (g.B.Backing.state c.args.backing.now) (g.B.Backing.state c.flushed.new.backing) (present (g.B.Backing.state c.args.backing.now).tree c.args.kept.now) (present (g.B.Backing.state c.flushed.new.backing).tree c.flushed.new.kept) (keeps_alike (g.B.Backing.state c.args.backing.now) (g.B.Backing.state c.flushed.new.backing) (present (g.B.Backing.state c.args.backing.now).tree c.args.kept.now) (present (g.B.Backing.state c.flushed.new.backing).tree c.flushed.new.kept)
    (c.present_files_are_sound.ensures.nameless (g.B.Backing.state c.args.backing.now).tree c.args.kept.now c.requires.ready.kept_fits) (c.present_files_are_sound.ensures.nameless (g.B.Backing.state c.flushed.new.backing).tree c.flushed.new.kept c.flushed.ensures.ready.kept_fits) c.flushed.ensures.closed c.flushed.ensures.same)

pub returns-in-OpenFile-clause-cut : goal.returns-in-OpenFile-clause-cut
returns-in-OpenFile-clause-cut g c =
    cut_answered (g.B.Backing.state c.args.backing.now) (g.B.Backing.state c.open.new.backing) c.args.kept.now c.args.caller c.args.now c.args.op.now c.open.result (ap is_of_names c.in-OpenFile.is) (ap is_truncate c.in-OpenFile.is) (cut_looked c.open.ensures.looks c.args.kept.now)

pub returns-in-Close-clause-cut : goal.returns-in-Close-clause-cut
returns-in-Close-clause-cut g c =
    cut_answered (g.B.Backing.state c.args.backing.now) (g.B.Backing.state c.close.new.backing) c.args.kept.now c.args.caller c.args.now c.args.op.now c.close.result (ap is_of_names c.in-Close.is) (ap is_truncate c.in-Close.is) (cut_same (g.B.Backing.state c.args.backing.now) (g.B.Backing.state c.close.new.backing) c.args.kept.now c.close.ensures.journal)

pub returns-in-Fsync-clause-cut : goal.returns-in-Fsync-clause-cut
returns-in-Fsync-clause-cut g c =
    cut_answered (g.B.Backing.state c.args.backing.now) (g.B.Backing.state c.synced.new.backing) c.args.kept.now c.args.caller c.args.now c.args.op.now c.synced.result (ap is_of_names c.in-Fsync.is) (ap is_truncate c.in-Fsync.is) c.synced.ensures.cut

pub returns-in-Flush-clause-cut : goal.returns-in-Flush-clause-cut
returns-in-Flush-clause-cut g c =
    cut_answered (g.B.Backing.state c.args.backing.now) (g.B.Backing.state c.flushed.new.backing) c.args.kept.now c.args.caller c.args.now c.args.op.now c.flushed.result (ap is_of_names c.in-Flush.is) (ap is_truncate c.in-Flush.is) c.flushed.ensures.cut

pub returns-in-Read-clause-cut : goal.returns-in-Read-clause-cut
returns-in-Read-clause-cut g c =
    let plain : is_truncate c.args.op.now ≡ false = search rules in
    cut_answered (g.B.Backing.state c.args.backing.now) (g.B.Backing.state c.look.new.backing) c.args.kept.now c.args.caller c.args.now c.args.op.now c.look.result (sym c.is_of_names.ensures ∙ c.if-is_of_names.false) plain (cut_looked c.look.ensures.looks c.args.kept.now)

pub returns-then-is_of_names-clause-idle : goal.returns-then-is_of_names-clause-idle
returns-then-is_of_names-clause-idle g c =
    names_idle (g.B.Backing.state c.args.backing.now) (g.B.Backing.state c.change.new.backing) c.args.kept.now c.change.new.kept c.args.op.now (sym c.is_of_names.ensures ∙ c.if-is_of_names.true)

pub returns-in-OpenFile-clause-idle : goal.returns-in-OpenFile-clause-idle
returns-in-OpenFile-clause-idle g c =
    idle_on (g.B.Backing.state c.args.backing.now) (g.B.Backing.state c.open.new.backing) c.args.kept.now c.open.new.kept c.args.op.now _ c.in-OpenFile.is (λ sync closed. absurd (false≢true sync))

pub returns-in-Close-clause-idle : goal.returns-in-Close-clause-idle
returns-in-Close-clause-idle g c =
    idle_on (g.B.Backing.state c.args.backing.now) (g.B.Backing.state c.close.new.backing) c.args.kept.now c.close.new.kept c.args.op.now _ c.in-Close.is (λ sync closed. absurd (false≢true sync))

pub returns-in-Fsync-clause-idle : goal.returns-in-Fsync-clause-idle
returns-in-Fsync-clause-idle g c =
    idle_on (g.B.Backing.state c.args.backing.now) (g.B.Backing.state c.synced.new.backing) c.args.kept.now c.synced.new.kept c.args.op.now _ c.in-Fsync.is c.synced.ensures.idle

pub returns-in-Flush-clause-idle : goal.returns-in-Flush-clause-idle
returns-in-Flush-clause-idle g c =
    idle_on (g.B.Backing.state c.args.backing.now) (g.B.Backing.state c.flushed.new.backing) c.args.kept.now c.flushed.new.kept c.args.op.now _ c.in-Flush.is c.flushed.ensures.idle

pub returns-then-is_of_names-clause-grows : goal.returns-then-is_of_names-clause-grows
returns-then-is_of_names-clause-grows g c =
    let files = present (g.B.Backing.state c.args.backing.now).tree c.args.kept.now in
    let names = sym c.is_of_names.ensures ∙ c.if-is_of_names.true in
    let P : ℕ → Type 0 = λ n. GrowsBy (added_or_refused n (max 2 n) c.change.result) (g.B.Backing.state c.args.backing.now) (g.B.Backing.state c.change.new.backing) c.args.kept.now c.change.new.kept in
    subst P (sym (nodes_are files c.args.caller c.args.now c.args.op.now (not_truncate c.args.op.now names))) c.change.ensures.grows

pub returns-then-is_of_names-clause-goes : goal.returns-then-is_of_names-clause-goes
returns-then-is_of_names-clause-goes g c =
    let files = present (g.B.Backing.state c.args.backing.now).tree c.args.kept.now in
    let names = sym c.is_of_names.ensures ∙ c.if-is_of_names.true in
    let P : ℕ → Type 0 = λ n. Goes (2 * length c.args.kept.now.pages.dirty + n) (g.B.Backing.state c.args.backing.now) (g.B.Backing.state c.change.new.backing) in
    subst P (sym (nodes_are files c.args.caller c.args.now c.args.op.now (not_truncate c.args.op.now names))) c.change.ensures.goes

pub returns-then-is_of_names-clause-cut : goal.returns-then-is_of_names-clause-cut
returns-then-is_of_names-clause-cut g c =
    call_seen (g.B.Backing.state c.args.backing.now) (g.B.Backing.state c.change.new.backing) c.args.kept.now c.args.caller c.args.now c.args.op.now (group_fate c.change.result) c.change.ensures.cut

pub returns-in-Truncate-clause-done : goal.returns-in-Truncate-clause-done
returns-in-Truncate-clause-done g c =
    let files = present (g.B.Backing.state c.args.backing.now).tree c.args.kept.now in
    ok_map c.truncate.result (λ reply h. done_on (g.B.Backing.state c.args.backing.now) files h.0 (present (g.B.Backing.state c.truncate.new.backing).tree c.truncate.new.kept) c.args.caller c.args.now c.args.op.now _ reply c.in-Truncate.is refl h.1 h.2) c.truncate.ensures.done

pub returns-in-Truncate-clause-refused : goal.returns-in-Truncate-clause-refused
returns-in-Truncate-clause-refused g c =
    let files = present (g.B.Backing.state c.args.backing.now).tree c.args.kept.now in
    err_map c.truncate.result (λ refusal h. refused_on (g.B.Backing.state c.args.backing.now) (g.B.Backing.state c.truncate.new.backing) c.truncate.new.kept files c.args.caller c.args.now c.args.grant c.args.op.now _ refusal c.in-Truncate.is refl (size_turned (g.B.Backing.state c.args.backing.now) (g.B.Backing.state c.truncate.new.backing) c.truncate.new.kept _ _ refusal h)) c.truncate.ensures.refused

pub returns-in-Truncate-clause-admitted : goal.returns-in-Truncate-clause-admitted
returns-in-Truncate-clause-admitted g c =
    on_ok c.truncate.result (λ h. subst (λ (o : Op). WasAdmitted (g.B.Backing.state c.args.backing.now) (g.B.Backing.state c.truncate.new.backing) c.args.kept.now c.args.caller c.args.now c.args.grant o) (sym c.in-Truncate.is) (λ has. inr h)) c.truncate.ensures.admitted

pub returns-in-Truncate-clause-at_once : goal.returns-in-Truncate-clause-at_once
returns-in-Truncate-clause-at_once g c =
    subst (λ (o : Op). IsAtOnce (g.B.Backing.state c.args.backing.now) (g.B.Backing.state c.truncate.new.backing) c.args.kept.now c.args.caller c.args.now o c.truncate.result) (sym c.in-Truncate.is) (λ has done out room. (c.truncate.ensures.at_once done out room, c.truncate.ensures.alone done out room))

pub returns-in-Truncate-clause-looked : goal.returns-in-Truncate-clause-looked
returns-in-Truncate-clause-looked g c = only_early c.args.op.now _ c.truncate.result c.in-Truncate.is refl c.truncate.ensures.early

pub returns-in-Truncate-clause-others : goal.returns-in-Truncate-clause-others
returns-in-Truncate-clause-others g c = others_on c.args.kept.now c.truncate.new.kept c.args.caller c.args.op.now _ c.in-Truncate.is tt

pub returns-in-Truncate-clause-grows : goal.returns-in-Truncate-clause-grows
returns-in-Truncate-clause-grows g c =
    let files = present (g.B.Backing.state c.args.backing.now).tree c.args.kept.now in
    subst (λ (o : Op). GrowsBy (added_or_refused (nodes_asked files c.args.caller c.args.now o) (max 2 (nodes_asked files c.args.caller c.args.now o)) c.truncate.result) (g.B.Backing.state c.args.backing.now) (g.B.Backing.state c.truncate.new.backing) c.args.kept.now c.truncate.new.kept) (sym c.in-Truncate.is) c.truncate.ensures.grows

pub returns-in-Truncate-clause-goes : goal.returns-in-Truncate-clause-goes
returns-in-Truncate-clause-goes g c =
    let files = present (g.B.Backing.state c.args.backing.now).tree c.args.kept.now in
    subst (λ (o : Op). Goes (2 * length c.args.kept.now.pages.dirty + nodes_asked files c.args.caller c.args.now o) (g.B.Backing.state c.args.backing.now) (g.B.Backing.state c.truncate.new.backing)) (sym c.in-Truncate.is) c.truncate.ensures.goes

pub returns-in-Truncate-clause-cut : goal.returns-in-Truncate-clause-cut
returns-in-Truncate-clause-cut g c =
    subst (λ (o : Op). PutsCall (g.B.Backing.state c.args.backing.now) (g.B.Backing.state c.truncate.new.backing) c.args.kept.now c.args.caller c.args.now o (group_fate c.truncate.result)) (sym c.in-Truncate.is) c.truncate.ensures.cut

pub returns-in-Truncate-clause-orphans : goal.returns-in-Truncate-clause-orphans
returns-in-Truncate-clause-orphans g c =
    size_keep c.truncate.result (g.B.Backing.state c.args.backing.now) (g.B.Backing.state c.truncate.new.backing) (present (g.B.Backing.state c.args.backing.now).tree c.args.kept.now) (present (g.B.Backing.state c.truncate.new.backing).tree c.truncate.new.kept) c.args.caller c.args.now _ _ c.requires.ready.sound
    (c.present_files_are_sound.ensures.nameless (g.B.Backing.state c.args.backing.now).tree c.args.kept.now c.requires.ready.kept_fits) (c.present_files_are_sound.ensures.nameless (g.B.Backing.state c.truncate.new.backing).tree c.truncate.new.kept c.truncate.ensures.kept) c.truncate.ensures.closed c.truncate.ensures.done c.truncate.ensures.same

pub returns-in-Truncate-clause-idle : goal.returns-in-Truncate-clause-idle
returns-in-Truncate-clause-idle g c =
    idle_on (g.B.Backing.state c.args.backing.now) (g.B.Backing.state c.truncate.new.backing) c.args.kept.now c.truncate.new.kept c.args.op.now _ c.in-Truncate.is (λ sync closed. absurd (false≢true sync))

pub returns-then-is_of_names-clause-ready : goal.returns-then-is_of_names-clause-ready
returns-then-is_of_names-clause-ready g c = record { kept_fits = c.change.ensures.kept; paid = c.change.ensures.paid; sound = c.change.ensures.sound }

pub returns-then-is_of_names-clause-issued : goal.returns-then-is_of_names-clause-issued
returns-then-is_of_names-clause-issued g c = c.change.ensures.issued

pub returns-then-is_of_names-clause-sure : goal.returns-then-is_of_names-clause-sure
returns-then-is_of_names-clause-sure g c = c.change.ensures.sure

pub returns-then-is_of_names-clause-same : goal.returns-then-is_of_names-clause-same
returns-then-is_of_names-clause-same g c = c.change.ensures.same

pub returns-in-Close-clause-ready : goal.returns-in-Close-clause-ready
returns-in-Close-clause-ready g c = record { kept_fits = c.close.ensures.kept; paid = c.close.ensures.paid; sound = c.close.ensures.sound }

pub returns-in-Close-clause-issued : goal.returns-in-Close-clause-issued
returns-in-Close-clause-issued g c = c.close.ensures.issued

pub returns-in-Close-clause-sure : goal.returns-in-Close-clause-sure
returns-in-Close-clause-sure g c = c.close.ensures.sure

pub returns-in-Truncate-clause-ready : goal.returns-in-Truncate-clause-ready
returns-in-Truncate-clause-ready g c = record { kept_fits = c.truncate.ensures.kept; paid = c.truncate.ensures.paid; sound = c.truncate.ensures.sound }

pub returns-in-Truncate-clause-issued : goal.returns-in-Truncate-clause-issued
returns-in-Truncate-clause-issued g c = c.truncate.ensures.issued

pub returns-in-Truncate-clause-sure : goal.returns-in-Truncate-clause-sure
returns-in-Truncate-clause-sure g c = c.truncate.ensures.sure

pub returns-in-Truncate-clause-same : goal.returns-in-Truncate-clause-same
returns-in-Truncate-clause-same g c = c.truncate.ensures.same

pub returns-in-Fsync-clause-ready : goal.returns-in-Fsync-clause-ready
returns-in-Fsync-clause-ready g c = c.synced.ensures.ready

pub returns-in-Fsync-clause-issued : goal.returns-in-Fsync-clause-issued
returns-in-Fsync-clause-issued g c = c.synced.ensures.issued

pub returns-in-Fsync-clause-sure : goal.returns-in-Fsync-clause-sure
returns-in-Fsync-clause-sure g c = c.synced.ensures.sure

pub returns-in-Fsync-clause-same : goal.returns-in-Fsync-clause-same
returns-in-Fsync-clause-same g c = after_err c.synced.result c.synced.ensures.same

pub returns-in-Fsync-clause-goes : goal.returns-in-Fsync-clause-goes
returns-in-Fsync-clause-goes g c = goes_wider (2 * length c.args.kept.now.pages.dirty) _ (g.B.Backing.state c.args.backing.now) (g.B.Backing.state c.synced.new.backing) c.synced.ensures.goes

pub returns-in-Flush-clause-ready : goal.returns-in-Flush-clause-ready
returns-in-Flush-clause-ready g c = c.flushed.ensures.ready

pub returns-in-Flush-clause-issued : goal.returns-in-Flush-clause-issued
returns-in-Flush-clause-issued g c = c.flushed.ensures.issued

pub returns-in-Flush-clause-sure : goal.returns-in-Flush-clause-sure
returns-in-Flush-clause-sure g c = c.flushed.ensures.sure

pub returns-in-Flush-clause-same : goal.returns-in-Flush-clause-same
returns-in-Flush-clause-same g c = after_err c.flushed.result c.flushed.ensures.same

pub returns-in-Flush-clause-goes : goal.returns-in-Flush-clause-goes
returns-in-Flush-clause-goes g c = goes_wider (2 * length c.args.kept.now.pages.dirty) _ (g.B.Backing.state c.args.backing.now) (g.B.Backing.state c.flushed.new.backing) c.flushed.ensures.goes

pub returns-in-OpenFile-clause-ready : goal.returns-in-OpenFile-clause-ready
returns-in-OpenFile-clause-ready g c = record { kept_fits = c.open.ensures.kept; paid = paid_pages c.open.ensures.looks c.args.kept.now.pages c.open.new.kept.pages c.open.ensures.pages c.requires.ready.paid; sound = c.open.ensures.sound }

pub returns-in-OpenFile-clause-issued : goal.returns-in-OpenFile-clause-issued
returns-in-OpenFile-clause-issued g c = issued_pages c.open.ensures.looks c.args.kept.now.pages c.open.new.kept.pages c.open.ensures.pages

pub returns-in-OpenFile-clause-sure : goal.returns-in-OpenFile-clause-sure
returns-in-OpenFile-clause-sure g c = c.open.ensures.looks.sure

pub returns-in-OpenFile-clause-goes : goal.returns-in-OpenFile-clause-goes
returns-in-OpenFile-clause-goes g c = goes_more _ (g.B.Backing.state c.args.backing.now) (g.B.Backing.state c.open.new.backing) c.open.ensures.looks.goes

pub returns-in-OpenFile-clause-same : goal.returns-in-OpenFile-clause-same
returns-in-OpenFile-clause-same g c = on_err c.open.result (λ same. same_kept (g.B.Backing.state c.args.backing.now) (g.B.Backing.state c.open.new.backing) c.args.kept.now c.open.new.kept same (files_on c.open.ensures.looks)) c.open.ensures.same

pub returns-in-Close-clause-goes : goal.returns-in-Close-clause-goes
returns-in-Close-clause-goes g c = goes_more _ (g.B.Backing.state c.args.backing.now) (g.B.Backing.state c.close.new.backing) c.close.ensures.goes

pub returns-in-Close-clause-same : goal.returns-in-Close-clause-same
returns-in-Close-clause-same g c = on_errs c.close.result (λ same files. same_kept (g.B.Backing.state c.args.backing.now) (g.B.Backing.state c.close.new.backing) c.args.kept.now c.close.new.kept same files) c.close.ensures.same c.close.ensures.files

pub returns-in-OpenFile-clause-written : goal.returns-in-OpenFile-clause-written
returns-in-OpenFile-clause-written g c = ok_map c.open.result (λ reply h. none_synced (g.B.Backing.state c.args.backing.now).mode (g.B.Backing.state c.open.new.backing) c.args.kept.now c.open.new.kept c.args.caller c.args.op.now reply (ap is_sync c.in-OpenFile.is)) c.open.ensures.done

pub returns-in-Close-clause-written : goal.returns-in-Close-clause-written
returns-in-Close-clause-written g c = ok_map c.close.result (λ reply h. none_synced (g.B.Backing.state c.args.backing.now).mode (g.B.Backing.state c.close.new.backing) c.args.kept.now c.close.new.kept c.args.caller c.args.op.now reply (ap is_sync c.in-Close.is)) c.close.ensures.done

pub returns-in-Truncate-clause-written : goal.returns-in-Truncate-clause-written
returns-in-Truncate-clause-written g c = ok_map c.truncate.result (λ reply h. none_synced (g.B.Backing.state c.args.backing.now).mode (g.B.Backing.state c.truncate.new.backing) c.args.kept.now c.truncate.new.kept c.args.caller c.args.op.now reply (ap is_sync c.in-Truncate.is)) c.truncate.ensures.done

pub returns-in-Read-clause-ready : goal.returns-in-Read-clause-ready
returns-in-Read-clause-ready g c = record { kept_fits = c.look.ensures.kept; paid = clean_paid c.look.ensures.looks c.args.kept.now c.look.new.kept c.look.ensures.same c.requires.ready.paid; sound = clean_sound c.look.ensures.looks c.args.kept.now c.look.new.kept c.look.ensures.same c.requires.ready.sound }

pub returns-in-Read-clause-issued : goal.returns-in-Read-clause-issued
returns-in-Read-clause-issued g c = clean_issued c.look.ensures.looks c.args.kept.now c.look.new.kept c.look.ensures.same

pub returns-in-Read-clause-sure : goal.returns-in-Read-clause-sure
returns-in-Read-clause-sure g c = c.look.ensures.looks.sure

pub returns-in-Read-clause-goes : goal.returns-in-Read-clause-goes
returns-in-Read-clause-goes g c = goes_more _ (g.B.Backing.state c.args.backing.now) (g.B.Backing.state c.look.new.backing) c.look.ensures.looks.goes

pub returns-in-Read-clause-same : goal.returns-in-Read-clause-same
returns-in-Read-clause-same g c = after_err c.look.result (clean_same c.look.ensures.looks c.args.kept.now c.look.new.kept c.look.ensures.same)

pub returns-in-Read-clause-looked : goal.returns-in-Read-clause-looked
returns-in-Read-clause-looked g c asks = looked c.look.ensures.looks c.args.kept.now c.look.new.kept c.look.ensures.same

pub returns-in-Read-clause-orphans : goal.returns-in-Read-clause-orphans
returns-in-Read-clause-orphans g c = keeps_few (g.B.Backing.state c.args.backing.now) (g.B.Backing.state c.look.new.backing) (present (g.B.Backing.state c.args.backing.now).tree c.args.kept.now) (present (g.B.Backing.state c.look.new.backing).tree c.look.new.kept) (looked_orphans c.look.ensures.looks)

pub returns-in-Read-clause-grows : goal.returns-in-Read-clause-grows
returns-in-Read-clause-grows g c = never (nodes_asked (present (g.B.Backing.state c.args.backing.now).tree c.args.kept.now) c.args.caller c.args.now c.args.op.now) (max 2 (nodes_asked (present (g.B.Backing.state c.args.backing.now).tree c.args.kept.now) c.args.caller c.args.now c.args.op.now)) c.look.result (g.B.Backing.state c.args.backing.now) (g.B.Backing.state c.look.new.backing) c.args.kept.now c.look.new.kept (clean_grows c.look.ensures.looks c.args.kept.now c.look.new.kept c.look.ensures.same)

pub returns-in-Read-clause-admitted : goal.returns-in-Read-clause-admitted
returns-in-Read-clause-admitted g c =
    let is : is_look c.args.op.now ≡ true = search rules in
    after_ok c.look.result (none_admitted (g.B.Backing.state c.args.backing.now) (g.B.Backing.state c.look.new.backing) c.args.kept.now c.args.caller c.args.now c.args.grant c.args.op.now (look_group c.args.op.now is) c.requires.without)

pub returns-in-Read-clause-at_once : goal.returns-in-Read-clause-at_once
returns-in-Read-clause-at_once g c =
    let is : is_look c.args.op.now ≡ true = search rules in
    other_at_once _ (g.B.Backing.state c.args.backing.now) (g.B.Backing.state c.look.new.backing) c.args.kept.now c.args.caller c.args.now c.args.op.now c.look.result (look_group c.args.op.now is)

pub returns-in-Read-clause-idle : goal.returns-in-Read-clause-idle
returns-in-Read-clause-idle g c =
    let is : is_look c.args.op.now ≡ true = search rules in
    λ sync closed. absurd (false≢true (sym (look_sync c.args.op.now is) ∙ sync))

pub returns-in-Read-clause-others : goal.returns-in-Read-clause-others
returns-in-Read-clause-others g c =
    let is : is_look c.args.op.now ≡ true = search rules in
    look_others c.args.kept.now c.look.new.kept c.args.caller c.args.op.now is

pub returns-in-Read-clause-written : goal.returns-in-Read-clause-written
returns-in-Read-clause-written g c =
    let is : is_look c.args.op.now ≡ true = search rules in
    ok_map c.look.result (λ reply h. none_synced (g.B.Backing.state c.args.backing.now).mode (g.B.Backing.state c.look.new.backing) c.args.kept.now c.look.new.kept c.args.caller c.args.op.now reply (look_sync c.args.op.now is)) c.look.ensures.found

pub returns-in-Read-clause-done : goal.returns-in-Read-clause-done
returns-in-Read-clause-done g c = ok_map c.look.result (λ reply h. done_on (g.B.Backing.state c.args.backing.now) (present (g.B.Backing.state c.args.backing.now).tree c.args.kept.now) (present (g.B.Backing.state c.args.backing.now).tree c.args.kept.now) (present (g.B.Backing.state c.look.new.backing).tree c.look.new.kept) c.args.caller c.args.now c.args.op.now c.args.op.now reply refl (sym c.is_of_names.ensures ∙ c.if-is_of_names.false) (h c.args.now) (clean_same c.look.ensures.looks c.args.kept.now c.look.new.kept c.look.ensures.same)) c.look.ensures.found

pub returns-in-Read-clause-refused : goal.returns-in-Read-clause-refused
returns-in-Read-clause-refused g c =
    let is : is_look c.args.op.now ≡ true = search rules in
    err_map c.look.result (λ refusal h. refused_on (g.B.Backing.state c.args.backing.now) (g.B.Backing.state c.look.new.backing) c.look.new.kept (present (g.B.Backing.state c.args.backing.now).tree c.args.kept.now) c.args.caller c.args.now c.args.grant c.args.op.now c.args.op.now refusal refl (sym c.is_of_names.ensures ∙ c.if-is_of_names.false) (look_refused (g.B.Backing.state c.args.backing.now) (g.B.Backing.state c.look.new.backing) c.look.new.kept _ c.args.op.now _ refusal is (h c.args.now))) c.look.ensures.refused

pub returns-then-is_of_names-clause-done : goal.returns-then-is_of_names-clause-done
returns-then-is_of_names-clause-done g c =
    let same = names_allowed (g.B.Backing.state c.args.backing.now) (present (g.B.Backing.state c.args.backing.now).tree c.args.kept.now) c.args.caller c.args.now c.args.op.now (sym c.is_of_names.ensures ∙ c.if-is_of_names.true) in
    let last = present (g.B.Backing.state c.change.new.backing).tree c.change.new.kept in
    subst (λ (o : Outcome). IfOk c.change.result (λ reply. (after : Files) × (o ≡ Ok (reply, after)) × IsAlike after last)) (sym same) c.change.ensures.done

pub returns-then-is_of_names-clause-refused : goal.returns-then-is_of_names-clause-refused
returns-then-is_of_names-clause-refused g c = err_map c.change.result (λ refusal h. names_refused (g.B.Backing.state c.args.backing.now) (g.B.Backing.state c.change.new.backing) c.change.new.kept (present (g.B.Backing.state c.args.backing.now).tree c.args.kept.now) c.args.caller c.args.now c.args.grant c.args.op.now refusal (sym c.is_of_names.ensures ∙ c.if-is_of_names.true) h) c.change.ensures.refused
