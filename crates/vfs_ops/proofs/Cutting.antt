-- What a cut may leave of the parts of a step.
use Rattle.std.proofs.Common.{◌≡◌, ℕ, ◌⊎◌, List, [], ◌∷◌, Result, ap, arith, false, inl, inr, length, refl, sym, subst, true}
use Rattle.std.specs.Prelude.{◌==◌}
use Rattle.std.proofs.lemmas.Bool.{eqb-true, false≢true}
use Rattle.fs_model.specs.declared.change.Change.{Change}
use Rattle.fs_model.specs.declared.op.Op.{Op}
use Rattle.fs_model.specs.declared.op.Op.TheVariants.{Create, Mkdir, Symlink, Link, Unlink, Rmdir, Rename, Truncate, Chmod}
use Rattle.fs_model.specs.declared.refusal.NoSpace.{NoSpace}
use Rattle.fs_model.specs.declared.refusal.Refusal.{Refusal}
use Rattle.fs_model.specs.declared.refusal.Refusal.TheVariants.{Enomem, Enospc}
use Rattle.fs_model.specs.declared.reply.Reply.{Reply}
use Rattle.fs_model.specs.declared.reply.Reply.TheVariants.{Refused as IsRefused}
use Rattle.fs_model.specs.declared.space.Need.{Need}
use Rattle.fs_model.specs.Backing.{BackingState, Outlook, given_back, granted}
use Rattle.fs_model.specs.Files.{Files, Tree}
use Rattle.fs_model.specs.Journal.{Journal, Leaves, MayLeave}
use Rattle.fs_model.specs.Operation.{group_of}
use Rattle.buffered_files.specs.declared.kept.Kept.{Kept}
use Rattle.buffered_files.specs.Alike.{IsAlike}
use Rattle.buffered_files.specs.CutLaws.{AreAmong, Answered-none, Puts-none, Puts-nothing, Puts-then, Puts-with, Refused-none}
use Rattle.buffered_files.specs.Cuts.{GroupFate, HasValues, IsLastPut, PutsOnly, PutsSeen, PutsSeenWith, Values, ValuesOf, group_fate, refused_fate, value_at}
use Rattle.buffered_files.specs.Cuts.GroupFate.{WasPut, NotPut, MayBePut}
use Rattle.buffered_files.specs.Present.{present}
use Rattle.vfs_plans.specs.Answers.{Looks}
use Rattle.vfs_plans.specs.Operations.{is_truncate}
use Rattle.vfs_ops.specs.declared.event.Event.{Event}
use Rattle.vfs_ops.specs.declared.event.Event.TheVariants.{Call, Pick, Put, Sync, Collect, CommitStart, CommitStep, CommitEnd, Refill, Drain}
use Rattle.vfs_ops.specs.declared.event.Outcome.{Outcome}
use Rattle.vfs_ops.specs.declared.event.Outcome.TheVariants.{Synced, Did, Began, Went, Closed, Granted, Refused, Drained, Fault}
use Rattle.vfs_ops.specs.Background.{IsChore}
use Rattle.vfs_ops.specs.Events.{PutsCall, outcome_fate, group_in}
use Rattle.vfs_ops.specs.FilesState.{FilesState, present_in}
use Rattle.vfs_ops.specs.Kinds.{reply_fate}
use Rattle.vfs_ops.specs.Operations.{is_of_names}
use Rattle.vfs_ops.specs.Passing.{IsStep}
use Rattle.vfs_ops.specs.Replies.{is_refusal}
use Rattle.vfs_ops.proofs.Serving.{alike_self}

-- the journal stayed
pub cut_same : (old new : BackingState) (kept : Kept) → new.journal ≡ old.journal → PutsSeen old new kept
cut_same old new kept same = subst (λ (j : Journal). PutsOnly (ValuesOf (present old.tree kept).tree) old.journal j) (sym same) (Puts-none (ValuesOf (present old.tree kept).tree) old.journal)

-- no group was put
pub cut_with : (old new : BackingState) (kept : Kept) (group : List Change) (fate : GroupFate) → IsLastPut fate group [] → PutsSeen old new kept → PutsSeenWith old new kept group fate
cut_with old new kept group fate none first = Puts-with (present old.tree kept).tree group fate old.journal new.journal none first

-- a group of no length has no changes
pub no_changes : (group : List Change) → (length group == 0) ≡ true → group ≡ []
no_changes [] none = refl
no_changes (change ∷ group) none = let e = eqb-true (length (change ∷ group)) 0 none in absurd (omega (arith, e))

-- since it was refused
pub cut_refused : (old new : BackingState) (kept : Kept) (group : List Change) (refusal : Refusal) → PutsSeen old new kept → PutsSeenWith old new kept group (refused_fate refusal)
cut_refused old new kept group refusal first = cut_with old new kept group (refused_fate refusal) (Refused-none refusal group) first

-- nothing was put
pub cut_none : (old : BackingState) (kept : Kept) (group : List Change) (refusal : Refusal) → PutsSeenWith old old kept group (refused_fate refusal)
cut_none old kept group refusal = cut_refused old old kept group refusal (Puts-none (ValuesOf (present old.tree kept).tree) old.journal)

-- an operation that isn't one of names has no group
pub no_group : (files : Files) (caller now : ℕ) (op : Op) → is_of_names op ≡ false → is_truncate op ≡ false → group_of files caller now op ≡ []
no_group files caller now (Create path mode) other size = absurd (false≢true (sym other))
no_group files caller now (Mkdir path mode) other size = absurd (false≢true (sym other))
no_group files caller now (Symlink path target) other size = absurd (false≢true (sym other))
no_group files caller now (Link old new) other size = absurd (false≢true (sym other))
no_group files caller now (Unlink path) other size = absurd (false≢true (sym other))
no_group files caller now (Rmdir path) other size = absurd (false≢true (sym other))
no_group files caller now (Rename old new) other size = absurd (false≢true (sym other))
no_group files caller now (Chmod path mode) other size = absurd (false≢true (sym other))
no_group files caller now (Truncate slot length) other size = absurd (false≢true (sym size))
no_group files caller now op other size = refl

-- the files are those that callers see
pub call_seen : (old new : BackingState) (kept : Kept) (caller now : ℕ) (op : Op) (fate : GroupFate) → PutsSeenWith old new kept (group_of (present old.tree kept) caller now op) fate → PutsCall old new kept caller now op fate
call_seen old new kept caller now op fate put = record { seen = present old.tree kept; alike = alike_self (present old.tree kept); cut = put }

-- nothing was put of a call that is refused
pub call_refused : (old new : BackingState) (kept : Kept) (caller now : ℕ) (op : Op) (refusal : Refusal) → PutsSeen old new kept → PutsCall old new kept caller now op (refused_fate refusal)
call_refused old new kept caller now op refusal first =
    call_seen old new kept caller now op (refused_fate refusal) (cut_refused old new kept (group_of (present old.tree kept) caller now op) refusal first)

-- such an operation puts pages alone
pub cut_answered : {T : Type 0} (old new : BackingState) (kept : Kept) (caller now : ℕ) (op : Op) (result : Result T Refusal) → is_of_names op ≡ false → is_truncate op ≡ false → PutsSeen old new kept
    → PutsCall old new kept caller now op (group_fate result)
cut_answered old new kept caller now op result other size first =
    let group = group_of (present old.tree kept) caller now op in
    call_seen old new kept caller now op (group_fate result) (cut_with old new kept group (group_fate result) (Answered-none result group (no_group (present old.tree kept) caller now op other size)) first)

-- a refusal that is told as want of memory
pub cut_noted : (old new : BackingState) (kept : Kept) (group : List Change) (refusal noted : Refusal) → (noted ≡ refusal) ⊎ ((noted ≡ Enomem) × ((space : NoSpace) × (refusal ≡ Enospc space)))
    → PutsSeenWith old new kept group (refused_fate refusal) → PutsSeenWith old new kept group (refused_fate noted)
cut_noted old new kept group refusal noted (inl same) put = subst (λ (r : Refusal). PutsSeenWith old new kept group (refused_fate r)) (sym same) put
cut_noted old new kept group refusal noted (inr (memory, full)) put =
    let none : PutsSeenWith old new kept group NotPut = subst (λ (r : Refusal). PutsSeenWith old new kept group (refused_fate r)) full.1 put in
    subst (λ (r : Refusal). PutsSeenWith old new kept group (refused_fate r)) (sym memory) none

-- a reply that is no refusal
pub cut_replied : (old new : BackingState) (kept : Kept) (group : List Change) (reply : Reply) → is_refusal reply ≡ false → PutsSeenWith old new kept group WasPut → PutsSeenWith old new kept group (reply_fate reply)
cut_replied old new kept group (IsRefused refusal) plain put = absurd (false≢true (sym plain))
cut_replied old new kept group reply plain put = put

-- the same of a call
pub call_noted : (old new : BackingState) (kept : Kept) (caller now : ℕ) (op : Op) (refusal noted : Refusal) → (noted ≡ refusal) ⊎ ((noted ≡ Enomem) × ((space : NoSpace) × (refusal ≡ Enospc space)))
    → PutsCall old new kept caller now op (refused_fate refusal) → PutsCall old new kept caller now op (refused_fate noted)
call_noted old new kept caller now op refusal noted told put =
    record { seen = put.seen; alike = put.alike; cut = cut_noted old new kept (group_of put.seen caller now op) refusal noted told put.cut }

pub call_replied : (old new : BackingState) (kept : Kept) (caller now : ℕ) (op : Op) (reply : Reply) → is_refusal reply ≡ false → PutsCall old new kept caller now op WasPut → PutsCall old new kept caller now op (reply_fate reply)
call_replied old new kept caller now op reply plain put =
    record { seen = put.seen; alike = put.alike; cut = cut_replied old new kept (group_of put.seen caller now op) reply plain put.cut }

-- nothing more was put
pub cut_nothing : (old now new : BackingState) (kept : Kept) → PutsSeen old now kept → Leaves now.journal new.journal [] → PutsSeen old new kept
cut_nothing old now new kept first cut = let values = ValuesOf (present old.tree kept).tree in Puts-then values old.journal now.journal new.journal first (Puts-nothing values now.journal new.journal cut)

-- the backing was only looked at
pub cut_looked : {x y : Outlook} {old new : BackingState} → Looks x y old new → (kept : Kept) → PutsSeen old new kept
cut_looked {x} {y} {old} {new} looks kept = cut_same old new kept (ap (λ s. s.journal) looks.reads)

-- before something was put
pub looked_cut : {x y : Outlook} {old now : BackingState} → Looks x y old now → (new : BackingState) (kept : Kept) (group : List Change) (fate : GroupFate) → PutsSeenWith now new kept group fate → PutsSeenWith old new kept group fate
looked_cut {x} {y} {old} {now} looks new kept group fate put = subst (λ (s : BackingState). PutsSeenWith s new kept group fate) looks.reads put

-- of a group that is known by another name too
pub looked_put : {x y : Outlook} {old now : BackingState} → Looks x y old now → (new : BackingState) (kept : Kept) (group made : List Change) (fate : GroupFate) → group ≡ made → PutsSeenWith now new kept made fate → PutsSeenWith old new kept group fate
looked_put {x} {y} {old} {now} looks new kept group made fate same put = subst (λ (g : List Change). PutsSeenWith old new kept g fate) (sym same) (looked_cut looks new kept made fate put)

-- or after it
pub cut_then_looked : {x y : Outlook} {now new : BackingState} → Looks x y now new → (old : BackingState) (kept : Kept) → PutsSeen old now kept → PutsSeen old new kept
cut_then_looked {x} {y} {now} {new} looks old kept put = subst (λ (j : Journal). PutsOnly (ValuesOf (present old.tree kept).tree) old.journal j) (sym (ap (λ s. s.journal) looks.reads)) put

-- credits were covered, or given back
pub cut_granted : (old now new : BackingState) (kept : Kept) (need : Need) → PutsSeen old now kept → new ≡ granted now need → PutsSeen old new kept
cut_granted old now new kept need put same = subst (λ (s : BackingState). PutsSeen old s kept) (sym same) put

pub cut_given : (old now new : BackingState) (kept : Kept) (credits : ℕ) → PutsSeen old now kept → new ≡ given_back now credits → PutsSeen old new kept
cut_given old now new kept credits put same = subst (λ (s : BackingState). PutsSeen old s kept) (sym same) put

-- what the backing alone is asked for puts nothing
pub cut_chore : (old new : BackingState) (kept : Kept) (event : Event) (outcome : Outcome) → IsChore old new event outcome → PutsSeen old new kept
cut_chore old new kept event outcome = by event outcome
  where
    none : Leaves old.journal new.journal [] → PutsSeen old new kept
    none cut = Puts-nothing (ValuesOf (present old.tree kept).tree) old.journal new.journal cut

    by : (event : Event) (outcome : Outcome) → IsChore old new event outcome → PutsSeen old new kept
    by Sync Synced h = none h.0.cut
    by Sync (Fault why) h = none h.0.cut
    by Collect (Did collected) h = none h.0.cut
    by Collect (Fault why) h = none h.0.cut
    by CommitStart (Began started) h = none h.0.cut
    by CommitStart (Fault why) h = none h.0.cut
    by CommitStep (Went stepped) h = none h.0.cut
    by CommitStep (Fault why) h = none h.0.cut
    by CommitEnd (Closed ended) h = none h.0.cut
    by CommitEnd (Fault why) h = none h.0.cut
    by (Refill n) (Granted m) h = cut_same old new kept (ap (λ s. s.journal) h.1.1)
    by (Refill n) (Refused space) h = cut_same old new kept (ap (λ s. s.journal) h.0)
    by (Drain n) (Drained m) h = cut_same old new kept (ap (λ s. s.journal) h.1)
    by event outcome h = absurd h

nothing_changes : (fate : GroupFate) → IsLastPut fate [] []
nothing_changes WasPut = inr (refl, refl)
nothing_changes NotPut = refl
nothing_changes MayBePut = inl refl

-- what a step puts: pages, and then the group of files that are alike
pub record PutsStep (old new : FilesState) (event : Event) (outcome : Outcome) : Type 0 where
  pub seen : Files
  pub alike : IsAlike (present_in old) seen
  pub cut : PutsSeenWith old.backing new.backing old.kept (group_in seen event) (outcome_fate outcome)

-- whatever the event is
pub step_cut : (old new : FilesState) (event : Event) (outcome : Outcome) → IsStep old new event outcome → PutsStep old new event outcome
step_cut old new event outcome = by event
  where
    none : PutsSeen old.backing new.backing old.kept → PutsSeenWith old.backing new.backing old.kept [] (outcome_fate outcome)
    none first = cut_with old.backing new.backing old.kept [] (outcome_fate outcome) (nothing_changes (outcome_fate outcome)) first

    files : Files
    files = present_in old

    by : (event : Event) → IsStep old new event outcome → PutsStep old new event outcome
    by (Call caller now grant op) step = record { seen = step.cut.seen; alike = step.cut.alike; cut = step.cut.cut }
    by Pick step = record { seen = files; alike = alike_self files; cut = none step.cut }
    by (Put shown) step = record { seen = files; alike = alike_self files; cut = none step.cut }
    by Sync step = record { seen = files; alike = alike_self files; cut = none step.cut }
    by Collect step = record { seen = files; alike = alike_self files; cut = none step.cut }
    by CommitStart step = record { seen = files; alike = alike_self files; cut = none step.cut }
    by CommitStep step = record { seen = files; alike = alike_self files; cut = none step.cut }
    by CommitEnd step = record { seen = files; alike = alike_self files; cut = none step.cut }
    by (Refill n) step = record { seen = files; alike = alike_self files; cut = none step.cut }
    by (Drain n) step = record { seen = files; alike = alike_self files; cut = none step.cut }

-- what has some values has no others than more
pub has_among : {few all : Values} (journal : Journal) (left : Tree) → AreAmong few all → HasValues journal few left → HasValues journal all left
has_among {few} {all} journal left among has place = by (has place)
  where
    by : ((before : Tree) × MayLeave journal before × (value_at left place ≡ value_at before place)) ⊎ few place (value_at left place) → ((before : Tree) × MayLeave journal before × (value_at left place ≡ value_at before place)) ⊎ all place (value_at left place)
    by (inl old) = inl old
    by (inr one) = inr (among place (value_at left place) one)
