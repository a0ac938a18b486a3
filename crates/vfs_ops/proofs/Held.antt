-- What held before the backing was looked at holds after, and what a call leaves after looks it leaves after all.
use Rattle.std.proofs.Common.{◌≡◌, ℕ, ◌+◌, ◌≤◌, ◌⊎◌, inl, inr, length, false, true, Result, Ok, Err, refl, ap, subst, sym, ◌∙◌, arith}
use Rattle.std.specs.Prelude.{OnErr}
use Rattle.std.proofs.lemmas.Bool.{false≢true}
use Rattle.fs_model.specs.declared.backing_answers.Mode.{Mode}
use Rattle.fs_model.specs.declared.backing_answers.Mode.TheVariants.{ReadWrite}
use Rattle.fs_model.specs.declared.backing_answers.StoreFault.{StoreFault}
use Rattle.fs_model.specs.declared.backing_answers.StoreFault.TheVariants.{Memory, Volume, ReadOnly as IsReadOnly}
use Rattle.fs_model.specs.declared.op.Op.{Op}
use Rattle.fs_model.specs.declared.op.Op.TheVariants.{Fsync, Flush}
use Rattle.fs_model.specs.declared.refusal.Refusal.{Refusal}
use Rattle.fs_model.specs.declared.refusal.Refusal.TheVariants.{Eio, Enomem, Enospc, Erofs}
use Rattle.fs_model.specs.declared.reply.Reply.{Reply}
use Rattle.fs_model.specs.declared.reply.Reply.TheVariants.{Done}
use Rattle.fs_model.specs.declared.space.Need.{Need}
use Rattle.fs_model.specs.Backing.{BackingState, Goes, HasCause, IsNotReadOnly, KeepsFiles, Outlook, Rose}
use Rattle.fs_model.specs.CallFaults.{refusal_of}
use Rattle.fs_model.specs.Files.{Files}
use Rattle.fs_model.specs.Legal.{is_sync}
use Rattle.fs_model.specs.Operation.{outcome_of, plan_of}
use Rattle.fs_model.specs.Orphan.{within_orphans}
use Rattle.fs_model.specs.Outcome.{Outcome, done_by}
use Rattle.fs_laws.specs.Sound.{IsSound}
use Rattle.page_cache.specs.Pages.{Pages}
use Rattle.buffered_files.specs.declared.kept.Kept.{Kept}
use Rattle.buffered_files.specs.Alike.{IsAlike}
use Rattle.buffered_files.specs.CallLaws.{Files-then, Goes-none, Goes-within, Sure-then}
use Rattle.buffered_files.specs.Calls.{GrowsBy, IsNotEnospc, IsWithoutRoom, SureGoes}
use Rattle.buffered_files.specs.Present.{IsKept, IsSameButClean, present}
use Rattle.vfs_plans.specs.Answers.{IsFault, IsRefused, Looks}
use Rattle.vfs_ops.specs.Events.{HasSynced}
use Rattle.vfs_ops.specs.Kinds.{IsStopped}
use Rattle.vfs_ops.specs.Operations.{is_of_names}
use Rattle.vfs_ops.specs.Steps.{IsLast}
use Rattle.vfs_ops.proofs.Groups.{outcome_is}
use Rattle.vfs_ops.proofs.States.{credits_on, fault_later, tree_on}
use Rattle.vfs_ops.proofs.Takes.{alike_on, sound_on}
use Rattle.vfs_ops.proofs.Weighing.{no_heavier}

-- what is kept fits the backing still
pub kept_on : {x y : Outlook} {a b : BackingState} → Looks x y a b → (kept : Kept) → IsKept a.tree kept → IsKept b.tree kept
kept_on {x} {y} {a} {b} looks kept fits = subst (λ t. IsKept t kept) (sym (tree_on looks)) fits

-- what the credits cover they cover still
pub paid_on : {x y : Outlook} {a b : BackingState} → Looks x y a b → (n : ℕ) → n ≤ a.space.credits → n ≤ b.space.credits
paid_on {x} {y} {a} {b} looks n paid = subst (λ m. n ≤ m) (sym (credits_on looks)) paid

-- no credit came, and none went
pub issued_on : {x y : Outlook} {a b : BackingState} → Looks x y a b → (n : ℕ) → b.space.credits + n ≡ a.space.credits + n
issued_on {x} {y} {a} {b} looks n = ap (λ m. m + n) (credits_on looks)

-- callers see the same
pub same_on : {x y : Outlook} {a b : BackingState} → Looks x y a b → (kept : Kept) → IsAlike (present a.tree kept) (present b.tree kept)
same_on {x} {y} {a} {b} looks kept = alike_on b.tree a.tree kept (tree_on looks)

-- what a call issues after looks
pub issued_then : {x y : Outlook} {a b : BackingState} → Looks x y a b → (c : BackingState) (before after : ℕ) → c.space.credits + before ≡ b.space.credits + after → c.space.credits + before ≡ a.space.credits + after
issued_then {x} {y} {a} {b} looks c before after issued = issued ∙ issued_on looks after

-- what callers see after a call that came after looks
pub same_then : {x y : Outlook} {a b : BackingState} → Looks x y a b → (kept : Kept) (after : Files) → IsAlike (present b.tree kept) after → IsAlike (present a.tree kept) after
same_then {x} {y} {a} {b} looks kept after same = subst (λ t. IsAlike (present t kept) after) (tree_on looks) same

-- what a call is sure of after looks
pub sure_then : {x y : Outlook} {a b : BackingState} → Looks x y a b → (z : Outlook) (c : BackingState) → SureGoes y z b c → SureGoes x z a c
sure_then {x} {y} {a} {b} looks z c sure = Sure-then x y z a b c looks.sure sure

-- a fault isn't want of room
pub fault_at_once : (T : Type 0) (a b : BackingState) (r : Refusal) → IsFault a b r → IsNotEnospc {T = T} (Err r)
fault_at_once T a b (Enospc space) fault = fault
fault_at_once T a b r fault = tt

-- a fault after looks refuses
pub fault_turned : {x y : Outlook} {a b : BackingState} → Looks x y a b → (c : BackingState) (kept : Kept) (need : Need) (plain : Outcome) (r : Refusal) → IsFault b c r → IsRefused a c plain r ⊎ (IsWithoutRoom a c kept need r × IsLast plain r)
fault_turned {x} {y} {a} {b} looks c kept need plain r fault = inl (inr (fault_later looks c r fault))

-- an operation on names is refused where its plan is, and as that is
pub plan_turned : (a b : BackingState) (kept : Kept) (need : Need) (files : Files) (caller now room limit : ℕ) (op : Op) (r : Refusal) → is_of_names op ≡ true → IsRefused a b (plan_of files caller now op) r
    → IsRefused a b (within_orphans room limit files (outcome_of files caller now op)) r ⊎ (IsWithoutRoom a b kept need r × IsLast (within_orphans room limit files (outcome_of files caller now op)) r)
plan_turned a b kept need files caller now room limit op r is (inl refused) =
    inl (inl (ap (λ (plain : Outcome). within_orphans room limit files plain) (outcome_is files caller now op is ∙ ap (λ plan. done_by files plan) refused)))
plan_turned a b kept need files caller now room limit op r is (inr fault) = inl (inr fault)

-- what doesn't rise
pub no_more : (n : ℕ) → n ≤ n
no_more n = omega arith

-- a backing that nobody called goes nowhere
pub goes_none : (n : ℕ) (a : BackingState) → Goes n a a
goes_none n a = Goes-within 0 n a a (omega arith) (Goes-none a)

-- and its index grows by nothing
pub grows_none : (n : ℕ) (a : BackingState) (kept : Kept) → GrowsBy n a a kept kept
grows_none n a kept = omega arith

-- and it keeps its files
pub files_none : (a : BackingState) → KeepsFiles a a
files_none a = record { tree = refl; credits = refl; grant = refl; held = no_more a.space.held; closed = no_more a.closed }

-- looks keep the files
pub files_on : {x y : Outlook} {a b : BackingState} → Looks x y a b → KeepsFiles a b
files_on {x} {y} {a} {b} looks = record {
  tree = tree_on looks;
  credits = credits_on looks;
  grant = ap (λ (s : BackingState). s.grant) looks.reads;
  held = subst (λ n. n ≤ a.space.held) (sym (ap (λ (s : BackingState). s.space.held) looks.reads)) (no_more a.space.held);
  closed = subst (λ n. n ≤ a.closed) (sym (ap (λ (s : BackingState). s.closed) looks.reads)) (no_more a.closed);
}

-- and so does a call that keeps them after looks
pub files_then : {x y : Outlook} {a b : BackingState} → Looks x y a b → (c : BackingState) → KeepsFiles b c → KeepsFiles a c
files_then {x} {y} {a} {b} looks c files = Files-then a b c (files_on looks) files

-- files that a call keeps after looks are sound still
pub stays_sound : {x y : Outlook} {a b : BackingState} → Looks x y a b → (c : BackingState) (kept after : Kept) → after ≡ kept → c.tree ≡ b.tree → IsSound (present a.tree kept) → IsSound (present c.tree after)
stays_sound {x} {y} {a} {b} looks c kept after same tree sound = subst (λ k. IsSound (present c.tree k)) (sym same) (sound_on c.tree a.tree kept (tree ∙ tree_on looks) sound)

-- a fault refuses at every moment
pub fault_refused : (a b : BackingState) (plain : Outcome) (r : Refusal) → IsFault a b r → IsRefused a b plain r
fault_refused a b plain r fault = inr fault

-- what the store failed at after looks is a fault, where it isn't read-only
pub store_turned : {x y : Outlook} {a b : BackingState} → Looks x y a b → (c : BackingState) (fault : StoreFault) → HasCause {T = Unit {0}} b c (Err fault) → IsNotReadOnly {T = Unit {0}} (Err fault) → IsFault a c (refusal_of fault)
store_turned {x} {y} {a} {b} looks c (Volume count) cause mode = fault_later looks c (Eio count) cause
store_turned {x} {y} {a} {b} looks c Memory cause mode = tt
store_turned {x} {y} {a} {b} looks c (IsReadOnly why) cause mode = absurd mode

-- closed orphans are no more after looks
pub closed_few : {x y : Outlook} {a b : BackingState} → Looks x y a b → b.closed ≤ a.closed
closed_few {x} {y} {a} {b} looks = (files_on looks).closed

-- nor after a call that leaves no more
pub closed_then : {x y : Outlook} {a b : BackingState} → Looks x y a b → (c : BackingState) → c.closed ≤ b.closed → c.closed ≤ a.closed
closed_then {x} {y} {a} {b} looks c few = subst (λ n. c.closed ≤ n) (ap (λ (s : BackingState). s.closed) looks.reads) few

-- looks let the index grow by nothing
pub grows_looked : {x y : Outlook} {a b : BackingState} → Looks x y a b → (n : ℕ) (kept : Kept) → GrowsBy n a b kept kept
grows_looked {x} {y} {a} {b} looks n kept = no_heavier n a b kept kept looks.goes (no_more (length kept.pages.dirty))

-- what is kept fits a backing that kept its files
pub kept_still : (a b : BackingState) (kept : Kept) → KeepsFiles a b → IsKept a.tree kept → IsKept b.tree kept
kept_still a b kept files fits = subst (λ t. IsKept t kept) (sym files.tree) fits

-- its credits cover what they covered
pub paid_still : (a b : BackingState) (n : ℕ) → KeepsFiles a b → n ≤ a.space.credits → n ≤ b.space.credits
paid_still a b n files paid = subst (λ m. n ≤ m) (sym files.credits) paid

-- as many were issued
pub issued_still : (a b c : BackingState) (before after : ℕ) → KeepsFiles b c → b.space.credits + before ≡ a.space.credits + after → c.space.credits + before ≡ a.space.credits + after
issued_still a b c before after files issued = ap (λ n. n + before) files.credits ∙ issued

-- and callers see the same
pub same_still : (a b : BackingState) (before : Files) (kept : Kept) → KeepsFiles a b → IsAlike before (present a.tree kept) → IsAlike before (present b.tree kept)
same_still a b before kept files same = subst (λ t. IsAlike before (present t kept)) (sym files.tree) same

rose_since : (a b count : ℕ) → a ≤ b → Rose b count → Rose a count
rose_since a b count less (inl rose) = inl (omega (arith, less, rose))
rose_since a b count less (inr many) = inr many

-- what stops a sync after a call stops it after both
pub stopped_then : (n : ℕ) (a b c : BackingState) (r : Refusal) → Goes n a b → IsStopped b c r → IsStopped a c r
stopped_then n a b c (Eio count) goes stopped = (rose_since a.faults b.faults c.faults goes.faults stopped.0, stopped.1, stopped.2)
stopped_then n a b c (Erofs cause) goes stopped = stopped
stopped_then n a b c Enomem goes stopped = tt
stopped_then n a b c r goes stopped = absurd stopped

-- so it is refused for that
pub stopped_turned : (P : Type 0) (n : ℕ) (a b c : BackingState) (r : Refusal) → Goes n a b → IsStopped b c r → P ⊎ IsStopped a c r
stopped_turned P n a b c r goes stopped = inr (stopped_then n a b c r goes stopped)

-- closed orphans are no more after two calls
pub closed_still : (a b c : BackingState) → b.closed ≤ a.closed → c.closed ≤ b.closed → c.closed ≤ a.closed
closed_still a b c first second = omega (arith, first, second)

-- a fault refuses, and nothing has to come before it
pub fault_only : (a b : BackingState) (kept : Kept) (need : Need) (plain : Outcome) (r : Refusal) → IsFault a b r → IsRefused a b plain r ⊎ (IsWithoutRoom a b kept need r × IsLast plain r)
fault_only a b kept need plain r fault = inl (inr fault)

-- a call that puts nothing goes no further than any other
pub goes_more : (n : ℕ) (a b : BackingState) → Goes 0 a b → Goes n a b
goes_more n a b goes = Goes-within 0 n a b (omega arith) goes

-- nor one that puts less
pub goes_wider : (m n : ℕ) (a b : BackingState) → Goes m a b → Goes (m + n) a b
goes_wider m n a b goes = Goes-within m (m + n) a b (omega arith) goes

-- what holds, holds after a refusal
pub after_err : {T E : Type 0} {P : Type 0} (r : Result T E) → P → OnErr r P
after_err (Ok x) holds = tt
after_err (Err e) holds = holds

-- what holds after a refusal may be told otherwise
pub on_err : {T E : Type 0} {P Q : Type 0} (r : Result T E) → (P → Q) → OnErr r P → OnErr r Q
on_err (Ok x) told holds = tt
on_err (Err e) told holds = told holds

pub on_errs : {T E : Type 0} {P Q R : Type 0} (r : Result T E) → (P → Q → R) → OnErr r P → OnErr r Q → OnErr r R
on_errs (Ok x) told first second = tt
on_errs (Err e) told first second = told first second

-- callers see the same where what is kept and the files are as they were
pub same_kept : (a b : BackingState) (kept after : Kept) → after ≡ kept → KeepsFiles a b → IsAlike (present a.tree kept) (present b.tree after)
same_kept a b kept after same files = subst (λ k. IsAlike (present a.tree kept) (present b.tree k)) (sym same) (alike_on b.tree a.tree kept files.tree)

-- pages that are as they were are paid still
pub paid_pages : {x y : Outlook} {a b : BackingState} → Looks x y a b → (before after : Pages) → after ≡ before → length before.dirty ≤ a.space.credits → length after.dirty ≤ b.space.credits
paid_pages {x} {y} {a} {b} looks before after same paid = subst (λ (p : Pages). length p.dirty ≤ b.space.credits) (sym same) (paid_on looks (length before.dirty) paid)

-- and no credit came for them, and none went
pub issued_pages : {x y : Outlook} {a b : BackingState} → Looks x y a b → (before after : Pages) → after ≡ before → b.space.credits + length before.dirty ≡ a.space.credits + length after.dirty
issued_pages {x} {y} {a} {b} looks before after same = subst (λ (p : Pages). b.space.credits + length before.dirty ≡ a.space.credits + length p.dirty) (sym same) (issued_on looks (length before.dirty))

-- what holds where pages were read, which are kept as clean ones
module _ {x y : Outlook} {a b : BackingState} (looks : Looks x y a b) (before after : Kept) (same : IsSameButClean before after) where
  pub clean_paid : length before.pages.dirty ≤ a.space.credits → length after.pages.dirty ≤ b.space.credits
  clean_paid paid = subst (λ (k : Kept). length k.pages.dirty ≤ b.space.credits) (sym same) (paid_on looks (length before.pages.dirty) paid)

  pub clean_issued : b.space.credits + length before.pages.dirty ≡ a.space.credits + length after.pages.dirty
  clean_issued = subst (λ (k : Kept). b.space.credits + length before.pages.dirty ≡ a.space.credits + length k.pages.dirty) (sym same) (issued_on looks (length before.pages.dirty))

  pub clean_sound : IsSound (present a.tree before) → IsSound (present b.tree after)
  clean_sound sound = subst (λ (k : Kept). IsSound (present b.tree k)) (sym same) (sound_on b.tree a.tree before (tree_on looks) sound)

  pub clean_same : IsAlike (present a.tree before) (present b.tree after)
  clean_same = subst (λ (k : Kept). IsAlike (present a.tree before) (present b.tree k)) (sym same) (same_on looks before)

  pub clean_grows : GrowsBy 0 a b before after
  clean_grows = subst (λ (k : Kept). GrowsBy 0 a b before k) (sym same) (grows_looked looks 0 before)

-- what is no sync syncs nothing
pub none_synced : (mode : Mode) (new : BackingState) (before after : Kept) (caller : ℕ) (op : Op) (reply : Reply) → is_sync op ≡ false → HasSynced mode new before after caller op reply
none_synced ReadWrite new before after caller Flush Done plain = absurd (false≢true (sym plain))
none_synced ReadWrite new before after caller (Fsync slot) Done plain = absurd (false≢true (sym plain))
none_synced mode new before after caller op reply plain = tt

-- a fault after a call is one after both
pub fault_after : (n : ℕ) (a b c : BackingState) (r : Refusal) → Goes n a b → IsFault b c r → IsFault a c r
fault_after n a b c (Eio count) goes fault = (rose_since a.faults b.faults c.faults goes.faults fault.0, fault.1, fault.2)
fault_after n a b c Enomem goes fault = tt
fault_after n a b c r goes fault = absurd fault
