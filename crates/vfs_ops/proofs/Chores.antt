-- Events of the background, and the files that they leave.
use Rattle.std.proofs.Common.{◌≡◌, ℕ, true, Option, Some, None, ◌+◌, ◌-◌, ◌<◌, ◌≤◌, length, inl, inr, refl, sym, ap, subst, arith, ◌∙◌}
use Rattle.std.specs.Prelude.{Result, Ok, Err}
use Rattle.std.proofs.lemmas.Bool.{cases_lt, false≢true}
use Rattle.fs_model.specs.declared.backing_answers.Mode.TheVariants.{ReadOnly}
use Rattle.fs_model.specs.declared.backing_answers.StoreFault.{StoreFault}
use Rattle.fs_model.specs.declared.backing_answers.StoreFault.TheVariants.{ReadOnly as IsReadOnly}
use Rattle.fs_model.specs.declared.refusal.Cause.{Cause}
use Rattle.fs_model.specs.declared.refusal.NoSpace.{NoSpace}
use Rattle.fs_model.specs.declared.space.Need.{Need}
use Rattle.fs_model.specs.Backing.{BackingState, Goes, HasMode, KeepsCommit, KeepsFiles, KeepsStart, Outlook, KeepsSure, given_back, granted, next_orphans}
use Rattle.fs_model.specs.Cover.{needed, room_for}
use Rattle.fs_model.specs.Journal.{Journal, Medium}
use Rattle.fs_model.specs.JournalLaws.{Leaves-none}
use Rattle.buffered_files.specs.declared.kept.Kept.{Kept}
use Rattle.buffered_files.specs.Calls.{SureGoes}
use Rattle.buffered_files.specs.CallLaws.{Goes-none}
use Rattle.buffered_files.specs.Present.{IsKept}
use Rattle.vfs_ops.specs.declared.event.Event.{Event}
use Rattle.vfs_ops.specs.declared.event.Event.TheVariants.{Call, Pick, Put, Sync, Collect, CommitStart, CommitStep, CommitEnd, Refill, Drain}
use Rattle.vfs_ops.specs.declared.event.Outcome.{Outcome}
use Rattle.vfs_ops.specs.declared.event.Outcome.TheVariants.{Synced, Did, Began, Went, Closed, Granted, Refused, Drained, Fault}
use Rattle.vfs_ops.specs.Background.{IsBackgroundStep, IsBackingCall, IsChore, IsMade, is_chore, is_work, added_in, drained_in, granted_in, nodes_in}
use Rattle.vfs_ops.specs.Events.{grant_of}
use Rattle.vfs_ops.specs.FilesState.{FilesState}
use Rattle.vfs_ops.specs.Passing.{IsStep}
use Rattle.vfs_ops.specs.Steps.{IsReady}
use Rattle.vfs_ops.specs.Writing.{credits_need}
use Rattle.fs_model.specs.Orphan.{nameless}
use Rattle.vfs_ops.proofs.Cutting.{cut_chore}
use Rattle.vfs_ops.proofs.Takes.{alike_on, sound_on}
use Rattle.vfs_ops.proofs.Weighing.{no_heavier}

-- what each call of the background leaves: the tree, all credits but those granted or drained, and no node was put
pub record IsLeft (old new : BackingState) (event : Event) (outcome : Outcome) : Type 0 where
  pub tree : new.tree ≡ old.tree
  pub issued : new.space.credits + drained_in outcome ≡ old.space.credits + granted_in outcome
  pub few : drained_in outcome ≤ grant_of event
  pub goes : Goes 0 old new
  pub orphans : next_orphans new ≤ next_orphans old

orphans_kept : (old new : BackingState) → KeepsFiles old new → next_orphans new ≤ next_orphans old
orphans_kept old new files =
    let same : length (nameless new.tree) ≡ length (nameless old.tree) = ap (λ t. length (nameless t)) files.tree in
    let few = files.closed in
    omega (arith, same, few)

left_by : (T : Type 0) (old new : BackingState) (result : Result T StoreFault) (event : Event) (outcome : Outcome) → drained_in outcome ≡ 0 → granted_in outcome ≡ 0 → IsBackingCall old new result → IsLeft old new event outcome
left_by T old new result event outcome none nil h = let e = h.files.credits in record { tree = h.files.tree; issued = omega (arith, e, none, nil); few = omega (arith, none); goes = h.goes; orphans = orphans_kept old new h.files }

goes_granted : (old : BackingState) (need : Need) → Goes 0 old (granted old need)
goes_granted old need = record { geometry = refl; orphan_limit = refl; mode = inl refl; faults = omega arith; weight = omega arith; index = omega arith; nodes_put = omega arith; told = refl }

goes_given : (old : BackingState) (n : ℕ) → Goes 0 old (given_back old n)
goes_given old n = record { geometry = refl; orphan_limit = refl; mode = inl refl; faults = omega arith; weight = omega arith; index = omega arith; nodes_put = omega arith; told = refl }

pub left_after : (old new : BackingState) (event : Event) (outcome : Outcome) → grant_of event ≤ old.space.credits → IsChore old new event outcome → IsLeft old new event outcome
left_after old new Sync Synced few h = left_by (Unit {0}) old new (Ok tt) Sync Synced refl refl h.0
left_after old new Sync (Fault why) few h = left_by (Unit {0}) old new (Err why) Sync (Fault why) refl refl h.0
left_after old new Collect (Did collected) few h = left_by _ old new (Ok collected) Collect (Did collected) refl refl h.0
left_after old new Collect (Fault why) few h = left_by (Unit {0}) old new (Err why) Collect (Fault why) refl refl h.0
left_after old new CommitStart (Began started) few h = left_by _ old new (Ok started) CommitStart (Began started) refl refl h.0
left_after old new CommitStart (Fault why) few h = left_by (Unit {0}) old new (Err why) CommitStart (Fault why) refl refl h.0
left_after old new CommitStep (Went stepped) few h = left_by _ old new (Ok stepped) CommitStep (Went stepped) refl refl h.0
left_after old new CommitStep (Fault why) few h = left_by (Unit {0}) old new (Err why) CommitStep (Fault why) refl refl h.0
left_after old new CommitEnd (Closed ended) few h = left_by _ old new (Ok ended) CommitEnd (Closed ended) refl refl h.0
left_after old new CommitEnd (Fault why) few h = left_by (Unit {0}) old new (Err why) CommitEnd (Fault why) refl refl h.0
left_after old new (Refill n) (Granted m) few h =
    let e = h.0 in
    let credits : new.space.credits ≡ old.space.credits + n = ap (λ s. s.space.credits) h.1.1 in
    record { tree = ap (λ s. s.tree) h.1.1; issued = omega (arith, e, credits); few = omega arith; goes = subst (λ s. Goes 0 old s) (sym h.1.1) (goes_granted old (credits_need n)); orphans = let same = ap next_orphans h.1.1 in omega (arith, same) }
left_after old new (Refill n) (Refused space) few h =
    let credits : new.space.credits ≡ old.space.credits = ap (λ s. s.space.credits) h.0 in
    record { tree = ap (λ s. s.tree) h.0; issued = omega (arith, credits); few = omega arith; goes = subst (λ s. Goes 0 old s) (sym h.0) (Goes-none old); orphans = let same = ap next_orphans h.0 in omega (arith, same) }
left_after old new (Drain n) (Drained m) few h =
    let e = h.0 in
    let credits : new.space.credits ≡ old.space.credits - n = ap (λ s. s.space.credits) h.1 in
    record { tree = ap (λ s. s.tree) h.1; issued = omega (arith, e, few, credits); few = omega (arith, e); goes = subst (λ s. Goes 0 old s) (sym h.1) (goes_given old n); orphans = let same = ap next_orphans h.1 in omega (arith, same) }
left_after old new event outcome few h = absurd h

made_by : (old : FilesState) (b : BackingState) (event : Event) (outcome : Outcome) → IsChore old.backing b event outcome → IsMade old (record old { backing = b }) event outcome
made_by old b Pick outcome h = absurd h
made_by old b (Put shown) outcome h = absurd h
made_by old b event outcome h = (h, refl)

goes_by : (old b : BackingState) (event : Event) (outcome : Outcome) → IsChore old b event outcome → Goes 0 old b → Goes (nodes_in event) old b
goes_by old b (Put shown) outcome h goes = absurd h
goes_by old b event outcome h goes = goes

background_by : (old : FilesState) (b : BackingState) (event : Event) (outcome : Outcome) → grant_of event ≤ old.backing.space.credits → IsChore old.backing b event outcome → IsBackgroundStep old (record old { backing = b }) event outcome
background_by old b event outcome few h =
    let left = left_after old.backing b event outcome few h in
    let issued = left.issued in
    record {
      made = made_by old b event outcome h;
      same = alike_on b.tree old.backing.tree old.kept left.tree;
      refused = refl;
      issued = omega (arith, issued);
      weighed = no_heavier (added_in event outcome) old.backing b old.kept old.kept left.goes (omega arith);
      orphans = left.orphans;
      cut = cut_chore old.backing b old.kept event outcome h;
      goes = goes_by old.backing b event outcome h left.goes;
    }

-- what the backing did for an event is a step
pub step_by : (old : FilesState) (b : BackingState) (event : Event) (outcome : Outcome) → grant_of event ≤ old.backing.space.credits → IsChore old.backing b event outcome → IsStep old (record old { backing = b }) event outcome
step_by old b (Call caller now grant op) outcome few h = absurd h
step_by old b event outcome few h = background_by old b event outcome few h

-- and the files are ready after it
pub ready_by : (old b : BackingState) (kept : Kept) (event : Event) (outcome : Outcome) → IsReady old kept → length kept.pages.dirty + grant_of event ≤ old.space.credits → IsChore old b event outcome → IsReady b kept
ready_by old b kept event outcome ready few h =
    let left = left_after old b event outcome (omega (arith, few)) h in
    let issued = left.issued in
    let drained = left.few in
    record {
      kept_fits = subst (λ t. IsKept t kept) (sym left.tree) ready.kept_fits;
      paid = omega (arith, issued, drained, few);
      sound = sound_on b.tree old.tree kept left.tree ready.sound;
    }

-- a call that can't fail leaves a sure volume sure
pub sure_by : (before after : Outlook) (old new : BackingState) → KeepsSure before after → new.faults ≡ old.faults → SureGoes before after old new
sure_by before after old new keeps same = record { sure = λ s. inr (keeps.sure s, same); spent = λ s. keeps.spent s }

-- a refill that is refused
pub refused_by : (old new : BackingState) (n : ℕ) (space : NoSpace) → new ≡ old → (space.need ≡ needed old.space (credits_need n)) × (space.room ≡ room_for old.geometry old.space (credits_need n))
    → (needed old.space (credits_need n) ≤ room_for old.geometry old.space (credits_need n) → ⊥) → IsChore old new (Refill n) (Refused space)
refused_by old new n space same told never = (same, told.0, told.1, refuted (needed old.space (credits_need n)) (room_for old.geometry old.space (credits_need n)) space.need space.room told.0 told.1 never)
  where
    refuted : (x y m r : ℕ) → m ≡ x → r ≡ y → (x ≤ y → ⊥) → r < m
    refuted x y m r p q never = elim (cases_lt y x) [
      | inl lt ↦ omega (arith, p, q, lt)
      | inr ge ↦ absurd (never (omega (arith, ge)))
    ]

-- a read-only backing isn't asked
closed_call : (old : BackingState) (cause : Cause) → old.mode ≡ ReadOnly cause → IsBackingCall {T = Unit {0}} old old (Err (IsReadOnly cause))
closed_call old cause is = record {
  files = record { tree = refl; credits = refl; grant = refl; held = omega arith; closed = omega arith };
  cut = Leaves-none old.journal;
  goes = Goes-none old;
  cause = tt;
  mode = subst (λ m. HasMode {T = Unit {0}} m (Err (IsReadOnly cause))) (sym is) (inl refl);
  idle = λ closed. refl;
  closed = λ other same. let e : ReadOnly cause ≡ ReadOnly other = sym is ∙ same in let c : cause ≡ other = cc e in ap (λ x. Err (IsReadOnly x)) c;
}

still : (j : Journal) → KeepsCommit j j
still j = record { running = refl; left = refl; nodes = refl; later = refl; start = start j.medium refl }
  where
    start : (told : Option Medium) → j.medium ≡ told → KeepsStart j j
    start None none = rw none tt
    start (Some medium) some = rw some (refl, refl, refl)

pub closed_by : (old : BackingState) (cause : Cause) (event : Event) → is_work event ≡ true → old.mode ≡ ReadOnly cause → IsChore old old event (Fault (IsReadOnly cause))
closed_by old cause Sync work is = (closed_call old cause is, inl (still old.journal))
closed_by old cause Collect work is = (closed_call old cause is, inl (still old.journal))
closed_by old cause CommitStart work is = (closed_call old cause is, still old.journal)
closed_by old cause CommitStep work is = (closed_call old cause is, still old.journal)
closed_by old cause CommitEnd work is = (closed_call old cause is, still old.journal)
closed_by old cause event work is = absurd (false≢true work)

-- what the backing alone is asked for is work, but for credits that come and go
pub work_by : (event : Event) → is_chore event ≡ true → ((n : ℕ) → event ≡ Refill n → ⊥) → ((n : ℕ) → event ≡ Drain n → ⊥) → is_work event ≡ true
work_by (Refill n) chore refill drain = absurd (refill n refl)
work_by (Drain n) chore refill drain = absurd (drain n refl)
work_by (Call caller now grant op) chore refill drain = absurd (false≢true chore)
work_by Pick chore refill drain = absurd (false≢true chore)
work_by (Put shown) chore refill drain = absurd (false≢true chore)
work_by event chore refill drain = refl
