-- Who only looks.
use Rattle.std.proofs.Common.{◌≡◌, ℕ, ◌-◌, ◌⊎◌, inl, inr, true, false, Ok, Err, refl, sym, ap, subst, ◌∙◌, arith, Result, Some, None, Option, IfErr}
use Rattle.std.proofs.lemmas.Bool.{false≢true}
use Rattle.std.specs.BTreeMap.{is_at}
use Rattle.std.specs.Map.{lookup}
use Rattle.std.specs.Option.{option_map_or}
use Rattle.fs_model.specs.declared.backing_answers.StoreFault.{StoreFault}
use Rattle.fs_model.specs.declared.backing_answers.StoreFault.TheVariants.{Memory, Volume, ReadOnly as IsReadOnly}
use Rattle.fs_model.specs.declared.op.Op.{Op}
use Rattle.fs_model.specs.declared.op.Op.TheVariants.{OpenFile, Read, Write, List as ListDir, Stat, Readlink}
use Rattle.fs_model.specs.declared.refusal.NoSpace.{NoSpace}
use Rattle.fs_model.specs.declared.refusal.Refusal.{Refusal}
use Rattle.fs_model.specs.declared.refusal.Refusal.TheVariants.{Enospc, Erofs, Eio, Enomem}
use Rattle.fs_model.specs.declared.space.Need.{Need}
use Rattle.fs_model.specs.Backing.{BackingState, Outlook}
use Rattle.fs_model.specs.CallFaults.{refusal_of}
use Rattle.fs_model.specs.Files.{pair_cmp}
use Rattle.page_cache.specs.Pages.{Pages}
use Rattle.buffered_files.specs.declared.kept.Kept.{Kept}
use Rattle.buffered_files.specs.Calls.{IsWithoutRoom}
use Rattle.buffered_files.specs.Present.{IsSameButClean, newly_dirty}
use Rattle.vfs_plans.specs.Answers.{IsFault, Looks}
use Rattle.vfs_ops.specs.Kinds.{IsEarly, IsLookOnly, IsStopped, OnlyLooks, is_late, is_question}
use Rattle.vfs_ops.specs.Operations.{is_of_names}
use Rattle.vfs_ops.specs.Steps.{IsUnsynced, is_write}
use Rattle.vfs_ops.specs.Writing.{newly_by}

-- a fault is late
pub fault_late : (old new : BackingState) (r : Refusal) → IsFault old new r → is_late r ≡ false → ⊥
fault_late old new (Eio count) h early = false≢true (sym early)
fault_late old new Enomem h early = false≢true (sym early)
fault_late old new r h early = h

-- and so is want of room
pub room_late : (old new : BackingState) (kept : Kept) (need : Need) (r : Refusal) → IsWithoutRoom old new kept need r → is_late r ≡ false → ⊥
room_late old new kept need (Enospc space) h early = false≢true (sym early)
room_late old new kept need (Erofs cause) h early = false≢true (sym early)
room_late old new kept need (Eio count) h early = false≢true (sym early)
room_late old new kept need Enomem h early = false≢true (sym early)
room_late old new kept need r h early = h

pub either_late : (old new : BackingState) (kept : Kept) (need : Need) (r : Refusal) → IsFault old new r ⊎ IsWithoutRoom old new kept need r → is_late r ≡ false → ⊥
either_late old new kept need r (inl fault) early = fault_late old new r fault early
either_late old new kept need r (inr room) early = room_late old new kept need r room early

-- and what stops a sync
pub stopped_late : (old new : BackingState) (r : Refusal) → IsStopped old new r → is_late r ≡ false → ⊥
stopped_late old new (Erofs cause) h early = false≢true (sym early)
stopped_late old new (Eio count) h early = false≢true (sym early)
stopped_late old new Enomem h early = false≢true (sym early)
stopped_late old new r h early = h

pub unsynced_late : (old new : BackingState) (r : Refusal) → IsUnsynced old new r → is_late r ≡ false → ⊥
unsynced_late old new (Erofs cause) h early = false≢true (sym early)
unsynced_late old new (Eio count) h early = false≢true (sym early)
unsynced_late old new Enomem h early = false≢true (sym early)
unsynced_late old new r h early = h

-- and a fault of the store
pub store_late : (fault : StoreFault) → is_late (refusal_of fault) ≡ false → ⊥
store_late Memory early = false≢true (sym early)
store_late (Volume count) early = false≢true (sym early)
store_late (IsReadOnly cause) early = false≢true (sym early)

-- looks that leave what is kept
pub looked : {x y : Outlook} {a b : BackingState} → Looks x y a b → (before after : Kept) → IsSameButClean before after → OnlyLooks a b before after
looked looks before after same = record {
  reads = looks.reads;
  kept = same ∙ ap (λ handles. record before { pages = record before.pages { clean = after.pages.clean }; handles = handles }) (sym (ap (λ (k : Kept). k.handles) same));
}

-- an operation on names is no question
pub names_ask : (op : Op) → is_of_names op ≡ true → is_question op ≡ true → ⊥
names_ask (OpenFile path slot) is asks = false≢true is
names_ask (Read slot offs len) is asks = false≢true is
names_ask (ListDir path) is asks = false≢true is
names_ask (Stat path) is asks = false≢true is
names_ask (Readlink path) is asks = false≢true is
names_ask op is asks = false≢true asks

-- who asks no question only looks where it is refused early
pub only_early : {T Q : Type 0} (op other : Op) (result : Result T Refusal) → op ≡ other → is_question other ≡ false → (IsEarly result → Q) → IsLookOnly op result → Q
only_early op other result e plain early (inl asks) = absurd (false≢true (sym plain ∙ sym (ap is_question e) ∙ asks))
only_early op other result e plain early (inr h) = early h

pub names_early : {T Q : Type 0} (op : Op) (result : Result T Refusal) → is_of_names op ≡ true → (IsEarly result → Q) → IsLookOnly op result → Q
names_early op result is early (inl asks) = absurd (names_ask op is asks)
names_early op result is early (inr h) = early h

-- what is no write takes nothing of its grant
pub whole_left : (kept : Kept) (caller grant : ℕ) (op : Op) → is_write op ≡ false → grant ≡ grant - newly_by kept caller op
whole_left kept caller grant (Write slot offs len byte) other = absurd (false≢true (sym other))
whole_left kept caller grant op other = omega arith

-- nor does a write of nothing
pub none_left : (kept : Kept) (caller grant slot offs len byte : ℕ) → len ≡ 0 → grant ≡ grant - newly_by kept caller (Write slot offs len byte)
none_left kept caller grant slot offs len byte none =
    subst (λ n. grant ≡ grant - newly_by kept caller (Write slot offs n byte)) (sym none) (by (lookup (is_at (pair_cmp (caller, slot))) kept.handles))
  where
    by : (found : Option ℕ) → grant ≡ grant - option_map_or (λ ino. newly_dirty kept.pages.dirty ino offs 0) found 0
    by (Some ino) = omega arith
    by None = omega arith

-- a write takes what its file's pages take
pub write_left : (kept : Kept) (caller grant slot offs len byte ino left : ℕ) → lookup (is_at (pair_cmp (caller, slot))) kept.handles ≡ Some ino → left ≡ grant - newly_dirty kept.pages.dirty ino offs len
    → left ≡ grant - newly_by kept caller (Write slot offs len byte)
write_left kept caller grant slot offs len byte ino left found taken =
    taken ∙ ap (λ (o : Option ℕ). grant - option_map_or (λ i. newly_dirty kept.pages.dirty i offs len) o 0) (sym found)

-- opening changes handles alone
pub opened_looks : {x y : Outlook} {a b : BackingState} → Looks x y a b → (before after : Kept) → after.pages ≡ before.pages → after.inodes ≡ before.inodes → OnlyLooks a b before after
opened_looks looks before after pages inodes = record {
  reads = looks.reads;
  kept =
      let same : after.pages ≡ record before.pages { clean = after.pages.clean } = pages ∙ ap (λ clean. record before.pages { clean = clean }) (sym (ap (λ (p : Pages). p.clean) pages)) in
      ap (λ (p : Pages). record after { pages = p }) same ∙ ap (λ inodes. record after { pages = record before.pages { clean = after.pages.clean }; inodes = inodes }) inodes;
}

-- all is as it was
pub same_looks : (a b : BackingState) (before after : Kept) → b ≡ a → after ≡ before → OnlyLooks a b before after
same_looks a b before after same kept = record {
  reads = rw same refl;
  kept = kept ∙ ap (λ (k : Kept). record before { pages = record before.pages { clean = k.pages.clean }; handles = k.handles }) (sym kept);
}

-- a sync isn't refused early where it is stopped
pub unsynced_early : {T Q : Type 0} (old new : BackingState) (result : Result T Refusal) → IfErr result (λ r. IsUnsynced old new r) → IsEarly result → Q
unsynced_early old new (Ok x) h early = absurd early
unsynced_early old new (Err r) h early = absurd (unsynced_late old new r h early)

-- want of room that is told as want of memory is late still
pub noted_looks : {Q : Type 0} (T : Type 0) (op : Op) (refusal noted : Refusal) → (noted ≡ refusal) ⊎ ((noted ≡ Enomem) × ((space : NoSpace) × (refusal ≡ Enospc space)))
    → (IsLookOnly {T = T} op (Err refusal) → Q) → (is_question op ≡ true) ⊎ (is_late noted ≡ false) → Q
noted_looks T op refusal noted told looks (inl asks) = looks (inl asks)
noted_looks T op refusal noted (inl same) looks (inr early) = looks (inr (subst (λ r. is_late r ≡ false) same early))
noted_looks T op refusal noted (inr (memory, full)) looks (inr early) = absurd (false≢true (sym (subst (λ r. is_late r ≡ false) memory early)))
