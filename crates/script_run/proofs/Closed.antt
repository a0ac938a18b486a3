-- What a step over a backing that may only be read answers and leaves.
use Rattle.std.proofs.Common.{◌≡◌, ℕ, ◌+◌, ◌*◌, ◌≤◌, false, Option, Some, None, Err, List, [], ◌∷◌, inl, inr, length, refl, sym, ap, subst, ◌∙◌, arith}
use Rattle.std.specs.Prelude.{max}
use Rattle.fs_model.specs.declared.backing_answers.Mode.{Mode}
use Rattle.fs_model.specs.declared.backing_answers.Mode.TheVariants.{ReadWrite, ReadOnly}
use Rattle.fs_model.specs.declared.op.Op.{Op}
use Rattle.fs_model.specs.declared.op.Op.TheVariants.{Create, Mkdir, Symlink, Link, Unlink, Rmdir, Rename, OpenFile, Close, Read, Write, Truncate, Fsync, Flush, List as ListDir, Stat, Readlink, Chmod}
use Rattle.fs_model.specs.declared.refusal.Cause.{Cause}
use Rattle.fs_model.specs.declared.refusal.NoSpace.{NoSpace}
use Rattle.fs_model.specs.declared.refusal.Refusal.{Refusal}
use Rattle.fs_model.specs.declared.refusal.Refusal.TheVariants.{Erofs, Eio, Enomem}
use Rattle.fs_model.specs.declared.reply.Reply.{Reply}
use Rattle.fs_model.specs.declared.reply.Reply.TheVariants.{Refused}
use Rattle.fs_model.specs.declared.space.Need.{Need}
use Rattle.fs_model.specs.Backing.{BackingState, Goes, ModeGoes}
use Rattle.fs_model.specs.Files.{Files}
use Rattle.fs_model.specs.Legal.{pages_in, read_only_cause}
use Rattle.fs_model.specs.Operation.{outcome_of}
use Rattle.fs_model.specs.Outcome.{Outcome}
use Rattle.buffered_files.specs.declared.kept.Kept.{Kept}
use Rattle.buffered_files.specs.Calls.{full_weight}
use Rattle.buffered_files.specs.Present.{present}
use Rattle.vfs_ops.specs.declared.event.Event.TheVariants.{Call}
use Rattle.vfs_ops.specs.declared.event.Outcome.TheVariants.{Replied}
use Rattle.vfs_ops.specs.Events.{IsWeighedCall}
use Rattle.vfs_ops.specs.Kinds.{added_by}
use Rattle.vfs_ops.specs.Operations.{is_of_names, nodes_asked}
use Rattle.vfs_ops.specs.Steps.{IsAnswered, IsDone, IsRefusedFor, IsTurnedDown, IsUnsynced, Passage, allowed_on, asked}
use Rattle.vfs_ops.proofs.Truncating.{no_nodes}
use Rattle.vfs_plans.specs.Answers.{IsFault}
use Rattle.vfs_plans.specs.Operations.{is_truncate}
use Rattle.script_run.specs.Reading.{IsReadReply, Reading, read_outcome, unless_closed}
use Rattle.script_run.specs.Replies.{is_fault}

-- what is open then isn't of names
names_closed : (cause : Cause) (op : Op) → read_only_cause (ReadOnly cause) op ≡ None → is_of_names op ≡ false
names_closed cause (Create path mode) h = absurd cc
names_closed cause (Mkdir path mode) h = absurd cc
names_closed cause (Symlink path target) h = absurd cc
names_closed cause (Link old new) h = absurd cc
names_closed cause (Unlink path) h = absurd cc
names_closed cause (Rmdir path) h = absurd cc
names_closed cause (Rename old new) h = absurd cc
names_closed cause (Chmod path mode) h = absurd cc
names_closed cause op h = refl

no_truncate : (cause : Cause) (op : Op) → read_only_cause (ReadOnly cause) op ≡ None → is_truncate op ≡ false
no_truncate cause (Truncate slot size) h = absurd cc
no_truncate cause op h = refl

no_pages : (cause : Cause) (op : Op) → read_only_cause (ReadOnly cause) op ≡ None → pages_in op ≡ 0
no_pages cause (Write slot offs len byte) h = absurd cc
no_pages cause op h = refl

-- and asks for nothing
quiet : (cause : Cause) (files : Files) (caller now : ℕ) (op : Op) → read_only_cause (ReadOnly cause) op ≡ None → 2 * pages_in op + nodes_asked files caller now op ≡ 0
quiet cause files caller now op h =
    let pages = no_pages cause op h in
    let nodes = no_nodes files caller now op (names_closed cause op h) (no_truncate cause op h) in
    omega (arith, pages, nodes)

-- so the plain operation is what is answered
plainly : (cause : Cause) (s : BackingState) (before : Reading) (caller : ℕ) (op : Op) → read_only_cause (ReadOnly cause) op ≡ None → allowed_on s before.files caller before.now op ≡ read_outcome cause before caller op
plainly cause s before caller op open_is =
    let plain : Outcome = outcome_of before.files caller before.now op in
    let allowed_is : allowed_on s before.files caller before.now op ≡ plain = rw (names_closed cause op open_is) refl in
    allowed_is ∙ ap (λ (c : Option Cause). unless_closed c plain) (sym open_is)

no_fault : (old new : BackingState) (r : Refusal) → is_fault (Refused r) ≡ false → IsFault old new r → ⊥
no_fault old new (Eio count) none h = absurd cc
no_fault old new Enomem none h = absurd cc
no_fault old new r none h = h

no_sync : (cause : Cause) (old new : BackingState) (r : Refusal) → old.mode ≡ ReadOnly cause → is_fault (Refused r) ≡ false → IsUnsynced old new r → ⊥
no_sync cause old new (Eio count) mode none h = absurd cc
no_sync cause old new Enomem mode none h = absurd cc
no_sync cause old new (Erofs other) mode none h = let n : ReadOnly cause ≡ ReadWrite = sym mode ∙ h.0 in absurd cc
no_sync cause old new r mode none h = h

-- nothing else turns it down
no_turn : (cause : Cause) (old new : BackingState) (kept : Kept) (need : Need) (op : Op) (r : Refusal) → read_only_cause (ReadOnly cause) op ≡ None → old.mode ≡ ReadOnly cause → is_fault (Refused r) ≡ false → IsTurnedDown old new kept need op r → ⊥
no_turn cause old new kept need (OpenFile path slot) r open_is mode none h = no_fault old new r none h
no_turn cause old new kept need (Close slot) r open_is mode none h = no_fault old new r none h
no_turn cause old new kept need (Read slot offs len) r open_is mode none h = no_fault old new r none h
no_turn cause old new kept need (ListDir path) r open_is mode none h = no_fault old new r none h
no_turn cause old new kept need (Stat path) r open_is mode none h = no_fault old new r none h
no_turn cause old new kept need (Readlink path) r open_is mode none h = no_fault old new r none h
no_turn cause old new kept need (Fsync slot) r open_is mode none h = no_sync cause old new r mode none h
no_turn cause old new kept need Flush r open_is mode none h = no_sync cause old new r mode none h
no_turn cause old new kept need op r open_is mode none h = absurd cc

-- why it is refused
why_closed : (cause : Cause) (old new : BackingState) (kept : Kept) (before : Reading) (caller : ℕ) (op : Op) (r : Refusal) → old.mode ≡ ReadOnly cause → is_fault (Refused r) ≡ false
    → IsRefusedFor (read_only_cause (ReadOnly cause) op) old new kept before.files caller before.now 0 op r → read_outcome cause before caller op ≡ Err r
why_closed cause old new kept before caller op r mode none = by (read_only_cause (ReadOnly cause) op) refl
  where
    by : (c : Option Cause) → read_only_cause (ReadOnly cause) op ≡ c → IsRefusedFor c old new kept before.files caller before.now 0 op r → read_outcome cause before caller op ≡ Err r
    by (Some x) e h = ap (λ (c : Option Cause). unless_closed c (outcome_of before.files caller before.now op)) e ∙ ap (λ (f : Refusal). Err f) (sym h)
    by None e (inl plain) = sym (plainly cause old before caller op e) ∙ plain
    by None e (inr (turned, last)) = absurd (no_turn cause old new kept (asked before.files caller before.now 0 op) op r e mode none turned)

pub answered_closed : (cause : Cause) (old new : BackingState) (kept : Kept) (before : Reading) (caller : ℕ) (op : Op) (reply : Reply) (first last : List NoSpace) → old.mode ≡ ReadOnly cause → is_fault reply ≡ false
    → IsAnswered old new kept before.files caller before.now 0 op reply first last → IsReadReply cause before caller op reply (present new.tree kept)
answered_closed cause old new kept before caller op reply first last mode none (inl (open_was, done, same)) =
    let open_is : read_only_cause (ReadOnly cause) op ≡ None = subst (λ (m : Mode). read_only_cause m op ≡ None) mode open_was in
    inl (subst (λ (o : Outcome). IsDone o (present new.tree kept) reply) (plainly cause old before caller op open_is) done)
answered_closed cause old new kept before caller op reply first last mode none (inr (refusal, list)) = inr (record {
  refusal = refusal.refusal;
  why = why_closed cause old new kept before caller op refusal.refusal mode (sym (ap is_fault refusal.told) ∙ none)
      (subst (λ (m : Mode). IsRefusedFor (read_only_cause m op) old new kept before.files caller before.now 0 op refusal.refusal) mode refusal.why);
  told = refusal.told;
  same = refusal.same;
})

-- the mode stays
pub mode_after : (n : ℕ) (cause : Cause) (old new : BackingState) → Goes n old new → old.mode ≡ ReadOnly cause → new.mode ≡ ReadOnly cause
mode_after n cause old new goes was = by goes.mode
  where
    by : ModeGoes old new → new.mode ≡ ReadOnly cause
    by (inl same) = same ∙ was
    by (inr (open_was, lost)) = let n : ReadOnly cause ≡ ReadWrite = sym was ∙ open_was in absurd cc

-- nothing was added
none_added : (done failed : ℕ) (reply : Reply) → is_fault reply ≡ false → done ≡ 0 → added_by done failed reply ≡ 0
none_added done failed (Refused (Eio count)) none e = absurd cc
none_added done failed (Refused r) none e = refl
none_added done failed reply none e = e

refused_adds : (done failed : ℕ) (r : Refusal) → is_fault (Refused r) ≡ false → added_by done failed (Refused r) ≡ 0
refused_adds done failed (Eio count) none = absurd cc
refused_adds done failed r none = refl

adds_nothing : (cause : Cause) (old new : BackingState) (kept : Kept) (files : Files) (caller now failed : ℕ) (op : Op) (reply : Reply) (first last : List NoSpace) → old.mode ≡ ReadOnly cause → is_fault reply ≡ false
    → IsAnswered old new kept files caller now 0 op reply first last → added_by (2 * pages_in op + nodes_asked files caller now op) failed reply ≡ 0
adds_nothing cause old new kept files caller now failed op reply first last mode none (inl (open_was, done, same)) =
    none_added (2 * pages_in op + nodes_asked files caller now op) failed reply none (quiet cause files caller now op (subst (λ (m : Mode). read_only_cause m op ≡ None) mode open_was))
adds_nothing cause old new kept files caller now failed op reply first last mode none (inr (refusal, list)) =
    ap (added_by (2 * pages_in op + nodes_asked files caller now op) failed) refusal.told ∙ refused_adds (2 * pages_in op + nodes_asked files caller now op) failed refusal.refusal (sym (ap is_fault refusal.told) ∙ none)

pub light_after : (cause : Cause) (p : Passage) (caller now left : ℕ) (op : Op) (reply : Reply) (first last : List NoSpace) → p.old.mode ≡ ReadOnly cause → is_fault reply ≡ false → full_weight p.old p.before ≡ 0
    → IsAnswered p.old p.new p.after (present p.old.tree p.before) caller now 0 op reply first last → IsWeighedCall p (Call caller now 0 op) (Replied reply left) → full_weight p.new p.after ≡ 0
light_after cause p caller now left op reply first last mode none light answered weighed =
    let files = present p.old.tree p.before in
    let most = added_by (2 * pages_in op + nodes_asked files caller now op) (max 2 (nodes_asked files caller now op)) reply in
    let added : most ≡ 0 = adds_nothing cause p.old p.new p.after files caller now (max 2 (nodes_asked files caller now op)) op reply first last mode none answered in
    let grows : full_weight p.new p.after ≤ full_weight p.old p.before + most = weighed in
    omega (arith, added, light, grows)

-- so no page is dirty
pub none_dirty : {A : Type 0} (xs : List A) (weight : ℕ) → weight + 2 * length xs ≡ 0 → xs ≡ []
none_dirty [] weight h = refl
none_dirty (x ∷ xs) weight h = absurd (omega (arith, h))
