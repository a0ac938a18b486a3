-- What is stored under the files, from what a step says of what is kept.
use Rattle.std.proofs.Common.{◌≡◌, ◌⊎◌, ℕ, Bool, true, false, Ok, [], refl, sym, ap, ◌∙◌, inl, inr}
use Rattle.std.specs.Prelude.{not}
use Rattle.std.proofs.lemmas.Bool.{false≢true}
use Rattle.fs_model.specs.declared.backing_answers.Mode.TheVariants.{ReadWrite}
use Rattle.fs_model.specs.declared.op.Op.{Op}
use Rattle.fs_model.specs.declared.op.Op.TheVariants.{Flush, Fsync}
use Rattle.fs_model.specs.declared.refusal.Refusal.{Refusal}
use Rattle.fs_model.specs.declared.reply.Reply.{Reply}
use Rattle.fs_model.specs.declared.reply.Reply.TheVariants.{Done, Refused}
use Rattle.fs_model.specs.Files.{Files}
use Rattle.fs_model.specs.Operation.{outcome_of}
use Rattle.fs_laws.specs.Sound.{IsSound}
use Rattle.buffered_files.specs.declared.kept.Kept.{Kept}
use Rattle.buffered_files.specs.Present.{IsKept, present}
use Rattle.buffered_files.proofs.Reading.{Reads-tree}
use Rattle.plain_backing.specs.declared.backing.PlainBacking.{PlainBacking}
use Rattle.plain_backing.specs.PlainBacking.{backing_state_of}
use Rattle.vfs_ops.specs.Events.{HasSynced}
use Rattle.vfs_ops.specs.Kinds.{is_late, is_question}
use Rattle.vfs_ops.specs.Replies.{is_refusal}
use Rattle.vfs_ops.specs.Steps.{IsExact, Passage}
use Rattle.script_run.specs.Run.{HasStored}
use Rattle.script_run.specs.Sessions.{mounted_over}
use Rattle.traced_files.proofs.Answering.{allowed_done}
use Rattle.traced_files.proofs.Synced.{file_stored}
use Rattle.script_run.specs.Stored.{is_early}

-- after a sync that is done
pub stored_of : (old new : PlainBacking) (before after : Kept) (now caller : ℕ) (op : Op) (reply : Reply) → IsKept (backing_state_of new).tree after
    → (IsKept (backing_state_of new).tree after → after.pages.dirty ≡ [] → (present (backing_state_of new).tree after).tree ≡ (backing_state_of new).tree)
    → HasSynced ReadWrite (backing_state_of new) before after caller op reply → HasStored (mounted_over old before now) caller op reply (mounted_over new after now)
stored_of old new before after now caller Flush Done fits clean h = sym (clean fits h.1)
stored_of old new before after now caller (Fsync slot) Done fits clean h = λ ino open_is. file_stored (backing_state_of new).tree after ino fits (h.1 ino open_is)
stored_of old new before after now caller op reply fits clean h = tt

-- a refusal before anything is put is a refusal
early_refused : (reply : Reply) → is_early reply ≡ true → is_refusal reply ≡ true
early_refused (Refused refusal) h = refl
early_refused reply h = absurd (false≢true h)

-- what only looks, or is refused before anything is put, leaves what is stored
pub still_of : (p : Passage) (caller now : ℕ) (op : Op) (reply : Reply) (left : ℕ)
    → ((files : Files) (caller now : ℕ) (op : Op) (reply : Reply) (after : Files) → IsSound files → outcome_of files caller now op ≡ Ok (reply, after) → is_refusal reply ≡ false)
    → IsSound (present p.old.tree p.before) → IsExact p caller now 0 op reply left → (is_question op ≡ true) ⊎ (is_early reply ≡ true) → p.new.tree ≡ p.old.tree
still_of p caller now op reply left told sound (inl done) (inl question) = Reads-tree p.old p.new (done.looked question).reads
still_of p caller now op reply left told sound (inl done) (inr early) =
    let plain = allowed_done _ _ (present p.old.tree p.before) caller now op (reply, done.done.0) done.done.1 in
    absurd (false≢true (sym (told (present p.old.tree p.before) caller now op reply done.done.0 sound plain) ∙ early_refused reply early))
still_of p caller now op reply left told sound (inr refused) (inl question) = Reads-tree p.old p.new (refused.looked (inl question)).reads
still_of p caller now op reply left told sound (inr refused) (inr early) = Reads-tree p.old p.new (refused.looked (inr (not_late refused.refusal (sym (ap is_early refused.told) ∙ early)))).reads
  where
    not_late : (refusal : Refusal) → is_early (Refused refusal) ≡ true → is_late refusal ≡ false
    not_late refusal h = by (is_late refusal) h
      where
        by : (b : Bool) → not b ≡ true → b ≡ false
        by true e = absurd (false≢true e)
        by false e = refl
