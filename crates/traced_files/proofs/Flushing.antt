-- No page is dirty behind a flush that was done, as long as nothing but questions is asked.
use Rattle.std.proofs.Common.{◌≡◌, ◌⊎◌, inl, inr, ℕ, Bool, true, false, ◌&&◌, List, [], ◌∷◌, ◌++◌, refl, sym, ap, subst, ◌∙◌}
use Rattle.std.specs.Map.{remove_entry}
use Rattle.std.proofs.lemmas.Bool.{false≢true}
use Rattle.fs_model.specs.declared.backing_answers.Mode.{Mode}
use Rattle.fs_model.specs.declared.backing_answers.Mode.TheVariants.{ReadWrite, ReadOnly}
use Rattle.fs_model.specs.declared.op.Op.{Op}
use Rattle.fs_model.specs.declared.op.Op.TheVariants.{Flush}
use Rattle.fs_model.specs.declared.reply.Reply.{Reply}
use Rattle.fs_model.specs.declared.reply.Reply.TheVariants.{Done, Refused}
use Rattle.fs_model.specs.declared.refusal.Refusal.TheVariants.{Enomem}
use Rattle.fs_model.specs.declared.trace.TraceLine.{TraceLine}
use Rattle.buffered_files.specs.declared.kept.Kept.{Kept}
use Rattle.vfs_ops.specs.declared.event.Event.{Event}
use Rattle.vfs_ops.specs.declared.event.Event.TheVariants.{Pick, Put}
use Rattle.vfs_ops.specs.declared.event.Outcome.{Outcome}
use Rattle.vfs_ops.specs.declared.event.Outcome.TheVariants.{PutDone, Stale, Fault}
use Rattle.vfs_ops.specs.Background.{IsMade}
use Rattle.vfs_ops.specs.Events.{HasSynced}
use Rattle.vfs_ops.specs.FilesState.{FilesState}
use Rattle.vfs_ops.specs.Kinds.{is_question}
use Rattle.vfs_ops.specs.Steps.{IsExact, Passage}
use Rattle.traced_files.specs.History.{flushed_by, flushed_from}

pub flushed_on : (flushed : Bool) (lines : List TraceLine) (line : TraceLine) → flushed_from flushed (lines ++ line ∷ []) ≡ flushed_by (flushed_from flushed lines) line.op line.reply
flushed_on flushed [] line = refl
flushed_on flushed (x ∷ xs) line = flushed_on (flushed_by flushed x.op x.reply) xs line

-- a question makes no page dirty
question_leaves : (p : Passage) (caller now grant : ℕ) (op : Op) (reply : Reply) (left : ℕ) → IsExact p caller now grant op reply left → is_question op ≡ true → p.after.pages.dirty ≡ p.before.pages.dirty
question_leaves p caller now grant op reply left (inl done) asks = ap (λ (k : Kept). k.pages.dirty) (done.looked asks).kept
question_leaves p caller now grant op reply left (inr refused) asks = ap (λ (k : Kept). k.pages.dirty) (refused.looked (inl asks)).kept

both : (a b : Bool) → (a && b) ≡ true → (a ≡ true) × (b ≡ true)
both true b h = (refl, h)
both false b h = absurd (false≢true h)

-- no page is dirty behind a line if all is written back then
pub line_flushes : (p : Passage) (mode : Mode) (caller now grant : ℕ) (op : Op) (reply told : Reply) (left : ℕ) (before : Bool) → mode ≡ ReadWrite → HasSynced mode p.new p.before p.after caller op reply → IsExact p caller now grant op reply left
    → (told ≡ reply) ⊎ (told ≡ Refused Enomem) → (before ≡ true → p.before.pages.dirty ≡ []) → flushed_by before op told ≡ true → p.after.pages.dirty ≡ []
line_flushes p (ReadOnly cause) caller now grant op reply told left before is synced exact same was behind = absurd cc
line_flushes p ReadWrite caller now grant op reply told left before is synced exact same was behind = by op told refl refl behind
  where
    asked : (before && is_question op) ≡ true → p.after.pages.dirty ≡ []
    asked h = let two = both before (is_question op) h in question_leaves p caller now grant op reply left exact two.1 ∙ was two.0

    done : op ≡ Flush → told ≡ Done → p.after.pages.dirty ≡ []
    done flush is_done = from same
      where
        from : (told ≡ reply) ⊎ (told ≡ Refused Enomem) → p.after.pages.dirty ≡ []
        from (inl answered) =
            let is_reply : reply ≡ Done = sym answered ∙ is_done in
            (subst (λ (o : Op). HasSynced ReadWrite p.new p.before p.after caller o Done) flush (subst (λ (r : Reply). HasSynced ReadWrite p.new p.before p.after caller op r) is_reply synced)).1
        from (inr short) = let e : Done ≡ Refused Enomem = sym is_done ∙ short in absurd cc

    by : (o : Op) (r : Reply) → op ≡ o → told ≡ r → flushed_by before o r ≡ true → p.after.pages.dirty ≡ []
    by Flush Done flush is_done h = done flush is_done
    by o r op_is told_is h = asked (ap (λ (x : Op). before && is_question x) op_is ∙ h)

no_entries : {K V : Type 0} (p : K → Bool) (entries : List (K × V)) → entries ≡ [] → remove_entry p entries ≡ []
no_entries p [] none = refl
no_entries p (e ∷ es) none = absurd cc

-- work between lines makes no page dirty
pub work_flushes : (old new : FilesState) (event : Event) (outcome : Outcome) → IsMade old new event outcome → old.kept.pages.dirty ≡ [] → new.kept.pages.dirty ≡ []
work_flushes old new Pick outcome made none = ap (λ (x : FilesState). x.kept.pages.dirty) made.1 ∙ none
work_flushes old new (Put shown) PutDone made none =
    ap (λ (k : Kept). k.pages.dirty) made.clean ∙ no_entries _ old.kept.pages.dirty none
work_flushes old new (Put shown) (Stale kept now) made none = ap (λ (k : Kept). k.pages.dirty) made.pages ∙ none
work_flushes old new (Put shown) (Fault why) made none = ap (λ (k : Kept). k.pages.dirty) made.pages ∙ none
work_flushes old new (Put shown) outcome made none = absurd made
work_flushes old new event outcome made none = ap (λ (x : FilesState). x.kept.pages.dirty) made.1 ∙ none
