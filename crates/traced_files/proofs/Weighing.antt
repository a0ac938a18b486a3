-- How much heavier a line makes the index.
use Rattle.std.proofs.Common.{◌≡◌, ◌≢◌, ◌⊎◌, inl, inr, ℕ, ◌+◌, ◌*◌, ◌≤◌, Bool, true, false, ◌||◌, List, [], ◌∷◌, ◌++◌, Ok, Err, refl, sym, ap, subst, ◌∙◌, arith}
use Rattle.std.specs.Prelude.{if◌then◌else◌, max}
use Rattle.std.proofs.lemmas.Bool.{false≢true}
use Rattle.std.proofs.lemmas.List.Sums.{sum_by-append, sum_by-cons}
use Rattle.fs_model.specs.declared.backing_answers.Mode.{Mode}
use Rattle.fs_model.specs.declared.backing_answers.Mode.TheVariants.{ReadWrite}
use Rattle.fs_model.specs.declared.op.Op.{Op}
use Rattle.fs_model.specs.declared.op.Op.TheVariants.{OpenFile, Close, Read, Fsync, Flush, List as ListDir, Stat, Readlink}
use Rattle.fs_model.specs.declared.refusal.Refusal.TheVariants.{Eio}
use Rattle.fs_model.specs.declared.reply.Reply.{Reply}
use Rattle.fs_model.specs.declared.reply.Reply.TheVariants.{Refused}
use Rattle.fs_model.specs.declared.trace.TraceLine.{TraceLine}
use Rattle.fs_model.specs.Files.{Files}
use Rattle.fs_model.specs.Legal.{IsPlain, IsRefusal, IsRefused, Opening, Place, pages_in}
use Rattle.fs_model.specs.Operation.{outcome_of, reply_in}
use Rattle.fs_model.specs.Outcome.{Outcome}
use Rattle.fs_laws.specs.Sound.{IsSound}
use Rattle.buffered_files.specs.Calls.{full_weight}
use Rattle.vfs_ops.specs.FilesState.{present_in}
use Rattle.vfs_ops.specs.Kinds.{added_by, is_late}
use Rattle.vfs_ops.specs.Operations.{has_group, nodes_asked}
use Rattle.vfs_ops.specs.Replies.{is_refusal}
use Rattle.vfs_ops.specs.Steps.{is_write}
use Rattle.traced_files.specs.History.{index_growth_by, grown_weight}
use Rattle.traced_files.specs.Laws.{AreLaws}
use Rattle.traced_files.proofs.Going.{IsMadeCall, IsUnfailed, Stepped, WasEntered}
use Rattle.traced_files.proofs.Lines.{IsLine}

-- one line more weighs what it adds
pub grown_on : (opening : Opening) (lines : List TraceLine) (line : TraceLine) → grown_weight opening (lines ++ line ∷ []) ≡ grown_weight opening lines + index_growth_by line.op
grown_on opening lines line =
    let f : TraceLine → ℕ = λ l. index_growth_by l.op in
    let a = sum_by-append f lines (line ∷ []) in
    let b = sum_by-cons f line [] in
    omega (arith, a, b)

-- what neither writes nor has a group asks for no node
none_asked : (files : Files) (caller now : ℕ) (op : Op) → (is_write op || has_group op) ≡ false → (nodes_asked files caller now op ≡ 0) × (pages_in op ≡ 0)
none_asked files caller now (OpenFile path slot) e = (refl, refl)
none_asked files caller now (Close slot) e = (refl, refl)
none_asked files caller now (Read slot offs len) e = (refl, refl)
none_asked files caller now (ListDir path) e = (refl, refl)
none_asked files caller now (Stat path) e = (refl, refl)
none_asked files caller now (Readlink path) e = (refl, refl)
none_asked files caller now (Fsync slot) e = (refl, refl)
none_asked files caller now Flush e = (refl, refl)
none_asked files caller now op e = absurd (false≢true (sym e))

none_added : (done failed : ℕ) (reply : Reply) → done ≡ 0 → IsUnfailed reply → added_by done failed reply ≡ 0
none_added done failed (Refused (Eio count)) none whole = absurd (whole count refl)
none_added done failed (Refused refusal) none whole = refl
none_added done failed reply none whole = none

-- a line that tells of a fault of the volume is answered by a store that is read-only
line_failed : (opening : Opening) (mode : Mode) (place : Place) (line : TraceLine) (after : Files) → AreLaws → IsSound place.files → IsPlain place mode line after ⊎ IsRefused opening place mode line after → mode ≡ ReadWrite → IsUnfailed line.reply
line_failed opening mode place line after laws sound (inl plain) is count told = by (outcome_of place.files line.caller line.now line.op) refl
  where
    by : (o : Outcome) → outcome_of place.files line.caller line.now line.op ≡ o → ⊥
    by (Ok (reply, left)) e =
        let plainly = laws.told place.files line.caller line.now line.op reply left sound e in
        let same : reply ≡ Refused (Eio count) = sym (plain.told ∙ ap reply_in e) ∙ told in
        false≢true (sym plainly ∙ ap is_refusal same)
    by (Err refusal) e =
        let early = laws.early place.files line.caller line.now line.op refusal e in
        let same : Refused refusal ≡ Refused (Eio count) = sym (plain.told ∙ ap reply_in e) ∙ told in
        let is_fault : refusal ≡ Eio count = cc in
        false≢true (sym early ∙ ap is_late is_fault)
line_failed opening mode place line after laws sound (inr refused) is count told =
    let same : Refused refused.refusal ≡ Refused (Eio count) = sym refused.told ∙ told in
    let is_fault : refused.refusal ≡ Eio count = cc in
    let why : mode ≢ ReadWrite = subst (IsRefusal opening place mode line) is_fault refused.why in
    why is

pub unfailed : (opening : Opening) (place : Place) (s : Stepped) → AreLaws → IsSound place.files → WasEntered opening place s → s.old.backing.mode ≡ ReadWrite → s.new.backing.mode ≡ ReadWrite → IsUnfailed s.line.reply
unfailed opening place s laws sound entry was is = by entry.one
  where
    by : IsLine opening s.old.backing.mode place s.line entry.after ⊎ IsLine opening s.new.backing.mode place s.line entry.after → IsUnfailed s.line.reply
    by (inl one) = line_failed opening s.old.backing.mode place s.line entry.after laws sound one.answer was
    by (inr one) = line_failed opening s.new.backing.mode place s.line entry.after laws sound one.answer is

-- a call makes the index no heavier than its operation may
pub call_grows : (opening : Opening) (s : Stepped) → AreLaws → IsMadeCall opening s → IsUnfailed s.line.reply → full_weight s.new.backing s.new.kept ≤ full_weight s.old.backing s.old.kept + index_growth_by s.line.op
call_grows opening s laws h whole = by (is_write s.line.op || has_group s.line.op) refl
  where
    by : (b : Bool) → (is_write s.line.op || has_group s.line.op) ≡ b → full_weight s.new.backing s.new.kept ≤ full_weight s.old.backing s.old.kept + index_growth_by s.line.op
    by true e =
        let few = laws.few s.old s.new s.line.caller s.line.now s.grant s.line.op _ h.ready.sound h.step in
        let is : index_growth_by s.line.op ≡ 5 + 2 * pages_in s.line.op = ap (λ (b : Bool). if b then 5 + 2 * pages_in s.line.op else 0) e in
        omega (arith, few, is)
    by false e =
        let none = none_asked (present_in s.old) s.line.caller s.line.now s.line.op e in
        let asked = none.0 in
        let touched = none.1 in
        let done : 2 * pages_in s.line.op + nodes_asked (present_in s.old) s.line.caller s.line.now s.line.op ≡ 0 = omega (arith, asked, touched) in
        let added = none_added (2 * pages_in s.line.op + nodes_asked (present_in s.old) s.line.caller s.line.now s.line.op) (max 2 (nodes_asked (present_in s.old) s.line.caller s.line.now s.line.op)) s.line.reply done whole in
        let weighed = h.step.weighed in
        omega (arith, weighed, added)

-- nor does a group ask for more nodes
pub asked_grows : (files : Files) (caller now : ℕ) (op : Op) → AreLaws → nodes_asked files caller now op ≤ index_growth_by op
asked_grows files caller now op laws = by (is_write op || has_group op) refl
  where
    by : (b : Bool) → (is_write op || has_group op) ≡ b → nodes_asked files caller now op ≤ index_growth_by op
    by true e =
        let short = laws.short files caller now op in
        let is : index_growth_by op ≡ 5 + 2 * pages_in op = ap (λ (b : Bool). if b then 5 + 2 * pages_in op else 0) e in
        omega (arith, short, is)
    by false e = let none = (none_asked files caller now op e).0 in omega (arith, none)
