-- The first file on a fresh volume of 64 main LEBs.
use Rattle.std.proofs.Common.{◌≡◌, ℕ, ◌+◌, ◌*◌, ◌≤◌, ◌++◌, List, [], ◌∷◌, true, Err, inl, inr, refl, sym, ap, subst, ◌∙◌, arith}
use Rattle.std.specs.Prelude.{codes}
use Rattle.std.proofs.lemmas.List.{append-nil}
use Rattle.fs_model.specs.declared.op.Op.{Op}
use Rattle.fs_model.specs.declared.op.Op.TheVariants.{Create}
use Rattle.fs_model.specs.declared.refusal.Refusal.{Refusal}
use Rattle.fs_model.specs.declared.reply.Reply.{Reply}
use Rattle.fs_model.specs.declared.reply.Reply.TheVariants.{Ino}
use Rattle.fs_model.specs.declared.space.Class.TheVariants.{Ordinary}
use Rattle.fs_model.specs.Cover.{index_lebs, tree_bytes}
use Rattle.fs_model.specs.Files.{Blocks, Files, Tree}
use Rattle.fs_model.specs.Journal.{Journal}
use Rattle.fs_model.specs.Outcome.{reply_in}
use Rattle.fs_model.specs.Same.{trimmed_blocks}
use Rattle.fs_model.specs.Worked.{fresh}
use Rattle.buffered_files.specs.Alike.{IsAlike}
use Rattle.space_sums.proofs.Index.{index_lebs-grows}
use Rattle.script_text.specs.Reply.{reply_line}
use Rattle.text_lines.specs.Lines.{ended}
use Rattle.vfs_ops.specs.Steps.{IsDone}
use Rattle.script_run.specs.Heaviest.{one_create, worked_geometry}
use Rattle.script_run.specs.Run.{HasGrown, HasNoRoom, IsScriptAnswer, IsRefusedForRoom, IsReplied, IsRun, IsLineServed, ScriptRunning, nodes_added, nodes_for, opening, plain}

abbrev mounted : Journal → ScriptRunning
mounted journal = record (opening journal) { mounted = true; number = 0 }

abbrev creating : Op
creating = Create (codes "/f") 420

-- the reply of a plain operation that is done
done_reply : (journal : Journal) (files : Files) (reply : Reply) → IsDone (plain worked_geometry (mounted journal) 1 creating) files reply → reply ≡ Ino 65
done_reply journal files reply (after, is, same) = let e : Ino 65 ≡ reply = ap reply_in is in sym e

-- it isn't refused
not_refused : (journal : Journal) (refusal : Refusal) → plain worked_geometry (mounted journal) 1 creating ≡ Err refusal → ⊥
not_refused journal refusal is = absurd (cc is)

-- no block is stored where none is trimmed
no_blocks : (blocks : Blocks) → [] ≡ trimmed_blocks blocks → blocks ≡ []
no_blocks [] e = refl
no_blocks (b ∷ blocks) e = absurd (cc e)

fresh_bytes : (files : Files) → IsAlike fresh files → tree_bytes files.tree ≡ 160
fresh_bytes files same =
    let one : Tree → ℕ = λ t. tree_bytes t in
    ap (λ inodes. one (record files.tree { inodes = inodes })) (sym same.inodes)
    ∙ ap (λ blocks. one (record files.tree { inodes = fresh.tree.inodes; blocks = blocks })) (no_blocks files.tree.blocks same.blocks)
    ∙ ap (λ entries. one (record files.tree { inodes = fresh.tree.inodes; blocks = []; entries = entries })) (sym same.entries)

-- nor is there no room
not_full : (journal : Journal) (reply : Reply) (last : ScriptRunning) → IsAlike fresh last.files → HasGrown worked_geometry (nodes_added (mounted journal) 1 creating reply) (nodes_for (mounted journal) 1 creating) (mounted journal) last → IsRefusedForRoom worked_geometry (mounted journal) 1 creating reply last → ⊥
not_full journal reply last same grown full =
    let room : HasNoRoom worked_geometry last (record { credits = 0; bytes = 384; nodes = 3; class = Ordinary }) full.sides = full.room in
    let P : Reply → Type 0 = λ r. HasGrown worked_geometry (nodes_added (mounted journal) 1 creating r) 3 (mounted journal) last in
    let heavy = subst P full.told grown in
    let weight : last.weight ≤ 1 = heavy.weight in
    let index : last.index ≤ 2 = heavy.index in
    let used = fresh_bytes last.files same in
    let lebs : index_lebs worked_geometry (last.weight + 2 * (0 + 0) + 3) ≤ 1 = index_lebs-grows worked_geometry (last.weight + 2 * (0 + 0) + 3) 4 (omega (arith, weight)) in
    let a = room.need_is in
    let b = room.room_is in
    let d = room.full in
    absurd (omega (arith, a, b, d, used, index, lebs))

first_reply : (journal : Journal) (reply : Reply) (last : ScriptRunning) → IsReplied worked_geometry (mounted journal) 1 creating reply last → reply ≡ Ino 65
first_reply journal reply last h = by h.answer
  where
    by : IsScriptAnswer worked_geometry (mounted journal) 1 creating reply last → reply ≡ Ino 65
    by (inl done) = done_reply journal last.files reply done
    by (inr refusal) = elim refusal.why [
      | inl plainly ↦ absurd (not_refused journal plainly.0 plainly.1)
      | inr full ↦ absurd (not_full journal reply last refusal.same h.grown full)
    ]

first_line : (journal : Journal) (line : List ℕ) (last : ScriptRunning) → IsLineServed worked_geometry (mounted journal) 1 creating line last → line ≡ reply_line 1 1 (Ino 65)
first_line journal line last h = h.printed ∙ ap (λ reply. reply_line 1 1 reply) (first_reply journal h.reply last h.replied)

pub first_text : (journal : Journal) (text : List ℕ) (last : ScriptRunning) → IsRun worked_geometry (opening journal) one_create text last → text ≡ ended (codes "mount rw") ++ reply_line 1 1 (Ino 65)
first_text journal text last (line, next, rest, (shown, is), (after, behind, none, served, ended_is, joined), all) =
    let P : ScriptRunning → Type 0 = λ here. IsLineServed worked_geometry here 1 creating after behind in
    let reply = first_line journal after behind (subst P is served) in
    let last_is : rest ≡ reply_line 1 1 (Ino 65) = joined ∙ ap (λ (t : List ℕ). after ++ t) ended_is.0 ∙ append-nil after ∙ reply in
    all ∙ ap (λ (t : List ℕ). t ++ rest) shown ∙ ap (λ (t : List ℕ). ended (codes "mount rw") ++ t) last_is
