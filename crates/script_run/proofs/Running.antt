-- The lines of a run.
use Rattle.std.proofs.Common.{◌≡◌, ◌⊎◌, ℕ, ◌+◌, Bool, Err, List, [], inl, inr, refl, ap, ◌∙◌}
use Rattle.ubifs_base.specs.declared.raw_geometry.RawGeometry.{RawGeometry}
use Rattle.fs_model.specs.declared.op.Op.{Op}
use Rattle.fs_model.specs.declared.op.Op.TheVariants.{Flush, Fsync}
use Rattle.fs_model.specs.declared.refusal.Refusal.{Refusal}
use Rattle.fs_model.specs.declared.reply.Reply.{Reply}
use Rattle.fs_model.specs.declared.reply.Reply.TheVariants.{Done, Refused}
use Rattle.fs_model.specs.Files.{Files, Handles, Tree, size_of}
use Rattle.fs_model.specs.Same.{trimmed_blocks}
use Rattle.buffered_files.specs.declared.kept.Kept.{Kept}
use Rattle.buffered_files.specs.Alike.{IsAlike}
use Rattle.buffered_files.specs.Present.{covered, present}
use Rattle.script_text.specs.declared.part.Part.{Part}
use Rattle.script_text.specs.declared.part.Part.TheVariants.{Mount, Unmount, Now, Workers, Line}
use Rattle.script_text.specs.Script.{IsInRange, mounted_after}
use Rattle.script_run.specs.Replies.{IsPartCalled}
use Rattle.script_run.specs.Run.{HasStored, IsScriptAnswer, IsRefusedForRoom, IsScriptPart, IsReplied, ScriptRunning, script_line_of, plain}
use Rattle.script_run.specs.Sessions.{IsBare}
use Rattle.script_run.proofs.Covering.{covered_in}
use Rattle.script_run.proofs.Leaving.{leaves_numbered}

-- whether the volume is mounted then
pub mounted_next : (geo : RawGeometry) (before after : ScriptRunning) (part : Part) (text : List ℕ) → IsScriptPart geo before part text after → after.mounted ≡ mounted_after before.mounted part
mounted_next geo before after Mount text h = ap (λ (s : ScriptRunning). s.mounted) h.1
mounted_next geo before after Unmount text h = h.1.mounted
mounted_next geo before after (Now now) text h = ap (λ (s : ScriptRunning). s.mounted) h.1
mounted_next geo before after (Workers count) text h = ap (λ (s : ScriptRunning). s.mounted) h.1
mounted_next geo before after (Line caller op) text h = ap (λ (s : ScriptRunning). s.mounted) h.rest

-- what is kept where no page is dirty, and no inode
pub bare_tree : (tree : Tree) (kept : Kept) → kept.pages.dirty ≡ [] → kept.inodes ≡ [] → (present tree kept).tree ≡ tree
bare_tree tree kept clean none = ap (λ inodes. covered tree inodes kept.pages.dirty) none ∙ ap (λ dirty. covered tree [] dirty) clean

-- what was put, where no page is dirty, is as callers saw it
pub put_alike : (files : Files) (tree : Tree) (kept : Kept) → IsAlike files (present tree kept) → kept.pages.dirty ≡ [] → kept.inodes ≡ [] → IsAlike files (record files { tree = tree })
put_alike files tree kept alike clean none =
    let put : (present tree kept).tree ≡ tree = bare_tree tree kept clean none in
    record {
      inodes = alike.inodes ∙ ap (λ (t : Tree). t.inodes) put;
      blocks = alike.blocks ∙ ap (λ (t : Tree). trimmed_blocks t.blocks) put;
      entries = alike.entries ∙ ap (λ (t : Tree). t.entries) put;
      highest = alike.highest ∙ ap (λ (t : Tree). t.highest) put;
      handles = refl;
      sizes = λ ino inode found plain. alike.sizes ino inode found plain ∙ ap (λ (t : Tree). size_of t ino inode) put;
    }

-- the files, where nothing is kept beside the tree
pub bare_files : (tree stored : Tree) (kept : Kept) → tree ≡ stored → IsBare kept → present tree kept ≡ record { tree = stored; handles = [] }
bare_files tree stored kept same bare = ap (λ (t : Tree). record { tree = t; handles = kept.handles }) (bare_tree tree kept bare.pages bare.inodes ∙ same) ∙ ap (λ (h : Handles). record { tree = stored; handles = h }) bare.handles

-- a line of the grammar is a call that a run makes
pub called : (part : Part) → IsInRange part → IsPartCalled part
called Mount range = tt
called Unmount range = tt
called (Now now) range = tt
called (Workers count) range = tt
called (Line caller op) range = range.1

-- What a step answers and leaves is said of the files and of what is stored. Whether the volume is mounted, the number of the line and the workers stand beside it.
why_in : (geo : RawGeometry) (a b : ScriptRunning) (m n : Bool) (i j w v caller : ℕ) (op : Op) (reply : Reply)
    → ((refusal : Refusal) × (plain geo a caller op ≡ Err refusal) × (reply ≡ Refused refusal)) ⊎ IsRefusedForRoom geo a caller op reply b
    → ((refusal : Refusal) × (plain geo a caller op ≡ Err refusal) × (reply ≡ Refused refusal)) ⊎ IsRefusedForRoom geo (record a { mounted = m; number = i; workers = w }) caller op reply (record b { mounted = n; number = j; workers = v })
why_in geo a b m n i j w v caller op reply (inl plainly) = inl plainly
why_in geo a b m n i j w v caller op reply (inr full) =
    inr (record { sides = full.sides; told = full.told; asks = full.asks; free = full.free; room = record { need_is = full.room.need_is; room_is = full.room.room_is; full = full.room.full } })

answer_in : (geo : RawGeometry) (a b : ScriptRunning) (m n : Bool) (i j w v caller : ℕ) (op : Op) (reply : Reply) → IsScriptAnswer geo a caller op reply b → IsScriptAnswer geo (record a { mounted = m; number = i; workers = w }) caller op reply (record b { mounted = n; number = j; workers = v })
answer_in geo a b m n i j w v caller op reply (inl done) = inl done
answer_in geo a b m n i j w v caller op reply (inr refusal) = inr (record { why = why_in geo a b m n i j w v caller op reply refusal.why; same = refusal.same })

synced_in : (a b : ScriptRunning) (m n : Bool) (i j w v caller : ℕ) (op : Op) (reply : Reply) → HasStored a caller op reply b → HasStored (record a { mounted = m; number = i; workers = w }) caller op reply (record b { mounted = n; number = j; workers = v })
synced_in a b m n i j w v caller Flush Done h = h
synced_in a b m n i j w v caller (Fsync slot) Done h = h
synced_in a b m n i j w v caller op reply h = tt

pub replied_in : (geo : RawGeometry) (a b : ScriptRunning) (m n : Bool) (i j w v caller : ℕ) (op : Op) (reply : Reply) → IsReplied geo a caller op reply b → IsReplied geo (record a { mounted = m; number = i; workers = w }) caller op reply (record b { mounted = n; number = j; workers = v })
replied_in geo a b m n i j w v caller op reply h = record {
  answer = answer_in geo a b m n i j w v caller op reply h.answer;
  orphans = h.orphans;
  under = h.under;
  synced = synced_in a b m n i j w v caller op reply h.synced;
  left = leaves_numbered a.files a.journal b.journal (script_line_of a caller op reply) (i + 1) h.left;
  stored = h.stored;
  still = h.still;
  grown = record { weight = h.grown.weight; index = h.grown.index };
  few = h.few;
  covered = covered_in geo b n b.now j v h.covered;
  admitted = h.admitted;
}
