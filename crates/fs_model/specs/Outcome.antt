-- What an operation comes to: an answer with the files that it leaves, or a reason to refuse it.
use Rattle.std.specs.Prelude.{ℕ, Bool, true, false, Option, Some, None, Result, Ok, Err, List, []}
use Rattle.fs_model.specs.declared.change.Change.{Change}
use Rattle.fs_model.specs.declared.inode.Inode.{Inode}
use Rattle.fs_model.specs.declared.refusal.Refusal.{Refusal}
use Rattle.fs_model.specs.declared.refusal.Refusal.TheVariants.{Enoent, Ebadf}
use Rattle.fs_model.specs.declared.reply.Reply.{Reply}
use Rattle.fs_model.specs.declared.reply.Reply.TheVariants.{Refused}
use Rattle.fs_model.specs.Change.{apply}
use Rattle.fs_model.specs.Files.{Tree, Files, inode_at}

-- an answer, and the files then; or the reason to refuse
abbrev pub Outcome : Type 0
Outcome = Result (Reply × Files) Refusal

-- an answer, and the group that makes all of the operation's changes; or the reason to refuse
abbrev pub Plan : Type 0
Plan = Result (Reply × List Change) Refusal

-- this refusal where the test holds, else what follows
abbrev pub refuse : {A : Type 0} → Bool → Refusal → Result A Refusal → Result A Refusal
refuse true refusal next = Err refusal
refuse false refusal next = next

-- goes on with what was found, or refuses as it did
abbrev pub with_found : {A B : Type 0} → Result A Refusal → (A → Result B Refusal) → Result B Refusal
with_found (Err refusal) next = Err refusal
with_found (Ok found) next = next found

-- goes on with what is there, or refuses so
abbrev pub with_some : {A B : Type 0} → Option A → Refusal → (A → Result B Refusal) → Result B Refusal
with_some None refusal next = Err refusal
with_some (Some found) refusal next = next found

-- goes on with the inode of an open slot
abbrev pub with_open : {B : Type 0} → Option ℕ → (ℕ → Result B Refusal) → Result B Refusal
with_open slot next = with_some slot Ebadf next

-- goes on with an inode; a handle's is always there
abbrev pub with_inode : {B : Type 0} → Files → ℕ → (Inode → Result B Refusal) → Result B Refusal
with_inode files ino next = with_some (inode_at files.tree ino) Ebadf next

-- goes on with the inode of an entry; that of an entry of a proper tree is always there
abbrev pub with_named : {B : Type 0} → Tree → ℕ → (Inode → Result B Refusal) → Result B Refusal
with_named tree ino next = with_some (inode_at tree ino) Enoent next

-- the outcome of a plan: its group is applied
abbrev pub done_by : Files → Plan → Outcome
done_by files (Err refusal) = Err refusal
done_by files (Ok found) = Ok (found.0, record files { tree = apply files.tree found.1 })

-- the changes of a plan; a refusal has none
abbrev pub group_in : Plan → List Change
group_in (Err refusal) = []
group_in (Ok found) = found.1

abbrev pub reply_in : Outcome → Reply
reply_in (Ok found) = found.0
reply_in (Err refusal) = Refused refusal

-- the files then; a refusal leaves them as they were
abbrev pub files_in : Files → Outcome → Files
files_in files (Ok found) = found.1
files_in files (Err refusal) = files
