-- What sets a file's size: what it asks for, and where its tests lead.
use Rattle.std.proofs.Common.{◌≡◌, ℕ, ◌≤◌, Bool, true, false, cond, List, [], ◌∷◌, Option, Some, None, Ok, Err, length, refl, sym, ap, ◌∙◌, arith}
use Rattle.std.specs.Prelude.{nat_lt}
use Rattle.std.proofs.lemmas.Bool.{false≢true}
use Rattle.fs_model.specs.declared.change.Change.{Change}
use Rattle.fs_model.specs.declared.change.Change.TheVariants.{SetInode, CutBlocks}
use Rattle.fs_model.specs.declared.inode.Inode.{Inode}
use Rattle.fs_model.specs.declared.op.Op.{Op}
use Rattle.fs_model.specs.declared.op.Op.TheVariants.{Unlink, Rmdir, Truncate}
use Rattle.fs_model.specs.declared.refusal.Refusal.{Refusal}
use Rattle.fs_model.specs.declared.refusal.Refusal.TheVariants.{Efbig, Einval, Ebadf}
use Rattle.fs_model.specs.declared.reply.Reply.TheVariants.{Done}
use Rattle.fs_model.specs.Files.{Blocks, Files, Tree, handle_at, inode_at, size_of}
use Rattle.fs_model.specs.Handles.{is_bad_slot, size_limit}
use Rattle.fs_model.specs.Making.{touched}
use Rattle.fs_model.specs.Need.{need_of, truncation_need}
use Rattle.fs_model.specs.Operation.{group_of, outcome_of, plan_of}
use Rattle.fs_model.specs.Outcome.{Plan, done_by, group_in, refuse, with_some}
use Rattle.fs_model.specs.Path.{is_dir}
use Rattle.fs_model.specs.Truncation.{shortening, truncated, truncating}
use Rattle.fs_laws.specs.Sound.{IsSound}
use Rattle.buffered_files.specs.Resized.{need_by}
use Rattle.vfs_plans.specs.Operations.{is_truncate}
use Rattle.vfs_ops.specs.Operations.{is_of_names, nodes_asked}
use Rattle.vfs_ops.proofs.Buffering.{AtHand, open_file, plain_file}
use Rattle.vfs_ops.proofs.Cutting.{no_group}
use Rattle.vfs_ops.proofs.Orphans.{all_short}

-- any operation but a truncation asks for the nodes of its group
pub nodes_are : (files : Files) (caller now : ℕ) (op : Op) → is_truncate op ≡ false → nodes_asked files caller now op ≡ length (group_of files caller now op)
nodes_are files caller now (Truncate slot size) plain = absurd (false≢true (sym plain))
nodes_are files caller now (Unlink path) plain = refl
nodes_are files caller now (Rmdir path) plain = refl
nodes_are files caller now op plain = refl

-- one that isn't of names either asks for none
pub no_nodes : (files : Files) (caller now : ℕ) (op : Op) → is_of_names op ≡ false → is_truncate op ≡ false → nodes_asked files caller now op ≡ 0
no_nodes files caller now op other plain = nodes_are files caller now op plain ∙ ap (λ (group : List Change). length group) (no_group files caller now op other plain)

-- a new size asks for three at most
few_sized : (group : List Change) → (truncation_need group).nodes ≤ 5
few_sized [] = omega arith
few_sized (set ∷ []) = omega arith
few_sized (set ∷ cut ∷ rest) = omega arith

-- and no operation asks for more than five
pub few_asked : (files : Files) (caller now : ℕ) (op : Op) → IsSound files → nodes_asked files caller now op ≤ 5
few_asked files caller now (Truncate slot size) sound = few_sized (group_of files caller now (Truncate slot size))
few_asked files caller now (Unlink path) sound = all_short files caller now (Unlink path) sound refl
few_asked files caller now (Rmdir path) sound = all_short files caller now (Rmdir path) sound refl
few_asked files caller now op sound = all_short files caller now op sound refl

-- the answers to a new size, one test after another
pub size_bad_slot : (files : Files) (caller now slot size : ℕ) → is_bad_slot slot ≡ true → plan_of files caller now (Truncate slot size) ≡ Err Einval
size_bad_slot files caller now slot size bad = rw bad refl

pub size_not_open : (files : Files) (caller now slot size : ℕ) → is_bad_slot slot ≡ false → handle_at files caller slot ≡ None → plan_of files caller now (Truncate slot size) ≡ Err Ebadf
size_not_open files caller now slot size good none = rw (good, none) refl

pub size_too_big : (files : Files) (caller now slot size ino : ℕ) → is_bad_slot slot ≡ false → handle_at files caller slot ≡ Some ino → AtHand files ino → nat_lt size_limit size ≡ true → plan_of files caller now (Truncate slot size) ≡ Err Efbig
size_too_big files caller now slot size ino good there at big = rw (good, there, at.found, big) refl

pub size_planned : (files : Files) (caller now slot size ino : ℕ) (inode : Inode) → is_bad_slot slot ≡ false → handle_at files caller slot ≡ Some ino → inode_at files.tree ino ≡ Some inode → nat_lt size_limit size ≡ false
    → plan_of files caller now (Truncate slot size) ≡ Ok (Done, truncating files.tree ino inode size now)
size_planned files caller now slot size ino inode good there found fits = rw (good, there, found, fits) refl

-- What a plan of a new size comes to, with what it asks for.
pub record Sized (files : Files) (caller now slot size : ℕ) (plan : Plan) : Type 0 where
  pub outcome : outcome_of files caller now (Truncate slot size) ≡ done_by files plan
  pub group : group_of files caller now (Truncate slot size) ≡ group_in plan
  pub need : need_of files caller now (Truncate slot size) ≡ truncation_need (group_in plan)

pub sized : (files : Files) (caller now slot size : ℕ) (plan : Plan) → plan_of files caller now (Truncate slot size) ≡ plan → Sized files caller now slot size plan
sized files caller now slot size plan is = record {
  outcome = ap (λ p. done_by files p) is;
  group = ap group_in is;
  need = ap (λ (p : Plan). truncation_need (group_in p)) is;
}

-- what a new size asks for goes by whether it is smaller
pub need_by_is : (tree : Tree) (ino : ℕ) (inode : Inode) (size now : ℕ) → truncation_need (truncating tree ino inode size now) ≡ need_by (nat_lt size (size_of tree ino inode))
need_by_is tree ino inode size now = by (nat_lt size (size_of tree ino inode))
  where
    by : (b : Bool) → truncation_need (SetInode ino (touched now (record inode { size = size })) ∷ cond b (CutBlocks ino (size_of tree ino inode) size ∷ shortening tree.blocks ino size) []) ≡ need_by b
    by true = refl
    by false = refl

abbrev over : Files → Blocks → Files
over a blocks = record a { tree = record a.tree { blocks = blocks } }

refuse_rel : (R : Plan → Plan → Type 0) (b : Bool) (e : Refusal) (x y : Plan) → ((r : Refusal) → R (Err r) (Err r)) → R x y → R (refuse b e x) (refuse b e y)
refuse_rel R true e x y bad good = bad e
refuse_rel R false e x y bad good = good

some_rel : {A : Type 0} (R : Plan → Plan → Type 0) (o : Option A) (e : Refusal) (k l : A → Plan) → ((r : Refusal) → R (Err r) (Err r)) → ((v : A) → o ≡ Some v → R (k v) (l v)) → R (with_some o e k) (with_some o e l)
some_rel R None e k l bad good = bad e
some_rel R (Some v) e k l bad good = good v refl

-- A new size over other blocks passes the same tests, so what holds of each refusal and of the two groups holds of the plans.
pub sizes_related : (R : Plan → Plan → Type 0) (a : Files) (blocks : Blocks) (caller now slot size : ℕ) → IsSound a → ((e : Refusal) → R (Err e) (Err e))
    → ((ino : ℕ) (inode : Inode) → inode_at a.tree ino ≡ Some inode → is_dir inode.kind ≡ false → R (Ok (Done, truncating a.tree ino inode size now)) (Ok (Done, truncating (over a blocks).tree ino inode size now)))
    → R (truncated a caller now slot size) (truncated (over a blocks) caller now slot size)
sizes_related R a blocks caller now slot size sound bad good =
    let last : Files → ℕ → Inode → Plan = λ f ino inode. Ok (Done, truncating f.tree ino inode size now) in
    let small : Files → ℕ → Inode → Plan = λ f ino inode. refuse (nat_lt size_limit size) Efbig (last f ino inode) in
    let there : Files → ℕ → Plan = λ f ino. with_some (inode_at a.tree ino) Ebadf (small f ino) in
    refuse_rel R (is_bad_slot slot) Einval (with_some (handle_at a caller slot) Ebadf (there a)) (with_some (handle_at a caller slot) Ebadf (there (over a blocks))) bad
    (some_rel R (handle_at a caller slot) Ebadf (there a) (there (over a blocks)) bad (λ ino at.
    some_rel R (inode_at a.tree ino) Ebadf (small a ino) (small (over a blocks) ino) bad (λ inode is.
    refuse_rel R (nat_lt size_limit size) Efbig (last a ino inode) (last (over a blocks) ino inode) bad (good ino inode is (plain_file a ino inode (open_file a caller slot ino sound at) is)))))
