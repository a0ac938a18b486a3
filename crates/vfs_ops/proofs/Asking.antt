-- Files that are alike ask the same of a store.
use Rattle.std.proofs.Common.{◌≡◌, ℕ, ◌+◌, false, true, List, [], ◌∷◌, length, refl, sym, ap, subst, ◌∙◌}
use Rattle.std.specs.Prelude.{nat_lt, sum_by}
use Rattle.std.proofs.lemmas.Bool.{false≢true}
use Rattle.std.proofs.lemmas.List.Sums.{sum_by-cons}
use Rattle.fs_model.specs.declared.change.Change.{Change}
use Rattle.fs_model.specs.declared.change.Change.TheVariants.{SetInode, SetEntry, DropEntry, SetBlock, CutBlocks, DropInode}
use Rattle.fs_model.specs.declared.op.Op.{Op}
use Rattle.fs_model.specs.declared.op.Op.TheVariants.{Create, Mkdir, Symlink, Link, Unlink, Rmdir, Rename, Truncate, Chmod}
use Rattle.fs_model.specs.declared.space.Class.{Class}
use Rattle.fs_model.specs.declared.space.Class.TheVariants.{Ordinary, Removal}
use Rattle.fs_model.specs.declared.space.Need.{Need}
use Rattle.fs_model.specs.Files.{Blocks, Files}
use Rattle.fs_model.specs.Need.{change_bytes, group_need, need_of, truncation_need}
use Rattle.fs_model.specs.Operation.{group_of, plan_of}
use Rattle.fs_model.specs.Outcome.{Plan, group_in}
use Rattle.fs_laws.specs.Sound.{IsSound}
use Rattle.buffered_files.specs.Alike.{IsAlike}
use Rattle.buffered_files.specs.Resized.{need_by}
use Rattle.vfs_plans.specs.Operations.{is_truncate}
use Rattle.vfs_ops.proofs.Answering.{plan_same, with_blocks, with_same}
use Rattle.vfs_ops.proofs.Truncating.{need_by_is, sizes_related}

-- any operation but a truncation has the same plan over other blocks
plan_over : (a : Files) (blocks : Blocks) (caller now : ℕ) (op : Op) → is_truncate op ≡ false → plan_of a caller now op ≡ plan_of (with_blocks a blocks) caller now op
plan_over a blocks caller now (Create path mode) plain = plan_same a blocks caller now (Create path mode) refl
plan_over a blocks caller now (Mkdir path mode) plain = plan_same a blocks caller now (Mkdir path mode) refl
plan_over a blocks caller now (Symlink path target) plain = plan_same a blocks caller now (Symlink path target) refl
plan_over a blocks caller now (Link old new) plain = plan_same a blocks caller now (Link old new) refl
plan_over a blocks caller now (Unlink path) plain = plan_same a blocks caller now (Unlink path) refl
plan_over a blocks caller now (Rmdir path) plain = plan_same a blocks caller now (Rmdir path) refl
plan_over a blocks caller now (Rename old new) plain = plan_same a blocks caller now (Rename old new) refl
plan_over a blocks caller now (Chmod path mode) plain = plan_same a blocks caller now (Chmod path mode) refl
plan_over a blocks caller now (Truncate slot size) plain = absurd (false≢true (sym plain))
plan_over a blocks caller now op plain = refl

-- a change's node is as long over other blocks
change_over : (a : Files) (blocks : Blocks) (change : Change) → change_bytes a.tree change ≡ change_bytes (with_blocks a blocks).tree change
change_over a blocks (SetInode ino inode) = refl
change_over a blocks (SetEntry entry) = refl
change_over a blocks (DropEntry dir name) = refl
change_over a blocks (SetBlock ino block bytes) = refl
change_over a blocks (CutBlocks ino old_size new_size) = refl
change_over a blocks (DropInode ino) = refl

bytes_over : (a : Files) (blocks : Blocks) (group : List Change) → sum_by (change_bytes a.tree) group ≡ sum_by (change_bytes (with_blocks a blocks).tree) group
bytes_over a blocks [] = refl
bytes_over a blocks (change ∷ group) =
    let other = with_blocks a blocks in
    sum_by-cons (change_bytes a.tree) change group
    ∙ ap (λ (n : ℕ). n + sum_by (change_bytes a.tree) group) (change_over a blocks change)
    ∙ ap (λ (n : ℕ). change_bytes other.tree change + n) (bytes_over a blocks group)
    ∙ sym (sum_by-cons (change_bytes other.tree) change group)

need_over : (a : Files) (blocks : Blocks) (plan other : Plan) (class : Class) → plan ≡ other → group_need a.tree (group_in plan) class ≡ group_need (with_blocks a blocks).tree (group_in other) class
need_over a blocks plan other class same =
    ap {B = Need} (λ (n : ℕ). record { credits = 0; bytes = n; nodes = length (group_in plan); class = class }) (bytes_over a blocks (group_in plan))
    ∙ ap (λ (p : Plan). group_need (with_blocks a blocks).tree (group_in p) class) same

asks_over : (a : Files) (blocks : Blocks) (caller now : ℕ) (op : Op) → is_truncate op ≡ false → need_of a caller now op ≡ need_of (with_blocks a blocks) caller now op
asks_over a blocks caller now (Unlink path) plain = need_over a blocks (plan_of a caller now (Unlink path)) (plan_of (with_blocks a blocks) caller now (Unlink path)) Removal (plan_over a blocks caller now (Unlink path) plain)
asks_over a blocks caller now (Rmdir path) plain = need_over a blocks (plan_of a caller now (Rmdir path)) (plan_of (with_blocks a blocks) caller now (Rmdir path)) Removal (plan_over a blocks caller now (Rmdir path) plain)
asks_over a blocks caller now (Truncate slot size) plain = absurd (false≢true (sym plain))
asks_over a blocks caller now op plain = need_over a blocks (plan_of a caller now op) (plan_of (with_blocks a blocks) caller now op) Ordinary (plan_over a blocks caller now op plain)

pub same_group : (a b : Files) (caller now : ℕ) (op : Op) → is_truncate op ≡ false → IsAlike a b → group_of a caller now op ≡ group_of b caller now op
same_group a b caller now op plain h =
    ap group_in (plan_over a b.tree.blocks caller now op plain) ∙ ap (λ (f : Files). group_of f caller now op) (with_same a b h)

-- a truncation asks by the size of its file, which is the same
size_asks : (a : Files) (blocks : Blocks) (caller now slot size : ℕ) → IsSound a → IsAlike a (with_blocks a blocks) → need_of a caller now (Truncate slot size) ≡ need_of (with_blocks a blocks) caller now (Truncate slot size)
size_asks a blocks caller now slot size sound h =
    sizes_related (λ x y. truncation_need (group_in x) ≡ truncation_need (group_in y)) a blocks caller now slot size sound (λ e. refl) (λ ino inode is plain.
    need_by_is a.tree ino inode size now ∙ ap (λ n. need_by (nat_lt size n)) (h.sizes ino inode is plain) ∙ sym (need_by_is (with_blocks a blocks).tree ino inode size now))

all_ask : (a : Files) (blocks : Blocks) (caller now : ℕ) (op : Op) → (is_truncate op ≡ true → IsSound a) → IsAlike a (with_blocks a blocks) → need_of a caller now op ≡ need_of (with_blocks a blocks) caller now op
all_ask a blocks caller now (Truncate slot size) sound h = size_asks a blocks caller now slot size (sound refl) h
all_ask a blocks caller now op sound h = asks_over a blocks caller now op refl

pub same_need : (a b : Files) (caller now : ℕ) (op : Op) → (is_truncate op ≡ true → IsSound a) → IsAlike a b → need_of a caller now op ≡ need_of b caller now op
same_need a b caller now op sound h =
    let same = with_same a b h in
    all_ask a b.tree.blocks caller now op sound (subst (λ f. IsAlike a f) (sym same) h) ∙ ap (λ (f : Files). need_of f caller now op) same
