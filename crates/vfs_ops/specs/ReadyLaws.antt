-- Files are ready in one way at most, so that a type may keep it as a fact.
use Rattle.std.specs.Prelude.{◌≡◌, ℕ, ◌+◌, ◌*◌, ◌≤◌, IsTrue, Option, Some, List, [], ◌∷◌, length}
use Rattle.std.specs.List.{AllByRecursion, AllByRecursion-prop}
use Rattle.std.specs.BTreeMap.{is_at}
use Rattle.std.specs.Map.{lookup}
use Rattle.std.specs.Ordering.{nat_cmp}
use Rattle.std.proofs.Common.{ap, sym, ◌∙◌}
use Rattle.std.proofs.Props.{props}
use Rattle.std.proofs.lemmas.Option.{same_Some}
use Rattle.fs_model.specs.declared.inode.Inode.{Inode}
use Rattle.fs_model.specs.declared.inode.Kind.{Kind}
use Rattle.fs_model.specs.declared.inode.Kind.TheVariants.{File}
use Rattle.fs_model.specs.contracts.inode.Inode as inode_row
use Rattle.fs_model.specs.contracts.inode.Kind as kind_row
use Rattle.fs_model.specs.Backing.{BackingState}
use Rattle.fs_model.specs.Files.{Blocks, Files, Inodes, Tree, inode_at}
use Rattle.fs_model.specs.Proper.{IsProper, is_block_node}
use Rattle.fs_laws.specs.Sound.{IsSound}
use Rattle.page_cache.specs.declared.dirty_page.DirtyPage.{DirtyPage}
use Rattle.buffered_files.specs.declared.kept.Kept.{Kept}
use Rattle.buffered_files.specs.Present.{DirtyPages, FitsClean, FitsFile, FitsOver, FitsPages, IsKept, present}
use Rattle.vfs_ops.specs.Steps.{IsReady}
use base.Stored.{Coded-set}
use mathlib.Core.HLevel.{Σ_prop_path}

inode_set : IsSet Inode
inode_set = Coded-set (inode_row.the_row).coded

kind_set : IsSet Kind
kind_set = Coded-set (kind_row.the_row).coded

-- an inode that is found, with what is said of it
found_prop : (o : Option Inode) (P : Inode → Type 0) → ((x : Inode) → IsProp (P x)) → IsProp ((x : Inode) × ((o ≡ Some x) × P x))
found_prop o P each s t =
    let one : (x : Inode) → IsProp ((o ≡ Some x) × P x) = λ x. let p = each x in hlevel (props, inode_set, p) in
    let first = s.1.0 in
    let second = t.1.0 in
    Σ_prop_path one (same_Some s.0 t.0 (sym first ∙ second))

file_prop : (tree : Tree) (ino : ℕ) (inode : Inode) → IsProp (FitsFile tree ino inode)
file_prop tree ino inode =
    let o = inode_at tree ino in
    let P : Inode → Type 0 = λ old. (old.kind ≡ File) × (old.nlink ≡ inode.nlink) in
    let one = found_prop o P (λ old. hlevel (props, kind_set)) in
    let below : IsProp ((old : Inode) × (inode_at tree ino ≡ Some old) × (old.kind ≡ File) × (old.nlink ≡ inode.nlink)) =
    λ s t. ap (λ (u : (x : Inode) × ((o ≡ Some x) × P x)). (u.0, u.1.0, u.1.1.0, u.1.1.1)) (one (s.0, (s.1, (s.2, s.3))) (t.0, (t.1, (t.2, t.3)))) in
    hlevel (props, kind_set, below)

pages_prop : (inodes : Inodes) (dirty : DirtyPages) → IsProp (AllByRecursion (FitsPages inodes) dirty)
pages_prop inodes [] = hlevel props
pages_prop inodes (e ∷ dirty) =
    let o = lookup (is_at (nat_cmp e.0.0)) inodes in
    let P : Inode → Type 0 = λ inode. IsTrue (is_block_node (e.0, e.1.bytes)) × (4096 * e.0.1 + length e.1.bytes ≤ inode.size) in
    let one = found_prop o P (λ inode. hlevel props) in
    let page : IsProp (FitsPages inodes e) = λ s t. ap (λ (u : (x : Inode) × ((o ≡ Some x) × P x)). (u.0, u.1.0, u.1.1.0, u.1.1.1)) (one (s.0, (s.1, (s.2, s.3))) (t.0, (t.1, (t.2, t.3)))) in
    let rest = pages_prop inodes dirty in
    hlevel (props, page, rest)

clean_prop : (blocks : Blocks) (e : (ℕ × ℕ) × List ℕ) → IsProp (FitsClean blocks e)
clean_prop blocks e = hlevel props

over_prop : (blocks : Blocks) (e : (ℕ × ℕ) × DirtyPage) → IsProp (FitsOver blocks e)
over_prop blocks e = hlevel props

proper_prop : (tree : Tree) → IsProp (IsProper tree)
proper_prop tree = hlevel props

kept_prop : (tree : Tree) (kept : Kept) → IsProp (IsKept tree kept)
kept_prop tree kept =
    let proper = proper_prop tree in
    let file = file_prop tree in
    let pages = pages_prop kept.inodes kept.pages.dirty in
    let clean = AllByRecursion-prop (FitsClean tree.blocks) (clean_prop tree.blocks) kept.pages.clean in
    let covers = AllByRecursion-prop (FitsOver tree.blocks) (over_prop tree.blocks) kept.pages.dirty in
    hlevel (props, inode_set, proper, file, pages, clean, covers)

sound_prop : (files : Files) → IsProp (IsSound files)
sound_prop files = let proper = proper_prop files.tree in hlevel (props, proper)

pub ready_prop : (state : BackingState) (kept : Kept) → IsProp (IsReady state kept)
ready_prop state kept = let fits = kept_prop state.tree kept in let sound = sound_prop (present state.tree kept) in hlevel (props, fits, sound)
