-- The groups of lines are those of operations, so they keep trees proper.
use Rattle.std.proofs.Common.{◌≡◌, ℕ, ◌+◌, ◌≤◌, true, false, cond, Some, None, Result, Ok, Err, List, [], arith, refl, ap, sym, subst, ◌∙◌}
use Rattle.std.specs.Prelude.{◌==◌, ◌&&◌, is_some, length, nat_le}
use Rattle.std.specs.Map.{values_of}
use Rattle.std.proofs.lemmas.List.Sums.{count_by-le-length, length-filter}
use Rattle.std.proofs.lemmas.Map.Entries.{length-values_of}
use Rattle.std.proofs.lemmas.Bool.{le-ltb}
use Rattle.fs_model.specs.declared.change.Change.{Change}
use Rattle.fs_model.specs.declared.inode.Entry.{Entry}
use Rattle.fs_model.specs.declared.inode.Inode.{Inode}
use Rattle.fs_model.specs.declared.inode.Kind.{Kind}
use Rattle.fs_model.specs.declared.inode.Kind.TheVariants.{File}
use Rattle.fs_model.specs.declared.refusal.Refusal.{Refusal}
use Rattle.fs_model.specs.Change.{apply}
use Rattle.fs_model.specs.Directory.{dir_links, entries_in, is_linked_out}
use Rattle.fs_model.specs.Files.{Files, Tree, entry_at, inode_at}
use Rattle.fs_model.specs.Links.{linked, linking}
use Rattle.fs_model.specs.Making.{created, dir_made, inode_limit, is_bad_mode, is_bad_target, is_name_path, made, making, new_dir, new_file, new_symlink, symlink_made}
use Rattle.fs_model.specs.Outcome.{group_in}
use Rattle.fs_model.specs.Path.{components, has_long_name, is_dir, is_file, last_of, walked}
use Rattle.fs_model.specs.Proper.{IsProper}
use Rattle.fs_laws.specs.Sound.{IsSound}
use Rattle.manifest_tree.specs.ManifestTree.{free_place, only_file}
use Rattle.manifest_tree.proofs.Placing.{IsPlace, place_known}

-- a tree whose files nobody has open
abbrev pub closed : Tree → Files
closed tree = record { tree = tree; handles = [] }

-- a group of a new inode
made_group : (tree : Tree) (path : List ℕ) (dir : ℕ) (inode : Inode) → IsPlace tree path dir → (is_dir inode.kind && is_linked_out (dir_links tree dir)) ≡ false → nat_le inode_limit tree.highest ≡ false
    → group_in (made (closed tree) 0 path inode) ≡ making tree dir (last_of (components path)) inode 0
made_group tree path dir inode p links numbers =
    let Q : ℕ → Type 0 = λ d. (is_dir inode.kind && is_linked_out (dir_links tree d)) ≡ false in
    let R : ℕ → Type 0 = λ d. is_some (entry_at tree d (last_of (components path))) ≡ false in
    let few = subst Q (sym p.number) links in
    let free = subst R (sym p.number) p.free in
    rw (p.short, p.there, free, few, numbers) (ap (λ (d : ℕ). making tree d (last_of (components path)) inode 0) p.number)

pub new_file_group : (tree : Tree) (path : List ℕ) (dir mode : ℕ) → free_place tree path ≡ Some dir → is_bad_mode mode ≡ false → nat_le inode_limit tree.highest ≡ false
    → group_in (created (closed tree) 0 path mode) ≡ making tree dir (last_of (components path)) (new_file mode 0) 0
new_file_group tree path dir mode e good numbers = let p = place_known tree path dir e in rw (good, p.good) (made_group tree path dir (new_file mode 0) p refl numbers)

pub new_symlink_group : (tree : Tree) (path target : List ℕ) (dir : ℕ) → free_place tree path ≡ Some dir → is_bad_target target ≡ false → nat_le inode_limit tree.highest ≡ false
    → group_in (symlink_made (closed tree) 0 path target) ≡ making tree dir (last_of (components path)) (new_symlink target 0) 0
new_symlink_group tree path target dir e good numbers = let p = place_known tree path dir e in rw (good, p.good) (made_group tree path dir (new_symlink target 0) p refl numbers)

-- a tree that nobody has open is sound if it is proper
pub closed_sound : (tree : Tree) → IsProper tree → IsSound (closed tree)
closed_sound tree h = record { proper = h; handles = refl }

-- a tree stays proper if the group is one of which that is known
pub kept_by : (tree new : Tree) (dir : ℕ) (name last : List ℕ) (inode : Inode) (group : List Change) → name ≡ last → group ≡ making tree dir last inode 0 → IsProper (apply tree group) → new ≡ apply tree (making tree dir name inode 0) → IsProper new
kept_by tree new dir name last inode group n e h m =
    subst (λ t. IsProper t) (sym m) (subst (λ g. IsProper (apply tree g)) (e ∙ ap (λ x. making tree dir x inode 0) (sym n)) h)
