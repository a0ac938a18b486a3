-- Entries that paths lead to, the kinds of their inodes and the links of those.
use Rattle.std.proofs.Common.{◌≡◌, ℕ, ◌≤◌, ◌⊎◌, inl, inr, Bool, true, false, cond, ◌&&◌, ◌||◌, not, List, [], ◌∷◌, Option, Some, None, Ok, Err, refl, sym, ap, subst, ◌∙◌, arith, length}
use Rattle.std.specs.Prelude.{◌==◌, Result}
use Rattle.std.specs.List.{list_all, list_any}
use Rattle.std.specs.Map.{lookup}
use Rattle.std.specs.BTreeMap.{is_at}
use Rattle.std.specs.Ordering.{nat_cmp}
use Rattle.std.proofs.lemmas.Bool.{false≢true, and_parts, eqb-true, eq-eqb}
use Rattle.std.proofs.lemmas.Bool.Decides.{nat_tests}
use Rattle.fs_model.specs.declared.inode.Inode.{Inode}
use Rattle.fs_model.specs.declared.inode.Entry.{Entry}
use Rattle.fs_model.specs.declared.inode.Kind.{Kind}
use Rattle.fs_model.specs.declared.inode.Kind.TheVariants.{File, Dir}
use Rattle.fs_model.specs.declared.refusal.Refusal.{Refusal}
use Rattle.fs_model.specs.declared.refusal.Refusal.TheVariants.{Enotdir}
use Rattle.fs_model.specs.Files.{Tree, Handles, inode_at, entry_at, name_cmp}
use Rattle.fs_model.specs.Path.{root_entry, reached, child, or_missing, only_dir, walked, parent_of, components, front_of, is_dir}
use Rattle.fs_model.specs.Proper.{IsProper, has_kind, same_kind, is_linked, is_sound_entry, is_sound_inode, is_sound_dir, names_of}
use Rattle.fs_laws.specs.Maps.{all_at, values_all, count_found}
use Rattle.fs_laws.specs.Orders.{numbers, named}

-- an entry of the tree
pub record IsStored (tree : Tree) (entry : Entry) : Type 0 where
  pub key : ℕ × List ℕ
  pub stored : lookup (is_at (name_cmp key)) tree.entries ≡ Some entry

-- the root's entry, or one of the tree
abbrev pub Stands : Tree → Entry → Type 0
Stands tree entry = (entry ≡ root_entry) ⊎ IsStored tree entry

pub stored_at : (tree : Tree) (dir : ℕ) (name : List ℕ) (entry : Entry) → entry_at tree dir name ≡ Some entry → Stands tree entry
stored_at tree dir name entry found = inr (record { key = (dir, name); stored = found })

child_stands : (tree : Tree) (name : List ℕ) (at : Result Entry Refusal) (entry : Entry) → child tree name at ≡ Ok entry → Stands tree entry
child_stands tree name (Err e) entry h = absurd cc
child_stands tree name (Ok at) entry h = by (is_dir at.kind) (entry_at tree at.ino name) refl h
  where
    by : (d : Bool) (o : Option Entry) → entry_at tree at.ino name ≡ o → cond d (or_missing o) (Err Enotdir) ≡ Ok entry → Stands tree entry
    by false o f g = absurd cc
    by true None f g = absurd cc
    by true (Some x) f g = let is : x ≡ entry = cc g in stored_at tree at.ino name entry (f ∙ ap Some is)

reached_stands : (tree : Tree) (names : List (List ℕ)) (at : Result Entry Refusal) (entry : Entry) → ((a : Entry) → at ≡ Ok a → Stands tree a) → reached tree at names ≡ Ok entry → Stands tree entry
reached_stands tree [] at entry first h = first entry h
reached_stands tree (name ∷ names) at entry first h = reached_stands tree names (child tree name at) entry (child_stands tree name at) h

from_root : (tree : Tree) (names : List (List ℕ)) (entry : Entry) → reached tree (Ok root_entry) names ≡ Ok entry → Stands tree entry
from_root tree names entry h = reached_stands tree names (Ok root_entry) entry (λ a g. inl (cc g)) h

-- what a path leads to stands in the tree
pub walked_stands : (tree : Tree) (path : List ℕ) (entry : Entry) → walked tree path ≡ Ok entry → Stands tree entry
walked_stands tree path entry h = from_root tree (components path) entry h

sound_at : (tree : Tree) (entry : Entry) → IsProper tree → IsStored tree entry → is_sound_entry tree entry ≡ true
sound_at tree entry proper it = all_at name_cmp named (λ e. is_sound_entry tree e.1) tree.entries it.key entry (sym (values_all (is_sound_entry tree) tree.entries) ∙ proper.entries) it.stored

dir_stands : (tree : Tree) (entry : Entry) → IsProper tree → Stands tree entry → has_kind tree entry.dir Dir ≡ true
dir_stands tree entry proper (inl root) = subst (λ e. has_kind tree e.dir Dir ≡ true) (sym root) proper.root
dir_stands tree entry proper (inr it) =
    let parts = and_parts (has_kind tree entry.dir Dir && has_kind tree entry.ino entry.kind) (not (entry.ino == 1)) (sound_at tree entry proper it) in
    (and_parts (has_kind tree entry.dir Dir) (has_kind tree entry.ino entry.kind) parts.0).0

kind_stands : (tree : Tree) (entry : Entry) → IsProper tree → Stands tree entry → has_kind tree entry.ino entry.kind ≡ true
kind_stands tree entry proper (inl root) = subst (λ (e : Entry). has_kind tree e.ino e.kind ≡ true) (sym root) proper.root
kind_stands tree entry proper (inr it) =
    let parts = and_parts (has_kind tree entry.dir Dir && has_kind tree entry.ino entry.kind) (not (entry.ino == 1)) (sound_at tree entry proper it) in
    (and_parts (has_kind tree entry.dir Dir) (has_kind tree entry.ino entry.kind) parts.0).1

dir_same : (kind : Kind) → same_kind kind Dir ≡ true → is_dir kind ≡ true
dir_same Dir h = refl
dir_same kind h = absurd (false≢true h)

file_same : (kind : Kind) → same_kind kind File ≡ true → is_dir kind ≡ false
file_same File h = refl
file_same kind h = absurd (false≢true h)

dir_is : (kind : Kind) → is_dir kind ≡ true → kind ≡ Dir
dir_is Dir h = refl
dir_is kind h = absurd (false≢true h)

-- a directory, which says a link
pub record IsLinkedDir (inode : Inode) : Type 0 where
  pub dir : is_dir inode.kind ≡ true
  pub linked : (inode.nlink == 0) ≡ false

-- an inode of this number is a directory
abbrev pub IsDirAt : Tree → ℕ → Type 0
IsDirAt tree ino = (inode : Inode) → inode_at tree ino ≡ Some inode → IsLinkedDir inode

dir_at : (tree : Tree) (ino : ℕ) → IsProper tree → has_kind tree ino Dir ≡ true → IsDirAt tree ino
dir_at tree ino proper h inode found =
    let dir = dir_same inode.kind (rw found at h) in
    record { dir = dir; linked = by (is_dir inode.kind) (inode.nlink == 0) dir (all_at nat_cmp numbers is_linked tree.inodes ino inode proper.linked found) }
  where
    by : (d z : Bool) → d ≡ true → not (d && z) ≡ true → z ≡ false
    by true true e h = sym h
    by true false e h = refl
    by false z e h = absurd (false≢true e)

-- an entry's directory is one
pub above_is_dir : (tree : Tree) (entry : Entry) → IsProper tree → Stands tree entry → IsDirAt tree entry.dir
above_is_dir tree entry proper stands = dir_at tree entry.dir proper (dir_stands tree entry proper stands)

-- the directory of a path's last component is one
pub parent_is_dir : (tree : Tree) (path : List ℕ) (parent : Entry) → IsProper tree → parent_of tree path ≡ Ok parent → IsDirAt tree parent.ino
parent_is_dir tree path parent proper h = by (reached tree (Ok root_entry) (front_of (components path))) refl h
  where
    here : (at : Entry) → reached tree (Ok root_entry) (front_of (components path)) ≡ Ok at → is_dir at.kind ≡ true → IsDirAt tree at.ino
    here at f d = dir_at tree at.ino proper (subst (λ kind. has_kind tree at.ino kind ≡ true) (dir_is at.kind d) (kind_stands tree at proper (from_root tree (front_of (components path)) at f)))

    turn : (at : Entry) → reached tree (Ok root_entry) (front_of (components path)) ≡ Ok at → (d : Bool) → is_dir at.kind ≡ d → cond d (Ok at) (Err Enotdir) ≡ Ok parent → IsDirAt tree parent.ino
    turn at f true d g = let same : at ≡ parent = cc g in subst (λ (e : Entry). IsDirAt tree e.ino) same (here at f d)
    turn at f false d g = absurd cc

    by : (o : Result Entry Refusal) → reached tree (Ok root_entry) (front_of (components path)) ≡ o → only_dir o ≡ Ok parent → IsDirAt tree parent.ino
    by (Err e) f g = absurd cc
    by (Ok at) f g = turn at f (is_dir at.kind) refl g

-- an inode that has a name has a link, unless it is a directory
pub has_link : (tree : Tree) (entry : Entry) (inode : Inode) → IsProper tree → Stands tree entry → inode_at tree entry.ino ≡ Some inode → is_dir inode.kind ≡ false → (inode.nlink == 0) ≡ false
has_link tree entry inode proper (inl root) found plain =
    let at : inode_at tree 1 ≡ Some inode = subst (λ (e : Entry). inode_at tree e.ino ≡ Some inode) root found in
    absurd (false≢true (sym plain ∙ (dir_at tree 1 proper proper.root inode at).dir))
has_link tree entry inode proper (inr it) found plain =
    let sound : cond (is_dir inode.kind) (is_sound_dir tree entry.ino) (inode.nlink == length (names_of tree entry.ino)) ≡ true = all_at nat_cmp numbers (is_sound_inode tree) tree.inodes entry.ino inode proper.inodes found in
    let links : (inode.nlink == length (names_of tree entry.ino)) ≡ true = rw plain at sound in
    let same = eqb-true inode.nlink (length (names_of tree entry.ino)) links in
    let one : 1 ≤ length (names_of tree entry.ino) = count_found name_cmp (λ (e : Entry). e.ino == entry.ino) tree.entries it.key entry it.stored (eq-eqb entry.ino entry.ino refl) in
    grind (arith, nat_tests, same, one)

-- nobody has a directory open
pub never_open : (tree : Tree) (handles : Handles) (ino : ℕ) (inode : Inode) → list_all (λ handle. has_kind tree handle.1 File) handles ≡ true → inode_at tree ino ≡ Some inode → is_dir inode.kind ≡ true → list_any (λ handle. handle.1 == ino) handles ≡ false
never_open tree [] ino inode all found dir = refl
never_open tree (handle ∷ handles) ino inode all found dir = by (and_parts (has_kind tree handle.1 File) (list_all (λ h. has_kind tree h.1 File) handles) all) (never_open tree handles ino inode) (handle.1 == ino) refl
  where
    by : (has_kind tree handle.1 File ≡ true) × (list_all (λ h. has_kind tree h.1 File) handles ≡ true)
        → (list_all (λ h. has_kind tree h.1 File) handles ≡ true → inode_at tree ino ≡ Some inode → is_dir inode.kind ≡ true → list_any (λ h. h.1 == ino) handles ≡ false)
        → (b : Bool) → (handle.1 == ino) ≡ b → (b || list_any (λ h. h.1 == ino) handles) ≡ false
    by parts rest true same =
        let file : has_kind tree ino File ≡ true = subst (λ n. has_kind tree n File ≡ true) (eqb-true handle.1 ino same) parts.0 in
        let kind : same_kind inode.kind File ≡ true = rw found at file in
        absurd (false≢true (sym (file_same inode.kind kind) ∙ dir))
    by parts rest false same = rest parts.1 found dir
