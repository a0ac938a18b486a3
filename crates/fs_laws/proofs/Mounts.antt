-- What a mount finds: what has no name is gone.
use Rattle.std.proofs.Common.{◌≡◌, ℕ, Bool, true, false, cond, not, ◌&&◌, ◌||◌, List, [], ◌∷◌, Some, refl, sym, subst, ◌∙◌, inl, inr}
use Rattle.std.specs.Prelude.{◌==◌, Option, None, filter, fold}
use Rattle.std.specs.List.{list_all}
use Rattle.std.specs.Map.{keys_of}
use Rattle.std.specs.Option.{option_map_or}
use Rattle.std.specs.Ordering.{nat_cmp}
use Rattle.std.proofs.lemmas.Bool.{false≢true, and_parts, and_from, eqb-true}
use Rattle.std.proofs.lemmas.Bool.Decides.{eqb_tells}
use Rattle.fs_model.specs.declared.inode.Inode.{Inode}
use Rattle.fs_model.specs.declared.inode.Entry.{Entry}
use Rattle.fs_model.specs.declared.inode.Kind.TheVariants.{Dir}
use Rattle.fs_model.specs.Change.{without_inode}
use Rattle.fs_model.specs.Files.{Tree, inode_at, name_cmp}
use Rattle.fs_model.specs.Orphan.{is_nameless, nameless, without_nameless}
use Rattle.fs_model.specs.Path.{is_dir}
use Rattle.fs_model.specs.Proper.{IsProper, is_linked}
use Rattle.fs_laws.proofs.Climb.{proper_of}
use Rattle.fs_laws.proofs.Closes.{local_without, rel_forgotten}
use Rattle.fs_laws.proofs.InodeKinds.{dir_is}
use Rattle.fs_laws.proofs.Linked.{linked_left}
use Rattle.fs_laws.proofs.Local.{local_of}
use Rattle.fs_laws.proofs.Makes.{apart_by_none}
use Rattle.fs_laws.specs.Maps.{all_at, all_from, all_weaken, count_none, key_cases, removed_here, removed_other}
use Rattle.fs_laws.specs.Orders.{numbers, named}
use Rattle.fs_laws.proofs.Rel.{Rel, there_of, rel_of, inode_in, kind_is, names}

-- an inode that is no directory and has no name
abbrev is_idle : Inode → Bool
is_idle i = not (is_dir i.kind) && (i.nlink == 0)

-- whether it may go, or is gone
abbrev may_go : Tree → ℕ → Bool
may_go tree ino = option_map_or is_idle (inode_at tree ino) true

unnamed : (tree : Tree) (ino : ℕ) → IsProper tree → may_go tree ino ≡ true → names tree.entries ino ≡ 0
unnamed tree ino proper may = by (inode_in tree.inodes ino) refl may
  where
    rel : Rel tree.inodes tree.entries
    rel = rel_of tree proper

    by : (o : Option Inode) → inode_in tree.inodes ino ≡ o → option_map_or is_idle o true ≡ true → names tree.entries ino ≡ 0
    by None f m = count_none name_cmp named (λ (e : Entry). e.ino == ino) tree.entries proper.entries_ascend (λ key e g. elim (eqb_tells e.ino ino) [
      | inl same ↦ let it = there_of tree.inodes e.ino e.kind (rel.entry key e g).ino in absurd (apart_by_none tree.inodes e.ino ino it.inode it.found f same.1)
      | inr other ↦ other.0
    ])
    by (Some i) f m =
        let p = and_parts (not (is_dir i.kind)) (i.nlink == 0) m in
        sym ((rel.inode ino i f).plain (turn (is_dir i.kind) p.0)) ∙ eqb-true i.nlink 0 p.1
      where
        turn : (b : Bool) → not b ≡ true → b ≡ false
        turn true t = sym t
        turn false t = refl

no_directory : (tree : Tree) (ino : ℕ) → may_go tree ino ≡ true → kind_is tree.inodes ino Dir ≡ true → ⊥
no_directory tree ino may dir =
    let it = there_of tree.inodes ino Dir dir in
    let idle : is_idle it.inode ≡ true = rw it.found at may in
    let plain = (and_parts (not (is_dir it.inode.kind)) (it.inode.nlink == 0) idle).0 in
    false≢true (rw (dir_is it.inode.kind it.same) at plain)

dropped_proper : (tree : Tree) (ino : ℕ) → IsProper tree → may_go tree ino ≡ true → IsProper (without_inode tree ino)
dropped_proper tree ino proper may =
    let rel = rel_of tree proper in
    proper_of (without_inode tree ino) (local_without tree ino (local_of tree proper)) (rel_forgotten tree.inodes tree.entries ino proper.inodes_ascend
    (λ key x f same. no_directory tree ino may (subst (λ k. kind_is tree.inodes k Dir ≡ true) same (rel.entry key x f).dir))
    (λ same. no_directory tree ino may (subst (λ k. kind_is tree.inodes k Dir ≡ true) (sym same) rel.root))
    (unnamed tree ino proper may) rel) (linked_left tree.inodes ino proper.linked)

still_may : (tree : Tree) (gone ino : ℕ) → IsProper tree → may_go tree ino ≡ true → may_go (without_inode tree gone) ino ≡ true
still_may tree gone ino proper may = elim (key_cases nat_cmp numbers ino gone) [
  | inl same ↦
      let none = removed_here nat_cmp numbers tree.inodes gone proper.inodes_ascend in
      subst (λ k. may_go (without_inode tree gone) k ≡ true) (sym same) (rw none refl)
  | inr other ↦ rw (removed_other nat_cmp numbers tree.inodes gone ino other) may
]

all_dropped : (inos : List ℕ) (tree : Tree) → IsProper tree → list_all (may_go tree) inos ≡ true → IsProper (fold without_inode tree inos)
all_dropped [] tree proper may = proper
all_dropped (ino ∷ inos) tree proper may =
    let p = and_parts (may_go tree ino) (list_all (may_go tree) inos) may in
    all_dropped inos (without_inode tree ino) (dropped_proper tree ino proper p.0) (all_weaken (may_go tree) (may_go (without_inode tree ino)) (λ x t. still_may tree ino x proper t) inos p.1)

keys_pass : {X : Type 0} (p : ℕ × X → Bool) (q : ℕ → Bool) (es : List (ℕ × X)) → list_all (λ e. not (p e) || q e.0) es ≡ true → list_all q (keys_of (filter p es)) ≡ true
keys_pass p q [] h = refl
keys_pass p q (e ∷ es) h = let parts = and_parts (not (p e) || q e.0) (list_all (λ x. not (p x) || q x.0) es) h in by (p e) parts.0 (keys_pass p q es parts.1)
  where
    by : (b : Bool) → (not b || q e.0) ≡ true → list_all q (keys_of (filter p es)) ≡ true → list_all q (keys_of (cond b (e ∷ filter p es) (filter p es))) ≡ true
    by true one more = and_from (q e.0) (list_all q (keys_of (filter p es))) one more
    by false one more = more

pub mount_proper : (tree : Tree) → IsProper tree → IsProper (without_nameless tree)
mount_proper tree proper = all_dropped (nameless tree) tree proper (keys_pass (λ e. e.1.nlink == 0) (may_go tree) tree.inodes (all_from nat_cmp numbers (λ e. not (e.1.nlink == 0) || may_go tree e.0) tree.inodes proper.inodes_ascend (λ ino i f.
    let all = all_at nat_cmp numbers is_linked tree.inodes ino i proper.linked f in
    let may : (not (i.nlink == 0) || is_idle i) ≡ true = idle (is_dir i.kind) (i.nlink == 0) all in
    rw f may)))
  where
    idle : (d z : Bool) → not (d && z) ≡ true → (not z || (not d && z)) ≡ true
    idle true true h = h
    idle true false h = refl
    idle false true h = refl
    idle false false h = refl

-- one inode without a name goes, which is no directory
pub nameless_dropped : (tree : Tree) (ino : ℕ) → IsProper tree → is_nameless tree ino ≡ true → IsProper (without_inode tree ino)
nameless_dropped tree ino proper none = dropped_proper tree ino proper (by (inode_at tree ino) refl none)
  where
    idle : (d z : Bool) → not (d && z) ≡ true → z ≡ true → (not d && z) ≡ true
    idle true true h e = absurd (false≢true h)
    idle true false h e = absurd (false≢true e)
    idle false true h e = refl
    idle false false h e = absurd (false≢true e)

    by : (o : Option Inode) → inode_at tree ino ≡ o → option_map_or (λ inode. inode.nlink == 0) o false ≡ true → option_map_or is_idle o true ≡ true
    by None f h = refl
    by (Some i) f h = idle (is_dir i.kind) (i.nlink == 0) (all_at nat_cmp numbers is_linked tree.inodes ino i proper.linked f) h
