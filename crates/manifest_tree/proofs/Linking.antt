-- The groups of a further name and of a new directory keep a tree proper, however many links there are.
use Rattle.std.proofs.Common.{◌≡◌, ℕ, ◌+◌, ◌<◌, ◌≤◌, ◌^◌, Bool, true, false, ◌-◌, max, min, Option, Some, None, List, [], ◌∷◌, arith, refl, sym, ap, subst, ◌∙◌, inl, inr}
use Rattle.std.specs.Prelude.{◌==◌, ◌&&◌, not, nat_le, nat_lt, is_some, length}
use Rattle.std.specs.List.{list_all}
use Rattle.std.specs.Ordering.{nat_cmp}
use Rattle.std.proofs.lemmas.Bool.{and_from, and_parts, eqb-true, false≢true, leb-true, lt-ltb}
use Rattle.std.proofs.lemmas.Bool.Decides.{eqb_tells}
use Rattle.fs_model.specs.declared.change.Change.{Change}
use Rattle.fs_model.specs.declared.change.Change.TheVariants.{SetEntry, SetInode}
use Rattle.fs_model.specs.declared.inode.Entry.{Entry}
use Rattle.fs_model.specs.declared.inode.Inode.{Inode}
use Rattle.fs_model.specs.declared.inode.Kind.TheVariants.{File, Dir}
use Rattle.fs_model.specs.declared.share.Share.{Share}
use Rattle.fs_model.specs.Backing.{is_node}
use Rattle.fs_model.specs.Change.{apply}
use Rattle.fs_model.specs.Cover.{entry_bytes}
use Rattle.fs_model.specs.Directory.{counted, no_share, share_of}
use Rattle.fs_model.specs.Files.{Tree, entry_at, inode_at, name_cmp}
use Rattle.fs_model.specs.Links.{linking}
use Rattle.fs_model.specs.Making.{making, new_dir, new_file, touched, touching}
use Rattle.fs_model.specs.Path.{is_dir, is_same_name}
use Rattle.fs_model.specs.Proper.{IsProper, are_words, is_entry_node, is_inode_node, is_linked, is_name, is_sound_inode, names_of, same_kind}
use Rattle.fs_laws.specs.Maps.{all_at, count_none}
use Rattle.fs_laws.specs.Orders.{named, numbers}
use Rattle.manifest_tree.proofs.FurtherNames.{GainsName, gained, gained_proper}
use Rattle.manifest_tree.proofs.InodeNodes.{counted_node, linked_node, node_number}
use Rattle.manifest_tree.proofs.Pages.{le-is}

-- an entry of another inode and kind is a node still
entry_of : (dir : ℕ) (name : List ℕ) (a b : Entry) → a.dir ≡ dir → a.name ≡ name → b.dir ≡ dir → b.name ≡ name → is_entry_node ((dir, name), a) ≡ true → nat_lt b.ino (2 ^ 32) ≡ true → is_entry_node ((dir, name), b) ≡ true
entry_of dir name a b ad an bd bn h small =
    let test : Bool = (dir == dir) && is_same_name name name && is_name name in
    let p = and_parts test (are_words (dir ∷ a.ino ∷ [])) (rw (ad, an) at h) in
    let q = and_parts (nat_lt dir (2 ^ 32)) (are_words (a.ino ∷ [])) p.1 in
    rw (bd, bn) (and_from test (are_words (dir ∷ b.ino ∷ [])) p.0 (and_from (nat_lt dir (2 ^ 32)) (are_words (b.ino ∷ [])) q.0 (and_from (nat_lt b.ino (2 ^ 32)) true small refl)))

-- a directory that was counted has a link
counted_links : (dir : ℕ) (came : Share) (d : Inode) → d.kind ≡ Dir → is_linked (dir, touched 0 (counted came no_share d)) ≡ true
counted_links dir came d kind = rw kind (some (max 1 (min (d.nlink + came.links) 4294967295 - 0)) (omega arith))
  where
    some : (n : ℕ) → 1 ≤ n → not (true && (n == 0)) ≡ true
    some n h = elim (eqb_tells n 0) [ inl none ↦ absurd (let z = none.1 in omega (arith, z, h)) | inr other ↦ rw other.0 refl ]

none_of : {X : Type 0} (o : Option X) → is_some o ≡ false → o ≡ None
none_of None h = refl
none_of (Some x) h = absurd cc

-- what is known of one name of a path that can be made: its entry is a node
pub first_entry : (tree : Tree) (dir : ℕ) (name : List ℕ) → list_all is_node (making tree dir name (new_file 0 0) 0) ≡ true → is_entry_node ((dir, name), record { dir = dir; name = name; ino = tree.highest + 1; kind = File }) ≡ true
first_entry tree dir name nodes =
    let other : Entry = record { dir = dir; name = name; ino = tree.highest + 1; kind = File } in
    let a = and_parts (is_node (SetEntry other)) (list_all is_node (SetInode (tree.highest + 1) (new_file 0 0) ∷ touching tree dir 0 (share_of other) no_share)) nodes in
    (and_parts (is_entry_node ((dir, name), other)) (not (tree.highest + 1 == 0)) a.0).0

-- the group of a further name, change by change
pub linking_is : (tree : Tree) (entry : Entry) (inode parent grown : Inode) (dir : ℕ) (name : List ℕ) (group : List Change)
    → group ≡ SetEntry (record entry { dir = dir; name = name }) ∷ SetInode entry.ino (touched 0 (record inode { nlink = inode.nlink + 1 })) ∷ SetInode dir (touched 0 grown) ∷ []
    → grown ≡ counted (share_of (record entry { dir = dir; name = name })) no_share parent → inode_at tree dir ≡ Some parent → group ≡ linking tree entry inode dir name 0
linking_is tree entry inode parent grown dir name group pushed is there =
    let e : Entry = record entry { dir = dir; name = name } in
    let front : List Change → List Change = λ rest. SetEntry e ∷ SetInode entry.ino (touched 0 (record inode { nlink = inode.nlink + 1 })) ∷ rest in
    let came : touching tree dir 0 (share_of e) no_share ≡ SetInode dir (touched 0 (counted (share_of e) no_share parent)) ∷ [] = rw there refl in
    pushed ∙ (ap (λ (g : Inode). front (SetInode dir (touched 0 g) ∷ [])) is ∙ ap front (sym came))

pub linked_proper : (tree : Tree) (entry : Entry) (inode d : Inode) (dir : ℕ) (name : List ℕ) → IsProper tree → is_some (entry_at tree dir name) ≡ false → inode_at tree entry.ino ≡ Some inode → inode.kind ≡ File → entry.kind ≡ File
    → inode_at tree dir ≡ Some d → d.kind ≡ Dir → inode.nlink < 4294967295 → list_all is_node (making tree dir name (new_file 0 0) 0) ≡ true → IsProper (apply tree (linking tree entry inode dir name 0))
linked_proper tree entry inode d dir name proper free there file kind here dir_kind few nodes =
    let e : Entry = record entry { dir = dir; name = name } in
    let other : Entry = record { dir = dir; name = name; ino = tree.highest + 1; kind = File } in
    let new : Inode = touched 0 (record inode { nlink = inode.nlink + 1 }) in
    let up : Inode = touched 0 (counted (share_of e) no_share d) in
    let came : touching tree dir 0 (share_of e) no_share ≡ SetInode dir up ∷ [] = rw here refl in
    let was = all_at nat_cmp numbers is_inode_node tree.inodes entry.ino inode proper.inode_nodes there in
    let dir_was = all_at nat_cmp numbers is_inode_node tree.inodes dir d proper.inode_nodes here in
    let links : (inode.nlink == length (names_of tree entry.ino)) ≡ true = rw file at (all_at nat_cmp numbers (is_sound_inode tree) tree.inodes entry.ino inode proper.inodes there) in
    let count = eqb-true inode.nlink (length (names_of tree entry.ino)) links in
    let no_file : is_dir new.kind ≡ false = ap is_dir file in
    let known : GainsName tree e new d up = record {
      free = none_of (entry_at tree dir name) free;
      no_dir = rw (there, file) refl;
      keeps = λ k h. let same : same_kind File k ≡ true = rw (there, file) at h in ap (λ x. same_kind x k) file ∙ same;
      kind = ap (λ x. same_kind x entry.kind) file ∙ ap (same_kind File) kind;
      links = λ h. omega (arith, count);
      first = λ h. absurd (false≢true (sym no_file ∙ h));
      absent = λ h. absurd (false≢true (sym no_file ∙ h));
      linked = ap (λ x. not (is_dir x && (inode.nlink + 1 == 0))) file;
      dir = here;
      dir_kind = dir_kind;
      up_kind = dir_kind;
      up_linked = counted_links dir (share_of e) d dir_kind;
      entry_node = entry_of dir name other e refl refl refl refl (first_entry tree dir name nodes) (node_number entry.ino inode was);
      new_node = linked_node entry.ino (inode.nlink + 1) inode (omega (arith, few)) was;
      up_node = counted_node dir (share_of e) d dir_kind dir_was;
    } in
    let highest : ℕ = max (max (max tree.highest dir) entry.ino) dir in
    subst (λ rest. IsProper (apply tree (SetEntry e ∷ SetInode entry.ino new ∷ rest))) (sym came) (gained_proper tree e new d up highest known proper (omega arith) (le-is entry.ino highest (omega arith)))

-- no inode has the next number, and no name is of it
no_next : (tree : Tree) → IsProper tree → inode_at tree (tree.highest + 1) ≡ None
no_next tree proper = by (inode_at tree (tree.highest + 1)) refl
  where
    by : (o : Option Inode) → inode_at tree (tree.highest + 1) ≡ o → o ≡ None
    by None f = refl
    by (Some i) f =
        let fs : ℕ × Inode → Bool = λ k. nat_le k.0 tree.highest in
        let bs : (ℕ × ℕ) × List ℕ → Bool = λ k. nat_le k.0.0 tree.highest in
        let p = and_parts (list_all fs tree.inodes && list_all bs tree.blocks) (list_all (λ k. nat_le k.0.0 tree.highest && nat_le k.1.ino tree.highest) tree.entries) proper.numbers in
        let q = and_parts (list_all fs tree.inodes) (list_all bs tree.blocks) p.0 in
        let few = leb-true (tree.highest + 1) tree.highest (all_at nat_cmp numbers fs tree.inodes (tree.highest + 1) i q.0 f) in absurd (omega (arith, few))

no_next_name : (tree : Tree) → IsProper tree → length (names_of tree (tree.highest + 1)) ≡ 0
no_next_name tree proper =
    let es : (ℕ × List ℕ) × Entry → Bool = λ k. nat_le k.0.0 tree.highest && nat_le k.1.ino tree.highest in
    let p = and_parts (list_all (λ k. nat_le k.0 tree.highest) tree.inodes && list_all (λ k. nat_le k.0.0 tree.highest) tree.blocks) (list_all es tree.entries) proper.numbers in
    count_none name_cmp named (λ (f : Entry). f.ino == tree.highest + 1) tree.entries proper.entries_ascend (λ key f found.
    let low = leb-true f.ino tree.highest (and_parts (nat_le key.0 tree.highest) (nat_le f.ino tree.highest) (all_at name_cmp named es tree.entries key f p.1 found)).1 in
    elim (eqb_tells f.ino (tree.highest + 1)) [ inl same ↦ (let is = same.1 in absurd (omega (arith, is, low))) | inr other ↦ other.0 ])

new_dir_node : (ino mode : ℕ) → not (ino == 0) ≡ true → nat_lt ino (2 ^ 32) ≡ true → nat_lt mode 4096 ≡ true → is_inode_node (ino, new_dir mode 0) ≡ true
new_dir_node ino mode some small good = rw (some, small, good) refl

pub new_dir_proper : (tree : Tree) (d : Inode) (dir mode : ℕ) (name : List ℕ) → IsProper tree → is_some (entry_at tree dir name) ≡ false → inode_at tree dir ≡ Some d → d.kind ≡ Dir → nat_lt mode 4096 ≡ true → tree.highest < 4294967295
    → list_all is_node (making tree dir name (new_file 0 0) 0) ≡ true → IsProper (apply tree (making tree dir name (new_dir mode 0) 0))
new_dir_proper tree d dir mode name proper free here dir_kind good few nodes =
    let ino : ℕ = tree.highest + 1 in
    let e : Entry = record { dir = dir; name = name; ino = ino; kind = Dir } in
    let other : Entry = record { dir = dir; name = name; ino = ino; kind = File } in
    let new : Inode = new_dir mode 0 in
    let up : Inode = touched 0 (counted (share_of e) no_share d) in
    let came : touching tree dir 0 (share_of e) no_share ≡ SetInode dir up ∷ [] = rw here refl in
    let dir_was = all_at nat_cmp numbers is_inode_node tree.inodes dir d proper.inode_nodes here in
    let none = no_next tree proper in
    let small : nat_lt ino (2 ^ 32) ≡ true = lt-ltb ino (2 ^ 32) (omega (arith, few)) in
    let some : not (ino == 0) ≡ true = elim (eqb_tells ino 0) [ inl zero ↦ (let z = zero.1 in absurd (omega (arith, z))) | inr differs ↦ rw differs.0 refl ] in
    let known : GainsName tree e new d up = record {
      free = none_of (entry_at tree dir name) free;
      no_dir = rw none refl;
      keeps = λ k h. absurd (false≢true (rw none at h));
      kind = refl;
      links = λ h. absurd (false≢true (sym h));
      first = λ h. no_next_name tree proper;
      absent = λ h. none;
      linked = refl;
      dir = here;
      dir_kind = dir_kind;
      up_kind = dir_kind;
      up_linked = counted_links dir (share_of e) d dir_kind;
      entry_node = entry_of dir name other e refl refl refl refl (first_entry tree dir name nodes) small;
      new_node = new_dir_node ino mode some small good;
      up_node = counted_node dir (share_of e) d dir_kind dir_was;
    } in
    let highest : ℕ = max (max (max tree.highest dir) ino) dir in
    subst (λ rest. IsProper (apply tree (SetEntry e ∷ SetInode ino new ∷ rest))) (sym came) (gained_proper tree e new d up highest known proper (omega arith) (le-is ino highest (omega arith)))
