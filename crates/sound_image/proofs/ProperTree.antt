-- The tree of which a mount makes its files, where each directory has a link, hangs together like the recovered one.
use Rattle.std.proofs.Common.{◌≡◌, ℕ, zero, suc, ◌≤◌, nat_le, Bool, true, false, not, List, [], ◌∷◌, length, map, max, Option, Some, None, refl, ap, sym, ◌∙◌, subst, inl, inr, arith}
use Rattle.std.specs.Prelude.{◌==◌, ◌&&◌, ◌||◌, if◌then◌else◌, All}
use Rattle.std.specs.BTreeMap.{is_at}
use Rattle.std.specs.List.{AllByRecursion, list_all, list_any}
use Rattle.std.specs.Map.{keys_of, values_of}
use Rattle.std.specs.Option.{option_map, option_map_or}
use Rattle.std.specs.Ordering.{nat_cmp}
use Rattle.std.proofs.Math.Nat.{max-eq_left, max-eq_right}
use Rattle.std.proofs.lemmas.Bool.{cases_lt, le-leb, ne_eqb}
use Rattle.std.proofs.lemmas.List.Elements.{recursion_from_All}
use Rattle.std.proofs.lemmas.Map.Made.{keys_of-map_values, lookup-map_values}
use Rattle.fs_laws.specs.Maps.{all_at, all_insert}
use Rattle.fs_laws.specs.Orders.{named, numbers}
use Rattle.fs_model.specs.declared.change.Change.{Change}
use Rattle.fs_model.specs.declared.change.Change.TheVariants.{SetBlock, SetEntry, SetInode, DropEntry, CutBlocks, DropInode}
use Rattle.fs_model.specs.declared.inode.Entry.{Entry}
use Rattle.fs_model.specs.declared.inode.Inode.{Inode}
use Rattle.fs_model.specs.declared.inode.Kind.{Kind}
use Rattle.fs_model.specs.declared.inode.Kind.TheVariants.{Dir}
use Rattle.fs_model.specs.Files.{Entries, Inodes, Tree, inode_at, name_cmp}
use Rattle.fs_model.specs.Path.{is_dir}
use Rattle.fs_model.specs.Proper.{are_numbered, ascends, climbs, has_kind, is_block_node, is_entry_node, is_inode_node, is_linked, is_sound_dir, is_sound_entry, is_sound_inode, names_of, same_kind}
use Rattle.leaf_map.specs.Kept.{Kept, shown_by}
use Rattle.leaf_map.specs.Shown.{blocks_shown_by, entries_of, inodes_of, with_shown_block, with_entry, with_shown_inode}
use Rattle.sound_image.specs.Summary.{with_a_link}
use Rattle.sound_image.proofs.Lists.{two_true}
use Rattle.sound_image.proofs.ProperNodes.{IsShownWell}

-- a tree with a link for each directory
abbrev pub linked : Tree → Tree
linked tree = record tree { inodes = map (λ e. (e.0, with_a_link e.1)) tree.inodes }

both : (a b : Bool) → a ≡ true → b ≡ true → (a && b) ≡ true
both a b e f = rw (e, f) refl

-- ---- what leaves show
pub shown_inodes : (kept : List Kept) → AllByRecursion (λ x. IsShownWell (shown_by x)) kept → list_all is_inode_node (map (λ e. (e.0, with_a_link e.1)) (inodes_of kept)) ≡ true
shown_inodes [] h = refl
shown_inodes (x ∷ kept) h = by (shown_by x) h.0 (shown_inodes kept h.1)
  where
    by : (s : Option Change) → IsShownWell s → list_all is_inode_node (map (λ e. (e.0, with_a_link e.1)) (inodes_of kept)) ≡ true → list_all is_inode_node (map (λ e. (e.0, with_a_link e.1)) (with_shown_inode s (inodes_of kept))) ≡ true
    by (Some (SetInode ino inode)) own rest = both (is_inode_node (ino, with_a_link inode)) (list_all is_inode_node (map (λ e. (e.0, with_a_link e.1)) (inodes_of kept))) own rest
    by None own rest = rest
    by (Some (SetBlock ino number bytes)) own rest = rest
    by (Some (SetEntry e)) own rest = rest
    by (Some (DropEntry dir name)) own rest = rest
    by (Some (CutBlocks ino old_size new_size)) own rest = rest
    by (Some (DropInode ino)) own rest = rest

pub shown_blocks : (kept : List Kept) → AllByRecursion (λ x. IsShownWell (shown_by x)) kept → list_all is_block_node (blocks_shown_by kept) ≡ true
shown_blocks [] h = refl
shown_blocks (x ∷ kept) h = by (shown_by x) h.0 (shown_blocks kept h.1)
  where
    by : (s : Option Change) → IsShownWell s → list_all is_block_node (blocks_shown_by kept) ≡ true → list_all is_block_node (with_shown_block s (blocks_shown_by kept)) ≡ true
    by (Some (SetBlock ino number bytes)) own rest = both (is_block_node ((ino, number), bytes)) (list_all is_block_node (blocks_shown_by kept)) own rest
    by None own rest = rest
    by (Some (SetInode ino inode)) own rest = rest
    by (Some (SetEntry e)) own rest = rest
    by (Some (DropEntry dir name)) own rest = rest
    by (Some (CutBlocks ino old_size new_size)) own rest = rest
    by (Some (DropInode ino)) own rest = rest

pub shown_entries : (kept : List Kept) → AllByRecursion (λ x. IsShownWell (shown_by x)) kept → list_all is_entry_node (entries_of kept) ≡ true
shown_entries [] h = refl
shown_entries (x ∷ kept) h = by (shown_by x) h.0 (shown_entries kept h.1)
  where
    by : (s : Option Change) → IsShownWell s → list_all is_entry_node (entries_of kept) ≡ true → list_all is_entry_node (with_entry s (entries_of kept)) ≡ true
    by (Some (SetEntry e)) own rest = all_insert name_cmp named is_entry_node (entries_of kept) (e.dir, e.name) e own rest
    by None own rest = rest
    by (Some (SetInode ino inode)) own rest = rest
    by (Some (SetBlock ino number bytes)) own rest = rest
    by (Some (DropEntry dir name)) own rest = rest
    by (Some (CutBlocks ino old_size new_size)) own rest = rest
    by (Some (DropInode ino)) own rest = rest

-- ---- kinds stay
link_kind : (inode : Inode) → (with_a_link inode).kind ≡ inode.kind
link_kind inode = by (is_dir inode.kind)
  where
    by : (b : Bool) → (if b then record inode { nlink = max 1 inode.nlink } else inode).kind ≡ inode.kind
    by true = refl
    by false = refl

kind_of : (kind : Kind) (found : Option Inode) → option_map_or (λ (inode : Inode). same_kind inode.kind kind) (option_map with_a_link found) false ≡ option_map_or (λ (inode : Inode). same_kind inode.kind kind) found false
kind_of kind None = refl
kind_of kind (Some inode) = ap (λ (k : Kind). same_kind k kind) (link_kind inode)

pub kinds_stay : (tree : Tree) (ino : ℕ) (kind : Kind) → has_kind (linked tree) ino kind ≡ has_kind tree ino kind
kinds_stay tree ino kind = ap (λ (found : Option Inode). option_map_or (λ (inode : Inode). same_kind inode.kind kind) found false) (lookup-map_values with_a_link (is_at (nat_cmp ino)) tree.inodes) ∙ kind_of kind (inode_at tree ino)

entry_stays : (tree : Tree) (e : Entry) → is_sound_entry (linked tree) e ≡ is_sound_entry tree e
entry_stays tree e =
    ap (λ (b : Bool). b && has_kind (linked tree) e.ino e.kind && not (e.ino == 1)) (kinds_stay tree e.dir Dir) ∙ ap (λ (b : Bool). has_kind tree e.dir Dir && b && not (e.ino == 1)) (kinds_stay tree e.ino e.kind)

each_entry : (tree : Tree) (es : List Entry) → AllByRecursion (λ (e : Entry). is_sound_entry tree e ≡ true) es → list_all (is_sound_entry (linked tree)) es ≡ true
each_entry tree [] h = refl
each_entry tree (e ∷ es) h = both (is_sound_entry (linked tree) e) (list_all (is_sound_entry (linked tree)) es) (entry_stays tree e ∙ h.0) (each_entry tree es h.1)

pub entries_stay : (tree : Tree) → All (λ (e : Entry). is_sound_entry tree e ≡ true) (values_of tree.entries) → list_all (is_sound_entry (linked tree)) (values_of tree.entries) ≡ true
entries_stay tree h = each_entry tree (values_of tree.entries) (recursion_from_All (λ (e : Entry). is_sound_entry tree e ≡ true) (values_of tree.entries) h)

-- ---- directories stay
any_alike : (p q : Entry → Bool) → ((e : Entry) → p e ≡ q e) → (es : List Entry) → list_any p es ≡ list_any q es
any_alike p q same [] = refl
any_alike p q same (e ∷ es) = ap (λ (b : Bool). b || list_any p es) (same e) ∙ ap (λ (b : Bool). q e || b) (any_alike p q same es)

climbs_alike : (tree : Tree) (steps ino : ℕ) → climbs (linked tree) steps ino ≡ climbs tree steps ino
climbs_alike tree zero ino = refl
climbs_alike tree (suc steps) ino = ap (λ (b : Bool). (ino == 1) || b) (any_alike (λ e. climbs (linked tree) steps e.dir) (λ e. climbs tree steps e.dir) (λ e. climbs_alike tree steps e.dir) (names_of tree ino))

as_long : (es : Inodes) → length {A = ℕ × Inode} (map (λ e. (e.0, with_a_link e.1)) es) ≡ length es
as_long [] = refl
as_long (e ∷ es) = ap suc (as_long es)

dir_stays : (tree : Tree) (ino : ℕ) → is_sound_dir (linked tree) ino ≡ is_sound_dir tree ino
dir_stays tree ino =
    let P : ℕ → Bool = λ n. (ino == 1) || ((length (names_of tree ino) == 1) && climbs (linked tree) n ino) in
    ap P (as_long tree.inodes) ∙ ap (λ (b : Bool). (ino == 1) || ((length (names_of tree ino) == 1) && b)) (climbs_alike tree (length tree.inodes) ino)

inode_stays : (tree : Tree) (ino : ℕ) (inode : Inode) → is_sound_inode tree (ino, inode) ≡ true → is_sound_inode (linked tree) (ino, with_a_link inode) ≡ true
inode_stays tree ino inode h = by (is_dir inode.kind) refl h
  where
    by : (b : Bool) → is_dir inode.kind ≡ b → (if b then is_sound_dir tree ino else inode.nlink == length (names_of tree ino)) ≡ true → is_sound_inode (linked tree) (ino, with_a_link inode) ≡ true
    by true e k =
        let P : Inode → Bool = λ i. if is_dir i.kind then is_sound_dir (linked tree) ino else i.nlink == length (names_of tree ino) in
        let read : with_a_link inode ≡ record inode { nlink = max 1 inode.nlink } = ap (λ (b : Bool). if b then record inode { nlink = max 1 inode.nlink } else inode) e in
        ap P read ∙ ap (λ (b : Bool). if b then is_sound_dir (linked tree) ino else max 1 inode.nlink == length (names_of tree ino)) e ∙ dir_stays tree ino ∙ k
    by false e k =
        let P : Inode → Bool = λ i. if is_dir i.kind then is_sound_dir (linked tree) ino else i.nlink == length (names_of tree ino) in
        let read : with_a_link inode ≡ inode = ap (λ (b : Bool). if b then record inode { nlink = max 1 inode.nlink } else inode) e in
        ap P read ∙ ap (λ (b : Bool). if b then is_sound_dir (linked tree) ino else inode.nlink == length (names_of tree ino)) e ∙ k

pub inodes_stay : (tree : Tree) (es : Inodes) → list_all (is_sound_inode tree) es ≡ true → list_all (is_sound_inode (linked tree)) (map (λ e. (e.0, with_a_link e.1)) es) ≡ true
inodes_stay tree [] h = refl
inodes_stay tree (e ∷ es) h =
    let p = two_true (is_sound_inode tree e) (list_all (is_sound_inode tree) es) h in
    both (is_sound_inode (linked tree) (e.0, with_a_link e.1)) (list_all (is_sound_inode (linked tree)) (map (λ e. (e.0, with_a_link e.1)) es)) (inode_stays tree e.0 e.1 p.0) (inodes_stay tree es p.1)

-- ---- each directory has a link
pub above_left : (a b : ℕ) → a ≤ max a b
above_left a b = elim (cases_lt a b) [
  | inl less ↦ let le : a ≤ b = omega (arith, less) in subst (λ (n : ℕ). a ≤ n) (sym (max-eq_right {n = a} {m = b} le)) le
  | inr less ↦ let same = max-eq_left {n = a} {m = b} less in omega (arith, same)
]

some_link : (n : ℕ) → (max 1 n == 0) ≡ false
some_link n = let one = above_left 1 n in ne_eqb (max 1 n) 0 (λ e. omega (arith, one, e))

one_linked : (ino : ℕ) (inode : Inode) → is_linked (ino, with_a_link inode) ≡ true
one_linked ino inode = by (is_dir inode.kind) refl
  where
    test : Inode → Bool
    test i = not (is_dir i.kind && (i.nlink == 0))

    by : (b : Bool) → is_dir inode.kind ≡ b → is_linked (ino, with_a_link inode) ≡ true
    by true e =
        let read : with_a_link inode ≡ record inode { nlink = max 1 inode.nlink } = ap (λ (b : Bool). if b then record inode { nlink = max 1 inode.nlink } else inode) e in
        ap test read ∙ ap (λ (b : Bool). not (b && (max 1 inode.nlink == 0))) e ∙ ap not (some_link inode.nlink)
    by false e =
        let read : with_a_link inode ≡ inode = ap (λ (b : Bool). if b then record inode { nlink = max 1 inode.nlink } else inode) e in
        ap test read ∙ ap (λ (b : Bool). not (b && (inode.nlink == 0))) e

pub all_linked : (es : Inodes) → list_all is_linked (map (λ e. (e.0, with_a_link e.1)) es) ≡ true
all_linked [] = refl
all_linked (e ∷ es) = both (is_linked (e.0, with_a_link e.1)) (list_all is_linked (map (λ e. (e.0, with_a_link e.1)) es)) (one_linked e.0 e.1) (all_linked es)

-- ---- numbers
-- what is shown names no number above this one; of a name its directory counts
abbrev pub ShowsNumbers : ℕ → Option Change → Type 0
ShowsNumbers most (Some (SetInode ino inode)) = ino ≤ most
ShowsNumbers most (Some (SetBlock ino number bytes)) = ino ≤ most
ShowsNumbers most (Some (SetEntry e)) = e.dir ≤ most
ShowsNumbers most other = Unit {0}

pub inode_numbers : (most : ℕ) (kept : List Kept) → AllByRecursion (λ x. ShowsNumbers most (shown_by x)) kept → list_all (λ (e : ℕ × Inode). nat_le e.0 most) (inodes_of kept) ≡ true
inode_numbers most [] h = refl
inode_numbers most (x ∷ kept) h = by (shown_by x) h.0 (inode_numbers most kept h.1)
  where
    by : (s : Option Change) → ShowsNumbers most s → list_all (λ (e : ℕ × Inode). nat_le e.0 most) (inodes_of kept) ≡ true → list_all (λ (e : ℕ × Inode). nat_le e.0 most) (with_shown_inode s (inodes_of kept)) ≡ true
    by (Some (SetInode ino inode)) own rest = both (nat_le ino most) (list_all (λ (e : ℕ × Inode). nat_le e.0 most) (inodes_of kept)) (le-leb ino most own) rest
    by None own rest = rest
    by (Some (SetBlock ino number bytes)) own rest = rest
    by (Some (SetEntry e)) own rest = rest
    by (Some (DropEntry dir name)) own rest = rest
    by (Some (CutBlocks ino old_size new_size)) own rest = rest
    by (Some (DropInode ino)) own rest = rest

pub block_numbers : (most : ℕ) (kept : List Kept) → AllByRecursion (λ x. ShowsNumbers most (shown_by x)) kept → list_all (λ (e : (ℕ × ℕ) × List ℕ). nat_le e.0.0 most) (blocks_shown_by kept) ≡ true
block_numbers most [] h = refl
block_numbers most (x ∷ kept) h = by (shown_by x) h.0 (block_numbers most kept h.1)
  where
    by : (s : Option Change) → ShowsNumbers most s → list_all (λ (e : (ℕ × ℕ) × List ℕ). nat_le e.0.0 most) (blocks_shown_by kept) ≡ true → list_all (λ (e : (ℕ × ℕ) × List ℕ). nat_le e.0.0 most) (with_shown_block s (blocks_shown_by kept)) ≡ true
    by (Some (SetBlock ino number bytes)) own rest = both (nat_le ino most) (list_all (λ (e : (ℕ × ℕ) × List ℕ). nat_le e.0.0 most) (blocks_shown_by kept)) (le-leb ino most own) rest
    by None own rest = rest
    by (Some (SetInode ino inode)) own rest = rest
    by (Some (SetEntry e)) own rest = rest
    by (Some (DropEntry dir name)) own rest = rest
    by (Some (CutBlocks ino old_size new_size)) own rest = rest
    by (Some (DropInode ino)) own rest = rest

pub entry_numbers : (most : ℕ) (kept : List Kept) → AllByRecursion (λ x. ShowsNumbers most (shown_by x)) kept → list_all (λ (e : (ℕ × List ℕ) × Entry). nat_le e.0.0 most) (entries_of kept) ≡ true
entry_numbers most [] h = refl
entry_numbers most (x ∷ kept) h = by (shown_by x) h.0 (entry_numbers most kept h.1)
  where
    by : (s : Option Change) → ShowsNumbers most s → list_all (λ (e : (ℕ × List ℕ) × Entry). nat_le e.0.0 most) (entries_of kept) ≡ true → list_all (λ (e : (ℕ × List ℕ) × Entry). nat_le e.0.0 most) (with_entry s (entries_of kept)) ≡ true
    by (Some (SetEntry e)) own rest = all_insert name_cmp named (λ (e : (ℕ × List ℕ) × Entry). nat_le e.0.0 most) (entries_of kept) (e.dir, e.name) e (le-leb e.dir most own) rest
    by None own rest = rest
    by (Some (SetInode ino inode)) own rest = rest
    by (Some (SetBlock ino number bytes)) own rest = rest
    by (Some (DropEntry dir name)) own rest = rest
    by (Some (CutBlocks ino old_size new_size)) own rest = rest
    by (Some (DropInode ino)) own rest = rest

-- an inode that a tree has is numbered
found_number : (tree : Tree) (most ino : ℕ) (kind : Kind) → list_all (λ (e : ℕ × Inode). nat_le e.0 most) tree.inodes ≡ true → has_kind tree ino kind ≡ true → nat_le ino most ≡ true
found_number tree most ino kind all has = by (inode_at tree ino) refl has
  where
    by : (found : Option Inode) → inode_at tree ino ≡ found → option_map_or (λ (inode : Inode). same_kind inode.kind kind) found false ≡ true → nat_le ino most ≡ true
    by None e h = absurd cc
    by (Some inode) e h = all_at nat_cmp numbers (λ (e : ℕ × Inode). nat_le e.0 most) tree.inodes ino inode all e

named_number : (tree : Tree) (most : ℕ) (e : Entry) → list_all (λ (e : ℕ × Inode). nat_le e.0 most) tree.inodes ≡ true → is_sound_entry tree e ≡ true → nat_le e.ino most ≡ true
named_number tree most e all h =
    let p = two_true (has_kind tree e.dir Dir && has_kind tree e.ino e.kind) (not (e.ino == 1)) h in
    found_number tree most e.ino e.kind all (two_true (has_kind tree e.dir Dir) (has_kind tree e.ino e.kind) p.0).1

both_numbers : (tree : Tree) (most : ℕ) (es : Entries) → list_all (λ (e : ℕ × Inode). nat_le e.0 most) tree.inodes ≡ true → list_all (λ (e : (ℕ × List ℕ) × Entry). nat_le e.0.0 most) es ≡ true
    → AllByRecursion (λ (e : Entry). is_sound_entry tree e ≡ true) (values_of es) → list_all (λ (e : (ℕ × List ℕ) × Entry). nat_le e.0.0 most && nat_le e.1.ino most) es ≡ true
both_numbers tree most [] all h k = refl
both_numbers tree most (e ∷ es) all h k =
    let p = two_true (nat_le e.0.0 most) (list_all (λ (e : (ℕ × List ℕ) × Entry). nat_le e.0.0 most) es) h in
    both (nat_le e.0.0 most && nat_le e.1.ino most) (list_all (λ (e : (ℕ × List ℕ) × Entry). nat_le e.0.0 most && nat_le e.1.ino most) es) (both (nat_le e.0.0 most) (nat_le e.1.ino most) p.0 (named_number tree most e.1 all k.0)) (both_numbers tree most es all p.1 k.1)

linked_numbers : (most : ℕ) (es : Inodes) → list_all (λ (e : ℕ × Inode). nat_le e.0 most) es ≡ true → list_all (λ (e : ℕ × Inode). nat_le e.0 most) (map (λ e. (e.0, with_a_link e.1)) es) ≡ true
linked_numbers most [] h = refl
linked_numbers most (e ∷ es) h =
    let p = two_true (nat_le e.0 most) (list_all (λ (e : ℕ × Inode). nat_le e.0 most) es) h in
    both (nat_le e.0 most) (list_all (λ (e : ℕ × Inode). nat_le e.0 most) (map (λ e. (e.0, with_a_link e.1)) es)) p.0 (linked_numbers most es p.1)

pub numbered : (tree : Tree) → list_all (λ (e : ℕ × Inode). nat_le e.0 tree.highest) tree.inodes ≡ true → list_all (λ (e : (ℕ × ℕ) × List ℕ). nat_le e.0.0 tree.highest) tree.blocks ≡ true
    → list_all (λ (e : (ℕ × List ℕ) × Entry). nat_le e.0.0 tree.highest) tree.entries ≡ true → All (λ (e : Entry). is_sound_entry tree e ≡ true) (values_of tree.entries) → are_numbered (linked tree) ≡ true
numbered tree inodes blocks names sound =
    let most = tree.highest in
    both (list_all (λ (e : ℕ × Inode). nat_le e.0 most) (linked tree).inodes && list_all (λ (e : (ℕ × ℕ) × List ℕ). nat_le e.0.0 most) tree.blocks) (list_all (λ (e : (ℕ × List ℕ) × Entry). nat_le e.0.0 most && nat_le e.1.ino most) tree.entries)
    (both (list_all (λ (e : ℕ × Inode). nat_le e.0 most) (linked tree).inodes) (list_all (λ (e : (ℕ × ℕ) × List ℕ). nat_le e.0.0 most) tree.blocks) (linked_numbers most tree.inodes inodes) blocks)
    (both_numbers tree most tree.entries inodes names (recursion_from_All (λ (e : Entry). is_sound_entry tree e ≡ true) (values_of tree.entries) sound))

-- ---- order
pub keys_stay : (es : Inodes) → ascends nat_cmp (keys_of es) ≡ true → ascends nat_cmp (keys_of (map (λ e. (e.0, with_a_link e.1)) es)) ≡ true
keys_stay es h = ap (ascends nat_cmp) (keys_of-map_values with_a_link es) ∙ h
