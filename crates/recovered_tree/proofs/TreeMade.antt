-- What the changes that set what leaves show make of no files.
use Rattle.std.proofs.Common.{◌≡◌, ℕ, Bool, true, false, cond, List, [], ◌∷◌, filter, map, max, Option, Some, None, refl, ap, sym, ◌∙◌, subst}
use Rattle.std.specs.Prelude.{◌&&◌, fold, if◌then◌else◌, is_some, nat_le, reverse}
use Rattle.std.specs.BTreeMap.{insert_entry, is_at}
use Rattle.std.specs.List.{list_all}
use Rattle.std.specs.Map.{keys_of, lookup}
use Rattle.std.specs.Ordering.{is_lt, match_ordering, nat_cmp}
use Rattle.std.specs.declared.cmp.Ordering.{Ordering}
use Rattle.std.specs.declared.cmp.Ordering.TheVariants.{Less, Equal, Greater}
use Rattle.std.proofs.Math.Nat.{max-eq_left}
use Rattle.std.proofs.lemmas.Bool.{and_from, and_parts, false≢true, leb-true}
use Rattle.std.proofs.lemmas.List.{reverse-append}
use Rattle.std.proofs.lemmas.List.Sums.{fold-append}
use Rattle.fs_laws.specs.Maps.{all_filter, all_weaken, below_rest, tail_ascends}
use Rattle.fs_laws.specs.Orders.{named, numbers, pairs}
use Rattle.fs_model.specs.declared.change.Change.{Change}
use Rattle.fs_model.specs.declared.change.Change.TheVariants.{SetBlock, SetEntry, SetInode, DropEntry, CutBlocks, DropInode}
use Rattle.fs_model.specs.declared.inode.Entry.{Entry}
use Rattle.fs_model.specs.declared.inode.Inode.{Inode}
use Rattle.fs_model.specs.Change.{applied, apply}
use Rattle.fs_model.specs.Files.{Blocks, Entries, Inodes, Tree, name_cmp, pair_cmp}
use Rattle.fs_model.specs.Proper.{IsProper, ascends}
use Rattle.leaf_map.specs.Kept.{Kept, shown_by}
use Rattle.leaf_map.specs.Shown.{blocks_shown_by, entries_of, inodes_of, tree_of, with_shown_block, with_entry, with_shown_inode}
use Rattle.sound_image.specs.Summary.{with_a_link}
use Rattle.recovered_tree.specs.Files.{without_lone_blocks}
use Rattle.recovered_tree.specs.Sets.{set_inodes, set_others, with_set_inode, with_set_other}

-- no files
abbrev pub no_files : ℕ → Tree
no_files h = record { inodes = []; blocks = []; entries = []; highest = h }

-- inodes with a link for each directory
abbrev pub with_links : Inodes → Inodes
with_links inodes = map (λ e. (e.0, with_a_link e.1)) inodes

reversed_fold : {X Y : Type 0} (f : Y → X → Y) (a : Y) (x : X) (xs : List X) → fold f a (reverse (x ∷ xs)) ≡ f (fold f a (reverse xs)) x
reversed_fold f a x xs = ap (fold f a) (reverse-append (x ∷ []) xs) ∙ fold-append f a (reverse xs) (x ∷ [])

-- what is below all keys goes before them
put_first : {K X : Type 0} (cmp : K → K → Ordering) (es : List (K × X)) (k : K) (v : X) → list_all (λ f. is_lt (cmp k f.0)) es ≡ true → insert_entry cmp es k v ≡ (k, v) ∷ es
put_first cmp [] k v h = refl
put_first {K} {X} cmp (e ∷ es) k v h = by (cmp k e.0) (and_parts (is_lt (cmp k e.0)) (list_all (λ (f : K × X). is_lt (cmp k f.0)) es) h).0
  where
    by : (o : Ordering) → is_lt o ≡ true → match_ordering o ((k, v) ∷ e ∷ es) ((e.0, v) ∷ es) (e ∷ insert_entry cmp es k v) ≡ (k, v) ∷ e ∷ es
    by Less l = refl
    by Equal l = absurd (false≢true l)
    by Greater l = absurd (false≢true l)

-- ---- inodes
abbrev pub inodes_low : ℕ → Inodes → Bool
inodes_low h inodes = list_all (λ (e : ℕ × Inode). nat_le e.0 h) inodes

inode_first : (h : ℕ) (rest : Inodes) (ino : ℕ) (inode : Inode) → ascends nat_cmp (keys_of ((ino, inode) ∷ rest)) ≡ true → nat_le ino h ≡ true
    → applied (record { inodes = rest; blocks = []; entries = []; highest = h }) (SetInode ino inode) ≡ record { inodes = (ino, inode) ∷ rest; blocks = []; entries = []; highest = h }
inode_first h rest ino inode a n =
    let put = put_first nat_cmp rest ino inode (below_rest nat_cmp numbers rest (ino, inode) a) in
    let top : max h ino ≡ h = max-eq_left {n = h} {m = ino} (leb-true ino h n) in
    λ i. record { inodes = put i; blocks = []; entries = []; highest = top i }

pub inodes_made : (h : ℕ) (kept : List Kept) → ascends nat_cmp (keys_of (with_links (inodes_of kept))) ≡ true → inodes_low h (with_links (inodes_of kept)) ≡ true
    → apply (no_files h) (reverse (set_inodes kept)) ≡ record { inodes = with_links (inodes_of kept); blocks = []; entries = []; highest = h }
inodes_made h [] a n = refl
inodes_made h (x ∷ kept) a n = by (shown_by x) a n (inodes_made h kept)
  where
    by : (s : Option Change) → ascends nat_cmp (keys_of (with_links (with_shown_inode s (inodes_of kept)))) ≡ true → inodes_low h (with_links (with_shown_inode s (inodes_of kept))) ≡ true
        → (ascends nat_cmp (keys_of (with_links (inodes_of kept))) ≡ true → inodes_low h (with_links (inodes_of kept)) ≡ true → apply (no_files h) (reverse (set_inodes kept)) ≡ record { inodes = with_links (inodes_of kept); blocks = []; entries = []; highest = h })
        → apply (no_files h) (reverse (with_set_inode s (set_inodes kept))) ≡ record { inodes = with_links (with_shown_inode s (inodes_of kept)); blocks = []; entries = []; highest = h }
    by (Some (SetInode ino inode)) a n more =
        let set = SetInode ino (with_a_link inode) in
        let rest = with_links (inodes_of kept) in
        let low = and_parts (nat_le ino h) (inodes_low h rest) n in
        reversed_fold applied (no_files h) set (set_inodes kept) ∙ ap (λ (t : Tree). applied t set) (more (tail_ascends nat_cmp rest (ino, with_a_link inode) a) low.1)
        ∙ inode_first h rest ino (with_a_link inode) a low.0
    by None a n more = more a n
    by (Some (SetBlock ino number bytes)) a n more = more a n
    by (Some (SetEntry e)) a n more = more a n
    by (Some (DropEntry dir name)) a n more = more a n
    by (Some (CutBlocks ino old_size new_size)) a n more = more a n
    by (Some (DropInode ino)) a n more = more a n

-- ---- blocks and names
abbrev pub has : Inodes → (ℕ × ℕ) × List ℕ → Bool
has inodes b = is_some (lookup (is_at (nat_cmp b.0.0)) inodes)

abbrev pub blocks_low : ℕ → Blocks → Bool
blocks_low h blocks = list_all (λ (e : (ℕ × ℕ) × List ℕ). nat_le e.0.0 h) blocks

abbrev pub entries_low : ℕ → Entries → Bool
entries_low h entries = list_all (λ (e : (ℕ × List ℕ) × Entry). nat_le e.0.0 h) entries

-- these inodes, with blocks and names
abbrev pub with_others : Inodes → ℕ → Blocks → Entries → Tree
with_others inodes h blocks entries = record { inodes = inodes; blocks = filter (has inodes) blocks; entries = entries; highest = h }

block_first : (inodes : Inodes) (h : ℕ) (rest : Blocks) (entries : Entries) (ino number : ℕ) (bytes : List ℕ) → ascends pair_cmp (keys_of (((ino, number), bytes) ∷ rest)) ≡ true → nat_le ino h ≡ true
    → applied (with_others inodes h rest entries) (SetBlock ino number bytes) ≡ with_others inodes h (((ino, number), bytes) ∷ rest) entries
block_first inodes h rest entries ino number bytes a n = by (is_some (lookup (is_at (nat_cmp ino)) inodes))
  where
    left : Blocks
    left = filter (has inodes) rest

    put : insert_entry pair_cmp left (ino, number) bytes ≡ ((ino, number), bytes) ∷ left
    put =
        let below : (ℕ × ℕ) × List ℕ → Bool = λ f. is_lt (pair_cmp (ino, number) f.0) in
        put_first pair_cmp left (ino, number) bytes (all_filter below (has inodes) rest (below_rest pair_cmp pairs rest ((ino, number), bytes) a))

    top : max h ino ≡ h
    top = max-eq_left {n = h} {m = ino} (leb-true ino h n)

    made : Bool → Tree
    made b = if b then record { inodes = inodes; blocks = insert_entry pair_cmp left (ino, number) bytes; entries = entries; highest = h } else record { inodes = inodes; blocks = left; entries = entries; highest = h }

    by : (b : Bool) → record (made b) { highest = max h ino } ≡ record { inodes = inodes; blocks = cond b (((ino, number), bytes) ∷ left) left; entries = entries; highest = h }
    by true = λ i. record { inodes = inodes; blocks = put i; entries = entries; highest = top i }
    by false = λ i. record { inodes = inodes; blocks = left; entries = entries; highest = top i }

-- where a name stands among others, its directory is low, and so are theirs
entry_low : (h : ℕ) (es : Entries) (k : ℕ × List ℕ) (v : Entry) → entries_low h (insert_entry name_cmp es k v) ≡ true → (nat_le k.0 h ≡ true) × (entries_low h es ≡ true)
entry_low h [] k v l = ((and_parts (nat_le k.0 h) true l).0, refl)
entry_low h (e ∷ es) k v l = by (name_cmp k e.0) refl (entry_low h es k v) l
  where
    by : (o : Ordering) → name_cmp k e.0 ≡ o → (entries_low h (insert_entry name_cmp es k v) ≡ true → (nat_le k.0 h ≡ true) × (entries_low h es ≡ true))
        → entries_low h (match_ordering o ((k, v) ∷ e ∷ es) ((e.0, v) ∷ es) (e ∷ insert_entry name_cmp es k v)) ≡ true → (nat_le k.0 h ≡ true) × (entries_low h (e ∷ es) ≡ true)
    by Less x more m = and_parts (nat_le k.0 h) (entries_low h (e ∷ es)) m
    by Equal x more m =
        let same : k ≡ e.0 = named.exact k e.0 x in
        let p = and_parts (nat_le e.0.0 h) (entries_low h es) m in
        (subst (λ (q : ℕ × List ℕ). nat_le q.0 h ≡ true) (sym same) p.0, m)
    by Greater x more m =
        let p = and_parts (nat_le e.0.0 h) (entries_low h (insert_entry name_cmp es k v)) m in
        let q = more p.1 in
        (q.0, and_from (nat_le e.0.0 h) (entries_low h es) p.0 q.1)

entry_set : (inodes : Inodes) (h : ℕ) (blocks : Blocks) (entries : Entries) (e : Entry) → nat_le e.dir h ≡ true
    → applied (with_others inodes h blocks entries) (SetEntry e) ≡ with_others inodes h blocks (insert_entry name_cmp entries (e.dir, e.name) e)
entry_set inodes h blocks entries e n =
    let top : max h e.dir ≡ h = max-eq_left {n = h} {m = e.dir} (leb-true e.dir h n) in
    λ i. record { inodes = inodes; blocks = filter (has inodes) blocks; entries = insert_entry name_cmp entries (e.dir, e.name) e; highest = top i }

-- what is asked of blocks and names
pub record AreLow (h : ℕ) (bs : Blocks) (es : Entries) : Type 0 where
  pub ascend : ascends pair_cmp (keys_of bs) ≡ true
  pub blocks : blocks_low h bs ≡ true
  pub entries : entries_low h es ≡ true

pub others_made : (inodes : Inodes) (h : ℕ) (kept : List Kept) → AreLow h (blocks_shown_by kept) (entries_of kept)
    → apply (with_others inodes h [] []) (reverse (set_others kept)) ≡ with_others inodes h (blocks_shown_by kept) (entries_of kept)
others_made inodes h [] l = refl
others_made inodes h (x ∷ kept) l = by (shown_by x) l (others_made inodes h kept)
  where
    start : Tree
    start = with_others inodes h [] []

    by : (s : Option Change) → AreLow h (with_shown_block s (blocks_shown_by kept)) (with_entry s (entries_of kept))
        → (AreLow h (blocks_shown_by kept) (entries_of kept) → apply start (reverse (set_others kept)) ≡ with_others inodes h (blocks_shown_by kept) (entries_of kept))
        → apply start (reverse (with_set_other s (set_others kept))) ≡ with_others inodes h (with_shown_block s (blocks_shown_by kept)) (with_entry s (entries_of kept))
    by (Some (SetBlock ino number bytes)) l more =
        let set = SetBlock ino number bytes in
        let low = and_parts (nat_le ino h) (blocks_low h (blocks_shown_by kept)) l.blocks in
        reversed_fold applied start set (set_others kept)
        ∙ ap (λ (t : Tree). applied t set) (more (record { ascend = tail_ascends pair_cmp (blocks_shown_by kept) ((ino, number), bytes) l.ascend; blocks = low.1; entries = l.entries }))
        ∙ block_first inodes h (blocks_shown_by kept) (entries_of kept) ino number bytes l.ascend low.0
    by (Some (SetEntry e)) l more =
        let low = entry_low h (entries_of kept) (e.dir, e.name) e l.entries in
        reversed_fold applied start (SetEntry e) (set_others kept) ∙ ap (λ (t : Tree). applied t (SetEntry e)) (more (record { ascend = l.ascend; blocks = l.blocks; entries = low.1 }))
        ∙ entry_set inodes h (blocks_shown_by kept) (entries_of kept) e low.0
    by None l more = more l
    by (Some (SetInode ino inode)) l more = more l
    by (Some (DropEntry dir name)) l more = more l
    by (Some (CutBlocks ino old_size new_size)) l more = more l
    by (Some (DropInode ino)) l more = more l

-- ---- all of it
entries_numbered : (h : ℕ) (entries : Entries) → list_all (λ (e : (ℕ × List ℕ) × Entry). nat_le e.0.0 h && nat_le e.1.ino h) entries ≡ true → entries_low h entries ≡ true
entries_numbered h entries l =
    let both : (ℕ × List ℕ) × Entry → Bool = λ e. nat_le e.0.0 h && nat_le e.1.ino h in
    let one : (ℕ × List ℕ) × Entry → Bool = λ e. nat_le e.0.0 h in
    all_weaken both one (λ e p. (and_parts (nat_le e.0.0 h) (nat_le e.1.ino h) p).0) entries l

pub files_made : (kept : List Kept) (h : ℕ) → IsProper (record (tree_of kept h) { inodes = with_links (inodes_of kept) })
    → apply (apply (no_files h) (reverse (set_inodes kept))) (reverse (set_others kept)) ≡ without_lone_blocks (record (tree_of kept h) { inodes = with_links (inodes_of kept) })
files_made kept h proper =
    let inodes = with_links (inodes_of kept) in
    let numbered : Bool = list_all (λ (e : (ℕ × List ℕ) × Entry). nat_le e.0.0 h && nat_le e.1.ino h) (entries_of kept) in
    let p = and_parts (inodes_low h inodes && blocks_low h (blocks_shown_by kept)) numbered proper.numbers in
    let q = and_parts (inodes_low h inodes) (blocks_low h (blocks_shown_by kept)) p.0 in
    ap (λ (t : Tree). apply t (reverse (set_others kept))) (inodes_made h kept proper.inodes_ascend q.0)
    ∙ others_made inodes h kept (record { ascend = proper.blocks_ascend; blocks = q.1; entries = entries_numbered h (entries_of kept) p.1 })

-- the tree that was made of the changes that set what leaves show
pub files_are : (kept : List Kept) (h n : ℕ) (inodes others : List Change) (tree : Tree) → IsProper (record (tree_of kept h) { inodes = with_links (inodes_of kept) }) → n ≡ h → inodes ≡ set_inodes kept → others ≡ set_others kept
    → tree ≡ apply (apply (no_files n) (reverse inodes)) (reverse others) → tree ≡ without_lone_blocks (record (tree_of kept h) { inodes = with_links (inodes_of kept) })
files_are kept h n inodes others tree proper a b c made =
    let same : apply (apply (no_files n) (reverse inodes)) (reverse others) ≡ apply (apply (no_files h) (reverse (set_inodes kept))) (reverse (set_others kept)) = λ i. apply (apply (no_files (a i)) (reverse (b i))) (reverse (c i)) in
    made ∙ same ∙ files_made kept h proper
