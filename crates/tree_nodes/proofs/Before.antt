-- The changes that live nodes carry stand in order of key, and no two of them set the same.
use Rattle.std.proofs.Common.{◌≡◌, ◌⊎◌, ◌++◌, ◌+◌, ◌*◌, ◌^◌, ◌<◌, ◌≤◌, ℕ, Bool, true, false, cond, List, [], ◌∷◌, map, refl, sym, ap, subst, ◌∙◌, arith, inl, inr, Some}
use Rattle.std.specs.Prelude.{⊤, ◌==◌, filter, fold}
use Rattle.std.specs.BTreeMap.{insert_entry}
use Rattle.std.specs.Cmp.Lexicographic.{slice_cmp}
use Rattle.std.specs.List.{AllByRecursion, list_all}
use Rattle.std.specs.Map.{keys_of, values_of}
use Rattle.std.specs.Ordering.{is_lt, match_ordering, nat_cmp, ordering_then}
use Rattle.std.specs.declared.cmp.Ordering.{Ordering}
use Rattle.std.specs.declared.cmp.Ordering.TheVariants.{Less, Equal, Greater}
use Rattle.std.proofs.lemmas.Bool.{false≢true, and_left, and_right, and_parts, eqb-true, false_from_ne_true}
use Rattle.std.proofs.lemmas.Bool.Decides.{nat_tests}
use Rattle.std.proofs.lemmas.Map.Lookups.{exact_unsigned}
use Rattle.ubifs_base.specs.R5.{r5_of}
use Rattle.fs_model.specs.declared.change.Change.{Change}
use Rattle.fs_model.specs.declared.change.Change.TheVariants.{SetInode, SetEntry, SetBlock}
use Rattle.fs_model.specs.declared.inode.Entry.{Entry}
use Rattle.fs_model.specs.declared.inode.Inode.{Inode}
use Rattle.fs_model.specs.Directory.{by_hash, entries_in}
use Rattle.fs_model.specs.Files.{Blocks, Inodes, Tree, name_cmp, pair_cmp}
use Rattle.fs_model.specs.Path.{is_same_name}
use Rattle.fs_model.specs.Proper.{ascends, is_block_node}
use Rattle.fs_laws.specs.Maps.{below_rest, filter_ascends, insert_ascends, tail_ascends}
use Rattle.fs_laws.specs.Orders.{named, numbers, pairs}
use Rattle.group_nodes.specs.FitLaws.{r5_small}
use Rattle.leaf_map.specs.After.{goes}
use Rattle.tree_nodes.specs.Stored.{as_stored, hash_and_name}
use Rattle.tree_nodes.proofs.Changes.{all_append, all_by_hash, changes_from, changes_of, name_is, set_block}

-- the place of what a change sets in the order of keys
abbrev pub place_of : Change → ℕ
place_of (SetInode ino inode) = ino * 2 ^ 33
place_of (SetBlock ino number bytes) = ino * 2 ^ 33 + (2 ^ 29 + number)
place_of (SetEntry e) = e.dir * 2 ^ 33 + (2 ^ 30 + r5_of e.name)
place_of other = 0

-- one change sets nothing behind what another sets, and not the same
pub record IsBefore (c d : Change) : Type 0 where
  pub place : place_of c ≤ place_of d
  pub apart : goes c (Some d) ≡ false

-- each is before all behind it
abbrev pub AreBefore : List Change → Type 0
AreBefore [] = ⊤
AreBefore (c ∷ cs) = AllByRecursion (IsBefore c) cs × AreBefore cs

-- a change sets an inode, a block of it or an entry in it
abbrev pub IsOf : ℕ → Change → Type 0
IsOf ino (SetInode n inode) = n ≡ ino
IsOf ino (SetBlock n number bytes) = (n ≡ ino) × (number < 2 ^ 29)
IsOf ino (SetEntry e) = e.dir ≡ ino
IsOf ino other = ⊥

-- of some inode above this number
pub record IsAbove (low : ℕ) (c : Change) : Type 0 where
  pub ino : ℕ
  pub above : low < ino
  pub is : IsOf ino c

-- ---- what is of a lower inode is before
differs : (n m : ℕ) → n < m → (m == n) ≡ false
differs n m l = grind (arith, nat_tests)

apart_across : (a b : ℕ) → a < b → (c d : Change) → IsOf a c → IsOf b d → goes c (Some d) ≡ false
apart_across a b l (SetInode n x) (SetInode m y) h g = differs n m (omega (arith, l, h, g))
apart_across a b l (SetInode n x) d h g = refl
apart_across a b l (SetBlock n k x) (SetBlock m j y) h g = let p = h.0 in let q = g.0 in and_left (m == n) (j == k) (differs n m (omega (arith, l, p, q)))
apart_across a b l (SetBlock n k x) d h g = refl
apart_across a b l (SetEntry e) (SetEntry f) h g = and_left (f.dir == e.dir) (is_same_name f.name e.name) (differs e.dir f.dir (omega (arith, l, h, g)))
apart_across a b l (SetEntry e) d h g = refl
apart_across a b l c d h g = absurd h

most : (a : ℕ) (c : Change) → IsOf a c → place_of c < a * 2 ^ 33 + 2 ^ 33
most a (SetInode n x) h = omega (arith, h)
most a (SetBlock n k x) h = let p = h.0 in let q = h.1 in omega (arith, p, q)
most a (SetEntry e) h = let p = r5_small e.name in omega (arith, p, h)
most a c h = absurd h

least : (b : ℕ) (d : Change) → IsOf b d → b * 2 ^ 33 ≤ place_of d
least b (SetInode n x) h = omega (arith, h)
least b (SetBlock n k x) h = let p = h.0 in omega (arith, p)
least b (SetEntry e) h = omega (arith, h)
least b d h = absurd h

across : (a : ℕ) (c d : Change) → IsOf a c → IsAbove a d → IsBefore c d
across a c d h g =
    let l = g.above in
    let p = most a c h in
    let q = least g.ino d g.is in
    record { place = omega (arith, l, p, q); apart = apart_across a g.ino l c d h g.is }

all_across : (a : ℕ) (c : Change) (ds : List Change) → IsOf a c → AllByRecursion (IsAbove a) ds → AllByRecursion (IsBefore c) ds
all_across a c [] h g = tt
all_across a c (d ∷ ds) h g = (across a c d h g.0, all_across a c ds h g.1)

-- lists one behind another
join : (xs ys : List Change) → AreBefore xs → AreBefore ys → AllByRecursion (λ x. AllByRecursion (IsBefore x) ys) xs → AreBefore (xs ++ ys)
join [] ys h g all = g
join (x ∷ xs) ys h g all = (all_append (IsBefore x) xs ys h.0 all.0, join xs ys h.1 g all.1)

-- ---- the blocks of an inode
less_than : (a b : ℕ) → is_lt (nat_cmp a b) ≡ true → a < b
less_than a b h = grind (arith, nat_tests)

-- one of two pairs is less: by its first number, or by the second
pub pair_less : {X : Type 0} (cmp : X → X → Ordering) (p q : ℕ × X) → is_lt (ordering_then (nat_cmp p.0 q.0) (cmp p.1 q.1)) ≡ true → (p.0 < q.0) ⊎ ((p.0 ≡ q.0) × (is_lt (cmp p.1 q.1) ≡ true))
pair_less cmp p q h = by (nat_cmp p.0 q.0) refl h
  where
    by : (o : Ordering) → nat_cmp p.0 q.0 ≡ o → is_lt (ordering_then o (cmp p.1 q.1)) ≡ true → (p.0 < q.0) ⊎ ((p.0 ≡ q.0) × (is_lt (cmp p.1 q.1) ≡ true))
    by Less e t = inl (less_than p.0 q.0 (ap is_lt e))
    by Equal e t = inr (exact_unsigned p.0 q.0 e, t)
    by Greater e t = absurd (false≢true t)

abbrev IsBlockOf : ℕ → (ℕ × ℕ) × List ℕ → Type 0
IsBlockOf ino b = (b.0.0 ≡ ino) × (b.0.1 < 2 ^ 29)

block_before : (ino : ℕ) (b f : (ℕ × ℕ) × List ℕ) → IsBlockOf ino b → IsBlockOf ino f → is_lt (pair_cmp b.0 f.0) ≡ true → IsBefore (set_block b) (set_block f)
block_before ino b f h g l =
    let p = h.0 in
    let q = g.0 in
    let less : b.0.1 < f.0.1 = elim (pair_less nat_cmp b.0 f.0 l) [
      | inl first ↦ absurd (omega (arith, p, q, first))
      | inr second ↦ less_than b.0.1 f.0.1 second.1
    ] in
    record { place = omega (arith, p, q, less); apart = and_right (f.0.0 == b.0.0) (f.0.1 == b.0.1) (differs b.0.1 f.0.1 less) }

blocks_behind : (ino : ℕ) (b : (ℕ × ℕ) × List ℕ) (bs : Blocks) → IsBlockOf ino b → AllByRecursion (IsBlockOf ino) bs → list_all (λ f. is_lt (pair_cmp b.0 f.0)) bs ≡ true → AllByRecursion (IsBefore (set_block b)) (map set_block bs)
blocks_behind ino b [] h all l = tt
blocks_behind ino b (f ∷ bs) h all l =
    let parts = and_parts (is_lt (pair_cmp b.0 f.0)) (list_all (λ f. is_lt (pair_cmp b.0 f.0)) bs) l in
    (block_before ino b f h all.0 parts.0, blocks_behind ino b bs h all.1 parts.1)

blocks_before : (ino : ℕ) (bs : Blocks) → AllByRecursion (IsBlockOf ino) bs → ascends pair_cmp (keys_of bs) ≡ true → AreBefore (map set_block bs)
blocks_before ino [] all h = tt
blocks_before ino (b ∷ bs) all h = (blocks_behind ino b bs all.0 all.1 (below_rest pair_cmp pairs bs b h), blocks_before ino bs all.1 (tail_ascends pair_cmp bs b h))

small_block : (b : (ℕ × ℕ) × List ℕ) → is_block_node b ≡ true → b.0.1 < 2 ^ 29
small_block b h = grind (arith, nat_tests)

blocks_of : (ino : ℕ) (bs : Blocks) → list_all is_block_node bs ≡ true → AllByRecursion (IsBlockOf ino) (filter (λ stored. stored.0.0 == ino) bs)
blocks_of ino [] h = tt
blocks_of ino (b ∷ bs) h = by (b.0.0 == ino) refl (blocks_of ino bs parts.1)
  where
    parts : (is_block_node b ≡ true) × (list_all is_block_node bs ≡ true)
    parts = and_parts (is_block_node b) (list_all is_block_node bs) h

    by : (t : Bool) → (b.0.0 == ino) ≡ t → AllByRecursion (IsBlockOf ino) (filter (λ stored. stored.0.0 == ino) bs)
        → AllByRecursion (IsBlockOf ino) (cond t (b ∷ filter (λ stored. stored.0.0 == ino) bs) (filter (λ stored. stored.0.0 == ino) bs))
    by true e more = ((eqb-true b.0.0 ino e, small_block b parts.0), more)
    by false e more = more

-- ---- the entries of a directory

-- a row has the hash and the name of its entry, which stands in this directory
abbrev pub IsRowOf : ℕ → (ℕ × List ℕ) × Entry → Type 0
IsRowOf dir r = (r.0 ≡ hash_and_name r.1) × (r.1.dir ≡ dir)

row_before : (dir : ℕ) (r f : (ℕ × List ℕ) × Entry) → IsRowOf dir r → IsRowOf dir f → is_lt (name_cmp r.0 f.0) ≡ true → IsBefore (SetEntry r.1) (SetEntry f.1)
row_before dir r f h g l =
    let p = h.1 in
    let q = g.1 in
    let less : is_lt (name_cmp (hash_and_name r.1) (hash_and_name f.1)) ≡ true = subst (λ k. is_lt (name_cmp (hash_and_name r.1) k) ≡ true) g.0 (subst (λ k. is_lt (name_cmp k f.0) ≡ true) h.0 l) in
    let hashes : r5_of r.1.name ≤ r5_of f.1.name = elim (pair_less (slice_cmp nat_cmp) (hash_and_name r.1) (hash_and_name f.1) less) [
      | inl first ↦ omega (arith, first)
      | inr second ↦ let s = second.0 in omega (arith, s)
    ] in
    record {
      place = omega (arith, p, q, hashes);
      apart = and_right (f.1.dir == r.1.dir) (is_same_name f.1.name r.1.name) (false_from_ne_true (is_same_name f.1.name r.1.name) (λ same. one less (name_is f.1.name r.1.name same)));
    }
  where
    one : is_lt (name_cmp (hash_and_name r.1) (hash_and_name f.1)) ≡ true → f.1.name ≡ r.1.name → ⊥
    one less same =
        let it : is_lt (name_cmp (hash_and_name r.1) (hash_and_name r.1)) ≡ true = subst (λ (name : List ℕ). is_lt (name_cmp (hash_and_name r.1) (r5_of name, name)) ≡ true) same less in
        let equal = named.same (hash_and_name r.1) in
        false≢true (sym (ap is_lt equal) ∙ it)

rows_behind : (dir : ℕ) (r : (ℕ × List ℕ) × Entry) (rows : List ((ℕ × List ℕ) × Entry)) → IsRowOf dir r → AllByRecursion (IsRowOf dir) rows → list_all (λ f. is_lt (name_cmp r.0 f.0)) rows ≡ true → AllByRecursion (IsBefore (SetEntry r.1)) (map SetEntry (values_of rows))
rows_behind dir r [] h all l = tt
rows_behind dir r (f ∷ rows) h all l =
    let parts = and_parts (is_lt (name_cmp r.0 f.0)) (list_all (λ f. is_lt (name_cmp r.0 f.0)) rows) l in
    (row_before dir r f h all.0 parts.0, rows_behind dir r rows h all.1 parts.1)

rows_before : (dir : ℕ) (rows : List ((ℕ × List ℕ) × Entry)) → AllByRecursion (IsRowOf dir) rows → ascends name_cmp (keys_of rows) ≡ true → AreBefore (map SetEntry (values_of rows))
rows_before dir [] all h = tt
rows_before dir (r ∷ rows) all h = (rows_behind dir r rows all.0 all.1 (below_rest name_cmp named rows r h), rows_before dir rows all.1 (tail_ascends name_cmp rows r h))

pub insert_rows : (dir : ℕ) (rows : List ((ℕ × List ℕ) × Entry)) (e : Entry) → AllByRecursion (IsRowOf dir) rows → e.dir ≡ dir → AllByRecursion (IsRowOf dir) (insert_entry name_cmp rows (hash_and_name e) e)
insert_rows dir [] e all d = ((refl, d), tt)
insert_rows dir (r ∷ rows) e all d = by (insert_rows dir rows e all.1 d) (name_cmp (hash_and_name e) r.0) refl
  where
    by : AllByRecursion (IsRowOf dir) (insert_entry name_cmp rows (hash_and_name e) e) → (o : Ordering) → name_cmp (hash_and_name e) r.0 ≡ o
        → AllByRecursion (IsRowOf dir) (match_ordering o ((hash_and_name e, e) ∷ r ∷ rows) ((r.0, e) ∷ rows) (r ∷ insert_entry name_cmp rows (hash_and_name e) e))
    by more Less x = ((refl, d), all)
    by more Equal x = ((sym (named.exact (hash_and_name e) r.0 x), d), all.1)
    by more Greater x = (all.0, more)

-- entries in order of hash and name
abbrev pub sorted_rows : List ((ℕ × List ℕ) × Entry) → List Entry → List ((ℕ × List ℕ) × Entry)
sorted_rows rows entries = fold (λ sorted e. insert_entry name_cmp sorted (r5_of e.name, e.name) e) rows entries

pub sorted_are : (dir : ℕ) (rows : List ((ℕ × List ℕ) × Entry)) (entries : List Entry) → AllByRecursion (IsRowOf dir) rows → AllByRecursion (λ (e : Entry). e.dir ≡ dir) entries → AllByRecursion (IsRowOf dir) (sorted_rows rows entries)
sorted_are dir rows [] h all = h
sorted_are dir rows (e ∷ entries) h all = sorted_are dir (insert_entry name_cmp rows (hash_and_name e) e) entries (insert_rows dir rows e h all.0) all.1

pub sorted_ascend : (rows : List ((ℕ × List ℕ) × Entry)) (entries : List Entry) → ascends name_cmp (keys_of rows) ≡ true → ascends name_cmp (keys_of (sorted_rows rows entries)) ≡ true
sorted_ascend rows [] h = h
sorted_ascend rows (e ∷ entries) h = sorted_ascend (insert_entry name_cmp rows (hash_and_name e) e) entries (insert_ascends name_cmp named rows (hash_and_name e) e h)

pub all_in : (dir : ℕ) (es : List Entry) → AllByRecursion (λ (e : Entry). e.dir ≡ dir) (filter (λ e. e.dir == dir) es)
all_in dir [] = tt
all_in dir (e ∷ es) = by (e.dir == dir) refl (all_in dir es)
  where
    by : (t : Bool) → (e.dir == dir) ≡ t → AllByRecursion (λ (e : Entry). e.dir ≡ dir) (filter (λ e. e.dir == dir) es) → AllByRecursion (λ (e : Entry). e.dir ≡ dir) (cond t (e ∷ filter (λ e. e.dir == dir) es) (filter (λ e. e.dir == dir) es))
    by true x more = (eqb-true e.dir dir x, more)
    by false x more = more

-- ---- an inode with all that is of it
first_blocks : (ino : ℕ) (i : Inode) (bs : Blocks) → AllByRecursion (IsBlockOf ino) bs → AllByRecursion (IsBefore (SetInode ino i)) (map set_block bs)
first_blocks ino i [] h = tt
first_blocks ino i (b ∷ bs) h = let p = h.0.0 in (record { place = omega (arith, p); apart = refl }, first_blocks ino i bs h.1)

first_entries : (ino : ℕ) (i : Inode) (es : List Entry) → AllByRecursion (λ (e : Entry). e.dir ≡ ino) es → AllByRecursion (IsBefore (SetInode ino i)) (map SetEntry es)
first_entries ino i [] h = tt
first_entries ino i (e ∷ es) h = let p = h.0 in (record { place = omega (arith, p); apart = refl }, first_entries ino i es h.1)

block_entries : (ino : ℕ) (b : (ℕ × ℕ) × List ℕ) (es : List Entry) → IsBlockOf ino b → AllByRecursion (λ (e : Entry). e.dir ≡ ino) es → AllByRecursion (IsBefore (set_block b)) (map SetEntry es)
block_entries ino b [] g h = tt
block_entries ino b (e ∷ es) g h = let p = h.0 in let q = g.0 in let r = g.1 in (record { place = omega (arith, p, q, r); apart = refl }, block_entries ino b es g h.1)

blocks_entries : (ino : ℕ) (bs : Blocks) (es : List Entry) → AllByRecursion (IsBlockOf ino) bs → AllByRecursion (λ (e : Entry). e.dir ≡ ino) es → AllByRecursion (λ x. AllByRecursion (IsBefore x) (map SetEntry es)) (map set_block bs)
blocks_entries ino [] es g h = tt
blocks_entries ino (b ∷ bs) es g h = (block_entries ino b es g.0 h, blocks_entries ino bs es g.1 h)

blocks_is : (ino : ℕ) (bs : Blocks) → AllByRecursion (IsBlockOf ino) bs → AllByRecursion (IsOf ino) (map set_block bs)
blocks_is ino [] h = tt
blocks_is ino (b ∷ bs) h = (h.0, blocks_is ino bs h.1)

entries_is : (ino : ℕ) (es : List Entry) → AllByRecursion (λ (e : Entry). e.dir ≡ ino) es → AllByRecursion (IsOf ino) (map SetEntry es)
entries_is ino [] h = tt
entries_is ino (e ∷ es) h = (h.0, entries_is ino es h.1)

-- of which tree
module _ (tree : Tree) (blocks : list_all is_block_node tree.blocks ≡ true) (up : ascends pair_cmp (keys_of tree.blocks) ≡ true) where
  dirs_are : (ino : ℕ) → AllByRecursion (λ (e : Entry). e.dir ≡ ino) (by_hash (entries_in tree ino))
  dirs_are ino = all_by_hash (λ (e : Entry). e.dir ≡ ino) (entries_in tree ino) (all_in ino (values_of tree.entries))

  pub each_is : (e : ℕ × Inode) → AllByRecursion (IsOf e.0) (changes_of tree e)
  each_is e = (
    refl,
    all_append (IsOf e.0) (map set_block (filter (λ stored. stored.0.0 == e.0) tree.blocks)) (map SetEntry (by_hash (entries_in tree e.0)))
        (blocks_is e.0 (filter (λ stored. stored.0.0 == e.0) tree.blocks) (blocks_of e.0 tree.blocks blocks)) (entries_is e.0 (by_hash (entries_in tree e.0)) (dirs_are e.0)),
  )

  one_before : (e : ℕ × Inode) → AreBefore (changes_of tree e)
  one_before e =
      let bs = filter (λ (stored : (ℕ × ℕ) × List ℕ). stored.0.0 == e.0) tree.blocks in
      let es = by_hash (entries_in tree e.0) in
      let are = blocks_of e.0 tree.blocks blocks in
      let rows = sorted_are e.0 [] (entries_in tree e.0) tt (all_in e.0 (values_of tree.entries)) in (
        all_append (IsBefore (SetInode e.0 (as_stored tree e).1)) (map set_block bs) (map SetEntry es) (first_blocks e.0 (as_stored tree e).1 bs are) (first_entries e.0 (as_stored tree e).1 es (dirs_are e.0)),
        join (map set_block bs) (map SetEntry es) (blocks_before e.0 bs are (filter_ascends pair_cmp pairs (λ stored. stored.0.0 == e.0) tree.blocks up))
            (rows_before e.0 (sorted_rows [] (entries_in tree e.0)) rows (sorted_ascend [] (entries_in tree e.0) refl))
            (blocks_entries e.0 bs es are (dirs_are e.0)),
      )

  above_one : (low ino : ℕ) → low < ino → (cs : List Change) → AllByRecursion (IsOf ino) cs → AllByRecursion (IsAbove low) cs
  above_one low ino l [] h = tt
  above_one low ino l (c ∷ cs) h = (record { ino = ino; above = l; is = h.0 }, above_one low ino l cs h.1)

  pub above_all : (low : ℕ) (inodes : Inodes) → list_all (λ f. is_lt (nat_cmp low f.0)) inodes ≡ true → AllByRecursion (IsAbove low) (changes_from tree inodes)
  above_all low [] h = tt
  above_all low (e ∷ inodes) h =
      let parts = and_parts (is_lt (nat_cmp low e.0)) (list_all (λ f. is_lt (nat_cmp low f.0)) inodes) h in
      all_append (IsAbove low) (changes_of tree e) (changes_from tree inodes) (above_one low e.0 (less_than low e.0 parts.0) (changes_of tree e) (each_is e)) (above_all low inodes parts.1)

  each_before : (ino : ℕ) (cs ds : List Change) → AllByRecursion (IsOf ino) cs → AllByRecursion (IsAbove ino) ds → AllByRecursion (λ x. AllByRecursion (IsBefore x) ds) cs
  each_before ino [] ds h g = tt
  each_before ino (c ∷ cs) ds h g = (all_across ino c ds h.0 g, each_before ino cs ds h.1 g)

  pub all_before : (inodes : Inodes) → ascends nat_cmp (keys_of inodes) ≡ true → AreBefore (changes_from tree inodes)
  all_before [] h = tt
  all_before (e ∷ inodes) h =
      join (changes_of tree e) (changes_from tree inodes) (one_before e) (all_before inodes (tail_ascends nat_cmp inodes e h))
      (each_before e.0 (changes_of tree e) (changes_from tree inodes) (each_is e) (above_all e.0 inodes (below_rest nat_cmp numbers inodes e h)))

  -- each is of some inode
  pub all_of : (inodes : Inodes) → AllByRecursion (λ c. (ino : ℕ) × IsOf ino c) (changes_from tree inodes)
  all_of [] = tt
  all_of (e ∷ inodes) = all_append (λ c. (ino : ℕ) × IsOf ino c) (changes_of tree e) (changes_from tree inodes) (some (changes_of tree e) (each_is e)) (all_of inodes)
    where
      some : (cs : List Change) → AllByRecursion (IsOf e.0) cs → AllByRecursion (λ c. (ino : ℕ) × IsOf ino c) cs
      some [] h = tt
      some (c ∷ cs) h = ((e.0, h.0), some cs h.1)
