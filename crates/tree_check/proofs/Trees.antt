-- The tree that leaves show, as it is told of them.
use Rattle.std.proofs.Common.{◌≡◌, ℕ, zero, suc, ◌+◌, Bool, true, false, List, [], ◌∷◌, Option, Some, None, refl, sym, ap, ◌∙◌, filter, length, arith}
use Rattle.std.specs.Prelude.{◌==◌, ◌||◌, map, cond, count_by, IfSome}
use Rattle.std.specs.BTreeMap.{insert_entry, is_at}
use Rattle.std.specs.List.{list_any}
use Rattle.std.specs.Map.{lookup, values_of}
use Rattle.std.specs.Option.{option_map, option_map_or}
use Rattle.std.specs.Ordering.{match_ordering, nat_cmp}
use Rattle.std.specs.declared.cmp.Ordering.{Ordering}
use Rattle.std.specs.declared.cmp.Ordering.TheVariants.{Less, Equal, Greater}
use Rattle.std.proofs.lemmas.List.Sums.{length-filter}
use Rattle.fs_laws.specs.Orders.{numbers}
use Rattle.fs_model.specs.declared.change.Change.{Change}
use Rattle.fs_model.specs.declared.change.Change.TheVariants.{SetEntry, SetInode, DropInode}
use Rattle.fs_model.specs.declared.inode.Entry.{Entry}
use Rattle.fs_model.specs.declared.inode.Inode.{Inode}
use Rattle.fs_model.specs.declared.inode.Kind.{Kind}
use Rattle.fs_model.specs.Files.{Entries, Inodes, Tree, inode_at, name_cmp}
use Rattle.fs_model.specs.Proper.{climbs, has_kind, names_of, same_kind}
use Rattle.leaf_map.specs.Kept.{Kept, shown_by}
use Rattle.leaf_map.specs.Shown.{entries_of, inodes_of, tree_of, with_entry, with_shown_inode}
use Rattle.tree_check.specs.declared.link.Link.{Link}
use Rattle.tree_check.specs.declared.shown_leaf.Shown.{Shown}
use Rattle.tree_check.specs.declared.shown_leaf.ShownLeaf.{ShownLeaf}
use Rattle.tree_check.specs.Kinds.{inode_count, inodes_shown, kind_shown, with_kind}
use Rattle.tree_check.specs.Links.{LinkMap, count_to, entries_shown, links_shown, with_link}
use Rattle.tree_check.specs.Reach.{reaches}
use Rattle.tree_check.specs.Told.{AreShownBy, shown_told}
use Rattle.tree_check.proofs.TestLaws.{at_swap, told_all}

-- ---- kinds
-- the kind of an inode that was looked up
abbrev kind_found : Option Inode → Option Kind
kind_found o = option_map (λ (i : Inode). i.kind) o

kind_of_one : (es : Inodes) (q : ℕ) (c : Option Change) (s : Shown) → shown_told c ≡ Some s → kind_found (lookup (is_at (nat_cmp q)) (with_shown_inode c es)) ≡ with_kind s q (kind_found (lookup (is_at (nat_cmp q)) es))
kind_of_one es q = told_all (λ c s. kind_found (lookup (is_at (nat_cmp q)) (with_shown_inode c es)) ≡ with_kind s q (kind_found (lookup (is_at (nat_cmp q)) es))) all
  where
    by : (inode : Inode) (a b : Bool) → a ≡ b → kind_found (cond a (Some inode) (lookup (is_at (nat_cmp q)) es)) ≡ cond b (Some inode.kind) (kind_found (lookup (is_at (nat_cmp q)) es))
    by inode true true h = refl
    by inode true false h = absurd cc
    by inode false true h = absurd cc
    by inode false false h = refl

    all : (c : Option Change) → IfSome (shown_told c) (λ s. kind_found (lookup (is_at (nat_cmp q)) (with_shown_inode c es)) ≡ with_kind s q (kind_found (lookup (is_at (nat_cmp q)) es)))
    all (Some (SetInode ino inode)) = by inode (is_at (nat_cmp q) ino) (is_at (nat_cmp ino) q) (at_swap nat_cmp numbers q ino)
    all (Some (DropInode ino)) = tt
    all c = refl

pub kinds_told : (kept : List Kept) (leaves : List ShownLeaf) → AreShownBy kept leaves → (q : ℕ) → kind_found (lookup (is_at (nat_cmp q)) (inodes_of kept)) ≡ kind_shown leaves q
kinds_told [] [] h q = refl
kinds_told [] (leaf ∷ leaves) h q = absurd h
kinds_told (x ∷ kept) [] h q = absurd h
kinds_told (x ∷ kept) (leaf ∷ leaves) h q = kind_of_one (inodes_of kept) q (shown_by x) leaf.shown h.0.shown ∙ ap (with_kind leaf.shown q) (kinds_told kept leaves h.1 q)

count_of_one : (es : Inodes) (c : Option Change) (s : Shown) → shown_told c ≡ Some s → length (with_shown_inode c es) ≡ inode_count s + length es
count_of_one es = told_all (λ c s. length (with_shown_inode c es) ≡ inode_count s + length es) all
  where
    none : length es ≡ 0 + length es
    none = omega arith

    all : (c : Option Change) → IfSome (shown_told c) (λ s. length (with_shown_inode c es) ≡ inode_count s + length es)
    all (Some (SetInode ino inode)) = omega arith
    all (Some (DropInode ino)) = tt
    all c = none

pub inodes_told : (kept : List Kept) (leaves : List ShownLeaf) → AreShownBy kept leaves → length (inodes_of kept) ≡ inodes_shown leaves
inodes_told [] [] h = refl
inodes_told [] (leaf ∷ leaves) h = absurd h
inodes_told (x ∷ kept) [] h = absurd h
inodes_told (x ∷ kept) (leaf ∷ leaves) h = count_of_one (inodes_of kept) (shown_by x) leaf.shown h.0.shown ∙ ap (λ n. inode_count leaf.shown + n) (inodes_told kept leaves h.1)

-- ---- entries
-- what an entry leads to
abbrev pub link_of : Entry → Link
link_of e = record { dir = e.dir; ino = e.ino }

abbrev linked : Entries → LinkMap
linked es = map (λ e. (e.0, link_of e.1)) es

linked_insert : (es : Entries) (k : ℕ × List ℕ) (v : Entry) → linked (insert_entry name_cmp es k v) ≡ insert_entry name_cmp (linked es) k (link_of v)
linked_insert [] k v = refl
linked_insert (e ∷ es) k v = by (linked_insert es k v) (name_cmp k e.0)
  where
    by : linked (insert_entry name_cmp es k v) ≡ insert_entry name_cmp (linked es) k (link_of v) → (o : Ordering)
        → linked (match_ordering o ((k, v) ∷ e ∷ es) ((e.0, v) ∷ es) (e ∷ insert_entry name_cmp es k v)) ≡ match_ordering o ((k, link_of v) ∷ (e.0, link_of e.1) ∷ linked es) ((e.0, link_of v) ∷ linked es) ((e.0, link_of e.1) ∷ insert_entry name_cmp (linked es) k (link_of v))
    by more Less = refl
    by more Equal = refl
    by more Greater = ap (λ (zs : LinkMap). (e.0, link_of e.1) ∷ zs) more

link_of_one : (es : Entries) (c : Option Change) (s : Shown) → shown_told c ≡ Some s → linked (with_entry c es) ≡ with_link s (linked es)
link_of_one es = told_all (λ c s. linked (with_entry c es) ≡ with_link s (linked es)) all
  where
    all : (c : Option Change) → IfSome (shown_told c) (λ s. linked (with_entry c es) ≡ with_link s (linked es))
    all (Some (SetEntry n)) = linked_insert es (n.dir, n.name) n
    all (Some (DropInode ino)) = tt
    all c = refl

entries_told : (kept : List Kept) (leaves : List ShownLeaf) → AreShownBy kept leaves → linked (entries_of kept) ≡ entries_shown leaves
entries_told [] [] h = refl
entries_told [] (leaf ∷ leaves) h = absurd h
entries_told (x ∷ kept) [] h = absurd h
entries_told (x ∷ kept) (leaf ∷ leaves) h = link_of_one (entries_of kept) (shown_by x) leaf.shown h.0.shown ∙ ap (with_link leaf.shown) (entries_told kept leaves h.1)

values_linked : (es : Entries) → values_of (linked es) ≡ map link_of (values_of es)
values_linked [] = refl
values_linked (e ∷ es) = ap (λ (zs : List Link). link_of e.1 ∷ zs) (values_linked es)

pub links_told : (kept : List Kept) (leaves : List ShownLeaf) → AreShownBy kept leaves → map link_of (values_of (entries_of kept)) ≡ links_shown leaves
links_told kept leaves h = sym (values_linked (entries_of kept)) ∙ ap values_of (entries_told kept leaves h)

names_count : (es : List Entry) (q : ℕ) → length (filter (λ e. e.ino == q) es) ≡ length (filter (λ link. link.ino == q) (map link_of es))
names_count [] q = refl
names_count (e ∷ es) q = by (names_count es q) (e.ino == q)
  where
    by : length (filter (λ e. e.ino == q) es) ≡ length (filter (λ link. link.ino == q) (map link_of es)) → (b : Bool)
        → length (cond b (e ∷ filter (λ e. e.ino == q) es) (filter (λ e. e.ino == q) es)) ≡ length (cond b (link_of e ∷ filter (λ link. link.ino == q) (map link_of es)) (filter (λ link. link.ino == q) (map link_of es)))
    by more true = omega (arith, more)
    by more false = more

-- an inode has as many names as entries lead to it
pub names_told : (kept : List Kept) (highest : ℕ) (leaves : List ShownLeaf) → AreShownBy kept leaves → (q : ℕ) → length (names_of (tree_of kept highest) q) ≡ count_to (links_shown leaves) q
names_told kept highest leaves h q =
    names_count (values_of (entries_of kept)) q ∙ length-filter (λ (link : Link). link.ino == q) (map link_of (values_of (entries_of kept)))
    ∙ ap (λ (ls : List Link). count_by (λ link. link.ino == q) ls) (links_told kept leaves h)

climbs_over : (p r : ℕ → Bool) → ((d : ℕ) → p d ≡ r d) → (es : List Entry) (q : ℕ) → list_any (λ (e : Entry). p e.dir) (filter (λ e. e.ino == q) es) ≡ list_any (λ (link : Link). r link.dir) (filter (λ link. link.ino == q) (map link_of es))
climbs_over p r same [] q = refl
climbs_over p r same (e ∷ es) q = by (climbs_over p r same es q) (e.ino == q)
  where
    by : list_any (λ (e : Entry). p e.dir) (filter (λ e. e.ino == q) es) ≡ list_any (λ (link : Link). r link.dir) (filter (λ link. link.ino == q) (map link_of es)) → (b : Bool)
        → list_any (λ (e : Entry). p e.dir) (cond b (e ∷ filter (λ e. e.ino == q) es) (filter (λ e. e.ino == q) es))
        ≡ list_any (λ (link : Link). r link.dir) (cond b (link_of e ∷ filter (λ link. link.ino == q) (map link_of es)) (filter (λ link. link.ino == q) (map link_of es)))
    by more true = rw (same e.dir, more) refl
    by more false = more

climbs_links : (tree : Tree) (n q : ℕ) → climbs tree n q ≡ reaches (map link_of (values_of tree.entries)) n q
climbs_links tree zero q = refl
climbs_links tree (suc n) q = ap (λ b. (q == 1) || b) (climbs_over (climbs tree n) (reaches (map link_of (values_of tree.entries)) n) (climbs_links tree n) (values_of tree.entries) q)

-- steps up lead to the root if steps down reach an inode
pub climbs_told : (kept : List Kept) (highest : ℕ) (leaves : List ShownLeaf) → AreShownBy kept leaves → (n q : ℕ) → climbs (tree_of kept highest) n q ≡ reaches (links_shown leaves) n q
climbs_told kept highest leaves h n q = climbs_links (tree_of kept highest) n q ∙ ap (λ (ls : List Link). reaches ls n q) (links_told kept leaves h)

kind_through : (o : Option Inode) (k : Kind) → option_map_or (λ (i : Inode). same_kind i.kind k) o false ≡ option_map_or (λ kind. same_kind kind k) (option_map (λ (i : Inode). i.kind) o) false
kind_through None k = refl
kind_through (Some i) k = refl

-- the kind of an inode of the tree
pub has_kind_told : (kept : List Kept) (highest : ℕ) (leaves : List ShownLeaf) → AreShownBy kept leaves → (q : ℕ) (k : Kind) → has_kind (tree_of kept highest) q k ≡ option_map_or (λ kind. same_kind kind k) (kind_shown leaves q) false
has_kind_told kept highest leaves h q k = kind_through (inode_at (tree_of kept highest) q) k ∙ ap (λ (o : Option Kind). option_map_or (λ kind. same_kind kind k) o false) (kinds_told kept leaves h q)
