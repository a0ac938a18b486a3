-- Listed inodes without links that go are all that has no name.
use Rattle.std.proofs.Common.{◌≡◌, ◌⊎◌, ℕ, Bool, true, false, cond, not, ◌&&◌, List, [], ◌∷◌, refl, sym, ap, subst, ◌∙◌, inl, inr, Option, Some, None}
use Rattle.std.specs.Prelude.{◌==◌, ◌||◌, filter, fold}
use Rattle.std.specs.BTreeMap.{is_at}
use Rattle.std.specs.List.{list_all, list_any}
use Rattle.std.specs.Map.{lookup}
use Rattle.std.specs.Option.{option_map_or}
use Rattle.std.specs.Ordering.{nat_cmp}
use Rattle.std.proofs.lemmas.Bool.{and_parts}
use Rattle.std.proofs.lemmas.Bool.Decides.{eqb_tells}
use Rattle.fs_model.specs.declared.change.Change.{Change}
use Rattle.fs_model.specs.declared.change.Change.TheVariants.{SetInode, DropInode}
use Rattle.fs_model.specs.declared.inode.Inode.{Inode}
use Rattle.fs_model.specs.Change.{without_blocks, without_inode}
use Rattle.fs_model.specs.Files.{Inodes, Tree, inode_at, name_cmp, pair_cmp}
use Rattle.fs_model.specs.Orphan.{is_nameless, nameless, without_nameless}
use Rattle.fs_model.specs.Proper.{IsInOrder}
use Rattle.fs_laws.specs.Forgotten.{dropped_in_order, forgotten_in_order, found_block, found_inode}
use Rattle.fs_laws.specs.Maps.{apart, removed_here, removed_other}
use Rattle.fs_laws.specs.Orders.{numbers}
use Rattle.leaf_map.specs.After.{goes, is_gone}
use Rattle.leaf_map.specs.Kept.{Kept, shown_by}
use Rattle.leaf_map.specs.LeafMap.{IsLeafMap, are_apart, shows_same}
use Rattle.leaf_map.specs.Recovered.{is_unlinked, without_orphan}
use Rattle.leaf_map.specs.SameLaws.{same_trees}
use Rattle.leaf_map.specs.Shown.{inodes_of, tree_of, with_shown_inode}
use Rattle.leaf_map.proofs.Apart.{filter_map}
use Rattle.leaf_map.proofs.Changes.{drop_inode}
use Rattle.leaf_map.proofs.Drops.{missing_inode}
use Rattle.leaf_map.proofs.Lasts.{found_filter}
use Rattle.leaf_map.proofs.Maps.{equal_is}

-- ---- on trees
-- an inode that has no name goes
abbrev pub forget : Tree → ℕ → Tree
forget tree ino = cond (is_nameless tree ino) (without_inode tree ino) tree

abbrev nothing : Option Inode
nothing = None

forget_inode : (tree : Tree) (ino q : ℕ) → IsInOrder tree → inode_at (forget tree ino) q ≡ cond (is_nameless tree q && (q == ino)) None (inode_at tree q)
forget_inode tree ino q s = elim (eqb_tells q ino) [
  | inl same ↦ rw same.0 (subst (λ k. inode_at (cond (is_nameless tree k) (without_inode tree k) tree) q ≡ cond (is_nameless tree q && true) None (inode_at tree q)) same.1 (here (is_nameless tree q)))
  | inr other ↦ rw other.0 (elsewhere other.1 (is_nameless tree ino) (is_nameless tree q))
]
  where
    here : (b : Bool) → inode_at (cond b (without_inode tree q) tree) q ≡ cond (b && true) nothing (inode_at tree q)
    here true = removed_here nat_cmp numbers tree.inodes q s.inodes
    here false = refl

    elsewhere : (q ≡ ino → ⊥) → (b n : Bool) → inode_at (cond b (without_inode tree ino) tree) q ≡ cond (n && false) nothing (inode_at tree q)
    elsewhere other true true = removed_other nat_cmp numbers tree.inodes ino q other
    elsewhere other true false = removed_other nat_cmp numbers tree.inodes ino q other
    elsewhere other false true = refl
    elsewhere other false false = refl

abbrev no_bytes : Option (List ℕ)
no_bytes = None

forget_block : (tree : Tree) (ino : ℕ) (q : ℕ × ℕ) → lookup (is_at (pair_cmp q)) (forget tree ino).blocks ≡ cond (is_nameless tree q.0 && (q.0 == ino)) None (lookup (is_at (pair_cmp q)) tree.blocks)
forget_block tree ino q = elim (eqb_tells q.0 ino) [
  | inl same ↦ rw same.0 (subst (λ k. lookup (is_at (pair_cmp q)) (cond (is_nameless tree k) (without_inode tree k) tree).blocks ≡ cond (is_nameless tree q.0 && true) None (lookup (is_at (pair_cmp q)) tree.blocks)) same.1 (here (is_nameless tree q.0)))
  | inr other ↦ rw other.0 (elsewhere other.0 (is_nameless tree ino) (is_nameless tree q.0))
]
  where
    found : Option (List ℕ)
    found = lookup (is_at (pair_cmp q)) tree.blocks

    cleared : (ino : ℕ) (b : Bool) → (q.0 == ino) ≡ b → lookup (is_at (pair_cmp q)) (without_blocks tree.blocks ino) ≡ cond (not b) found None
    cleared ino b e = found_filter (λ k. not (k.0 == ino)) tree.blocks q ∙ ap (λ (t : Bool). cond (not t) found None) e

    self : (q.0 == q.0) ≡ true
    self = elim (eqb_tells q.0 q.0) [ inl same ↦ same.0 | inr other ↦ absurd (other.1 refl) ]

    here : (b : Bool) → lookup (is_at (pair_cmp q)) (cond b (without_inode tree q.0) tree).blocks ≡ cond (b && true) no_bytes found
    here true = cleared q.0 true self
    here false = refl

    elsewhere : (q.0 == ino) ≡ false → (b n : Bool) → lookup (is_at (pair_cmp q)) (cond b (without_inode tree ino) tree).blocks ≡ cond (n && false) no_bytes found
    elsewhere other true true = cleared ino false other
    elsewhere other true false = cleared ino false other
    elsewhere other false true = refl
    elsewhere other false false = refl

-- whether an inode that may be there has no link
abbrev pub unlinked : Option Inode → Bool
unlinked found = option_map_or (λ inode. inode.nlink == 0) found false

unlinked_cond : (c : Bool) (x : Option Inode) → unlinked (cond c None x) ≡ cond c false (unlinked x)
unlinked_cond true x = refl
unlinked_cond false x = refl

forget_nameless : (tree : Tree) (ino q : ℕ) → IsInOrder tree → is_nameless (forget tree ino) q ≡ cond (is_nameless tree q && (q == ino)) false (is_nameless tree q)
forget_nameless tree ino q s = ap unlinked (forget_inode tree ino q s) ∙ unlinked_cond (is_nameless tree q && (q == ino)) (inode_at tree q)

forget_sorted : (tree : Tree) (ino : ℕ) → IsInOrder tree → IsInOrder (forget tree ino)
forget_sorted tree ino s = by (is_nameless tree ino)
  where
    by : (b : Bool) → IsInOrder (cond b (without_inode tree ino) tree)
    by true = dropped_in_order tree ino s
    by false = s

-- one that goes and others that go
both : {X : Type 0} (n e a : Bool) (x : Option X) → cond (cond (n && e) false n && a) None (cond (n && e) None x) ≡ cond (n && (e || a)) None x
both true true true x = refl
both true true false x = refl
both true false true x = refl
both true false false x = refl
both false e a x = refl

last : {X : Type 0} (n : Bool) (x : Option X) → x ≡ cond (n && false) None x
last true x = refl
last false x = refl

forgets_inode : (inos : List ℕ) (tree : Tree) (q : ℕ) → IsInOrder tree → inode_at (fold forget tree inos) q ≡ cond (is_nameless tree q && list_any (λ ino. q == ino) inos) None (inode_at tree q)
forgets_inode [] tree q s = last (is_nameless tree q) (inode_at tree q)
forgets_inode (ino ∷ inos) tree q s =
    forgets_inode inos (forget tree ino) q (forget_sorted tree ino s)
    ∙ ap (λ (n : Bool). cond (n && list_any (λ ino. q == ino) inos) None (inode_at (forget tree ino) q)) (forget_nameless tree ino q s)
    ∙ ap (λ (x : Option Inode). cond (cond (is_nameless tree q && (q == ino)) false (is_nameless tree q) && list_any (λ ino. q == ino) inos) None x) (forget_inode tree ino q s)
    ∙ both (is_nameless tree q) (q == ino) (list_any (λ ino. q == ino) inos) (inode_at tree q)

forgets_block : (inos : List ℕ) (tree : Tree) (q : ℕ × ℕ) → IsInOrder tree → lookup (is_at (pair_cmp q)) (fold forget tree inos).blocks ≡ cond (is_nameless tree q.0 && list_any (λ ino. q.0 == ino) inos) None (lookup (is_at (pair_cmp q)) tree.blocks)
forgets_block [] tree q s = last (is_nameless tree q.0) (lookup (is_at (pair_cmp q)) tree.blocks)
forgets_block (ino ∷ inos) tree q s =
    forgets_block inos (forget tree ino) q (forget_sorted tree ino s)
    ∙ ap (λ (n : Bool). cond (n && list_any (λ ino. q.0 == ino) inos) None (lookup (is_at (pair_cmp q)) (forget tree ino).blocks)) (forget_nameless tree ino q.0 s)
    ∙ ap (λ (x : Option (List ℕ)). cond (cond (is_nameless tree q.0 && (q.0 == ino)) false (is_nameless tree q.0) && list_any (λ ino. q.0 == ino) inos) None x) (forget_block tree ino q)
    ∙ both (is_nameless tree q.0) (q.0 == ino) (list_any (λ ino. q.0 == ino) inos) (lookup (is_at (pair_cmp q)) tree.blocks)

-- what stays as it is
record Stays (a b : Tree) : Type 0 where
  entries : a.entries ≡ b.entries
  highest : a.highest ≡ b.highest

forget_stays : (tree : Tree) (ino : ℕ) → Stays (forget tree ino) tree
forget_stays tree ino = by (is_nameless tree ino)
  where
    by : (b : Bool) → Stays (cond b (without_inode tree ino) tree) tree
    by true = record { entries = refl; highest = refl }
    by false = record { entries = refl; highest = refl }

forgets_stays : (inos : List ℕ) (tree : Tree) → Stays (fold forget tree inos) tree
forgets_stays [] tree = record { entries = refl; highest = refl }
forgets_stays (ino ∷ inos) tree =
    let more = forgets_stays inos (forget tree ino) in
    let one = forget_stays tree ino in
    record { entries = more.entries ∙ one.entries; highest = more.highest ∙ one.highest }

without_stays : (inos : List ℕ) (tree : Tree) → Stays (fold without_inode tree inos) tree
without_stays [] tree = record { entries = refl; highest = refl }
without_stays (ino ∷ inos) tree = let more = without_stays inos (without_inode tree ino) in record { entries = more.entries; highest = more.highest }

forgets_sorted : (inos : List ℕ) (tree : Tree) → IsInOrder tree → IsInOrder (fold forget tree inos)
forgets_sorted [] tree s = s
forgets_sorted (ino ∷ inos) tree s = forgets_sorted inos (forget tree ino) (forget_sorted tree ino s)

covered : {X : Type 0} (n a : Bool) (x : Option X) → (n ≡ true → a ≡ true) → cond (n && a) None x ≡ cond n None x
covered true a x h = rw (h refl) refl
covered false a x h = refl

-- where all that has no name is listed, just that goes
pub forgets_all : (inos : List ℕ) (tree : Tree) → IsInOrder tree → ((q : ℕ) → is_nameless tree q ≡ true → list_any (λ ino. q == ino) inos ≡ true) → fold forget tree inos ≡ without_nameless tree
forgets_all inos tree s all =
    let stays = forgets_stays inos tree in
    let goes = without_stays (nameless tree) tree in
    same_trees (fold forget tree inos) (without_nameless tree) (forgets_sorted inos tree s)
    (forgotten_in_order tree s)
    (record {
      inodes = λ q. forgets_inode inos tree q s ∙ covered (is_nameless tree q) (list_any (λ ino. q == ino) inos) (inode_at tree q) (all q) ∙ sym (found_inode tree q s);
      blocks = λ q. forgets_block inos tree q s ∙ covered (is_nameless tree q.0) (list_any (λ ino. q.0 == ino) inos) (lookup (is_at (pair_cmp q)) tree.blocks) (all q.0) ∙ sym (found_block tree q s);
      entries = λ q. ap (λ es. lookup (is_at (name_cmp q)) es) (stays.entries ∙ sym goes.entries);
      highest = stays.highest ∙ sym goes.highest;
    })

-- an inode that goes from two trees
abbrev pub IsGone : List ℕ → Tree → Tree → ℕ → Type 0
IsGone inos a b q = (is_nameless a q ≡ true) × (is_nameless b q ≡ true) × (list_any (λ ino. q == ino) inos ≡ true)

-- trees that differ in listed inodes without a name alone
pub record AreClose (inos : List ℕ) (a b : Tree) : Type 0 where
  pub inodes : (q : ℕ) → (inode_at a q ≡ inode_at b q) ⊎ IsGone inos a b q
  pub blocks : (q : ℕ × ℕ) → (lookup (is_at (pair_cmp q)) a.blocks ≡ lookup (is_at (pair_cmp q)) b.blocks) ⊎ IsGone inos a b q.0
  pub entries : (q : ℕ × List ℕ) → lookup (is_at (name_cmp q)) a.entries ≡ lookup (is_at (name_cmp q)) b.entries
  pub highest : a.highest ≡ b.highest

nameless_close : (inos : List ℕ) (a b : Tree) (q : ℕ) → AreClose inos a b → is_nameless a q ≡ is_nameless b q
nameless_close inos a b q c = elim (c.inodes q) [
  | inl e ↦ ap unlinked e
  | inr g ↦ g.0 ∙ sym g.1
]

-- come to the same once these go
pub forgets_close : (inos : List ℕ) (a b : Tree) → IsInOrder a → IsInOrder b → AreClose inos a b → fold forget a inos ≡ fold forget b inos
forgets_close inos a b s t c =
    let x = forgets_stays inos a in
    let y = forgets_stays inos b in
    same_trees (fold forget a inos) (fold forget b inos) (forgets_sorted inos a s) (forgets_sorted inos b t) (record {
      inodes = λ q. forgets_inode inos a q s ∙ inode q (c.inodes q) ∙ sym (forgets_inode inos b q t);
      blocks = λ q. forgets_block inos a q s ∙ block q (c.blocks q) ∙ sym (forgets_block inos b q t);
      entries = λ q. ap (λ es. lookup (is_at (name_cmp q)) es) x.entries ∙ c.entries q ∙ sym (ap (λ es. lookup (is_at (name_cmp q)) es) y.entries);
      highest = x.highest ∙ c.highest ∙ sym y.highest;
    })
  where
    named : ℕ → Bool
    named q = list_any (λ ino. q == ino) inos

    out : {X : Type 0} (m n l : Bool) (x y : Option X) → m ≡ true → n ≡ true → l ≡ true → cond (m && l) None x ≡ cond (n && l) None y
    out m n l x y e f g = rw (e, f, g) refl

    inode : (q : ℕ) → (inode_at a q ≡ inode_at b q) ⊎ IsGone inos a b q → cond (is_nameless a q && named q) None (inode_at a q) ≡ cond (is_nameless b q && named q) None (inode_at b q)
    inode q (inl e) = ap (λ (x : Option Inode). cond (unlinked x && named q) None x) e
    inode q (inr g) = out (is_nameless a q) (is_nameless b q) (named q) (inode_at a q) (inode_at b q) g.0 g.1 g.2

    block : (q : ℕ × ℕ) → (lookup (is_at (pair_cmp q)) a.blocks ≡ lookup (is_at (pair_cmp q)) b.blocks) ⊎ IsGone inos a b q.0
        → cond (is_nameless a q.0 && named q.0) None (lookup (is_at (pair_cmp q)) a.blocks) ≡ cond (is_nameless b q.0 && named q.0) None (lookup (is_at (pair_cmp q)) b.blocks)
    block q (inl e) =
        ap (λ (n : Bool). cond (n && named q.0) None (lookup (is_at (pair_cmp q)) a.blocks)) (nameless_close inos a b q.0 c)
        ∙ ap (λ (x : Option (List ℕ)). cond (is_nameless b q.0 && named q.0) None x) e
    block q (inr g) = out (is_nameless a q.0) (is_nameless b q.0) (named q.0) (lookup (is_at (pair_cmp q)) a.blocks) (lookup (is_at (pair_cmp q)) b.blocks) g.0 g.1 g.2

-- ---- on leaves
unlinked_step : (ino : ℕ) (s : Option Change) (rest : Inodes) (kept : List Kept) (b : Bool) → inodes_of kept ≡ rest → list_all (λ y. not (shows_same s (shown_by y))) kept ≡ true
    → b ≡ unlinked (lookup (is_at (nat_cmp ino)) rest) → (is_unlinked ino s || b) ≡ unlinked (lookup (is_at (nat_cmp ino)) (with_shown_inode s rest))
unlinked_step ino (Some (SetInode other old)) rest kept b r none h = elim (eqb_tells other ino) [
  | inl same ↦
      let P : ℕ → Type 0 = λ n. list_all (λ y. not (goes (SetInode n old) (shown_by y))) kept ≡ true in
      let missing = missing_inode ino old kept (subst P same.1 none) in
      let gone : lookup (is_at (nat_cmp ino)) rest ≡ None = subst (λ z. lookup (is_at (nat_cmp ino)) z ≡ None) r missing in
      let no : b ≡ false = h ∙ ap unlinked gone in
      rw (same.0, equal_is ino other (sym same.1)) (by (old.nlink == 0) b no)
  | inr differ ↦ rw (differ.0, apart nat_cmp numbers ino other (λ e. differ.1 (sym e))) h
]
  where
    by : (n b : Bool) → b ≡ false → (n || b) ≡ n
    by true b e = refl
    by false b e = e
unlinked_step ino s rest kept b r none h = h

unlinked_is : (ino : ℕ) (kept : List Kept) → are_apart kept ≡ true → list_any (λ x. is_unlinked ino (shown_by x)) kept ≡ unlinked (lookup (is_at (nat_cmp ino)) (inodes_of kept))
unlinked_is ino [] h = refl
unlinked_is ino (x ∷ kept) h =
    let p = and_parts (list_all (λ y. not (shows_same (shown_by x) (shown_by y))) kept) (are_apart kept) h in
    unlinked_step ino (shown_by x) (inodes_of kept) kept (list_any (λ x. is_unlinked ino (shown_by x)) kept) refl p.0 (unlinked_is ino kept p.1)

orphan_tree : (kept : List Kept) (ino highest : ℕ) → IsLeafMap kept → tree_of (without_orphan kept ino) highest ≡ forget (tree_of kept highest) ino
orphan_tree kept ino highest is = by (list_any (λ x. is_unlinked ino (shown_by x)) kept) (is_nameless (tree_of kept highest) ino) (unlinked_is ino kept is.apart)
  where
    by : (b n : Bool) → b ≡ n → tree_of (cond b (filter (λ x. not (is_gone (DropInode ino) x)) kept) kept) highest ≡ cond n (without_inode (tree_of kept highest) ino) (tree_of kept highest)
    by true true e = drop_inode ino kept highest highest is
    by true false e = absurd cc
    by false true e = absurd cc
    by false false e = refl

pub orphan_map : (kept : List Kept) (ino : ℕ) → IsLeafMap kept → IsLeafMap (without_orphan kept ino)
orphan_map kept ino is = by (list_any (λ x. is_unlinked ino (shown_by x)) kept)
  where
    by : (b : Bool) → IsLeafMap (cond b (filter (λ x. not (is_gone (DropInode ino) x)) kept) kept)
    by true = filter_map (λ x. not (is_gone (DropInode ino) x)) kept is
    by false = is

pub orphans_tree : (inos : List ℕ) (kept : List Kept) (highest : ℕ) → IsLeafMap kept → tree_of (fold without_orphan kept inos) highest ≡ fold forget (tree_of kept highest) inos
orphans_tree [] kept highest is = refl
orphans_tree (ino ∷ inos) kept highest is = orphans_tree inos (without_orphan kept ino) highest (orphan_map kept ino is) ∙ ap (λ t. fold forget t inos) (orphan_tree kept ino highest is)
