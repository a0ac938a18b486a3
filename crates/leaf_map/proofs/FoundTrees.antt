-- The tree that the leaves found show differs from the committed one in what changes touch alone, where each leaf stands at its place still, has a copy, or is touched.
use Rattle.std.proofs.Common.{◌≡◌, ◌⊎◌, ℕ, true, false, not, ◌&&◌, List, [], ◌∷◌, refl, sym, ap, subst, ◌∙◌, inl, inr, Option, Some, None}
use Rattle.std.specs.Prelude.{◌==◌, is_some}
use Rattle.std.specs.BTreeMap.{insert_entry, is_at}
use Rattle.std.specs.List.{AllByRecursion, list_all, list_any}
use Rattle.std.specs.Map.{lookup}
use Rattle.std.specs.Ordering.{nat_cmp}
use Rattle.std.specs.declared.cmp.Ordering.{Ordering}
use Rattle.std.proofs.lemmas.Bool.{false≢true, and_parts, and_from, eqb-true, eq-eqb}
use Rattle.ubifs_base.specs.declared.key.Key.{Key}
use Rattle.media_leaf.specs.LeafNode.{LeafNode}
use Rattle.index_tree.specs.declared.leaf.Leaf.{Leaf}
use Rattle.index_tree.specs.Order.{leaf_rank}
use Rattle.fs_model.specs.declared.change.Change.{Change}
use Rattle.fs_model.specs.declared.change.Change.TheVariants.{SetInode, SetEntry, SetBlock}
use Rattle.fs_model.specs.declared.inode.Entry.{Entry}
use Rattle.fs_model.specs.declared.inode.Inode.{Inode}
use Rattle.fs_model.specs.Files.{Blocks, Entries, Inodes, Tree, inode_at, name_cmp, pair_cmp}
use Rattle.fs_model.specs.Orphan.{is_nameless}
use Rattle.fs_model.specs.Path.{is_same_name}
use Rattle.fs_model.specs.Recovery.{Numbered}
use Rattle.fs_laws.specs.Maps.{IsOrder, apart, key_cases, set_here, set_other}
use Rattle.fs_laws.specs.Orders.{named, numbers, pairs}
use Rattle.leaf_map.specs.Allowed.{AgreeBut, FitsTree, IsNodeCopied, IsNodeOfLeaves, IsOwnNode, IsReadLeaf, IsSafe, AreForgotten, IsForgotten, IsOfForgotten, IsTouched, IsTouchedIn, LosesNothing, in_turn}
use Rattle.leaf_map.specs.Kept.{Kept, Placed, kept_at, shown, shown_by}
use Rattle.leaf_map.specs.LastChange.{last_made, makes_block, makes_entry, makes_inode}
use Rattle.leaf_map.specs.LeafMap.{HasKeyOf, IsKeyed, IsLeafMap, are_apart, shows_same}
use Rattle.leaf_map.specs.Parts.{Committed, Parts, is_shown}
use Rattle.leaf_map.specs.RankLaws.{rank_is, rank_shown, is_entry, same_thing}
use Rattle.leaf_map.specs.Recovered.{committed_highest, found_leaves, leaves_found, listed_left, spare_copies, stand_in}
use Rattle.leaf_map.specs.Shown.{blocks_shown_by, entries_of, inodes_of, tree_of, with_shown_block, with_entry, with_shown_inode}
use Rattle.leaf_map.proofs.FoundKeys.{IsGood, has_no_link, stand_linkless, copy_keyed, copy_place, filter_all, find_all, gone_entry, stand_keyed, stand_plain}
use Rattle.leaf_map.proofs.FoundLeaves.{found_map, pairs_of}
use Rattle.leaf_map.proofs.FoundNodes.{filter_copied, find_copied, found_nodes, itself, spare_good, spare_known}
use Rattle.leaf_map.proofs.Forgets.{unlinked}
use Rattle.leaf_map.proofs.KnownNodes.{all_left}
use Rattle.leaf_map.proofs.Names.{is_name, key, same_key}
use Rattle.leaf_map.proofs.Sorted.{leaves_sorted}
use Rattle.leaf_map.proofs.Things.{at_node, node_shown, not_true, one_node, same_turned}
use Rattle.leaf_map.proofs.Walk.{Walk, left, own_leaf, stand_leaf, walk}

abbrev pair_of : {K X : Type 0} → K → X → K × X
pair_of k v = (k, v)

key_parts : {K X : Type 0} (a : K) (b : X) (c : K) (d : X) → Some (pair_of a b) ≡ Some (pair_of c d) → (a ≡ c) × (b ≡ d)
key_parts {K} {X} a b c d e = let p : pair_of a b ≡ pair_of c d = cc in (ap (λ (z : K × X). z.0) p, ap (λ (z : K × X). z.1) p)

-- ---- one kind of what is shown, as a map
record Kind {K X : Type 0} (cmp : K → K → Ordering) (with : Option Change → List (K × X) → List (K × X)) (all : List Kept → List (K × X)) (key : Option Change → Option (K × X)) : Type 0 where
  order : IsOrder cmp
  none : all [] ≡ []
  step : (x : Kept) (kept : List Kept) → all (x ∷ kept) ≡ with (shown_by x) (all kept)
  here : (s : Option Change) (k : K) (v : X) (rest : List (K × X)) → key s ≡ Some (k, v) → lookup (is_at (cmp k)) (with s rest) ≡ Some v
  past : (s : Option Change) (q : K) (rest : List (K × X)) → ((v : X) → key s ≡ Some (q, v) → ⊥) → lookup (is_at (cmp q)) (with s rest) ≡ lookup (is_at (cmp q)) rest
  same : (s t : Option Change) (k : K) (v w : X) → key s ≡ Some (k, v) → key t ≡ Some (k, w) → shows_same s t ≡ true
  told : (s t : Option Change) (k : K) (v : X) → key s ≡ Some (k, v) → shows_same s t ≡ true → (w : X) × (key t ≡ Some (k, w))

-- what a leaf shows is found
shown_found : {K X : Type 0} {cmp : K → K → Ordering} {with : Option Change → List (K × X) → List (K × X)} {all : List Kept → List (K × X)} {key : Option Change → Option (K × X)} → Kind cmp with all key
    → (kept : List Kept) (n : LeafNode) (k : K) (v : X) → are_apart kept ≡ true → IsNodeOfLeaves kept n → key (shown n) ≡ Some (k, v) → lookup (is_at (cmp k)) (all kept) ≡ Some v
shown_found kind [] n k v a i e = absurd i
shown_found {K} {X} {cmp} {with} {all} {key} kind (x ∷ kept) n k v a (inl same) e =
    let s : key (shown_by x) ≡ Some (k, v) = ap (λ (z : LeafNode). key (shown z)) (sym same) ∙ e in
    ap (λ es. lookup (is_at (cmp k)) es) (kind.step x kept) ∙ kind.here (shown_by x) k v (all kept) s
shown_found {K} {X} {cmp} {with} {all} {key} kind (x ∷ kept) n k v a (inr j) e =
    let p = and_parts (list_all (λ y. not (shows_same (shown_by x) (shown_by y))) kept) (are_apart kept) a in
    let no = not_true (shows_same (shown_by x) (shown n)) (at_node (λ t. not (shows_same (shown_by x) t)) kept n p.0 j) in
    ap (λ es. lookup (is_at (cmp k)) es) (kind.step x kept)
    ∙ kind.past (shown_by x) k (all kept) (λ w f. false≢true (sym no ∙ kind.same (shown_by x) (shown n) k w v f e))
    ∙ shown_found kind kept n k v p.1 j e

-- a node that shows something at a key
abbrev Shower : {K X : Type 0} → (Option Change → Option (K × X)) → List Kept → K → X → Type 0
Shower key kept k v = (n : LeafNode) × IsNodeOfLeaves kept n × (key (shown n) ≡ Some (k, v))

-- and what is found a leaf shows
found_shown : {K X : Type 0} {cmp : K → K → Ordering} {with : Option Change → List (K × X) → List (K × X)} {all : List Kept → List (K × X)} {key : Option Change → Option (K × X)} → Kind cmp with all key
    → (kept : List Kept) (k : K) (v : X) → lookup (is_at (cmp k)) (all kept) ≡ Some v → Shower key kept k v
found_shown {K} {X} {cmp} {with} {all} {key} kind [] k v f = let no = rw kind.none at f in absurd cc
found_shown {K} {X} {cmp} {with} {all} {key} kind (x ∷ kept) k v f = by (found_shown kind kept k v) (key (shown_by x)) refl
  where
    now : lookup (is_at (cmp k)) (with (shown_by x) (all kept)) ≡ Some v
    now = ap (λ es. lookup (is_at (cmp k)) es) (sym (kind.step x kept)) ∙ f

    later : Shower key kept k v → Shower key (x ∷ kept) k v
    later (n, i, e) = (n, inr i, e)

    back : (lookup (is_at (cmp k)) (all kept) ≡ Some v → Shower key kept k v) → ((w : X) → key (shown_by x) ≡ Some (k, w) → ⊥) → Shower key (x ∷ kept) k v
    back more differs = later (more (sym (kind.past (shown_by x) k (all kept) differs) ∙ now))

    nothing : Option (K × X)
    nothing = None

    never : (w : X) → nothing ≡ Some (pair_of k w) → ⊥
    never w g = absurd cc

    by : (lookup (is_at (cmp k)) (all kept) ≡ Some v → Shower key kept k v) → (o : Option (K × X)) → key (shown_by x) ≡ o → Shower key (x ∷ kept) k v
    by more None e = back more (λ w g. never w (sym e ∙ g))
    by more (Some (q, w)) e = elim (key_cases cmp kind.order q k) [
      | inl same ↦
          let s : key (shown_by x) ≡ Some (k, w) = e ∙ ap (λ (z : K). Some (z, w)) same in
          let is : Some w ≡ Some v = sym (kind.here (shown_by x) k w (all kept) s) ∙ now in
          let value : w ≡ v = cc in
          (x.node, inl refl, s ∙ ap (λ (z : X). Some (k, z)) value)
      | inr differs ↦ back more (λ u g. differs (key_parts q w k u (sym e ∙ g)).0)
    ]

-- ---- at one key
abbrev Near : {K X : Type 0} → (K → K → Ordering) → (List Kept → List (K × X)) → List Kept → List Kept → K → Type 0 → Type 0
Near cmp all found kept q Touched = (lookup (is_at (cmp q)) (all found) ≡ lookup (is_at (cmp q)) (all kept)) ⊎ Touched

near : {K X : Type 0} {cmp : K → K → Ordering} {with : Option Change → List (K × X) → List (K × X)} {all : List Kept → List (K × X)} {key : Option Change → Option (K × X)} → Kind cmp with all key
    → (found kept : List Kept) (q : K) (Touched : Type 0) → are_apart found ≡ true → are_apart kept ≡ true
    → ((n : LeafNode) (v : X) → IsNodeOfLeaves kept n → key (shown n) ≡ Some (q, v) → IsNodeOfLeaves found n ⊎ Touched)
    → ((n : LeafNode) (v : X) → IsNodeOfLeaves found n → key (shown n) ≡ Some (q, v) → (w : X) × Shower key kept q w)
    → Near cmp all found kept q Touched
near {K} {X} {cmp} {with} {all} {key} kind found kept q Touched a b safe seen = by (lookup (is_at (cmp q)) (all kept)) refl (lookup (is_at (cmp q)) (all found)) refl
  where
    Goal : Type 0
    Goal = Near cmp all found kept q Touched

    kept_one : (v : X) → lookup (is_at (cmp q)) (all kept) ≡ Some v → Shower key kept q v → Goal
    kept_one v e (n, i, s) = elim (safe n v i s) [
      | inl j ↦ inl (shown_found kind found n q v a j s ∙ sym e)
      | inr t ↦ inr t
    ]

    found_one : lookup (is_at (cmp q)) (all kept) ≡ None → (w : X) × Shower key kept q w → Goal
    found_one e (w, (n, i, s)) = let no : Some w ≡ None = sym (shown_found kind kept n q w b i s) ∙ e in absurd cc

    look : (v : X) → Shower key found q v → (w : X) × Shower key kept q w
    look v (n, i, s) = seen n v i s

    by : (o : Option X) → lookup (is_at (cmp q)) (all kept) ≡ o → (p : Option X) → lookup (is_at (cmp q)) (all found) ≡ p → Goal
    by (Some v) e p f = kept_one v e (found_shown kind kept q v e)
    by None e None f = inl (f ∙ sym e)
    by None e (Some v) f = found_one e (look v (found_shown kind found q v f))

-- ---- the three kinds
abbrev inode_key : Option Change → Option (ℕ × Inode)
inode_key (Some (SetInode ino inode)) = Some (ino, inode)
inode_key s = None

abbrev block_key : Option Change → Option ((ℕ × ℕ) × List ℕ)
block_key (Some (SetBlock ino number bytes)) = Some ((ino, number), bytes)
block_key s = None

abbrev entry_key_of : Option Change → Option ((ℕ × List ℕ) × Entry)
entry_key_of (Some (SetEntry e)) = Some ((e.dir, e.name), e)
entry_key_of s = None

found_first : {K X : Type 0} (cmp : K → K → Ordering) → IsOrder cmp → (k q : K) (v : X) (rest : List (K × X)) → q ≡ k → lookup (is_at (cmp k)) ((q, v) ∷ rest) ≡ Some v
found_first {K} {X} cmp order k q v rest e = subst (λ (z : K). lookup (is_at (cmp z)) ((q, v) ∷ rest) ≡ Some v) e (rw (order.same q) refl)

found_past : {K X : Type 0} (cmp : K → K → Ordering) → IsOrder cmp → (q k : K) (v : X) (rest : List (K × X)) → (q ≡ k → ⊥) → lookup (is_at (cmp q)) ((k, v) ∷ rest) ≡ lookup (is_at (cmp q)) rest
found_past cmp order q k v rest differs = rw (apart cmp order q k differs) refl

inode_here : (s : Option Change) (k : ℕ) (v : Inode) (rest : Inodes) → inode_key s ≡ Some (k, v) → lookup (is_at (nat_cmp k)) (with_shown_inode s rest) ≡ Some v
inode_here (Some (SetInode ino inode)) k v rest e = let p = key_parts ino inode k v e in found_first nat_cmp numbers k ino inode rest p.0 ∙ ap (λ (z : Inode). Some z) p.1
inode_here s k v rest e = absurd cc

inode_past : (s : Option Change) (q : ℕ) (rest : Inodes) → ((v : Inode) → inode_key s ≡ Some (q, v) → ⊥) → lookup (is_at (nat_cmp q)) (with_shown_inode s rest) ≡ lookup (is_at (nat_cmp q)) rest
inode_past (Some (SetInode ino inode)) q rest d = found_past nat_cmp numbers q ino inode rest (λ e. d inode (ap (λ (z : ℕ). Some (z, inode)) (sym e)))
inode_past s q rest d = refl

inode_same : (s t : Option Change) (k : ℕ) (v w : Inode) → inode_key s ≡ Some (k, v) → inode_key t ≡ Some (k, w) → shows_same s t ≡ true
inode_same (Some (SetInode a x)) (Some (SetInode b y)) k v w e f = eq-eqb b a ((key_parts b y k w f).0 ∙ sym (key_parts a x k v e).0)
inode_same (Some (SetInode a x)) t k v w e f = absurd cc
inode_same s t k v w e f = absurd cc

inode_told : (s t : Option Change) (k : ℕ) (v : Inode) → inode_key s ≡ Some (k, v) → shows_same s t ≡ true → (w : Inode) × (inode_key t ≡ Some (k, w))
inode_told (Some (SetInode a x)) (Some (SetInode b y)) k v e h = (y, ap (λ (z : ℕ). Some (z, y)) (eqb-true b a h ∙ (key_parts a x k v e).0))
inode_told (Some (SetInode a x)) t k v e h = absurd (false≢true h)
inode_told s t k v e h = absurd cc

inode_kind : Kind nat_cmp with_shown_inode inodes_of inode_key
inode_kind = record { order = numbers; none = refl; step = λ x kept. refl; here = inode_here; past = inode_past; same = inode_same; told = inode_told }

abbrev place : ℕ → ℕ → ℕ × ℕ
place ino number = (ino, number)

place_is : (a n b m : ℕ) → ((b == a) && (m == n)) ≡ true → place b m ≡ place a n
place_is a n b m h =
    let p = and_parts (b == a) (m == n) h in
    ap (λ (z : ℕ). place z m) (eqb-true b a p.0) ∙ ap (place a) (eqb-true m n p.1)

block_here : (s : Option Change) (k : ℕ × ℕ) (v : List ℕ) (rest : Blocks) → block_key s ≡ Some (k, v) → lookup (is_at (pair_cmp k)) (with_shown_block s rest) ≡ Some v
block_here (Some (SetBlock ino number bytes)) k v rest e = let p = key_parts (place ino number) bytes k v e in found_first pair_cmp pairs k (place ino number) bytes rest p.0 ∙ ap (λ (z : List ℕ). Some z) p.1
block_here s k v rest e = absurd cc

block_past : (s : Option Change) (q : ℕ × ℕ) (rest : Blocks) → ((v : List ℕ) → block_key s ≡ Some (q, v) → ⊥) → lookup (is_at (pair_cmp q)) (with_shown_block s rest) ≡ lookup (is_at (pair_cmp q)) rest
block_past (Some (SetBlock ino number bytes)) q rest d = found_past pair_cmp pairs q (place ino number) bytes rest (λ e. d bytes (ap (λ (z : ℕ × ℕ). Some (z, bytes)) (sym e)))
block_past s q rest d = refl

block_same : (s t : Option Change) (k : ℕ × ℕ) (v w : List ℕ) → block_key s ≡ Some (k, v) → block_key t ≡ Some (k, w) → shows_same s t ≡ true
block_same (Some (SetBlock a n x)) (Some (SetBlock b m y)) k v w e f =
    let same : place b m ≡ place a n = (key_parts (place b m) y k w f).0 ∙ sym (key_parts (place a n) x k v e).0 in
    and_from (b == a) (m == n) (eq-eqb b a (ap (λ (z : ℕ × ℕ). z.0) same)) (eq-eqb m n (ap (λ (z : ℕ × ℕ). z.1) same))
block_same (Some (SetBlock a n x)) t k v w e f = absurd cc
block_same s t k v w e f = absurd cc

block_told : (s t : Option Change) (k : ℕ × ℕ) (v : List ℕ) → block_key s ≡ Some (k, v) → shows_same s t ≡ true → (w : List ℕ) × (block_key t ≡ Some (k, w))
block_told (Some (SetBlock a n x)) (Some (SetBlock b m y)) k v e h = (y, ap (λ (z : ℕ × ℕ). Some (z, y)) (place_is a n b m h ∙ (key_parts (place a n) x k v e).0))
block_told (Some (SetBlock a n x)) t k v e h = absurd (false≢true h)
block_told s t k v e h = absurd cc

block_kind : Kind pair_cmp with_shown_block blocks_shown_by block_key
block_kind = record { order = pairs; none = refl; step = λ x kept. refl; here = block_here; past = block_past; same = block_same; told = block_told }

entry_here : (s : Option Change) (k : ℕ × List ℕ) (v : Entry) (rest : Entries) → entry_key_of s ≡ Some (k, v) → lookup (is_at (name_cmp k)) (with_entry s rest) ≡ Some v
entry_here (Some (SetEntry e)) k v rest h =
    let p = key_parts (key e.dir e.name) e k v h in
    subst (λ (z : ℕ × List ℕ). lookup (is_at (name_cmp z)) (insert_entry name_cmp rest (e.dir, e.name) e) ≡ Some e) p.0 (set_here name_cmp named rest (e.dir, e.name) e) ∙ ap (λ (z : Entry). Some z) p.1
entry_here s k v rest h = absurd cc

entry_past : (s : Option Change) (q : ℕ × List ℕ) (rest : Entries) → ((v : Entry) → entry_key_of s ≡ Some (q, v) → ⊥) → lookup (is_at (name_cmp q)) (with_entry s rest) ≡ lookup (is_at (name_cmp q)) rest
entry_past (Some (SetEntry e)) q rest d = set_other name_cmp named rest (e.dir, e.name) e q (λ same. d e (ap (λ (z : ℕ × List ℕ). Some (z, e)) (sym same)))
entry_past s q rest d = refl

entry_same : (s t : Option Change) (k : ℕ × List ℕ) (v w : Entry) → entry_key_of s ≡ Some (k, v) → entry_key_of t ≡ Some (k, w) → shows_same s t ≡ true
entry_same (Some (SetEntry a)) (Some (SetEntry b)) k v w e f =
    let same : key b.dir b.name ≡ key a.dir a.name = (key_parts (key b.dir b.name) b k w f).0 ∙ sym (key_parts (key a.dir a.name) a k v e).0 in
    and_from (b.dir == a.dir) (is_same_name b.name a.name) (eq-eqb b.dir a.dir (ap (λ (z : ℕ × List ℕ). z.0) same)) (is_name b.name a.name (ap (λ (z : ℕ × List ℕ). z.1) same))
entry_same (Some (SetEntry a)) t k v w e f = absurd cc
entry_same s t k v w e f = absurd cc

entry_told : (s t : Option Change) (k : ℕ × List ℕ) (v : Entry) → entry_key_of s ≡ Some (k, v) → shows_same s t ≡ true → (w : Entry) × (entry_key_of t ≡ Some (k, w))
entry_told (Some (SetEntry a)) (Some (SetEntry b)) k v e h = (b, ap (λ (z : ℕ × List ℕ). Some (z, b)) (same_key b a.dir a.name h ∙ (key_parts (key a.dir a.name) a k v e).0))
entry_told (Some (SetEntry a)) t k v e h = absurd (false≢true h)
entry_told s t k v e h = absurd cc

entry_kind : Kind name_cmp with_entry entries_of entry_key_of
entry_kind = record { order = named; none = refl; step = λ x kept. refl; here = entry_here; past = entry_past; same = entry_same; told = entry_told }

-- ---- leaf by leaf
-- at one place no name is shown beside an inode or a block
plain_at : (l m : Leaf) (s t : Option Change) → HasKeyOf l s → HasKeyOf m t → rank_shown s ≡ rank_shown t → is_entry s ≡ false → shows_same s t ≡ true
plain_at l m s t h g r p = elim (same_thing l m s t h g r) [
  | inl same ↦ same
  | inr names ↦ absurd (false≢true (sym p ∙ names.0))
]

-- what stands for a node is of its kind
plain_same : (x : Kept) (c : Committed) (m : LeafNode) → c.leaf ≡ x.leaf → IsKeyed x → stand_in c.leaf.key ≡ Some m → shows_same (shown_by x) (shown m) ≡ true
plain_same x c m l k t =
    let ky = stand_keyed x c m l k t in
    elim (same_thing x.leaf c.leaf (shown_by x) (shown m) k ky (sym (rank_is x.leaf (shown_by x) k) ∙ sym (ap leaf_rank l) ∙ rank_is c.leaf (shown m) ky)) [
      | inl same ↦ same
      | inr names ↦ absurd (false≢true (sym (stand_plain c.leaf.key m t) ∙ names.1))
    ]

-- one of these leaves shows the same as a node
abbrev Seen : List Kept → LeafNode → Type 0
Seen kept n = (m : LeafNode) × IsNodeOfLeaves kept m × (shows_same (shown m) (shown n) ≡ true)

abbrev AllSeen : List Kept → List Placed → List Kept → List Kept → Type 0
AllSeen kept copies ks found = AllByRecursion IsKeyed ks → ((n : LeafNode) → IsNodeCopied copies n → IsNodeOfLeaves kept n) → ((n : LeafNode) → IsNodeOfLeaves ks n → IsNodeOfLeaves kept n) → (n : LeafNode) → IsNodeOfLeaves found n → Seen kept n

seen_walk : (parts : Parts) (kept : List Kept) → AllByRecursion IsKeyed kept → Walk parts.named (IsReadLeaf parts) (λ copies ks cs found. AllSeen kept copies ks found)
seen_walk parts kept keyed = record {
  done = λ copies k known sub n i. absurd i;
  own = λ copies ks cs x c m pair e more k known sub n i. elim i [
    | inl same ↦ self n (sub n (inl (same ∙ pair.own m e)))
    | inr j ↦ more k.1 known (λ n j. sub n (inr j)) n j
  ];
  copy = λ copies ks cs x c d pair e f more k known sub n i. elim i [
    | inl same ↦ self n (known n (subst (λ (z : LeafNode). IsNodeCopied copies z) (sym same) (find_copied (λ c'. leaf_rank (kept_at c').leaf == leaf_rank c.leaf) copies d f)))
    | inr j ↦ more k.1 (λ n j. known n (filter_copied (λ c'. not (shows_same (shown d.node) (shown c'.node))) copies n j)) (λ n j. sub n (inr j)) n j
  ];
  stand = λ copies ks cs x c m pair e f t more k known sub n i. elim i [
    | inl same ↦ (x.node, sub x.node (inl refl), subst (λ (z : LeafNode). shows_same (shown x.node) (shown z) ≡ true) (sym same) (plain_same x c m pair.leaf k.0 t))
    | inr j ↦ more k.1 known (λ n j. sub n (inr j)) n j
  ];
  gone = λ copies ks cs x c pair e f t more k known sub n i. more k.1 known (λ n j. sub n (inr j)) n i;
}
  where
    self : (n : LeafNode) → IsNodeOfLeaves kept n → Seen kept n
    self n i = (n, i, itself (shown n) (node_shown kept n keyed i))

-- ---- what is there
-- what stands for a node that nobody can read
abbrev StandsIn : LeafNode → Type 0
StandsIn m = (k : Key) × (stand_in k ≡ Some m)

-- in place of a node that is no name's stands itself, or what stands for it
abbrev There : List Kept → LeafNode → Type 0
There found n = (m : LeafNode) × IsNodeOfLeaves found m × (shows_same (shown n) (shown m) ≡ true) × ((m ≡ n) ⊎ StandsIn m)

abbrev AllThere : List Kept → List Placed → List Kept → List Kept → Type 0
AllThere kept copies ks found = AllByRecursion IsKeyed ks → AllByRecursion IsGood copies → ((n : LeafNode) → IsNodeCopied copies n → IsNodeOfLeaves kept n) → ((n : LeafNode) → IsNodeOfLeaves ks n → IsNodeOfLeaves kept n)
    → (n : LeafNode) → IsNodeOfLeaves ks n → is_entry (shown n) ≡ false → There found n

there_walk : (parts : Parts) (kept : List Kept) → AllByRecursion IsKeyed kept → are_apart kept ≡ true → Walk parts.named (IsReadLeaf parts) (λ copies ks cs found. AllThere kept copies ks found)
there_walk parts kept keyed apart = record {
  done = λ copies k g known sub n i plain. absurd i;
  own = λ copies ks cs x c m pair e more k g known sub n i plain. elim i [
    | inl same ↦ own_one (own_leaf c m) (found_leaves parts.named copies cs) n (pair.own m e ∙ sym same) (node_shown kept n keyed (sub n (inl same)))
    | inr j ↦ later (own_leaf c m) (found_leaves parts.named copies cs) n (more k.1 g known (λ n j. sub n (inr j)) n j plain)
  ];
  copy = λ copies ks cs x c d pair e f more k g known sub n i plain. elim i [
    | inl same ↦
        let good = find_all IsGood (λ c'. leaf_rank (kept_at c').leaf == leaf_rank c.leaf) copies d g f in
        let ky = copy_keyed d good in
        let p : is_entry (shown_by x) ≡ false = subst (λ (z : LeafNode). is_entry (shown z) ≡ false) same plain in
        let shows = plain_at x.leaf (kept_at d).leaf (shown_by x) (shown d.node) k.0 ky (sym (rank_is x.leaf (shown_by x) k.0) ∙ sym (copy_place c.leaf copies d f ∙ ap leaf_rank pair.leaf) ∙ rank_is (kept_at d).leaf (shown d.node) ky) p in
        let is : x.node ≡ d.node = one_node kept x.node d.node keyed apart (sub x.node (inl refl)) (known d.node (find_copied (λ c'. leaf_rank (kept_at c').leaf == leaf_rank c.leaf) copies d f)) shows in
        own_one (kept_at d) (found_leaves parts.named (left d copies) cs) n (sym is ∙ sym same) (node_shown kept n keyed (sub n (inl same)))
    | inr j ↦ later (kept_at d) (found_leaves parts.named (left d copies) cs) n
        (more k.1 (filter_all IsGood _ copies g) (λ n j. known n (filter_copied (λ c'. not (shows_same (shown d.node) (shown c'.node))) copies n j)) (λ n j. sub n (inr j)) n j plain)
  ];
  stand = λ copies ks cs x c m pair e f t more k g known sub n i plain. elim i [
    | inl same ↦ (m, inl refl, subst (λ (z : LeafNode). shows_same (shown z) (shown m) ≡ true) (sym same) (plain_same x c m pair.leaf k.0 t), inr (c.leaf.key, t))
    | inr j ↦ later (stand_leaf c m) (found_leaves parts.named copies cs) n (more k.1 g known (λ n j. sub n (inr j)) n j plain)
  ];
  gone = λ copies ks cs x c pair e f t more k g known sub n i plain. elim i [
    | inl same ↦
        let key : HasKeyOf c.leaf (shown_by x) = subst (λ l. HasKeyOf l (shown_by x)) (sym pair.leaf) k.0 in
        let p : is_entry (shown_by x) ≡ false = subst (λ (z : LeafNode). is_entry (shown z) ≡ false) same plain in
        absurd (false≢true (sym p ∙ gone_entry c.leaf (shown_by x) key t))
    | inr j ↦ more k.1 g known (λ n j. sub n (inr j)) n j plain
  ];
}
  where
    later : (y : Kept) (found : List Kept) (n : LeafNode) → There found n → There (y ∷ found) n
    later y found n (m, i, s, w) = (m, inr i, s, w)

    own_one : (y : Kept) (found : List Kept) (n : LeafNode) → y.node ≡ n → is_shown (shown n) ≡ true → There (y ∷ found) n
    own_one y found n e h = (y.node, inl refl, subst (λ (z : LeafNode). shows_same (shown n) (shown z) ≡ true) (sym e) (itself (shown n) h), inl e)

unlinked_shown : (s : Option Change) (q : ℕ) (v : Inode) → has_no_link s ≡ true → inode_key s ≡ Some (q, v) → (v.nlink == 0) ≡ true
unlinked_shown (Some (SetInode ino node)) q v h e = subst (λ (z : Inode). (z.nlink == 0) ≡ true) (key_parts ino node q v e).1 h
unlinked_shown s q v h e = absurd cc

-- ---- all of it
safe_node : (parts : Parts) (tree : Tree) (changes : List Change) (ks : List Kept) (n : LeafNode) → AllByRecursion (IsSafe parts tree changes) ks → IsNodeOfLeaves ks n
    → (IsOwnNode parts.named parts.committed n ⊎ IsNodeCopied parts.copies n) ⊎ (IsTouchedIn tree changes (shown n) ⊎ IsOfForgotten parts.listed changes tree (shown n))
safe_node parts tree changes [] n safe i = absurd i
safe_node parts tree changes (x ∷ ks) n safe (inl e) = subst (λ (z : LeafNode). (IsOwnNode parts.named parts.committed z ⊎ IsNodeCopied parts.copies z) ⊎ (IsTouchedIn tree changes (shown z) ⊎ IsOfForgotten parts.listed changes tree (shown z))) (sym e) safe.0
safe_node parts tree changes (x ∷ ks) n safe (inr i) = safe_node parts tree changes ks n safe.1 i

touched_inode : (tree : Tree) (changes : List Change) (s : Option Change) (q : ℕ) (v : Inode) → inode_key s ≡ Some (q, v) → IsTouchedIn tree changes s → IsTouched (last_made (makes_inode q) tree changes)
touched_inode tree changes (Some (SetInode ino inode)) q v e t = subst (λ (z : ℕ). IsTouched (last_made (makes_inode z) tree changes)) (key_parts ino inode q v e).0 t
touched_inode tree changes s q v e t = absurd cc

touched_block : (tree : Tree) (changes : List Change) (s : Option Change) (q : ℕ × ℕ) (v : List ℕ) → block_key s ≡ Some (q, v) → IsTouchedIn tree changes s → IsTouched (last_made (makes_block q) tree changes)
touched_block tree changes (Some (SetBlock ino number bytes)) q v e t = subst (λ (z : ℕ × ℕ). IsTouched (last_made (makes_block z) tree changes)) (key_parts (place ino number) bytes q v e).0 t
touched_block tree changes s q v e t = absurd cc

touched_entry : (tree : Tree) (changes : List Change) (s : Option Change) (q : ℕ × List ℕ) (v : Entry) → entry_key_of s ≡ Some (q, v) → IsTouchedIn tree changes s → IsTouched (last_made (makes_entry q) tree changes)
touched_entry tree changes (Some (SetEntry one)) q v e t = subst (λ (z : ℕ × List ℕ). IsTouched (last_made (makes_entry z) tree changes)) (key_parts (key one.dir one.name) one q v e).0 t
touched_entry tree changes s q v e t = absurd cc

forgotten_inode : (list : List ℕ) (changes : List Change) (tree : Tree) (s : Option Change) (q : ℕ) (v : Inode) → inode_key s ≡ Some (q, v) → IsOfForgotten list changes tree s → IsForgotten list changes tree q
forgotten_inode list changes tree (Some (SetInode ino inode)) q v e t = subst (λ (z : ℕ). IsForgotten list changes tree z) (key_parts ino inode q v e).0 t
forgotten_inode list changes tree s q v e t = absurd cc

forgotten_block : (list : List ℕ) (changes : List Change) (tree : Tree) (s : Option Change) (q : ℕ × ℕ) (v : List ℕ) → block_key s ≡ Some (q, v) → IsOfForgotten list changes tree s → IsForgotten list changes tree q.0
forgotten_block list changes tree (Some (SetBlock ino number bytes)) q v e t = subst (λ (z : ℕ × ℕ). IsForgotten list changes tree z.0) (key_parts (place ino number) bytes q v e).0 t
forgotten_block list changes tree s q v e t = absurd cc

forgotten_entry : (list : List ℕ) (changes : List Change) (tree : Tree) (s : Option Change) (q : ℕ × List ℕ) (v : Entry) → entry_key_of s ≡ Some (q, v) → IsOfForgotten list changes tree s → ⊥
forgotten_entry list changes tree (Some (SetEntry one)) q v e t = t
forgotten_entry list changes tree s q v e t = absurd cc

inode_plain : (s : Option Change) (q : ℕ) (v : Inode) → inode_key s ≡ Some (q, v) → is_entry s ≡ false
inode_plain (Some (SetInode ino inode)) q v e = refl
inode_plain s q v e = absurd cc

pub fits_tree : (parts : Parts) (kept : List Kept) (changes : Numbered) → LosesNothing parts kept changes → FitsTree parts (tree_of kept (committed_highest parts)) changes
fits_tree parts kept changes fits = record {
  nodes = fits.nodes;
  leaves = found;
  sorted = leaves_sorted kept (committed_highest parts) fits.read.leaves;
  shows = subst (λ (list : List ℕ). AgreeBut list (in_turn changes) (tree_of F highest) tree) (sym all) (record {
    there = λ q. there q (inode_at (tree_of kept highest) q) refl (inode_at (tree_of F highest) q) refl;
    inodes = λ q. near inode_kind F kept q (IsTouched (last_made (makes_inode q) tree (in_turn changes)) ⊎ AreForgotten parts.listed (in_turn changes) (tree_of F highest) tree q) found.apart fits.read.leaves.apart
        (λ n v i e. safe n i (λ t. inl (touched_inode tree (in_turn changes) (shown n) q v e t)) (λ t. inr (forgotten q (forgotten_inode parts.listed (in_turn changes) tree (shown n) q v e t)))) (λ n v i e. look inode_kind q n v i e);
    blocks = λ q. near block_kind F kept q (IsTouched (last_made (makes_block q) tree (in_turn changes)) ⊎ AreForgotten parts.listed (in_turn changes) (tree_of F highest) tree q.0) found.apart fits.read.leaves.apart
        (λ n v i e. safe n i (λ t. inl (touched_block tree (in_turn changes) (shown n) q v e t)) (λ t. inr (forgotten q.0 (forgotten_block parts.listed (in_turn changes) tree (shown n) q v e t)))) (λ n v i e. look block_kind q n v i e);
    entries = λ q. near entry_kind F kept q (IsTouched (last_made (makes_entry q) tree (in_turn changes))) found.apart fits.read.leaves.apart
        (λ n v i e. safe n i (λ t. touched_entry tree (in_turn changes) (shown n) q v e t) (λ t. absurd (forgotten_entry parts.listed (in_turn changes) tree (shown n) q v e t))) (λ n v i e. look entry_kind q n v i e);
    highest = refl;
  });
  listed = λ q none. ap (λ (list : List ℕ). list_any (λ ino. q == ino) list) all ∙ fits.listed q none;
}
  where
    highest : ℕ
    highest = committed_highest parts

    all : listed_left parts ≡ parts.listed
    all = all_left parts kept fits.read

    F : List Kept
    F = leaves_found parts

    tree : Tree
    tree = tree_of kept highest

    found : IsLeafMap F
    found = found_map parts kept fits.read

    safe : {T : Type 0} (n : LeafNode) → IsNodeOfLeaves kept n → (IsTouchedIn tree (in_turn changes) (shown n) → T) → (IsOfForgotten parts.listed (in_turn changes) tree (shown n) → T) → IsNodeOfLeaves F n ⊎ T
    safe n i to out = elim (safe_node parts tree (in_turn changes) kept n fits.safe i) [
      | inl has ↦ inl (found_nodes parts kept fits.read n has)
      | inr t ↦ elim t [
        | inl a ↦ inr (to a)
        | inr b ↦ inr (out b)
      ]
    ]

    -- in place of an inode or a block
    in_place : (n : LeafNode) → IsNodeOfLeaves kept n → is_entry (shown n) ≡ false → There F n
    in_place n i plain = walk (there_walk parts kept fits.read.leaves.keyed fits.read.leaves.apart) (spare_copies parts) kept parts.committed (pairs_of parts kept parts.committed fits.read.read)
        fits.read.leaves.keyed (spare_good parts kept fits.read) (spare_known parts kept fits.read) (λ n i. i) n i plain

    unlinked_there : (q : ℕ) (v : Inode) → (v.nlink == 0) ≡ true → Shower inode_key kept q v → is_nameless (tree_of F highest) q ≡ true
    unlinked_there q v z (n, i, s) = by (in_place n i (inode_plain (shown n) q v s))
      where
        by : There F n → is_nameless (tree_of F highest) q ≡ true
        by (m, j, t, inl is) = ap unlinked (shown_found inode_kind F m q v found.apart j (ap (λ (w : LeafNode). inode_key (shown w)) is ∙ s)) ∙ z
        by (m, j, t, inr (k, stands)) =
            let w = inode_told (shown n) (shown m) q v s t in
            ap unlinked (shown_found inode_kind F m q w.0 found.apart j w.1) ∙ unlinked_shown (shown m) q w.0 (stand_linkless k m stands) w.1

    forgotten : (q : ℕ) → IsForgotten parts.listed (in_turn changes) tree q → AreForgotten parts.listed (in_turn changes) (tree_of F highest) tree q
    forgotten q f = (record { nameless = by (inode_at tree q) refl; listed = f.listed; unset = f.unset }, f)
      where
        by : (o : Option Inode) → inode_at tree q ≡ o → is_nameless (tree_of F highest) q ≡ true
        by None e = absurd (false≢true (sym (ap unlinked e) ∙ f.nameless))
        by (Some v) e = unlinked_there q v (sym (ap unlinked e) ∙ f.nameless) (found_shown inode_kind kept q v e)

    seen : (n : LeafNode) → IsNodeOfLeaves F n → Seen kept n
    seen n i = walk (seen_walk parts kept fits.read.leaves.keyed) (spare_copies parts) kept parts.committed (pairs_of parts kept parts.committed fits.read.read) fits.read.leaves.keyed (spare_known parts kept fits.read) (λ n i. i) n i

    look : {K X : Type 0} {cmp : K → K → Ordering} {with : Option Change → List (K × X) → List (K × X)} {all : List Kept → List (K × X)} {key : Option Change → Option (K × X)} → Kind cmp with all key
        → (q : K) (n : LeafNode) (v : X) → IsNodeOfLeaves F n → key (shown n) ≡ Some (q, v) → (w : X) × Shower key kept q w
    look {K} {X} {cmp} {with} {all} {key} kind q n v j e = by (seen n j)
      where
        by : Seen kept n → (w : X) × Shower key kept q w
        by (m, i, s) =
            let w = kind.told (shown n) (shown m) q v e (same_turned (shown m) (shown n) (node_shown kept m fits.read.leaves.keyed i) (node_shown F n found.keyed j) s) in
            (w.0, (m, i, w.1))

    there : (q : ℕ) (o : Option Inode) → inode_at (tree_of kept highest) q ≡ o → (p : Option Inode) → inode_at (tree_of F highest) q ≡ p → is_some (inode_at (tree_of F highest) q) ≡ is_some (inode_at (tree_of kept highest) q)
    there q o e p f = by o e p f
      where
        from_kept : (v : Inode) → Shower inode_key kept q v → inode_at (tree_of F highest) q ≡ None → ⊥
        from_kept v (n, i, s) f = from_found (in_place n i (inode_plain (shown n) q v s))
          where
            from_found : There F n → ⊥
            from_found (m, j, t, which) =
                let w = inode_told (shown n) (shown m) q v s t in
                let is : Some w.0 ≡ None = sym (shown_found inode_kind F m q w.0 found.apart j w.1) ∙ f in
                absurd cc

        from_seen : (v : Inode) → Shower inode_key F q v → inode_at (tree_of kept highest) q ≡ None → ⊥
        from_seen v (n, i, s) e = back (look inode_kind q n v i s)
          where
            back : (w : Inode) × Shower inode_key kept q w → ⊥
            back (w, (m, j, t)) = let is : Some w ≡ None = sym (shown_found inode_kind kept m q w fits.read.leaves.apart j t) ∙ e in absurd cc

        by : (o : Option Inode) → inode_at (tree_of kept highest) q ≡ o → (p : Option Inode) → inode_at (tree_of F highest) q ≡ p → is_some (inode_at (tree_of F highest) q) ≡ is_some (inode_at (tree_of kept highest) q)
        by (Some v) e (Some w) f = ap is_some f ∙ sym (ap is_some e)
        by None e None f = ap is_some f ∙ sym (ap is_some e)
        by (Some v) e None f = absurd (from_kept v (found_shown inode_kind kept q v e) f)
        by None e (Some w) f = absurd (from_seen w (found_shown inode_kind F q w f) e)
