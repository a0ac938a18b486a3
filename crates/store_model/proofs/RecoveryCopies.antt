-- A copy that shows what a committed leaf shows is that leaf's node.
use Rattle.std.proofs.Common.{◌≡◌, ◌⊎◌, ℕ, ◌≤◌, zero, suc, Bool, true, false, not, List, [], ◌∷◌, take, refl, sym, subst, ◌∙◌, arith, inl, inr, Option, Some}
use Rattle.std.specs.Prelude.{◌==◌, ◌&&◌, ◌||◌}
use Rattle.std.specs.Cmp.Lexicographic.{slice_cmp}
use Rattle.std.specs.List.{AllByRecursion, list_all, list_any}
use Rattle.std.specs.Ordering.{nat_cmp, is_eq}
use Rattle.std.specs.declared.cmp.Ordering.{Ordering}
use Rattle.std.specs.declared.cmp.Ordering.TheVariants.{Less, Equal, Greater}
use Rattle.std.proofs.lemmas.Map.Lookups.{exact_bytes}
use Rattle.std.proofs.lemmas.Bool.{false≢true, and_parts, and_from, eqb-true, eq-eqb}
use Rattle.media_leaf.specs.LeafNode.{IsLeaf, LeafNode}
use Rattle.index_tree.specs.declared.leaf.Leaf.{Leaf}
use Rattle.fs_model.specs.declared.change.Change.{Change}
use Rattle.fs_model.specs.declared.change.Change.TheVariants.{SetInode, SetEntry, SetBlock}
use Rattle.fs_model.specs.Path.{is_same_name}
use Rattle.leaf_map.specs.Allowed.{IsNodeCopied, IsNodeOfLeaves}
use Rattle.leaf_map.specs.Kept.{Kept, Placed, shown, shown_by}
use Rattle.leaf_map.specs.LeafMap.{HasKeyOf, IsKeyed, are_apart, shows_same}
use Rattle.leaf_map.specs.Parts.{is_shown}

pub not_true : (b : Bool) → not b ≡ true → b ≡ false
not_true true h = absurd (false≢true h)
not_true false h = refl

pub either_of : (a b : Bool) → (a || b) ≡ true → (a ≡ true) ⊎ (b ≡ true)
either_of true b h = inl refl
either_of false b h = inr h

pub number_turned : (a b : ℕ) → (a == b) ≡ true → (b == a) ≡ true
number_turned a b h = eq-eqb b a (sym (eqb-true a b h))

-- names that are told as the same are
name_is : (a b : List ℕ) → is_same_name a b ≡ true → a ≡ b
name_is a b h = by (slice_cmp nat_cmp a b) refl h
  where
    by : (o : Ordering) → slice_cmp nat_cmp a b ≡ o → is_eq o ≡ true → a ≡ b
    by Less e t = absurd (false≢true t)
    by Equal e t = exact_bytes a b e
    by Greater e t = absurd (false≢true t)

pub name_turned : (a b : List ℕ) → is_same_name a b ≡ true → is_same_name b a ≡ true
name_turned a b h = let e = name_is a b h in subst (λ z. is_same_name z a ≡ true) e (subst (λ z. is_same_name a z ≡ true) (sym e) h)

pub keyed_shown : (l : Leaf) (s : Option Change) → HasKeyOf l s → is_shown s ≡ true
keyed_shown l (Some (SetInode a x)) h = refl
keyed_shown l (Some (SetBlock a n x)) h = refl
keyed_shown l (Some (SetEntry e)) h = refl
keyed_shown l s h = absurd h

-- of what is shown each shows the same as the other
pub same_turned : (l m : Leaf) (s t : Option Change) → HasKeyOf l s → HasKeyOf m t → shows_same s t ≡ true → shows_same t s ≡ true
same_turned l m (Some (SetInode a x)) (Some (SetInode b y)) h g e = number_turned b a e
same_turned l m (Some (SetBlock a n x)) (Some (SetBlock b k y)) h g e =
    let p = and_parts (b == a) (k == n) e in and_from (a == b) (n == k) (number_turned b a p.0) (number_turned k n p.1)
same_turned l m (Some (SetEntry a)) (Some (SetEntry b)) h g e =
    let p = and_parts (b.dir == a.dir) (is_same_name b.name a.name) e in and_from (a.dir == b.dir) (is_same_name a.name b.name) (number_turned b.dir a.dir p.0) (name_turned b.name a.name p.1)
same_turned l m (Some (SetInode a x)) t h g e = absurd (false≢true e)
same_turned l m (Some (SetBlock a n x)) t h g e = absurd (false≢true e)
same_turned l m (Some (SetEntry a)) t h g e = absurd (false≢true e)
same_turned l m s t h g e = absurd h

-- what all leaves pass their nodes pass
pub at_node : (p : Option Change → Bool) (kept : List Kept) (n : LeafNode) → list_all (λ y. p (shown_by y)) kept ≡ true → IsNodeOfLeaves kept n → p (shown n) ≡ true
at_node p [] n h i = absurd i
at_node p (x ∷ kept) n h (inl e) = subst (λ z. p (shown z) ≡ true) (sym e) (and_parts (p (shown_by x)) (list_all (λ y. p (shown_by y)) kept) h).0
at_node p (x ∷ kept) n h (inr i) = at_node p kept n (and_parts (p (shown_by x)) (list_all (λ y. p (shown_by y)) kept) h).1 i

-- a leaf's node has a key
pub node_keyed : (kept : List Kept) (n : LeafNode) → AllByRecursion IsKeyed kept → IsNodeOfLeaves kept n → (l : Leaf) × HasKeyOf l (shown n)
node_keyed [] n k i = absurd i
node_keyed (x ∷ kept) n k (inl e) = (x.leaf, subst (λ z. HasKeyOf x.leaf (shown z)) (sym e) k.0)
node_keyed (x ∷ kept) n k (inr i) = node_keyed kept n k.1 i

-- of leaves of which none shows what another does one node alone shows it
pub one_node : (kept : List Kept) (m n : LeafNode) → AllByRecursion IsKeyed kept → are_apart kept ≡ true → IsNodeOfLeaves kept m → IsNodeOfLeaves kept n → shows_same (shown m) (shown n) ≡ true → m ≡ n
one_node [] m n k a i j e = absurd i
one_node (x ∷ kept) m n k a (inl i) (inl j) e = i ∙ sym j
one_node (x ∷ kept) m n k a (inl i) (inr j) e =
    let p = and_parts (list_all (λ y. not (shows_same (shown_by x) (shown_by y))) kept) (are_apart kept) a in
    let no = not_true (shows_same (shown_by x) (shown n)) (at_node (λ t. not (shows_same (shown_by x) t)) kept n p.0 j) in
    absurd (false≢true (sym no ∙ subst (λ (z : LeafNode). shows_same (shown z) (shown n) ≡ true) i e))
one_node (x ∷ kept) m n k a (inr i) (inl j) e =
    let p = and_parts (list_all (λ y. not (shows_same (shown_by x) (shown_by y))) kept) (are_apart kept) a in
    let no = not_true (shows_same (shown_by x) (shown m)) (at_node (λ t. not (shows_same (shown_by x) t)) kept m p.0 i) in
    let of = node_keyed kept m k.1 i in
    let back = same_turned of.0 x.leaf (shown m) (shown n) of.1 (subst (λ z. HasKeyOf x.leaf (shown z)) (sym j) k.0) e in
    absurd (false≢true (sym no ∙ subst (λ (z : LeafNode). shows_same (shown z) (shown m) ≡ true) j back))
one_node (x ∷ kept) m n k a (inr i) (inr j) e =
    let p = and_parts (list_all (λ y. not (shows_same (shown_by x) (shown_by y))) kept) (are_apart kept) a in
    one_node kept m n k.1 p.1 i j e

-- what is so of all copies is so of the first ones
pub all_taken : (P : Placed → Type 0) (n : ℕ) (ds : List Placed) → AllByRecursion P ds → AllByRecursion P (take n ds)
all_taken P zero ds h = tt
all_taken P (suc n) [] h = tt
all_taken P (suc n) (d ∷ ds) h = (h.0, all_taken P n ds h.1)

-- a leaf that has one among the first copies has it among more of them
pub copied : (kept : List Kept) (x : Kept) (n m : ℕ) (ds : List Placed) → n ≤ m → AllByRecursion IsKeyed kept → are_apart kept ≡ true → IsNodeOfLeaves kept x.node → AllByRecursion (λ d. IsLeaf d.node × IsNodeOfLeaves kept d.node) ds
    → list_any (λ c. (c.sqnum == x.sqnum) && shows_same (shown_by x) (shown c.node)) (take n ds) ≡ true → IsNodeCopied (take m ds) x.node
copied kept x zero m ds le k a i all h = absurd (false≢true h)
copied kept x (suc n) m [] le k a i all h = absurd (false≢true h)
copied kept x (suc n) zero (d ∷ ds) le k a i all h = absurd (omega (arith, le))
copied kept x (suc n) (suc m) (d ∷ ds) le k a i all h = by (either_of ((d.sqnum == x.sqnum) && shows_same (shown_by x) (shown d.node)) (list_any (λ c. (c.sqnum == x.sqnum) && shows_same (shown_by x) (shown c.node)) (take n ds)) h) (copied kept x n m ds (omega (arith, le)) k a i all.1)
  where
    by : (((d.sqnum == x.sqnum) && shows_same (shown_by x) (shown d.node)) ≡ true) ⊎ (list_any (λ c. (c.sqnum == x.sqnum) && shows_same (shown_by x) (shown c.node)) (take n ds) ≡ true) → (list_any (λ c. (c.sqnum == x.sqnum) && shows_same (shown_by x) (shown c.node)) (take n ds) ≡ true → IsNodeCopied (take m ds) x.node) → IsNodeCopied (d ∷ take m ds) x.node
    by (inl e) more = inl (one_node kept x.node d.node k a i all.0.1 (and_parts (d.sqnum == x.sqnum) (shows_same (shown_by x) (shown d.node)) e).1)
    by (inr e) more = inr (more e)
