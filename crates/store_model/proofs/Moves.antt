-- A copy changes no file: the leaf shows what it showed, under the key that it had.
use Rattle.std.proofs.Common.{◌≡◌, ℕ, Bool, true, false, cond, not, List, [], ◌∷◌, map, refl, sym, ap, subst, ◌∙◌, arith, inl, inr, Option, Some, None}
use Rattle.std.specs.Prelude.{◌==◌, ◌&&◌, nat_le}
use Rattle.std.specs.List.{AllByRecursion, list_all}
use Rattle.std.specs.Option.{option_map}
use Rattle.std.proofs.lemmas.Bool.{false≢true}
use Rattle.std.proofs.lemmas.Bool.Decides.{nat_tests}
use Rattle.std.proofs.lemmas.Map.Keys.{IsDistinct-head, IsDistinct-tail}
use Rattle.media_leaf.specs.LeafNode.{LeafNode, inode, block, entry, truncation}
use Rattle.media_leaf.specs.declared.dent_node.DentNode.{DentNode}
use Rattle.media_leaf.specs.declared.ino_node.InoNode.{InoNode}
use Rattle.index_tree.specs.declared.leaf.Leaf.{Leaf}
use Rattle.index_tree.specs.Distinct.{AreDistinct}
use Rattle.index_tree.specs.Order.{key_rank, leaf_rank, ordered_from}
use Rattle.index_tree.specs.Removal.{same_leaf}
use Rattle.fs_model.specs.declared.change.Change.{Change}
use Rattle.fs_model.specs.declared.change.Change.TheVariants.{SetInode, SetEntry, SetBlock, DropEntry}
use Rattle.fs_model.specs.declared.inode.Kind.{Kind}
use Rattle.group_nodes.specs.Nodes.{bits_of, inode_of, kind_of_bits, kind_of_type}
use Rattle.leaf_map.specs.Kept.{Kept, kept_at, node_key, shown, shown_by}
use Rattle.leaf_map.specs.LeafMap.{HasKeyOf, IsKeyed, IsLeafMap, are_apart, shows_same}
use Rattle.store_model.specs.Events.{Copying, at_its_copy}
use Rattle.store_model.specs.Legal.{IsLeafOf}

-- ---- the leaf is the only one at its place
same_number : (m n : ℕ) → (m == n) ≡ (n == m)
same_number m n = grind (arith, nat_tests)

same_turned : (x y : Leaf) → same_leaf x y ≡ same_leaf y x
unfolding same_leaf
same_turned x y = rw (same_number (leaf_rank x) (leaf_rank y), same_number x.lnum y.lnum, same_number x.offs y.offs, same_number x.len y.len) refl

not_same : (z : Leaf) (live : List Kept) (y : Kept) → AllByRecursion (λ l. same_leaf z l ≡ false) (map (λ x. x.leaf) live) → IsLeafOf live y → same_leaf z y.leaf ≡ false
not_same z [] y h i = absurd i
not_same z (x ∷ live) y h (inl e) = ap (λ (k : Kept). same_leaf z k.leaf) (sym e) ∙ h.0
not_same z (x ∷ live) y h (inr i) = not_same z live y h.1 i

pub one_leaf : (live : List Kept) (x y : Kept) → AreDistinct (map (λ x. x.leaf) live) → IsLeafOf live x → IsLeafOf live y → same_leaf y.leaf x.leaf ≡ true → y ≡ x
one_leaf [] x y d i j h = absurd i
one_leaf (z ∷ live) x y d (inl e) (inl f) h = sym f ∙ e
one_leaf (z ∷ live) x y d (inl e) (inr j) h =
    let apart = not_same z.leaf live y (IsDistinct-head same_leaf z.leaf (map (λ x. x.leaf) live) d) j in
    absurd (false≢true (sym apart ∙ ap (λ (k : Kept). same_leaf k.leaf y.leaf) e ∙ same_turned x.leaf y.leaf ∙ h))
one_leaf (z ∷ live) x y d (inr i) (inl f) h =
    let apart = not_same z.leaf live x (IsDistinct-head same_leaf z.leaf (map (λ x. x.leaf) live) d) i in
    absurd (false≢true (sym apart ∙ ap (λ (k : Kept). same_leaf k.leaf x.leaf) f ∙ h))
one_leaf (z ∷ live) x y d (inr i) (inr j) h = one_leaf live x y (IsDistinct-tail same_leaf z.leaf (map (λ x. x.leaf) live) d) i j h

-- ---- a leaf's key is its node's
inode_key : (l : Leaf) (node : InoNode) (k : Option Kind) → HasKeyOf l (option_map (λ kind. SetInode node.ino (inode_of node kind)) k) → l.key ≡ node_key (inode node)
inode_key l node None h = absurd h
inode_key l node (Some kind) h = h

entry_has : (l : Leaf) (node : DentNode) (a z : Bool) (k : Option Kind) → node.attribute ≡ a
    → HasKeyOf l (cond a None (cond z (Some (DropEntry node.dir node.name)) (option_map (λ kind. SetEntry (record { dir = node.dir; name = node.name; ino = node.inum; kind = kind })) k)))
    → l.key ≡ node_key (entry node)
entry_has l node true z k e h = absurd h
entry_has l node false true k e h = absurd h
entry_has l node false false None e h = absurd h
entry_has l node false false (Some kind) e h = rw e h

key_is : (l : Leaf) (node : LeafNode) → HasKeyOf l (shown node) → l.key ≡ node_key node
key_is l (inode node) h = inode_key l node (kind_of_bits (bits_of node.mode)) h
key_is l (block node) h = h.0
key_is l (entry node) h = entry_has l node node.attribute (node.inum == 0) (kind_of_type node.kind) refl h
key_is l (truncation node) h = absurd h

has_key : (l k : Leaf) (s : Option Change) → k.key ≡ l.key → HasKeyOf l s → HasKeyOf k s
has_key l k (Some (SetInode ino x)) e h = e ∙ h
has_key l k (Some (SetBlock ino number bytes)) e h = (e ∙ h.0, h.1)
has_key l k (Some (SetEntry x)) e h = e ∙ h
has_key l k s e h = absurd h

-- ---- leaves that move
abbrev pub StaysLeaf : (Kept → Kept) → Kept → Type 0
StaysLeaf go x = ((go x).leaf.key ≡ x.leaf.key) × ((go x).node ≡ x.node)

moved_keyed : (go : Kept → Kept) (live : List Kept) → AllByRecursion (StaysLeaf go) live → AllByRecursion IsKeyed live → AllByRecursion IsKeyed (map go live)
moved_keyed go [] s k = tt
moved_keyed go (x ∷ live) s k = (
  subst (λ (node : LeafNode). HasKeyOf (go x).leaf (shown node)) (sym s.0.1) (has_key x.leaf (go x).leaf (shown_by x) s.0.0 k.0),
  moved_keyed go live s.1 k.1,
)

moved_ordered : (go : Kept → Kept) (low : ℕ) (live : List Kept) → AllByRecursion (StaysLeaf go) live → ordered_from low (map (λ x. x.leaf) (map go live)) ≡ ordered_from low (map (λ x. x.leaf) live)
moved_ordered go low [] s = refl
moved_ordered go low (x ∷ live) s =
    let rank = ap key_rank s.0.0 in
    ap (λ (n : ℕ). nat_le low n && ordered_from n (map (λ x. x.leaf) (map go live))) rank ∙ ap (λ (b : Bool). nat_le low (leaf_rank x.leaf) && b) (moved_ordered go (leaf_rank x.leaf) live s.1)

moved_others : (go : Kept → Kept) (t : Option Change) (live : List Kept) → AllByRecursion (StaysLeaf go) live → list_all (λ y. not (shows_same t (shown_by y))) (map go live) ≡ list_all (λ y. not (shows_same t (shown_by y))) live
moved_others go t [] s = refl
moved_others go t (x ∷ live) s =
    ap (λ (node : LeafNode). not (shows_same t (shown node)) && list_all (λ y. not (shows_same t (shown_by y))) (map go live)) s.0.1
    ∙ ap (λ (b : Bool). not (shows_same t (shown_by x)) && b) (moved_others go t live s.1)

moved_apart : (go : Kept → Kept) (live : List Kept) → AllByRecursion (StaysLeaf go) live → are_apart (map go live) ≡ are_apart live
moved_apart go [] s = refl
moved_apart go (x ∷ live) s =
    ap (λ (node : LeafNode). list_all (λ y. not (shows_same (shown node) (shown_by y))) (map go live) && are_apart (map go live)) s.0.1
    ∙ ap (λ (b : Bool). b && are_apart (map go live)) (moved_others go (shown_by x) live s.1)
    ∙ ap (λ (b : Bool). list_all (λ y. not (shows_same (shown_by x) (shown_by y))) live && b) (moved_apart go live s.1)

moved_map : (go : Kept → Kept) (live : List Kept) → AllByRecursion (StaysLeaf go) live → IsLeafMap live → IsLeafMap (map go live)
moved_map go live s is = record { keyed = moved_keyed go live s is.keyed; ordered = moved_ordered go 0 live s ∙ is.ordered; apart = moved_apart go live s ∙ is.apart }

-- ---- a copy
keyed_at : (live : List Kept) (x : Kept) → AllByRecursion IsKeyed live → IsLeafOf live x → IsKeyed x
keyed_at [] x k i = absurd i
keyed_at (y ∷ live) x k (inl e) = subst IsKeyed e k.0
keyed_at (y ∷ live) x k (inr i) = keyed_at live x k.1 i

pub copy_node : (c : Copying) (x : Kept) → (at_its_copy c x).node ≡ x.node
copy_node c x = by (same_leaf x.leaf c.leaf.leaf)
  where
    by : (b : Bool) → (cond b (record x { leaf = (kept_at c.copy).leaf }) x).node ≡ x.node
    by true = refl
    by false = refl

copy_key : (c : Copying) (live : List Kept) (x : Kept) → AreDistinct (map (λ x. x.leaf) live) → AllByRecursion IsKeyed live → IsLeafOf live c.leaf → c.copy.node ≡ c.leaf.node → IsLeafOf live x
    → (at_its_copy c x).leaf.key ≡ x.leaf.key
copy_key c live x d k i same j = by (same_leaf x.leaf c.leaf.leaf) refl
  where
    by : (b : Bool) → same_leaf x.leaf c.leaf.leaf ≡ b → (cond b (record x { leaf = (kept_at c.copy).leaf }) x).leaf.key ≡ x.leaf.key
    by true e =
        let is = one_leaf live c.leaf x d i j e in
        ap node_key same ∙ sym (key_is c.leaf.leaf c.leaf.node (keyed_at live c.leaf k i)) ∙ ap (λ (y : Kept). y.leaf.key) (sym is)
    by false e = refl

-- each of them is one of them
more_leaves : (x : Kept) (all live : List Kept) → AllByRecursion (IsLeafOf all) live → AllByRecursion (IsLeafOf (x ∷ all)) live
more_leaves x all [] h = tt
more_leaves x all (y ∷ live) h = (inr h.0, more_leaves x all live h.1)

pub all_leaves : (live : List Kept) → AllByRecursion (IsLeafOf live) live
all_leaves [] = tt
all_leaves (x ∷ live) = (inl refl, more_leaves x live live (all_leaves live))

pub copies_stay : (c : Copying) (all live : List Kept) → AreDistinct (map (λ x. x.leaf) all) → AllByRecursion IsKeyed all → IsLeafOf all c.leaf → c.copy.node ≡ c.leaf.node → AllByRecursion (IsLeafOf all) live
    → AllByRecursion (StaysLeaf (at_its_copy c)) live
copies_stay c all [] d k i same h = tt
copies_stay c all (x ∷ live) d k i same h = ((copy_key c all x d k i same h.0, copy_node c x), copies_stay c all live d k i same h.1)

pub copied_map : (c : Copying) (live : List Kept) → AreDistinct (map (λ x. x.leaf) live) → IsLeafOf live c.leaf → c.copy.node ≡ c.leaf.node → IsLeafMap live → IsLeafMap (map (at_its_copy c) live)
copied_map c live d i same is = moved_map (at_its_copy c) live (copies_stay c live live d is.keyed i same (all_leaves live)) is
