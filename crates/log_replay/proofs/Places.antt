-- Names stand at places of their own: those that are found, and each node that sets one.
use Rattle.std.proofs.Common.{◌≡◌, inl, inr, ℕ, Bool, true, false, cond, not, List, [], ◌∷◌, ◌++◌, map, refl, sym, ap, subst, ◌∙◌, Option, Some, None}
use Rattle.std.specs.Prelude.{◌==◌, ◌&&◌, nat_le, nat_lt, filter, fold}
use Rattle.std.specs.List.{AllByRecursion, find, list_any}
use Rattle.std.proofs.lemmas.Bool.{and_parts, and_from, eqb-true, eq-eqb, false≢true, false_from_ne_true}
use Rattle.std.proofs.lemmas.Map.Keys.{IsDistinct-head, IsDistinct-tail, IsDistinct-cons}
use Rattle.ubifs_base.specs.declared.key.Key.{Key}
use Rattle.ubifs_base.specs.declared.key.Key.TheVariants.{Ino, Block, Dent, Xent}
use Rattle.media_leaf.specs.LeafNode.{LeafNode, IsLeaf, inode, block}
use Rattle.index_tree.specs.declared.index.Index.{Index}
use Rattle.index_tree.specs.declared.leaf.Leaf.{Leaf}
use Rattle.index_tree.specs.Distinct.{AreDistinct}
use Rattle.index_tree.specs.Order.{leaf_rank}
use Rattle.index_tree.specs.Removal.{same_leaf, holds}
use Rattle.fs_model.specs.declared.change.Change.{Change}
use Rattle.fs_model.specs.declared.change.Change.TheVariants.{SetInode, SetEntry, SetBlock}
use Rattle.group_nodes.specs.Nodes.{change_of, gone_inode, inode_node}
use Rattle.leaf_map.specs.After.{is_gone, is_idle, is_set, kept_after, kept_with, put_leaf, read}
use Rattle.leaf_map.specs.Kept.{Kept, Placed, kept_at, shown, shown_by}
use Rattle.leaf_map.specs.Allowed.{IsNodeOfLeaves}
use Rattle.leaf_map.specs.LeafMap.{HasKeyOf, IsKeyed, shows_same}
use Rattle.leaf_map.specs.Parts.{Committed, Named, Parts, in_bud, is_own, is_shown, own_node}
use Rattle.leaf_map.specs.Recovered.{copies_left, copy_of_key, found_leaves, nodes_in_order, is_original, leaf_found_for, leaves_found, placed_node, spare_copies, stand_in}
use Rattle.journal_scan.specs.Places.{HasNamedPlace, IsElsewhere, StandApart, at_one_place}
use Rattle.journal_scan.specs.declared.journal_node.JournalNode.{JournalNode}
use Rattle.log_replay.specs.Standing.{AreFresh, is_entry, leaves, names_in}
use Rattle.log_replay.specs.Told.{AreLeavesOf, AreNodesOf, IsOfJournal, IsSetting, IsToldBy}
use Rattle.log_replay.proofs.Tests.{key, name_here}

-- ---- places
-- whether a node stands at a leaf's place
abbrev at_place : Leaf → Placed → Bool
at_place leaf y = (y.lnum == leaf.lnum) && (y.offs == leaf.offs)

-- none of these nodes does
abbrev IsFar : Leaf → List Placed → Type 0
IsFar leaf nodes = AllByRecursion (λ y. at_place leaf y ≡ false) nodes

record OnePlace (x y : Leaf) : Type 0 where
  lnum : x.lnum ≡ y.lnum
  offs : x.offs ≡ y.offs

one_place : (x y : Leaf) → same_leaf x y ≡ true → OnePlace x y
unfolding same_leaf
one_place x y h = by (leaf_rank x == leaf_rank y) (x.lnum == y.lnum) refl (x.offs == y.offs) refl h
  where
    by : (a b : Bool) → (x.lnum == y.lnum) ≡ b → (c : Bool) → (x.offs == y.offs) ≡ c → cond a (cond b (cond c (x.len == y.len) false) false) false ≡ true → OnePlace x y
    by true true e true f t = record { lnum = eqb-true x.lnum y.lnum e; offs = eqb-true x.offs y.offs f }
    by true true e false f t = absurd (false≢true t)
    by true false e c f t = absurd (false≢true t)
    by false b e c f t = absurd (false≢true t)

same_bud : (named : List Named) (x y : Leaf) → OnePlace x y → in_bud named x ≡ in_bud named y
same_bud [] x y o = refl
same_bud (b ∷ named) x y o = rw (o.lnum, o.offs, same_bud named x y o) refl

-- a place in a bud is none that is in no bud
apart_by_bud : (named : List Named) (x y : Leaf) → in_bud named x ≡ false → in_bud named y ≡ true → same_leaf x y ≡ false
apart_by_bud named x y h g = false_from_ne_true (same_leaf x y) (λ e. false≢true (sym h ∙ same_bud named x y (one_place x y e) ∙ g))

apart_by_bud_turned : (named : List Named) (x y : Leaf) → in_bud named x ≡ true → in_bud named y ≡ false → same_leaf x y ≡ false
apart_by_bud_turned named x y h g = false_from_ne_true (same_leaf x y) (λ e. false≢true (sym g ∙ sym (same_bud named x y (one_place x y e)) ∙ h))

far_by_bud : (named : List Named) (x : Leaf) (nodes : List Placed) → in_bud named x ≡ false → AllByRecursion (HasNamedPlace named) nodes → IsFar x nodes
far_by_bud named x [] h a = tt
far_by_bud named x (y ∷ nodes) h a = (false_from_ne_true (at_place x y) by, far_by_bud named x nodes h a.1)
  where
    by : at_place x y ≡ true → ⊥
    by e =
        let p = and_parts (y.lnum == x.lnum) (y.offs == x.offs) e in
        let o : OnePlace (kept_at y).leaf x = record { lnum = eqb-true y.lnum x.lnum p.0; offs = eqb-true y.offs x.offs p.1 } in
        false≢true (sym h ∙ sym (same_bud named (kept_at y).leaf x o) ∙ a.0)

-- far from a node is no leaf of its place
far_leaf : (x : Leaf) (y : Placed) → at_place x y ≡ false → same_leaf x (kept_at y).leaf ≡ false
far_leaf x y h = false_from_ne_true (same_leaf x (kept_at y).leaf) by
  where
    by : same_leaf x (kept_at y).leaf ≡ true → ⊥
    by e =
        let o = one_place x (kept_at y).leaf e in
        false≢true (sym h ∙ and_from (y.lnum == x.lnum) (y.offs == x.offs) (eq-eqb y.lnum x.lnum (sym o.lnum)) (eq-eqb y.offs x.offs (sym o.offs)))

-- ---- lists of nodes
all_with : {X : Type 0} (Q R : X → Type 0) → ((x : X) → Q x → R x) → (xs : List X) → AllByRecursion Q xs → AllByRecursion R xs
all_with Q R f [] a = tt
all_with Q R f (x ∷ xs) a = (f x a.0, all_with Q R f xs a.1)

filter_all : {X : Type 0} (Q : X → Type 0) (p : X → Bool) (xs : List X) → AllByRecursion Q xs → AllByRecursion Q (filter p xs)
filter_all Q p [] a = tt
filter_all {X} Q p (x ∷ xs) a = by (p x) (filter_all Q p xs a.1)
  where
    by : (b : Bool) → AllByRecursion Q (filter p xs) → AllByRecursion Q (cond b (x ∷ filter p xs) (filter p xs))
    by true more = (a.0, more)
    by false more = more

filter_apart : (p : Placed → Bool) (xs : List Placed) → StandApart xs → StandApart (filter p xs)
filter_apart p [] a = tt
filter_apart p (x ∷ xs) a = by (p x) (filter_apart p xs a.1)
  where
    by : (b : Bool) → StandApart (filter p xs) → StandApart (cond b (x ∷ filter p xs) (filter p xs))
    by true more = (filter_all (λ y. at_one_place x y ≡ false) p xs a.0, more)
    by false more = more

find_all : (Q : Placed → Type 0) (p : Placed → Bool) (ds : List Placed) (d : Placed) → AllByRecursion Q ds → find p ds ≡ Some d → Q d
find_all Q p [] d a f = absurd cc
find_all Q p (e ∷ ds) d a f = by (find_all Q p ds d a.1) (p e) f
  where
    by : (find p ds ≡ Some d → Q d) → (b : Bool) → cond b (Some e) (find p ds) ≡ Some d → Q d
    by more true g = let same : e ≡ d = cc g in subst Q same a.0
    by more false g = more g

same_number : (a b : ℕ) → (a == b) ≡ (b == a)
same_number a b = by (a == b) refl (b == a) refl
  where
    by : (c : Bool) → (a == b) ≡ c → (d : Bool) → (b == a) ≡ d → c ≡ d
    by true e true f = refl
    by true e false f = absurd (false≢true (sym f ∙ eq-eqb b a (sym (eqb-true a b e))))
    by false e true f = absurd (false≢true (sym e ∙ eq-eqb a b (sym (eqb-true b a f))))
    by false e false f = refl

turned : (x y : Placed) → at_one_place x y ≡ at_one_place y x
turned x y = ap (λ (b : Bool). b && (y.offs == x.offs)) (same_number y.lnum x.lnum) ∙ ap (λ (b : Bool). (x.lnum == y.lnum) && b) (same_number y.offs x.offs)

-- what is found is elsewhere than all that is left without it
found_elsewhere : (p r : Placed → Bool) (ds : List Placed) (d : Placed) → StandApart ds → find p ds ≡ Some d → r d ≡ false → IsElsewhere d (filter r ds)
found_elsewhere p r [] d a f g = absurd cc
found_elsewhere p r (e ∷ ds) d a f g = by (λ f. found_elsewhere p r ds d a.1 f g) (p e) f (r e) refl
  where
    by : (find p ds ≡ Some d → IsElsewhere d (filter r ds)) → (b : Bool) → cond b (Some e) (find p ds) ≡ Some d → (c : Bool) → r e ≡ c → IsElsewhere d (cond c (e ∷ filter r ds) (filter r ds))
    by more true f true h = let same : e ≡ d = cc f in absurd (false≢true (sym g ∙ sym (ap r same) ∙ h))
    by more true f false h = let same : e ≡ d = cc f in subst (λ (z : Placed). IsElsewhere z (filter r ds)) same (filter_all (λ y. at_one_place e y ≡ false) r ds a.0)
    by more false f true h = (turned d e ∙ find_all (λ y. at_one_place e y ≡ false) p ds d a.0 f, more f)
    by more false f false h = more f

-- ---- nodes in order of number
placed_all : (Q : Placed → Type 0) (nodes : List Placed) (new : Placed) → AllByRecursion Q nodes → Q new → AllByRecursion Q (placed_node nodes new)
placed_all Q [] new a q = (q, tt)
placed_all Q (y ∷ nodes) new a q = by (nat_lt new.sqnum y.sqnum) (placed_all Q nodes new a.1 q)
  where
    by : (b : Bool) → AllByRecursion Q (placed_node nodes new) → AllByRecursion Q (cond b (new ∷ y ∷ nodes) (y ∷ placed_node nodes new))
    by true more = (q, a)
    by false more = (a.0, more)

sorted_all : (Q : Placed → Type 0) (acc nodes : List Placed) → AllByRecursion Q acc → AllByRecursion Q nodes → AllByRecursion Q (fold placed_node acc nodes)
sorted_all Q acc [] a b = a
sorted_all Q acc (x ∷ nodes) a b = sorted_all Q (placed_node acc x) nodes (placed_all Q acc x a b.0) b.1

placed_apart : (nodes : List Placed) (new : Placed) → StandApart nodes → IsElsewhere new nodes → StandApart (placed_node nodes new)
placed_apart [] new a e = (tt, tt)
placed_apart (y ∷ nodes) new a e = by (nat_lt new.sqnum y.sqnum) (placed_apart nodes new a.1 e.1)
  where
    by : (b : Bool) → StandApart (placed_node nodes new) → StandApart (cond b (new ∷ y ∷ nodes) (y ∷ placed_node nodes new))
    by true more = (e, a)
    by false more = (placed_all (λ z. at_one_place y z ≡ false) nodes new a.0 (turned y new ∙ e.0), more)

-- each of the first stands elsewhere than each of the second
abbrev Beside : List Placed → List Placed → Type 0
Beside xs ys = AllByRecursion (λ x. IsElsewhere x ys) xs

beside_placed : (xs acc : List Placed) (new : Placed) → Beside xs acc → IsElsewhere new xs → Beside xs (placed_node acc new)
beside_placed [] acc new b e = tt
beside_placed (x ∷ xs) acc new b e = (placed_all (λ y. at_one_place x y ≡ false) acc new b.0 (turned x new ∙ e.0), beside_placed xs acc new b.1 e.1)

sorted_apart : (acc nodes : List Placed) → StandApart acc → StandApart nodes → Beside nodes acc → StandApart (fold placed_node acc nodes)
sorted_apart acc [] a n b = a
sorted_apart acc (x ∷ nodes) a n b = sorted_apart (placed_node acc x) nodes (placed_apart acc x a b.0) n.1 (beside_placed nodes acc x b.1 n.0)

beside_none : (xs : List Placed) → Beside xs []
beside_none [] = tt
beside_none (x ∷ xs) = (tt, beside_none xs)

pub order_apart : (nodes : List Placed) → StandApart nodes → StandApart (nodes_in_order nodes)
order_apart nodes a = sorted_apart [] nodes tt a (beside_none nodes)

pub order_all : (Q : Placed → Type 0) (nodes : List Placed) → AllByRecursion Q nodes → AllByRecursion Q (nodes_in_order nodes)
order_all Q nodes a = sorted_all Q [] nodes tt a

-- ---- the leaves that are found
own_outside : (named : List Named) (c : Committed) (n : Placed) → own_node named c ≡ Some n → in_bud named c.leaf ≡ false
own_outside named c n e = by c.found e
  where
    test : (found : Placed) (b : Bool) → is_own named c.leaf found ≡ b → cond b (Some found) None ≡ Some n → in_bud named c.leaf ≡ false
    test found true o f =
        let p = and_parts (not (in_bud named c.leaf) && is_shown (shown found.node)) (same_leaf c.leaf (kept_at found).leaf) o in
        let q = and_parts (not (in_bud named c.leaf)) (is_shown (shown found.node)) p.0 in
        no (in_bud named c.leaf) q.0
      where
        no : (b : Bool) → not b ≡ true → b ≡ false
        no true h = absurd (false≢true h)
        no false h = refl
    test found false o f = absurd cc

    by : (found : Option Placed) → own_node named (record { leaf = c.leaf; found = found }) ≡ Some n → in_bud named c.leaf ≡ false
    by None f = absurd cc
    by (Some found) f = test found (is_own named c.leaf found) refl f

stand_plain : (k : Key) (m : LeafNode) → stand_in k ≡ Some m → is_entry (shown m) ≡ false
stand_plain (Ino ino) m s = let same : inode (inode_node ino gone_inode) ≡ m = cc in subst (λ z. is_entry (shown z) ≡ false) same refl
stand_plain (Block ino number) m s = let same : block (record { ino = ino; block = number; bytes = [] }) ≡ m = cc in subst (λ z. is_entry (shown z) ≡ false) same refl
stand_plain (Dent dir hash) m s = absurd cc
stand_plain (Xent dir hash) m s = absurd cc

-- the copies but for those of what a copy shows
abbrev left : Placed → List Placed → List Placed
left d copies = filter (λ c. not (shows_same (shown d.node) (shown c.node))) copies

-- what holds of each leaf that shows a name
abbrev OfNames : (Leaf → Type 0) → List Kept → Type 0
OfNames Q kept = AllByRecursion (λ x. is_entry (shown_by x) ≡ true → Q x.leaf) kept

abbrev OfOwn : List Named → (Leaf → Type 0) → List Committed → Type 0
OfOwn named Q committed = AllByRecursion (λ c. in_bud named c.leaf ≡ false → Q c.leaf) committed

abbrev OfCopies : (Leaf → Type 0) → List Placed → Type 0
OfCopies Q copies = AllByRecursion (λ d. Q (kept_at d).leaf) copies

-- it holds of the names of these leaves, whatever copies are there
abbrev HoldsOf : List Named → (Leaf → Type 0) → List Committed → Type 0
HoldsOf named Q committed = (copies : List Placed) → OfCopies Q copies → OfNames Q (found_leaves named copies committed)

-- a name that is found stands where a committed leaf does, outside of buds, or at a copy
found_names : (named : List Named) (Q : Leaf → Type 0) (copies : List Placed) (committed : List Committed) → OfOwn named Q committed → OfCopies Q copies → OfNames Q (found_leaves named copies committed)
found_names named Q copies [] a b = tt
found_names named Q copies (c ∷ committed) a b = by (λ cs q. found_names named Q cs committed a.1 q) (own_node named c) refl
  where
    stand : HoldsOf named Q committed → (m : Option LeafNode) → stand_in c.leaf.key ≡ m → copy_of_key c.leaf copies ≡ None → OfNames Q (leaf_found_for copies c None ++ found_leaves named copies committed)
    stand more None s f = rw (f, s) (more copies b)
    stand more (Some m) s f = rw (f, s) ((λ h. absurd (false≢true (sym (stand_plain c.leaf.key m s) ∙ h))), more copies b)

    copy : HoldsOf named Q committed → (d : Option Placed) → copy_of_key c.leaf copies ≡ d → OfNames Q (leaf_found_for copies c None ++ found_leaves named (copies_left copies c None) committed)
    copy more (Some d) f = rw f ((λ h. find_all (λ z. Q (kept_at z).leaf) (λ z. leaf_rank (kept_at z).leaf == leaf_rank c.leaf) copies d b f), more (left d copies) (filter_all (λ z. Q (kept_at z).leaf) (λ z. not (shows_same (shown d.node) (shown z.node))) copies b))
    copy more None f = subst (λ (z : List Placed). OfNames Q (leaf_found_for copies c None ++ found_leaves named z committed)) (rw f refl) (stand more (stand_in c.leaf.key) refl f)

    by : HoldsOf named Q committed → (o : Option Placed) → own_node named c ≡ o → OfNames Q (leaf_found_for copies c o ++ found_leaves named (copies_left copies c o) committed)
    by more (Some n) e = ((λ h. a.0 (own_outside named c n e)), more copies b)
    by more None e = copy more (copy_of_key c.leaf copies) refl

names_apart : (x : Leaf) (kept : List Kept) → OfNames (λ z. same_leaf x z ≡ false) kept → AllByRecursion (λ y. same_leaf x y ≡ false) (leaves (names_in kept))
names_apart x [] a = tt
names_apart x (y ∷ kept) a = by (is_entry (shown_by y)) refl (names_apart x kept a.1)
  where
    by : (b : Bool) → is_entry (shown_by y) ≡ b → AllByRecursion (λ z. same_leaf x z ≡ false) (leaves (names_in kept)) → AllByRecursion (λ z. same_leaf x z ≡ false) (leaves (cond b (y ∷ names_in kept) (names_in kept)))
    by true e more = (a.0 e, more)
    by false e more = more

abbrev NamesDiffer : List Kept → Type 0
NamesDiffer kept = AreDistinct (leaves (names_in kept))

one_more : (x : Kept) (kept : List Kept) → (is_entry (shown_by x) ≡ true → OfNames (λ z. same_leaf x.leaf z ≡ false) kept) → NamesDiffer kept → NamesDiffer (x ∷ kept)
one_more x kept a d = by (is_entry (shown_by x)) refl
  where
    by : (b : Bool) → is_entry (shown_by x) ≡ b → AreDistinct (leaves (cond b (x ∷ names_in kept) (names_in kept)))
    by true e = IsDistinct-cons same_leaf x.leaf (leaves (names_in kept)) (names_apart x.leaf kept (a e)) d
    by false e = d

-- copies that can be given: at places of their own, in buds, and each shows itself
record AreCopies (named : List Named) (copies : List Placed) : Type 0 where
  apart : StandApart copies
  named_places : AllByRecursion (HasNamedPlace named) copies
  shown_places : AllByRecursion (λ d. shows_same (shown d.node) (shown d.node) ≡ true) copies

copies_filter : (named : List Named) (p : Placed → Bool) (copies : List Placed) → AreCopies named copies → AreCopies named (filter p copies)
copies_filter named p copies c = record {
  apart = filter_apart p copies c.apart;
  named_places = filter_all (HasNamedPlace named) p copies c.named_places;
  shown_places = filter_all (λ d. shows_same (shown d.node) (shown d.node) ≡ true) p copies c.shown_places;
}

elsewhere_leaf : (d : Placed) (ys : List Placed) → IsElsewhere d ys → OfCopies (λ z. same_leaf (kept_at d).leaf z ≡ false) ys
elsewhere_leaf d [] e = tt
elsewhere_leaf d (y ∷ ys) e = (far_leaf (kept_at d).leaf y e.0, elsewhere_leaf d ys e.1)

own_differs : (named : List Named) (x : Leaf) (committed : List Committed) → AllByRecursion (λ y. same_leaf x y ≡ false) (map (λ (c : Committed). c.leaf) committed) → OfOwn named (λ z. same_leaf x z ≡ false) committed
own_differs named x [] a = tt
own_differs named x (c ∷ committed) a = ((λ h. a.0), own_differs named x committed a.1)

own_beside_copy : (named : List Named) (d : Placed) (committed : List Committed) → HasNamedPlace named d → OfOwn named (λ z. same_leaf (kept_at d).leaf z ≡ false) committed
own_beside_copy named d [] h = tt
own_beside_copy named d (c ∷ committed) h = ((λ o. apart_by_bud_turned named (kept_at d).leaf c.leaf h o), own_beside_copy named d committed h)

copies_beside_own : (named : List Named) (x : Leaf) (copies : List Placed) → in_bud named x ≡ false → AllByRecursion (HasNamedPlace named) copies → OfCopies (λ z. same_leaf x z ≡ false) copies
copies_beside_own named x [] h a = tt
copies_beside_own named x (d ∷ copies) h a = (apart_by_bud named x (kept_at d).leaf h a.0, copies_beside_own named x copies h a.1)

-- no two of the names of these leaves have one leaf, whatever copies are there
abbrev AreApartOf : List Named → List Committed → Type 0
AreApartOf named committed = (copies : List Placed) → AreCopies named copies → NamesDiffer (found_leaves named copies committed)

-- no two names that are found have one leaf
found_differ : (named : List Named) (copies : List Placed) (committed : List Committed) → AreCopies named copies → AreDistinct (map (λ (c : Committed). c.leaf) committed) → NamesDiffer (found_leaves named copies committed)
found_differ named copies [] c d = d
found_differ named copies (x ∷ committed) c d =
    by (λ cs q. found_differ named cs committed q (IsDistinct-tail same_leaf x.leaf (map (λ (z : Committed). z.leaf) committed) d)) (own_node named x) refl
  where
    head : AllByRecursion (λ y. same_leaf x.leaf y ≡ false) (map (λ (z : Committed). z.leaf) committed)
    head = IsDistinct-head same_leaf x.leaf (map (λ (z : Committed). z.leaf) committed) d

    stand : AreApartOf named committed → (m : Option LeafNode) → stand_in x.leaf.key ≡ m → copy_of_key x.leaf copies ≡ None → NamesDiffer (leaf_found_for copies x None ++ found_leaves named copies committed)
    stand more None s f = rw (f, s) (more copies c)
    stand more (Some m) s f = rw (f, s) (one_more (record { leaf = x.leaf; sqnum = 0; node = m }) (found_leaves named copies committed) (λ h. absurd (false≢true (sym (stand_plain x.leaf.key m s) ∙ h))) (more copies c))

    copy : AreApartOf named committed → (e : Option Placed) → copy_of_key x.leaf copies ≡ e → NamesDiffer (leaf_found_for copies x None ++ found_leaves named (copies_left copies x None) committed)
    copy more (Some e) f =
        let p : Placed → Bool = λ z. leaf_rank (kept_at z).leaf == leaf_rank x.leaf in
        let r : Placed → Bool = λ z. not (shows_same (shown e.node) (shown z.node)) in
        let itself : r e ≡ false = ap not (find_all (λ z. shows_same (shown z.node) (shown z.node) ≡ true) p copies e c.shown_places f) in
        let place : HasNamedPlace named e = find_all (HasNamedPlace named) p copies e c.named_places f in
        rw f (one_more (kept_at e) (found_leaves named (left e copies) committed)
        (λ h. found_names named (λ z. same_leaf (kept_at e).leaf z ≡ false) (left e copies) committed (own_beside_copy named e committed place) (elsewhere_leaf e (left e copies) (found_elsewhere p r copies e c.apart f itself)))
        (more (left e copies) (copies_filter named r copies c)))
    copy more None f = subst (λ (z : List Placed). NamesDiffer (leaf_found_for copies x None ++ found_leaves named z committed)) (rw f refl) (stand more (stand_in x.leaf.key) refl f)

    by : AreApartOf named committed → (o : Option Placed) → own_node named x ≡ o → NamesDiffer (leaf_found_for copies x o ++ found_leaves named (copies_left copies x o) committed)
    by more (Some n) e =
        let out = own_outside named x n e in
        one_more (record { leaf = x.leaf; sqnum = n.sqnum; node = n.node }) (found_leaves named copies committed)
        (λ h. found_names named (λ z. same_leaf x.leaf z ≡ false) copies committed (own_differs named x.leaf committed head) (copies_beside_own named x.leaf copies out c.named_places))
        (more copies c)
    by more None e = copy more (copy_of_key x.leaf copies) refl

-- ---- nodes that are applied
pub kept_all : (Q : Kept → Type 0) (kept : List Kept) (new : Placed) → AllByRecursion Q kept → Q (kept_at new) → AllByRecursion Q (kept_after kept new)
kept_all Q kept new a q = by (change_of new.node)
  where
    put : (change : Change) (xs : List Kept) → AllByRecursion Q xs → AllByRecursion Q (put_leaf (is_gone change) (kept_at new) xs)
    put change [] b = (q, tt)
    put change (x ∷ xs) b = test (is_gone change x) (nat_le (leaf_rank x.leaf) (leaf_rank (kept_at new).leaf)) (put change xs b.1)
      where
        test : (g l : Bool) → AllByRecursion Q (put_leaf (is_gone change) (kept_at new) xs) → AllByRecursion Q (cond g (kept_at new ∷ xs) (cond l (x ∷ put_leaf (is_gone change) (kept_at new) xs) (kept_at new ∷ x ∷ xs)))
        test true l more = (q, b.1)
        test false true more = (b.0, more)
        test false false more = (q, b)

    with_one : (change : Change) (s : Bool) → AllByRecursion Q (cond s (put_leaf (is_gone change) (kept_at new) kept) (filter (λ x. not (is_gone change x)) kept))
    with_one change true = put change kept a
    with_one change false = filter_all Q (λ x. not (is_gone change x)) kept a

    busy : (change : Change) (i : Bool) → AllByRecursion Q (cond i kept (kept_with change (kept_at new) kept))
    busy change true = a
    busy change false = with_one change (is_set change)

    by : (c : Option Change) → AllByRecursion Q (read c new kept)
    by None = a
    by (Some change) = busy change (is_idle kept change)

not_held : (new : Placed) (nodes : List Placed) (kept : List Kept) → OfNames (λ leaf. IsFar leaf (new ∷ nodes)) kept → holds (kept_at new).leaf (leaves (names_in kept)) ≡ false
not_held new nodes [] a = refl
not_held new nodes (x ∷ kept) a = by (is_entry (shown_by x)) refl (not_held new nodes kept a.1)
  where
    by : (b : Bool) → is_entry (shown_by x) ≡ b → holds (kept_at new).leaf (leaves (names_in kept)) ≡ false → holds (kept_at new).leaf (leaves (cond b (x ∷ names_in kept) (names_in kept))) ≡ false
    by true e more = ap (λ (z : Bool). cond z true (holds (kept_at new).leaf (leaves (names_in kept)))) (far_leaf x.leaf new (a.0 e).0) ∙ more
    by false e more = more

-- where all stand at places of their own, each node that sets a name is fresh when it is applied
pub are_fresh : (kept : List Kept) (nodes : List Placed) → StandApart nodes → OfNames (λ leaf. IsFar leaf nodes) kept → AreFresh kept nodes
are_fresh kept [] s a = tt
are_fresh kept (new ∷ nodes) s a =
    let Q : Kept → Type 0 = λ x. is_entry (shown_by x) ≡ true → IsFar x.leaf nodes in
    let before : AllByRecursion Q kept = all_with (λ x. is_entry (shown_by x) ≡ true → IsFar x.leaf (new ∷ nodes)) Q (λ x f e. (f e).1) kept a in
    ((λ h. not_held new nodes kept a), are_fresh (kept_after kept new) nodes s.1 (kept_all Q kept new before (λ h. s.0)))

-- ---- all of what was read
itself_shown : (d : Placed) → is_shown (shown d.node) ≡ true → shows_same (shown d.node) (shown d.node) ≡ true
itself_shown d h = by (shown d.node) h
  where
    by : (s : Option Change) → is_shown s ≡ true → shows_same s s ≡ true
    by (Some (SetInode ino set)) t = eq-eqb ino ino refl
    by (Some (SetBlock ino number bytes)) t = and_from (ino == ino) (number == number) (eq-eqb ino ino refl) (eq-eqb number number refl)
    by (Some (SetEntry e)) t = name_here (key e) e refl
    by s t = absurd (false≢true t)

node_shown : (kept : List Kept) (n : LeafNode) → AllByRecursion IsKeyed kept → IsNodeOfLeaves kept n → is_shown (shown n) ≡ true
node_shown [] n k h = absurd h
node_shown (x ∷ kept) n k (inl e) = subst (λ (z : LeafNode). is_shown (shown z) ≡ true) (sym e) (keyed_shown (shown_by x) x.leaf k.0)
  where
    keyed_shown : (s : Option Change) (leaf : Leaf) → HasKeyOf leaf s → is_shown s ≡ true
    keyed_shown (Some (SetInode ino set)) leaf h = refl
    keyed_shown (Some (SetBlock ino number bytes)) leaf h = refl
    keyed_shown (Some (SetEntry e)) leaf h = refl
    keyed_shown s leaf h = absurd h
node_shown (x ∷ kept) n k (inr more) = node_shown kept n k.1 more

copies_shown : (copies : List Placed) → AllByRecursion (λ c. IsSetting c.node) copies → AllByRecursion (λ d. shows_same (shown d.node) (shown d.node) ≡ true) copies
copies_shown [] h = tt
copies_shown (d ∷ copies) h = (itself_shown d h.0.shown, copies_shown copies h.1)

-- nodes of leaves set something
pub nodes_set : (kept : List Kept) (copies : List Placed) → AllByRecursion IsKeyed kept → AllByRecursion (λ d. IsLeaf d.node × IsNodeOfLeaves kept d.node) copies → AllByRecursion (λ c. IsSetting c.node) copies
nodes_set kept [] k h = tt
nodes_set kept (d ∷ copies) k h = (record { leaf = h.0.0; shown = node_shown kept d.node k h.0.1 }, nodes_set kept copies k h.1)

own_far : (named : List Named) (nodes : List Placed) (committed : List Committed) → AllByRecursion (HasNamedPlace named) nodes → OfOwn named (λ leaf. IsFar leaf nodes) committed
own_far named nodes [] a = tt
own_far named nodes (c ∷ committed) a = ((λ o. far_by_bud named c.leaf nodes o a), own_far named nodes committed a)

copies_far : (nodes copies : List Placed) → Beside copies nodes → OfCopies (λ leaf. IsFar leaf nodes) copies
copies_far nodes [] b = tt
copies_far nodes (d ∷ copies) b = (b.0, copies_far nodes copies b.1)

beside_order : (copies nodes : List Placed) → Beside copies nodes → Beside copies (nodes_in_order nodes)
beside_order [] nodes b = tt
beside_order (d ∷ copies) nodes b = (order_all (λ y. at_one_place d y ≡ false) nodes b.0, beside_order copies nodes b.1)

module _ (parts : Parts) (j : IsOfJournal parts) where
  abbrev spare : Placed → Bool
  spare c = not (list_any (is_original parts.named c) parts.committed)

  ready : AreCopies parts.named (spare_copies parts)
  ready = copies_filter parts.named spare parts.copies (record {
    apart = j.places.copies_apart;
    named_places = j.places.copies_named;
    shown_places = copies_shown parts.copies j.copies;
  })

  pub names_differ : AreDistinct (leaves (names_in (leaves_found parts)))
  names_differ = found_differ parts.named (spare_copies parts) parts.committed ready j.distinct

  pub nodes_fresh : AreFresh (leaves_found parts) (nodes_in_order parts.nodes)
  nodes_fresh =
      let nodes = nodes_in_order parts.nodes in
      let named_nodes = order_all (HasNamedPlace parts.named) parts.nodes j.places.nodes_named in
      let beside = filter_all (λ x. IsElsewhere x nodes) spare parts.copies (beside_order parts.copies parts.nodes j.places.beside) in
      are_fresh (leaves_found parts) nodes (order_apart parts.nodes j.places.nodes_apart)
      (found_names parts.named (λ leaf. IsFar leaf nodes) (spare_copies parts) parts.committed (own_far parts.named nodes parts.committed named_nodes) (copies_far nodes (spare_copies parts) beside))

-- the leaves and the nodes are told, and the nodes can be applied
pub leaves_told : (parts : Parts) (index : Index) (found nodes : List JournalNode) (listed : List ℕ) → IsToldBy parts index found nodes listed → AreLeavesOf (leaves_found parts) index found
leaves_told parts index found nodes listed t = record { in_index = t.in_index; told = t.of_leaves; leaf_map = t.journal.found; distinct = names_differ parts t.journal }

pub nodes_told : (parts : Parts) (index : Index) (found nodes : List JournalNode) (listed : List ℕ) → IsToldBy parts index found nodes listed → AreNodesOf (leaves_found parts) (nodes_in_order parts.nodes) nodes
nodes_told parts index found nodes listed t = record { of_nodes = t.of_nodes; leaf_nodes = order_all (λ x. IsLeaf x.node) parts.nodes t.journal.places.leaf_nodes; fresh = nodes_fresh parts t.journal }
