-- What is found of the committed leaves: each node that stands at its place still, or that has a copy. A copy of a name may be given to another leaf of its hash; that leaf's copy then goes to a later one.
use Rattle.std.proofs.Common.{◌≡◌, ◌⊎◌, Bool, true, false, cond, not, List, [], ◌∷◌, refl, sym, ap, subst, ◌∙◌, inl, inr, Option, Some, None}
use Rattle.std.specs.Prelude.{◌==◌, ◌||◌, filter}
use Rattle.std.specs.List.{AllByRecursion, find, list_any}
use Rattle.std.specs.Option.{option_map}
use Rattle.std.proofs.lemmas.Bool.{false≢true, and_from, eq-eqb}
use Rattle.media_leaf.specs.LeafNode.{IsLeaf, LeafNode}
use Rattle.index_tree.specs.declared.leaf.Leaf.{Leaf}
use Rattle.index_tree.specs.Order.{leaf_rank}
use Rattle.fs_model.specs.declared.change.Change.{Change}
use Rattle.fs_model.specs.declared.change.Change.TheVariants.{SetInode, SetEntry, SetBlock}
use Rattle.fs_model.specs.Path.{is_same_name}
use Rattle.leaf_map.specs.Allowed.{FitsLeaves, IsNodeCopied, IsNodeOfLeaves, IsOwnNode, IsReadLeaf}
use Rattle.leaf_map.specs.Kept.{Kept, Placed, kept_at, shown, shown_by}
use Rattle.leaf_map.specs.LeafMap.{IsKeyed, shows_same}
use Rattle.leaf_map.specs.Parts.{Committed, Named, Parts, is_shown, own_node}
use Rattle.leaf_map.specs.RankLaws.{rank_is, rank_shown}
use Rattle.leaf_map.specs.Recovered.{copy_of_key, found_leaves, is_original, leaves_found, spare_copies}
use Rattle.leaf_map.proofs.FoundKeys.{IsGood, copy_keyed, copy_place, filter_all, find_all}
use Rattle.leaf_map.proofs.FoundLeaves.{goods, pairs_of}
use Rattle.leaf_map.proofs.Names.{is_name}
use Rattle.leaf_map.proofs.Things.{one_node}
use Rattle.leaf_map.proofs.Walk.{Pairs, Walk, left, own_leaf, walk}

-- what is shown is told as itself
pub itself : (s : Option Change) → is_shown s ≡ true → shows_same s s ≡ true
itself (Some (SetInode ino inode)) h = eq-eqb ino ino refl
itself (Some (SetBlock ino number bytes)) h = and_from (ino == ino) (number == number) (eq-eqb ino ino refl) (eq-eqb number number refl)
itself (Some (SetEntry e)) h = and_from (e.dir == e.dir) (is_same_name e.name e.name) (eq-eqb e.dir e.dir refl) (is_name e.name e.name refl)
itself s h = absurd (false≢true h)

-- ---- copies
copied_shown : (ds : List Placed) (n : LeafNode) → AllByRecursion IsGood ds → IsNodeCopied ds n → is_shown (shown n) ≡ true
copied_shown [] n g i = absurd i
copied_shown (d ∷ ds) n g (inl e) = subst (λ (z : LeafNode). is_shown (shown z) ≡ true) (sym e) g.0.1
copied_shown (d ∷ ds) n g (inr i) = copied_shown ds n g.1 i

pub find_copied : (p : Placed → Bool) (ds : List Placed) (d : Placed) → find p ds ≡ Some d → IsNodeCopied ds d.node
find_copied p [] d f = absurd cc
find_copied p (e ∷ ds) d f = by (find_copied p ds d) (p e) f
  where
    by : (find p ds ≡ Some d → IsNodeCopied ds d.node) → (b : Bool) → cond b (Some e) (find p ds) ≡ Some d → IsNodeCopied (e ∷ ds) d.node
    by more true g = let same : e ≡ d = cc g in inl (ap (λ (z : Placed). z.node) (sym same))
    by more false g = inr (more g)

-- where no copy has a leaf's key none is of what that key is for
none_of_key : (l : Leaf) (ds : List Placed) (n : LeafNode) → AllByRecursion IsGood ds → copy_of_key l ds ≡ None → IsNodeCopied ds n → leaf_rank l ≡ rank_shown (shown n) → ⊥
none_of_key l [] n g f i r = i
none_of_key l (d ∷ ds) n g f i r = by (λ f i. none_of_key l ds n g.1 f i r) (leaf_rank (kept_at d).leaf == leaf_rank l) refl f i
  where
    by : (copy_of_key l ds ≡ None → IsNodeCopied ds n → ⊥) → (b : Bool) → (leaf_rank (kept_at d).leaf == leaf_rank l) ≡ b → cond b (Some d) (copy_of_key l ds) ≡ None → IsNodeCopied (d ∷ ds) n → ⊥
    by more true e f i = absurd cc
    by more false e f (inl same) =
        false≢true (sym e ∙ eq-eqb (leaf_rank (kept_at d).leaf) (leaf_rank l) (rank_is (kept_at d).leaf (shown d.node) (copy_keyed d g.0) ∙ ap (λ (z : LeafNode). rank_shown (shown z)) (sym same) ∙ sym r))
    by more false e f (inr j) = more f j

pub filter_copied : (p : Placed → Bool) (ds : List Placed) (n : LeafNode) → IsNodeCopied (filter p ds) n → IsNodeCopied ds n
filter_copied p [] n i = i
filter_copied p (e ∷ ds) n i = by (filter_copied p ds n) (p e) i
  where
    by : (IsNodeCopied (filter p ds) n → IsNodeCopied ds n) → (b : Bool) → IsNodeCopied (cond b (e ∷ filter p ds) (filter p ds)) n → IsNodeCopied (e ∷ ds) n
    by more true (inl same) = inl same
    by more true (inr j) = inr (more j)
    by more false j = inr (more j)

stays_left : (d : Placed) (ds : List Placed) (n : LeafNode) → IsNodeCopied ds n → shows_same (shown d.node) (shown n) ≡ false → IsNodeCopied (left d ds) n
stays_left d [] n i apart = i
stays_left d (e ∷ ds) n i apart = by (stays_left d ds n) (shows_same (shown d.node) (shown e.node)) refl i
  where
    by : (IsNodeCopied ds n → shows_same (shown d.node) (shown n) ≡ false → IsNodeCopied (left d ds) n) → (b : Bool) → shows_same (shown d.node) (shown e.node) ≡ b → IsNodeCopied (e ∷ ds) n → IsNodeCopied (cond (not b) (e ∷ left d ds) (left d ds)) n
    by more true f (inl same) = absurd (false≢true (sym apart ∙ subst (λ (z : LeafNode). shows_same (shown d.node) (shown z) ≡ true) (sym same) f))
    by more true f (inr j) = more j apart
    by more false f (inl same) = inl same
    by more false f (inr j) = inr (more j apart)

left_differs : (d : Placed) (ds : List Placed) (n : LeafNode) → IsNodeCopied (left d ds) n → shows_same (shown d.node) (shown n) ≡ false
left_differs d [] n i = absurd i
left_differs d (e ∷ ds) n i = by (left_differs d ds n) (shows_same (shown d.node) (shown e.node)) refl i
  where
    by : (IsNodeCopied (left d ds) n → shows_same (shown d.node) (shown n) ≡ false) → (b : Bool) → shows_same (shown d.node) (shown e.node) ≡ b → IsNodeCopied (cond (not b) (e ∷ left d ds) (left d ds)) n → shows_same (shown d.node) (shown n) ≡ false
    by more true f j = more j
    by more false f (inl same) = subst (λ (z : LeafNode). shows_same (shown d.node) (shown z) ≡ false) (sym same) f
    by more false f (inr j) = more j

-- ---- leaves in the places of the committed ones, of which names of one hash may have changed places
record Stands (parts : Parts) (x : Kept) (c : Committed) : Type 0 where
  place : leaf_rank c.leaf ≡ leaf_rank x.leaf
  own : (found : Placed) → own_node parts.named c ≡ Some found → found.node ≡ x.node

record Reading (parts : Parts) (kept : List Kept) (copies : List Placed) (ks : List Kept) (cs : List Committed) : Type 0 where
  good : AllByRecursion IsGood copies
  keyed : AllByRecursion IsKeyed ks
  pairs : Pairs (Stands parts) ks cs
  cover : (n : LeafNode) → IsNodeCopied copies n → IsNodeOfLeaves ks n
  known : (n : LeafNode) → IsNodeCopied copies n → IsNodeOfLeaves kept n
  spare : (m n : LeafNode) → IsOwnNode parts.named cs m → IsNodeCopied copies n → shows_same (shown m) (shown n) ≡ false

record Swapped (parts : Parts) (y : Kept) (d : Placed) (ks : List Kept) (cs : List Committed) : Type 0 where
  now : List Kept
  keyed : AllByRecursion IsKeyed now
  pairs : Pairs (Stands parts) now cs
  covers : (n : LeafNode) → (n ≡ y.node) ⊎ IsNodeOfLeaves ks n → (n ≡ d.node) ⊎ IsNodeOfLeaves now n

own_is : (named : List Named) (c : Committed) (found : Placed) → own_node named c ≡ Some found → option_map (λ (p : Placed). p.node) (own_node named c) ≡ Some found.node
own_is named c found e = ap (λ o. option_map (λ (p : Placed). p.node) o) e

-- a leaf takes the place of the one whose copy was given to it
swap : (parts : Parts) (y : Kept) (d : Placed) (ks : List Kept) (cs : List Committed) → IsKeyed y → leaf_rank y.leaf ≡ rank_shown (shown d.node) → is_shown (shown d.node) ≡ true → AllByRecursion IsKeyed ks → Pairs (Stands parts) ks cs
    → ((m : LeafNode) → IsOwnNode parts.named cs m → shows_same (shown m) (shown d.node) ≡ false) → IsNodeOfLeaves ks d.node → Swapped parts y d ks cs
swap parts y d [] cs ky r s k ps spare i = absurd i
swap parts y d (z ∷ ks) [] ky r s k ps spare i = absurd ps
swap parts y d (z ∷ ks) (c ∷ cs) ky r s k (pair, more) spare (inl e) = record {
  now = y ∷ ks;
  keyed = (ky, k.1);
  pairs = (
    record {
      place = pair.place ∙ rank_is z.leaf (shown_by z) k.0 ∙ ap (λ (w : LeafNode). rank_shown (shown w)) (sym e) ∙ sym r;
      own = λ found f. absurd (false≢true (sym (spare found.node (inl (own_is parts.named c found f))) ∙ subst (λ (w : LeafNode). shows_same (shown w) (shown d.node) ≡ true) (e ∙ sym (pair.own found f)) (itself (shown d.node) s)));
    },
    more,
  );
  covers = λ n has. elim has [
    | inl a ↦ inr (inl a)
    | inr j ↦ elim j [
      | inl b ↦ inl (b ∙ sym e)
      | inr h ↦ inr (inr h)
    ]
  ];
}
swap parts y d (z ∷ ks) (c ∷ cs) ky r s k (pair, more) spare (inr j) =
    let rest = swap parts y d ks cs ky r s k.1 more (λ m o. spare m (inr o)) j in
    record {
      now = z ∷ rest.now;
      keyed = (k.0, rest.keyed);
      pairs = (pair, rest.pairs);
      covers = λ n has. elim has [
        | inl a ↦ put n rest.now (rest.covers n (inl a))
        | inr h ↦ elim h [
          | inl b ↦ inr (inl b)
          | inr g ↦ put n rest.now (rest.covers n (inr g))
        ]
      ];
    }
  where
    put : (n : LeafNode) (now : List Kept) → (n ≡ d.node) ⊎ IsNodeOfLeaves now n → (n ≡ d.node) ⊎ IsNodeOfLeaves (z ∷ now) n
    put n now (inl a) = inl a
    put n now (inr h) = inr (inr h)

-- ---- leaf by leaf
abbrev Has : Parts → List Placed → List Committed → LeafNode → Type 0
Has parts copies cs n = IsOwnNode parts.named cs n ⊎ IsNodeCopied copies n

abbrev Finds : Parts → List Kept → List Placed → List Committed → List Kept → Type 0
Finds parts kept copies cs found = (ks : List Kept) → Reading parts kept copies ks cs → (n : LeafNode) → Has parts copies cs n → IsNodeOfLeaves found n

no_leaf : (parts : Parts) (kept : List Kept) (copies : List Placed) → Finds parts kept copies [] []
no_leaf parts kept copies [] h n (inl o) = absurd o
no_leaf parts kept copies [] h n (inr i) = h.cover n i
no_leaf parts kept copies (y ∷ ks) h n has = absurd h.pairs

own_step : (parts : Parts) (kept : List Kept) (copies : List Placed) (cs : List Committed) (c : Committed) (m : Placed) (found : List Kept) → own_node parts.named c ≡ Some m → Finds parts kept copies cs found → Finds parts kept copies (c ∷ cs) (own_leaf c m ∷ found)
own_step parts kept copies cs c m found e more [] h n has = absurd h.pairs
own_step parts kept copies cs c m found e more (y ∷ ks) h n has = elim has [
  | inl o ↦ elim o [
    | inl a ↦ let here : option_map (λ (p : Placed). p.node) (Some m) ≡ Some n = rw e at a in inl (sym (is here))
    | inr b ↦ inr (more ks less n (inl b))
  ]
  | inr i ↦ inr (more ks less n (inr i))
]
  where
    is : Some m.node ≡ Some n → m.node ≡ n
    is f = cc

    same : m.node ≡ y.node
    same = h.pairs.0.own m e

    covered : (k : LeafNode) → IsNodeCopied copies k → IsNodeOfLeaves (y ∷ ks) k → IsNodeOfLeaves ks k
    covered k i (inl a) = absurd (false≢true (sym (h.spare m.node k (inl (own_is parts.named c m e)) i) ∙ subst (λ (w : LeafNode). shows_same (shown w) (shown k) ≡ true) (a ∙ sym same) (itself (shown k) (copied_shown copies k h.good i))))
    covered k i (inr j) = j

    less : Reading parts kept copies ks cs
    less = record {
      good = h.good;
      keyed = h.keyed.1;
      pairs = h.pairs.1;
      cover = λ k i. covered k i (h.cover k i);
      known = h.known;
      spare = λ a b o i. h.spare a b (inr o) i;
    }

copy_step : (parts : Parts) (kept : List Kept) (copies : List Placed) (cs : List Committed) (c : Committed) (d : Placed) (found : List Kept) → ((m n : LeafNode) → IsNodeOfLeaves kept m → IsNodeOfLeaves kept n → shows_same (shown m) (shown n) ≡ true → m ≡ n)
    → own_node parts.named c ≡ None → copy_of_key c.leaf copies ≡ Some d → Finds parts kept (left d copies) cs found → Finds parts kept copies (c ∷ cs) (kept_at d ∷ found)
copy_step parts kept copies cs c d found one e f more [] h n has = absurd h.pairs
copy_step parts kept copies cs c d found one e f more (y ∷ ks) h n has = elim has [
  | inl o ↦ elim o [
    | inl a ↦ let no : option_map (λ (p : Placed). p.node) None ≡ Some n = rw e at a in absurd (never no)
    | inr b ↦ inr (more swapped.now less n (inl b))
  ]
  | inr i ↦ given i (shows_same (shown d.node) (shown n)) refl
]
  where
    nothing : Option LeafNode
    nothing = None

    never : nothing ≡ Some n → ⊥
    never g = absurd cc

    there : IsNodeCopied copies d.node
    there = find_copied (λ c'. leaf_rank (kept_at c').leaf == leaf_rank c.leaf) copies d f

    good : IsGood d
    good = find_all IsGood (λ c'. leaf_rank (kept_at c').leaf == leaf_rank c.leaf) copies d h.good f

    rank : leaf_rank y.leaf ≡ rank_shown (shown d.node)
    rank = sym h.pairs.0.place ∙ sym (copy_place c.leaf copies d f) ∙ rank_is (kept_at d).leaf (shown d.node) (copy_keyed d good)

    by : IsNodeOfLeaves (y ∷ ks) d.node → Swapped parts y d ks cs
    by (inl a) = record {
      now = ks;
      keyed = h.keyed.1;
      pairs = h.pairs.1;
      covers = λ k has. elim has [
        | inl b ↦ inl (b ∙ sym a)
        | inr j ↦ inr j
      ];
    }
    by (inr j) = swap parts y d ks cs h.keyed.0 rank good.1 h.keyed.1 h.pairs.1 (λ m o. h.spare m d.node (inr o) there) j

    swapped : Swapped parts y d ks cs
    swapped = by (h.cover d.node there)

    covered : (k : LeafNode) → IsNodeCopied (left d copies) k → (k ≡ d.node) ⊎ IsNodeOfLeaves swapped.now k → IsNodeOfLeaves swapped.now k
    covered k i (inl a) = absurd (false≢true (sym (left_differs d copies k i) ∙ subst (λ (w : LeafNode). shows_same (shown d.node) (shown w) ≡ true) (sym a) (itself (shown d.node) good.1)))
    covered k i (inr j) = j

    back : (k : LeafNode) → IsNodeCopied (left d copies) k → IsNodeCopied copies k
    back k i = filter_copied (λ c'. not (shows_same (shown d.node) (shown c'.node))) copies k i

    less : Reading parts kept (left d copies) swapped.now cs
    less = record {
      good = filter_all IsGood _ copies h.good;
      keyed = swapped.keyed;
      pairs = swapped.pairs;
      cover = λ k i. covered k i (swapped.covers k (h.cover k (back k i)));
      known = λ k i. h.known k (back k i);
      spare = λ a b o i. h.spare a b (inr o) (back b i);
    }

    given : IsNodeCopied copies n → (b : Bool) → shows_same (shown d.node) (shown n) ≡ b → IsNodeOfLeaves (kept_at d ∷ found) n
    given i true g = inl (sym (one d.node n (h.known d.node there) (h.known n i) g))
    given i false g = inr (more swapped.now less n (inr (stays_left d copies n i g)))

-- no copy has the key: none is of the leaf
pass_step : (parts : Parts) (kept : List Kept) (copies : List Placed) (cs : List Committed) (c : Committed) (found : List Kept) → own_node parts.named c ≡ None → copy_of_key c.leaf copies ≡ None → Finds parts kept copies cs found → Finds parts kept copies (c ∷ cs) found
pass_step parts kept copies cs c found e f more [] h n has = absurd h.pairs
pass_step parts kept copies cs c found e f more (y ∷ ks) h n has = elim has [
  | inl o ↦ elim o [
    | inl a ↦ let no : option_map (λ (p : Placed). p.node) None ≡ Some n = rw e at a in absurd (never no)
    | inr b ↦ more ks less n (inl b)
  ]
  | inr i ↦ more ks less n (inr i)
]
  where
    nothing : Option LeafNode
    nothing = None

    never : nothing ≡ Some n → ⊥
    never g = absurd cc

    covered : (k : LeafNode) → IsNodeCopied copies k → IsNodeOfLeaves (y ∷ ks) k → IsNodeOfLeaves ks k
    covered k i (inl a) = absurd (none_of_key c.leaf copies k h.good f i (h.pairs.0.place ∙ rank_is y.leaf (shown_by y) h.keyed.0 ∙ ap (λ (w : LeafNode). rank_shown (shown w)) (sym a)))
    covered k i (inr j) = j

    less : Reading parts kept copies ks cs
    less = record {
      good = h.good;
      keyed = h.keyed.1;
      pairs = h.pairs.1;
      cover = λ k i. covered k i (h.cover k i);
      known = h.known;
      spare = λ a b o i. h.spare a b (inr o) i;
    }

finds : (parts : Parts) (kept : List Kept) → ((m n : LeafNode) → IsNodeOfLeaves kept m → IsNodeOfLeaves kept n → shows_same (shown m) (shown n) ≡ true → m ≡ n) → Walk parts.named (IsReadLeaf parts) (λ copies ks cs found. Finds parts kept copies cs found)
finds parts kept one = record {
  done = λ copies. no_leaf parts kept copies;
  own = λ copies ks cs x c m pair e more. own_step parts kept copies cs c m (found_leaves parts.named copies cs) e more;
  copy = λ copies ks cs x c d pair e f more. copy_step parts kept copies cs c d (found_leaves parts.named (left d copies) cs) one e f more;
  stand = λ copies ks cs x c m pair e f t more ks' h n has. inr (pass_step parts kept copies cs c (found_leaves parts.named copies cs) e f more ks' h n has);
  gone = λ copies ks cs x c pair e f t more. pass_step parts kept copies cs c (found_leaves parts.named copies cs) e f more;
}

-- ---- all of them
stand_all : (parts : Parts) (ks : List Kept) (cs : List Committed) → Pairs (IsReadLeaf parts) ks cs → Pairs (Stands parts) ks cs
stand_all parts [] [] ps = tt
stand_all parts [] (c ∷ cs) ps = absurd ps
stand_all parts (x ∷ ks) [] ps = absurd ps
stand_all parts (x ∷ ks) (c ∷ cs) (pair, more) = (record { place = ap leaf_rank pair.leaf; own = pair.own }, stand_all parts ks cs more)

own_of_kept : (parts : Parts) (ks : List Kept) (cs : List Committed) (n : LeafNode) → Pairs (IsReadLeaf parts) ks cs → IsOwnNode parts.named cs n → IsNodeOfLeaves ks n
own_of_kept parts [] [] n ps o = o
own_of_kept parts [] (c ∷ cs) n ps o = absurd ps
own_of_kept parts (x ∷ ks) [] n ps o = absurd ps
own_of_kept parts (x ∷ ks) (c ∷ cs) n (pair, more) (inl a) = by (own_node parts.named c) refl a
  where
    by : (o : Option Placed) → own_node parts.named c ≡ o → option_map (λ (p : Placed). p.node) o ≡ Some n → IsNodeOfLeaves (x ∷ ks) n
    by None e g = absurd cc
    by (Some m) e g = let same : m.node ≡ n = cc in inl (sym same ∙ pair.own m e)
own_of_kept parts (x ∷ ks) (c ∷ cs) n (pair, more) (inr o) = inr (own_of_kept parts ks cs n more o)

copy_of_kept : (kept : List Kept) (ds : List Placed) (n : LeafNode) → AllByRecursion (λ d. IsLeaf d.node × IsNodeOfLeaves kept d.node) ds → IsNodeCopied ds n → IsNodeOfLeaves kept n
copy_of_kept kept [] n a i = absurd i
copy_of_kept kept (d ∷ ds) n a (inl e) = subst (λ (z : LeafNode). IsNodeOfLeaves kept z) (sym e) a.0.1
copy_of_kept kept (d ∷ ds) n a (inr i) = copy_of_kept kept ds n a.1 i

-- no own node shows what an unneeded copy would
no_original : (named : List Named) (cs : List Committed) (d : Placed) (m : LeafNode) → list_any (is_original named d) cs ≡ false → IsOwnNode named cs m → shows_same (shown m) (shown d.node) ≡ false
no_original named [] d m none o = absurd o
no_original named (c ∷ cs) d m none o = by (λ t o. no_original named cs d m t o) (own_node named c) refl o
  where
    parts_of : (a b : Bool) → (a || b) ≡ false → (a ≡ false) × (b ≡ false)
    parts_of true b h = absurd (false≢true (sym h))
    parts_of false b h = (refl, h)

    both : (is_original named d c ≡ false) × (list_any (is_original named d) cs ≡ false)
    both = parts_of (is_original named d c) (list_any (is_original named d) cs) none

    by : (list_any (is_original named d) cs ≡ false → IsOwnNode named cs m → shows_same (shown m) (shown d.node) ≡ false) → (f : Option Placed) → own_node named c ≡ f
        → (option_map (λ (p : Placed). p.node) f ≡ Some m) ⊎ IsOwnNode named cs m → shows_same (shown m) (shown d.node) ≡ false
    by more None e (inl a) = absurd cc
    by more (Some own) e (inl a) =
        let same : own.node ≡ m = cc in
        let here : shows_same (shown own.node) (shown d.node) ≡ false = let p = both.0 in rw e at p in
        subst (λ (z : LeafNode). shows_same (shown z) (shown d.node) ≡ false) same here
    by more f e (inr j) = more both.1 j

spare_apart : (named : List Named) (cs : List Committed) (ds : List Placed) (m n : LeafNode) → IsOwnNode named cs m → IsNodeCopied (filter (λ c. not (list_any (is_original named c) cs)) ds) n → shows_same (shown m) (shown n) ≡ false
spare_apart named cs [] m n o i = absurd i
spare_apart named cs (d ∷ ds) m n o i = by (spare_apart named cs ds m n o) (list_any (is_original named d) cs) refl i
  where
    rest : List Placed
    rest = filter (λ c. not (list_any (is_original named c) cs)) ds

    by : (IsNodeCopied rest n → shows_same (shown m) (shown n) ≡ false) → (b : Bool) → list_any (is_original named d) cs ≡ b → IsNodeCopied (cond (not b) (d ∷ rest) rest) n → shows_same (shown m) (shown n) ≡ false
    by more true e j = more j
    by more false e (inl same) = subst (λ (z : LeafNode). shows_same (shown m) (shown z) ≡ false) (sym same) (no_original named cs d m e o)
    by more false e (inr j) = more j

-- an original of a copy is an own node
original_is : (named : List Named) (cs : List Committed) (d : Placed) → list_any (is_original named d) cs ≡ true → (m : LeafNode) × IsOwnNode named cs m × (shows_same (shown m) (shown d.node) ≡ true)
original_is named [] d h = absurd (false≢true h)
original_is named (c ∷ cs) d h = by (original_is named cs d) (own_node named c) refl (is_original named d c) refl h
  where
    later : ((m : LeafNode) × IsOwnNode named cs m × (shows_same (shown m) (shown d.node) ≡ true)) → (m : LeafNode) × IsOwnNode named (c ∷ cs) m × (shows_same (shown m) (shown d.node) ≡ true)
    later (m, o, s) = (m, inr o, s)

    by : (list_any (is_original named d) cs ≡ true → (m : LeafNode) × IsOwnNode named cs m × (shows_same (shown m) (shown d.node) ≡ true)) → (f : Option Placed) → own_node named c ≡ f → (b : Bool) → is_original named d c ≡ b → (b || list_any (is_original named d) cs) ≡ true
        → (m : LeafNode) × IsOwnNode named (c ∷ cs) m × (shows_same (shown m) (shown d.node) ≡ true)
    by more f e false g t = later (more t)
    by more None e true g t = let no = rw e at g in absurd (false≢true no)
    by more (Some own) e true g t = let same : shows_same (shown own.node) (shown d.node) ≡ true = rw e at g in (own.node, inl (own_is named c own e), same)

spare_or_own : (named : List Named) (cs : List Committed) (ds : List Placed) (n : LeafNode) → IsNodeCopied ds n
    → IsNodeCopied (filter (λ c. not (list_any (is_original named c) cs)) ds) n ⊎ ((m : LeafNode) × IsOwnNode named cs m × (shows_same (shown m) (shown n) ≡ true))
spare_or_own named cs [] n i = absurd i
spare_or_own named cs (d ∷ ds) n i = by (spare_or_own named cs ds n) (list_any (is_original named d) cs) refl i
  where
    rest : List Placed
    rest = filter (λ c. not (list_any (is_original named c) cs)) ds

    Own : LeafNode → Type 0
    Own k = (m : LeafNode) × IsOwnNode named cs m × (shows_same (shown m) (shown k) ≡ true)

    push : IsNodeCopied rest n ⊎ Own n → IsNodeCopied (d ∷ rest) n ⊎ Own n
    push (inl j) = inl (inr j)
    push (inr o) = inr o

    by : (IsNodeCopied ds n → IsNodeCopied rest n ⊎ Own n) → (b : Bool) → list_any (is_original named d) cs ≡ b → IsNodeCopied (d ∷ ds) n → IsNodeCopied (cond (not b) (d ∷ rest) rest) n ⊎ Own n
    by more true e (inl same) = inr (subst Own (sym same) (original_is named cs d e))
    by more true e (inr j) = more j
    by more false e (inl same) = inl (inl same)
    by more false e (inr j) = push (more j)

-- the copies that are needed
pub spare_known : (parts : Parts) (kept : List Kept) → FitsLeaves parts kept → (n : LeafNode) → IsNodeCopied (spare_copies parts) n → IsNodeOfLeaves kept n
spare_known parts kept fits n i = copy_of_kept kept parts.copies n fits.copies (filter_copied (λ c. not (list_any (is_original parts.named c) parts.committed)) parts.copies n i)

pub spare_good : (parts : Parts) (kept : List Kept) → FitsLeaves parts kept → AllByRecursion IsGood (spare_copies parts)
spare_good parts kept fits = filter_all IsGood (λ c. not (list_any (is_original parts.named c) parts.committed)) parts.copies (goods kept parts.copies fits.leaves.keyed fits.copies)

pub found_nodes : (parts : Parts) (kept : List Kept) → FitsLeaves parts kept → (n : LeafNode) → IsOwnNode parts.named parts.committed n ⊎ IsNodeCopied parts.copies n → IsNodeOfLeaves (leaves_found parts) n
found_nodes parts kept fits n has = walk (finds parts kept one) (spare_copies parts) kept parts.committed pairs kept reads n (elim has [
  | inl o ↦ inl o
  | inr i ↦ elim (spare_or_own parts.named parts.committed parts.copies n i) [
    | inl j ↦ inr j
    | inr o ↦ inl (own n i o)
  ]
])
  where
    one : (m n : LeafNode) → IsNodeOfLeaves kept m → IsNodeOfLeaves kept n → shows_same (shown m) (shown n) ≡ true → m ≡ n
    one m n i j e = one_node kept m n fits.leaves.keyed fits.leaves.apart i j e

    pairs : Pairs (IsReadLeaf parts) kept parts.committed
    pairs = pairs_of parts kept parts.committed fits.read

    own : (k : LeafNode) → IsNodeCopied parts.copies k → (m : LeafNode) × IsOwnNode parts.named parts.committed m × (shows_same (shown m) (shown k) ≡ true) → IsOwnNode parts.named parts.committed k
    own k i (m, o, s) = subst (λ (z : LeafNode). IsOwnNode parts.named parts.committed z) (one m k (own_of_kept parts kept parts.committed m pairs o) (copy_of_kept kept parts.copies k fits.copies i) s) o

    reads : Reading parts kept (spare_copies parts) kept parts.committed
    reads = record {
      good = spare_good parts kept fits;
      keyed = fits.leaves.keyed;
      pairs = stand_all parts kept parts.committed pairs;
      cover = spare_known parts kept fits;
      known = spare_known parts kept fits;
      spare = λ a b o i. spare_apart parts.named parts.committed parts.copies a b o i;
    }
