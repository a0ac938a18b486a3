-- No leaf that is found shows what another one does.
use Rattle.std.proofs.Common.{◌≡◌, Bool, true, false, cond, not, List, [], ◌∷◌, refl, sym, ap, subst, ◌∙◌, inl, inr, Option, Some, None}
use Rattle.std.specs.Prelude.{◌==◌, ◌||◌, filter}
use Rattle.std.specs.List.{AllByRecursion, find, list_all, list_any}
use Rattle.std.proofs.lemmas.Bool.{false≢true, and_parts, and_from}
use Rattle.index_tree.specs.declared.leaf.Leaf.{Leaf}
use Rattle.index_tree.specs.Order.{leaf_rank}
use Rattle.fs_model.specs.declared.change.Change.{Change}
use Rattle.fs_laws.specs.Maps.{all_filter, all_weaken}
use Rattle.leaf_map.specs.Allowed.{IsReadLeaf}
use Rattle.leaf_map.specs.Kept.{Kept, Placed, kept_at, shown, shown_by}
use Rattle.leaf_map.specs.LeafMap.{HasKeyOf, IsKeyed, are_apart, shows_same}
use Rattle.leaf_map.specs.Parts.{Committed, Named, Parts, is_shown, own_node}
use Rattle.leaf_map.specs.RankLaws.{rank_is, rank_shown, is_entry, same_thing}
use Rattle.leaf_map.specs.Recovered.{found_leaves, is_original}
use Rattle.leaf_map.proofs.FoundKeys.{IsGood, copy_keyed, copy_place, filter_all, find_all, own_keyed, stand_keyed, stand_plain}
use Rattle.leaf_map.proofs.Things.{keyed_shown, not_true, same_kind, same_place, same_turned}
use Rattle.leaf_map.proofs.Walk.{Pairs, Walk, left, own_leaf, stand_leaf, walk}

-- what is shown at the place of a leaf, and is no name
record Plain (s sx : Option Change) : Type 0 where
  l : Leaf
  lx : Leaf
  key : HasKeyOf l s
  key_x : HasKeyOf lx sx
  place : rank_shown s ≡ rank_shown sx
  plain : is_entry s ≡ false

plain_one : (s sx : Option Change) → Plain s sx → (y x : Kept) → IsKeyed y → IsKeyed x → leaf_rank y.leaf ≡ leaf_rank x.leaf → not (shows_same sx (shown_by x)) ≡ true → not (shows_same s (shown_by y)) ≡ true
plain_one s sx p y x ky kx r n = by (shows_same s (shown_by y)) refl
  where
    by : (b : Bool) → shows_same s (shown_by y) ≡ b → not b ≡ true
    by false e = refl
    by true e =
        let a = same_place s (shown_by y) (keyed_shown p.l s p.key) e in
        let place : rank_shown sx ≡ rank_shown (shown_by x) = sym p.place ∙ a ∙ sym (rank_is y.leaf (shown_by y) ky) ∙ r ∙ rank_is x.leaf (shown_by x) kx in
        elim (same_thing p.lx x.leaf sx (shown_by x) p.key_x kx place) [
          | inl same ↦ absurd (false≢true (sym (not_true (shows_same sx (shown_by x)) n) ∙ same))
          | inr names ↦ elim (same_thing p.l p.lx s sx p.key p.key_x p.place) [
            | inl same ↦ absurd (false≢true (sym p.plain ∙ same_kind s sx (keyed_shown p.l s p.key) same ∙ names.0))
            | inr two ↦ absurd (false≢true (sym p.plain ∙ two.0))
          ]
        ]

abbrev IsClearOf : Option Change → Option Change → List Placed → List Kept → List Committed → List Kept → Type 0
IsClearOf s sx copies ks cs found = AllByRecursion IsKeyed ks → AllByRecursion IsGood copies → list_all (λ x. not (shows_same sx (shown_by x))) ks ≡ true → list_all (λ z. not (shows_same s (shown_by z))) found ≡ true

plain_walk : (parts : Parts) (s sx : Option Change) → Plain s sx → Walk parts.named (IsReadLeaf parts) (IsClearOf s sx)
plain_walk parts s sx p = record {
  done = λ copies k g n. refl;
  own = λ copies ks cs x c m pair e more k g n.
      step (own_leaf c m) x ks (found_leaves parts.named copies cs) (own_keyed parts x c m pair e k.0) k.0 (ap leaf_rank pair.leaf) n (more k.1 g);
  copy = λ copies ks cs x c d pair e f more k g n.
      step (kept_at d) x ks (found_leaves parts.named (left d copies) cs) (copy_keyed d (find_all IsGood (λ c'. leaf_rank (kept_at c').leaf == leaf_rank c.leaf) copies d g f)) k.0 (copy_place c.leaf copies d f ∙ ap leaf_rank pair.leaf) n (more k.1 (filter_all IsGood _ copies g));
  stand = λ copies ks cs x c m pair e f t more k g n.
      step (stand_leaf c m) x ks (found_leaves parts.named copies cs) (stand_keyed x c m pair.leaf k.0 t) k.0 (ap leaf_rank pair.leaf) n (more k.1 g);
  gone = λ copies ks cs x c pair e f t more k g n. more k.1 g (and_parts (not (shows_same sx (shown_by x))) (list_all (λ x. not (shows_same sx (shown_by x))) ks) n).1;
}
  where
    step : (y x : Kept) (ks found : List Kept) → IsKeyed y → IsKeyed x → leaf_rank y.leaf ≡ leaf_rank x.leaf → list_all (λ x. not (shows_same sx (shown_by x))) (x ∷ ks) ≡ true
        → (list_all (λ x. not (shows_same sx (shown_by x))) ks ≡ true → list_all (λ z. not (shows_same s (shown_by z))) found ≡ true) → list_all (λ z. not (shows_same s (shown_by z))) (y ∷ found) ≡ true
    step y x ks found ky kx r n more =
        let q = and_parts (not (shows_same sx (shown_by x))) (list_all (λ x. not (shows_same sx (shown_by x))) ks) n in
        and_from (not (shows_same s (shown_by y))) (list_all (λ z. not (shows_same s (shown_by z))) found) (plain_one s sx p y x ky kx r q.0) (more q.1)

-- ---- names
-- whether an own node shows this
abbrev pub own_shows : Option Change → Option Placed → Bool
own_shows s None = false
own_shows s (Some n) = shows_same s (shown n.node)

find_test : (p q : Placed → Bool) (ds : List Placed) (d : Placed) → list_all q ds ≡ true → find p ds ≡ Some d → q d ≡ true
find_test p q [] d a f = absurd cc
find_test p q (e ∷ ds) d a f = by (and_parts (q e) (list_all q ds) a) (find_test p q ds d) (p e) f
  where
    by : (q e ≡ true) × (list_all q ds ≡ true) → (list_all q ds ≡ true → find p ds ≡ Some d → q d ≡ true) → (b : Bool) → cond b (Some e) (find p ds) ≡ Some d → q d ≡ true
    by parts more true g = let same : e ≡ d = cc g in subst (λ z. q z ≡ true) same parts.0
    by parts more false g = more parts.1 g

kinds_apart : (s t : Option Change) → is_shown s ≡ true → is_entry s ≡ true → is_entry t ≡ false → not (shows_same s t) ≡ true
kinds_apart s t h a b = by (shows_same s t) refl
  where
    by : (r : Bool) → shows_same s t ≡ r → not r ≡ true
    by true e = absurd (false≢true (sym b ∙ sym (same_kind s t h e) ∙ a))
    by false e = refl

abbrev pub NoOwn : List Named → Option Change → List Committed → Type 0
NoOwn named s cs = list_all (λ c. not (own_shows s (own_node named c))) cs ≡ true

abbrev pub NoCopy : Option Change → List Placed → Type 0
NoCopy s copies = list_all (λ d. not (shows_same s (shown d.node))) copies ≡ true

name_walk : (parts : Parts) (s : Option Change) → is_shown s ≡ true → is_entry s ≡ true
    → Walk parts.named (IsReadLeaf parts) (λ copies ks cs found. NoOwn parts.named s cs → NoCopy s copies → list_all (λ z. not (shows_same s (shown_by z))) found ≡ true)
name_walk parts s h a = record {
  done = λ copies o n. refl;
  own = λ copies ks cs x c m pair e more o n.
      let q = and_parts (not (own_shows s (own_node parts.named c))) (list_all (λ c. not (own_shows s (own_node parts.named c))) cs) o in
      let here : not (shows_same s (shown m.node)) ≡ true = ap (λ z. not (own_shows s z)) (sym e) ∙ q.0 in
      and_from (not (shows_same s (shown m.node))) (list_all (λ z. not (shows_same s (shown_by z))) (found_leaves parts.named copies cs)) here (more q.1 n);
  copy = λ copies ks cs x c d pair e f more o n.
      let q = and_parts (not (own_shows s (own_node parts.named c))) (list_all (λ c. not (own_shows s (own_node parts.named c))) cs) o in
      let here = find_test (λ c'. leaf_rank (kept_at c').leaf == leaf_rank c.leaf) (λ d. not (shows_same s (shown d.node))) copies d n f in
      and_from (not (shows_same s (shown d.node))) (list_all (λ z. not (shows_same s (shown_by z))) (found_leaves parts.named (left d copies) cs)) here (more q.1 (all_filter (λ d. not (shows_same s (shown d.node))) _ copies n));
  stand = λ copies ks cs x c m pair e f t more o n.
      let q = and_parts (not (own_shows s (own_node parts.named c))) (list_all (λ c. not (own_shows s (own_node parts.named c))) cs) o in
      and_from (not (shows_same s (shown m))) (list_all (λ z. not (shows_same s (shown_by z))) (found_leaves parts.named copies cs)) (kinds_apart s (shown m) h a (stand_plain c.leaf.key m t)) (more q.1 n);
  gone = λ copies ks cs x c pair e f t more o n. more (and_parts (not (own_shows s (own_node parts.named c))) (list_all (λ c. not (own_shows s (own_node parts.named c))) cs) o).1 n;
}

-- of leaves of which none shows this no own node does
own_clear : (parts : Parts) (s : Option Change) (ks : List Kept) (cs : List Committed) → Pairs (IsReadLeaf parts) ks cs → list_all (λ x. not (shows_same s (shown_by x))) ks ≡ true → NoOwn parts.named s cs
own_clear parts s [] [] h n = refl
own_clear parts s [] (c ∷ cs) h n = absurd h
own_clear parts s (x ∷ ks) [] h n = absurd h
own_clear parts s (x ∷ ks) (c ∷ cs) (pair, more) n =
    let q = and_parts (not (shows_same s (shown_by x))) (list_all (λ x. not (shows_same s (shown_by x))) ks) n in
    and_from (not (own_shows s (own_node parts.named c))) (list_all (λ c. not (own_shows s (own_node parts.named c))) cs) (by q.0 (own_node parts.named c) refl) (own_clear parts s ks cs more q.1)
  where
    by : not (shows_same s (shown_by x)) ≡ true → (o : Option Placed) → own_node parts.named c ≡ o → not (own_shows s o) ≡ true
    by first None e = refl
    by first (Some n) e = subst (λ z. not (shows_same s (shown z)) ≡ true) (sym (pair.own n e)) first

-- ---- spare copies
abbrev pub AreSpare : List Named → List Committed → List Placed → Type 0
AreSpare named cs copies = list_all (λ d. not (list_any (is_original named d) cs)) copies ≡ true

or_parts : (a b : Bool) → not (a || b) ≡ true → (not a ≡ true) × (not b ≡ true)
or_parts true b h = absurd (false≢true h)
or_parts false b h = (refl, h)

spare_tail : (named : List Named) (c : Committed) (cs : List Committed) (copies : List Placed) → AreSpare named (c ∷ cs) copies → AreSpare named cs copies
spare_tail named c cs copies h = all_weaken (λ d. not (list_any (is_original named d) (c ∷ cs))) (λ d. not (list_any (is_original named d) cs)) (λ d t. (or_parts (is_original named d c) (list_any (is_original named d) cs) t).1) copies h

spare_own : (named : List Named) (c : Committed) (cs : List Committed) (copies : List Placed) (n : Placed) → own_node named c ≡ Some n → AreSpare named (c ∷ cs) copies → NoCopy (shown n.node) copies
spare_own named c cs copies n e h = all_weaken (λ d. not (list_any (is_original named d) (c ∷ cs))) (λ d. not (shows_same (shown n.node) (shown d.node))) (λ d t. let p = (or_parts (is_original named d c) (list_any (is_original named d) cs) t).0 in rw e at p) copies h

copy_clear : (parts : Parts) (d : Placed) (ks : List Kept) (cs : List Committed) → is_shown (shown d.node) ≡ true → AllByRecursion IsKeyed ks → Pairs (IsReadLeaf parts) ks cs
    → not (list_any (is_original parts.named d) cs) ≡ true → NoOwn parts.named (shown d.node) cs
copy_clear parts d [] [] h k pairs n = refl
copy_clear parts d [] (c ∷ cs) h k pairs n = absurd pairs
copy_clear parts d (x ∷ ks) [] h k pairs n = absurd pairs
copy_clear parts d (x ∷ ks) (c ∷ cs) h k (pair, more) n =
    let q = or_parts (is_original parts.named d c) (list_any (is_original parts.named d) cs) n in
    and_from (not (own_shows (shown d.node) (own_node parts.named c))) (list_all (λ c. not (own_shows (shown d.node) (own_node parts.named c))) cs) (by (own_node parts.named c) refl q.0) (copy_clear parts d ks cs h k.1 more q.1)
  where
    by : (o : Option Placed) → own_node parts.named c ≡ o → not (is_original parts.named d c) ≡ true → not (own_shows (shown d.node) o) ≡ true
    by None e t = refl
    by (Some n) e t = test (shows_same (shown d.node) (shown n.node)) refl
      where
        no : shows_same (shown n.node) (shown d.node) ≡ false
        no = let p = rw e at t in not_true (shows_same (shown n.node) (shown d.node)) p

        test : (b : Bool) → shows_same (shown d.node) (shown n.node) ≡ b → not b ≡ true
        test true g = absurd (false≢true (sym no ∙ same_turned (shown d.node) (shown n.node) h (keyed_shown (own_leaf c n).leaf (shown n.node) (own_keyed parts x c n pair e k.0)) g))
        test false g = refl

pub filter_test : (p : Placed → Bool) (ds : List Placed) → list_all p (filter p ds) ≡ true
filter_test p [] = refl
filter_test p (d ∷ ds) = by (filter_test p ds) (p d) refl
  where
    by : list_all p (filter p ds) ≡ true → (b : Bool) → p d ≡ b → list_all p (cond b (d ∷ filter p ds) (filter p ds)) ≡ true
    by more true e = and_from (p d) (list_all p (filter p ds)) e more
    by more false e = more

-- ---- all of them
abbrev pub StaysApart : Parts → List Placed → List Kept → List Committed → List Kept → Type 0
StaysApart parts copies ks cs found =
    AllByRecursion IsKeyed ks → AllByRecursion IsGood copies → are_apart ks ≡ true → Pairs (IsReadLeaf parts) ks cs → AreSpare parts.named cs copies → are_apart found ≡ true

pub apart_walk : (parts : Parts) → Walk parts.named (IsReadLeaf parts) (StaysApart parts)
apart_walk parts = record {
  done = λ copies k g a ps s. refl;
  own = λ copies ks cs x c n pair e more k g a ps s.
      let p = and_parts (list_all (λ y. not (shows_same (shown_by x) (shown_by y))) ks) (are_apart ks) a in
      let y = own_leaf c n in
      let ky = own_keyed parts x c n pair e k.0 in
      let same = ap shown (pair.own n e) in
      let first = subst (λ z. list_all (λ y. not (shows_same z (shown_by y))) ks ≡ true) (sym same) p.0 in
      cons y x ks cs copies k g ky (ap leaf_rank pair.leaf) p.0 ps.1 (λ name. (own_clear parts (shown_by y) ks cs ps.1 first, spare_own parts.named c cs copies n e s)) (more k.1 g p.1 ps.1 (spare_tail parts.named c cs copies s));
  copy = λ copies ks cs x c d pair e f more k g a ps s.
      let p = and_parts (list_all (λ y. not (shows_same (shown_by x) (shown_by y))) ks) (are_apart ks) a in
      let good = find_all IsGood (λ c'. leaf_rank (kept_at c').leaf == leaf_rank c.leaf) copies d g f in
      let spare = spare_tail parts.named c cs copies s in
      let none = find_test (λ c'. leaf_rank (kept_at c').leaf == leaf_rank c.leaf) (λ d. not (list_any (is_original parts.named d) cs)) copies d spare f in
      let rest = filter_all IsGood _ copies g in
      cons (kept_at d) x ks cs (left d copies) k rest (copy_keyed d good) (copy_place c.leaf copies d f ∙ ap leaf_rank pair.leaf) p.0 ps.1 (λ name. (copy_clear parts d ks cs good.1 k.1 ps.1 none, filter_test (λ c. not (shows_same (shown d.node) (shown c.node))) copies))
      (more k.1 rest p.1 ps.1 (all_filter (λ d. not (list_any (is_original parts.named d) cs)) _ copies spare));
  stand = λ copies ks cs x c m pair e f t more k g a ps s.
      let p = and_parts (list_all (λ y. not (shows_same (shown_by x) (shown_by y))) ks) (are_apart ks) a in
      cons (stand_leaf c m) x ks cs copies k g (stand_keyed x c m pair.leaf k.0 t) (ap leaf_rank pair.leaf) p.0 ps.1 (λ name. absurd (false≢true (sym (stand_plain c.leaf.key m t) ∙ name))) (more k.1 g p.1 ps.1 (spare_tail parts.named c cs copies s));
  gone = λ copies ks cs x c pair e f t more k g a ps s. more k.1 g (and_parts (list_all (λ y. not (shows_same (shown_by x) (shown_by y))) ks) (are_apart ks) a).1 ps.1 (spare_tail parts.named c cs copies s);
}
  where
    cons : (y x : Kept) (ks : List Kept) (cs : List Committed) (copies : List Placed) → AllByRecursion IsKeyed (x ∷ ks) → AllByRecursion IsGood copies → IsKeyed y → leaf_rank y.leaf ≡ leaf_rank x.leaf → list_all (λ y. not (shows_same (shown_by x) (shown_by y))) ks ≡ true
        → Pairs (IsReadLeaf parts) ks cs → (is_entry (shown_by y) ≡ true → NoOwn parts.named (shown_by y) cs × NoCopy (shown_by y) copies)
        → are_apart (found_leaves parts.named copies cs) ≡ true → are_apart (y ∷ found_leaves parts.named copies cs) ≡ true
    cons y x ks cs copies k g ky r first ps names rest = and_from (list_all (λ z. not (shows_same (shown_by y) (shown_by z))) found) (are_apart found) (by (is_entry (shown_by y)) refl) rest
      where
        found : List Kept
        found = found_leaves parts.named copies cs

        by : (b : Bool) → is_entry (shown_by y) ≡ b → list_all (λ z. not (shows_same (shown_by y) (shown_by z))) found ≡ true
        by true e = walk (name_walk parts (shown_by y) (keyed_shown y.leaf (shown_by y) ky) e) copies ks cs ps (names e).0 (names e).1
        by false e = walk (plain_walk parts (shown_by y) (shown_by x) (record { l = y.leaf; lx = x.leaf; key = ky; key_x = k.0; place = sym (rank_is y.leaf (shown_by y) ky) ∙ r ∙ rank_is x.leaf (shown_by x) k.0; plain = e })) copies ks cs ps k.1 g first
