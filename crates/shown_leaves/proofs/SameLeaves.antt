-- Leaves that are there twice.
use Rattle.std.proofs.Common.{◌≡◌, ◌⊎◌, ℕ, ◌<◌, Bool, true, false, cond, ◌&&◌, ◌||◌, List, [], ◌∷◌, ◌++◌, refl, ap, sym, subst, ◌∙◌, inl, inr, Option, Some, None, append_assoc, arith}
use Rattle.std.specs.Prelude.{◌==◌, IsTrue, length}
use Rattle.std.specs.BTreeSet.{BTreeSet}
use Rattle.std.specs.Ordering.{is_eq, nat_cmp, ordering_then}
use Rattle.std.specs.declared.cmp.Ordering.{Ordering}
use Rattle.std.specs.declared.cmp.Ordering.TheVariants.{Less, Equal, Greater}
use Rattle.index_tree.specs.Order.{leaf_rank}
use Rattle.index_tree.specs.Removal.{holds, same_leaf}
use Rattle.index_tree.specs.declared.leaf.Leaf.{Leaf}
use Rattle.sound_image.specs.Wrong.{Wrong}
use Rattle.std.proofs.lemmas.Bool.{false≢true}
use Rattle.std.proofs.lemmas.Bool.Decides.{nat_tests}
use Rattle.sound_image.specs.WrongLaws.{first_of_equal}
use Rattle.image_check.specs.FirstLaws.{first_alone, first_of_both, first_same}
use Rattle.image_check.specs.WrongValues.{IsFirstOf, sooner_of, wrong_at}
use Rattle.image_check.specs.declared.wrong_value.WrongValue.{WrongValue}
use Rattle.shown_leaves.specs.Spots.{AreSpotsApart, IsApartFrom, IsTwiceIn, Spot, has_spot, is_at_one_place, is_same_spot, spot_of, wrong_leaf}

-- ---- the same spot is the same leaf
then_equal : (o p : Ordering) → is_eq (ordering_then o p) ≡ (is_eq o && is_eq p)
then_equal Less p = refl
then_equal Equal p = refl
then_equal Greater p = refl

number_equal : (a b : ℕ) → is_eq (nat_cmp a b) ≡ (a == b)
number_equal a b = grind (arith, nat_tests)

and_chain : (a b c d : Bool) → (((a && b) && c) && d) ≡ cond a (cond b (cond c d false) false) false
and_chain true true true d = refl
and_chain true true false d = refl
and_chain true false c d = refl
and_chain false b c d = refl

pub same_spot : (x y : Leaf) → is_same_spot (spot_of x) (spot_of y) ≡ same_leaf x y
unfolding same_leaf
same_spot x y =
    let a = nat_cmp (leaf_rank x) (leaf_rank y) in
    let b = nat_cmp x.lnum y.lnum in
    let c = nat_cmp x.offs y.offs in
    let d = nat_cmp x.len y.len in
    then_equal (ordering_then (ordering_then a b) c) d
    ∙ ap (λ t. t && is_eq d) (then_equal (ordering_then a b) c ∙ ap (λ t. t && is_eq c) (then_equal a b))
    ∙ and_chain (is_eq a) (is_eq b) (is_eq c) (is_eq d)
    ∙ ap (λ t. cond t (cond (is_eq b) (cond (is_eq c) (is_eq d) false) false) false) (number_equal (leaf_rank x) (leaf_rank y))
    ∙ ap (λ t. cond (leaf_rank x == leaf_rank y) (cond t (cond (is_eq c) (is_eq d) false) false) false) (number_equal x.lnum y.lnum)
    ∙ ap (λ t. cond (leaf_rank x == leaf_rank y) (cond (x.lnum == y.lnum) (cond t (is_eq d) false) false) false) (number_equal x.offs y.offs)
    ∙ ap (λ t. cond (leaf_rank x == leaf_rank y) (cond (x.lnum == y.lnum) (cond (x.offs == y.offs) t false) false) false) (number_equal x.len y.len)

-- ---- leaves that were seen
-- the set has the spots of these leaves
abbrev pub HasSeen : BTreeSet Spot → List Leaf → Type 0
HasSeen seen done = (q : Leaf) → has_spot seen (spot_of q) ≡ holds q done

held_end : (q x : Leaf) (done : List Leaf) → holds q (done ++ x ∷ []) ≡ (same_leaf x q || holds q done)
held_end q x [] = by (same_leaf x q)
  where
    by : (b : Bool) → cond b true false ≡ (b || false)
    by true = refl
    by false = refl
held_end q x (y ∷ done) = ap (λ t. cond (same_leaf y q) true t) (held_end q x done) ∙ by (same_leaf y q) (same_leaf x q) (holds q done)
  where
    by : (a b c : Bool) → cond a true (b || c) ≡ (b || cond a true c)
    by true true c = refl
    by true false c = refl
    by false b c = refl

pub seen_next : (old new : BTreeSet Spot) (done : List Leaf) (leaf : Leaf) → HasSeen old done
    → ((q : Spot) → has_spot new q ≡ (is_same_spot (spot_of leaf) q || has_spot old q)) → HasSeen new (done ++ leaf ∷ [])
seen_next old new done leaf before step q = step (spot_of q) ∙ ap (λ t. t || has_spot old (spot_of q)) (same_spot leaf q) ∙ ap (λ t. same_leaf leaf q || t) (before q) ∙ sym (held_end q leaf done)

-- ---- what is there twice
-- a leaf behind others is the last, or stands before it
split_end : (done : List Leaf) (last leaf : Leaf) (before behind : List Leaf) → done ++ last ∷ [] ≡ before ++ (leaf ∷ behind)
    → ((done ≡ before) × (last ≡ leaf)) ⊎ ((rest : List Leaf) × (done ≡ before ++ (leaf ∷ rest)))
split_end [] last leaf [] behind e = inl (refl, (first_of_equal last leaf [] behind e).0)
split_end [] last leaf (y ∷ []) behind e = let f = (first_of_equal last y [] (leaf ∷ behind) e).1 in absurd cc
split_end [] last leaf (y ∷ z ∷ before) behind e = let f = (first_of_equal last y [] (z ∷ before ++ (leaf ∷ behind)) e).1 in absurd cc
split_end (x ∷ done) last leaf [] behind e = inr (done, ap (λ z. z ∷ done) (first_of_equal x leaf (done ++ last ∷ []) behind e).0)
split_end (x ∷ done) last leaf (y ∷ before) behind e =
    let h = first_of_equal x y (done ++ last ∷ []) (before ++ (leaf ∷ behind)) e in
    elim (split_end done last leaf before behind h.1) [
      | inl (same, is) ↦ inl (ap (λ zs. x ∷ zs) same ∙ ap (λ z. z ∷ before) h.0, is)
      | inr (rest, more) ↦ inr (rest, ap (λ zs. x ∷ zs) more ∙ ap (λ z. z ∷ before ++ (leaf ∷ rest)) h.0)
    ]

-- the last is there twice
abbrev IsLastTwice : List Leaf → Leaf → Wrong → Type 0
IsLastTwice done last at = IsTrue (holds last done) × (at ≡ wrong_at (wrong_leaf last))

twice_of : (done : List Leaf) (last : Leaf) (at : Wrong) → IsTwiceIn done at ⊎ IsLastTwice done last at → IsTwiceIn (done ++ last ∷ []) at
twice_of done last at (inl (leaf, before, behind, e, held, is)) = (leaf, before, behind ++ last ∷ [], ap (λ xs. xs ++ last ∷ []) e ∙ append_assoc before (leaf ∷ behind) (last ∷ []), held, is)
twice_of done last at (inr (held, is)) = (last, done, [], refl, held, is)

of_twice : (done : List Leaf) (last : Leaf) (at : Wrong) → IsTwiceIn (done ++ last ∷ []) at → IsTwiceIn done at ⊎ IsLastTwice done last at
of_twice done last at (leaf, before, behind, e, held, is) = elim (split_end done last leaf before behind e) [
  | inl (same, last_is) ↦
      let P : Leaf → Type 0 = λ z. IsTrue (holds z before) in
      let Q : List Leaf → Type 0 = λ zs. IsTrue (holds last zs) in
      inr (subst Q (sym same) (subst P (sym last_is) held), is ∙ ap (λ (z : Leaf). wrong_at (wrong_leaf z)) (sym last_is))
  | inr (rest, more) ↦ inl (leaf, before, rest, more, held, is)
]

pub twice_none : IsFirstOf (IsTwiceIn []) None
twice_none at (leaf, [], behind, e, held, is) = absurd cc
twice_none at (leaf, x ∷ before, behind, e, held, is) = absurd cc

-- a leaf that was seen
pub twice_again : (done : List Leaf) (last : Leaf) (first next : Option WrongValue) → next ≡ sooner_of first (Some (wrong_leaf last)) → holds last done ≡ true → IsFirstOf (IsTwiceIn done) first → IsFirstOf (IsTwiceIn (done ++ last ∷ [])) next
twice_again done last first next e held h =
    let alone = first_alone (IsLastTwice done last) (wrong_leaf last) (held, refl) (λ at w. w.1) in
    subst (IsFirstOf (IsTwiceIn (done ++ last ∷ []))) (sym e)
    (first_same (λ at. IsTwiceIn done at ⊎ IsLastTwice done last at) (IsTwiceIn (done ++ last ∷ [])) (sooner_of first (Some (wrong_leaf last))) (twice_of done last) (of_twice done last)
    (first_of_both (IsTwiceIn done) (IsLastTwice done last) first (Some (wrong_leaf last)) h alone))

-- and a new one
pub twice_new : (done : List Leaf) (last : Leaf) (first : Option WrongValue) → holds last done ≡ false → IsFirstOf (IsTwiceIn done) first → IsFirstOf (IsTwiceIn (done ++ last ∷ [])) first
twice_new done last first new h = first_same (IsTwiceIn done) (IsTwiceIn (done ++ last ∷ [])) first (λ at w. twice_of done last at (inl w)) (λ at w. elim (of_twice done last at w) [ inl old ↦ old | inr again ↦ absurd (false≢true (sym new ∙ again.0)) ]) h

-- ---- leaves of which none is there twice
through : (a b c : ℕ) → a < b → b < c → a < c
through a b c h k = omega arith

unlike_ranks : (a b : ℕ) → a < b → (a == b) ≡ false
unlike_ranks a b h = grind (arith, nat_tests)

never_both : (a b : Bool) → b ≡ false → cond a b false ≡ false
never_both true b h = h
never_both false b h = refl

nested : (b c d : Bool) → (b && (c && d)) ≡ cond b (cond c d false) false
nested true true d = refl
nested true false d = refl
nested false c d = refl

lesser_key : (x y : Leaf) → leaf_rank x < leaf_rank y → same_leaf x y ≡ false
unfolding same_leaf
lesser_key x y h = ap (λ (t : Bool). cond t (cond (x.lnum == y.lnum) (cond (x.offs == y.offs) (x.len == y.len) false) false) false) (unlike_ranks (leaf_rank x) (leaf_rank y) h)

other_place : (x y : Leaf) → is_at_one_place x y ≡ false → same_leaf x y ≡ false
unfolding same_leaf
other_place x y h =
    never_both (leaf_rank x == leaf_rank y) (cond (x.lnum == y.lnum) (cond (x.offs == y.offs) (x.len == y.len) false) false)
    (sym (nested (x.lnum == y.lnum) (x.offs == y.offs) (x.len == y.len)) ∙ h)

-- what stands behind a greater key has a greater one
further : (x y : Leaf) (before : List Leaf) (leaf : Leaf) (behind : List Leaf) → leaf_rank x < leaf_rank y → IsApartFrom y (before ++ (leaf ∷ behind)) → AreSpotsApart (before ++ (leaf ∷ behind)) → leaf_rank x < leaf_rank leaf
further x y [] leaf behind l (inl a) g = through (leaf_rank x) (leaf_rank y) (leaf_rank leaf) l a
further x y [] leaf behind l (inr a) g = subst (λ (n : ℕ). leaf_rank x < n) a.0 l
further x y (z ∷ before) leaf behind l (inl a) g = further x z before leaf behind (through (leaf_rank x) (leaf_rank y) (leaf_rank z) l a) g.0 g.1
further x y (z ∷ before) leaf behind l (inr a) g = further x z before leaf behind (subst (λ (n : ℕ). leaf_rank x < n) a.0 l) g.0 g.1

apart_one : (x : Leaf) (before : List Leaf) (leaf : Leaf) (behind : List Leaf) → IsApartFrom x (before ++ (leaf ∷ behind)) → AreSpotsApart (before ++ (leaf ∷ behind)) → same_leaf x leaf ≡ false
apart_one x [] leaf behind (inl less) g = lesser_key x leaf less
apart_one x [] leaf behind (inr a) g = other_place x leaf a.1
apart_one x (y ∷ before) leaf behind (inl less) g = lesser_key x leaf (further x y before leaf behind less g.0 g.1)
apart_one x (y ∷ before) leaf behind (inr a) g = apart_one x before leaf behind a.2 g.1

once : (before : List Leaf) (leaf : Leaf) (behind : List Leaf) → AreSpotsApart (before ++ (leaf ∷ behind)) → holds leaf before ≡ false
once [] leaf behind g = refl
once (x ∷ before) leaf behind g = ap (λ (t : Bool). cond t true (holds leaf before)) (apart_one x before leaf behind g.0 g.1) ∙ once before leaf behind g.1

pub none_twice : (leaves : List Leaf) → AreSpotsApart leaves → IsFirstOf (IsTwiceIn leaves) None
none_twice leaves apart at (leaf, before, behind, e, held, is) = false≢true (sym (once before leaf behind (subst AreSpotsApart e apart)) ∙ held)

pub none_apart : (leaves : List Leaf) → length leaves ≡ 0 → AreSpotsApart leaves
none_apart [] h = tt
none_apart (x ∷ leaves) h = absurd (omega (arith, h))
