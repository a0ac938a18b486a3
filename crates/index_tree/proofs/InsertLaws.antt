-- What an insertion does to the contents, the weight and the nodes.
use Rattle.std.specs.Prelude.{Bool, ◌≡◌, ℕ, ◌+◌, ◌-◌, ◌<◌, ◌≤◌, ◌==◌, nat_le, nat_lt, true, false, List, [], ◌∷◌, ◌++◌}
use Rattle.std.proofs.Common.{refl, ap, sym, ◌∙◌, arith, inl, inr, append_assoc, append-nil}
use Rattle.std.proofs.lemmas.Bool.{cases_Bool}
use Rattle.std.proofs.lemmas.Bool.Decides.{nat_tests}
use Rattle.index_tree.specs.declared.leaf.Leaf.{Leaf}
use Rattle.index_tree.specs.Order.{leaf_rank, ordered_from, starts_within, placed}
use Rattle.index_tree.proofs.OrderLaws.{ordered_head, ordered_cons, ordered-left, ordered-right, low_before}
use Rattle.index_tree.specs.Shape.{Shape, done, leaf, node, contents, count, shape_weight, fits, filled, lone, is_whole, begins_within, front, back, left_half, parted, inserted, rooted, with_leaf}
use Rattle.index_tree.proofs.GrowthLaws.{inserted-grown, node_fits, fits_node, below-full, parted-count}
use Rattle.index_tree.proofs.SearchLaws.{node_filled, begins-starts}

pub fits-filled : (f : ℕ) (s : Shape) → fits f s ≡ true → filled s ≡ true
fits-filled f done h = refl
fits-filled f (leaf x rest) h = fits-filled f rest h
fits-filled f (node c rest) h =
    let p = node_fits f c rest h in
    let a : nat_lt 0 (count c) ≡ true = grind (arith, nat_tests, p.least) in
    rw (a, fits-filled f c p.children, fits-filled f rest p.others) refl

pub placed-right : (low : ℕ) (new : Leaf) (xs ys : List Leaf) → ordered_from low (xs ++ ys) ≡ true → starts_within (leaf_rank new) ys ≡ true → placed new (xs ++ ys) ≡ xs ++ placed new ys
placed-right low new [] ys o s = refl
placed-right low new (x ∷ xs) ys o s =
    let p = ordered_head low x (xs ++ ys) o in
    let below = low_before (leaf_rank x) (leaf_rank new) xs ys p.others s in
    let t : nat_le (leaf_rank x) (leaf_rank new) ≡ true = grind (arith, nat_tests, below) in
    rw t (ap (λ v. x ∷ v) (placed-right (leaf_rank x) new xs ys p.others s))

pub placed-left : (new : Leaf) (xs ys : List Leaf) → starts_within (leaf_rank new) ys ≡ false → placed new (xs ++ ys) ≡ placed new xs ++ ys
placed-left new [] [] s = refl
placed-left new [] (y ∷ ys) s = rw s refl
placed-left new (x ∷ xs) ys s = elim (cases_Bool (nat_le (leaf_rank x) (leaf_rank new))) [
  | inl e ↦ rw e (ap (λ v. x ∷ v) (placed-left new xs ys s))
  | inr e ↦ rw e refl
]

pub placed-ordered : (low : ℕ) (new : Leaf) (xs : List Leaf) → low ≤ leaf_rank new → ordered_from low xs ≡ true → ordered_from low (placed new xs) ≡ true
placed-ordered low new [] h o = ordered_cons low new [] h refl
placed-ordered low new (x ∷ xs) h o =
    let p = ordered_head low x xs o in
    elim (cases_Bool (nat_le (leaf_rank x) (leaf_rank new))) [
      | inl e ↦
          let within : leaf_rank x ≤ leaf_rank new = grind (arith, nat_tests) in
          rw e (ordered_cons low x (placed new xs) p.least (placed-ordered (leaf_rank x) new xs within p.others))
      | inr e ↦
          let above : leaf_rank new ≤ leaf_rank x = grind (arith, nat_tests) in
          rw e (ordered_cons low new (x ∷ xs) h (ordered_cons (leaf_rank new) x xs above p.others))
    ]

pub halves-contents : (n : ℕ) (s : Shape) → contents (front n s) ++ contents (back n s) ≡ contents s
halves-contents n done = refl
halves-contents n (leaf x rest) = elim (cases_Bool (n == 0)) [
  | inl e ↦ rw e refl
  | inr e ↦ rw e (ap (λ v. x ∷ v) (halves-contents (n - 1) rest))
]
halves-contents n (node c rest) = elim (cases_Bool (n == 0)) [
  | inl e ↦ rw e refl
  | inr e ↦ rw e (append_assoc (contents c) (contents (front (n - 1) rest)) (contents (back (n - 1) rest)) ∙ ap (λ v. contents c ++ v) (halves-contents (n - 1) rest))
]

pub parted-contents : (f : ℕ) (c rest : Shape) → contents (parted f c rest) ≡ contents c ++ contents rest
unfolding parted
parted-contents f c rest = elim (cases_Bool (nat_le (f + 1) (count c))) [
  | inl e ↦ rw e (sym (append_assoc (contents (front (left_half f) c)) (contents (back (left_half f) c)) (contents rest)) ∙ ap (λ v. v ++ contents rest) (halves-contents (left_half f) c))
  | inr e ↦ rw e refl
]

pub inserted-contents : (f low : ℕ) (x : Leaf) (s : Shape) → filled s ≡ true → ordered_from low (contents s) ≡ true → contents (inserted f x s) ≡ placed x (contents s)
inserted-contents f low x done h o = refl
inserted-contents f low x (leaf y rest) h o =
    let p = ordered_head low y (contents rest) o in
    elim (cases_Bool (nat_le (leaf_rank y) (leaf_rank x))) [
      | inl e ↦ rw e (ap (λ v. y ∷ v) (inserted-contents f (leaf_rank y) x rest h p.others))
      | inr e ↦ rw e refl
    ]
inserted-contents f low x (node c rest) h o =
    let p = node_filled c rest h in
    let starts = begins-starts (leaf_rank x) rest p.others in
    elim (cases_Bool (begins_within (leaf_rank x) rest)) [
      | inl e ↦ rw e (ap (λ v. contents c ++ v) (inserted-contents f low x rest p.others (ordered-right low (contents c) (contents rest) o)) ∙ sym (placed-right low x (contents c) (contents rest) o (sym starts ∙ e)))
      | inr e ↦ rw e (parted-contents f (inserted f x c) rest ∙ ap (λ v. v ++ contents rest) (inserted-contents f low x c p.children (ordered-left low (contents c) (contents rest) o)) ∙ sym (placed-left x (contents c) (contents rest) (sym starts ∙ e)))
    ]

two_siblings : (n : ℕ) → (n + 1 == 0) ≡ true → ⊥
two_siblings n h = grind (arith, nat_tests)

-- one node alone stays alone where the root has room
-- whether the root, or what stands for it, has no room for a further child
abbrev pub root_full : ℕ → Shape → Bool
root_full fanout done = true
root_full fanout (leaf x rest) = true
root_full fanout (node children rest) = nat_le fanout (count children)

pub root_stays : (f : ℕ) (x : Leaf) (s : Shape) → 3 ≤ f → is_whole s ≡ true → fits f s ≡ true → root_full f s ≡ false → lone (inserted f x s) ≡ true
unfolding parted
root_stays f x done three w h r = absurd cc
root_stays f x (leaf y rest) three w h r = absurd cc
root_stays f x (node c (leaf y rest)) three w h r = absurd (two_siblings (count rest) w)
root_stays f x (node c (node d rest)) three w h r = absurd (two_siblings (count rest) w)
root_stays f x (node c done) three w h r =
    let g = inserted-grown f x c three (node_fits f c done h).children in
    let room : nat_le (f + 1) (count (inserted f x c)) ≡ false = grind (arith, nat_tests, g.one_more) in
    rw room refl

pub whole-count : (s : Shape) → is_whole s ≡ true → count s ≤ 1
whole-count done w = omega arith
whole-count (leaf x rest) w = absurd cc
whole-count (node c (leaf y rest)) w = absurd (two_siblings (count rest) w)
whole-count (node c (node d rest)) w = absurd (two_siblings (count rest) w)
whole-count (node c done) w = omega arith

pub lone-whole : (s : Shape) → lone s ≡ true → is_whole s ≡ true
lone-whole done w = absurd cc
lone-whole (leaf x rest) w = absurd cc
lone-whole (node c rest) w = w

parted-some : (f : ℕ) (c rest : Shape) → 0 < count (parted f c rest)
parted-some f c rest = omega (arith, parted-count f c rest)

inserted-some : (f : ℕ) (x : Leaf) (s : Shape) → 0 < count (inserted f x s)
inserted-some f x done = omega arith
inserted-some f x (leaf y rest) = elim (cases_Bool (nat_le (leaf_rank y) (leaf_rank x))) [
  | inl e ↦ rw e (omega arith)
  | inr e ↦ rw e (omega arith)
]
inserted-some f x (node c rest) = elim (cases_Bool (begins_within (leaf_rank x) rest)) [
  | inl e ↦ rw e (omega arith)
  | inr e ↦ rw e (parted-some f (inserted f x c) rest)
]

gained : (f : ℕ) (x : Leaf) (s : Shape) → is_whole s ≡ true → lone (inserted f x s) ≡ false → count s < count (inserted f x s)
unfolding parted
gained f x done w h = omega arith
gained f x (leaf y rest) w h = absurd cc
gained f x (node c (leaf y rest)) w h = absurd (two_siblings (count rest) w)
gained f x (node c (node d rest)) w h = absurd (two_siblings (count rest) w)
gained f x (node c done) w h = elim (cases_Bool (nat_le (f + 1) (count (inserted f x c)))) [
  | inl e ↦ rw e (omega arith)
  | inr e ↦ let alone = rw e at h in absurd cc
]

-- what an insertion into a whole shape gives
pub record WithLeaf (f : ℕ) (x : Leaf) (s t : Shape) : Type 0 where
  pub sound : fits f t ≡ true
  pub whole : is_whole t ≡ true
  pub no_lighter : shape_weight f s ≤ shape_weight f t
  pub one_heavier : shape_weight f t ≤ shape_weight f s + 1
  pub same_leaves : contents t ≡ contents (inserted f x s)

rooted_grown : (f : ℕ) (x : Leaf) (s : Shape) → 3 ≤ f → is_whole s ≡ true → fits f s ≡ true → WithLeaf f x s (rooted (inserted f x s))
rooted_grown f x s three w h =
    let t = inserted f x s in
    let g = inserted-grown f x s three h in
    let small = whole-count s w in
    let some = inserted-some f x s in
    elim (cases_Bool (lone t)) [
      | inl e ↦ rw e (record { sound = g.sound; whole = lone-whole t e; no_lighter = g.weight_kept; one_heavier = omega (arith, g.weight_most, g.no_fewer); same_leaves = refl })
      | inr e ↦
          let more = gained f x s w e in
          let slack = below-full f t (omega (arith, g.one_more)) in
          rw e (record {
            sound = fits_node f t done some (omega (arith, g.one_more)) g.sound refl;
            whole = refl;
            no_lighter = omega (arith, g.weight_kept);
            one_heavier = omega (arith, g.weight_most, slack);
            same_leaves = append-nil (contents t);
          })
    ]

pub with_leaf-is : (f : ℕ) (x : Leaf) (s : Shape) → with_leaf f x s ≡ rooted (inserted f x s)
unfolding with_leaf
with_leaf-is f x s = refl

pub with_leaf-laws : (f : ℕ) (x : Leaf) (s : Shape) → 3 ≤ f → is_whole s ≡ true → fits f s ≡ true → WithLeaf f x s (with_leaf f x s)
unfolding with_leaf
with_leaf-laws f x s three w h = rooted_grown f x s three w h

pub with_leaf-contents : (f : ℕ) (x : Leaf) (s : Shape) → 3 ≤ f → is_whole s ≡ true → fits f s ≡ true → ordered_from 0 (contents s) ≡ true → contents (with_leaf f x s) ≡ placed x (contents s)
with_leaf-contents f x s three w h o = (with_leaf-laws f x s three w h).same_leaves ∙ inserted-contents f 0 x s (fits-filled f s h) o

pub with_leaf-ordered : (f : ℕ) (x : Leaf) (s : Shape) → 3 ≤ f → is_whole s ≡ true → fits f s ≡ true → ordered_from 0 (contents s) ≡ true → ordered_from 0 (contents (with_leaf f x s)) ≡ true
with_leaf-ordered f x s three w h o = rw (with_leaf-contents f x s three w h o) (placed-ordered 0 x (contents s) (omega arith) o)
