-- Where no leaf of a range of keys stands, by the first leaves of the rows.
use Rattle.std.specs.Prelude.{◌≡◌, ℕ, ◌-◌, ◌<◌, ◌==◌, nat_lt, true, false, ◌&&◌, List, [], ◌∷◌, ◌++◌}
use Rattle.std.proofs.Common.{refl, ap, sym, ◌∙◌, arith, inl, inr, append-nil}
use Rattle.std.proofs.lemmas.Bool.{cases_Bool}
use Rattle.std.proofs.lemmas.Bool.Decides.{nat_tests}
use Rattle.std.proofs.lemmas.List.Elements.{filter-append}
use Rattle.index_tree.specs.declared.leaf.Leaf.{Leaf}
use Rattle.index_tree.specs.Order.{leaf_rank, ordered_from, starts_within}
use Rattle.index_tree.proofs.OrderLaws.{ordered_head, ordered_cons, ordered-right, low_before}
use Rattle.index_tree.specs.Shape.{Shape, done, leaf, node, contents, count, filled, begins_within}
use Rattle.index_tree.proofs.SearchLaws.{node_filled, begins-starts}
use Rattle.index_tree.specs.Removal.{tidied}
use Rattle.index_tree.specs.RangeRemoval.{in_range, pruned, within_range}

within_range-above : (low from to : ℕ) (xs : List Leaf) → to < low → ordered_from low xs ≡ true → within_range from to xs ≡ []
within_range-above low from to [] h o = refl
within_range-above low from to (x ∷ xs) h o =
    let p = ordered_head low x xs o in
    let out : in_range from to x ≡ false = grind (arith, nat_tests, p.least) in
    rw out (within_range-above (leaf_rank x) from to xs (omega (arith, p.least)) p.others)

within_range-later : (low from to : ℕ) (xs : List Leaf) → ordered_from low xs ≡ true → starts_within to xs ≡ false → within_range from to xs ≡ []
within_range-later low from to [] o s = refl
within_range-later low from to (x ∷ xs) o s =
    let p = ordered_head low x xs o in
    let above : to < leaf_rank x = grind (arith, nat_tests) in
    let out : in_range from to x ≡ false = grind (arith, nat_tests) in
    rw out (within_range-above (leaf_rank x) from to xs above p.others)

within_range-before : (low j from to : ℕ) (xs ys : List Leaf) → j < from → ordered_from low (xs ++ ys) ≡ true → starts_within j ys ≡ true → within_range from to xs ≡ []
within_range-before low j from to [] ys h o s = refl
within_range-before low j from to (x ∷ xs) ys h o s =
    let p = ordered_head low x (xs ++ ys) o in
    let below = low_before (leaf_rank x) j xs ys p.others s in
    let out : in_range from to x ≡ false = grind (arith, nat_tests, below) in
    rw out (within_range-before (leaf_rank x) j from to xs ys h p.others s)

nil-left : (xs ys : List Leaf) → xs ++ ys ≡ [] → xs ≡ []
nil-left [] ys h = refl
nil-left (x ∷ xs) ys h = absurd cc

nil-right : (xs ys : List Leaf) → xs ++ ys ≡ [] → ys ≡ []
nil-right [] ys h = h
nil-right (x ∷ xs) ys h = absurd cc

pub tidied-filled : (c rest : Shape) → 0 < count c → tidied (node c rest) ≡ node c rest
tidied-filled c rest h =
    let some : (count c == 0) ≡ false = grind (arith, nat_tests) in
    rw some refl

-- a row without a leaf of the range stays as it is
pub pruned-absent : (from to : ℕ) (s : Shape) → filled s ≡ true → within_range from to (contents s) ≡ [] → pruned from to s ≡ s
pruned-absent from to done f h = refl
pruned-absent from to (leaf x rest) f h = elim (cases_Bool (in_range from to x)) [
  | inl e ↦ let none = rw e at h in absurd cc
  | inr e ↦ rw e (ap (λ v. leaf x v) (pruned-absent from to rest f (rw e at h)))
]
pruned-absent from to (node c rest) f h =
    let p = node_filled c rest f in
    let apart = sym (filter-append (λ x. in_range from to x) (contents c) (contents rest)) ∙ h in
    let left = pruned-absent from to c p.children (nil-left (within_range from to (contents c)) (within_range from to (contents rest)) apart) in
    let right = pruned-absent from to rest p.others (nil-right (within_range from to (contents c)) (within_range from to (contents rest)) apart) in
    ap (λ v. tidied (node v (pruned from to rest))) left ∙ ap (λ v. tidied (node c v)) right ∙ tidied-filled c rest p.least

-- a row in which no leaf of the range stands
pub record Untouched (from to : ℕ) (s : Shape) : Type 0 where
  pub none : within_range from to (contents s) ≡ []
  pub same : pruned from to s ≡ s

-- a leaf above the range begins the row
pub leaf_above : (from to : ℕ) (x : Leaf) (s rest : Shape) → s ≡ leaf x rest → filled s ≡ true → ordered_from 0 (contents s) ≡ true → to < leaf_rank x → Untouched from to s
leaf_above from to x s rest is f o h =
    let p = ordered_head 0 x (contents rest) (rw is at o) in
    let none : within_range from to (contents s) ≡ [] = ap (λ v. within_range from to (contents v)) is ∙ within_range-above (leaf_rank x) from to (x ∷ contents rest) h (ordered_cons (leaf_rank x) x (contents rest) (omega arith) p.others) in
    record { none = none; same = pruned-absent from to s f none }

-- the range begins behind the first node
pub record RangeBehind (from to : ℕ) (s c rest : Shape) : Type 0 where
  pub leaves : within_range from to (contents s) ≡ within_range from to (contents rest)
  pub row : pruned from to s ≡ node c (pruned from to rest)

pub range_behind : (from to : ℕ) (s c rest : Shape) → s ≡ node c rest → filled s ≡ true → ordered_from 0 (contents s) ≡ true → (nat_lt 0 from && begins_within (from - 1) rest) ≡ true → RangeBehind from to s c rest
range_behind from to s c rest is f o h =
    let p = node_filled c rest (rw is at f) in
    let both : ordered_from 0 (contents c ++ contents rest) ≡ true = rw is at o in
    elim (cases_Bool (nat_lt 0 from)) [
      | inr e ↦ let none = rw e at h in absurd cc
      | inl e ↦
          let starts = sym (begins-starts (from - 1) rest p.others) ∙ (rw e at h) in
          let none = within_range-before 0 (from - 1) from to (contents c) (contents rest) (grind (arith, nat_tests)) both starts in
          record {
            leaves = ap (λ v. within_range from to (contents v)) is ∙ filter-append (λ x. in_range from to x) (contents c) (contents rest) ∙ ap (λ v. v ++ within_range from to (contents rest)) none;
            row = ap (λ v. pruned from to v) is ∙ ap (λ v. tidied (node v (pruned from to rest))) (pruned-absent from to c p.children none) ∙ tidied-filled c (pruned from to rest) p.least;
          }
    ]

-- the range ends in the first node
pub record RangeBelow (from to : ℕ) (s c rest : Shape) : Type 0 where
  pub leaves : within_range from to (contents s) ≡ within_range from to (contents c)
  pub row : pruned from to s ≡ tidied (node (pruned from to c) rest)

pub range_below : (from to : ℕ) (s c rest : Shape) → s ≡ node c rest → filled s ≡ true → ordered_from 0 (contents s) ≡ true → begins_within to rest ≡ false → RangeBelow from to s c rest
range_below from to s c rest is f o h =
    let p = node_filled c rest (rw is at f) in
    let both : ordered_from 0 (contents c ++ contents rest) ≡ true = rw is at o in
    let none = within_range-later 0 from to (contents rest) (ordered-right 0 (contents c) (contents rest) both) (sym (begins-starts to rest p.others) ∙ h) in
    record {
      leaves = ap (λ v. within_range from to (contents v)) is ∙ filter-append (λ x. in_range from to x) (contents c) (contents rest) ∙ ap (λ v. within_range from to (contents c) ++ v) none ∙ append-nil (within_range from to (contents c));
      row = ap (λ v. pruned from to v) is ∙ ap (λ v. tidied (node (pruned from to c) v)) (pruned-absent from to rest p.others none);
    }
