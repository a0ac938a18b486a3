-- What an insertion does to the numbers of a shape.
use Rattle.std.specs.Prelude.{◌≡◌, ℕ, ◌+◌, ◌-◌, ◌<◌, ◌≤◌, ◌==◌, min, nat_le, nat_lt, true}
use Rattle.std.proofs.Common.{refl, arith, inl, inr}
use Rattle.std.proofs.lemmas.Bool.{cases_Bool}
use Rattle.std.proofs.lemmas.Bool.Decides.{nat_tests}
use Rattle.index_tree.specs.declared.leaf.Leaf.{Leaf}
use Rattle.index_tree.specs.Order.{leaf_rank}
use Rattle.index_tree.specs.Places.{splits}
use Rattle.index_tree.specs.Shape.{Shape, done, leaf, node, count, node_count, full, shape_weight, fits, front, back, left_half, parted, inserted, begins_within}

pub front-count : (n : ℕ) (s : Shape) → count (front n s) ≡ min n (count s)
front-count n done = grind arith
front-count n (leaf x rest) = let h = front-count (n - 1) rest in grind (arith, nat_tests)
front-count n (node c rest) = let h = front-count (n - 1) rest in grind (arith, nat_tests)

pub back-count : (n : ℕ) (s : Shape) → count (back n s) ≡ count s - n
back-count n done = grind arith
back-count n (leaf x rest) = let h = back-count (n - 1) rest in grind (arith, nat_tests)
back-count n (node c rest) = let h = back-count (n - 1) rest in grind (arith, nat_tests)

pub halves-node_count : (n : ℕ) (s : Shape) → node_count (front n s) + node_count (back n s) ≡ node_count s
halves-node_count n done = refl
halves-node_count n (leaf x rest) = let h = halves-node_count (n - 1) rest in grind (arith, nat_tests)
halves-node_count n (node c rest) = let h = halves-node_count (n - 1) rest in grind (arith, nat_tests)

pub halves-weight : (f n : ℕ) (s : Shape) → shape_weight f (front n s) + shape_weight f (back n s) ≡ shape_weight f s
halves-weight f n done = refl
halves-weight f n (leaf x rest) = let h = halves-weight f (n - 1) rest in grind (arith, nat_tests)
halves-weight f n (node c rest) = let h = halves-weight f (n - 1) rest in grind (arith, nat_tests)

pub parted-count : (f : ℕ) (c rest : Shape) → count (parted f c rest) ≡ count rest + 1 + splits f c
unfolding parted
parted-count f c rest = elim (cases_Bool (nat_le (f + 1) (count c))) [
  | inl e ↦ rw e (omega arith)
  | inr e ↦ rw e (omega arith)
]

pub parted-node_count : (f : ℕ) (c rest : Shape) → node_count (parted f c rest) ≡ node_count c + node_count rest + 1 + splits f c
unfolding parted
parted-node_count f c rest = elim (cases_Bool (nat_le (f + 1) (count c))) [
  | inl e ↦ rw e (omega (arith, halves-node_count (left_half f) c))
  | inr e ↦ rw e (omega arith)
]

pub below-full : (f : ℕ) (c : Shape) → count c < f → full f c ≡ 0
below-full f c h = grind (arith, nat_tests)

at-full : (f : ℕ) (c : Shape) → f ≤ count c → full f c ≡ 1
at-full f c h = grind (arith, nat_tests)

pub parted-weight : (f : ℕ) (c rest : Shape) → 3 ≤ f → count c ≤ f + 1 → shape_weight f (parted f c rest) ≡ shape_weight f c + shape_weight f rest + 1 + full f c
unfolding parted
parted-weight f c rest least most = elim (cases_Bool (nat_le (f + 1) (count c))) [
  | inl e ↦
      let more : f + 1 ≤ count c = grind (arith, nat_tests) in
      let left = below-full f (front (left_half f) c) (omega (arith, front-count (left_half f) c)) in
      let right = below-full f (back (left_half f) c) (omega (arith, back-count (left_half f) c)) in
      let whole = at-full f c (omega arith) in
      rw e (rw (left, right, whole) (omega (arith, halves-weight f (left_half f) c)))
  | inr e ↦ rw e refl
]

pub record NodeFits (f : ℕ) (c rest : Shape) : Type 0 where
  pub least : 0 < count c
  pub most : count c ≤ f
  pub children : fits f c ≡ true
  pub others : fits f rest ≡ true

pub node_fits : (f : ℕ) (c rest : Shape) → fits f (node c rest) ≡ true → NodeFits f c rest
node_fits f c rest h = elim (cases_Bool (nat_lt 0 (count c))) [
  | inr e ↦ let none = rw e at h in absurd cc
  | inl e ↦ elim (cases_Bool (nat_le (count c) f)) [
    | inr m ↦ let none = rw m at (rw e at h) in absurd cc
    | inl m ↦ elim (cases_Bool (fits f c)) [
      | inr g ↦ let none = rw g at (rw m at (rw e at h)) in absurd cc
      | inl g ↦ record { least = grind (arith, nat_tests); most = grind (arith, nat_tests); children = g; others = rw g at (rw m at (rw e at h)) }
    ]
  ]
]

pub fits_node : (f : ℕ) (c rest : Shape) → 0 < count c → count c ≤ f → fits f c ≡ true → fits f rest ≡ true → fits f (node c rest) ≡ true
fits_node f c rest least most children others =
    let a : nat_lt 0 (count c) ≡ true = grind (arith, nat_tests) in
    let b : nat_le (count c) f ≡ true = grind (arith, nat_tests) in
    rw (a, b, children, others) refl

pub front-fits : (f n : ℕ) (s : Shape) → fits f s ≡ true → fits f (front n s) ≡ true
front-fits f n done h = refl
front-fits f n (leaf x rest) h = elim (cases_Bool (n == 0)) [
  | inl e ↦ rw e refl
  | inr e ↦ rw e (front-fits f (n - 1) rest h)
]
front-fits f n (node c rest) h =
    let p = node_fits f c rest h in
    elim (cases_Bool (n == 0)) [
      | inl e ↦ rw e refl
      | inr e ↦ rw e (fits_node f c (front (n - 1) rest) p.least p.most p.children (front-fits f (n - 1) rest p.others))
    ]

pub back-fits : (f n : ℕ) (s : Shape) → fits f s ≡ true → fits f (back n s) ≡ true
back-fits f n done h = refl
back-fits f n (leaf x rest) h = elim (cases_Bool (n == 0)) [
  | inl e ↦ rw e h
  | inr e ↦ rw e (back-fits f (n - 1) rest h)
]
back-fits f n (node c rest) h =
    let p = node_fits f c rest h in
    elim (cases_Bool (n == 0)) [
      | inl e ↦ rw e h
      | inr e ↦ rw e (back-fits f (n - 1) rest p.others)
    ]

pub parted-fits : (f : ℕ) (c rest : Shape) → 3 ≤ f → 0 < count c → count c ≤ f + 1 → fits f c ≡ true → fits f rest ≡ true → fits f (parted f c rest) ≡ true
unfolding parted
parted-fits f c rest three least most children others = elim (cases_Bool (nat_le (f + 1) (count c))) [
  | inl e ↦
      let more : f + 1 ≤ count c = grind (arith, nat_tests) in
      let right = fits_node f (back (left_half f) c) rest (omega (arith, back-count (left_half f) c)) (omega (arith, back-count (left_half f) c)) (back-fits f (left_half f) c children) others in
      rw e (fits_node f (front (left_half f) c) (node (back (left_half f) c) rest) (omega (arith, front-count (left_half f) c)) (omega (arith, front-count (left_half f) c)) (front-fits f (left_half f) c children) right)
  | inr e ↦
      let less : count c < f + 1 = grind (arith, nat_tests) in
      rw e (fits_node f c rest least (omega arith) children others)
]

-- a row of a sound shape and what an insertion makes of it
pub record Grown (f : ℕ) (s t : Shape) : Type 0 where
  pub no_fewer : count s ≤ count t
  pub one_more : count t ≤ count s + 1
  pub nodes_kept : node_count s ≤ node_count t
  pub nodes_most : node_count t ≤ node_count s + node_count s
  pub weight_kept : shape_weight f s ≤ shape_weight f t
  pub weight_most : shape_weight f t + count t ≤ shape_weight f s + count s + 1
  pub sound : fits f t ≡ true

splits-least : (f : ℕ) (c : Shape) → count c ≤ f → splits f c ≡ 0
splits-least f c h = grind (arith, nat_tests)

splits-most : (f : ℕ) (c : Shape) → splits f c ≤ 1
splits-most f c = grind (arith, nat_tests)

splits-full : (f : ℕ) (c : Shape) → splits f c ≤ full f c
splits-full f c = grind (arith, nat_tests)

full-most : (f : ℕ) (c : Shape) → full f c ≤ 1
full-most f c = grind (arith, nat_tests)

full-rises : (f : ℕ) (c d : Shape) → count c ≤ count d → full f c ≤ full f d
full-rises f c d h = grind (arith, nat_tests)

-- a node that splits was full before
splits-was_full : (f : ℕ) (c d : Shape) → count d ≤ count c + 1 → splits f d ≤ full f c
splits-was_full f c d h = grind (arith, nat_tests)

-- a node becomes full, or splits, only by another child
splits-by_count : (f : ℕ) (c d : Shape) → count c ≤ f → count c ≤ count d → count d ≤ count c + 1 → full f d + splits f d + count c ≤ full f c + count d
splits-by_count f c d most h m = grind (arith, nat_tests)

pub parted-grown : (f : ℕ) (c d rest : Shape) → 3 ≤ f → NodeFits f c rest → Grown f c d → Grown f (node c rest) (parted f d rest)
parted-grown f c d rest three p g =
    let k = g.no_fewer in
    let m = g.one_more in
    let a = parted-count f d rest in
    let b = parted-node_count f d rest in
    let w = parted-weight f d rest three (omega (arith, p.most, m)) in
    let s1 = splits-most f d in
    let s2 = splits-was_full f c d m in
    let s3 = full-most f d in
    let s4 = full-rises f c d k in
    let s5 = splits-by_count f c d p.most k m in
    record {
      no_fewer = omega arith;
      one_more = omega arith;
      nodes_kept = omega (arith, g.nodes_kept);
      nodes_most = omega (arith, g.nodes_most);
      weight_kept = omega (arith, g.weight_kept);
      weight_most = omega (arith, g.weight_most);
      sound = parted-fits f d rest three (omega (arith, p.least)) (omega (arith, p.most)) g.sound p.others;
    }

pub inserted-grown : (f : ℕ) (x : Leaf) (s : Shape) → 3 ≤ f → fits f s ≡ true → Grown f s (inserted f x s)
inserted-grown f x done three h =
    record { no_fewer = omega arith; one_more = omega arith; nodes_kept = omega arith; nodes_most = omega arith; weight_kept = omega arith; weight_most = omega arith; sound = refl }
inserted-grown f x (leaf y rest) three h = elim (cases_Bool (nat_le (leaf_rank y) (leaf_rank x))) [
  | inl e ↦
      let g = inserted-grown f x rest three h in
      rw e (record { no_fewer = omega (arith, g.no_fewer); one_more = omega (arith, g.one_more); nodes_kept = g.nodes_kept; nodes_most = g.nodes_most; weight_kept = g.weight_kept; weight_most = omega (arith, g.weight_most); sound = g.sound })
  | inr e ↦ rw e (record { no_fewer = omega arith; one_more = omega arith; nodes_kept = omega arith; nodes_most = omega arith; weight_kept = omega arith; weight_most = omega arith; sound = h })
]
inserted-grown f x (node c rest) three h =
    let p = node_fits f c rest h in
    elim (cases_Bool (begins_within (leaf_rank x) rest)) [
      | inl e ↦
          let g = inserted-grown f x rest three p.others in
          rw e (record { no_fewer = omega (arith, g.no_fewer); one_more = omega (arith, g.one_more); nodes_kept = omega (arith, g.nodes_kept); nodes_most = omega (arith, g.nodes_most); weight_kept = omega (arith, g.weight_kept); weight_most = omega (arith, g.weight_most); sound = fits_node f c (inserted f x rest) p.least p.most p.children g.sound })
      | inr e ↦ rw e (parted-grown f c (inserted f x c) rest three p (inserted-grown f x c three p.children))
    ]

pub ruleset growth = (nat_tests, parted-count, parted-node_count, parted-weight, inserted-grown, node_fits)
