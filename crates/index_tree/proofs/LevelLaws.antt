-- The leaves of a shape stay at one depth.
use Rattle.std.specs.Prelude.{◌≡◌, ℕ, ◌+◌, ◌-◌, ◌<◌, ◌≤◌, ◌==◌, nat_le, nat_lt, true}
use Rattle.std.proofs.Common.{refl, sym, subst, arith, inl, inr}
use Rattle.std.proofs.lemmas.Bool.{cases_Bool}
use Rattle.std.proofs.lemmas.Bool.Decides.{nat_tests}
use Rattle.index_tree.specs.declared.leaf.Leaf.{Leaf}
use Rattle.index_tree.specs.Order.{leaf_rank}
use Rattle.index_tree.specs.Shape.{Shape, done, leaf, node, contents, count, fits, filled, lone, is_whole, begins_within, front, back, left_half, parted, inserted, rooted, with_leaf}
use Rattle.index_tree.proofs.SearchLaws.{node_filled}
use Rattle.index_tree.proofs.GrowthLaws.{inserted-grown}
use Rattle.index_tree.proofs.InsertLaws.{fits-filled, with_leaf-laws}
use Rattle.index_tree.specs.Removal.{same_leaf, holds, tidied, removed, collapsed, without_leaf}
use Rattle.index_tree.proofs.CollapseLaws.{without_leaf-laws}
use Rattle.index_tree.specs.RangeRemoval.{in_range, pruned, without_range}
use Rattle.index_tree.proofs.RangeLaws.{without_range-laws}
use Rattle.index_tree.specs.Replacement.{replaced}
use Rattle.index_tree.proofs.ReplacementLaws.{replaced-same}
use Rattle.index_tree.specs.Listing.{height}
use Rattle.index_tree.specs.Levels.{levelled, is_levelled}

pub record LevelNode (h : ℕ) (c rest : Shape) : Type 0 where
  pub above : 0 < h
  pub children : levelled (h - 1) c ≡ true
  pub others : levelled h rest ≡ true

pub level_node : (h : ℕ) (c rest : Shape) → levelled h (node c rest) ≡ true → LevelNode h c rest
level_node h c rest l = elim (cases_Bool (nat_lt 0 h)) [
  | inr e ↦ let none = rw e at l in absurd cc
  | inl e ↦ elim (cases_Bool (levelled (h - 1) c)) [
    | inr g ↦ let none = rw g at (rw e at l) in absurd cc
    | inl g ↦ record { above = grind (arith, nat_tests); children = g; others = rw g at (rw e at l) }
  ]
]

pub node_level : (h : ℕ) (c rest : Shape) → 0 < h → levelled (h - 1) c ≡ true → levelled h rest ≡ true → levelled h (node c rest) ≡ true
node_level h c rest above children others =
    let a : nat_lt 0 h ≡ true = grind (arith, nat_tests) in
    rw (a, children, others) refl

pub record LevelLeaf (h : ℕ) (rest : Shape) : Type 0 where
  pub lowest : (h == 0) ≡ true
  pub others : levelled h rest ≡ true

pub level_leaf : (h : ℕ) (x : Leaf) (rest : Shape) → levelled h (leaf x rest) ≡ true → LevelLeaf h rest
level_leaf h x rest l = elim (cases_Bool (h == 0)) [
  | inr e ↦ let none = rw e at l in absurd cc
  | inl e ↦ record { lowest = e; others = rw e at l }
]

pub leaf_level : (h : ℕ) (x : Leaf) (rest : Shape) → (h == 0) ≡ true → levelled h rest ≡ true → levelled h (leaf x rest) ≡ true
leaf_level h x rest lowest others = rw (lowest, others) refl

-- a row that has siblings has as many levels as its first leaf says
pub levelled-height : (h : ℕ) (s : Shape) → filled s ≡ true → 0 < count s → levelled h s ≡ true → height s ≡ h
levelled-height h done f some l = absurd (omega arith)
levelled-height h (leaf x rest) f some l = let low = (level_leaf h x rest l).lowest in grind (arith, nat_tests)
levelled-height h (node c rest) f some l =
    let p = node_filled c rest f in
    let q = level_node h c rest l in
    omega (arith, levelled-height (h - 1) c p.children p.least q.children, q.above)

pub levelled-is : (h : ℕ) (s : Shape) → filled s ≡ true → levelled h s ≡ true → is_levelled s ≡ true
levelled-is h done f l = refl
levelled-is h (leaf x rest) f l =
    let P : ℕ → Type 0 = λ k. levelled k (leaf x rest) ≡ true in
    subst P (sym (levelled-height h (leaf x rest) f (omega arith) l)) l
levelled-is h (node c rest) f l =
    let P : ℕ → Type 0 = λ k. levelled k (node c rest) ≡ true in
    subst P (sym (levelled-height h (node c rest) f (omega arith) l)) l

pub height-empty : (s : Shape) → count s ≡ 0 → height s ≡ 0
height-empty done h = refl
height-empty (leaf x rest) h = absurd (omega arith)
height-empty (node c rest) h = absurd (omega arith)

begins-some : (k : ℕ) (s : Shape) → begins_within k s ≡ true → 0 < count s
begins-some k done h = absurd cc
begins-some k (leaf x rest) h = omega arith
begins-some k (node c rest) h = omega arith

front-levelled : (h n : ℕ) (s : Shape) → levelled h s ≡ true → levelled h (front n s) ≡ true
front-levelled h n done l = refl
front-levelled h n (leaf x rest) l =
    let q = level_leaf h x rest l in
    elim (cases_Bool (n == 0)) [
      | inl e ↦ rw e refl
      | inr e ↦ rw e (leaf_level h x (front (n - 1) rest) q.lowest (front-levelled h (n - 1) rest q.others))
    ]
front-levelled h n (node c rest) l =
    let q = level_node h c rest l in
    elim (cases_Bool (n == 0)) [
      | inl e ↦ rw e refl
      | inr e ↦ rw e (node_level h c (front (n - 1) rest) q.above q.children (front-levelled h (n - 1) rest q.others))
    ]

back-levelled : (h n : ℕ) (s : Shape) → levelled h s ≡ true → levelled h (back n s) ≡ true
back-levelled h n done l = refl
back-levelled h n (leaf x rest) l = elim (cases_Bool (n == 0)) [
  | inl e ↦ rw e l
  | inr e ↦ rw e (back-levelled h (n - 1) rest (level_leaf h x rest l).others)
]
back-levelled h n (node c rest) l = elim (cases_Bool (n == 0)) [
  | inl e ↦ rw e l
  | inr e ↦ rw e (back-levelled h (n - 1) rest (level_node h c rest l).others)
]

parted-levelled : (f h : ℕ) (c rest : Shape) → 0 < h → levelled (h - 1) c ≡ true → levelled h rest ≡ true → levelled h (parted f c rest) ≡ true
unfolding parted
parted-levelled f h c rest above children others = elim (cases_Bool (nat_le (f + 1) (count c))) [
  | inl e ↦
      let right = node_level h (back (left_half f) c) rest above (back-levelled (h - 1) (left_half f) c children) others in
      rw e (node_level h (front (left_half f) c) (node (back (left_half f) c) rest) above (front-levelled (h - 1) (left_half f) c children) right)
  | inr e ↦ rw e (node_level h c rest above children others)
]

inserted-levelled : (f h : ℕ) (x : Leaf) (s : Shape) → filled s ≡ true → (count s ≡ 0 → h ≡ 0) → levelled h s ≡ true → levelled h (inserted f x s) ≡ true
inserted-levelled f h x done p none l =
    let lowest = none refl in
    let a : (h == 0) ≡ true = grind (arith, nat_tests) in
    rw a refl
inserted-levelled f h x (leaf y rest) p none l =
    let q = level_leaf h y rest l in
    let low : h ≡ 0 = let a = q.lowest in grind (arith, nat_tests) in
    elim (cases_Bool (nat_le (leaf_rank y) (leaf_rank x))) [
      | inl e ↦ rw e (leaf_level h y (inserted f x rest) q.lowest (inserted-levelled f h x rest p (λ _. low) q.others))
      | inr e ↦ rw e (leaf_level h x (leaf y rest) q.lowest l)
    ]
inserted-levelled f h x (node c rest) p none l =
    let n = node_filled c rest p in
    let q = level_node h c rest l in
    elim (cases_Bool (begins_within (leaf_rank x) rest)) [
      | inl e ↦
          let some = begins-some (leaf_rank x) rest e in
          rw e (node_level h c (inserted f x rest) q.above q.children (inserted-levelled f h x rest n.others (λ z. absurd (omega arith)) q.others))
      | inr e ↦
          let some = n.least in
          rw e (parted-levelled f h (inserted f x c) rest q.above (inserted-levelled f (h - 1) x c n.children (λ z. absurd (omega arith)) q.children) q.others)
    ]

pub with_leaf-levelled : (f : ℕ) (x : Leaf) (s : Shape) → 3 ≤ f → is_whole s ≡ true → fits f s ≡ true → is_levelled s ≡ true → is_levelled (with_leaf f x s) ≡ true
unfolding with_leaf
with_leaf-levelled f x s three w h l =
    let t = inserted f x s in
    let row = inserted-levelled f (height s) x s (fits-filled f s h) (height-empty s) l in
    let sound = fits-filled f (rooted t) (with_leaf-laws f x s three w h).sound in
    elim (cases_Bool (lone t)) [
      | inl e ↦ rw e (levelled-is (height s) t (fits-filled f t (inserted-grown f x s three h).sound) row)
      | inr e ↦
          let filled_root : filled (node t done) ≡ true = rw e at sound in
          rw e (levelled-is (height s + 1) (node t done) filled_root (node_level (height s + 1) t done (omega arith) (let same : height s + 1 - 1 ≡ height s = omega arith in let P : ℕ → Type 0 = λ k. levelled k t ≡ true in subst P (sym same) row) refl))
    ]

tidied-levelled : (h : ℕ) (c rest : Shape) → 0 < h → levelled (h - 1) c ≡ true → levelled h rest ≡ true → levelled h (tidied (node c rest)) ≡ true
tidied-levelled h c rest above children others = elim (cases_Bool (count c == 0)) [
  | inl e ↦ rw e others
  | inr e ↦ rw e (node_level h c rest above children others)
]

removed-levelled : (h : ℕ) (gone : Leaf) (s : Shape) → levelled h s ≡ true → levelled h (removed gone s) ≡ true
removed-levelled h gone done l = refl
removed-levelled h gone (leaf x rest) l =
    let q = level_leaf h x rest l in
    elim (cases_Bool (same_leaf x gone)) [
      | inl e ↦ rw e q.others
      | inr e ↦ rw e (leaf_level h x (removed gone rest) q.lowest (removed-levelled h gone rest q.others))
    ]
removed-levelled h gone (node c rest) l =
    let q = level_node h c rest l in
    elim (cases_Bool (holds gone (contents c))) [
      | inl e ↦ rw e (tidied-levelled h (removed gone c) rest q.above (removed-levelled (h - 1) gone c q.children) q.others)
      | inr e ↦ rw e (node_level h c (removed gone rest) q.above q.children (removed-levelled h gone rest q.others))
    ]

pruned-levelled : (h from to : ℕ) (s : Shape) → levelled h s ≡ true → levelled h (pruned from to s) ≡ true
pruned-levelled h from to done l = refl
pruned-levelled h from to (leaf x rest) l =
    let q = level_leaf h x rest l in
    elim (cases_Bool (in_range from to x)) [
      | inl e ↦ rw e (pruned-levelled h from to rest q.others)
      | inr e ↦ rw e (leaf_level h x (pruned from to rest) q.lowest (pruned-levelled h from to rest q.others))
    ]
pruned-levelled h from to (node c rest) l =
    let q = level_node h c rest l in
    tidied-levelled h (pruned from to c) (pruned from to rest) q.above (pruned-levelled (h - 1) from to c q.children) (pruned-levelled h from to rest q.others)

-- a shape whose leaves stand at some one depth
record AtDepth (s : Shape) : Type 0 where
  pub depth : ℕ
  pub levels : levelled depth s ≡ true

collapsed-levelled : (h : ℕ) (s : Shape) → levelled h s ≡ true → AtDepth (collapsed s)
collapsed-levelled h done l = record { depth = h; levels = l }
collapsed-levelled h (leaf x rest) l = record { depth = h; levels = l }
collapsed-levelled h (node c rest) l =
    let q = level_node h c rest l in
    elim (cases_Bool (lone c)) [
      | inl e ↦ rw e (collapsed-levelled (h - 1) c q.children)
      | inr e ↦ rw e (record { depth = h; levels = l })
    ]

pub without_leaf-levelled : (f : ℕ) (gone : Leaf) (s : Shape) → is_whole s ≡ true → fits f s ≡ true → is_levelled s ≡ true → is_levelled (without_leaf gone s) ≡ true
unfolding without_leaf
without_leaf-levelled f gone s w h l =
    let d = collapsed-levelled (height s) (removed gone s) (removed-levelled (height s) gone s l) in
    levelled-is d.depth (collapsed (removed gone s)) (fits-filled f (collapsed (removed gone s)) (without_leaf-laws f gone s w h).sound) d.levels

pub without_range-levelled : (f from to : ℕ) (s : Shape) → is_whole s ≡ true → fits f s ≡ true → is_levelled s ≡ true → is_levelled (without_range from to s) ≡ true
unfolding without_range
without_range-levelled f from to s w h l =
    let d = collapsed-levelled (height s) (pruned from to s) (pruned-levelled (height s) from to s l) in
    levelled-is d.depth (collapsed (pruned from to s)) (fits-filled f (collapsed (pruned from to s)) (without_range-laws f from to s w h).sound) d.levels

replaced-row : (h : ℕ) (old new : Leaf) (s : Shape) → levelled h s ≡ true → levelled h (replaced old new s) ≡ true
replaced-row h old new done l = refl
replaced-row h old new (leaf x rest) l =
    let q = level_leaf h x rest l in
    elim (cases_Bool (same_leaf x old)) [
      | inl e ↦ rw e (leaf_level h new rest q.lowest q.others)
      | inr e ↦ rw e (leaf_level h x (replaced old new rest) q.lowest (replaced-row h old new rest q.others))
    ]
replaced-row h old new (node c rest) l =
    let q = level_node h c rest l in
    elim (cases_Bool (holds old (contents c))) [
      | inl e ↦ rw e (node_level h (replaced old new c) rest q.above (replaced-row (h - 1) old new c q.children) q.others)
      | inr e ↦ rw e (node_level h c (replaced old new rest) q.above q.children (replaced-row h old new rest q.others))
    ]

pub replaced-levelled : (f : ℕ) (old new : Leaf) (s : Shape) → fits f s ≡ true → is_levelled s ≡ true → is_levelled (replaced old new s) ≡ true
replaced-levelled f old new s h l = levelled-is (height s) (replaced old new s) (fits-filled f (replaced old new s) (replaced-same f old new s h).sound) (replaced-row (height s) old new s l)
