-- An insertion by keys of branches keeps what an index is: how many children nodes have, the level of leaves, and that keys are keys.
use Rattle.std.proofs.Common.{◌≡◌, ℕ, ◌+◌, ◌-◌, ◌<◌, ◌≤◌, true, refl, sym, subst, arith, inl, inr}
use Rattle.std.specs.Prelude.{◌==◌, min, nat_le, nat_lt, ⊤}
use Rattle.std.proofs.lemmas.Bool.{cases_Bool}
use Rattle.std.proofs.lemmas.Bool.Decides.{nat_tests}
use Rattle.ubifs_base.specs.Key.{IsKey}
use Rattle.ubifs_base.specs.declared.key.Key.{Key}
use Rattle.index_tree.specs.Levels.{levelled}
use Rattle.index_tree.specs.Order.{leaf_rank, key_rank}
use Rattle.index_tree.specs.Shape.{Shape, done, leaf, node, count, fits, front, back, left_half, parted}
use Rattle.index_tree.specs.declared.leaf.Leaf.{Leaf}
use Rattle.index_media.specs.Insertion.{starts_by, first_key, keyed_front, keyed_back, keyed_parted, lowered, inserted_by_keys}
use Rattle.index_media.specs.InsertionLaws.{parted_bare}
use Rattle.index_media.specs.KeyedRow.{KeyedRow, no_more, leaf_in, node_in, bare}

-- the keys of leaves and of branches are keys
abbrev pub AreKeys : KeyedRow → Type 0
AreKeys no_more = ⊤
AreKeys (leaf_in x rest) = IsKey x.key × AreKeys rest
AreKeys (node_in key place children rest) = IsKey key × AreKeys children × AreKeys rest

-- the first n siblings of a shape, and those behind them
pub front_count : (n : ℕ) (s : Shape) → count (front n s) ≡ min n (count s)
front_count n done = grind arith
front_count n (leaf x rest) = let h = front_count (n - 1) rest in grind (arith, nat_tests)
front_count n (node c rest) = let h = front_count (n - 1) rest in grind (arith, nat_tests)

pub back_count : (n : ℕ) (s : Shape) → count (back n s) ≡ count s - n
back_count n done = grind arith
back_count n (leaf x rest) = let h = back_count (n - 1) rest in grind (arith, nat_tests)
back_count n (node c rest) = let h = back_count (n - 1) rest in grind (arith, nat_tests)

-- what each node's children say of a row
pub record FitNode (f : ℕ) (c rest : Shape) : Type 0 where
  pub least : 0 < count c
  pub most : count c ≤ f
  pub children : fits f c ≡ true
  pub others : fits f rest ≡ true

pub fit_node : (f : ℕ) (c rest : Shape) → fits f (node c rest) ≡ true → FitNode f c rest
fit_node f c rest h = elim (cases_Bool (nat_lt 0 (count c))) [
  | inr e ↦ let none = rw e at h in absurd cc
  | inl e ↦ elim (cases_Bool (nat_le (count c) f)) [
    | inr m ↦ let none = rw m at (rw e at h) in absurd cc
    | inl m ↦ elim (cases_Bool (fits f c)) [
      | inr g ↦ let none = rw g at (rw m at (rw e at h)) in absurd cc
      | inl g ↦ record { least = grind (arith, nat_tests); most = grind (arith, nat_tests); children = g; others = rw g at (rw m at (rw e at h)) }
    ]
  ]
]

pub fits_node : (f : ℕ) (c rest : Shape) → 0 < count c → count c ≤ f → fits f c ≡ true → fits f rest ≡ true → fits f (node c rest) ≡ true
fits_node f c rest least most children others =
    let a : nat_lt 0 (count c) ≡ true = grind (arith, nat_tests) in
    let b : nat_le (count c) f ≡ true = grind (arith, nat_tests) in
    rw (a, b, children, others) refl

pub front_fits : (f n : ℕ) (s : Shape) → fits f s ≡ true → fits f (front n s) ≡ true
front_fits f n done h = refl
front_fits f n (leaf x rest) h = elim (cases_Bool (n == 0)) [
  | inl e ↦ rw e refl
  | inr e ↦ rw e (front_fits f (n - 1) rest h)
]
front_fits f n (node c rest) h =
    let p = fit_node f c rest h in
    elim (cases_Bool (n == 0)) [
      | inl e ↦ rw e refl
      | inr e ↦ rw e (fits_node f c (front (n - 1) rest) p.least p.most p.children (front_fits f (n - 1) rest p.others))
    ]

pub back_fits : (f n : ℕ) (s : Shape) → fits f s ≡ true → fits f (back n s) ≡ true
back_fits f n done h = refl
back_fits f n (leaf x rest) h = elim (cases_Bool (n == 0)) [
  | inl e ↦ rw e h
  | inr e ↦ rw e (back_fits f (n - 1) rest h)
]
back_fits f n (node c rest) h =
    let p = fit_node f c rest h in
    elim (cases_Bool (n == 0)) [
      | inl e ↦ rw e h
      | inr e ↦ rw e (back_fits f (n - 1) rest p.others)
    ]

parted_fits : (f : ℕ) (c rest : Shape) → 3 ≤ f → 0 < count c → count c ≤ f + 1 → fits f c ≡ true → fits f rest ≡ true → fits f (parted f c rest) ≡ true
unfolding parted
parted_fits f c rest three least most children others = elim (cases_Bool (nat_le (f + 1) (count c))) [
  | inl e ↦
      let more : f + 1 ≤ count c = grind (arith, nat_tests) in
      let right = fits_node f (back (left_half f) c) rest (omega (arith, back_count (left_half f) c)) (omega (arith, back_count (left_half f) c)) (back_fits f (left_half f) c children) others in
      rw e (fits_node f (front (left_half f) c) (node (back (left_half f) c) rest) (omega (arith, front_count (left_half f) c)) (omega (arith, front_count (left_half f) c)) (front_fits f (left_half f) c children) right)
  | inr e ↦
      let less : count c < f + 1 = grind (arith, nat_tests) in
      rw e (fits_node f c rest least (omega arith) children others)
]

parted_count : (f : ℕ) (c rest : Shape) → 3 ≤ f → (count rest + 1 ≤ count (parted f c rest)) × (count (parted f c rest) ≤ count rest + 2)
unfolding parted
parted_count f c rest three = elim (cases_Bool (nat_le (f + 1) (count c))) [
  | inl e ↦ rw e (omega arith, omega arith)
  | inr e ↦ rw e (omega arith, omega arith)
]

-- a row, and what an insertion makes of it
pub record Grown (f : ℕ) (old new : Shape) : Type 0 where
  pub no_fewer : count old ≤ count new
  pub some : 0 < count new
  pub one_more : count new ≤ count old + 1
  pub sound : fits f new ≡ true

-- what stands for a node whose children grew
parted_grown : (f : ℕ) (c d rest : Shape) → 3 ≤ f → FitNode f c rest → Grown f c d → Grown f (node c rest) (parted f d rest)
parted_grown f c d rest three p g =
    let long = parted_count f d rest three in
    record {
      no_fewer = omega (arith, long.0);
      some = omega (arith, long.0);
      one_more = omega (arith, long.1);
      sound = parted_fits f d rest three g.some (omega (arith, p.most, g.one_more)) g.sound p.others;
    }

pub inserted_grown : (f : ℕ) (new : Leaf) (row : KeyedRow) → 3 ≤ f → fits f (bare row) ≡ true → Grown f (bare row) (bare (inserted_by_keys f new row))
inserted_grown f new no_more three h = record { no_fewer = omega arith; some = omega arith; one_more = omega arith; sound = refl }
inserted_grown f new (leaf_in x rest) three h = elim (cases_Bool (nat_le (leaf_rank x) (leaf_rank new))) [
  | inl e ↦
      let g = inserted_grown f new rest three h in
      rw e (record { no_fewer = omega (arith, g.no_fewer); some = omega arith; one_more = omega (arith, g.one_more); sound = g.sound })
  | inr e ↦ rw e (record { no_fewer = omega arith; some = omega arith; one_more = omega arith; sound = h })
]
inserted_grown f new (node_in key place c rest) three h =
    let p = fit_node f (bare c) (bare rest) h in
    elim (cases_Bool (starts_by (leaf_rank new) rest)) [
      | inl e ↦
          let g = inserted_grown f new rest three p.others in
          rw e (record { no_fewer = omega (arith, g.no_fewer); some = omega arith; one_more = omega (arith, g.one_more); sound = fits_node f (bare c) (bare (inserted_by_keys f new rest)) p.least p.most p.children g.sound })
      | inr e ↦
          let P : Shape → Type 0 = λ s. Grown f (node (bare c) (bare rest)) s in
          rw e (subst P (sym (parted_bare f (lowered new key) (inserted_by_keys f new c) rest)) (parted_grown f (bare c) (bare (inserted_by_keys f new c)) (bare rest) three p (inserted_grown f new c three p.children)))
    ]

-- levels
pub record LevelNode (h : ℕ) (c rest : Shape) : Type 0 where
  pub above : 0 < h
  pub children : levelled (h - 1) c ≡ true
  pub others : levelled h rest ≡ true

pub level_node : (h : ℕ) (c rest : Shape) → levelled h (node c rest) ≡ true → LevelNode h c rest
level_node h c rest l = elim (cases_Bool (nat_lt 0 h)) [
  | inr e ↦ let none = rw e at l in absurd cc
  | inl e ↦ elim (cases_Bool (levelled (h - 1) c)) [
    | inr g ↦ let none = rw g at (rw e at l) in absurd cc
    | inl g ↦ record { above = grind (arith, nat_tests); children = g; others = rw g at (rw e at l) }
  ]
]

pub node_level : (h : ℕ) (c rest : Shape) → 0 < h → levelled (h - 1) c ≡ true → levelled h rest ≡ true → levelled h (node c rest) ≡ true
node_level h c rest above children others =
    let a : nat_lt 0 h ≡ true = grind (arith, nat_tests) in
    rw (a, children, others) refl

pub record LevelLeaf (h : ℕ) (rest : Shape) : Type 0 where
  pub lowest : (h == 0) ≡ true
  pub others : levelled h rest ≡ true

pub level_leaf : (h : ℕ) (x : Leaf) (rest : Shape) → levelled h (leaf x rest) ≡ true → LevelLeaf h rest
level_leaf h x rest l = elim (cases_Bool (h == 0)) [
  | inr e ↦ let none = rw e at l in absurd cc
  | inl e ↦ record { lowest = e; others = rw e at l }
]

pub leaf_level : (h : ℕ) (x : Leaf) (rest : Shape) → (h == 0) ≡ true → levelled h rest ≡ true → levelled h (leaf x rest) ≡ true
leaf_level h x rest lowest others = rw (lowest, others) refl

pub front_levelled : (h n : ℕ) (s : Shape) → levelled h s ≡ true → levelled h (front n s) ≡ true
front_levelled h n done l = refl
front_levelled h n (leaf x rest) l =
    let q = level_leaf h x rest l in
    elim (cases_Bool (n == 0)) [
      | inl e ↦ rw e refl
      | inr e ↦ rw e (leaf_level h x (front (n - 1) rest) q.lowest (front_levelled h (n - 1) rest q.others))
    ]
front_levelled h n (node c rest) l =
    let q = level_node h c rest l in
    elim (cases_Bool (n == 0)) [
      | inl e ↦ rw e refl
      | inr e ↦ rw e (node_level h c (front (n - 1) rest) q.above q.children (front_levelled h (n - 1) rest q.others))
    ]

pub back_levelled : (h n : ℕ) (s : Shape) → levelled h s ≡ true → levelled h (back n s) ≡ true
back_levelled h n done l = refl
back_levelled h n (leaf x rest) l = elim (cases_Bool (n == 0)) [
  | inl e ↦ rw e l
  | inr e ↦ rw e (back_levelled h (n - 1) rest (level_leaf h x rest l).others)
]
back_levelled h n (node c rest) l = elim (cases_Bool (n == 0)) [
  | inl e ↦ rw e l
  | inr e ↦ rw e (back_levelled h (n - 1) rest (level_node h c rest l).others)
]

parted_levelled : (f h : ℕ) (c rest : Shape) → 0 < h → levelled (h - 1) c ≡ true → levelled h rest ≡ true → levelled h (parted f c rest) ≡ true
unfolding parted
parted_levelled f h c rest above children others = elim (cases_Bool (nat_le (f + 1) (count c))) [
  | inl e ↦
      let right = node_level h (back (left_half f) c) rest above (back_levelled (h - 1) (left_half f) c children) others in
      rw e (node_level h (front (left_half f) c) (node (back (left_half f) c) rest) above (front_levelled (h - 1) (left_half f) c children) right)
  | inr e ↦ rw e (node_level h c rest above children others)
]

starts_some : (rank : ℕ) (row : KeyedRow) → starts_by rank row ≡ true → 0 < count (bare row)
starts_some rank no_more s = absurd cc
starts_some rank (leaf_in x rest) s = omega arith
starts_some rank (node_in key place c rest) s = omega arith

pub inserted_levelled : (f h : ℕ) (new : Leaf) (row : KeyedRow) → fits f (bare row) ≡ true → (count (bare row) ≡ 0 → h ≡ 0) → levelled h (bare row) ≡ true
    → levelled h (bare (inserted_by_keys f new row)) ≡ true
inserted_levelled f h new no_more p none l =
    let lowest = none refl in
    let a : (h == 0) ≡ true = grind (arith, nat_tests) in
    rw a refl
inserted_levelled f h new (leaf_in x rest) p none l =
    let q = level_leaf h x (bare rest) l in
    let low : h ≡ 0 = let a = q.lowest in grind (arith, nat_tests) in
    elim (cases_Bool (nat_le (leaf_rank x) (leaf_rank new))) [
      | inl e ↦ rw e (leaf_level h x (bare (inserted_by_keys f new rest)) q.lowest (inserted_levelled f h new rest p (λ _. low) q.others))
      | inr e ↦ rw e (leaf_level h new (leaf x (bare rest)) q.lowest l)
    ]
inserted_levelled f h new (node_in key place c rest) p none l =
    let n = fit_node f (bare c) (bare rest) p in
    let q = level_node h (bare c) (bare rest) l in
    elim (cases_Bool (starts_by (leaf_rank new) rest)) [
      | inl e ↦
          let some = starts_some (leaf_rank new) rest e in
          rw e (node_level h (bare c) (bare (inserted_by_keys f new rest)) q.above q.children (inserted_levelled f h new rest n.others (λ z. absurd (omega (arith, some, z))) q.others))
      | inr e ↦
          let some = n.least in
          let below = inserted_levelled f (h - 1) new c n.children (λ z. absurd (omega (arith, some, z))) q.children in
          let P : Shape → Type 0 = λ s. levelled h s ≡ true in
          rw e (subst P (sym (parted_bare f (lowered new key) (inserted_by_keys f new c) rest)) (parted_levelled f h (bare (inserted_by_keys f new c)) (bare rest) q.above below q.others))
    ]

-- keys
pub front_keys : (n : ℕ) (row : KeyedRow) → AreKeys row → AreKeys (keyed_front n row)
front_keys n no_more k = tt
front_keys n (leaf_in x rest) k = elim (cases_Bool (n == 0)) [
  | inl e ↦ rw e tt
  | inr e ↦ rw e (k.0, front_keys (n - 1) rest k.1)
]
front_keys n (node_in key place c rest) k = elim (cases_Bool (n == 0)) [
  | inl e ↦ rw e tt
  | inr e ↦ rw e (k.0, k.1, front_keys (n - 1) rest k.2)
]

pub back_keys : (n : ℕ) (row : KeyedRow) → AreKeys row → AreKeys (keyed_back n row)
back_keys n no_more k = tt
back_keys n (leaf_in x rest) k = elim (cases_Bool (n == 0)) [
  | inl e ↦ rw e k
  | inr e ↦ rw e (back_keys (n - 1) rest k.1)
]
back_keys n (node_in key place c rest) k = elim (cases_Bool (n == 0)) [
  | inl e ↦ rw e k
  | inr e ↦ rw e (back_keys (n - 1) rest k.2)
]

pub first_is_key : (key : Key) (row : KeyedRow) → IsKey key → AreKeys row → IsKey (first_key key row)
first_is_key key no_more own k = own
first_is_key key (leaf_in x rest) own k = k.0
first_is_key key (node_in other place c rest) own k = k.0

pub lowered_is_key : (new : Leaf) (key : Key) → IsKey new.key → IsKey key → IsKey (lowered new key)
lowered_is_key new key a b = elim (cases_Bool (nat_lt (leaf_rank new) (key_rank key))) [
  | inl e ↦ rw e a
  | inr e ↦ rw e b
]

parted_keys : (f : ℕ) (key : Key) (c rest : KeyedRow) → IsKey key → AreKeys c → AreKeys rest → AreKeys (keyed_parted f key c rest)
unfolding keyed_parted
parted_keys f key c rest own below others = elim (cases_Bool (nat_le (f + 1) (count (bare c)))) [
  | inl e ↦ rw e (own, front_keys (left_half f) c below, (first_is_key key (keyed_back (left_half f) c) own (back_keys (left_half f) c below), back_keys (left_half f) c below, others))
  | inr e ↦ rw e (own, below, others)
]

pub inserted_keys : (f : ℕ) (new : Leaf) (row : KeyedRow) → IsKey new.key → AreKeys row → AreKeys (inserted_by_keys f new row)
inserted_keys f new no_more own k = (own, tt)
inserted_keys f new (leaf_in x rest) own k = elim (cases_Bool (nat_le (leaf_rank x) (leaf_rank new))) [
  | inl e ↦ rw e (k.0, inserted_keys f new rest own k.1)
  | inr e ↦ rw e (own, k)
]
inserted_keys f new (node_in key place c rest) own k = elim (cases_Bool (starts_by (leaf_rank new) rest)) [
  | inl e ↦ rw e (k.0, k.1, inserted_keys f new rest own k.2)
  | inr e ↦ rw e (parted_keys f (lowered new key) (inserted_by_keys f new c) rest (lowered_is_key new key own k.0) (inserted_keys f new c own k.1) k.2)
]
