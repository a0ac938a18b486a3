-- The last leaf up to the greatest rank of a block tells the greatest block.
use Rattle.std.specs.Prelude.{◌≡◌, ℕ, ◌*◌, ◌^◌, ◌<◌, ◌≤◌, nat_le, true, false, if◌then◌else◌, List, [], ◌∷◌, ◌++◌, length, Option, Some, None, All, IfSome, IfNone}
use Rattle.std.specs.List.{last_or}
use Rattle.std.proofs.Common.{refl, ap, arith, rules, inl, inr}
use Rattle.std.proofs.lemmas.Bool.{cases_Bool}
use Rattle.std.proofs.lemmas.Bool.Decides.{nat_tests}
use Rattle.std.proofs.lemmas.List.Elements.{All-nil, All-cons, All-head, All-tail}
use Rattle.ubifs_base.specs.declared.key.Key.{Key}
use Rattle.ubifs_base.specs.declared.key.Key.TheVariants.{Ino, Block, Dent, Xent}
use Rattle.ubifs_base.specs.Key.{IsKey}
use Rattle.index_tree.specs.declared.leaf.Leaf.{Leaf}
use Rattle.index_tree.specs.Order.{key_rank, leaf_rank, ordered_from, starts_within}
use Rattle.index_tree.proofs.OrderLaws.{ordered_head, ordered_cons, ordered-weaken}
use Rattle.index_tree.specs.Keyed.{HasKey, HaveKeys}
use Rattle.index_tree.specs.LastBlock.{is_block_of, blocks_of, last_block, up_to, last_rank}

-- a block's rank lies between these
pub block-above : (ino : ℕ) (key : Key) → IsKey key → is_block_of ino key ≡ true → ino * 2 ^ 33 < key_rank key
unfolding key_rank
block-above ino (Ino i) k h = absurd cc
block-above ino (Block i b) k h = let same : i ≡ ino = grind (arith, nat_tests) in omega arith
block-above ino (Dent i b) k h = absurd cc
block-above ino (Xent i b) k h = absurd cc

pub block-below : (ino : ℕ) (key : Key) → IsKey key → is_block_of ino key ≡ true → key_rank key ≤ last_rank ino
unfolding key_rank
block-below ino (Ino i) k h = absurd cc
block-below ino (Block i b) k h = let same : i ≡ ino = grind (arith, nat_tests) in omega (arith, k.1)
block-below ino (Dent i b) k h = absurd cc
block-below ino (Xent i b) k h = absurd cc

-- and only a block's lies there
pub block-between : (ino : ℕ) (key : Key) → IsKey key → ino * 2 ^ 33 < key_rank key → key_rank key ≤ last_rank ino → is_block_of ino key ≡ true
unfolding key_rank
block-between ino (Ino i) k low high = absurd (omega arith)
block-between ino (Block i b) k low high = let same : i ≡ ino = omega (arith, k.1) in grind (arith, nat_tests)
block-between ino (Dent i b) k low high = absurd (omega (arith, k.1))
block-between ino (Xent i b) k low high = absurd (omega (arith, k.1))

-- the leaf where it is a block of this inode
abbrev pub block_alone : ℕ → Option Leaf → Option Leaf
block_alone ino None = None
block_alone ino (Some x) = if is_block_of ino x.key then Some x else None

-- a leaf of which no later one is lower
abbrev Before : ℕ → Option Leaf → Type 0
Before low None = Unit {0}
Before low (Some x) = HasKey x × (leaf_rank x ≤ low)

before-weaken : (low high : ℕ) (o : Option Leaf) → low ≤ high → Before low o → Before high o
before-weaken low high None h b = tt
before-weaken low high (Some x) h b = (b.0, omega (arith, b.1))

-- no block stands before a leaf that is none, up to the greatest rank of a block
no_block_before : (ino low : ℕ) (o : Option Leaf) (x : Leaf) → Before low o → low ≤ leaf_rank x → HasKey x → is_block_of ino x.key ≡ false → leaf_rank x ≤ last_rank ino → block_alone ino o ≡ None
no_block_before ino low None x b h k n m = refl
no_block_before ino low (Some y) x b h k n m = elim (cases_Bool (is_block_of ino y.key)) [
  | inr e ↦ rw e refl
  | inl e ↦
      let above = block-above ino y.key b.0 e in
      let between = block-between ino x.key k (omega (arith, b.1)) m in
      absurd cc
]

last_block-by_rank : (ino low : ℕ) (o : Option Leaf) (xs : List Leaf) → Before low o → ordered_from low xs ≡ true → HaveKeys xs → last_or (block_alone ino o) (blocks_of ino xs) ≡ block_alone ino (last_or o (up_to (last_rank ino) xs))
last_block-by_rank ino low o [] b s k = refl
last_block-by_rank ino low o (x ∷ xs) b s k =
    let p = ordered_head low x xs s in
    let key = All-head HasKey x xs k in
    let keys = All-tail HasKey x xs k in
    let from_here = last_block-by_rank ino (leaf_rank x) (Some x) xs (key, omega arith) p.others keys in
    elim (cases_Bool (is_block_of ino x.key)) [
      | inl e ↦
          let below = block-below ino x.key key e in
          let n : nat_le (leaf_rank x) (last_rank ino) ≡ true = grind (arith, nat_tests) in
          rw e (rw n (rw e at from_here))
      | inr e ↦ elim (cases_Bool (nat_le (leaf_rank x) (last_rank ino))) [
        | inl n ↦
            let within : leaf_rank x ≤ last_rank ino = grind (arith, nat_tests) in
            let none = no_block_before ino low o x b p.least key e within in
            rw e (rw n (rw none (rw e at from_here)))
        | inr n ↦ rw e (rw n (last_block-by_rank ino (leaf_rank x) o xs (before-weaken low (leaf_rank x) o p.least b) p.others keys))
      ]
    ]

pub last_block-is : (ino : ℕ) (xs : List Leaf) → ordered_from 0 xs ≡ true → HaveKeys xs → last_block ino xs ≡ block_alone ino (last_or None (up_to (last_rank ino) xs))
last_block-is ino xs s k = last_block-by_rank ino 0 None xs tt s k

ordered-blocks : (ino low : ℕ) (xs : List Leaf) → ordered_from low xs ≡ true → ordered_from low (blocks_of ino xs) ≡ true
ordered-blocks ino low [] s = refl
ordered-blocks ino low (x ∷ xs) s =
    let p = ordered_head low x xs s in
    elim (cases_Bool (is_block_of ino x.key)) [
      | inl e ↦ rw e (ordered_cons low x (blocks_of ino xs) p.least (ordered-blocks ino (leaf_rank x) xs p.others))
      | inr e ↦ rw e (ordered-blocks ino low xs (ordered-weaken low (leaf_rank x) xs p.least p.others))
    ]

-- no leaf is above the last one
record Last (y : Leaf) (xs : List Leaf) (z : Leaf) : Type 0 where
  pub first : leaf_rank y ≤ leaf_rank z
  pub others : All (λ w. leaf_rank w ≤ leaf_rank z) xs

the_last : (y : Leaf) (xs : List Leaf) (z : Leaf) → ordered_from (leaf_rank y) xs ≡ true → Some z ≡ last_or (Some y) xs → Last y xs z
the_last y [] z s e =
    let same : y ≡ z = cc in
    record { first = omega (arith, ap leaf_rank same); others = All-nil (λ w. leaf_rank w ≤ leaf_rank z) }
the_last y (x ∷ xs) z s e =
    let p = ordered_head (leaf_rank y) x xs s in
    let q = the_last x xs z p.others e in
    record { first = omega (arith, p.least, q.first); others = All-cons (λ w. leaf_rank w ≤ leaf_rank z) x xs q.first q.others }

no_last : (y : Leaf) (xs : List Leaf) → None ≡ last_or (Some y) xs → ⊥
no_last y [] e = absurd cc
no_last y (x ∷ xs) e = no_last x xs e

greatest_of : (low : ℕ) (xs : List Leaf) (z : Leaf) → ordered_from low xs ≡ true → Some z ≡ last_or None xs → All (λ w. leaf_rank w ≤ leaf_rank z) xs
greatest_of low [] z s e = absurd cc
greatest_of low (x ∷ xs) z s e =
    let q = the_last x xs z (ordered_head low x xs s).others e in
    All-cons (λ w. leaf_rank w ≤ leaf_rank z) x xs q.first q.others

empty_of : (xs : List Leaf) → None ≡ last_or None xs → xs ≡ []
empty_of [] e = refl
empty_of (x ∷ xs) e = absurd (no_last x xs e)

-- the last block leaf is the greatest
pub last_block-greatest : (ino : ℕ) (xs : List Leaf) (r : Option Leaf) → ordered_from 0 xs ≡ true → r ≡ last_block ino xs → IfSome r (λ x. All (λ y. leaf_rank y ≤ leaf_rank x) (blocks_of ino xs))
last_block-greatest ino xs None s e = search rules
last_block-greatest ino xs (Some z) s e = greatest_of 0 (blocks_of ino xs) z (ordered-blocks ino 0 xs s) e

-- and none is where there is none
pub last_block-none : (ino : ℕ) (xs : List Leaf) (r : Option Leaf) → r ≡ last_block ino xs → IfNone r (blocks_of ino xs ≡ [])
last_block-none ino xs None e = empty_of (blocks_of ino xs) e
last_block-none ino xs (Some z) e = search rules

pub up_to-some : (k : ℕ) (ys : List Leaf) → starts_within k ys ≡ true → 0 < length (up_to k ys)
up_to-some k [] s = absurd cc
up_to-some k (y ∷ ys) s = rw s (omega arith)

pub up_to-none : (low k : ℕ) (ys : List Leaf) → k < low → ordered_from low ys ≡ true → up_to k ys ≡ []
up_to-none low k [] h s = refl
up_to-none low k (y ∷ ys) h s =
    let p = ordered_head low y ys s in
    let above : nat_le (leaf_rank y) k ≡ false = grind (arith, nat_tests, p.least) in
    rw above (up_to-none (leaf_rank y) k ys (omega (arith, p.least)) p.others)

pub up_to-later : (low k : ℕ) (ys : List Leaf) → ordered_from low ys ≡ true → starts_within k ys ≡ false → up_to k ys ≡ []
up_to-later low k [] o s = refl
up_to-later low k (y ∷ ys) o s =
    let p = ordered_head low y ys o in
    let above : k < leaf_rank y = grind (arith, nat_tests) in
    rw s (up_to-none (leaf_rank y) k ys above p.others)

last-some : (o q : Option Leaf) (ys : List Leaf) → 0 < length ys → last_or o ys ≡ last_or q ys
last-some o q [] h = absurd (omega arith)
last-some o q (y ∷ ys) h = refl

pub last-right : (o q : Option Leaf) (xs ys : List Leaf) → 0 < length ys → last_or o (xs ++ ys) ≡ last_or q ys
last-right o q [] ys h = last-some o q ys h
last-right o q (x ∷ xs) ys h = last-right (Some x) q xs ys h
