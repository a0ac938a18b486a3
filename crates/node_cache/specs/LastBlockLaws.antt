-- The last leaf up to the greatest rank of a block tells the last block of an inode.
use Rattle.std.proofs.Common.{◌≡◌, ℕ, ◌-◌, ◌*◌, ◌^◌, ◌<◌, ◌≤◌, true, false, List, [], ◌∷◌, ◌++◌, refl, ap, sym, ◌∙◌, subst, arith, inl, inr, append-nil}
use Rattle.std.specs.Prelude.{Option, None, Some, nat_le, if◌then◌else◌, ⊤}
use Rattle.std.specs.List.{last_or}
use Rattle.std.proofs.lemmas.Bool.{cases_Bool}
use Rattle.std.proofs.lemmas.Bool.Decides.{nat_tests}
use Rattle.ubifs_base.specs.Key.{IsKey}
use Rattle.ubifs_base.specs.declared.key.Key.{Key}
use Rattle.ubifs_base.specs.declared.key.Key.TheVariants.{Ino, Block, Dent, Xent}
use Rattle.index_tree.specs.LastBlock.{is_block_of, blocks_of, last_block, up_to, last_rank}
use Rattle.index_tree.specs.Order.{key_rank, leaf_rank}
use Rattle.index_tree.specs.Shape.{contents}
use Rattle.index_tree.specs.declared.leaf.Leaf.{Leaf}
use Rattle.index_media.specs.InsertionSound.{AreKeys}
use Rattle.index_media.specs.KeyedBounds.{AreAtMost, keyed_at_most}
use Rattle.index_media.specs.KeyedKeys.{AreKeysBounded}
use Rattle.index_media.specs.KeyedRow.{KeyedRow, no_more, leaf_in, node_in, bare}

-- the leaves' keys are keys, never fall, and are none below this rank
abbrev pub Ascend : ℕ → List Leaf → Type 0
Ascend low [] = ⊤
Ascend low (x ∷ xs) = (low ≤ leaf_rank x) × IsKey x.key × Ascend (leaf_rank x) xs

ascend_lower : (low high : ℕ) (xs : List Leaf) → low ≤ high → Ascend high xs → Ascend low xs
ascend_lower low high [] l h = tt
ascend_lower low high (x ∷ xs) l h = (omega (arith, l, h.0), h.1, h.2)

ascend_join : (low mid : ℕ) (xs ys : List Leaf) → low ≤ mid → Ascend low xs → AreAtMost (Some mid) xs → Ascend mid ys → Ascend low (xs ++ ys)
ascend_join low mid [] ys l h m g = ascend_lower low mid ys l g
ascend_join low mid (x ∷ xs) ys l h m g = (h.0, h.1, ascend_join (leaf_rank x) mid xs ys m.0 h.2 m.1 g)

pub keyed_ascend : (least : ℕ) (most : Option ℕ) (row : KeyedRow) → AreKeysBounded least most row → AreKeys row → Ascend least (contents (bare row))
keyed_ascend least most no_more h k = tt
keyed_ascend least most (leaf_in x rest) h k = (h.0, k.0, keyed_ascend (leaf_rank x) most rest h.2 k.1)
keyed_ascend least most (node_in key place c no_more) h k =
    let P : List Leaf → Type 0 = λ v. Ascend least v in
    subst P (sym (append-nil (contents (bare c)))) (ascend_lower least (key_rank key) (contents (bare c)) h.0 (keyed_ascend (key_rank key) most c h.2 k.1))
keyed_ascend least most (node_in key place c (leaf_in y r)) h k =
    let behind = h.3 in
    let others = k.2 in
    let below = keyed_ascend (key_rank key) (Some (leaf_rank y)) c h.2 k.1 in
    ascend_lower least (key_rank key) (contents (bare c) ++ y ∷ contents (bare r)) h.0
    (ascend_join (key_rank key) (leaf_rank y) (contents (bare c)) (y ∷ contents (bare r)) behind.0 below (keyed_at_most (key_rank key) (Some (leaf_rank y)) c h.2)
    (omega arith, others.0, keyed_ascend (leaf_rank y) most r behind.2 others.1))
keyed_ascend least most (node_in key place c (node_in own p d r)) h k =
    let behind = h.3 in
    let below = keyed_ascend (key_rank key) (Some (key_rank own)) c h.2 k.1 in
    let rest = node_in own p d r in
    ascend_lower least (key_rank key) (contents (bare c) ++ contents (bare rest)) h.0
    (ascend_join (key_rank key) (key_rank own) (contents (bare c)) (contents (bare rest)) behind.0 below (keyed_at_most (key_rank key) (Some (key_rank own)) c h.2)
    (keyed_ascend (key_rank own) most (node_in own p d r) (omega arith, behind.1, behind.2, behind.3) k.2))

-- a block's rank lies between these
block_above : (ino : ℕ) (key : Key) → IsKey key → is_block_of ino key ≡ true → ino * 2 ^ 33 < key_rank key
unfolding key_rank
block_above ino (Ino i) k h = absurd cc
block_above ino (Block i b) k h = let same : i ≡ ino = grind (arith, nat_tests) in omega arith
block_above ino (Dent i b) k h = absurd cc
block_above ino (Xent i b) k h = absurd cc

block_below : (ino : ℕ) (key : Key) → IsKey key → is_block_of ino key ≡ true → key_rank key ≤ last_rank ino
unfolding key_rank
block_below ino (Ino i) k h = absurd cc
block_below ino (Block i b) k h = let same : i ≡ ino = grind (arith, nat_tests) in omega (arith, k.1)
block_below ino (Dent i b) k h = absurd cc
block_below ino (Xent i b) k h = absurd cc

-- and only a block's lies there
block_between : (ino : ℕ) (key : Key) → IsKey key → ino * 2 ^ 33 < key_rank key → key_rank key ≤ last_rank ino → is_block_of ino key ≡ true
unfolding key_rank
block_between ino (Ino i) k low high = absurd (omega arith)
block_between ino (Block i b) k low high = let same : i ≡ ino = omega (arith, k.1) in grind (arith, nat_tests)
block_between ino (Dent i b) k low high = absurd (omega (arith, k.1))
block_between ino (Xent i b) k low high = absurd (omega (arith, k.1))

-- the leaf where it is a block of this inode
abbrev pub block_alone : ℕ → Option Leaf → Option Leaf
block_alone ino None = None
block_alone ino (Some x) = if is_block_of ino x.key then Some x else None

-- a leaf of which no later one is lower
abbrev Precedes : ℕ → Option Leaf → Type 0
Precedes low None = ⊤
Precedes low (Some x) = IsKey x.key × (leaf_rank x ≤ low)

precedes_later : (low high : ℕ) (o : Option Leaf) → low ≤ high → Precedes low o → Precedes high o
precedes_later low high None h b = tt
precedes_later low high (Some x) h b = (b.0, omega (arith, h, b.1))

-- no block stands before a leaf that is none, up to the greatest rank of a block
none_precedes : (ino low : ℕ) (o : Option Leaf) (x : Leaf) → Precedes low o → low ≤ leaf_rank x → IsKey x.key → is_block_of ino x.key ≡ false → leaf_rank x ≤ last_rank ino → block_alone ino o ≡ None
none_precedes ino low None x b h k n m = refl
none_precedes ino low (Some y) x b h k n m = elim (cases_Bool (is_block_of ino y.key)) [
  | inr e ↦ rw e refl
  | inl e ↦
      let above = block_above ino y.key b.0 e in
      let between = block_between ino x.key k (omega (arith, h, above, b.1)) m in
      absurd cc
]

last_by_rank : (ino low : ℕ) (o : Option Leaf) (xs : List Leaf) → Precedes low o → Ascend low xs → last_or (block_alone ino o) (blocks_of ino xs) ≡ block_alone ino (last_or o (up_to (last_rank ino) xs))
last_by_rank ino low o [] b s = refl
last_by_rank ino low o (x ∷ xs) b s =
    let least = s.0 in
    let from_here = last_by_rank ino (leaf_rank x) (Some x) xs (s.1, omega arith) s.2 in
    elim (cases_Bool (is_block_of ino x.key)) [
      | inl e ↦
          let below = block_below ino x.key s.1 e in
          let n : nat_le (leaf_rank x) (last_rank ino) ≡ true = grind (arith, nat_tests, below) in
          rw e (rw n (rw e at from_here))
      | inr e ↦ elim (cases_Bool (nat_le (leaf_rank x) (last_rank ino))) [
        | inl n ↦
            let within : leaf_rank x ≤ last_rank ino = grind (arith, nat_tests, n) in
            let none = none_precedes ino low o x b least s.1 e within in
            rw e (rw n (rw none (rw e at from_here)))
        | inr n ↦ rw e (rw n (last_by_rank ino (leaf_rank x) o xs (precedes_later low (leaf_rank x) o least b) s.2))
      ]
    ]

-- what the last leaf up to the greatest rank of a block says of the last block
pub block_found : (ino at : ℕ) (xs : List Leaf) (x : Leaf) → Ascend 0 xs → at ≡ last_rank ino → Some x ≡ last_or None (up_to at xs) → is_block_of ino x.key ≡ true → Some x ≡ last_block ino xs
block_found ino at xs x s top is b =
    let last : last_or None (up_to (last_rank ino) xs) ≡ Some x = ap (λ n. last_or None (up_to n xs)) (sym top) ∙ sym is in
    sym (last_by_rank ino 0 None xs tt s ∙ ap (block_alone ino) last ∙ rw b refl)

pub block_missing : (ino at : ℕ) (xs : List Leaf) (x : Leaf) → Ascend 0 xs → at ≡ last_rank ino → Some x ≡ last_or None (up_to at xs) → is_block_of ino x.key ≡ false → None ≡ last_block ino xs
block_missing ino at xs x s top is b =
    let last : last_or None (up_to (last_rank ino) xs) ≡ Some x = ap (λ n. last_or None (up_to n xs)) (sym top) ∙ sym is in
    sym (last_by_rank ino 0 None xs tt s ∙ ap (block_alone ino) last ∙ rw b refl)

pub none_up_to : (ino at : ℕ) (xs : List Leaf) → Ascend 0 xs → at ≡ last_rank ino → None ≡ last_or None (up_to at xs) → None ≡ last_block ino xs
none_up_to ino at xs s top is =
    let last : last_or None (up_to (last_rank ino) xs) ≡ None = ap (λ n. last_or None (up_to n xs)) (sym top) ∙ sym is in
    sym (last_by_rank ino 0 None xs tt s ∙ ap (block_alone ino) last)
