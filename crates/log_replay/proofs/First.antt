-- The leaf of an inode or a block is the first of its key.
use Rattle.std.proofs.Common.{◌≡◌, ℕ, ◌+◌, ◌-◌, ◌*◌, ◌/◌, ◌^◌, ◌<◌, Bool, true, false, cond, not, ◌&&◌, ◌||◌, List, [], ◌∷◌, refl, sym, ap, ◌∙◌, arith, inl, inr, Option, Some}
use Rattle.std.specs.Prelude.{◌==◌, nat_le, filter, min, slice_get, is_some}
use Rattle.std.specs.List.{AllByRecursion, find, list_any}
use Rattle.std.proofs.lemmas.Bool.{false≢true, and_parts, eqb-true, eq-eqb, leb-true, lt-leb}
use Rattle.std.proofs.lemmas.Bool.Decides.{eqb_tells, leb_tells}
use Rattle.ubifs_base.specs.R5.{r5_of}
use Rattle.ubifs_base.specs.declared.key.Key.{Key}
use Rattle.ubifs_base.specs.declared.key.Key.TheVariants.{Ino, Block, Dent}
use Rattle.index_tree.specs.declared.leaf.Leaf.{Leaf}
use Rattle.index_tree.specs.Order.{key_rank, leaf_rank}
use Rattle.index_tree.specs.RangeRemoval.{in_range, outside_range}
use Rattle.fs_model.specs.declared.change.Change.{Change}
use Rattle.fs_model.specs.declared.change.Change.TheVariants.{SetInode, SetEntry, SetBlock}
use Rattle.group_nodes.specs.FitLaws.{r5_small}
use Rattle.leaf_map.specs.After.{goes, is_inode}
use Rattle.leaf_map.specs.Follows.{block_key_from, last_block_key}
use Rattle.leaf_map.specs.Kept.{Kept}
use Rattle.leaf_map.specs.LeafMap.{HasKeyOf, IsKeyed}
use Rattle.leaf_map.specs.RankLaws.{rank_is}
use Rattle.log_replay.specs.Changes.{IsOfKey, first_of_key}
use Rattle.log_replay.specs.Standing.{is_name_shown, leaves}
use Rattle.log_replay.proofs.Maps.{place}
use Rattle.log_replay.proofs.Tests.{name_is}

unequal : (a b : ℕ) → (a ≡ b → ⊥) → (a == b) ≡ false
unequal a b h = by (a == b) refl
  where
    by : (c : Bool) → (a == b) ≡ c → c ≡ false
    by true e = absurd (h (eqb-true a b e))
    by false e = refl

same_test : (a b c d : ℕ) → (a ≡ b → c ≡ d) → (c ≡ d → a ≡ b) → (a == b) ≡ (c == d)
same_test a b c d f g = by (a == b) refl
  where
    by : (t : Bool) → (a == b) ≡ t → t ≡ (c == d)
    by true e = sym (eq-eqb c d (f (eqb-true a b e)))
    by false e = sym (unequal c d (λ h. false≢true (sym e ∙ eq-eqb a b (g h))))

ino_rank : (ino : ℕ) → key_rank (Ino ino) ≡ ino * 2 ^ 33
unfolding key_rank
ino_rank ino = omega arith

block_rank : (ino number : ℕ) → key_rank (Block ino number) ≡ ino * 2 ^ 33 + (2 ^ 29 + number)
unfolding key_rank
block_rank ino number = omega arith

-- ---- the test of a key
pub inode_at : (ino : ℕ) (x : Leaf) (s : Option Change) → HasKeyOf x s → (leaf_rank x == key_rank (Ino ino)) ≡ is_inode ino s
inode_at ino x (Some (SetInode other old)) h = rw (rank_is x (Some (SetInode other old)) h, ino_rank ino) (same_test (other * 2 ^ 33) (ino * 2 ^ 33) other ino (λ e. omega (arith, e)) (λ e. omega (arith, e)))
inode_at ino x (Some (SetBlock other at old)) h = let small = h.1 in rw (rank_is x (Some (SetBlock other at old)) h, ino_rank ino) (unequal _ _ (λ e. absurd (omega (arith, e, small))))
inode_at ino x (Some (SetEntry e)) h = let small = r5_small e.name in rw (rank_is x (Some (SetEntry e)) h, ino_rank ino) (unequal _ _ (λ t. absurd (omega (arith, t, small))))
inode_at ino x s h = absurd h

both : (a b c d : ℕ) (t : Bool) → ((a ≡ b) → (c ≡ d) → t ≡ true) → ((a ≡ b → ⊥) → t ≡ false) → ((c ≡ d → ⊥) → t ≡ false) → t ≡ ((a == b) && (c == d))
both a b c d t f g h = elim (eqb_tells a b) [
  | inl l ↦ elim (eqb_tells c d) [
    | inl m ↦ f l.1 m.1 ∙ sym (rw (l.0, m.0) refl)
    | inr m ↦ h m.1 ∙ sym (rw (l.0, m.0) refl)
  ]
  | inr l ↦ g l.1 ∙ sym (rw l.0 refl)
]

pub block_at : (ino number : ℕ) (bytes : List ℕ) → number < 2 ^ 29 → (x : Leaf) (s : Option Change) → HasKeyOf x s → (leaf_rank x == key_rank (Block ino number)) ≡ goes (SetBlock ino number bytes) s
block_at ino number bytes n x (Some (SetInode other old)) h = rw (rank_is x (Some (SetInode other old)) h, block_rank ino number) (unequal _ _ (λ e. absurd (omega (arith, e, n))))
block_at ino number bytes n x (Some (SetBlock other at old)) h =
    let small = h.1 in
    rw (rank_is x (Some (SetBlock other at old)) h, block_rank ino number) (both other ino at number _
    (λ e f. eq-eqb _ _ (omega (arith, e, f)))
    (λ e. unequal _ _ (λ t. e (omega (arith, t, n, small))))
    (λ e. unequal _ _ (λ t. e (omega (arith, t, n, small)))))
block_at ino number bytes n x (Some (SetEntry e)) h = let small = r5_small e.name in rw (rank_is x (Some (SetEntry e)) h, block_rank ino number) (unequal _ _ (λ t. absurd (omega (arith, t, n, small))))
block_at ino number bytes n x s h = absurd h

-- ---- what is found
pub first_is : (k : Key) (test : Kept → Bool) (kept : List Kept) → AllByRecursion IsKeyed kept → ((x : Kept) → IsKeyed x → (leaf_rank x.leaf == key_rank k) ≡ test x) → first_of_key k (leaves kept) ≡ place (find test kept)
first_is k test [] keyed h = refl
first_is k test (x ∷ kept) keyed h = rw (h x keyed.0) (by (test x) (first_is k test kept keyed.1 h))
  where
    rest : List Leaf
    rest = filter (λ y. leaf_rank y == key_rank k) (leaves kept)

    by : (b : Bool) → slice_get (filter (λ y. leaf_rank y == key_rank k) (leaves kept)) 0 ≡ place (find test kept) → slice_get (cond b (x.leaf ∷ filter (λ y. leaf_rank y == key_rank k) (leaves kept)) (filter (λ y. leaf_rank y == key_rank k) (leaves kept))) 0 ≡ place (cond b (Some x) (find test kept))
    by true m = refl
    by false m = m

pub found_key : (k : Key) (test : Kept → Bool) (kept : List Kept) → AllByRecursion IsKeyed kept → ((x : Kept) → IsKeyed x → test x ≡ true → x.leaf.key ≡ k) → IsOfKey k (place (find test kept))
found_key k test [] keyed h = tt
found_key k test (x ∷ kept) keyed h = by (test x) refl (found_key k test kept keyed.1 h)
  where
    by : (b : Bool) → test x ≡ b → IsOfKey k (place (find test kept)) → IsOfKey k (place (cond b (Some x) (find test kept)))
    by true e m = h x keyed.0 e
    by false e m = m

pub find_same : (f g : Kept → Bool) (kept : List Kept) → ((x : Kept) → f x ≡ g x) → find f kept ≡ find g kept
find_same f g [] h = refl
find_same f g (x ∷ kept) h = rw (h x) (ap (λ z. cond (g x) (Some x) z) (find_same f g kept h))

pub any_found : (test : Kept → Bool) (kept : List Kept) → list_any test kept ≡ is_some (find test kept)
any_found test [] = refl
any_found test (x ∷ kept) = by (test x) (any_found test kept)
  where
    by : (b : Bool) → list_any test kept ≡ is_some (find test kept) → (b || list_any test kept) ≡ is_some (cond b (Some x) (find test kept))
    by true m = refl
    by false m = m

-- ---- the key of what is found
pub inode_key : (ino : ℕ) (x : Leaf) (s : Option Change) → HasKeyOf x s → is_inode ino s ≡ true → x.key ≡ Ino ino
inode_key ino x (Some (SetInode other old)) h t = h ∙ ap (λ (n : ℕ). Ino n) (eqb-true other ino t)
inode_key ino x s h t = absurd (false≢true t)

pub block_key : (ino number : ℕ) (bytes : List ℕ) (x : Leaf) (s : Option Change) → HasKeyOf x s → goes (SetBlock ino number bytes) s ≡ true → x.key ≡ Block ino number
block_key ino number bytes x (Some (SetBlock other at old)) h t =
    let p = and_parts (other == ino) (at == number) t in
    h.0 ∙ ap (λ (n : ℕ). Block n at) (eqb-true other ino p.0) ∙ ap (λ (n : ℕ). Block ino n) (eqb-true at number p.1)
block_key ino number bytes x s h t = absurd (false≢true t)

pub name_key : (q : ℕ × List ℕ) (x : Leaf) (s : Option Change) → HasKeyOf x s → is_name_shown q s ≡ true → x.key ≡ Dent q.0 (r5_of q.1)
name_key q x (Some (SetEntry e)) h t = h ∙ ap (λ (k : ℕ × List ℕ). Dent k.0 (r5_of k.1)) (name_is q e t)
name_key q x s h t = absurd (false≢true t)

-- ---- the range of a truncation
last_rank : (ino : ℕ) → key_rank (last_block_key ino) ≡ ino * 2 ^ 33 + (2 ^ 30 - 1)
unfolding key_rank
last_rank ino = refl

-- a range that begins past its end has nothing
empty_range : (from to : ℕ) (x : Leaf) → to < from → in_range from to x ≡ false
empty_range from to x l = by (nat_le from (leaf_rank x)) refl
  where
    by : (b : Bool) → nat_le from (leaf_rank x) ≡ b → cond b (nat_le (leaf_rank x) to) false ≡ false
    by true e = let le = leb-true from (leaf_rank x) e in lt-leb (leaf_rank x) to (omega (arith, le, l))
    by false e = refl

same_range : (from other to : ℕ) (xs : List Leaf) → ((x : Leaf) → in_range from to x ≡ in_range other to x) → outside_range from to xs ≡ outside_range other to xs
same_range from other to [] h = refl
same_range from other to (x ∷ xs) h = rw (h x) (ap (λ z. cond (not (in_range other to x)) (x ∷ z) z) (same_range from other to xs h))

-- where no block can have the first number, none goes
pub cut_range : (ino size : ℕ) (xs : List Leaf) → outside_range (key_rank (Block ino (min ((size + 4095) / 4096) (2 ^ 29)))) (key_rank (last_block_key ino)) xs ≡ outside_range (key_rank (block_key_from ino size)) (key_rank (last_block_key ino)) xs
cut_range ino size xs = by ((size + 4095) / 4096)
  where
    by : (n : ℕ) → outside_range (key_rank (Block ino (min n (2 ^ 29)))) (key_rank (last_block_key ino)) xs ≡ outside_range (key_rank (Block ino n)) (key_rank (last_block_key ino)) xs
    by n = elim (leb_tells n (2 ^ 29)) [
      | inl l ↦ let le = l.1 in let e : min n (2 ^ 29) ≡ n = omega (arith, le) in ap (λ (k : ℕ). outside_range (key_rank (Block ino k)) (key_rank (last_block_key ino)) xs) e
      | inr l ↦ let less = l.1 in
          let a = block_rank ino (min n (2 ^ 29)) in
          let b = block_rank ino n in
          let c = last_rank ino in
          same_range _ _ _ xs (λ x. empty_range _ _ x (omega (arith, a, c, less)) ∙ sym (empty_range _ _ x (omega (arith, b, c, less))))
    ]
