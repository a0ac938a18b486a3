-- Leaves of one key and one place are one leaf, where their keys are keys.
use Rattle.std.specs.Prelude.{◌≡◌, ℕ, ◌<◌, ◌==◌, ◌↔◌, Bool, true, IsTrue, List, [], ◌∷◌, length, Contains, slice_index_or}
use Rattle.std.proofs.Common.{refl, ap, sym, ◌∙◌, zero, suc, arith, inl, inr}
use Rattle.std.proofs.lemmas.Bool.{cases_Bool}
use Rattle.std.proofs.lemmas.Bool.Decides.{nat_tests}
use Rattle.std.proofs.lemmas.List.Elements.{All-head, All-tail}
use Rattle.ubifs_base.specs.declared.key.Key.{Key}
use Rattle.ubifs_base.specs.declared.key.Key.TheVariants.{Ino, Block, Dent, Xent}
use Rattle.ubifs_base.specs.Key.{IsKey}
use Rattle.index_tree.specs.declared.leaf.Leaf.{Leaf}
use Rattle.index_tree.specs.Order.{key_rank, leaf_rank}
use Rattle.index_tree.specs.Keyed.{HasKey, HaveKeys}
use Rattle.index_tree.specs.Removal.{same_leaf, holds}

-- a key's place in the order is its own
pub one_rank : (x y : Key) → IsKey x → IsKey y → key_rank x ≡ key_rank y → x ≡ y
unfolding key_rank
one_rank (Ino i) (Ino j) a b e = ap Ino (omega arith)
one_rank (Ino i) (Block j m) a b e = absurd (omega (arith, a, b.0, b.1))
one_rank (Ino i) (Dent j m) a b e = absurd (omega (arith, a, b.0, b.1))
one_rank (Ino i) (Xent j m) a b e = absurd (omega (arith, a, b.0, b.1))
one_rank (Block i n) (Ino j) a b e = absurd (omega (arith, a.0, a.1, b))
one_rank (Block i n) (Block j m) a b e =
    let p : i ≡ j = omega (arith, a.1, b.1) in
    let q : n ≡ m = omega (arith, a.1, b.1) in
    cc
one_rank (Block i n) (Dent j m) a b e = absurd (omega (arith, a.1, b.1))
one_rank (Block i n) (Xent j m) a b e = absurd (omega (arith, a.1, b.1))
one_rank (Dent i n) (Ino j) a b e = absurd (omega (arith, a.1, b))
one_rank (Dent i n) (Block j m) a b e = absurd (omega (arith, a.1, b.1))
one_rank (Dent i n) (Dent j m) a b e =
    let p : i ≡ j = omega (arith, a.1, b.1) in
    let q : n ≡ m = omega (arith, a.1, b.1) in
    cc
one_rank (Dent i n) (Xent j m) a b e = absurd (omega (arith, a.1, b.1))
one_rank (Xent i n) (Ino j) a b e = absurd (omega (arith, a.1, b))
one_rank (Xent i n) (Block j m) a b e = absurd (omega (arith, a.1, b.1))
one_rank (Xent i n) (Dent j m) a b e = absurd (omega (arith, a.1, b.1))
one_rank (Xent i n) (Xent j m) a b e =
    let p : i ≡ j = omega (arith, a.1, b.1) in
    let q : n ≡ m = omega (arith, a.1, b.1) in
    cc

one_leaf : (x y : Leaf) → x.key ≡ y.key → x.lnum ≡ y.lnum → x.offs ≡ y.offs → x.len ≡ y.len → x ≡ y
one_leaf x y k l o n =
    let make : Key → ℕ → ℕ → ℕ → Leaf = λ key lnum offs len. record { key = key; lnum = lnum; offs = offs; len = len } in
    ap (λ v. make v x.lnum x.offs x.len) k ∙ ap (λ v. make y.key v x.offs x.len) l ∙ ap (λ v. make y.key y.lnum v x.len) o ∙ ap (λ v. make y.key y.lnum y.offs v) n

pub same-equal : (x y : Leaf) → HasKey x → HasKey y → same_leaf x y ≡ true → x ≡ y
unfolding same_leaf
same-equal x y a b h = elim (cases_Bool (leaf_rank x == leaf_rank y)) [
  | inr e ↦ let none = rw e at h in absurd cc
  | inl e ↦ elim (cases_Bool (x.lnum == y.lnum)) [
    | inr l ↦ let none = rw l at (rw e at h) in absurd cc
    | inl l ↦ elim (cases_Bool (x.offs == y.offs)) [
      | inr o ↦ let none = rw o at (rw l at (rw e at h)) in absurd cc
      | inl o ↦
          let n : (x.len == y.len) ≡ true = rw o at (rw l at (rw e at h)) in
          let key = one_rank x.key y.key a b (grind (arith, nat_tests)) in
          one_leaf x y key (grind (arith, nat_tests)) (grind (arith, nat_tests)) (grind (arith, nat_tests))
    ]
  ]
]

same_number : (n : ℕ) → (n == n) ≡ true
same_number n = grind (arith, nat_tests)

pub same-itself : (x : Leaf) → same_leaf x x ≡ true
unfolding same_leaf
same-itself x = rw (same_number (leaf_rank x), same_number x.lnum, same_number x.offs, same_number x.len) refl

-- a leaf whose key is one is there exactly where it is an element
pub holds-contains : (sought : Leaf) (xs : List Leaf) → HasKey sought → HaveKeys xs → holds sought xs ≡ true → Contains xs sought
holds-contains sought [] k keys h = absurd cc
holds-contains sought (x ∷ xs) k keys h = elim (cases_Bool (same_leaf x sought)) [
  | inl e ↦ (0, omega arith, same-equal x sought (All-head HasKey x xs keys) k e)
  | inr e ↦
      let c = holds-contains sought xs k (All-tail HasKey x xs keys) (rw e at h) in
      (suc c.0, omega (arith, c.1), c.2)
]

element-held : (sought : Leaf) (xs : List Leaf) (i : ℕ) → i < length xs → slice_index_or xs i sought ≡ sought → holds sought xs ≡ true
element-held sought [] i l e = absurd (omega arith)
element-held sought (x ∷ xs) zero l e =
    let same : same_leaf x sought ≡ true = ap (λ v. same_leaf v sought) e ∙ same-itself sought in
    rw same refl
element-held sought (x ∷ xs) (suc i) l e = elim (cases_Bool (same_leaf x sought)) [
  | inl s ↦ rw s refl
  | inr s ↦ rw s (element-held sought xs i (omega arith) e)
]

pub holds-exactly : (sought : Leaf) (xs : List Leaf) (r : Bool) → HaveKeys xs → r ≡ holds sought xs → HasKey sought → IsTrue r ↔ Contains xs sought
holds-exactly sought xs r keys e k = (λ h. holds-contains sought xs k keys (sym e ∙ h), λ c. e ∙ element-held sought xs c.0 c.1 c.2)
