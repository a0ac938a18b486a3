-- The height of the properties tree is the least that serves, and each number fits its digits.
use Rattle.std.specs.Prelude.{◌≡◌, ℕ, zero, suc, ◌+◌, ◌-◌, ◌*◌, ◌^◌, ◌<◌, ◌≤◌, nat_le, true}
use Rattle.std.proofs.Common.{refl, arith, sym, subst, inl, inr}
use Rattle.std.proofs.lemmas.Bool.{le-leb, lt-leb, leb-true, leb-false, cases_Bool}
use Rattle.std.proofs.lemmas.Nat.{leading_length}
use Rattle.std.proofs.Math.Nat.{eq-or-lt_of_le}
use Rattle.std.specs.Int.Count.{count_leading_zeros}
use Rattle.ubifs_base.specs.declared.raw_geometry.RawGeometry.{RawGeometry}
use Rattle.ubifs_base.specs.Properties.{fls, height_from, tree_height, pnode_len, nnode_len, ltab_len, pnode_count, nnode_count}

-- where the height serves, it is the one
pub height_from-found : (tries height pnodes : ℕ) → 0 < tries → pnodes ≤ 4 ^ height → height_from tries height pnodes ≡ height
unfolding height_from
height_from-found zero height pnodes some h = absurd (omega arith)
height_from-found (suc tries) height pnodes some h = rw (le-leb pnodes (4 ^ height) h) refl

-- where it doesn't, the next is tried
pub height_from-next : (tries height pnodes : ℕ) → 0 < tries → 4 ^ height < pnodes → height_from tries height pnodes ≡ height_from (tries - 1) (height + 1) pnodes
unfolding height_from
height_from-next zero height pnodes some h = absurd (omega arith)
height_from-next (suc tries) height pnodes some h = let e : suc tries - 1 ≡ tries = omega arith in rw (lt-leb pnodes (4 ^ height) h, e) refl

pub height_from-none : (height pnodes : ℕ) → height_from zero height pnodes ≡ height
unfolding height_from
height_from-none height pnodes = refl

-- a number of 32 bits has that many digits, and no fewer
pub fls-digits : (n : ℕ) → n < 2 ^ 32 → (n < 2 ^ fls n) × (2 ^ fls n ≤ 2 * n + 1)
unfolding fls
fls-digits n h =
    let digits = leading_length 32 n h in
    let same : digits.0 ≡ 32 - count_leading_zeros 32 n = omega (arith, digits.1) in
    let P : ℕ → Type 0 = λ m. (n < 2 ^ m) × (2 ^ m ≤ 2 * n + 1) in
    subst P same (digits.2, digits.3)

-- no lower height serves
height_from-least : (tries height pnodes k : ℕ) → height ≤ k → pnodes ≤ 4 ^ k → height_from tries height pnodes ≤ k
unfolding height_from
height_from-least zero height pnodes k low h = low
height_from-least (suc tries) height pnodes k low h = elim (cases_Bool (nat_le pnodes (4 ^ height))) [
  | inl found ↦ rw found low
  | inr above ↦
      let big = leb-false pnodes (4 ^ height) above in
      let more : height + 1 ≤ k = elim (eq-or-lt_of_le {n = height} {m = k} low) [
        | inl same ↦ let P : ℕ → Type 0 = λ j. pnodes ≤ 4 ^ j in let here = subst P (sym same) h in absurd (omega arith)
        | inr less ↦ omega arith
      ] in
      rw above (height_from-least tries (height + 1) pnodes k more h)
]

-- a height that serves is found, if there is one within the tries
height_from-serves : (tries height pnodes : ℕ) → pnodes ≤ 4 ^ (height + tries) → pnodes ≤ 4 ^ height_from tries height pnodes
unfolding height_from
height_from-serves zero height pnodes h = let e : height + 0 ≡ height = omega arith in rw e at h
height_from-serves (suc tries) height pnodes h = elim (cases_Bool (nat_le pnodes (4 ^ height))) [
  | inl found ↦ rw found (leb-true pnodes (4 ^ height) found)
  | inr above ↦ let e : height + suc tries ≡ height + 1 + tries = omega arith in rw above (height_from-serves tries (height + 1) pnodes (rw e at h))
]

-- the least height at which the tree has room for the pnodes, where there are less than 2^32
pub record IsHeight (pnodes height : ℕ) : Type 0 where
  pub serves : pnodes ≤ 4 ^ height
  pub least : (k : ℕ) → 1 ≤ k → pnodes ≤ 4 ^ k → height ≤ k

pub tree_height-least : (pnodes : ℕ) → pnodes < 2 ^ 32 → IsHeight pnodes (tree_height pnodes)
unfolding tree_height
tree_height-least pnodes h = record {
  serves = height_from-serves 16 1 pnodes (omega arith);
  least = λ k low fits. height_from-least 16 1 pnodes k low fits;
}

-- a volume of the big model, with 1,024 pnodes
abbrev big_volume : RawGeometry
big_volume = record { leb_size = 16384; min_io = 512; log_lebs = 4; lpt_lebs = 4; orph_lebs = 1; leb_cnt = 4108; max_leb_cnt = 4108; fanout = 8; lsave_cnt = 256; big = true }

-- its nodes have numbers, of 11 bits
pub big_nodes : (pnode_len big_volume ≡ 17) × (nnode_len big_volume ≡ 13) × (ltab_len big_volume ≡ 18)
unfolding fls count_leading_zeros
big_nodes = (refl, refl, refl)

pub big_tree : (pnode_count big_volume ≡ 1024) × (nnode_count big_volume ≡ 341)
unfolding tree_height height_from
big_tree = (refl, refl)
