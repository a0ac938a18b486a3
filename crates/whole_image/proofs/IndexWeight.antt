-- An index whose nodes are full but for the last of a level weighs what its nodes weigh by their lengths.
use Rattle.std.proofs.Common.{◌≡◌, ℕ, zero, suc, ◌+◌, ◌*◌, ◌/◌, ◌%◌, ◌<◌, ◌≤◌, Bool, List, [], ◌∷◌, ◌++◌, refl, ap, ◌∙◌, arith, inl, inr}
use Rattle.std.specs.Prelude.{◌==◌, nat_le, replicate, if◌then◌else◌}
use Rattle.std.specs.Int.{div_ceil}
use Rattle.std.proofs.lemmas.Bool.{cases_Bool, cases_lt, eqb-true, eqb-false, le-leb, lt-leb, leb-true, leb-false}
use Rattle.std.proofs.lemmas.Grind.{div_ceil_times}
use Rattle.std.proofs.lemmas.Nat.{mod_below}
use Rattle.std.proofs.Math.Nat.{suc-mul, mul-le-mul_left}
use Rattle.laid_index.specs.Packing.{index_weight, len_over, lens_above, lens_weight, level_lens}
use Rattle.plain_backing.specs.FullIndex.{full_index_weight, weight_above}

join : (f : ℕ) (xs ys : List ℕ) → lens_weight f (xs ++ ys) ≡ lens_weight f xs + lens_weight f ys
join f [] ys = omega arith
join f (x ∷ xs) ys = let e = join f xs ys in omega (arith, e)

-- a full node counts twice
full_nodes : (f k : ℕ) → lens_weight f (replicate k (len_over f)) ≡ 2 * k
full_nodes f zero = refl
full_nodes f (suc k) =
    two (if nat_le (len_over f) (len_over f) then 2 else 1) (lens_weight f (replicate k (len_over f))) (ap (λ (b : Bool). if b then 2 else 1) (le-leb (len_over f) (len_over f) (omega arith))) (full_nodes f k)
  where
    two : (own below : ℕ) → own ≡ 2 → below ≡ 2 * k → own + below ≡ 2 * suc k
    two own below a b = omega (arith, a, b)

-- and another once
last_node : (f n : ℕ) → n < f → lens_weight f (len_over n ∷ []) ≡ 1
last_node f n lt =
    one (if nat_le (len_over f) (len_over n) then 2 else 1) (ap (λ (b : Bool). if b then 2 else 1) (lt-leb (len_over f) (len_over n) (omega (arith, lt))))
  where
    one : (own : ℕ) → own ≡ 1 → own + 0 ≡ 1
    one own a = omega (arith, a)

level : (f n : ℕ) → 0 < f → lens_weight f (level_lens f n) ≡ div_ceil n f + n / f
level f n some =
    join f (replicate (n / f) (len_over f)) (if n % f == 0 then [] else len_over (n % f) ∷ [])
    ∙ (let a = full_nodes f (n / f) in elim (cases_Bool (n % f == 0)) [
      | inl e ↦ let z = eqb-true (n % f) 0 e in rw e (omega (arith, a, z))
      | inr e ↦
          let z = eqb-false (n % f) 0 e in
          let b = last_node f (n % f) (mod_below n f some) in
          let p : 1 ≤ n % f = elim (cases_lt 0 (n % f)) [ inl h ↦ h | inr h ↦ absurd (z (omega (arith, h))) ] in
          rw e (omega (arith, a, b, p))
    ])

-- siblings that one node takes
one_node : (q f n : ℕ) → 0 < n → n ≤ f → n ≤ q * f → q * f < n + f → q ≡ 1
one_node zero f n some le low high = absurd (omega (arith, some, low))
one_node (suc zero) f n some le low high = refl
one_node (suc (suc r)) f n some le low high =
    let a = suc-mul (suc r) f in
    let b = suc-mul r f in
    absurd (omega (arith, a, b, high, le))

fewer : (q f n : ℕ) → 3 ≤ f → f < n → q * f < n + f → q < n
fewer q f n wide lt high =
    let m : q * 3 ≤ q * f = mul-le-mul_left q wide in
    omega (arith, m, lt, high)

some_nodes : (q f n : ℕ) → 0 < n → n ≤ q * f → 0 < q
some_nodes zero f n some low = omega (arith, some, low)
some_nodes (suc q) f n some low = omega arith

levels_weigh : (levels f n : ℕ) → 3 ≤ f → 0 < n → n ≤ levels → lens_weight f (lens_above levels f n) ≡ weight_above levels f n
unfolding lens_above weight_above
levels_weigh zero f n wide some le = absurd (omega (arith, some, le))
levels_weigh (suc levels) f n wide some le = elim (cases_Bool (nat_le n f)) [
  | inl e ↦ rw e (
      let t = div_ceil_times n f (omega (arith, wide)) in
      let one = one_node (div_ceil n f) f n some (leb-true n f e) t.0 t.1 in
      let l = level f n (omega (arith, wide)) in
      let j = join f (level_lens f n) [] in
      omega (arith, one, l, j))
  | inr e ↦ rw e (
      let t = div_ceil_times n f (omega (arith, wide)) in
      let less = fewer (div_ceil n f) f n wide (leb-false n f e) t.1 in
      let more = levels_weigh levels f (div_ceil n f) wide (some_nodes (div_ceil n f) f n some t.0) (omega (arith, less, le)) in
      let l = level f n (omega (arith, wide)) in
      let j = join f (level_lens f n) (lens_above levels f (div_ceil n f)) in
      omega (arith, more, l, j))
]

pub full_nodes_weigh : (f n : ℕ) → 3 ≤ f → 0 < n → index_weight f n ≡ full_index_weight f n
full_nodes_weigh f n wide some = levels_weigh n f n wide some (omega arith)
