-- How few LEBs an index takes.
use Rattle.std.proofs.Common.{◌≡◌, ℕ, zero, suc, ◌+◌, ◌*◌, ◌/◌, ◌%◌, ◌<◌, ◌≤◌, List, [], ◌∷◌, ◌++◌, length, ap, arith, length-append, inl, inr}
use Rattle.std.specs.Prelude.{◌==◌, nat_le, replicate, if◌then◌else◌}
use Rattle.std.specs.Int.{div_ceil}
use Rattle.std.specs.List.{AllByRecursion}
use Rattle.std.proofs.lemmas.Bool.{cases_Bool, cases_lt}
use Rattle.std.proofs.lemmas.Grind.{div_ceil_times}
use Rattle.std.proofs.lemmas.Nat.{mod_below}
use Rattle.std.proofs.Math.Nat.{div-mul-le_self, mul-le-mul_right, suc-mul}
use Rattle.ubifs_base.specs.declared.raw_geometry.RawGeometry.{RawGeometry}
use Rattle.ubifs_base.specs.Geometry.{IsGeometry, index_node_len, index_nodes_per_leb}
use Rattle.index_media.specs.PlacedRow.{node_end}
use Rattle.laid_index.specs.Packing.{index_used, index_lens, len_over, level_lens, lens_above, packed}
use Rattle.laid_index.proofs.Packs.{ceil_some, lens_count, lens_level, lens_root, level_count, packed_fits, packed_nil, packed_over}

-- no node is longer than a full one
abbrev Short : ℕ → ℕ → Type 0
Short most len = node_end len ≤ most

all_short : (most : ℕ) (xs ys : List ℕ) → AllByRecursion (Short most) xs → AllByRecursion (Short most) ys → AllByRecursion (Short most) (xs ++ ys)
all_short most [] ys h k = k
all_short most (x ∷ xs) ys h k = (h.0, all_short most xs ys h.1 k)

many_short : (most len n : ℕ) → Short most len → AllByRecursion (Short most) (replicate n len)
many_short most len zero h = tt
many_short most len (suc n) h = (h, many_short most len n h)

level_short : (f n : ℕ) → 0 < f → AllByRecursion (Short (node_end (len_over f))) (level_lens f n)
level_short f n some =
    let most = node_end (len_over f) in
    let below = mod_below n f some in
    all_short most (replicate (n / f) (len_over f)) (if n % f == 0 then [] else len_over (n % f) ∷ []) (many_short most (len_over f) (n / f) (omega arith)) (elim (cases_Bool (n % f == 0)) [
      | inl e ↦ rw e tt
      | inr e ↦ rw e (omega (arith, below), tt)
    ])

lens_short : (levels f n : ℕ) → 0 < f → AllByRecursion (Short (node_end (len_over f))) (lens_above levels f n)
unfolding lens_above
lens_short zero f n some = tt
lens_short (suc levels) f n some = elim (cases_Bool (nat_le n f)) [
  | inl e ↦ rw e (all_short (node_end (len_over f)) (level_lens f n) [] (level_short f n some) tt)
  | inr e ↦ rw e (all_short (node_end (len_over f)) (level_lens f n) (lens_above levels f (div_ceil n f)) (level_short f n some) (lens_short levels f (div_ceil n f) some))
]

-- A LEB is left once it has as many nodes as full ones fit: `here` nodes stand in the open LEB, and each LEB takes `each` full ones.
packed_full : (size most each here taken : ℕ) (lens : List ℕ) → each * most ≤ size → taken ≤ here * most → AllByRecursion (Short most) lens
    → length (packed size taken lens) * each ≤ here + length lens + each
packed_full size most each here taken [] fit full short =
    let one : length (packed size taken []) * each ≡ 1 * each = ap (λ (xs : List ℕ). length xs * each) (packed_nil size taken) in
    omega (arith, one)
packed_full size most each here taken (len ∷ lens) fit full short = elim (cases_lt size (taken + len)) [
  | inl over ↦
      let more = packed_full size most each 1 (node_end len) lens fit (omega (arith, short.0)) short.1 in
      let all : length (packed size taken (len ∷ lens)) * each ≡ suc (length (packed size (node_end len) lens)) * each = ap (λ (xs : List ℕ). length xs * each) (packed_over size taken len lens over) in
      let step = suc-mul (length (packed size (node_end len) lens)) each in
      let left : each ≤ here = enough over in
      omega (arith, more, all, step, left)
  | inr fits ↦
      let next = suc-mul here most in
      let more = packed_full size most each (suc here) (taken + node_end len) lens fit (omega (arith, full, short.0, next)) short.1 in
      let all : length (packed size taken (len ∷ lens)) * each ≡ length (packed size (taken + node_end len) lens) * each = ap (λ (xs : List ℕ). length xs * each) (packed_fits size taken len lens (omega (arith, fits))) in
      omega (arith, more, all)
]
  where
    enough : size < taken + len → each ≤ here
    enough over = elim (cases_lt here each) [
      | inl less ↦
          let part : suc here * most ≤ each * most = mul-le-mul_right most less in
          let next = suc-mul here most in
          let longest = short.0 in
          absurd (omega (arith, over, full, part, next, fit, longest))
      | inr ge ↦ omega (arith, ge)
    ]

-- at most twice the nodes that a lowest level needs
few_nodes : (f n weight : ℕ) → 3 ≤ f → 0 < n → n ≤ f * weight → length (lens_above n f n) ≤ 2 * weight
few_nodes f n zero wide some le = absurd (omega (arith, some, le))
few_nodes f n (suc rest) wide some le = elim (cases_lt f n) [
  | inl lt ↦
      let weight = suc rest in
      let m = div_ceil n f in
      let parts = ap length (lens_level f n wide lt) in
      let both = length-append (level_lens f n) (lens_above m f m) in
      let level = level_count f n in
      let above = lens_count m f m wide (ceil_some f n (omega (arith, wide)) some) in
      let times = (div_ceil_times n f (omega (arith, wide))).1 in
      let swap : f * weight ≡ weight * f = omega arith in
      let low : m ≤ weight = elim (cases_lt weight m) [
        | inl more ↦
            let part : suc weight * f ≤ m * f = mul-le-mul_right f more in
            let next = suc-mul weight f in
            absurd (omega (arith, part, next, times, swap, le))
        | inr ge ↦ omega (arith, ge)
      ] in
      omega (arith, parts, both, level, above, low)
  | inr ge ↦ let one = ap length (lens_root f n some (omega (arith, ge))) in omega (arith, one)
]

-- so an index over so few leaves takes few LEBs
pub few_lebs : (geo : RawGeometry) → IsGeometry geo → (leaves weight : ℕ) → 0 < leaves → leaves ≤ geo.fanout * weight
    → length (index_used geo leaves) * index_nodes_per_leb geo ≤ 2 * weight + index_nodes_per_leb geo
few_lebs geo g leaves weight some le =
    let f = geo.fanout in
    let wide = g.fanout.0 in
    let each = index_nodes_per_leb geo in
    let most = index_node_len geo in
    let fit : each * most ≤ geo.leb_size = div-mul-le_self geo.leb_size most in
    let full = packed_full geo.leb_size most each 0 0 (index_lens f leaves) fit (omega arith) (lens_short leaves f leaves (omega (arith, wide))) in
    let nodes = few_nodes f leaves weight wide some le in
    omega (arith, full, nodes)
