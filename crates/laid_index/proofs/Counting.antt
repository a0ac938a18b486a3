-- LEBs are counted.
use Rattle.std.proofs.Common.{◌≡◌, ℕ, ◌-◌, ◌^◌, ◌<◌, ◌≤◌, List, [], ◌∷◌, ◌++◌, length, ap, sym, ◌∙◌, refl, arith, append-nil, inl, inr}
use Rattle.std.specs.Prelude.{min}
use Rattle.std.specs.Int.{div_ceil}
use Rattle.std.proofs.lemmas.Bool.{cases_lt}
use Rattle.ubifs_base.specs.Geometry.{IsGeometry}
use Rattle.ubifs_base.specs.declared.raw_geometry.RawGeometry.{RawGeometry}
use Rattle.laid_index.specs.Counted.{lebs_after}
use Rattle.laid_index.specs.Packing.{index_used, len_over, lens_above, level_lens, packed}
use Rattle.laid_index.specs.declared.packing.LebCount.{LebCount}
use Rattle.laid_index.proofs.Packs.{lens_count, lens_level, lens_root, level_last, level_step, packed_first, packed_grows}

-- fewer nodes take no more LEBs
pub counted_front : (geo : RawGeometry) (count : LebCount) (xs ys : List ℕ) → lebs_after geo count xs ≤ lebs_after geo count (xs ++ ys)
counted_front geo count xs ys = let h = packed_grows geo.leb_size count.taken xs ys in omega (arith, h)

-- the first of some nodes
pub counted_first : (geo : RawGeometry) (count start : LebCount) (len : ℕ) (more xs ys : List ℕ) → xs ≡ len ∷ more → lebs_after geo count (xs ++ []) ≡ lebs_after geo start (ys ++ [])
    → lebs_after geo start ys < 2 ^ 64 → lebs_after geo count (len ∷ []) < 2 ^ 64
counted_first geo count start len more xs ys is same room =
    let a = counted_front geo count (len ∷ []) more in
    let b = ap (lebs_after geo count) (sym (append-nil xs ∙ is)) in
    let c = ap (lebs_after geo start) (append-nil ys) in
    omega (arith, a, b, c, same, room)

-- a level is the first part
pub lens_parts : (f n : ℕ) → 3 ≤ f → 0 < n → (rest : List ℕ) × (lens_above n f n ≡ level_lens f n ++ rest)
lens_parts f n wide some = elim (cases_lt f n) [
  | inl lt ↦ (lens_above (div_ceil n f) f (div_ceil n f), lens_level f n wide lt)
  | inr le ↦ ([], lens_root f n some le ∙ sym (append-nil (level_lens f n) ∙ level_last f n some le))
]

pub counted_level : (geo : RawGeometry) (count : LebCount) (f n : ℕ) → 3 ≤ f → 0 < n → lebs_after geo count (lens_above n f n) < 2 ^ 64 → lebs_after geo count (level_lens f n) < 2 ^ 64
counted_level geo count f n wide some room =
    let parts = lens_parts f n wide some in
    let a = counted_front geo count (level_lens f n) parts.0 in
    let b = ap (lebs_after geo count) parts.1 in
    omega (arith, a, b, room)

-- an index takes no more LEBs than it has leaves
pub index_few : (geo : RawGeometry) (n : ℕ) → IsGeometry geo → 0 < n → length (index_used geo n) ≤ n
index_few geo n g some =
    let f = geo.fanout in
    let wide = g.fanout.0 in
    let most = g.fanout.1 in
    let size = g.leb_size.0 in
    let parts = lens_parts f n wide some in
    let m = min n f in
    let small : m ≤ f = omega arith in
    let more = level_lens f (n - m) ++ parts.0 in
    let is : lens_above n f n ≡ len_over m ∷ more = parts.1 ∙ ap (λ (l : List ℕ). l ++ parts.0) (level_step f n m (omega (arith, wide)) some refl) in
    let few = packed_first geo.leb_size (len_over m) more (omega (arith, small, most, size)) in
    let all = lens_count n f n wide some in
    let e = ap length is in
    let u = ap (λ (l : List ℕ). length (packed geo.leb_size 0 l)) is in
    omega (arith, few, all, e, u)
