-- Whole units of some bytes.
use Rattle.std.proofs.Common.{◌≡◌, ◌≤◌, ◌<◌, ℕ, ◌+◌, ◌-◌, ◌*◌, ◌/◌, ◌%◌, arith, sym, ap, ◌∙◌}
use Rattle.std.proofs.Math.Nat.{div-mul-le_self, lt-div-mul-add, mul-div_left, mul-le-mul_right}
use Rattle.std.proofs.lemmas.Nat.{div-add-mod', div-mul-add, le-div}
use Rattle.ubifs_base.specs.declared.raw_geometry.RawGeometry.{RawGeometry}
use Rattle.ubifs_base.specs.Geometry.{IsGeometry}
use Rattle.store_model.specs.Events.{whole_store_units}

pub floor_grows : (a b u : ℕ) → 0 < u → a ≤ b → a / u * u ≤ b / u * u
floor_grows a b u some more =
    let low : a / u * u ≤ a = div-mul-le_self a u in
    mul-le-mul_right {m = a / u} {n = b / u} u (le-div (a / u) b u some (omega (arith, low, more)))

-- no fewer
pub whole_covers : (geo : RawGeometry) (n : ℕ) → 0 < geo.min_io → n ≤ whole_store_units geo n
whole_covers geo n some =
    let more : n + geo.min_io - 1 < (n + geo.min_io - 1) / geo.min_io * geo.min_io + geo.min_io = lt-div-mul-add {a = n + geo.min_io - 1} {b = geo.min_io} some in
    omega (arith, some, more)

-- whole units of whole units
pub whole_whole : (geo : RawGeometry) (n : ℕ) → 0 < geo.min_io → whole_store_units geo n ≡ whole_store_units geo n / geo.min_io * geo.min_io
whole_whole geo n some = sym (ap (λ (k : ℕ). k * geo.min_io) (mul-div_left ((n + geo.min_io - 1) / geo.min_io) {n = geo.min_io} some))

-- they fit a LEB that takes whole units
pub whole_fits : (geo : RawGeometry) (n : ℕ) → 0 < geo.min_io → geo.leb_size % geo.min_io ≡ 0 → n ≤ geo.leb_size → whole_store_units geo n ≤ geo.leb_size
whole_fits geo n some whole fits =
    let u = geo.min_io in
    let size = geo.leb_size in
    let all : size / u * u + size % u ≡ size = div-add-mod' size u in
    let is : size / u * u ≡ size = omega (arith, all, whole) in
    let top : (size / u * u + (u - 1)) / u ≡ size / u = div-mul-add (size / u) u (u - 1) (omega (arith, some)) in
    let same : size / u * u + (u - 1) ≡ size + u - 1 = omega (arith, is, some) in
    let last : (size + u - 1) / u * u ≡ size = ap (λ (k : ℕ). k / u * u) (sym same) ∙ ap (λ (k : ℕ). k * u) top ∙ is in
    let grows : (n + u - 1) / u * u ≤ (size + u - 1) / u * u = floor_grows (n + u - 1) (size + u - 1) u some (omega (arith, fits)) in
    omega (arith, grows, last)

pub some_unit : (geo : RawGeometry) → IsGeometry geo → 0 < geo.min_io
some_unit geo is = let least = is.min_io.1 in omega (arith, least)
