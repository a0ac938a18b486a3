-- Units and LEBs are whole multiples of 8 bytes.
use Rattle.std.specs.Prelude.{◌≡◌, ℕ, ◌+◌, ◌*◌, ◌/◌, ◌%◌, ◌≤◌, IsTrue, count_ones}
use Rattle.std.proofs.Common.{arith, sym, ◌∙◌, ap, inl, inr}
use Rattle.std.proofs.lemmas.Bool.{eqb-true}
use Rattle.std.proofs.Math.Nat.{mul_assoc, mul_comm, eq-zero-or-pos}
use Rattle.std.proofs.lemmas.Nat.{zero_from_ones, div-add-mod'}
use Rattle.std.specs.Int.{is_power_of_two}
use Rattle.std.specs.Int.Count.{ones_step}
use Rattle.ubifs_base.specs.declared.raw_geometry.RawGeometry.{RawGeometry}
use Rattle.ubifs_base.specs.Geometry.{IsGeometry}

-- one digit is set, and it isn't the lowest
halved : (n : ℕ) → count_ones n ≡ 1 → 2 ≤ n → (n % 2 ≡ 0) × (count_ones (n / 2) ≡ 1)
halved n one big =
    let step : count_ones n ≡ n % 2 + count_ones (n / 2) = ones_step n in
    let even : n % 2 ≡ 0 = elim (eq-zero-or-pos (n % 2)) [
      | inl none ↦ none
      | inr odd ↦
          let rest : count_ones (n / 2) ≡ 0 = omega (arith, step, one) in
          let small : n / 2 ≡ 0 = zero_from_ones (n / 2) rest in
          absurd (omega arith)
    ] in
    (even, omega (arith, step, one))

pub power_of_two-mod : (n : ℕ) → IsTrue (is_power_of_two n) → 8 ≤ n → n % 8 ≡ 0
power_of_two-mod n power big =
    let one : count_ones n ≡ 1 = eqb-true (count_ones n) 1 power in
    let first = halved n one (omega arith) in
    let second = halved (n / 2) first.1 (omega arith) in
    let third = halved (n / 2 / 2) second.1 (omega arith) in
    omega (arith, first.0, second.0, third.0)

pub min_io-mod : (geo : RawGeometry) → IsGeometry geo → geo.min_io % 8 ≡ 0
min_io-mod geo h = power_of_two-mod geo.min_io h.min_io.0 h.min_io.1

pub leb_size-mod : (geo : RawGeometry) → IsGeometry geo → geo.leb_size % 8 ≡ 0
leb_size-mod geo h =
    let units = geo.leb_size / geo.min_io in
    let eighths = geo.min_io / 8 in
    let unit : geo.min_io ≡ 8 * eighths = omega (arith, min_io-mod geo h) in
    let whole : units * geo.min_io ≡ geo.leb_size = omega (arith, div-add-mod' geo.leb_size geo.min_io, h.leb_size.2) in
    let parts : units * (8 * eighths) ≡ 8 * (units * eighths) = sym (mul_assoc units 8 eighths) ∙ ap (λ x. x * eighths) (mul_comm units 8) ∙ mul_assoc 8 units eighths in
    let eight : geo.leb_size ≡ 8 * (units * eighths) = sym whole ∙ ap (λ x. units * x) unit ∙ parts in
    omega (arith, eight)
