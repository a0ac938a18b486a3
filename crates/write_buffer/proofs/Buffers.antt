-- Buffers, by their parts.
use Rattle.std.proofs.Common.{◌≡◌, ℕ, ◌+◌, ◌-◌, ◌*◌, ◌/◌, ◌%◌, ◌^◌, ◌<◌, ◌≤◌, Option, List, [], ◌++◌, length, take, ap, sym, subst, ◌∙◌, arith, length-append, length-take}
use Rattle.std.proofs.Math.Nat.{div-add-mod, mul-add-mod_self_left, add-mul-div_left, mul_comm, div-lt_iff_lt-mul, mul-le-mul_right}
use Rattle.std.proofs.lemmas.List.{take_all}
use Rattle.ubifs_base.specs.Gap.{gap_of}
use Rattle.ubi_volume.specs.Volume.{VolumeState}
use Rattle.write_buffer.specs.Buffer.{Buffered, IsBuffer, whole_of}
use Rattle.write_buffer.specs.Units.{IsPut, IsFilled}

-- a buffer is its parts
pub same_buffer : (x y : Buffered) → x.unit ≡ y.unit → x.leb ≡ y.leb → x.place ≡ y.place → x.tail ≡ y.tail → x ≡ y
same_buffer x y unit leb place tail =
    ap (λ (u : ℕ). record { unit = u; leb = x.leb; place = x.place; tail = x.tail }) unit
    ∙ ap (λ (l : Option ℕ). record { unit = y.unit; leb = l; place = x.place; tail = x.tail }) leb
    ∙ ap (λ (p : ℕ). record { unit = y.unit; leb = y.leb; place = p; tail = x.tail }) place
    ∙ ap (λ (t : List ℕ). record { unit = y.unit; leb = y.leb; place = y.place; tail = t }) tail

-- sums of whole units
pub sum_whole : (a b unit : ℕ) → a % unit ≡ 0 → b % unit ≡ 0 → (a + b) % unit ≡ 0
sum_whole a b unit whole more =
    let parts = div-add-mod a unit in
    let e : a + b ≡ unit * (a / unit) + b = omega (arith, parts, whole) in
    ap (λ (n : ℕ). n % unit) e ∙ mul-add-mod_self_left unit (a / unit) b ∙ more

-- the place moves over whole units
pub moved : (x y : Buffered) (n : ℕ) → IsBuffer x → y.unit ≡ x.unit → y.place ≡ x.place + n → n % x.unit ≡ 0 → length y.tail < x.unit → x.place + n + length y.tail < 2 ^ 32 → IsBuffer y
moved x y n is unit place whole less end =
    let some = is.some in
    let small = is.small in
    let Q : ℕ → ℕ → Type 0 = λ p u. p % u ≡ 0 in
    let P : ℕ → Type 0 = λ p. p % y.unit ≡ 0 in
    let R : ℕ → Type 0 = λ u. (x.place + n) % u ≡ 0 in
    record {
      some = omega (arith, some, unit);
      small = omega (arith, small, unit);
      whole = subst P (sym place) (subst R (sym unit) (sum_whole x.place n x.unit is.whole whole));
      less = omega (arith, less, unit);
      end = omega (arith, place, end);
    }

-- the first bytes of a unit that was filled behind them
pub filled_items : (count : ℕ) (old new bytes : List ℕ) → count < length old → length new ≡ length old → take (count + length bytes) new ≡ take count old ++ bytes → length (take count old) + length bytes ≡ length old
    → new ≡ take count old ++ bytes
filled_items count old new bytes inside len front full =
    let short = length-take count old in
    sym (take_all (count + length bytes) new (omega (arith, inside, len, full, short))) ∙ front

-- whole units, and a rest
pub whole_more : (unit n : ℕ) → 0 < unit → whole_of unit (unit + n) ≡ unit + whole_of unit n
whole_more unit n some =
    let swap : unit + n ≡ n + unit * 1 = omega arith in
    let one : (unit + n) / unit ≡ n / unit + 1 = ap (λ (m : ℕ). m / unit) swap ∙ add-mul-div_left n 1 some in
    ap (λ (m : ℕ). m * unit) one ∙ omega arith

-- the waiting unit was written, and nothing waits
pub filled_is : (a b : VolumeState) (x y : Buffered) (lnum : ℕ) (bytes all : List ℕ) → y.unit ≡ x.unit → y.leb ≡ x.leb → y.place ≡ x.place + x.unit → y.tail ≡ []
    → all ≡ x.tail ++ bytes → IsPut a b lnum x.place all → IsFilled a b x y lnum bytes
filled_is a b x y lnum bytes all unit leb place none is_all put =
    let P : List ℕ → Type 0 = λ bs. IsPut a b lnum x.place bs in
    record {
      is = same_buffer y (record { unit = x.unit; leb = x.leb; place = x.place + x.unit; tail = [] }) unit leb place none;
      put_there = subst P is_all put;
    }

-- a unit fits between a place and an end that lies behind it
pub unit_fits : (unit place end : ℕ) → 0 < unit → place % unit ≡ 0 → end % unit ≡ 0 → place < end → place + unit ≤ end
unit_fits unit place end some whole whole_end less =
    let p : place ≡ place / unit * unit = sym (div-add-mod place unit) ∙ rw whole (omega (arith, mul_comm unit (place / unit))) in
    let e : end ≡ end / unit * unit = sym (div-add-mod end unit) ∙ rw whole_end (omega (arith, mul_comm unit (end / unit))) in
    let P : ℕ → Type 0 = λ n. place < n in
    let fewer : place / unit < end / unit = (div-lt_iff_lt-mul some).1 (subst P e less) in
    let below : (place / unit + 1) * unit ≤ end / unit * unit = mul-le-mul_right unit (omega (arith, fewer)) in
    omega (arith, below, e, p)

-- the gap fills the unit
pub padded_len : (count : ℕ) (old new : List ℕ) → count < length old → new ≡ take count old ++ gap_of (length old - count) → length new ≡ length old
    → length (take count old) + length (gap_of (length old - length (take count old))) ≡ length old
padded_len count old new inside padded len =
    let short : length (take count old) ≡ count = rw length-take (omega (arith, inside)) in
    let same : length (gap_of (length old - length (take count old))) ≡ length (gap_of (length old - count)) = ap (λ (n : ℕ). length (gap_of (length old - n))) short in
    let sum = length-append (take count old) (gap_of (length old - count)) in
    let whole : length new ≡ length (take count old ++ gap_of (length old - count)) = ap length padded in
    omega (arith, same, sum, whole, len)
