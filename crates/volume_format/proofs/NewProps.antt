-- The properties of a new file system's main LEBs are possible ones.
use Rattle.std.proofs.Common.{◌≡◌, ℕ, zero, suc, ◌-◌, ◌≤◌, true, false, ◌∷◌, length, replicate, refl, ap, arith}
use Rattle.std.specs.Prelude.{All, slice_set}
use Rattle.std.proofs.lemmas.List.Elements.{All-nil, All-cons}
use Rattle.ubifs_base.specs.Areas.{main_lebs}
use Rattle.ubifs_base.specs.Geometry.{IsGeometry}
use Rattle.ubifs_base.specs.GeometryLaws.{leb_size-mod}
use Rattle.ubifs_base.specs.declared.raw_geometry.RawGeometry.{RawGeometry}
use Rattle.media_lpt.specs.declared.lprop.Lprop.{Lprop}
use Rattle.lpt_area.specs.Written.{AreProps, IsLprop}
use Rattle.laid_main.specs.Props.{prop_behind}
use Rattle.volume_format.specs.Format.{new_props}

so_many : (n : ℕ) (prop : Lprop) → length (replicate n prop) ≡ n
so_many zero prop = refl
so_many (suc n) prop = ap (λ n. suc n) (so_many n prop)

each_of : (geo : RawGeometry) (n : ℕ) (prop : Lprop) → IsLprop geo prop → All (IsLprop geo) (replicate n prop)
each_of geo zero prop is = All-nil (IsLprop geo)
each_of geo (suc n) prop is = All-cons (IsLprop geo) prop (replicate n prop) is (each_of geo n prop is)

pub new_are_props : (geo : RawGeometry) → IsGeometry geo → 2 ≤ main_lebs geo → IsLprop geo (prop_behind geo 160 false) → IsLprop geo (prop_behind geo 48 true) → AreProps geo (new_props geo)
new_are_props geo g two root index =
    let empty : Lprop = record { free = geo.leb_size; dirty = 0; index = false } in
    let rest = replicate (main_lebs geo - 2) empty in
    let many = so_many (main_lebs geo - 2) empty in
    let P : Lprop → Type 0 = IsLprop geo in
    record {
      count = omega (arith, many, two);
      each = All-cons P (prop_behind geo 160 false) (prop_behind geo 48 true ∷ rest) root (All-cons P (prop_behind geo 48 true) rest index
          (each_of geo (main_lebs geo - 2) empty (record { free = leb_size-mod geo g; dirty = refl; room = omega arith })));
    }

-- a list of one value, of which the first two are set
pub first_two : (n : ℕ) (prop first second : Lprop) → 2 ≤ n → slice_set (slice_set (replicate n prop) 0 first) 1 second ≡ first ∷ second ∷ replicate (n - 2) prop
first_two zero prop first second two = absurd (omega (arith, two))
first_two (suc zero) prop first second two = absurd (omega (arith, two))
first_two (suc (suc n)) prop first second two =
    let e : n ≡ suc (suc n) - 2 = omega arith in
    ap (λ (m : ℕ). first ∷ second ∷ replicate m prop) e
