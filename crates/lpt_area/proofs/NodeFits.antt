-- The nodes that are laid are in their grammar.
use Rattle.std.proofs.Common.{◌≡◌, ◌⊎◌, ℕ, zero, suc, ◌+◌, ◌-◌, ◌*◌, ◌/◌, ◌^◌, ◌<◌, ◌≤◌, ◌==◌, if◌then◌else◌, Bool, true, false, List, [], ◌∷◌, ◌++◌, length, get_or, ap, sym, ◌∙◌, arith, subst, refl, inl, inr, pow-add}
use Rattle.std.proofs.lemmas.Nat.{pow_pos}
use Rattle.std.proofs.Math.Pow.{pow_mono}
use Rattle.ubifs_base.specs.Areas.{lpt_first, orph_first}
use Rattle.ubifs_base.specs.Geometry.{IsGeometry}
use Rattle.ubifs_base.specs.Properties.{fls}
use Rattle.ubifs_base.specs.PropertiesLaws.{fls-digits}
use Rattle.ubifs_base.specs.declared.raw_geometry.RawGeometry.{RawGeometry}
use Rattle.media_lpt.specs.Nodes.{IsPnode, IsNnode, IsPlace, IsInEights, lprop_fields, pnode_fields, place_fields, nnode_fields}
use Rattle.media_lpt.specs.Packed.{AllFit, Field}
use Rattle.media_lpt.specs.PackedLaws.{AllFit-append}
use Rattle.media_lpt.specs.declared.lprop.Lprop.{Lprop}
use Rattle.media_lpt.specs.declared.nnode.LptPlace.{LptPlace}
use Rattle.lpt_area.specs.Laid.{places, past_main}
use Rattle.lpt_area.specs.Tree.{no_place}
use Rattle.lpt_area.specs.Written.{IsLprop, AreProps}
use Rattle.lpt_area.proofs.LaidItems.{places-at, places-past, one_more_fits}

-- what holds of each item, and of what stands for those past the end
pub at_or_past : {X : Type 0} (P : X → Type 0) (xs : List X) (k : ℕ) (d : X) → ((j : ℕ) → j < length xs → P (get_or xs j d)) → P d → P (get_or xs k d)
at_or_past P [] k d h past = past
at_or_past P (x ∷ xs) zero d h past = h 0 (omega arith)
at_or_past P (x ∷ xs) (suc k) d h past = at_or_past P xs k d (λ j lt. h (suc j) (omega (arith, lt))) past

lt_or_le : (a b : ℕ) → (a < b) ⊎ (b ≤ a)
lt_or_le a zero = inr (omega arith)
lt_or_le zero (suc b) = inl (omega arith)
lt_or_le (suc a) (suc b) = elim (lt_or_le a b) [ inl less ↦ inl (omega (arith, less)) | inr more ↦ inr (omega (arith, more)) ]

eighth : (n size x : ℕ) → 15360 ≤ size → size < 2 ^ n → x ≤ size → x / 8 < 2 ^ (n - 3)
eighth n size x big fits less = elim (lt_or_le n 3) [
  | inl small ↦ let low = pow_mono {i = n} {j = 2} (omega (arith, small)) in absurd (omega (arith, low, big, fits))
  | inr enough ↦
      let e : n ≡ 3 + (n - 3) = omega (arith, enough) in
      let p : 2 ^ n ≡ 8 * 2 ^ (n - 3) = ap (λ (m : ℕ). 2 ^ m) e ∙ pow-add 2 3 (n - 3) in
      omega (arith, p, fits, less)
]

pub leb_size-fits : (geo : RawGeometry) → IsGeometry geo → geo.leb_size < 2 ^ fls geo.leb_size
leb_size-fits geo h = let most = h.leb_size.1 in (fls-digits geo.leb_size (omega (arith, most))).0

bit_fits : (b : Bool) → (if b then 1 else 0) < 2 ^ 1
bit_fits true = omega arith
bit_fits false = omega arith

pub prop_fits : (geo : RawGeometry) (prop : Lprop) → IsGeometry geo → IsLprop geo prop → AllFit (lprop_fields geo prop) × IsInEights prop
unfolding lprop_fields AllFit
prop_fits geo prop h is =
    let size = h.leb_size.0 in
    let fits = leb_size-fits geo h in
    let room = is.room in
    ((eighth (fls geo.leb_size) geo.leb_size prop.free size fits (omega (arith, room)), (eighth (fls geo.leb_size) geo.leb_size prop.dirty size fits (omega (arith, room)), (bit_fits prop.index, tt))), (is.free, is.dirty))

pub pnode_fits : (geo : RawGeometry) (a b c d : Lprop) → IsGeometry geo → IsLprop geo a → IsLprop geo b → IsLprop geo c → IsLprop geo d → IsPnode geo (record { num = 0; props = a ∷ b ∷ c ∷ d ∷ [] })
unfolding pnode_fields AllFit
pnode_fits geo a b c d h pa pb pc pd =
    let fa = prop_fits geo a h pa in
    let fb = prop_fits geo b h pb in
    let fc = prop_fits geo c h pc in
    let fd = prop_fits geo d h pd in
    let f : Lprop → List Field = lprop_fields geo in
    record {
      four = refl;
      eights = (fa.1, (fb.1, (fc.1, (fd.1, tt))));
      fit = (pow_pos _, AllFit-append (f a) (f b ++ (f c ++ (f d ++ []))) fa.0 (AllFit-append (f b) (f c ++ (f d ++ [])) fb.0 (AllFit-append (f c) (f d ++ []) fc.0 (AllFit-append (f d) [] fd.0 tt))));
    }

pub past_is : (geo : RawGeometry) → IsLprop geo past_main
past_is geo = record { free = refl; dirty = refl; room = omega arith }

pub prop_is : (geo : RawGeometry) (props : List Lprop) (k : ℕ) → AreProps geo props → IsLprop geo (get_or props k past_main)
prop_is geo props k are = at_or_past (IsLprop geo) props k past_main (λ j lt. are.each j past_main lt) (past_is geo)

-- a place of a node of the area
abbrev pub IsFit : RawGeometry → LptPlace → Type 0
IsFit geo place = IsPlace geo place × (place.offs < geo.leb_size)

value_fits : (geo : RawGeometry) (place : LptPlace) → IsPlace geo place → (b : Bool) → (place.lnum == 0) ≡ b → (if b then geo.lpt_lebs else place.lnum - lpt_first geo) ≤ geo.lpt_lebs
value_fits geo place is true e = omega arith
value_fits geo place (inl none) false e = omega arith
value_fits geo place (inr there) false e = let high = there.1 in omega (arith, high)

pub place_fits : (geo : RawGeometry) (place : LptPlace) → IsGeometry geo → IsFit geo place → AllFit (place_fields geo place)
unfolding place_fields AllFit
place_fits geo place h is =
    let most = h.lpt_lebs.1 in
    let size = h.leb_size.1 in
    let some = h.leb_size.0 in
    let value = value_fits geo place is.0 (place.lnum == 0) refl in
    let lebs = (fls-digits geo.lpt_lebs (omega (arith, most))).0 in
    let offs = (fls-digits (geo.leb_size - 1) (omega (arith, size))).0 in
    let low = is.1 in
    (omega (arith, value, lebs), (omega (arith, offs, low, some), tt))

pub nnode_fits : (geo : RawGeometry) (a b c d : LptPlace) → IsGeometry geo → IsFit geo a → IsFit geo b → IsFit geo c → IsFit geo d → IsNnode geo (record { num = 0; places = a ∷ b ∷ c ∷ d ∷ [] })
unfolding nnode_fields AllFit
nnode_fits geo a b c d h pa pb pc pd =
    let fa = place_fits geo a h pa in
    let fb = place_fits geo b h pb in
    let fc = place_fits geo c h pc in
    let fd = place_fits geo d h pd in
    let f : LptPlace → List Field = place_fields geo in
    record {
      four = refl;
      places = (pa.0, (pb.0, (pc.0, (pd.0, tt))));
      fit = (pow_pos _, AllFit-append (f a) (f b ++ (f c ++ (f d ++ []))) fa (AllFit-append (f b) (f c ++ (f d ++ [])) fb (AllFit-append (f c) (f d ++ []) fc (AllFit-append (f d) [] fd tt))));
    }

pub place_is : (geo : RawGeometry) (lnum offs len n k : ℕ) → IsGeometry geo → lpt_first geo ≤ lnum → lnum < orph_first geo → 0 < len → offs + n * len ≤ geo.leb_size → IsFit geo (get_or (places lnum offs len n) k no_place)
place_is geo lnum offs len n k h low high some room =
    let P : LptPlace → Type 0 = IsFit geo in
    let size = h.leb_size.0 in
    elim (lt_or_le k n) [
      | inl here ↦ let fits = one_more_fits k n len here in subst P (sym (places-at lnum offs len n k no_place here)) (inr (low, high), omega (arith, fits, room, some))
      | inr past ↦ subst P (sym (places-past lnum offs len n k no_place past)) (inl refl, omega (arith, size))
    ]
