-- Main LEBs by their numbers and by their places among all.
use Rattle.std.proofs.Common.{◌≡◌, ℕ, zero, suc, ◌+◌, ◌-◌, ◌<◌, ◌≤◌, nat_lt, Bool, true, false, List, [], ◌∷◌, Option, Some, None, length, slice_get, ap, sym, refl, ◌∙◌, arith}
use Rattle.std.specs.Prelude.{if◌then◌else◌}
use Rattle.std.proofs.lemmas.Bool.{le-ltb, ltb-false}
use Rattle.ubifs_base.specs.Areas.{main_first}
use Rattle.ubifs_base.specs.declared.raw_geometry.RawGeometry.{RawGeometry}
use Rattle.media_lpt.specs.declared.lprop.Lprop.{Lprop}
use Rattle.sound_image.specs.Properties.{prop_of}

pub one_prop : (a b : Lprop) (o : Option Lprop) → o ≡ Some a → o ≡ Some b → a ≡ b
one_prop a b o h k = let e = sym h ∙ k in cc

pub some_inside : {X : Type 0} (xs : List X) (i : ℕ) (x : X) → slice_get xs i ≡ Some x → i < length xs
some_inside [] i x h = absurd cc
some_inside (y ∷ xs) zero x h = omega arith
some_inside (y ∷ xs) (suc i) x h = let less = some_inside xs i x h in omega (arith, less)

in_main_by : (geo : RawGeometry) (props : List Lprop) (lnum : ℕ) (prop : Lprop) (below : Bool) → nat_lt lnum (main_first geo) ≡ below → (if below then None else slice_get props (lnum - main_first geo)) ≡ Some prop
    → (main_first geo ≤ lnum) × (slice_get props (lnum - main_first geo) ≡ Some prop)
in_main_by geo props lnum prop true e h = absurd cc
in_main_by geo props lnum prop false e h = (ltb-false lnum (main_first geo) e, h)

-- a LEB with properties is a main LEB, and has those at its place
pub in_main : (geo : RawGeometry) (props : List Lprop) (lnum : ℕ) (prop : Lprop) → prop_of geo props lnum ≡ Some prop → (main_first geo ≤ lnum) × (slice_get props (lnum - main_first geo) ≡ Some prop)
in_main geo props lnum prop has = in_main_by geo props lnum prop (nat_lt lnum (main_first geo)) refl has

-- the properties at a place are those of its LEB
pub of_main : (geo : RawGeometry) (props : List Lprop) (at : ℕ) (prop : Lprop) → slice_get props at ≡ Some prop → prop_of geo props (main_first geo + at) ≡ Some prop
of_main geo props at prop h =
    let low : nat_lt (main_first geo + at) (main_first geo) ≡ false = le-ltb (main_first geo + at) (main_first geo) (omega arith) in
    let same : main_first geo + at - main_first geo ≡ at = omega arith in
    ap (λ (b : Bool). if b then None else slice_get props (main_first geo + at - main_first geo)) low ∙ ap (slice_get props) same ∙ h

-- a place within a list has an element
pub there_is : {X : Type 0} (xs : List X) (at : ℕ) → at < length xs → (x : X) × (slice_get xs at ≡ Some x)
there_is [] at h = absurd (omega (arith, h))
there_is (x ∷ xs) zero h = (x, refl)
there_is (x ∷ xs) (suc at) h = there_is xs at (omega (arith, h))
