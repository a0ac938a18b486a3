-- An image of a volume isn't faulty.
use Rattle.std.proofs.Common.{◌≡◌, ℕ, ◌%◌, List, length, Option, Some, None, refl, ap, sym, subst, ◌∙◌, inl, inr, arith}
use Rattle.ubifs_base.specs.Geometry.{IsGeometry}
use Rattle.ubifs_base.specs.NodeLaws.{IsBytes}
use Rattle.ubifs_base.specs.declared.raw_geometry.RawGeometry.{RawGeometry}
use Rattle.ubi_volume.specs.Loading.{Fits}
use Rattle.media_sys.specs.Features.{features_of, first_of, geometry_of}
use Rattle.media_sys.specs.declared.super_node.Super.{Super}
use Rattle.small_areas.specs.MasterLaws.{OneNode}
use Rattle.image_dump.specs.Opening.{HasVolume, IsFaulty, shape_of}
use Rattle.image_dump.specs.declared.fault.ImageFault.{ImageFault}
use Rattle.image_dump.specs.declared.fault.ImageFault.TheVariants as fault
use Rattle.image_dump.proofs.OneImage.{none_out, one_geometry, one_super}

some_none : {X : Type 0} (o : Option X) (x : X) → o ≡ Some x → o ≡ None → ⊥
some_none o x a b = absurd cc

pub opened_not_faulty : OneNode → (image : List ℕ) (geo : RawGeometry) (why : ImageFault) → IsBytes image → HasVolume image geo → IsFaulty image why → why ≡ fault.Memory
opened_not_faulty node image geo fault.Memory fits volume h = refl
opened_not_faulty node image geo (fault.Short len) fits volume (is, inl few) =
    let long = volume.fits.some in
    absurd (omega (arith, few, long))
opened_not_faulty node image geo (fault.Short len) fits volume (is, inr part) =
    let same = one_geometry node image part.0 geo fits part.1 volume.geometry in
    let P : RawGeometry → Type 0 = λ g. length image % g.leb_size ≡ 0 in
    absurd (part.2 (subst P (sym same) volume.fits.whole))
opened_not_faulty node image geo (fault.Super field) fits volume (long, inl none) = absurd (none.0 volume.geometry.node volume.geometry.begins)
opened_not_faulty node image geo (fault.Super field) fits volume (long, inr bad) =
    let has = volume.geometry in
    let same = one_super node image bad.0 has.node fits bad.1 has.begins in
    let P : RawGeometry → Type 0 = λ g. IsGeometry g in
    absurd (none_out (geometry_of bad.0) bad.3.0 (subst P (has.geometry ∙ sym (ap geometry_of same)) has.in_range) bad.3.1)
opened_not_faulty node image geo (fault.Feature what lnum offs) fits volume h =
    let has = volume.geometry in
    let same = one_super node image h.0 has.node fits h.1 has.begins in
    absurd (some_none (first_of (features_of h.0)) what h.2 (ap (λ (n : Super). first_of (features_of n)) same ∙ has.known))
opened_not_faulty node image geo (fault.Long len most) fits volume h =
    let same = one_geometry node image h.0 geo fits h.1 volume.geometry in
    let P : RawGeometry → Type 0 = λ g. Fits (shape_of g) image in
    absurd (h.2.more (subst P (sym same) volume.fits).no_more)
