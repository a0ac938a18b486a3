-- What the volume of an image holds is what the image holds, with one geometry.
use Rattle.std.proofs.Common.{◌≡◌, ℕ, ◌-◌, ◌*◌, ◌<◌, ◌≤◌, Bool, true, false, List, [], length, take, drop, replicate, refl, sym, subst, ◌∙◌, arith, length-take, length-append}
use Rattle.std.specs.Prelude.{nat_lt, if◌then◌else◌}
use Rattle.std.proofs.Math.Path.{fun_ext}
use Rattle.std.proofs.lemmas.Bool.{lt-ltb, ltb-true, ltb-false}
use Rattle.std.proofs.lemmas.List.{take-append-le, take-take}
use Rattle.ubifs_base.specs.NodeLaws.{IsBytes}
use Rattle.ubifs_base.specs.declared.raw_geometry.RawGeometry.{RawGeometry}
use Rattle.ubi_volume.specs.FoundLaws.{IsLoaded-holds}
use Rattle.ubi_volume.specs.Geometry.{IsGeometryOf}
use Rattle.ubi_volume.specs.Loading.{IsLoaded, leb_of}
use Rattle.ubi_volume.specs.Volume.{filled}
use Rattle.image_volume.specs.ImageVolume.{state_of}
use Rattle.image_volume.specs.ImageVolumeLaws.{leb_bytes_of, none_of}
use Rattle.image_volume.specs.declared.image_volume.ImageVolume.{ImageVolume}
use Rattle.media_sys.specs.SystemNode.{IsSuper}
use Rattle.media_sys.specs.declared.super_node.Super.{Super}
use Rattle.sound_image.specs.Superblock.{BeginsWithSuper, HasSuperblock}
use Rattle.image_dump.specs.Opening.{HasVolume, contents_of, shape_of}

-- contents say one geometry
abbrev pub OneGeometry : Type 0
OneGeometry = (contents : ℕ → List ℕ) (a b : RawGeometry) → IsBytes (contents 0) → HasSuperblock contents a → HasSuperblock contents b → a ≡ b

-- the volume of an image holds the contents of the image
pub holds_are : (image : List ℕ) (geo : RawGeometry) (v : ImageVolume) → IsLoaded (shape_of geo) image (state_of v) → (state_of v).holds ≡ contents_of geo image
holds_are image geo v loaded = fun_ext (λ k. at k (nat_lt k geo.leb_cnt) refl)
  where
    at : (k : ℕ) (b : Bool) → nat_lt k geo.leb_cnt ≡ b → (state_of v).holds k ≡ (if b then leb_of geo.leb_size image k else [])
    at k true e = IsLoaded-holds (shape_of geo) image (state_of v) loaded k (ltb-true k geo.leb_cnt e)
    at k false e =
        let past = ltb-false k geo.leb_cnt e in
        let count = loaded.leb_cnt in
        none_of v k (omega (arith, past, count))

-- LEB 0 begins as the image does
begins_in : (image : List ℕ) (size : ℕ) (node : Super) → 4096 ≤ size → BeginsWithSuper image node → BeginsWithSuper (leb_of size image 0) node
begins_in image size node large begins =
    let long = begins.room in
    let len = length-take size image in
    let front : 4096 ≤ length (take size image) = omega (arith, long, large, len) in
    let same : take 4096 (filled size (take size image)) ≡ take 4096 image = take-append-le 4096 (take size image) (replicate (size - length (take size image)) 255) front ∙ take-take 4096 size image large in
    let all = length-append (take size image) (replicate (size - length (take size image)) 255) in
    let P : List ℕ → Type 0 = λ b. IsSuper b begins.sqnum begins.group node in
    let Q : ℕ → Type 0 = λ at. BeginsWithSuper (filled size (take size (drop at image))) node in
    let start : 0 ≡ 0 * size = omega arith in
    subst Q start (record { room = omega (arith, front, all); sqnum = begins.sqnum; group = begins.group; is = subst P (sym same) begins.is })

-- so its contents have the superblock that it has
pub superblock_of : (image : List ℕ) (geo : RawGeometry) → HasVolume image geo → HasSuperblock (contents_of geo image) geo
superblock_of image geo volume =
    let has = volume.geometry in
    let size = has.in_range.leb_size.0 in
    let count = has.in_range.leb_cnt.0 in
    let P : Bool → Type 0 = λ b. BeginsWithSuper (if b then leb_of geo.leb_size image 0 else []) has.node in
    record {
      node = has.node;
      begins = subst P (sym (lt-ltb 0 geo.leb_cnt (omega (arith, count)))) (begins_in image geo.leb_size has.node (omega (arith, size)) has.begins);
      known = has.known;
      geometry = has.geometry;
      in_range = has.in_range;
    }

-- it has a LEB
pub some_lebs : (image : List ℕ) (geo : RawGeometry) (v : ImageVolume) → HasVolume image geo → IsLoaded (shape_of geo) image (state_of v) → 0 < (state_of v).leb_cnt
some_lebs image geo v volume loaded =
    let least = volume.geometry.in_range.leb_cnt.0 in
    let count = loaded.leb_cnt in
    omega (arith, least, count)

-- and the geometry that they tell is that of the volume
pub geometry_told : OneGeometry → (image : List ℕ) (geo g : RawGeometry) (v : ImageVolume) → HasVolume image geo → IsLoaded (shape_of geo) image (state_of v) → HasSuperblock (state_of v).holds g → IsGeometryOf g (state_of v)
geometry_told one image geo g v volume loaded other =
    let count = loaded.leb_cnt in
    let S : (ℕ → List ℕ) → Type 0 = λ holds. HasSuperblock holds geo in
    let has = subst S (sym (holds_are image geo v loaded)) (superblock_of image geo volume) in
    let P : RawGeometry → Type 0 = λ g. IsGeometryOf g (state_of v) in
    subst P (one (state_of v).holds geo g (leb_bytes_of v 0 (some_lebs image geo v volume loaded)) has other)
    (record { leb_size = sym loaded.leb_size; min_io = sym loaded.min_io; leb_cnt = omega (arith, count) })
