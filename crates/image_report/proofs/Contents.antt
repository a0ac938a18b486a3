-- What the volume of an image holds.
use Rattle.std.proofs.Common.{◌≡◌, ℕ, ◌<◌, List, sym, subst, inl, inr, arith}
use Rattle.std.proofs.lemmas.Bool.{cases_lt}
use Rattle.ubifs_base.specs.NodeLaws.{IsBytes}
use Rattle.ubifs_base.specs.declared.raw_geometry.RawGeometry.{RawGeometry}
use Rattle.ubifs_base.specs.RawOf.{raw_of}
use Rattle.ubi_volume.specs.FoundLaws.{IsLoaded-keeps}
use Rattle.ubi_volume.specs.Loading.{IsLoaded}
use Rattle.ubi_volume.specs.Volume.{Keeps, SameShape}
use Rattle.image_volume.specs.ImageVolume.{state_of}
use Rattle.image_volume.specs.ImageVolumeLaws.{leb_bytes_of, none_of, unbroken_of}
use Rattle.image_volume.specs.declared.image_volume.ImageVolume.{ImageVolume}
use Rattle.sound_image.specs.Breaches.{IsFirstBreach}
use Rattle.sound_image.specs.Image.{Image}
use Rattle.sound_image.specs.Sound.{SoundImage}
use Rattle.sound_image.specs.Superblock.{HasSuperblock}
use Rattle.sound_image.specs.declared.breach.Breach.{Breach}
use Rattle.fs_model.specs.Proper.{IsProper}
use Rattle.recovered_tree.specs.Files.{files_of_image}
use Rattle.recovered_tree.specs.Checked.{HasShapeOfImage}
use Rattle.image_dump.specs.ContentsLaws.{OneGeometry, holds_are, superblock_of, some_lebs, geometry_told}
use Rattle.image_dump.specs.Listing.{IsListing}
use Rattle.image_dump.specs.Opening.{HasVolume, IsImageOpened, contents_of, shape_of}
use Rattle.image_dump.specs.declared.opening.Opened.{Opened}
use Rattle.image_report.specs.Lines.{breach_line}
use Rattle.image_report.specs.Told.{HoldsSoundImage, IsUnsound}

-- the volume of an image has the shape that its superblock tells
pub shape_at : OneGeometry → (image : List ℕ) (geo : RawGeometry) (v : ImageVolume) → HasVolume image geo → IsLoaded (shape_of geo) image (state_of v) → HasShapeOfImage (state_of v)
shape_at one image geo v volume loaded = record { some = some_lebs image geo v volume loaded; shape = λ g other. geometry_told one image geo g v volume loaded other }

-- after a call that keeps all it is still the volume of the image
pub still_opened : (image : List ℕ) (opened : Opened) (new : ImageVolume) → IsImageOpened image opened → Keeps (state_of opened.volume) (state_of new) → SameShape (state_of opened.volume) (state_of new)
    → (state_of new).sure → (state_of new).faults ≡ (state_of opened.volume).faults → IsImageOpened image (record { volume = new; geometry = opened.geometry })
still_opened image opened new is keeps shape sure faults = record {
  volume = is.volume;
  loaded = IsLoaded-keeps (shape_of (raw_of opened.geometry)) image (state_of opened.volume) (state_of new) is.loaded shape keeps sure (unbroken_of new sure) faults;
}

-- a sound image that it holds is one that the bytes hold, and of its geometry
pub held : OneGeometry → (bytes : List ℕ) (geo : RawGeometry) (v : ImageVolume) (image : Image) → HasVolume bytes geo → IsLoaded (shape_of geo) bytes (state_of v)
    → SoundImage (state_of v).holds image → HoldsSoundImage bytes image × (image.geo ≡ geo)
held one bytes geo v image volume loaded sound =
    let least = volume.geometry.in_range.leb_cnt.0 in
    let count = loaded.leb_cnt in
    let some : 0 < (state_of v).leb_cnt = omega (arith, least, count) in
    let same_holds = holds_are bytes geo v loaded in
    let S : (ℕ → List ℕ) → Type 0 = λ holds. HasSuperblock holds geo in
    let same : image.geo ≡ geo = one (state_of v).holds image.geo geo (leb_bytes_of v 0 some) sound.superblock (subst S (sym same_holds) (superblock_of bytes geo volume)) in
    let P : (ℕ → List ℕ) → Type 0 = λ holds. SoundImage holds image in
    let Q : RawGeometry → Type 0 = λ g. HasVolume bytes g in
    let R : RawGeometry → Type 0 = λ g. SoundImage (contents_of g bytes) image in
    (record { volume = subst Q (sym same) volume; sound = subst R (sym same) (subst P same_holds sound) }, same)

-- its first breach is that of the bytes
pub broken : (bytes : List ℕ) (geo : RawGeometry) (v : ImageVolume) (breach : Breach) → HasVolume bytes geo → IsLoaded (shape_of geo) bytes (state_of v)
    → IsFirstBreach (state_of v).holds breach → (line : List ℕ) → line ≡ breach_line breach → IsUnsound bytes line
broken bytes geo v breach volume loaded first line is =
    let P : (ℕ → List ℕ) → Type 0 = λ holds. IsFirstBreach holds breach in
    inr (geo, breach, volume, subst P (holds_are bytes geo v loaded) first, is)

-- and its listing is theirs
pub listed_of : (bytes : List ℕ) (geo : RawGeometry) (v : ImageVolume) (out text : List ℕ) → IsLoaded (shape_of geo) bytes (state_of v) → IsListing geo (state_of v).holds (state_of v).leb_cnt text
    → out ≡ text → IsListing geo (contents_of geo bytes) geo.leb_cnt out
listed_of bytes geo v out text loaded listing is =
    let P : (ℕ → List ℕ) → Type 0 = λ holds. IsListing geo holds (state_of v).leb_cnt text in
    let Q : ℕ → Type 0 = λ n. IsListing geo (contents_of geo bytes) n text in
    let R : List ℕ → Type 0 = λ t. IsListing geo (contents_of geo bytes) geo.leb_cnt t in
    subst R (sym is) (subst Q loaded.leb_cnt (subst P (holds_are bytes geo v loaded) listing))

-- what recovered_tree says: the files of a sound image are a proper tree
abbrev pub ProperFiles : Type 0
ProperFiles = (contents : ℕ → List ℕ) (image : Image) → ((k : ℕ) → IsBytes (contents k)) → SoundImage contents image → IsProper (files_of_image image)

-- LEBs that the volume hasn't have no bytes
pub all_bytes : (v : ImageVolume) (k : ℕ) → IsBytes ((state_of v).holds k)
all_bytes v k = elim (cases_lt k (state_of v).leb_cnt) [
  | inl less ↦ leb_bytes_of v k less
  | inr high ↦ let P : List ℕ → Type 0 = λ bytes. IsBytes bytes in subst P (sym (none_of v k high)) (λ i. omega arith)
]

-- the files of a sound image that it holds are proper
pub proper_in : ProperFiles → (v : ImageVolume) (image : Image) → SoundImage (state_of v).holds image → IsProper (files_of_image image)
proper_in proper v image sound = proper (state_of v).holds image (all_bytes v) sound
