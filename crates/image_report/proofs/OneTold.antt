-- Of an image one thing is told.
use Rattle.std.proofs.Common.{◌≡◌, ℕ, zero, suc, ◌+◌, ◌-◌, ◌*◌, ◌<◌, Bool, true, false, List, [], ◌∷◌, ◌++◌, length, take, drop, replicate, get_or, inl, inr, ap, sym, subst, ◌∙◌, arith, get_or-drop}
use Rattle.std.specs.Prelude.{nat_lt, if◌then◌else◌}
use Rattle.ubifs_base.specs.NodeLaws.{IsBytes}
use Rattle.ubifs_base.specs.declared.raw_geometry.RawGeometry.{RawGeometry}
use Rattle.ubi_volume.specs.Loading.{leb_of}
use Rattle.media_sys.specs.declared.master.Master.{Master}
use Rattle.small_areas.specs.MasterLaws.{take_bytes}
use Rattle.leaf_map.specs.SpaceFound.{space_found}
use Rattle.sound_image.specs.Breaches.{IsFirstBreach}
use Rattle.sound_image.specs.Image.{Image, parts_of}
use Rattle.sound_image.specs.Sound.{SoundImage}
use Rattle.sound_image.specs.Summary.{is_clean, main_area_of, space_of_image}
use Rattle.sound_image.specs.declared.breach.Breach.{Breach}
use Rattle.image_dump.specs.Opening.{HasGeometry, HasVolume, IsFaulty, contents_of}
use Rattle.image_dump.specs.declared.fault.ImageFault.{ImageFault}
use Rattle.image_dump.specs.declared.fault.ImageFault.TheVariants as fault
use Rattle.image_report.specs.Lines.{sound_line}
use Rattle.fs_model.specs.declared.space.Space.{Space}
use Rattle.fs_model.specs.Files.{Tree}
use Rattle.image_report.specs.Told.{HoldsSoundImage, HoldsVolume, IsUnsound, TellsSound}

-- what the crates below say: no image is that of a volume and faulty, and it has one geometry; sound contents have no first breach, and say one image
abbrev pub NeverFaulty : Type 0
NeverFaulty = (image : List ℕ) (geo : RawGeometry) (why : ImageFault) → IsBytes image → HasVolume image geo → IsFaulty image why → why ≡ fault.Memory

abbrev pub OneShape : Type 0
OneShape = (image : List ℕ) (a b : RawGeometry) → IsBytes image → HasGeometry image a → HasGeometry image b → a ≡ b

abbrev pub NoBreach : Type 0
NoBreach = (contents : ℕ → List ℕ) (image : Image) (a : Breach) → ((k : ℕ) → IsBytes (contents k)) → SoundImage contents image → IsFirstBreach contents a → ⊥

abbrev pub OneImage : Type 0
OneImage = (contents : ℕ → List ℕ) (a b : Image) → ((k : ℕ) → IsBytes (contents k)) → SoundImage contents a → SoundImage contents b
    → (a.latest.master ≡ b.latest.master) × (record b { latest = a.latest } ≡ a)

-- parts of bytes are bytes
cons_bytes : (x : ℕ) (bytes : List ℕ) → x < 256 → IsBytes bytes → (i : ℕ) → get_or (x ∷ bytes) i 0 < 256
cons_bytes x bytes first rest zero = first
cons_bytes x bytes first rest (suc i) = rest i

erased_bytes : (n : ℕ) → IsBytes (replicate n 255)
erased_bytes zero = λ i. omega arith
erased_bytes (suc n) = cons_bytes 255 (replicate n 255) (omega arith) (erased_bytes n)

pub joined_bytes : (front back : List ℕ) → IsBytes front → IsBytes back → IsBytes (front ++ back)
joined_bytes [] back a b = b
joined_bytes (x ∷ front) back a b = cons_bytes x (front ++ back) (a 0) (joined_bytes front back (λ i. a (suc i)) b)

leb_bytes : (size : ℕ) (image : List ℕ) (lnum : ℕ) → IsBytes image → IsBytes (leb_of size image lnum)
leb_bytes size image lnum fits =
    let rest : IsBytes (drop (lnum * size) image) = λ i. rw get_or-drop (fits (lnum * size + i)) in
    let front = take_bytes size (drop (lnum * size) image) rest in
    joined_bytes (take size (drop (lnum * size) image)) (replicate (size - length (take size (drop (lnum * size) image))) 255) front
    (erased_bytes (size - length (take size (drop (lnum * size) image))))

pub contents_bytes : (geo : RawGeometry) (image : List ℕ) → IsBytes image → (lnum : ℕ) → IsBytes (contents_of geo image lnum)
contents_bytes geo image fits lnum = by (nat_lt lnum geo.leb_cnt)
  where
    by : (b : Bool) → IsBytes (if b then leb_of geo.leb_size image lnum else [])
    by true = leb_bytes geo.leb_size image lnum fits
    by false = λ i. omega arith

-- bytes that hold a sound image aren't unsound
pub never_unsound : NeverFaulty → OneShape → NoBreach → (bytes line : List ℕ) (image : Image) → IsBytes bytes → HoldsSoundImage bytes image → IsUnsound bytes line → ⊥
never_unsound faulty shape breach bytes line image fits held (inl (why, is, not_memory, told)) = not_memory (faulty bytes image.geo why fits held.volume is)
never_unsound faulty shape breach bytes line image fits held (inr (geo, first, volume, is, told)) =
    let P : RawGeometry → Type 0 = λ g. IsFirstBreach (contents_of g bytes) first in
    breach (contents_of image.geo bytes) image first (contents_bytes image.geo bytes fits) held.sound (subst P (shape bytes geo image.geo fits volume.geometry held.volume.geometry) is)

-- the line of an image, which takes of the latest master what it says
abbrev line_of_image : Image → List ℕ
line_of_image image = sound_line (is_clean image) (space_of_image image)

same_line : (a b : Image) → a.latest.master ≡ b.latest.master → record b { latest = a.latest } ≡ a → line_of_image a ≡ line_of_image b
same_line a b master rest =
    let by_master : Master → List ℕ = λ m. sound_line (is_clean b) (space_found (main_area_of b) (record (parts_of b) { highest = m.highest_inum })) in
    sym (ap line_of_image rest) ∙ ap by_master master

-- a sound image is told by one line
pub one_line : OneShape → OneImage → (bytes a b : List ℕ) → IsBytes bytes → TellsSound bytes a → TellsSound bytes b → a ≡ b
one_line shape one bytes a b fits first second =
    let P : RawGeometry → Type 0 = λ g. SoundImage (contents_of g bytes) second.0 in
    let same = shape bytes second.0.geo first.0.geo fits second.1.volume.geometry first.1.volume.geometry in
    let image = one (contents_of first.0.geo bytes) first.0 second.0 (contents_bytes first.0.geo bytes fits) first.1.sound (subst P same second.1.sound) in
    first.2 ∙ same_line first.0 second.0 image.0 image.1 ∙ sym second.2

-- and has one space
same_space : (a b : Image) → a.latest.master ≡ b.latest.master → record b { latest = a.latest } ≡ a → space_of_image a ≡ space_of_image b
same_space a b master rest =
    let by_master : Master → Space = λ m. space_found (main_area_of b) (record (parts_of b) { highest = m.highest_inum }) in
    sym (ap space_of_image rest) ∙ ap by_master master

pub one_space : OneShape → OneImage → (bytes : List ℕ) (a b : RawGeometry) (s t : Tree) (x y : Space) → IsBytes bytes → HoldsVolume bytes a s x → HoldsVolume bytes b t y → x ≡ y
one_space shape one bytes a b s t x y fits first second =
    let here = first.files in
    let there = second.files in
    let P : RawGeometry → Type 0 = λ g. SoundImage (contents_of g bytes) there.image in
    let same = shape bytes there.image.geo here.image.geo fits there.holds.volume.geometry here.holds.volume.geometry in
    let image = one (contents_of here.image.geo bytes) here.image there.image (contents_bytes here.image.geo bytes fits) here.holds.sound (subst P same there.holds.sound) in
    first.space_is ∙ same_space here.image there.image image.0 image.1 ∙ sym second.space_is
