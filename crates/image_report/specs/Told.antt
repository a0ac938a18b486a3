-- What is told of the bytes of an image.
use Rattle.std.specs.Prelude.{◌≡◌, ◌⊎◌, ℕ, List}
use Rattle.ubifs_base.specs.RawOf.{raw_of}
use Rattle.ubifs_base.specs.declared.raw_geometry.RawGeometry.{RawGeometry}
use Rattle.fs_model.specs.declared.space.Space.{Space}
use Rattle.fs_model.specs.Files.{Tree}
use Rattle.fs_model.specs.Proper.{IsProper}
use Rattle.recovered_tree.specs.Files.{files_of_image}
use Rattle.sound_image.specs.Breaches.{IsFirstBreach}
use Rattle.sound_image.specs.Image.{Image}
use Rattle.sound_image.specs.Sound.{SoundImage}
use Rattle.sound_image.specs.Summary.{is_clean, space_of_image}
use Rattle.sound_image.specs.declared.breach.Breach.{Breach}
use Rattle.image_dump.specs.Listing.{IsListing}
use Rattle.image_dump.specs.Opening.{HasVolume, IsFaulty, contents_of}
use Rattle.image_dump.specs.declared.fault.ImageFault.{ImageFault}
use Rattle.image_dump.specs.declared.fault.ImageFault.TheVariants as fault
use Rattle.image_report.specs.Lines.{breach_line, fault_line, sound_line}
use Rattle.image_report.specs.declared.files.ImageFiles.{ImageFiles}
use Rattle.image_report.specs.declared.files.ImageFiles.TheVariants as read
use Rattle.image_report.specs.declared.texts.ImageText.{ImageText}
use Rattle.image_report.specs.declared.texts.ImageText.TheVariants.{Unsound, Sound}

-- The bytes are those of a volume, whose contents are a sound image that says this.
pub record HoldsSoundImage (bytes : List ℕ) (image : Image) : Type 0 where
  pub volume : HasVolume bytes image.geo
  pub sound : SoundImage (contents_of image.geo bytes) image

-- The bytes are those of no volume, or the contents of their volume aren't sound; the line tells what is wrong first.
abbrev pub IsUnsound : List ℕ → List ℕ → Type 0
IsUnsound bytes line =
    ((why : ImageFault) × IsFaulty bytes why × (why ≡ fault.Memory → ⊥) × (line ≡ fault_line why))
    ⊎ ((geo : RawGeometry) × (breach : Breach) × HasVolume bytes geo × IsFirstBreach (contents_of geo bytes) breach × (line ≡ breach_line breach))

-- a sound image, and the line that tells whether it is clean, and its space once it is recovered and before any commit
abbrev pub TellsSound : List ℕ → List ℕ → Type 0
TellsSound bytes text = (image : Image) × HoldsSoundImage bytes image × (text ≡ sound_line (is_clean image) (space_of_image image))

-- a sound image, and the listing of its LEBs
abbrev pub ListsSound : List ℕ → List ℕ → Type 0
ListsSound bytes text = (image : Image) × HoldsSoundImage bytes image × IsListing image.geo (contents_of image.geo bytes) image.geo.leb_cnt text

-- what is wrong with bytes, or a text of which this holds
abbrev pub IsReportText : (List ℕ → Type 0) → List ℕ → ImageText → Type 0
IsReportText Is bytes (Unsound line) = IsUnsound bytes line.items
IsReportText Is bytes (Sound text) = Is text.items

-- The bytes hold a sound image of this geometry, and this is the tree of which a mount makes its files. It is proper.
pub record HoldsFiles (bytes : List ℕ) (geo : RawGeometry) (tree : Tree) : Type 0 where
  pub image : Image
  pub holds : HoldsSoundImage bytes image
  pub geometry : image.geo ≡ geo
  pub files : tree ≡ files_of_image image
  pub proper : IsProper tree

-- The same, and this is the space of the image once it is recovered, before any commit.
pub record HoldsVolume (bytes : List ℕ) (geo : RawGeometry) (tree : Tree) (space : Space) : Type 0 where
  pub files : HoldsFiles bytes geo tree
  pub space_is : space ≡ space_of_image files.image

-- what is wrong with bytes, or what they hold
abbrev pub AreImageFiles : List ℕ → ImageFiles → Type 0
AreImageFiles bytes (read.Unsound line) = IsUnsound bytes line.items
AreImageFiles bytes (read.Sound geometry tree space) = HoldsVolume bytes (raw_of geometry) tree space
