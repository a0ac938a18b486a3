-- What is known of bytes that were looked at.
use Rattle.std.specs.Prelude.{◌≡◌, ℕ, List}
use Rattle.ubifs_base.specs.RawOf.{raw_of}
use Rattle.sound_image.specs.Image.{Image}
use Rattle.recovered_tree.specs.Checked.{told_of}
use Rattle.image_dump.specs.Opening.{IsImageOpened}
use Rattle.image_report.specs.Told.{HoldsSoundImage, IsUnsound}
use Rattle.image_report.specs.declared.looking.Looked.{Looked as LookedAt}
use Rattle.image_report.specs.declared.looking.Looked.TheVariants.{Unsound, Sound}

-- what is wrong with them first; or their volume with its geometry, of which what is told of a sound image was told
abbrev pub IsLooked : List ℕ → LookedAt → Type 0
IsLooked bytes (Unsound line) = IsUnsound bytes line.items
IsLooked bytes (Sound opened sound) =
    IsImageOpened bytes opened × ((image : Image) × HoldsSoundImage bytes image × (image.geo ≡ raw_of opened.geometry) × (sound ≡ told_of image))
