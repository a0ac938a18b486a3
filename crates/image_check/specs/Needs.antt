-- The features that bodies of nodes need.
use Rattle.std.specs.Prelude.{◌≡◌, ◌⊎◌, ℕ, List}
use Rattle.media_sys.specs.declared.feature.Feature.{Feature}
use Rattle.media_sys.specs.declared.feature.Feature.TheVariants.{Compressed, Attributes}
use Rattle.sound_image.specs.Frames.{HasAttributes, IsCompressed}

-- a node of this type with this body needs a feature that isn't known here
abbrev pub IsNeededBy : ℕ → List ℕ → Feature → Type 0
IsNeededBy kind body what =
    ((what ≡ Compressed) × (kind ≡ 1) × IsCompressed body)
    ⊎ ((what ≡ Attributes) × ((kind ≡ 3) ⊎ ((kind ≡ 0) × HasAttributes body)))
