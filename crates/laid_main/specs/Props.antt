-- The properties of main LEBs into which nodes were laid one behind another.
use Rattle.std.specs.Prelude.{◌≡◌, ℕ, ◌+◌, ◌-◌, ◌%◌, ◌<◌, ◌≤◌, Bool, true, false, List, ◌++◌, All, length, map, replicate}
use Rattle.ubifs_base.specs.Areas.{main_lebs}
use Rattle.ubifs_base.specs.declared.raw_geometry.RawGeometry.{RawGeometry}
use Rattle.media_lpt.specs.declared.lprop.Lprop.{Lprop}
use Rattle.lpt_area.specs.Tree.{empty_leb}
use Rattle.lpt_area.specs.Written.{in_units}

-- what is left of a main LEB behind so many bytes and their units
abbrev pub prop_behind : RawGeometry → ℕ → Bool → Lprop
prop_behind geo len is_index = record { free = geo.leb_size - in_units geo.min_io len; dirty = in_units geo.min_io len - len; index = is_index }

-- The properties of all main LEBs, of which the first have leaves and the next ones index nodes, so many bytes each. The others are empty.
abbrev pub laid_props : RawGeometry → List ℕ → List ℕ → List Lprop
laid_props geo leaves index =
    map (λ bytes. prop_behind geo bytes false) leaves
    ++ (map (λ bytes. prop_behind geo bytes true) index ++ replicate (main_lebs geo - (length leaves + length index)) (empty_leb geo))

-- bytes that can be taken of LEBs: some of each, whole words, at most the LEB
abbrev pub AreBytesTaken : RawGeometry → List ℕ → Type 0
AreBytesTaken geo used = All (λ bytes. (0 < bytes) × (bytes % 8 ≡ 0) × (bytes ≤ geo.leb_size)) used
