-- LEBs that hold one node alone.
use Rattle.std.specs.Prelude.{◌≡◌, ◌⊎◌, ℕ, ◌≤◌, IsTrue, List, drop, length}
use Rattle.ubifs_base.specs.declared.raw_geometry.RawGeometry.{RawGeometry}
use Rattle.ubi_volume.specs.Volume.{Only, VolumeState}
use Rattle.leb_scan.specs.Text.{is_blank}
use Rattle.lpt_area.specs.Written.{in_units}
use Rattle.sound_image.specs.Laid.{BeginsAlone}

-- A LEB holds these bytes of a node, a gap to the end of a unit, and unwritten bytes; and a cut leaves that of it.
pub record HoldsAlone (geo : RawGeometry) (state : VolumeState) (lnum : ℕ) (bytes : List ℕ) : Type 0 where
  pub begins : BeginsAlone (state.holds lnum) bytes
  pub units : state.written lnum ≡ in_units geo.min_io (length bytes)
  pub behind : IsTrue (is_blank (drop (state.written lnum) (state.holds lnum)))
  pub settled : Only (state.holds lnum) (state.left_now lnum)

-- what a cut leaves of a LEB while a node is laid into it: what it might have left before, or the node alone
abbrev pub AloneUnderWay : VolumeState → ℕ → List ℕ → List ℕ → Type 0
AloneUnderWay old lnum bytes left = old.left_now lnum left ⊎ BeginsAlone left bytes

-- a node's bytes are so many, and the units that they take fit a LEB
pub record FitsUnits (geo : RawGeometry) (bytes : List ℕ) (len : ℕ) : Type 0 where
  pub long : length bytes ≡ len
  pub more : len ≤ in_units geo.min_io len
  pub fits : in_units geo.min_io len ≤ geo.leb_size
