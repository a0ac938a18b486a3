-- Which bytes are an image of a volume, and what is wrong with those that aren't.
use Rattle.std.specs.Prelude.{◌≡◌, ◌≢◌, ◌⊎◌, ℕ, ◌*◌, ◌%◌, ◌<◌, ◌≤◌, nat_lt, if◌then◌else◌, List, [], length, Some, ⊤}
use Rattle.ubifs_base.specs.RawOf.{raw_of}
use Rattle.ubifs_base.specs.declared.raw_geometry.RawGeometry.{RawGeometry}
use Rattle.ubi_volume.specs.Loading.{Fits, IsLoaded, IsLong, leb_of}
use Rattle.ubi_volume.specs.declared.fault.LoadFault.{LoadFault}
use Rattle.ubi_volume.specs.declared.fault.LoadFault.TheVariants as load
use Rattle.ubi_volume.specs.declared.mem_volume.VolShape.{VolShape}
use Rattle.image_volume.specs.ImageVolume.{state_of}
use Rattle.media_sys.specs.Features.{features_of, first_of}
use Rattle.media_sys.specs.declared.super_node.Super.{Super}
use Rattle.sound_image.specs.Breaches.{IsWrongField}
use Rattle.sound_image.specs.Superblock.{BeginsWithSuper, HasSuperblock}
use Rattle.image_dump.specs.declared.fault.ImageFault.{ImageFault}
use Rattle.image_dump.specs.declared.fault.ImageFault.TheVariants as fault
use Rattle.image_dump.specs.declared.opening.Opened.{Opened}

-- an image begins with a superblock, as a LEB 0 does, and its geometry is this
abbrev pub HasGeometry : List ℕ → RawGeometry → Type 0
HasGeometry image geo = HasSuperblock (λ lnum. image) geo

-- the volume that a geometry speaks of
abbrev pub shape_of : RawGeometry → VolShape
shape_of geo = record { leb_size = geo.leb_size; min_io = geo.min_io; leb_cnt = geo.leb_cnt }

-- what an image says of a volume of this geometry: the bytes of its LEBs, and none of LEBs that it hasn't
abbrev pub contents_of : RawGeometry → List ℕ → ℕ → List ℕ
contents_of geo image lnum = if nat_lt lnum geo.leb_cnt then leb_of geo.leb_size image lnum else []

-- it has such a superblock, whole LEBs, and nothing behind the volume that isn't erased
pub record HasVolume (image : List ℕ) (geo : RawGeometry) : Type 0 where
  pub geometry : HasGeometry image geo
  pub fits : Fits (shape_of geo) image

-- why an image isn't a volume of its shape, as what is wrong with it
abbrev pub fault_of : LoadFault → ImageFault
fault_of load.Memory = fault.Memory
fault_of (load.Short len) = fault.Short len
fault_of (load.Long len most) = fault.Long len most

-- What is wrong with an image: the first of these, in this order. Only want of memory says nothing of it.
--   fewer than 4,096 bytes; a superblock that isn't there, needs a feature, or has a field out of range; a part of a LEB, or a byte
--   behind the volume
abbrev pub IsFaulty : List ℕ → ImageFault → Type 0
IsFaulty image fault.Memory = ⊤
IsFaulty image (fault.Short len) = (len ≡ length image)
    × ((length image < 4096) ⊎ ((geo : RawGeometry) × HasGeometry image geo × (length image % geo.leb_size ≢ 0)))
IsFaulty image (fault.Super field) = (4096 ≤ length image) × IsWrongField image field
IsFaulty image (fault.Feature what lnum offs) = (node : Super) × BeginsWithSuper image node × (first_of (features_of node) ≡ Some what) × (lnum ≡ 0) × (offs ≡ 0)
IsFaulty image (fault.Long len most) = (geo : RawGeometry) × HasGeometry image geo × IsLong (shape_of geo) image
    × (len ≡ length image) × (most ≡ geo.leb_size * geo.leb_cnt)

-- the volume of an image, and its geometry
pub record IsImageOpened (image : List ℕ) (opened : Opened) : Type 0 where
  pub volume : HasVolume image (raw_of opened.geometry)
  pub loaded : IsLoaded (shape_of (raw_of opened.geometry)) image (state_of opened.volume)
