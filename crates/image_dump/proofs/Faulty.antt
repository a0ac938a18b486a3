-- What is wrong with an image, step by step.
use Rattle.std.proofs.Common.{◌≡◌, ℕ, ◌≤◌, List, length, take, sym, subst, inl, inr}
use Rattle.ubifs_base.specs.declared.raw_geometry.RawGeometry.{RawGeometry}
use Rattle.ubi_volume.specs.declared.fault.LoadFault.{LoadFault}
use Rattle.ubi_volume.specs.declared.fault.LoadFault.TheVariants as load
use Rattle.image_volume.specs.ImageVolume.{IsMisfit}
use Rattle.media_sys.specs.SystemNode.{IsSuper}
use Rattle.media_sys.specs.declared.super_node.Super.{Super}
use Rattle.sound_image.specs.Superblock.{BeginsWithSuper}
use Rattle.image_dump.specs.Opening.{HasGeometry, IsFaulty, fault_of, shape_of}

-- no superblock node in front
pub no_super : (image front : List ℕ) → front ≡ take 4096 image → ((sqnum group : ℕ) (node : Super) → IsSuper front sqnum group node → ⊥) → (node : Super) → BeginsWithSuper image node → ⊥
no_super image front e none node begins =
    let P : List ℕ → Type 0 = λ b. IsSuper b begins.sqnum begins.group node in
    none begins.sqnum begins.group node (subst P (sym e) begins.is)

-- a superblock node in front
pub begins_of : (image front : List ℕ) (node : Super) → 4096 ≤ length image → front ≡ take 4096 image → (sqnum : ℕ) × (group : ℕ) × IsSuper front sqnum group node → BeginsWithSuper image node
begins_of image front node long e found =
    let P : List ℕ → Type 0 = λ b. IsSuper b found.0 found.1 node in
    record { room = long; sqnum = found.0; group = found.1; is = subst P e found.2 }

-- an image that isn't a volume of the shape that it tells is faulty
pub misfit : (image : List ℕ) (geo : RawGeometry) (why : LoadFault) → HasGeometry image geo → IsMisfit (shape_of geo) image why → IsFaulty image (fault_of why)
misfit image geo load.Memory has never = tt
misfit image geo (load.Short len) has (inl few, is) = (is, inl few)
misfit image geo (load.Short len) has (inr part, is) = (is, inr (geo, has, part))
misfit image geo (load.Long len most) has h = (geo, has, h.0, h.1, h.2)
