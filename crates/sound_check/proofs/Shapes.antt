-- The shape of a volume, and where its log lies.
use Rattle.std.proofs.Common.{◌≡◌, ◌∙◌, ◌<◌, ◌≤◌, ℕ, Bool, true, false, cond, Option, Some, None, refl, sym, arith}
use Rattle.std.proofs.lemmas.Bool.{ltb-false, ltb-true}
use Rattle.std.specs.Prelude.{nat_lt}
use Rattle.std.specs.Option.{option_or}
use Rattle.ubifs_base.specs.Areas.{lpt_first}
use Rattle.ubifs_base.specs.declared.raw_geometry.RawGeometry.{RawGeometry}
use Rattle.ubi_volume.specs.Geometry.{IsGeometryOf}
use Rattle.ubi_volume.specs.Volume.{SameShape, VolumeState}
use Rattle.media_sys.specs.declared.master.Master.{Master}
use Rattle.small_areas.specs.Addresses.{addresses_of, first_past}
use Rattle.small_areas.specs.declared.misplaced.Misplaced.{Misplaced}
use Rattle.bud_log.specs.Log.{IsLogLeb}

-- a geometry stays that of a volume of the same shape
pub geometry_kept : (geo : RawGeometry) (old now : VolumeState) → SameShape old now → IsGeometryOf geo old → IsGeometryOf geo now
geometry_kept geo old now shape is =
    let count = shape.leb_cnt in
    let fits = is.leb_cnt in
    record { leb_size = is.leb_size ∙ sym shape.leb_size; min_io = is.min_io ∙ sym shape.min_io; leb_cnt = omega (arith, count, fits) }

-- an address of an area that passes no limit lies in it
within : (lnum first past : ℕ) (low high : Bool) (rest : Option Misplaced) → nat_lt lnum first ≡ low → nat_lt lnum past ≡ high
    → option_or (cond low (Some (record { wanted = first; found = lnum })) (cond high None (Some (record { wanted = past; found = lnum })))) rest ≡ None → (first ≤ lnum) × (lnum < past)
within lnum first past true high rest l h none = absurd cc
within lnum first past false false rest l h none = absurd cc
within lnum first past false true rest l h none = (ltb-false lnum first l, ltb-true lnum past h)

-- the log of a master whose addresses lie in their areas begins in the log's
pub log_placed : (geo : RawGeometry) (master : Master) → first_past (addresses_of geo master) ≡ None → IsLogLeb geo master.log_lnum
log_placed geo master none =
    let at = within master.log_lnum 3 (lpt_first geo) (nat_lt master.log_lnum 3) (nat_lt master.log_lnum (lpt_first geo)) _ refl refl none in
    record { low = at.0; high = at.1 }
