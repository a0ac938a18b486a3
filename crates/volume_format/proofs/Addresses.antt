-- The addresses of a new file system's master lie in their areas.
use Rattle.std.proofs.Common.{◌≡◌, ℕ, ◌+◌, ◌-◌, ◌<◌, ◌≤◌, None, refl, arith}
use Rattle.std.proofs.lemmas.Bool.{le-ltb, lt-ltb}
use Rattle.ubifs_base.specs.Areas.{lpt_first, main_first, main_lebs, orph_first}
use Rattle.ubifs_base.specs.Geometry.{IsGeometry}
use Rattle.ubifs_base.specs.Properties.{ltab_len, nnode_len}
use Rattle.ubifs_base.specs.declared.raw_geometry.RawGeometry.{RawGeometry}
use Rattle.lpt_area.specs.Written.{in_units}
use Rattle.lpt_area.specs.declared.lpt_at.LptAt.{LptAt}
use Rattle.small_areas.specs.Addresses.{addresses_of, first_past, in_area, in_leb, past_limit}
use Rattle.volume_format.specs.Format.{new_master}

in_its_area : (lnum first past : ℕ) → first ≤ lnum → lnum < past → past_limit (in_area lnum first past) ≡ None
in_its_area lnum first past low high = rw (le-ltb lnum first low, lt-ltb lnum past high) refl

in_its_leb : (offs most : ℕ) → offs ≤ most → past_limit (in_leb offs most) ≡ None
in_its_leb offs most low = rw (le-ltb most offs low) refl

-- where a tree of properties stands: in its area, with its root and its ltab inside the LEB
pub record IsInArea (geo : RawGeometry) (at : LptAt) : Type 0 where
  pub low : lpt_first geo ≤ at.lnum
  pub high : at.lnum < orph_first geo
  pub ltab : at.ltab_lnum ≡ at.lnum
  pub root : at.offs ≤ geo.leb_size - nnode_len geo
  pub table : at.ltab_offs ≤ geo.leb_size - ltab_len geo

pub new_placed : (geo : RawGeometry) (at : LptAt) → IsGeometry geo → 3 ≤ main_lebs geo → in_units geo.min_io 48 ≤ geo.leb_size → IsInArea geo at → first_past (addresses_of geo (new_master geo at)) ≡ None
new_placed geo at g three fits h =
    let log = g.log_lebs.0 in
    let low = g.leb_size.0 in
    let left = h.low in
    let right = h.high in
    let table = h.ltab in
    rw (
      in_its_area 3 3 (lpt_first geo) (omega arith) (omega (arith, log)),
      in_its_area (main_first geo + 1) (main_first geo) geo.leb_cnt (omega arith) (omega (arith, three)),
      in_its_leb 0 (geo.leb_size - 48) (omega arith),
      in_its_leb (in_units geo.min_io 48) geo.leb_size fits,
      in_its_area at.lnum (lpt_first geo) (orph_first geo) h.low h.high,
      in_its_leb at.offs (geo.leb_size - nnode_len geo) h.root,
      in_its_area at.ltab_lnum (lpt_first geo) (orph_first geo) (omega (arith, left, table)) (omega (arith, right, table)),
      in_its_leb at.ltab_offs (geo.leb_size - ltab_len geo) h.table,
    ) refl
