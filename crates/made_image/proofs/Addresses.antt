-- The addresses of a master over filled main LEBs lie in their areas.
use Rattle.std.proofs.Common.{◌≡◌, ℕ, ◌-◌, ◌<◌, ◌≤◌, None, refl, arith}
use Rattle.std.proofs.lemmas.Bool.{le-ltb, lt-ltb}
use Rattle.ubifs_base.specs.Areas.{lpt_first, main_first, orph_first}
use Rattle.ubifs_base.specs.Geometry.{IsGeometry}
use Rattle.ubifs_base.specs.Properties.{ltab_len, nnode_len}
use Rattle.ubifs_base.specs.declared.raw_geometry.RawGeometry.{RawGeometry}
use Rattle.media_sys.specs.declared.master.Master.{Master}
use Rattle.small_areas.specs.Addresses.{addresses_of, first_past, in_area, in_leb, past_limit}

in_its_area : (lnum first past : ℕ) → first ≤ lnum → lnum < past → past_limit (in_area lnum first past) ≡ None
in_its_area lnum first past low high = rw (le-ltb lnum first low, lt-ltb lnum past high) refl

in_its_leb : (offs most : ℕ) → offs ≤ most → past_limit (in_leb offs most) ≡ None
in_its_leb offs most low = rw (le-ltb most offs low) refl

-- where the addresses of a master lie
pub record AreInAreas (geo : RawGeometry) (master : Master) : Type 0 where
  pub log : master.log_lnum ≡ 3
  pub root_low : main_first geo ≤ master.root_lnum
  pub root_high : master.root_lnum < geo.leb_cnt
  pub root_offs : master.root_offs ≤ geo.leb_size - master.root_len
  pub head_low : main_first geo ≤ master.ihead_lnum
  pub head_high : master.ihead_lnum < geo.leb_cnt
  pub head_offs : master.ihead_offs ≤ geo.leb_size
  pub lpt_low : lpt_first geo ≤ master.lpt_lnum
  pub lpt_high : master.lpt_lnum < orph_first geo
  pub lpt_offs : master.lpt_offs ≤ geo.leb_size - nnode_len geo
  pub ltab_low : lpt_first geo ≤ master.ltab_lnum
  pub ltab_high : master.ltab_lnum < orph_first geo
  pub ltab_offs : master.ltab_offs ≤ geo.leb_size - ltab_len geo

pub none_past : (geo : RawGeometry) (master : Master) → IsGeometry geo → AreInAreas geo master → first_past (addresses_of geo master) ≡ None
none_past geo master g h =
    let log = g.log_lebs.0 in
    let at = h.log in
    rw (
      in_its_area master.log_lnum 3 (lpt_first geo) (omega (arith, at)) (omega (arith, log, at)),
      in_its_area master.root_lnum (main_first geo) geo.leb_cnt h.root_low h.root_high,
      in_its_leb master.root_offs (geo.leb_size - master.root_len) h.root_offs,
      in_its_area master.ihead_lnum (main_first geo) geo.leb_cnt h.head_low h.head_high,
      in_its_leb master.ihead_offs geo.leb_size h.head_offs,
      in_its_area master.lpt_lnum (lpt_first geo) (orph_first geo) h.lpt_low h.lpt_high,
      in_its_leb master.lpt_offs (geo.leb_size - nnode_len geo) h.lpt_offs,
      in_its_area master.ltab_lnum (lpt_first geo) (orph_first geo) h.ltab_low h.ltab_high,
      in_its_leb master.ltab_offs (geo.leb_size - ltab_len geo) h.ltab_offs,
    ) refl
