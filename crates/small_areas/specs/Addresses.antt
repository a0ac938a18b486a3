-- Where the addresses of a master may lie.
use Rattle.std.specs.Prelude.{ℕ, ◌-◌, nat_lt, if◌then◌else◌, List, [], ◌∷◌, Option, Some, None}
use Rattle.std.specs.Option.{option_or}
use Rattle.ubifs_base.specs.Areas.{lpt_first, orph_first, main_first}
use Rattle.ubifs_base.specs.Properties.{nnode_len, ltab_len}
use Rattle.ubifs_base.specs.declared.raw_geometry.RawGeometry.{RawGeometry}
use Rattle.media_sys.specs.declared.master.Master.{Master}
use Rattle.small_areas.specs.declared.misplaced.Misplaced.{Misplaced}

-- an address that is tested: a LEB with the first LEB of its area and the one behind its last, or an offset with the greatest that it may be
pub data Address : Type 0 where
  in_area : (lnum first past : ℕ) → Address
  in_leb : (offs most : ℕ) → Address

-- the addresses of a master, in the order of its fields
abbrev pub addresses_of : RawGeometry → Master → List Address
addresses_of geo master =
    in_area master.log_lnum 3 (lpt_first geo)
    ∷ in_area master.root_lnum (main_first geo) geo.leb_cnt
    ∷ in_leb master.root_offs (geo.leb_size - master.root_len)
    ∷ in_area master.ihead_lnum (main_first geo) geo.leb_cnt
    ∷ in_leb master.ihead_offs geo.leb_size
    ∷ in_area master.lpt_lnum (lpt_first geo) (orph_first geo)
    ∷ in_leb master.lpt_offs (geo.leb_size - nnode_len geo)
    ∷ in_area master.ltab_lnum (lpt_first geo) (orph_first geo)
    ∷ in_leb master.ltab_offs (geo.leb_size - ltab_len geo)
    ∷ []

-- the limit that an address passes: the first LEB of its area where it lies before it, and else the one behind the last; or the greatest offset
abbrev pub past_limit : Address → Option Misplaced
past_limit (in_area lnum first past) =
    if nat_lt lnum first then Some (record { wanted = first; found = lnum })
    else if nat_lt lnum past then None
    else Some (record { wanted = past; found = lnum })
past_limit (in_leb offs most) = if nat_lt most offs then Some (record { wanted = most; found = offs }) else None

-- the first address that passes its limit
abbrev pub first_past : List Address → Option Misplaced
first_past [] = None
first_past (address ∷ rest) = option_or (past_limit address) (first_past rest)
