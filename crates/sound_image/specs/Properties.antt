-- The rule on the tree of LEB properties, and what it says of one LEB (`ubifs_lpt_init` and `dbg_check_lpt_nodes` of Linux fs/ubifs).
use Rattle.std.specs.Prelude.{ℕ, ◌-◌, nat_lt, not, Bool, false, if◌then◌else◌, List, Option, None, slice_get}
use Rattle.std.specs.Option.{option_map_or}
use Rattle.ubifs_base.specs.Areas.{main_first}
use Rattle.ubifs_base.specs.declared.raw_geometry.RawGeometry.{RawGeometry}
use Rattle.media_lpt.specs.declared.lprop.Lprop.{Lprop}
use Rattle.media_lpt.specs.declared.nnode.LptPlace.{LptPlace}
use Rattle.media_sys.specs.declared.master.Master.{Master}
use Rattle.lpt_area.specs.Tree.{IsTreeIn}

-- where the master says that the tree's root stands
abbrev pub lpt_root : Master → LptPlace
lpt_root master = record { lnum = master.lpt_lnum; offs = master.lpt_offs }

-- From the master's root on, each nnode and pnode over main LEBs is in its grammar and stands in the root's LEB; the tree says these properties.
abbrev pub HasProperties : (ℕ → List ℕ) → RawGeometry → Master → List Lprop → Type 0
HasProperties contents geo master props = IsTreeIn geo master.lpt_lnum (contents master.lpt_lnum) (lpt_root master) props

-- the properties of a main LEB; no other LEB has any
abbrev pub prop_of : RawGeometry → List Lprop → ℕ → Option Lprop
prop_of geo props lnum = if nat_lt lnum (main_first geo) then None else slice_get props (lnum - main_first geo)

-- whether a LEB is a main LEB that is marked as the index's
abbrev pub is_marked_index : RawGeometry → List Lprop → ℕ → Bool
is_marked_index geo props lnum = option_map_or (λ prop. prop.index) (prop_of geo props lnum) false

-- whether it is a main LEB that isn't marked so
abbrev pub is_unmarked : RawGeometry → List Lprop → ℕ → Bool
is_unmarked geo props lnum = option_map_or (λ prop. not prop.index) (prop_of geo props lnum) false
