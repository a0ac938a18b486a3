-- What breaks the rule on the tree of LEB properties, and where.
use Rattle.std.specs.Prelude.{◌≡◌, ◌≢◌, ◌⊎◌, ℕ, zero, suc, ◌-◌, ◌/◌, ◌%◌, ◌^◌, ◌<◌, ◌≤◌, ◌==◌, if◌then◌else◌, List, Some, take, drop, slice_get}
use Rattle.ubifs_base.specs.Crc.{crc16_of}
use Rattle.ubifs_base.specs.Properties.{nnode_len, pnode_count, pnode_len, tree_height}
use Rattle.ubifs_base.specs.declared.raw_geometry.RawGeometry.{RawGeometry}
use Rattle.media_lpt.specs.Packed.{bytes_number}
use Rattle.media_lpt.specs.declared.lprop.Lprop.{Lprop}
use Rattle.media_lpt.specs.declared.nnode.LptPlace.{LptPlace}
use Rattle.media_sys.specs.declared.master.Master.{Master}
use Rattle.lpt_area.specs.Tree.{HasNnode, HasPnode, row_len}
use Rattle.sound_image.specs.Properties.{lpt_root}
use Rattle.sound_image.specs.Wrong.{Misfit, Wrong, differs}

-- The node of this number in the row so far below the root stands at this place, by intact nodes of the root's LEB above it.
abbrev pub IsPlaceBelow : RawGeometry → List ℕ → LptPlace → ℕ → ℕ → LptPlace → Type 0
IsPlaceBelow geo leb root zero number place = (number ≡ 0) × (place ≡ root)
IsPlaceBelow geo leb root (suc depth) number place =
    (above : LptPlace) × (four : List LptPlace) × IsPlaceBelow geo leb root depth (number / 4) above
    × (above.lnum ≡ root.lnum) × HasNnode geo leb above.offs four × (slice_get four (number % 4) ≡ Some place)

-- how far below the root the pnodes stand
abbrev pub pnode_depth : RawGeometry → ℕ
pnode_depth geo = tree_height (pnode_count geo)

-- what is told of bytes that are no node of this type: both checksums, if theirs isn't the one with which they begin, and else both types, which
-- may be equal where another field is out of its range
abbrev pub lpt_misfit : ℕ → List ℕ → Misfit
lpt_misfit type bytes =
    if bytes_number bytes % 2 ^ 16 == crc16_of (drop 2 bytes) then differs type (bytes_number bytes / 2 ^ 16 % 2 ^ 4)
    else differs (crc16_of (drop 2 bytes)) (bytes_number bytes % 2 ^ 16)

-- at this offset of a LEB stands the node of the grammar that is wanted so far below the root: a pnode, or an nnode above them
abbrev pub StandsNode : RawGeometry → List ℕ → ℕ → ℕ → Type 0
StandsNode geo leb depth offs =
    ((depth ≡ pnode_depth geo) × (four : List Lprop) × HasPnode geo leb offs four)
    ⊎ ((depth < pnode_depth geo) × (four : List LptPlace) × HasNnode geo leb offs four)

-- and here none stands
abbrev pub LacksNode : RawGeometry → List ℕ → ℕ → ℕ → Misfit → Type 0
LacksNode geo leb depth offs misfit =
    ((depth ≡ pnode_depth geo) × ((four : List Lprop) → HasPnode geo leb offs four → ⊥) × (misfit ≡ lpt_misfit 0 (take (pnode_len geo) (drop offs leb))))
    ⊎ ((depth < pnode_depth geo) × ((four : List LptPlace) → HasNnode geo leb offs four → ⊥) × (misfit ≡ lpt_misfit 1 (take (nnode_len geo) (drop offs leb))))

-- A node over main LEBs, to which intact nodes of the root's LEB lead, isn't in its grammar in the LEB that is named, whichever that is; or it is, and stands in
-- another LEB than the root.
pub record IsWrongProperty (contents : ℕ → List ℕ) (geo : RawGeometry) (master : Master) (at : Wrong) : Type 0 where
  pub depth : ℕ
  pub number : ℕ
  pub place : LptPlace
  pub in_tree : depth ≤ pnode_depth geo
  pub over_main : number < row_len geo (pnode_depth geo - depth)
  pub leads : IsPlaceBelow geo (contents master.lpt_lnum) (lpt_root master) depth number place
  pub some : place.lnum ≢ 0
  pub lnum : at.lnum ≡ place.lnum
  pub offs : at.offs ≡ place.offs
  pub wrong : LacksNode geo (contents place.lnum) depth place.offs at.misfit
      ⊎ ((place.lnum ≢ master.lpt_lnum) × StandsNode geo (contents place.lnum) depth place.offs × (at.misfit ≡ differs master.lpt_lnum place.lnum))
