-- The walk over the tree of LEB properties: rows of nodes from the root down, in which each node that is wrong is passed over, and what is wrong first.
use Rattle.std.specs.Prelude.{◌≡◌, ◌≢◌, ◌⊎◌, ℕ, zero, suc, ◌+◌, ◌-◌, ◌<◌, ◌≤◌, false, List, [], ◌∷◌, ◌++◌, Option, Some, None, take, drop, slice_get}
use Rattle.ubifs_base.specs.Areas.{lpt_first, orph_first}
use Rattle.ubifs_base.specs.Properties.{nnode_len, pnode_len}
use Rattle.ubifs_base.specs.declared.raw_geometry.RawGeometry.{RawGeometry}
use Rattle.media_lpt.specs.declared.lprop.Lprop.{Lprop}
use Rattle.media_lpt.specs.declared.nnode.LptPlace.{LptPlace}
use Rattle.media_sys.specs.declared.master.Master.{Master}
use Rattle.lpt_area.specs.Tree.{AtPlace, HasNnode, HasPnode, IsBelow, alone, empty_leb, no_place, row_len}
use Rattle.sound_image.specs.Properties.{lpt_root}
use Rattle.sound_image.specs.PropertyBreaches.{IsPlaceBelow, IsWrongProperty, lpt_misfit, pnode_depth}
use Rattle.sound_image.specs.Wrong.{Wrong, comes_before, differs}
use Rattle.sound_image.specs.declared.breach.Breach.{Breach}
use Rattle.sound_image.specs.declared.breach.Breach.TheVariants.{Damaged}
use Rattle.sound_image.specs.declared.rule.Rule.TheVariants.{Properties}
use Rattle.image_check.specs.WrongValues.{sooner_of, wrong_at}
use Rattle.image_check.specs.declared.wrong_value.WrongValue.{WrongValue}

-- the LEBs that are so many behind the first, of LEBs of one size
abbrev pub lebs_behind : ℕ → ℕ → List ℕ → List ℕ
lebs_behind size zero area = area
lebs_behind size (suc number) area = lebs_behind size number (drop size area)

-- what a LEB of the properties area holds, of whose LEBs these are the bytes, one behind another
unfoldable pub lpt_leb_in : RawGeometry → List ℕ → ℕ → List ℕ
lpt_leb_in geo area lnum = take geo.leb_size (lebs_behind geo.leb_size (lnum - lpt_first geo) area)

-- these bytes are those of the LEBs of the properties area
abbrev pub IsAreaOf : RawGeometry → (ℕ → List ℕ) → List ℕ → Type 0
IsAreaOf geo holds area = (lnum : ℕ) → lpt_first geo ≤ lnum → lnum < orph_first geo → lpt_leb_in geo area lnum ≡ holds lnum

-- how a kind of node stands in a LEB and what its four parts say, what a part says where there is no node, its type, and its length
pub record RowKind (X : Type 0) : Type 1 where
  pub Stands : List ℕ → ℕ → List X → Type 0
  pub none : X
  pub type : ℕ
  pub len : ℕ

-- nnodes, and pnodes
abbrev pub nnodes : RawGeometry → RowKind LptPlace
nnodes geo = record { Stands = HasNnode geo; none = no_place; type = 1; len = nnode_len geo }

abbrev pub pnodes : RawGeometry → RowKind Lprop
pnodes geo = record { Stands = HasPnode geo; none = empty_leb geo; type = 0; len = pnode_len geo }

-- at a place no node of the kind stands in the LEB that it names; or one does, and it is another LEB than the root's
pub record IsWrongPlace {X : Type 0} (kind : RowKind X) (root : ℕ) (holds : ℕ → List ℕ) (place : LptPlace) (node : WrongValue) : Type 0 where
  pub some : place.lnum ≢ 0
  pub in_leb : node.lnum ≡ place.lnum
  pub at : node.offs ≡ place.offs
  pub wrong : (((four : List X) → kind.Stands (holds place.lnum) place.offs four → ⊥) × (differs node.wanted node.found ≡ lpt_misfit kind.type (take kind.len (drop place.offs (holds place.lnum)))))
      ⊎ ((place.lnum ≢ root) × ((four : List X) × kind.Stands (holds place.lnum) place.offs four) × (node.wanted ≡ root) × (node.found ≡ place.lnum))

-- a place says these four, in the root's LEB if it is one; or something is wrong there, which is kept if it comes first, and the four are none
abbrev pub IsNodeRead : {X : Type 0} → RowKind X → ℕ → (ℕ → List ℕ) → LptPlace → Option WrongValue → List X → Option WrongValue → Type 0
IsNodeRead kind root holds place first four next =
    (AtPlace kind.Stands kind.none (holds place.lnum) place four × (place.lnum ≢ 0 → place.lnum ≡ root) × (next ≡ first))
    ⊎ ((node : WrongValue) × IsWrongPlace kind root holds place node × (four ≡ kind.none ∷ kind.none ∷ kind.none ∷ kind.none ∷ []) × (next ≡ sooner_of first (Some node)))

-- the places of a row, one after another
abbrev pub IsRowRead : {X : Type 0} → RowKind X → ℕ → (ℕ → List ℕ) → List LptPlace → Option WrongValue → List X → Option WrongValue → Type 0
IsRowRead kind root holds [] first all last = (all ≡ []) × (last ≡ first)
IsRowRead {X = X} kind root holds (place ∷ rest) first all last =
    (four : List X) × (more : List X) × (next : Option WrongValue) × IsNodeRead kind root holds place first four next × IsRowRead kind root holds rest next more last × (all ≡ four ++ more)

-- what is wrong at a node breaks the rule on properties
abbrev pub breach_at : WrongValue → Breach
breach_at node = Damaged Properties node.lnum node.offs node.wanted node.found

-- of all nodes down to so far below the root that are wrong, this comes first
pub record IsFirstAbove (geo : RawGeometry) (master : Master) (holds : ℕ → List ℕ) (depth : ℕ) (first : Option WrongValue) : Type 0 where
  pub is : (node : WrongValue) → first ≡ Some node → IsWrongProperty holds geo master (wrong_at node)
  pub least : (other : Wrong) (h : IsWrongProperty holds geo master other) → h.depth < depth → (node : WrongValue) × (first ≡ Some node) × (comes_before other (wrong_at node) ≡ false)

-- The tree was gone over down to this level: its row has the places to which intact nodes lead, above it this is wrong first, and if nothing is, what the row says the root says.
pub record IsWalkedTo (geo : RawGeometry) (master : Master) (holds : ℕ → List ℕ) (level : ℕ) (row : List LptPlace) (first : Option WrongValue) : Type 0 where
  pub depth : ℕ
  pub is_depth : depth + level ≡ pnode_depth geo
  pub sound : (number : ℕ) (place : LptPlace) → slice_get row number ≡ Some place → place.lnum ≢ 0 → (number < row_len geo level) × IsPlaceBelow geo (holds master.lpt_lnum) (lpt_root master) depth number place
  pub complete : (number : ℕ) (place : LptPlace) → number < row_len geo level → IsPlaceBelow geo (holds master.lpt_lnum) (lpt_root master) depth number place → slice_get row number ≡ Some place
  pub wrong : IsFirstAbove geo master holds depth first
  pub tree : first ≡ None → (props : List Lprop) → IsBelow geo (alone master.lpt_lnum (holds master.lpt_lnum)) level row props → IsBelow geo (alone master.lpt_lnum (holds master.lpt_lnum)) (pnode_depth geo) (lpt_root master ∷ []) props
