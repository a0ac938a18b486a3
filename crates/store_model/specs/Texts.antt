-- What stands in main LEBs: the items of a text one behind another, the nodes of a bud in its LEB, and where the heads end.
use Rattle.std.specs.Prelude.{◌≡◌, ◌||◌, ◌≤◌, ℕ, zero, suc, ◌+◌, ◌*◌, ◌/◌, ◌==◌, nat_le, IsTrue, not, Bool, if◌then◌else◌, List, [], ◌∷◌, filter, map, take, get_or, Option, Some, None}
use Rattle.std.specs.List.{list_all, AllByRecursion}
use Rattle.ubifs_base.specs.declared.raw_geometry.RawGeometry.{RawGeometry}
use Rattle.fs_model.specs.Cover.{round_8}
use Rattle.group_nodes.specs.Texts.{leaf_len}
use Rattle.leaf_map.specs.Kept.{Placed}
use Rattle.store_model.specs.Fits.{nodes_of_groups}
use Rattle.store_model.specs.Heads.{copies_of, groups_of_head}
use Rattle.store_model.specs.Legal.{are_distinct}
use Rattle.store_model.specs.Store.{At, Bud, Item, leaf, branching, gap, Leb, Next, Store}

-- ---- a text
-- how many bytes an item takes: nodes are rounded up to 8 (`struct ubifs_idx_node`, `struct ubifs_branch` of ubifs-media.h)
abbrev pub item_len : Item → ℕ
item_len (leaf placed) = round_8 placed.len
item_len (branching b) = round_8 (28 + 20 * b.node.count)
item_len (gap n) = n

abbrev pub items_len : List Item → ℕ
items_len [] = 0
items_len (item ∷ items) = item_len item + items_len items

-- the leaf nodes of a text, each with the place that it tells
abbrev pub leaf_nodes : List Item → List Placed
leaf_nodes [] = []
leaf_nodes (leaf placed ∷ items) = placed ∷ leaf_nodes items
leaf_nodes (branching b ∷ items) = leaf_nodes items
leaf_nodes (gap n ∷ items) = leaf_nodes items

-- a leaf node at this place
abbrev pub laid_at : ℕ → ℕ → Placed → Placed
laid_at lnum offs placed = record placed { lnum = lnum; offs = offs; len = leaf_len placed.node }

-- the leaf nodes of a text that begins at this place of a LEB, each with the place where it stands
abbrev pub standing_nodes : ℕ → ℕ → List Item → List Placed
standing_nodes lnum offs [] = []
standing_nodes lnum offs (leaf placed ∷ items) = laid_at lnum offs placed ∷ standing_nodes lnum (offs + round_8 placed.len) items
standing_nodes lnum offs (branching b ∷ items) = standing_nodes lnum (offs + item_len (branching b)) items
standing_nodes lnum offs (gap n ∷ items) = standing_nodes lnum (offs + n) items

-- Each leaf node of a LEB tells the place where it stands, and all that is meant for the LEB fits it.
pub record IsLaidOut (geo : RawGeometry) (leb : Leb) : Type 0 where
  pub places : leaf_nodes leb.text ≡ standing_nodes leb.lnum 0 leb.text
  pub fits : items_len leb.text ≤ geo.leb_size

-- the text of a LEB
abbrev pub text_in : List Leb → ℕ → List Item
text_in [] lnum = []
text_in (leb ∷ lebs) lnum = if leb.lnum == lnum then leb.text else text_in lebs lnum

-- ---- buds
-- the nodes that tell places from an offset on
abbrev pub nodes_from : ℕ → List Placed → List Placed
nodes_from from nodes = filter (λ placed. nat_le from placed.offs) nodes

-- what was put to a bud, oldest first: copies at head 0, and groups at the others
abbrev pub bud_nodes : Bud → List Placed
bud_nodes bud = if bud.head == 0 then bud.copies else nodes_of_groups bud.groups

-- what was put to a bud is what its LEB has from where the bud begins
pub record IsBudIn (lebs : List Leb) (bud : Bud) : Type 0 where
  pub nodes : nodes_from bud.from (leaf_nodes (text_in lebs bud.lnum)) ≡ bud_nodes bud
  pub from : bud.from ≤ items_len (text_in lebs bud.lnum)

-- of all buds, of which no two are in one LEB
pub record AreBudsIn (lebs : List Leb) (buds : List Bud) : Type 0 where
  pub distinct : IsTrue (are_distinct (map (λ bud. bud.lnum) buds))
  pub each : AllByRecursion (IsBudIn lebs) buds

abbrev pub AreNextBudsIn : List Leb → Option Next → Type 0
AreNextBudsIn lebs None = Unit {0}
AreNextBudsIn lebs (Some next) = AreBudsIn lebs next.view.buds

-- ---- heads
-- an open head ends where the text of its LEB ends, and whole units of that are written
abbrev pub IsEnd : RawGeometry → List Leb → Option At → Type 0
IsEnd geo lebs None = Unit {0}
IsEnd geo lebs (Some at) = (at.offs ≡ items_len (text_in lebs at.lnum)) × (at.written ≡ at.offs / geo.min_io * geo.min_io)

-- the nodes of a head's first groups, or copies, as many as are synced
abbrev pub synced_nodes : List ℕ → List Bud → ℕ → List Placed
synced_nodes synced buds zero = take (get_or synced 0 0) (copies_of buds)
synced_nodes synced buds (suc head) = nodes_of_groups (take (get_or synced (suc head) 0) (groups_of_head (suc head) buds))

-- a node that stands in a LEB ends at an offset, or before it
abbrev pub ends_by : ℕ → ℕ → Placed → Bool
ends_by lnum offs placed = not (placed.lnum == lnum) || nat_le (placed.offs + round_8 placed.len) offs

-- these nodes of each head, from one on, are written where it is open
abbrev pub AreHeadsWritten : (ℕ → List Placed) → ℕ → List (Option At) → Type 0
AreHeadsWritten nodes head [] = Unit {0}
AreHeadsWritten nodes head (None ∷ ends) = AreHeadsWritten nodes (head + 1) ends
AreHeadsWritten nodes head (Some at ∷ ends) = IsTrue (list_all (ends_by at.lnum at.written) (nodes head)) × AreHeadsWritten nodes (head + 1) ends

-- ---- all of them
-- Nodes stand in the texts of LEBs one behind another, what was put to a bud is what its LEB has, heads end where their LEBs' texts end, and what is synced is written.
pub record AreTexts (m : Store) : Type 0 where
  pub laid : AllByRecursion (IsLaidOut m.geo) m.lebs
  pub buds : AreBudsIn m.lebs m.now.buds
  pub later : AreNextBudsIn m.lebs m.next
  pub ends : AllByRecursion (IsEnd m.geo m.lebs) m.ends
  pub written : AreHeadsWritten (synced_nodes m.synced m.now.buds) 0 m.ends
