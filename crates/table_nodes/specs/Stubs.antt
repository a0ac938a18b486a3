-- Nodes that aren't loaded: which they are, and those that are added where one is opened.
use Rattle.std.specs.Prelude.{◌≡◌, ◌&&◌, ℕ, suc, Bool, true, List, ◌++◌, None, Some, All, Contains, is_some, if◌then◌else◌, map}
use Rattle.std.specs.List.{list_all}
use Rattle.index_media.specs.PlacedRow.{stretch_of}
use Rattle.media_sys.specs.declared.branch.Branch.{Branch}
use Rattle.told_value.specs.declared.told.Told.{Told}
use Rattle.table_nodes.specs.Beyond.{is_loaded, row_told}
use Rattle.table_nodes.specs.Clean.{are_clean_below}
use Rattle.table_nodes.specs.Links.{AreNodesAdded}
use Rattle.table_nodes.specs.NodeView.{NodeView, node_views}
use Rattle.table_nodes.specs.Sound.{AreSoundViews}
use Rattle.table_nodes.specs.declared.node.TableNode.{TableNode}
use Rattle.table_nodes.specs.declared.seen.MediumSeen.{MediumSeen}
use Rattle.table_nodes.specs.declared.stub_node.StubNode.{StubNode}

-- whether a node isn't loaded: it has a place, and tells what is below it
abbrev pub is_stub : TableNode → Bool
is_stub node = is_some node.beyond && is_some node.place

-- what is known of such a node: its level, its place, and what it tells
pub record IsStubOf (node : TableNode) (stub : StubNode) : Type 0 where
  pub told : Told MediumSeen
  pub beyond : node.beyond ≡ Some told
  pub tells : stub.told.value ≡ told.value
  pub place : node.place ≡ Some stub.place
  pub level : stub.level ≡ node.level

-- a node as if it were dirty, if it is loaded
abbrev pub unplaced_node : TableNode → TableNode
unplaced_node node = record { level = node.level; place = if is_loaded node then None else node.place; links = node.links; beyond = node.beyond }

-- a table as if each node that is loaded were dirty: its clean nodes are those that have to stand where they were met
abbrev pub unplaced : List TableNode → List TableNode
unplaced nodes = map unplaced_node nodes

-- whether each of these nodes has a place
abbrev pub are_placed : List TableNode → Bool
are_placed nodes = list_all (λ node. is_some node.place) nodes

-- what is seen of a node that isn't loaded, to which one of these branches leads: the row of its children is the one that is told
pub record IsChildView (lebs : List (List ℕ)) (levels : ℕ) (branches : List Branch) (v : NodeView) : Type 0 where
  pub branch : Branch
  pub among : Contains branches branch
  pub level : ℕ
  pub above : levels ≡ suc level
  pub is : v ≡ record { level = level; place = Some (stretch_of branch); children = row_told lebs level branch }

-- nodes with places were added that aren't loaded, and to each one of these branches leads
pub record AreStubs (lebs : List (List ℕ)) (levels : ℕ) (branches : List Branch) (old new : List TableNode) : Type 0 where
  pub more : List TableNode
  pub is : new ≡ old ++ more
  pub views : List NodeView
  pub seen : node_views new ≡ node_views old ++ views
  pub children : All (IsChildView lebs levels branches) views
  pub placed : are_placed more ≡ true

-- nodes with places were added, and they are sound, and clean with all that is below them, if those that were there are
pub record AreOpened (old new : List TableNode) : Type 0 where
  pub added : AreNodesAdded old new
  pub sound : (fanout : ℕ) → AreSoundViews fanout (node_views old) → AreSoundViews fanout (node_views new)
  pub clean : are_clean_below (node_views old) ≡ true → are_clean_below (node_views new) ≡ true
  pub placed : are_placed added.more ≡ true
