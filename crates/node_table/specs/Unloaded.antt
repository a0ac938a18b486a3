-- Nodes of a table that aren't loaded: they stand on a volume where they were met. Loaded nodes needn't stand.
use Rattle.std.specs.Prelude.{◌≡◌, ◌||◌, ℕ, Bool, List, Option, Some, is_none, is_some, length, slice_get}
use Rattle.std.specs.List.{list_all}
use Rattle.index_media.specs.KeyedRow.{no_more}
use Rattle.node_cache.specs.OnVolume.{IsOnVolume}
use Rattle.table_nodes.specs.Beyond.{branch_at_place, is_loaded}
use Rattle.table_nodes.specs.Links.{AreLinksIn}
use Rattle.table_nodes.specs.NodeView.{node_before, linked_before, row_of, node_views, tree_at}
use Rattle.table_nodes.specs.Stubs.{unplaced, IsStubOf}
use Rattle.table_nodes.specs.declared.link.Link.{Link}
use Rattle.table_nodes.specs.declared.node.Root.{Root}
use Rattle.table_nodes.specs.declared.node.TableNode.{TableNode}
use Rattle.table_nodes.specs.declared.stub_node.StubNode.{StubNode}
use Rattle.ubi_volume.specs.Volume.{VolumeState}
use Rattle.ubifs_base.specs.declared.key.Key.{Key}
use Rattle.node_table.specs.declared.opening.Unloaded.{Unloaded}

-- whether a node is loaded if it is dirty
abbrev pub is_loaded_if_dirty : TableNode → Bool
is_loaded_if_dirty node = is_some node.place || is_loaded node

-- whether each of these nodes is
abbrev pub are_loaded_if_dirty : List TableNode → Bool
are_loaded_if_dirty nodes = list_all is_loaded_if_dirty nodes

-- whether a node isn't loaded if it is clean
abbrev pub is_unloaded_if_clean : TableNode → Bool
is_unloaded_if_clean node = is_none node.place || is_some node.beyond

-- whether each of these nodes isn't
abbrev pub are_unloaded_if_clean : List TableNode → Bool
are_unloaded_if_clean nodes = list_all is_unloaded_if_clean nodes

-- those below a root stand there
abbrev pub DoesRootStand : VolumeState → List TableNode → Option Root → Type 0
DoesRootStand state nodes root = IsOnVolume state (tree_at (unplaced nodes) root)

-- the same of a node and those below it
abbrev pub DoesNodeStand : VolumeState → List TableNode → ℕ → Type 0
DoesNodeStand state nodes number = (key : Key) × IsOnVolume state (node_before key (slice_get (node_views (unplaced nodes)) number) no_more)

-- of what a link leads to
abbrev pub DoesLinkStand : VolumeState → List TableNode → Link → Type 0
DoesLinkStand state nodes link = IsOnVolume state (linked_before (node_views (unplaced nodes)) link no_more)

-- and of what several lead to
abbrev pub DoLinksStand : VolumeState → List TableNode → List Link → Type 0
DoLinksStand state nodes links = IsOnVolume state (row_of (node_views (unplaced nodes)) links)

-- links lead to leaves and to nodes of a table, and those that aren't loaded stand, with all that is below them
pub record AreStandingLinks (state : VolumeState) (nodes : List TableNode) (links : List Link) : Type 0 where
  pub there : AreLinksIn (length nodes) links
  pub stand : DoLinksStand state nodes links

-- the node of this number isn't loaded, and this is known of it
pub record IsUnloaded (nodes : List TableNode) (number : ℕ) (found : Unloaded) : Type 0 where
  pub node : TableNode
  pub there : slice_get nodes number ≡ Some node
  pub stub : StubNode
  pub is : IsStubOf node stub
  pub branch : found.branch ≡ branch_at_place stub.place
  pub level : found.level ≡ stub.level
