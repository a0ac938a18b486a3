-- What isn't loaded below a root goes on standing where nodes are added, and where the volume is only read.
use Rattle.std.proofs.Common.{List, sym, subst}
use Rattle.std.specs.Prelude.{Option, None, Some, slice_get}
use Rattle.index_media.specs.KeyedRow.{no_more}
use Rattle.node_cache.specs.OnVolume.{IsOnVolume}
use Rattle.node_cache.specs.OnVolumeLaws.{on_volume_moved}
use Rattle.table_nodes.specs.Links.{AreNodesAdded}
use Rattle.table_nodes.specs.NodeView.{IsRootIn, NodeView, node_before, node_views}
use Rattle.table_nodes.specs.StubLaws.{unplaced_kept}
use Rattle.table_nodes.specs.Stubs.{unplaced}
use Rattle.table_nodes.specs.declared.node.Root.{Root}
use Rattle.table_nodes.specs.declared.node.TableNode.{TableNode}
use Rattle.ubi_volume.specs.Volume.{VolumeState, Keeps, SameShape}
use Rattle.node_table.specs.Unloaded.{DoesRootStand}

-- the volume was only read
pub root_moved : (a b : VolumeState) (nodes : List TableNode) (root : Option Root) → Keeps a b → SameShape a b → DoesRootStand a nodes root → DoesRootStand b nodes root
root_moved a b nodes None keeps shape h = tt
root_moved a b nodes (Some root) keeps shape h = on_volume_moved a b (node_before root.key (slice_get (node_views (unplaced nodes)) root.number) no_more) keeps shape h

-- nodes were added
pub root_stays : (s : VolumeState) (old new : List TableNode) (root : Option Root) → AreNodesAdded old new → IsRootIn old root → DoesRootStand s old root → DoesRootStand s new root
root_stays s old new None added there h = tt
root_stays s old new (Some root) added there h =
    let P : Option NodeView → Type 0 = λ o. IsOnVolume s (node_before root.key o no_more) in
    subst P (sym (unplaced_kept old new root.number added there)) h
