-- The leaves below a node of a table ascend.
use Rattle.std.proofs.Common.{◌≡◌, ℕ, List, refl}
use Rattle.std.specs.Prelude.{Option, None, Some, slice_get}
use Rattle.index_tree.specs.Shape.{contents}
use Rattle.index_media.specs.KeyedRow.{bare}
use Rattle.table_nodes.specs.NodeView.{NodeView, node_views, children_in}
use Rattle.table_nodes.specs.Sound.{AreSoundViews}
use Rattle.table_nodes.specs.declared.node.TableNode.{TableNode}
use Rattle.table_nodes.specs.NodeViewLaws.{sound_at}
use Rattle.node_cache.specs.LastBlockLaws.{Ascend, keyed_ascend}

seen_ascend : (f : ℕ) (seen : List NodeView) (i : ℕ) (o : Option NodeView) → AreSoundViews f seen → slice_get seen i ≡ o → Ascend 0 (contents (bare (children_in o)))
seen_ascend f seen i None s e = tt
seen_ascend f seen i (Some v) s e = let own = sound_at f seen i v s e in keyed_ascend 0 None v.children own.2 own.3

pub below_ascend : (f : ℕ) (nodes : List TableNode) (i : ℕ) → AreSoundViews f (node_views nodes) → Ascend 0 (contents (bare (children_in (slice_get (node_views nodes) i))))
below_ascend f nodes i s = seen_ascend f (node_views nodes) i (slice_get (node_views nodes) i) s refl
