use Rattle.std.proofs.Common.{List, sym, subst}
use Rattle.std.specs.Prelude.{Option}
use Rattle.node_table.specs.Unloaded.{DoesRootStand}
use Rattle.node_table.specs.UnloadedRoots.{root_moved, root_stays}
use Rattle.table_nodes.specs.declared.node.Root.{Root}
use Rattle.table_nodes.specs.declared.node.TableNode.{TableNode}
use Rattle.index_cache.proofs.client.adopt_both.Goals as goal

pub insert-requires-clause-stands : goal.insert-requires-clause-stands
insert-requires-clause-stands g c =
    let a = g.V.Volume.state c.stage.new.volume in
    let b = g.V.Volume.state c.stage-2.new.volume in
    let old = c.stage.new.self.table.nodes.items in
    let new = c.stage-2.new.self.table.nodes.items in
    let root = c.in_ok-one.one.root in
    let reads = c.stage-2.ensures.reads in
    let stands = root_stays b old new root c.stage-2.ensures.keeps.added c.in_ok-one.ensures.root.there (root_moved a b old root reads.keeps reads.shape c.in_ok-one.ensures.staged) in
    let D : List TableNode → Type 0 = λ ns. DoesRootStand b ns c.adopt.new.self.root in
    let R : Option Root → Type 0 = λ r. DoesRootStand b new r in
    subst D (sym c.adopt.ensures.nodes) (subst R (sym c.adopt.ensures.root) stands)
