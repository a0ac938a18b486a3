use Rattle.std.proofs.Common.{◌++◌, List, ℕ, ap, sym, ◌∙◌, subst}
use Rattle.std.specs.Prelude.{Option}
use Rattle.index_media.specs.KeyedRow.{KeyedRow}
use Rattle.table_nodes.specs.NodeView.{tree_at}
use Rattle.table_nodes.specs.Stubs.{unplaced}
use Rattle.table_nodes.specs.declared.node.Root.{Root}
use Rattle.index_cache.specs.Paged.{keyed_tree_of}
use Rattle.index_commit.specs.Lebs.{AreLebsApart}
use Rattle.index_commit.specs.Standing.{AreOutside}
use Rattle.index_commit.proofs.Lebs.{on_ok}
use Rattle.index_commit.proofs.client.write_seen.Goals as goal

pub returns-clause-outside : goal.returns-clause-outside
returns-clause-outside g c =
    let a = g.V.Volume.state c.args.volume.now in
    let b = g.V.Volume.state c.write_index.new.volume in
    let lebs = c.args.lebs.now in
    let begun = c.freeze.new.self in
    let final = c.write_index.new.index in
    on_ok ((others : List ℕ) → AreLebsApart lebs others → AreOutside a.holds (lebs ++ others) (keyed_tree_of c.args.index.now) → AreOutside b.holds others (keyed_tree_of final)) c.write_index.result
    (λ done others two h.
    let A : KeyedRow → Type 0 = λ r. AreOutside a.holds (lebs ++ others) r in
    let B : Option Root → Type 0 = λ root. AreOutside b.holds others (tree_at final.table.nodes.items root) in
    subst B (sym c.write_index.ensures.index.kept.roots.root) ((c.write_index.ensures.standing done).0.nodes others begun.root two (subst A (sym c.freeze.ensures.tree) h)))

pub returns-clause-nodes : goal.returns-clause-nodes
returns-clause-nodes g c =
    let kept = c.write_index.ensures.index.kept in
    (kept.unplaced ∙ ap unplaced c.freeze.ensures.nodes, kept.roots.root ∙ c.freeze.ensures.seen)
