use Rattle.std.proofs.Common.{◌≡◌, ◌++◌, ◌∙◌, [], ℕ, List, true, sym, subst, append-nil}
use Rattle.std.specs.Prelude.{Option}
use Rattle.index_tree.specs.Shape.{Shape, fits}
use Rattle.index_media.specs.KeyedRow.{KeyedRow, bare}
use Rattle.node_cache.specs.OnVolume.{IsOnVolume}
use Rattle.node_table.specs.StandingRows.{root_written}
use Rattle.node_table.specs.Unloaded.{DoesRootStand}
use Rattle.node_table.specs.declared.change.Change.TheVariants.{Insert}
use Rattle.table_nodes.specs.NodeView.{tree_at}
use Rattle.table_nodes.specs.declared.node.Root.{Root}
use Rattle.table_nodes.specs.declared.node.TableNode.{TableNode}
use Rattle.index_cache.specs.Paged.{fanout_of, keyed_tree_of}
use Rattle.index_commit.specs.Standing.{AreOutside, IsOutside}
use Rattle.index_commit.proofs.Lebs.{given_front, said_less}
use Rattle.index_commit.proofs.Standing.{are_standing}
use Rattle.index_commit.proofs.client.commit_twice.Goals as goal

pub write_seen-requires-clause-outside : goal.write_seen-requires-clause-outside
write_seen-requires-clause-outside g c =
    let a = g.V.Volume.state c.args.volume.now in
    let lebs = c.args.lebs.now in
    let others = c.args.others.now in
    said_less a.holds (IsOutside (lebs ++ others)) (IsOutside lebs) (keyed_tree_of c.args.index.now) (λ s n g out given. out (given_front lebs others s.lnum given)) c.requires.outside

pub write_seen-requires-2-clause-outside : goal.write_seen-requires-2-clause-outside
write_seen-requires-2-clause-outside g c =
    let b = g.V.Volume.state c.write_seen.new.volume in
    let d = g.V.Volume.state c.insert.new.volume in
    let others = c.args.others.now in
    let old = c.args.index.now in
    let one = c.write_seen.new.index in
    let made = c.in_ok-_first.ensures in
    let A : KeyedRow → Type 0 = λ r. AreOutside b.holds others r in
    let S : Shape → Type 0 = λ s. fits (fanout_of one) s ≡ true in
    let N : ℕ → Type 0 = λ n. fits n (bare (keyed_tree_of old)) ≡ true in
    let fit = subst S (sym (c.places_are_kept.ensures.shape (keyed_tree_of old) (keyed_tree_of one) made.tree)) (subst N (sym c.write_seen.ensures.fanout) c.requires.fits) in
    let stand = made.outside others c.requires.lebs.2 c.requires.outside in
    are_standing b.holds d.holds (IsOutside others) (IsOutside others) (keyed_tree_of c.insert.new.self) (λ k. ([], c.insert.ensures.reads.keeps.holds k ∙ sym (append-nil (b.holds k)))) (λ s n g given. given)
    (subst A (sym c.in_ok-insert.ensures.tree) (c.changes_keep_what_stands.ensures.changed (fanout_of one) (Insert c.args.leaf) b.holds others (keyed_tree_of one) fit stand))

pub insert-requires-clause-stands : goal.insert-requires-clause-stands
insert-requires-clause-stands g c =
    let a = g.V.Volume.state c.args.volume.now in
    let b = g.V.Volume.state c.write_seen.new.volume in
    let old = c.args.index.now in
    let one = c.write_seen.new.index in
    let others = c.args.others.now in
    let made = c.in_ok-_first.ensures in
    let D : List TableNode → Type 0 = λ ns. IsOnVolume a (tree_at ns one.root) in
    let R : Option Root → Type 0 = λ r. DoesRootStand a old.table.nodes.items r in
    let before = subst D (sym made.nodes.0) (subst R (sym made.nodes.1) c.requires.stands) in
    root_written a b (IsOutside others) one.table.nodes.items one.root made.shape (made.outside others c.requires.lebs.2 c.requires.outside) before
