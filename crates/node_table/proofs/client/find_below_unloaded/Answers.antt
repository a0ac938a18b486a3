use Rattle.std.proofs.Common.{◌≡◌, List, ap, ◌∙◌, subst}
use Rattle.std.specs.Prelude.{IfOk, slice_get}
use Rattle.index_media.specs.InsertionLaws.{clean_bare}
use Rattle.index_media.specs.KeyedRow.{KeyedRow, no_more, bare}
use Rattle.index_media.specs.PlacedRow.{ended, node_at}
use Rattle.index_tree.specs.Order.{key_rank, of_rank}
use Rattle.index_tree.specs.Shape.{contents}
use Rattle.index_tree.specs.declared.leaf.Leaf.{Leaf}
use Rattle.node_table.specs.StandingLinks.{standing_root}
use Rattle.node_table.proofs.client.find_below_unloaded.Goals as goal

pub find-requires-clause-stands : goal.find-requires-clause-stands
find-requires-clause-stands g c =
    let key = c.args.branch.now.key in
    standing_root (g.V.Volume.state c.args.volume.now) c.add_unloaded.new.self.nodes.items key c.in_ok-number.number (c.in_ok-number.ensures.stands key)

pub returns-clause-found : goal.returns-clause-found
returns-clause-found g c = λ row on.
    let branch = c.args.branch.now in
    let L : List Leaf → Type 0 = λ l. IfOk c.find.result (λ found. found ≡ slice_get (of_rank (key_rank c.args.key.now) l) c.args.nth) in
    subst L (ap (λ (r : KeyedRow). contents (bare r)) (c.in_ok-number.ensures.shown row on branch.key no_more) ∙ ap contents (clean_bare (node_at branch row ended))) c.find.ensures.found
