use Rattle.std.proofs.Common.{◌≡◌, ap, ◌∙◌}
use Rattle.index_media.specs.KeyedRow.{bare}
use Rattle.index_tree.specs.Shape.{contents}
use Rattle.table_nodes.specs.NodeView.{tree_at}
use Rattle.index_cache.specs.Paged.{keyed_tree_of, frozen_of}
use Rattle.index_cache.proofs.Written.{plain_placed}
use Rattle.index_cache.proofs.client.commit_beside_changes.Goals as goal

pub returns-clause-leaves : goal.returns-clause-leaves
returns-clause-leaves g c =
    let frozen = c.freeze.new.self in
    let staged = c.stage.new.self in
    let begun = c.adopt.new.self in
    let final = c.write_frozen.new.index in
    let kept = c.stage.ensures.keeps in
    let stays = c.roots_stay.ensures.tree frozen.table.nodes.items staged.table.nodes.items frozen.frozen kept.added frozen.frozen_there in
    let same : frozen_of begun ≡ keyed_tree_of c.args.index.now =
    ap (λ ns. tree_at ns begun.frozen) c.adopt.ensures.nodes ∙ ap (λ r. tree_at staged.table.nodes.items r) (c.adopt.ensures.frozen ∙ kept.frozen) ∙ stays ∙ c.freeze.ensures.frozen in
    let shape = c.places_are_kept.ensures.shape (frozen_of begun) (frozen_of final) c.write_frozen.ensures.frozen in
    λ yes. ap contents (plain_placed (frozen_of final) ∙ shape ∙ ap bare same)
