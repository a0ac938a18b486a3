use Rattle.std.proofs.Common.{sym, ap, ◌∙◌}
use Rattle.std.specs.Option.{option_or}
use Rattle.index_media.specs.PlacedRow.{plain}
use Rattle.index_tree.specs.Order.{key_rank, first_after}
use Rattle.index_tree.specs.Shape.{contents}
use Rattle.node_cache.specs.RowsOn.{index_moved}
use Rattle.node_cache.proofs.Following.{after_ok}
use Rattle.node_cache.proofs.client.find_from.Goals as goal

pub after-requires : goal.after-requires
after-requires g c =
    let a = g.V.Volume.state c.args.volume.now in
    let b = g.V.Volume.state c.find.new.volume in
    let own = c.requires.index in
    record { index = (own.0, own.1, index_moved a b own.0 c.args.root.now own.1 c.find.ensures.reads.keeps c.find.ensures.reads.shape own.2); kept = c.find.ensures.kept }

pub returns-in-Some-clause-found : goal.returns-in-Some-clause-found
returns-in-Some-clause-found g c = λ fanout placed on.
    let found = c.in_ok-leaf.ensures.found fanout placed on in
    sym (ap (λ v. option_or v (first_after (key_rank c.args.key.now) (contents (plain placed)))) (sym found ∙ c.in-Some.is))

pub returns-clause-found : goal.returns-clause-found
returns-clause-found g c = λ fanout placed on.
    let a = g.V.Volume.state c.args.volume.now in
    let b = g.V.Volume.state c.find.new.volume in
    let found = c.in_ok-leaf.ensures.found fanout placed on in
    let behind = first_after (key_rank c.args.key.now) (contents (plain placed)) in
    after_ok c.after.result behind _ (ap (λ v. option_or v behind) (sym found ∙ c.in-None.is))
    (c.after.ensures.found fanout placed (index_moved a b fanout c.args.root.now placed c.find.ensures.reads.keeps c.find.ensures.reads.shape on))
