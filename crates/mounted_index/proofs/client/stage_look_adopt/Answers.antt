use Rattle.node_table.specs.Changing.{changed_by}
use Rattle.mounted_index.proofs.client.stage_look_adopt.Goals as goal

pub find-requires : goal.find-requires
find-requires g c =
    let own = c.requires.shown in
    record { shown = (own.0, (c.in_ok-staged.ensures.staged own.0 own.1).shown) }

pub adopt-requires : goal.adopt-requires
adopt-requires g c =
    let own = c.requires.shown in
    let made = changed_by c.args.index.now.geometry.fanout c.args.changes.now own.0 in
    let kept = c.find.ensures.kept.staged c.in_ok-staged.staged made (c.in_ok-staged.ensures.staged own.0 own.1).staged in
    record { staged = (made, c.clear_cache.ensures.staged c.in_ok-staged.staged made kept.nodes) }

pub returns : goal.returns
returns g c =
    let made = changed_by c.args.index.now.geometry.fanout c.args.changes.now in
    record {
      adopted = λ row h.
          let kept = c.find.ensures.kept.staged c.in_ok-staged.staged (made row) (c.in_ok-staged.ensures.staged row h).staged in
          c.adopt.ensures.shown (made row) (c.clear_cache.ensures.staged c.in_ok-staged.staged (made row) kept.nodes);
    }
