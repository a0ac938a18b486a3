use Rattle.std.proofs.Common.{[], ◌∷◌}
use Rattle.node_table.specs.Changing.{changed_by}
use Rattle.index_tests.proofs.Steps.{changed_well}
use Rattle.index_tests.proofs.mounted_index_tests.is_made.Goals as goal

pub change-requires : goal.change-requires
change-requires g c = let own = c.requires.standing in record { shown = (own.row, own.shown); changes = (c.requires.change, tt) }

pub returns-in-Ok : goal.returns-in-Ok
returns-in-Ok g c = λ fine.
    let own = c.requires.standing in
    changed_well c.args.geometry.now (g.V.Volume.state c.args.volume.now) (g.V.Volume.state c.change.new.volume) c.args.index.now c.change.new.self c.args.next
    (changed_by c.args.index.now.geometry.fanout (c.args.change ∷ []) own.row) own (c.in-Ok.ensures.changed own.row own.shown) c.change.ensures.reads.shape c.change.ensures.geometry
