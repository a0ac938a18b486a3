use Rattle.std.proofs.Common.{[], ◌∷◌}
use Rattle.node_table.specs.Changing.{changed_by}
use Rattle.index_tests.proofs.Steps.{runs_on}
use Rattle.index_tests.proofs.commit_step_tests.is_made_beside.Goals as goal

pub change-requires : goal.change-requires
change-requires g c = let own = c.requires.running in record { shown = (own.row, own.running.shown); changes = (c.requires.change, tt) }

pub returns-in-Ok : goal.returns-in-Ok
returns-in-Ok g c = λ fine.
    let own = c.requires.running in
    runs_on c.args.geometry.now (g.V.Volume.state c.args.volume.now) (g.V.Volume.state c.change.new.volume) c.args.index.now c.change.new.self c.args.next
    (changed_by c.args.index.now.geometry.fanout (c.args.change ∷ []) own.row) own (c.in-Ok.ensures.running own.kept own.given own.begun own.row own.running).0 c.change.ensures.reads.shape c.change.ensures.geometry
