use Rattle.index_tests.proofs.Steps.{not_before, stepped_well}
use Rattle.index_tests.proofs.commit_step_tests.stepped.Goals as goal

pub write_step-requires-clause-running : goal.write_step-requires-clause-running
write_step-requires-clause-running g c = let own = c.requires.running in (own.row, own.begun, own.kept, own.given, own.running, not_before _ c.args.next.now own.before)

pub returns : goal.returns
returns g c =
    let own = c.requires.running in
    let step = (c.in-Ok.ensures.step own.row own.begun own.kept own.given own.running (not_before _ c.args.next.now own.before)).0 in
    stepped_well c.args.geometry.now (g.V.Volume.state c.args.volume.now) (g.V.Volume.state c.write_step.new.volume) c.args.index.now c.write_step.new.self c.args.next.now step.now own step.running c.write_step.ensures.answer.0.shape c.write_step.ensures.next.1
