use Rattle.operation_tests.proofs.CutsTold.{tree_left}
use Rattle.operation_tests.proofs.plain_backing_cut_tests.show_cut.Goals as goal

pub returns : goal.returns
returns g c =
    let state = g.B.Backing.state c.args.backing.now in
    let journal = state.journal in
    tree_left journal.running journal.left journal.nodes journal.later journal.medium state.tree (g.met.B.Backing.journal c.args.backing.now)
