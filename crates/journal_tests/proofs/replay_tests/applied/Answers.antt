use Rattle.journal_tests.proofs.replay_tests.applied.Goals as goal

pub returns : goal.returns
returns c = c.journals_can_be_applied.ensures c.args.buds.now c.in_ok-read.read c.in_ok-read.ensures
