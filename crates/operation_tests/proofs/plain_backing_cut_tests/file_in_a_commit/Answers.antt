use Rattle.operation_tests.proofs.SampleFits.{proper_on}
use Rattle.operation_tests.proofs.plain_backing_cut_tests.file_in_a_commit.Goals as goal

pub put_in_a_commit-requires-clause-proper : goal.put_in_a_commit-requires-clause-proper
put_in_a_commit-requires-clause-proper c = proper_on _ c.requires.fresh
