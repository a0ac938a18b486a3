use Rattle.table_nodes.specs.StubLaws.{some_stub}
use Rattle.table_nodes.proofs.stub_node.stub_at.Goals as goal

pub returns-in-Some-clause-some : goal.returns-in-Some-clause-some
returns-in-Some-clause-some c = some_stub c.args.nodes.now c.args.number c.in-Some.node.now c.stub_of.result c.in-Some.ensures.some c.stub_of.ensures.some
