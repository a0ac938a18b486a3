use Rattle.leaf_check.proofs.CommittedLeaves.{some_told}
use Rattle.leaf_check.proofs.SoundLeaves.{read_its}
use Rattle.leaf_check.proofs.answers.answer_of.Goals as goal

pub returns : goal.returns
returns c = λ contents here. record {
  told = some_told contents c.args.leaf.now c.args.bytes.now c.args.found c.requires.node.0 c.in_ok-content.content here c.requires.node.1 c.in_ok-content.ensures;
  intact = λ h. read_its contents c.args.leaf.now c.args.bytes.now here (c.is_its_node-intact.ensures.0 h);
}
