use Rattle.op_groups.proofs.Parts.{take_front}
use Rattle.op_groups.proofs.names.front_of.Goals as goal

pub returns-in-len1-up : goal.returns-in-len1-up
returns-in-len1-up c = take_front c.args.names.now
