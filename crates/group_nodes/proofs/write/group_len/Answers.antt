use Rattle.std.proofs.Common.{◌∙◌, sym}
use Rattle.group_nodes.specs.TextLaws.{length-group_text}
use Rattle.group_nodes.proofs.write.group_len.Goals as goal

pub returns : goal.returns
returns c = λ sqnum. c.len_of.ensures.len ∙ sym (length-group_text sqnum c.args.changes.now)
