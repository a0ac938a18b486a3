use Rattle.group_nodes.specs.TextLaws.{length-group_text, even_group, text_bytes-change_bytes}
use Rattle.group_nodes.proofs.laws.texts_have_length.Goals as goal

pub returns : goal.returns
returns c = record { group = length-group_text; even = even_group; admitted = text_bytes-change_bytes }
