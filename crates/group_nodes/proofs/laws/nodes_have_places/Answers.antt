use Rattle.std.proofs.Common.{ℕ, List}
use Rattle.fs_model.specs.declared.change.Change.{Change}
use Rattle.group_nodes.specs.TextLaws.{length-texts_from, node_in_group}
use Rattle.group_nodes.proofs.laws.nodes_have_places.Goals as goal

pub returns : goal.returns
returns c = record { place = λ n sqnum before. length-texts_from n 0 sqnum before; node = node_in_group }
