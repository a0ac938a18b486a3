use Rattle.std.proofs.Common.{arith}
use Rattle.media_leaf.specs.Data.{read_data}
use Rattle.media_leaf.specs.LeafNode.{leaf_form, block}
use Rattle.media_leaf.proofs.DataLemmas.{data_reader}
use Rattle.node_fields.specs.FormLaws.{found_of, none_of}
use Rattle.media_leaf.proofs.data_node.DataNode.decode.Goals as goal

pub returns-clause-found : goal.returns-clause-found
returns-clause-found c = found_of leaf_form block read_data data_reader c.args.bytes.now c.decode_exactly.result (λ i. omega (arith, c.type_inv.bytes i)) c.decode_exactly.ensures

pub returns-clause-none : goal.returns-clause-none
returns-clause-none c = none_of leaf_form block read_data data_reader c.args.bytes.now c.decode_exactly.result (λ i. omega (arith, c.type_inv.bytes i)) c.decode_exactly.ensures
