use Rattle.std.proofs.Common.{arith}
use Rattle.media_leaf.specs.Entry.{read_entry}
use Rattle.media_leaf.specs.LeafNode.{leaf_form, entry}
use Rattle.media_leaf.proofs.EntryLemmas.{entry_reader}
use Rattle.node_fields.specs.FormLaws.{found_of, none_of}
use Rattle.media_leaf.proofs.dent_node.DentNode.decode.Goals as goal

pub returns-clause-found : goal.returns-clause-found
returns-clause-found c = found_of leaf_form entry read_entry entry_reader c.args.bytes.now c.decode_exactly.result (λ i. omega (arith, c.type_inv.bytes i)) c.decode_exactly.ensures

pub returns-clause-none : goal.returns-clause-none
returns-clause-none c = none_of leaf_form entry read_entry entry_reader c.args.bytes.now c.decode_exactly.result (λ i. omega (arith, c.type_inv.bytes i)) c.decode_exactly.ensures
