use Rattle.std.proofs.Common.{ℕ, Ok, arith}
use Rattle.media_leaf.specs.Truncation.{read_truncation}
use Rattle.media_leaf.specs.LeafNode.{leaf_form, truncation}
use Rattle.media_leaf.proofs.TruncationLemmas.{truncation_reader}
use Rattle.node_fields.specs.FormLaws.{found_of, none_of}
use Rattle.media_leaf.proofs.trun_node.TrunNode.decode.Goals as goal

pub returns-clause-found : goal.returns-clause-found
returns-clause-found c = found_of {E = ℕ} leaf_form truncation read_truncation truncation_reader c.args.bytes.now (Ok c.decode_exactly.result) (λ i. omega (arith, c.type_inv.bytes i)) c.decode_exactly.ensures

pub returns-clause-none : goal.returns-clause-none
returns-clause-none c = none_of {E = ℕ} leaf_form truncation read_truncation truncation_reader c.args.bytes.now (Ok c.decode_exactly.result) (λ i. omega (arith, c.type_inv.bytes i)) c.decode_exactly.ensures
