use Rattle.std.proofs.Common.{arith}
use Rattle.media_sys.specs.Index.{index_of, is_index, index_at}
use Rattle.media_sys.specs.SystemNode.{system_form, index}
use Rattle.media_sys.specs.Tested.{tested}
use Rattle.media_sys.proofs.TestLemmas.{reader_of, found_seen, none_seen}
use Rattle.media_sys.proofs.IndexLemmas.{index_test}
use Rattle.media_sys.proofs.idx_node.IdxNode.decode.Goals as goal

pub returns-clause-found : goal.returns-clause-found
returns-clause-found c =
    found_seen system_form index index_of (tested is_index index_at) (reader_of system_form index is_index index_at index_test) c.args.bytes.now c.decode_exactly.result (λ i. omega (arith, c.type_inv.bytes i)) c.decode_exactly.ensures

pub returns-clause-none : goal.returns-clause-none
returns-clause-none c =
    none_seen system_form index index_of (tested is_index index_at) (reader_of system_form index is_index index_at index_test) c.args.bytes.now c.decode_exactly.result (λ i. omega (arith, c.type_inv.bytes i)) c.decode_exactly.ensures
