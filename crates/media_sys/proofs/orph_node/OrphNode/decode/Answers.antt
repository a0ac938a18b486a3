use Rattle.std.proofs.Common.{arith}
use Rattle.media_sys.specs.Orphans.{orphans_of, is_orphans, orphans_at}
use Rattle.media_sys.specs.SystemNode.{system_form, orphans}
use Rattle.media_sys.specs.Tested.{tested}
use Rattle.media_sys.proofs.TestLemmas.{reader_of, found_seen, none_seen}
use Rattle.media_sys.proofs.OrphanLemmas.{orphans_test}
use Rattle.media_sys.proofs.orph_node.OrphNode.decode.Goals as goal

pub returns-clause-found : goal.returns-clause-found
returns-clause-found c =
    found_seen system_form orphans orphans_of (tested is_orphans orphans_at) (reader_of system_form orphans is_orphans orphans_at orphans_test) c.args.bytes.now c.decode_exactly.result (λ i. omega (arith, c.type_inv.bytes i)) c.decode_exactly.ensures

pub returns-clause-none : goal.returns-clause-none
returns-clause-none c =
    none_seen system_form orphans orphans_of (tested is_orphans orphans_at) (reader_of system_form orphans is_orphans orphans_at orphans_test) c.args.bytes.now c.decode_exactly.result (λ i. omega (arith, c.type_inv.bytes i)) c.decode_exactly.ensures
