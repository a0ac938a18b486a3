use Rattle.std.proofs.Common.{ℕ, Ok, arith}
use Rattle.media_sys.specs.Master.{is_master, master_at}
use Rattle.media_sys.specs.SystemNode.{system_form, master}
use Rattle.media_sys.specs.Tested.{tested}
use Rattle.media_sys.proofs.TestLemmas.{reader_of}
use Rattle.media_sys.proofs.MasterLemmas.{master_test}
use Rattle.node_fields.specs.FormLaws.{found_of, none_of}
use Rattle.media_sys.proofs.master.Master.decode.Goals as goal

pub returns-clause-found : goal.returns-clause-found
returns-clause-found c =
    found_of {E = ℕ} system_form master (tested is_master master_at) (reader_of system_form master is_master master_at master_test) c.args.bytes.now (Ok c.decode_exactly.result) (λ i. omega (arith, c.type_inv.bytes i)) c.decode_exactly.ensures

pub returns-clause-none : goal.returns-clause-none
returns-clause-none c =
    none_of {E = ℕ} system_form master (tested is_master master_at) (reader_of system_form master is_master master_at master_test) c.args.bytes.now (Ok c.decode_exactly.result) (λ i. omega (arith, c.type_inv.bytes i)) c.decode_exactly.ensures
