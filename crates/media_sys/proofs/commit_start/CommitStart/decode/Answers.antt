use Rattle.std.proofs.Common.{ℕ, Ok, arith}
use Rattle.media_sys.specs.CommitStart.{is_commit_start, commit_start_at}
use Rattle.media_sys.specs.SystemNode.{system_form, commit_start}
use Rattle.media_sys.specs.Tested.{tested}
use Rattle.media_sys.proofs.TestLemmas.{reader_of}
use Rattle.media_sys.proofs.CommitStartLemmas.{commit_start_test}
use Rattle.node_fields.specs.FormLaws.{found_of, none_of}
use Rattle.media_sys.proofs.commit_start.CommitStart.decode.Goals as goal

pub returns-clause-found : goal.returns-clause-found
returns-clause-found c =
    found_of {E = ℕ} system_form commit_start (tested is_commit_start commit_start_at) (reader_of system_form commit_start is_commit_start commit_start_at commit_start_test) c.args.bytes.now (Ok c.decode_exactly.result) (λ i. omega (arith, c.type_inv.bytes i)) c.decode_exactly.ensures

pub returns-clause-none : goal.returns-clause-none
returns-clause-none c =
    none_of {E = ℕ} system_form commit_start (tested is_commit_start commit_start_at) (reader_of system_form commit_start is_commit_start commit_start_at commit_start_test) c.args.bytes.now (Ok c.decode_exactly.result) (λ i. omega (arith, c.type_inv.bytes i)) c.decode_exactly.ensures
