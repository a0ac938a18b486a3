use Rattle.std.proofs.Common.{ℕ, Ok, arith}
use Rattle.media_sys.specs.Superblock.{is_super, super_at}
use Rattle.media_sys.specs.SystemNode.{system_form, superblock}
use Rattle.media_sys.specs.Tested.{tested}
use Rattle.media_sys.proofs.TestLemmas.{reader_of}
use Rattle.media_sys.proofs.SuperLemmas.{super_test}
use Rattle.node_fields.specs.FormLaws.{found_of, none_of}
use Rattle.media_sys.proofs.super_node.Super.decode.Goals as goal

pub returns-clause-found : goal.returns-clause-found
returns-clause-found c =
    found_of {E = ℕ} system_form superblock (tested is_super super_at) (reader_of system_form superblock is_super super_at super_test) c.args.bytes.now (Ok c.decode_exactly.result) (λ i. omega (arith, c.type_inv.bytes i)) c.decode_exactly.ensures

pub returns-clause-none : goal.returns-clause-none
returns-clause-none c =
    none_of {E = ℕ} system_form superblock (tested is_super super_at) (reader_of system_form superblock is_super super_at super_test) c.args.bytes.now (Ok c.decode_exactly.result) (λ i. omega (arith, c.type_inv.bytes i)) c.decode_exactly.ensures
