use Rattle.std.proofs.Common.{arith}
use Rattle.media_sys.specs.Padding.{is_padding, padding_at}
use Rattle.media_sys.specs.SystemNode.{system_form, padding}
use Rattle.media_sys.proofs.PaddingLemmas.{padding_test}
use Rattle.media_sys.proofs.TestLemmas.{body_found, body_none}
use Rattle.media_sys.proofs.pad_node.PadNode.from_body.Goals as goal

pub returns-clause-found : goal.returns-clause-found
returns-clause-found c = body_found system_form padding is_padding padding_at padding_test c.args.kind c.args.body.now c.read_body.result (λ i. omega (arith, c.type_inv.body i)) c.read_body.ensures

pub returns-clause-none : goal.returns-clause-none
returns-clause-none c = body_none system_form padding is_padding padding_at padding_test c.args.kind c.args.body.now c.read_body.result c.read_body.ensures
