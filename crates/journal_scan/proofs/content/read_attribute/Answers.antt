use Rattle.std.proofs.Common.{arith}
use Rattle.media_leaf.specs.LeafNode.{entry}
use Rattle.journal_scan.proofs.Contents.{Are, none_is, some_is, told_one}
use Rattle.journal_scan.proofs.content.read_attribute.Goals as goal

pub returns-in_default : goal.returns-in_default
returns-in_default c = λ sqnum group node h. absurd (none_is c.in_ok-node.field-0 _ c.in_default.is c.in_ok-node.ensures.none sqnum group node h)

pub returns : goal.returns
returns c =
    let is = some_is c.in_ok-node.field-0 c.in-Some.node (λ node. Are c.args.bytes.now (entry node)) c.in-Some.is c.in_ok-node.ensures.found in
    λ sqnum group node h. told_one c.one_node.ensures c.args.bytes.now c.content_of_entry.result (entry c.in-Some.node) (λ i. omega (arith, c.type_inv.bytes i)) is c.content_of_entry.ensures sqnum group (entry node) h
