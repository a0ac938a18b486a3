use Rattle.std.proofs.Common.{sym}
use Rattle.bud_check.proofs.TextFirsts.{node_fine, node_needs, node_type}
use Rattle.bud_check.proofs.texts.wrong_node.Goals as goal

pub returns-in-Some : goal.returns-in-Some
returns-in-Some c = node_needs c.args.leb.now c.args.lnum c.args.found c.in-Some.what c.needed_feature.result c.in-Some.is c.in-Some.ensures.some c.needed_feature.ensures.only

pub returns-then-may_stand : goal.returns-then-may_stand
returns-then-may_stand c = node_fine c.args.leb.now c.args.lnum c.args.found c.needed_feature.result c.in_default.is (sym c.if-may_stand.ensures) c.needed_feature.ensures.only

pub returns : goal.returns
returns c = node_type c.args.leb.now c.args.lnum c.type_number.result c.args.found c.needed_feature.result c.in_default.is c.type_number.ensures (sym c.if-may_stand.ensures) c.needed_feature.ensures.only
