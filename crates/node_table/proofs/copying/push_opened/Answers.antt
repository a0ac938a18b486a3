use Rattle.std.proofs.Common.{◌≡◌, ◌∙◌, length, arith}
use Rattle.table_nodes.specs.StubLaws.{opened_none}
use Rattle.node_table.proofs.Bounded.{few_opened}
use Rattle.node_table.proofs.Counted.{taken_back}
use Rattle.node_table.proofs.copying.push_opened.Goals as goal

pub returns-in-Err-clause-opened : goal.returns-in-Err-clause-opened
returns-in-Err-clause-opened g c =
    let old = c.args.nodes.now.items in
    let same = c.len-before.ensures in
    let number : c.len-before.result ≡ length old = omega (arith, same) in
    opened_none old c.truncate.new.self.items (c.truncate.ensures.items ∙ taken_back old c.push_children.new.nodes.items c.len-before.result c.push_children.ensures.opened.added number)

pub returns-in-Err-push_zeros-clause-opened : goal.returns-in-Err-push_zeros-clause-opened
returns-in-Err-push_zeros-clause-opened g c =
    let old = c.args.nodes.now.items in
    let same = c.len-before.ensures in
    let number : c.len-before.result ≡ length old = omega (arith, same) in
    opened_none old c.truncate-in-Err-push_zeros.new.self.items
    (c.truncate-in-Err-push_zeros.ensures.items ∙ taken_back old c.push_children.new.nodes.items c.len-before.result c.push_children.ensures.opened.added number)

pub returns-in-Ok-push_zeros-clause-few : goal.returns-in-Ok-push_zeros-clause-few
returns-in-Ok-push_zeros-clause-few g c = λ few.
    let old = c.args.nodes.now.items in
    let zeros = c.in-Ok-push_zeros.ensures.pushed in
    let was = c.len-before.ensures in
    let now = c.len.ensures in
    let long = zeros.1 in
    few_opened old c.push_children.new.nodes.items c.args.most_dirty.now.items c.push_zeros.new.most_dirty.items zeros.0 c.push_children.ensures.opened zeros.2 (omega (arith, was, now, long)) few
