use Rattle.std.proofs.Common.{arith, rules}
use Rattle.leb_scan.proofs.Places.{no_node, not_word, none_padding}
use Rattle.leb_scan.proofs.item_at.item_at.Goals as goal

pub returns-in_default-clause-none : goal.returns-in_default-clause-none
returns-in_default-clause-none c =
    no_node c.args.leb.now c.args.place (not_word c.args.leb.now c.split_at.result.1.now c.args.place c.begins_with_padding.result c.split_at.ensures.back c.begins_with_padding.ensures.1 c.if-begins_with_padding.false) c.in_default.ensures.none

pub returns-clause-none : goal.returns-clause-none
returns-clause-none c =
    let leb = c.args.leb.now in
    let word = not_word leb c.split_at.result.1.now c.args.place c.begins_with_padding.result c.split_at.ensures.back c.begins_with_padding.ensures.1 c.if-begins_with_padding.false in
    let stands = c.in-Some.ensures.found in
    none_padding leb c.args.place c.in-Some.found stands.0 c.padding_at.result (λ i. omega (arith, c.type_inv.leb i)) word stands.1 (search rules) c.padding_at.ensures.none
