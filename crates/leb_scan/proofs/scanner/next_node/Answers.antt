use Rattle.std.proofs.Common.{arith}
use Rattle.leb_scan.proofs.Steps.{over_word, to_end, to_node, to_padding}
use Rattle.leb_scan.proofs.scanner.next_node.Goals as goal

pub returns-in-Node-clause-some : goal.returns-in-Node-clause-some
returns-in-Node-clause-some c =
    to_node c.args.leb.now c.args.from c.loop-item.place c.behind-place.result c.in-Some.item c.in-Node.found c.loop-item.invariant.0 c.in-Some.ensures.found c.behind-place.ensures.place c.in-Node.is

pub returns-in-Padding-clause-some : goal.returns-in-Padding-clause-some
returns-in-Padding-clause-some c =
    to_padding c.args.leb.now c.args.from c.loop-item.place c.behind-place.result c.in-Some.item c.in-Padding.found c.in-Padding.pad_len c.loop-item.invariant.0 c.in-Some.ensures.found c.behind-place.ensures.place c.in-Padding.is

pub loop-item-preserved : goal.loop-item-preserved
loop-item-preserved c = (
  over_word c.args.leb.now c.args.from c.loop-item.place c.behind-place.result c.in-Some.item c.loop-item.invariant.0 c.in-Some.ensures.found c.behind-place.ensures.place c.in-Word.is,
  omega arith,
  omega arith,
)

pub returns-in_default-clause-none : goal.returns-in_default-clause-none
returns-in_default-clause-none c = to_end c.args.leb.now c.args.from c.loop-item.place c.loop-item.invariant.0 c.in_default.ensures.none
