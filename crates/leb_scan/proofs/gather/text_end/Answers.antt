use Rattle.std.proofs.Common.{◌++◌, ◌∷◌, [], arith}
use Rattle.leb_scan.specs.Gathered.{gathered_next, gathered_end}
use Rattle.leb_scan.proofs.gather.text_end.Goals as goal

pub loop-found-preserved : goal.loop-found-preserved
loop-found-preserved c =
    let before = c.loop-found.invariant.0 in
    ((before.0 ++ c.in-Some._found ∷ [], gathered_next c.args.leb.now c.args.from c.loop-found.scanner.place c.next.new.self.place before.0 c.in-Some._found before.1 c.in-Some.ensures.some), omega arith)

pub returns : goal.returns
returns c =
    let before = c.loop-found.invariant.0 in
    let text = gathered_end c.args.leb.now c.args.from c.loop-found.scanner.place c.next.new.self.place c.place.result before.0 c.tail.result before.1 c.in_default.ensures.none c.place.ensures c.tail.ensures in
    (text.0, text.1)
