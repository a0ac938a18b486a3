use Rattle.std.proofs.Common.{List, sym, subst, arith}
use Rattle.leb_scan.specs.declared.found.Found.{Found}
use Rattle.leb_scan.specs.Gathered.{IsGathered, gathered_next, gathered_end}
use Rattle.leb_scan.proofs.gather.scan.Goals as goal

pub loop-found-preserved : goal.loop-found-preserved
loop-found-preserved c =
    let P : List Found → Type 0 = λ nodes. IsGathered c.args.leb.now c.args.from c.next.new.self.place nodes in
    (subst P (sym c.in_ok-push.ensures.items) (gathered_next c.args.leb.now c.args.from c.loop-found.scanner.place c.next.new.self.place c.loop-found.nodes.items c.in-Some.found c.loop-found.invariant.0 c.in-Some.ensures.some), omega arith)

pub returns : goal.returns
returns c =
    gathered_end c.args.leb.now c.args.from c.loop-found.scanner.place c.next.new.self.place c.place.result c.loop-found.nodes.items c.tail.result c.loop-found.invariant.0 c.in_default.ensures.none c.place.ensures c.tail.ensures
