use Rattle.std.proofs.Common.{◌++◌, ◌∷◌, [], arith, rules}
use Rattle.leb_scan.specs.Gathered.{gathered_next}
use Rattle.small_areas.proofs.LastMaster.{seen_other, seen_master, seen_some, seen_none}
use Rattle.small_areas.proofs.masters.last_found.Goals as goal

pub loop-found-preserved-then-eq : goal.loop-found-preserved-then-eq
loop-found-preserved-then-eq c =
    let before = c.loop-found.invariant.0 in
    let found = c.in-Some.found in
    ((before.0 ++ found ∷ [], gathered_next c.args.leb.now 0 c.loop-found.scanner.place c.next.new.self.place before.0 found before.1 c.in-Some.ensures.some, seen_master before.0 found (search rules)), omega arith)

pub loop-found-preserved : goal.loop-found-preserved
loop-found-preserved c =
    let before = c.loop-found.invariant.0 in
    let found = c.in-Some.found in
    ((before.0 ++ found ∷ [], gathered_next c.args.leb.now 0 c.loop-found.scanner.place c.next.new.self.place before.0 found before.1 c.in-Some.ensures.some, seen_other before.0 c.loop-found.last found (search rules) before.2), omega arith)

pub returns-clause-some : goal.returns-clause-some
returns-clause-some c = seen_some c.args.leb.now c.loop-found.scanner.place c.next.new.self.place c.loop-found.invariant.0.0 c.loop-found.last c.loop-found.invariant.0.1 c.loop-found.invariant.0.2 c.in_default.ensures.none

pub returns-clause-none : goal.returns-clause-none
returns-clause-none c = seen_none c.args.leb.now c.loop-found.scanner.place c.next.new.self.place c.loop-found.invariant.0.0 c.loop-found.last c.loop-found.invariant.0.1 c.loop-found.invariant.0.2 c.in_default.ensures.none
