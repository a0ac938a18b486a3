use Rattle.small_areas.proofs.OrphanLists.{next_stands, to_end, to_next}
use Rattle.small_areas.proofs.orphans.gather.Goals as goal

pub take_numbers-requires : goal.take_numbers-requires
take_numbers-requires c = next_stands c.args.leb.now c.loop-found.scanner.place c.next.new.self.place c.in-Some.found c.in-Some.ensures.some

pub loop-found-preserved : goal.loop-found-preserved
loop-found-preserved c = (
  to_next c.args.leb.now c.loop-found.scanner.place c.next.new.self.place c.in-Some.found c.args.inos.now.items c.loop-found.inos.items c.take_numbers.new.inos.items c.loop-found.invariant.0 c.in-Some.ensures.some c.in_ok-take_numbers.ensures,
  c.next.ensures.within,
)

pub returns : goal.returns
returns c = to_end c.args.leb.now c.loop-found.scanner.place c.next.new.self.place c.args.inos.now.items c.loop-found.inos.items c.loop-found.invariant.0 c.in_default.ensures.none
