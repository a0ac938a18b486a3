use Rattle.std.proofs.Common.{◌++◌, ◌∷◌, [], arith, rules}
use Rattle.leb_scan.specs.Gathered.{gathered_next}
use Rattle.bud_log.specs.References.{next_stands, padded_room_of, reference_there, named_more, named_other, named_all}
use Rattle.bud_log.proofs.buds.name_buds.Goals as goal

pub reference_at-requires-clause-room : goal.reference_at-requires-clause-room
reference_at-requires-clause-room c = padded_room_of c.args.leb.now c.in-Some.found (next_stands c.args.leb.now c.loop-found.scanner.place c.next.new.self.place c.in-Some.found c.in-Some.ensures.some)

pub reference_at-requires-clause-there : goal.reference_at-requires-clause-there
reference_at-requires-clause-there c =
    reference_there c.args.leb.now c.in-Some.found (search rules) (next_stands c.args.leb.now c.loop-found.scanner.place c.next.new.self.place c.in-Some.found c.in-Some.ensures.some)

pub loop-found-preserved-in-Continue-1 : goal.loop-found-preserved-in-Continue-1
loop-found-preserved-in-Continue-1 c =
    let before = c.loop-found.invariant.0 in
    let found = c.in-Some.found in (
      (
        before.0 ++ found ∷ [],
        gathered_next c.args.leb.now 0 c.loop-found.scanner.place c.next.new.self.place before.0 found before.1 c.in-Some.ensures.some,
        named_more c.args.leb.now before.0 c.args.buds.now.items c.loop-found.buds.items c.name_bud.new.buds.items found c.in-Some-reference_at.node (search rules) c.in-Some-reference_at.ensures.some before.2 c.in_ok-name_bud.ensures,
      ),
      omega arith,
    )

pub loop-found-preserved : goal.loop-found-preserved
loop-found-preserved c =
    let before = c.loop-found.invariant.0 in
    let found = c.in-Some.found in (
      (
        before.0 ++ found ∷ [],
        gathered_next c.args.leb.now 0 c.loop-found.scanner.place c.next.new.self.place before.0 found before.1 c.in-Some.ensures.some,
        named_other c.args.leb.now before.0 c.args.buds.now.items c.loop-found.buds.items found (search rules) before.2,
      ),
      omega arith,
    )

pub returns : goal.returns
returns c =
    let before = c.loop-found.invariant.0 in
    named_all c.args.leb.now c.loop-found.scanner.place c.next.new.self.place before.0 c.args.buds.now.items c.loop-found.buds.items before.1 before.2 c.in_default.ensures.none
