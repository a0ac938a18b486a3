use Rattle.std.proofs.Common.{◌≡◌, ℕ, ◌++◌, ◌∷◌, [], arith, rules, subst, sym}
use Rattle.leb_scan.specs.Gathered.{IsGathered}
use Rattle.ubifs_base.specs.RawOf.{raw_of}
use Rattle.leb_scan.specs.Gathered.{gathered_next, gathered_none}
use Rattle.bud_log.specs.References.{next_stands, padded_room_of, reference_there}
use Rattle.journal_check.proofs.TakenReferences.{taken_all, taken_more, taken_none, taken_other}
use Rattle.journal_check.proofs.references.take_references.Goals as goal

pub loop-found-init : goal.loop-found-init
loop-found-init c =
    let place = c.new-scanner.result.place in
    let start : place ≡ 0 = search rules in
    let P : ℕ → Type 0 = λ n. IsGathered c.args.leb.now 0 n [] in
    (([], subst P (sym start) (gathered_none c.args.leb.now 0), taken_none (raw_of c.args.geometry.now) c.args.leb.now c.args.lnum c.args.references.now.items), omega (arith, start))

pub reference_at-requires-clause-room : goal.reference_at-requires-clause-room
reference_at-requires-clause-room c = padded_room_of c.args.leb.now c.in-Some.found (next_stands c.args.leb.now c.loop-found.scanner.place c.next.new.self.place c.in-Some.found c.in-Some.ensures.some)

pub reference_at-requires-clause-there : goal.reference_at-requires-clause-there
reference_at-requires-clause-there c =
    reference_there c.args.leb.now c.in-Some.found (search rules) (next_stands c.args.leb.now c.loop-found.scanner.place c.next.new.self.place c.in-Some.found c.in-Some.ensures.some)

pub loop-found-preserved-in-Continue-1 : goal.loop-found-preserved-in-Continue-1
loop-found-preserved-in-Continue-1 c =
    let before = c.loop-found.invariant.0 in
    let found = c.in-Some.found in (
      (
        before.0 ++ found ∷ [],
        gathered_next c.args.leb.now 0 c.loop-found.scanner.place c.next.new.self.place before.0 found before.1 c.in-Some.ensures.some,
        taken_more c.one_node.ensures (raw_of c.args.geometry.now) c.args.leb.now c.args.lnum before.0 c.args.references.now.items c.loop-found.references.items c.push.new.self.items c.loop-found.first c.sooner-first.result c.misnamed_at.result found c.in-Some-reference_at.node
            (λ i. omega (arith, c.type_inv.leb i)) (search rules) c.in-Some-reference_at.ensures.some before.2 c.misnamed_at.ensures c.sooner-first.ensures (search rules),
      ),
      omega arith,
    )

pub loop-found-preserved : goal.loop-found-preserved
loop-found-preserved c =
    let before = c.loop-found.invariant.0 in
    let found = c.in-Some.found in (
      (
        before.0 ++ found ∷ [],
        gathered_next c.args.leb.now 0 c.loop-found.scanner.place c.next.new.self.place before.0 found before.1 c.in-Some.ensures.some,
        taken_other (raw_of c.args.geometry.now) c.args.leb.now c.args.lnum before.0 c.args.references.now.items c.loop-found.references.items c.loop-found.first found (search rules) before.2,
      ),
      omega arith,
    )

pub returns : goal.returns
returns c =
    let before = c.loop-found.invariant.0 in
    taken_all (raw_of c.args.geometry.now) c.args.leb.now c.args.lnum c.loop-found.scanner.place c.next.new.self.place before.0 c.args.references.now.items c.loop-found.references.items c.loop-found.first before.1 before.2 c.in_default.ensures.none
