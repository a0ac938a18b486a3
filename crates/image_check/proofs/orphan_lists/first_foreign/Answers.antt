use Rattle.std.proofs.Common.{ℕ, ◌++◌, ◌∷◌, [], arith, sym, subst}
use Rattle.leb_scan.specs.Gathered.{IsGathered, gathered_next, gathered_none}
use Rattle.image_check.proofs.ForeignNodes.{among_after, among_none, end_none, end_some}
use Rattle.image_check.proofs.orphan_lists.first_foreign.Goals as goal

pub loop-found-init : goal.loop-found-init
loop-found-init c =
    let P : ℕ → Type 0 = λ p. IsGathered c.args.leb.now 0 p [] in
    let start = c.new-scanner.ensures in
    (([], subst P (sym start) (gathered_none c.args.leb.now 0), among_none), omega (arith, start))

pub loop-found-preserved : goal.loop-found-preserved
loop-found-preserved c =
    let before = c.loop-found.invariant.0 in
    let found = c.in-Some.found in
    ((before.0 ++ found ∷ [], gathered_next c.args.leb.now 0 c.loop-found.scanner.place c.next.new.self.place before.0 found before.1 c.in-Some.ensures.some, among_after before.0 c.loop-found.first c.first_of-first.result found c.first_of-first.ensures before.2), omega arith)

pub returns-clause-none : goal.returns-clause-none
returns-clause-none c =
    let before = c.loop-found.invariant.0 in
    end_none c.args.leb.now c.loop-found.scanner.place c.next.new.self.place c.place.result before.0 c.loop-found.first c.tail.result c.first_or_tail.result before.1 before.2 c.in_default.ensures.none c.place.ensures c.tail.ensures c.first_or_tail.ensures

pub returns-clause-some : goal.returns-clause-some
returns-clause-some c =
    let before = c.loop-found.invariant.0 in
    end_some c.one_text.ensures c.args.leb.now c.loop-found.scanner.place c.next.new.self.place c.place.result before.0 c.loop-found.first c.tail.result c.first_or_tail.result (λ i. omega (arith, c.type_inv.leb i)) before.1 before.2 c.in_default.ensures.none c.place.ensures c.tail.ensures c.first_or_tail.ensures
