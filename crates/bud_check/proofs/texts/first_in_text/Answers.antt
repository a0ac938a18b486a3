use Rattle.std.proofs.Common.{ℕ, ◌≤◌, List, length, ◌++◌, ◌∷◌, [], arith, sym, subst}
use Rattle.leb_scan.specs.Gathered.{IsGathered, gathered_next, gathered_none}
use Rattle.leb_scan.specs.Text.{IsLast, IsNext, tail_at}
use Rattle.ubifs_base.specs.NodeLaws.{IsBytes}
use Rattle.bud_check.specs.Findings.{IsFirstFound, IsWrongEnd, IsWrongFound}
use Rattle.bud_check.proofs.TextFirsts.{nodes_next, nodes_none, text_first}
use Rattle.bud_check.proofs.texts.first_in_text.Goals as goal

pub loop-found-init : goal.loop-found-init
loop-found-init c =
    let bud = c.args.bud.now in
    let P : ℕ → Type 0 = λ p. IsGathered bud.bytes bud.from p [] in
    let start = c.new-scanner.ensures in
    let place = c.requires.place in
    let B : List ℕ → Type 0 = λ b. IsBytes b in
    (([], subst P (sym start) (gathered_none bud.bytes bud.from), nodes_none bud.bytes bud.lnum), omega (arith, start, place), subst B c.as_slice-bytes.ensures (λ i. omega (arith, c.type_inv.bytes i)))

pub loop-found-preserved : goal.loop-found-preserved
loop-found-preserved c =
    let bud = c.args.bud.now in
    let before = c.loop-found.invariant.0 in
    let found = c.in-Some.found in
    let same = c.as_slice-bytes.ensures in
    let E : List ℕ → Type 0 = λ b. c.next.new.self.place ≤ length b in
    let N : List ℕ → Type 0 = λ b. IsNext b c.loop-found.scanner.place c.next.new.self.place found in
    let W : List ℕ → Type 0 = λ b. IsFirstFound (IsWrongFound b bud.lnum found) c.wrong_node.result in
    ((before.0 ++ found ∷ [], gathered_next bud.bytes bud.from c.loop-found.scanner.place c.next.new.self.place before.0 found before.1 (subst N same c.in-Some.ensures.some), nodes_next bud.bytes bud.lnum before.0 found c.loop-found.first c.wrong_node.result c.first_wrong-first.result c.first_wrong-first.ensures before.2 (subst W same c.wrong_node.ensures)), subst E same c.next.ensures.within, c.loop-found.invariant.2)

pub returns : goal.returns
returns c =
    let bud = c.args.bud.now in
    let before = c.loop-found.invariant.0 in
    let same = c.as_slice-bytes.ensures in
    let end = c.next.new.self.place in
    let L : List ℕ → Type 0 = λ b. IsLast b c.loop-found.scanner.place end (tail_at b end) in
    let W : List ℕ → Type 0 = λ b. IsFirstFound (IsWrongEnd b bud.lnum c.place.result) c.wrong_end.result in
    text_first c.one_text.ensures bud c.loop-found.scanner.place end c.place.result before.0 c.loop-found.first c.wrong_end.result c.first_wrong.result c.loop-found.invariant.2 before.1 (subst L same c.in_default.ensures.none) c.place.ensures c.first_wrong.ensures before.2
    (subst W same c.wrong_end.ensures)
