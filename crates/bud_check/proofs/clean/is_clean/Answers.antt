use Rattle.std.proofs.Common.{ℕ, ◌≤◌, Bool, List, length, ◌++◌, ◌∷◌, [], refl, ap, arith, sym, subst, ◌∙◌}
use Rattle.std.specs.Prelude.{◌&&◌}
use Rattle.leb_scan.specs.Gathered.{IsGathered, gathered_next, gathered_none}
use Rattle.leb_scan.specs.Text.{IsLast, IsNext, tail_at}
use Rattle.ubifs_base.specs.NodeLaws.{IsBytes}
use Rattle.bud_check.proofs.CleanBuds.{is_pad, pads_next, text_clean}
use Rattle.bud_check.proofs.clean.is_clean.Goals as goal

pub loop-found-init : goal.loop-found-init
loop-found-init c =
    let bud = c.args.bud.now in
    let P : ℕ → Type 0 = λ p. IsGathered bud.bytes bud.from p [] in
    let start = c.new-scanner.ensures in
    let place = c.requires.place in
    let B : List ℕ → Type 0 = λ b. IsBytes b in
    (([], subst P (sym start) (gathered_none bud.bytes bud.from), refl), omega (arith, start, place), subst B c.as_slice-bytes.ensures (λ i. omega (arith, c.type_inv.bytes i)))

pub loop-found-preserved-then-clean : goal.loop-found-preserved-then-clean
loop-found-preserved-then-clean c =
    let bud = c.args.bud.now in
    let before = c.loop-found.invariant.0 in
    let found = c.in-Some.found in
    let same = c.as_slice-bytes.ensures in
    let E : List ℕ → Type 0 = λ b. c.next.new.self.place ≤ length b in
    let N : List ℕ → Type 0 = λ b. IsNext b c.loop-found.scanner.place c.next.new.self.place found in
    ((before.0 ++ found ∷ [], gathered_next bud.bytes bud.from c.loop-found.scanner.place c.next.new.self.place before.0 found before.1 (subst N same c.in-Some.ensures.some), pads_next before.0 found c.loop-found.clean c.is_padding-clean.result before.2 (c.is_padding-clean.ensures ∙ sym (ap (λ (b : Bool). b && is_pad found) c.if-clean.true))), subst E same c.next.ensures.within, c.loop-found.invariant.2)

pub loop-found-preserved : goal.loop-found-preserved
loop-found-preserved c =
    let bud = c.args.bud.now in
    let before = c.loop-found.invariant.0 in
    let found = c.in-Some.found in
    let same = c.as_slice-bytes.ensures in
    let E : List ℕ → Type 0 = λ b. c.next.new.self.place ≤ length b in
    let N : List ℕ → Type 0 = λ b. IsNext b c.loop-found.scanner.place c.next.new.self.place found in
    ((before.0 ++ found ∷ [], gathered_next bud.bytes bud.from c.loop-found.scanner.place c.next.new.self.place before.0 found before.1 (subst N same c.in-Some.ensures.some), pads_next before.0 found c.loop-found.clean c.loop-found.clean before.2 (c.if-clean.false ∙ sym (ap (λ (b : Bool). b && is_pad found) c.if-clean.false))), subst E same c.next.ensures.within, c.loop-found.invariant.2)

pub returns : goal.returns
returns c =
    let bud = c.args.bud.now in
    let before = c.loop-found.invariant.0 in
    let end = c.next.new.self.place in
    let L : List ℕ → Type 0 = λ b. IsLast b c.loop-found.scanner.place end (tail_at b end) in
    text_clean c.one_text.ensures bud c.loop-found.scanner.place end before.0 c.loop-found.clean c.loop-found.invariant.2 before.1 (subst L c.as_slice-bytes.ensures c.in_default.ensures.none) before.2
