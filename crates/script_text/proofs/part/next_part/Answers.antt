use Rattle.std.proofs.Common.{◌≡◌, rules, arith, sym, ◌∙◌, false}
use Rattle.std.proofs.lemmas.Bool.{false≢true}
use Rattle.script_text.proofs.PartLines.{no_caller, of_caller}
use Rattle.script_text.proofs.part.next_part.Goals as goal
use Rattle.script_text.proofs.part.next_part.Goals.{then-not-mounted-via-then-not-mounted, then-not-mounted-via-else-not-mounted+then-caller-eq0}

pub returns-then-not-mounted-clause-none : goal.returns-then-not-mounted-clause-none
returns-then-not-mounted-clause-none c =
    no_caller c.args.mounted c.args.line.now c.in-Some.caller c.in-Some.words.now c.in-Some.ensures.within c.in-Some.ensures.found
    (λ mounted some. elim c.then-not-mounted.branch [
      | then-not-mounted-via-then-not-mounted w ↦ let off : c.args.mounted ≡ false = search rules in false≢true (sym off ∙ mounted)
      | then-not-mounted-via-else-not-mounted+then-caller-eq0 w ↦ let none : c.in-Some.caller ≡ 0 = search rules in omega (arith, none, some)
    ])

pub returns-in_default-2-clause-none : goal.returns-in_default-2-clause-none
returns-in_default-2-clause-none c =
    let none = rw c.in_default-2.is at c.in_ok-op.ensures.none in
    λ part stands h.
    let is = of_caller part c.args.line.now c.in-Some.caller c.in-Some.words.now c.in-Some.ensures.within c.in-Some.ensures.found h in
    none is.0 is.2
