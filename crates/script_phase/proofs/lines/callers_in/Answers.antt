use Rattle.std.proofs.Common.{◌≡◌, ℕ, suc, ◌+◌, Bool, true, false, List, sym, ap, ◌∙◌, arith}
use Rattle.std.specs.Prelude.{◌==◌, if◌then◌else◌}
use Rattle.std.specs.List.{list_any}
use Rattle.script_phase.specs.declared.lines.CallerLine.{CallerLine}
use Rattle.script_phase.specs.Phases.{callers_to}
use Rattle.script_phase.proofs.lines.callers_in.Goals.{then-has_line, else-has_line}
use Rattle.script_phase.proofs.lines.callers_in.Goals as goal

-- one caller more
next : (n : ℕ) (lines : List CallerLine) (b : Bool) → list_any (λ (line : CallerLine). line.caller == suc n) lines ≡ b → callers_to (n + 1) lines ≡ callers_to n lines + (if b then 1 else 0)
next n lines b is =
    let one_more : n + 1 ≡ suc n = omega arith in
    ap (λ (m : ℕ). callers_to m lines) one_more ∙ ap (λ (x : Bool). callers_to n lines + (if x then 1 else 0)) is

pub loop-index-preserved : goal.loop-index-preserved
loop-index-preserved c =
    let n : ℕ = c.loop-index.index in
    let lines : List CallerLine = c.args.lines.now in
    let one_more : suc n ≡ n + 1 = omega arith in
    let told : list_any (λ (line : CallerLine). line.caller == suc n) lines ≡ c.has_line.result = ap (λ (m : ℕ). list_any (λ (line : CallerLine). line.caller == m) lines) one_more ∙ sym c.has_line.ensures in
    let was = c.loop-index.invariant.0 in
    let few = c.loop-index.invariant.1 in
    elim c.if-has_line.branch [
      | then-has_line w ↦
          let one = next n lines true (told ∙ w.if-has_line.true) in
          let is = w.count-is in
          (omega (arith, one, was, is), omega (arith, is, few))
      | else-has_line w ↦
          let one = next n lines false (told ∙ w.if-has_line.false) in
          let is = w.count-is in
          (omega (arith, one, was, is), omega (arith, is, few))
    ]
