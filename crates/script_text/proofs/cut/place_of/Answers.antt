use Rattle.std.proofs.Common.{arith, take, List, ℕ, sym, subst}
use Rattle.std.proofs.lemmas.List.{take_more}
use Rattle.script_text.specs.Words.{Lacks}
use Rattle.script_text.proofs.Cutting.{lacks_more}
use Rattle.script_text.proofs.cut.place_of.Goals as goal

pub loop-i-preserved : goal.loop-i-preserved
loop-i-preserved c =
    let P : List ℕ → Type 0 = λ t. Lacks c.args.byte t in
    subst P (sym (take_more c.args.bytes.now c.loop-i.i 0 (omega arith))) (lacks_more c.args.byte (take c.loop-i.i c.args.bytes.now) _ c.loop-i.invariant c.if-x-byte.false)
