use Rattle.std.proofs.Common.{◌≡◌, ◌++◌, ◌∷◌, ◌+◌, [], List, Bool, false, arith, rules, sym, subst}
use Rattle.std.specs.Prelude.{codes}
use Rattle.script_text.specs.declared.part.Part.{Part}
use Rattle.script_text.specs.Script.{IsLineOf, Leads, MayStand}
use Rattle.script_text.proofs.ScriptLines.{bad_unterminated, bad_line, script_of, leads_push, reads_push, Reads}
use Rattle.script_text.proofs.Spelling.{nothing}
use Rattle.script_text.proofs.script.read_script.Goals as goal

pub returns-in_default-clause-line : goal.returns-in_default-clause-line
returns-in_default-clause-line c =
    bad_unterminated c.args.bytes.now c.loop-before.rest.now c.loop-before.parts.items c.loop-before.mounted (c.loop-before.before + 1)
    c.loop-before.invariant.text c.loop-before.invariant.order (omega arith) c.in_default.ensures.none (omega arith)

pub returns-then-is_empty-clause-ok : goal.returns-then-is_empty-clause-ok
returns-then-is_empty-clause-ok c =
    let is : c.in-Some.line.now ≡ codes "end" = search rules in
    script_of c.args.bytes.now c.loop-before.rest.now c.in-Some.line.now c.in-Some.more.now c.loop-before.parts.items c.loop-before.mounted
    c.loop-before.invariant.text c.loop-before.invariant.order (omega arith) c.in-Some.ensures.found is (nothing c.in-Some.more.now c.is_empty.result c.is_empty.ensures c.if-is_empty.true)

pub returns-in_default-2-clause-line : goal.returns-in_default-2-clause-line
returns-in_default-2-clause-line c =
    let other : c.in-Some.line.now ≡ codes "end" → ⊥ = search rules in
    bad_line c.args.bytes.now c.loop-before.rest.now c.in-Some.line.now c.in-Some.more.now c.loop-before.parts.items c.loop-before.mounted (c.loop-before.before + 1)
    c.loop-before.invariant.text c.loop-before.invariant.order (omega arith) c.in-Some.ensures.found c.in-Some.ensures.first
    (rw c.in_default-2.is at c.in_ok-part.ensures.none) other (omega arith)

pub loop-before-preserved : goal.loop-before-preserved
loop-before-preserved c =
    let stands : MayStand c.loop-before.mounted c.in-Some-2.part = rw c.in-Some-2.is at c.in_ok-part.ensures.stands in
    let spelled : IsLineOf c.in-Some-2.part c.in-Some.line.now = rw c.in-Some-2.is at c.in_ok-part.ensures.found in
    let pushed : c.push.new.self.items ≡ c.loop-before.parts.items ++ (c.in-Some-2.part ∷ []) = c.in_ok-push.ensures.items in
    let P : List Part → Type 0 = λ ps. Reads c.args.bytes.now ps c.in-Some.more.now in
    let Q : List Part → Type 0 = λ ps. Leads false ps c.mounted_after-mounted.result in
    let R : Bool → Type 0 = λ m. Leads false (c.loop-before.parts.items ++ (c.in-Some-2.part ∷ [])) m in
    record {
      text = subst P (sym pushed) (reads_push c.loop-before.parts.items c.in-Some-2.part c.args.bytes.now c.loop-before.rest.now c.in-Some.line.now c.in-Some.more.now c.loop-before.invariant.text c.in-Some.ensures.found spelled);
      order = subst Q (sym pushed) (subst R (sym c.mounted_after-mounted.ensures) (leads_push c.loop-before.parts.items false c.loop-before.mounted c.in-Some-2.part c.loop-before.invariant.order stands));
      count = omega (arith, c.in_ok-push.ensures.len);
    }
