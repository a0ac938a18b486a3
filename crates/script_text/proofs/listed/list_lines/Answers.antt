use Rattle.std.proofs.Common.{◌≡◌, ◌+◌, ◌++◌, ◌∷◌, [], List, arith, rules, sym, subst}
use Rattle.std.specs.Prelude.{codes}
use Rattle.script_text.specs.declared.manifest_line.ManifestLine.{ManifestLine}
use Rattle.script_text.specs.ManifestLines.{IsManifestLineOf}
use Rattle.script_text.proofs.MadeLines.{ReadsMade, listed_bad, listed_end, listed_late, listed_many, listed_open, reads_made}
use Rattle.script_text.proofs.Spelling.{nothing}
use Rattle.script_text.proofs.listed.list_lines.Goals as goal

pub returns-in_default : goal.returns-in_default
returns-in_default c =
    listed_open c.args.text.now c.loop-before.rest.now c.loop-before.lines.items (c.loop-before.before + 1) c.loop-before.invariant.text (omega arith) c.in_default.ensures.none (omega arith)

pub returns-then-is_empty : goal.returns-then-is_empty
returns-then-is_empty c =
    let is : c.in-Some.line.now ≡ codes "end" = search rules in
    listed_end c.args.text.now c.loop-before.rest.now c.in-Some.line.now c.in-Some.more.now c.loop-before.lines.items c.loop-before.invariant.text (omega arith) c.in-Some.ensures.found is
    (nothing c.in-Some.more.now c.is_empty.result c.is_empty.ensures c.if-is_empty.true)

pub returns-then-eq : goal.returns-then-eq
returns-then-eq c =
    let is : c.in-Some.line.now ≡ codes "end" = search rules in
    let some : c.in-Some.more.now ≡ [] → ⊥ = search rules in
    listed_late c.args.text.now c.loop-before.rest.now c.in-Some.line.now c.in-Some.more.now c.loop-before.lines.items (c.loop-before.before + 2) c.loop-before.invariant.text (omega arith) c.in-Some.ensures.found is some (omega arith)

pub returns-in_default-2 : goal.returns-in_default-2
returns-in_default-2 c =
    let other : c.in-Some.line.now ≡ codes "end" → ⊥ = search rules in
    listed_bad c.args.text.now c.loop-before.rest.now c.in-Some.line.now c.in-Some.more.now c.loop-before.lines.items (c.loop-before.before + 1) c.loop-before.invariant.text (omega arith) c.in-Some.ensures.found c.in-Some.ensures.first
    (rw c.in_default-2.is at c.in_ok-made.ensures.none) other (omega arith)

pub loop-before-preserved : goal.loop-before-preserved
loop-before-preserved c =
    let spelled : IsManifestLineOf c.in-Some-2.made c.in-Some.line.now = rw c.in-Some-2.is at c.in_ok-made.ensures.found in
    let pushed : c.push.new.self.items ≡ c.loop-before.lines.items ++ (c.in-Some-2.made ∷ []) = c.in_ok-push.ensures.items in
    let P : List ManifestLine → Type 0 = λ ls. ReadsMade c.args.text.now ls c.in-Some.more.now in
    record {
      text = subst P (sym pushed) (reads_made c.loop-before.lines.items c.in-Some-2.made c.args.text.now c.loop-before.rest.now c.in-Some.line.now c.in-Some.more.now c.loop-before.invariant.text c.in-Some.ensures.found spelled);
      count = omega (arith, c.in_ok-push.ensures.len);
    }

pub returns : goal.returns
returns c = listed_many c.args.text.now c.loop-before.rest.now c.loop-before.lines.items 100001 c.loop-before.invariant.text (omega arith) (omega arith)
