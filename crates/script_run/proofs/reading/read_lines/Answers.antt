use Rattle.std.proofs.Common.{◌++◌, ◌∷◌, [], ℕ, List, sym, subst, ◌∙◌}
use Rattle.std.specs.List.{AllByRecursion}
use Rattle.fs_model.specs.declared.refusal.Cause.{Cause}
use Rattle.script_text.specs.declared.part.Part.{Part}
use Rattle.script_text.specs.Script.{IsInRange}
use Rattle.script_run.specs.Readers.{IsBackingClosed, reading_of}
use Rattle.script_run.specs.Reading.{IsReadPart, IsReadRun, reading_on}
use Rattle.script_run.proofs.ReadLines.{read_more}
use Rattle.script_run.proofs.reading.read_lines.Goals as goal

pub loop-part-preserved : goal.loop-part-preserved
loop-part-preserved c =
    let first = reading_on c.args.tree in
    let was = c.loop-part.invariant in
    let before = reading_of c.loop-part.reader in
    let after = reading_of c.in_ok-reader-2.reader in
    let next = c.in-Some.ensures.steps.0 in
    let same = was.cause in
    let step = c.in_ok-reader-2.ensures.part in
    let P : Cause → Type 0 = λ cause. IsReadPart cause before c.in-Some.part step.0 after in
    let Q : Cause → Type 0 = λ cause. IsBackingClosed cause c.in_ok-reader-2.reader.fs.backing c.in_ok-reader-2.reader.fs.kept in
    let range = subst (λ (parts : List Part). AllByRecursion IsInRange parts) next was.range in
    record {
      closed = subst Q same c.in_ok-reader-2.ensures.closed;
      cause = c.in_ok-reader-2.ensures.cause ∙ same;
      run = subst (λ (text : List ℕ). IsReadRun c.args.cause first (c.loop-part.yielded ++ c.in-Some.part ∷ []) text after) (sym step.2)
          (read_more c.args.cause first after c.loop-part.yielded c.loop-part.text.items before c.in-Some.part step.0 was.run (subst P same step.1));
      range = range.1;
    }

pub read_next-requires-clause-range : goal.read_next-requires-clause-range
read_next-requires-clause-range c = (subst (λ (parts : List Part). AllByRecursion IsInRange parts) c.in-Some.ensures.steps.0 c.loop-part.invariant.range).0
