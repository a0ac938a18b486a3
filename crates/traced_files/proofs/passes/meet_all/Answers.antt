use Rattle.std.proofs.Common.{◌≡◌, List, All, ◌∙◌, subst, arith}
use Rattle.std.proofs.lemmas.List.Elements.{All-push}
use Rattle.fs_model.specs.declared.trace.TraceLine.{TraceLine}
use Rattle.traced_files.specs.States.{TracedPassState}
use Rattle.traced_files.specs.Calls.{StandsInTrace}
use Rattle.traced_files.proofs.Passing.{all_came, one_came, holds_next}
use Rattle.traced_files.proofs.passes.meet_all.Goals as goal

pub meet_one-requires : goal.meet_one-requires
meet_one-requires c =
    let i = c.loop-pass.invariant in
    (i.0, holds_next (λ (p : TracedPassState). p.word ≡ c.args.word.now) c.loop-pass.yielded c.loop-pass.pass-iterator.rest.items c.next.new.self.rest.items c.args.passes.items c.in-Some.pass i.2 c.in-Some.ensures.steps.0 c.requires.passes)

pub loop-pass-preserved : goal.loop-pass-preserved
loop-pass-preserved c =
    let i = c.loop-pass.invariant in
    let met = c.meet_one.ensures in (
      met.recorder.0,
      met.recorder.1 ∙ i.1,
      one_came c.loop-pass.yielded c.loop-pass.pass-iterator.rest.items c.next.new.self.rest.items c.args.passes.items c.in-Some.pass i.2 c.in-Some.ensures.steps.0,
      All-push (λ (p : TracedPassState). StandsInTrace c.args.recorder.now.known.seen p) c.loop-pass.yielded c.in-Some.pass i.3 (subst (λ (t : List TraceLine). StandsInTrace t c.in-Some.pass) i.1 met.pass),
    )

pub returns-clause-passes : goal.returns-clause-passes
returns-clause-passes c =
    let i = c.loop-pass.invariant in
    let none = c.in-None.ensures.steps.0 in
    subst (All (λ (p : TracedPassState). StandsInTrace c.args.recorder.now.known.seen p)) (all_came c.loop-pass.yielded c.loop-pass.pass-iterator.rest.items c.args.passes.items i.2 (omega (arith, none))) i.3
