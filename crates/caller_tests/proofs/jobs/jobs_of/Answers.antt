use Rattle.std.proofs.Common.{◌≡◌, List, [], ◌∷◌, ◌++◌, map, All, ap, sym, ◌∙◌, subst, arith, rules}
use Rattle.std.proofs.lemmas.List.{map-append}
use Rattle.std.proofs.lemmas.List.Elements.{All-nil, All-push}
use Rattle.traced_files.specs.States.{TracedPassState}
use Rattle.caller_tests.proofs.FreshJobs.{HasCalls, all_came, one_came, pass_of}
use Rattle.caller_tests.proofs.jobs.jobs_of.Goals as goal

pub loop-pass-init : goal.loop-pass-init
loop-pass-init c = (search rules, ap (map pass_of) c.new-jobs.ensures.items, subst (All HasCalls) (sym c.new-jobs.ensures.items) (All-nil HasCalls))

pub loop-pass-preserved : goal.loop-pass-preserved
loop-pass-preserved c =
    let i = c.loop-pass.invariant in
    let job = c.in_ok-job_of.field-0 in (
      one_came c.loop-pass.yielded c.loop-pass.pass-iterator.rest.items c.next.new.self.rest.items c.args.passes.items c.in-Some.pass i.0 c.in-Some.ensures.steps.0,
      ap (map pass_of) c.in_ok-push.ensures.items ∙ (map-append pass_of c.loop-pass.jobs.items (job ∷ []) ∙ ap (λ (x : List TracedPassState × TracedPassState). x.0 ++ x.1 ∷ []) (λ k. (i.1 k, c.in_ok-job_of.ensures.pass k))),
      subst (All HasCalls) (sym c.in_ok-push.ensures.items) (All-push HasCalls c.loop-pass.jobs.items job i.2 c.in_ok-job_of.ensures.ops),
    )

pub returns-clause-passes : goal.returns-clause-passes
returns-clause-passes c =
    let i = c.loop-pass.invariant in
    let none = c.in-None.ensures.steps.0 in
    i.1 ∙ all_came c.loop-pass.yielded c.loop-pass.pass-iterator.rest.items c.args.passes.items i.0 (omega (arith, none))

pub returns-clause-ops : goal.returns-clause-ops
returns-clause-ops c = c.loop-pass.invariant.2
