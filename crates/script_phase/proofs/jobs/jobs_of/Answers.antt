use Rattle.std.proofs.Common.{◌≡◌, ℕ, ◌+◌, List, [], ◌∷◌, ◌++◌, length, map, All, ap, refl, sym, ◌∙◌, subst, arith, rules}
use Rattle.std.proofs.lemmas.List.{length_push, map-append}
use Rattle.std.proofs.lemmas.List.Elements.{All-nil, All-push}
use Rattle.traced_files.specs.States.{TracedPassState}
use Rattle.writeback.specs.declared.job.Job.{Job}
use Rattle.script_phase.specs.Phases.{AreNumberedFrom, ops_by}
use Rattle.script_phase.proofs.Found.{pass_of}
use Rattle.script_phase.proofs.NewJobs.{IsJobOf, all_came, one_came}
use Rattle.script_phase.proofs.jobs.jobs_of.Goals as goal

pub loop-pass-init : goal.loop-pass-init
loop-pass-init c =
    let all : c.into_iter-pass-iterator.result.rest.items ≡ c.args.passes.items = search rules in
    record {
      all = all;
      numbered = subst (AreNumberedFrom 0) (sym all) c.requires;
      passes = ap (map pass_of) c.new-jobs.ensures.items;
      ops = subst (All (IsJobOf c.args.now c.args.lines.items)) (sym c.new-jobs.ensures.items) (All-nil (IsJobOf c.args.now c.args.lines.items));
      left = λ other less. refl;
    }

pub loop-pass-preserved : goal.loop-pass-preserved
loop-pass-preserved c =
    let i = c.loop-pass.invariant in
    let pass = c.in-Some.pass in
    let parted = c.in_ok-ops.field-0 in
    let rest = c.next.new.self.rest.items in
    let next = c.in-Some.ensures.steps.0 in
    let lines = c.args.lines.items in
    let numbered = subst (AreNumberedFrom (length c.loop-pass.yielded)) next i.numbered in
    let job : Job = record { pass = pass; now = c.args.now; ops = parted.ops } in
    let number : pass.caller ≡ length c.loop-pass.yielded + 1 = numbered.0 in
    let longer = length_push c.loop-pass.yielded pass in
    let same : c.pass.inside.caller ≡ pass.caller = ap (λ (p : TracedPassState). p.caller) c.pass.view_is in
    record {
      all = one_came c.loop-pass.yielded c.loop-pass.pass-iterator.rest.items rest c.args.passes.items pass i.all next;
      numbered = subst (λ (n : ℕ). AreNumberedFrom n rest) (omega (arith, longer)) numbered.1;
      passes = ap (map pass_of) c.in_ok-push.ensures.items ∙ (map-append pass_of c.loop-pass.jobs.items (job ∷ []) ∙ ap (λ (x : List TracedPassState). x ++ pass ∷ []) i.passes);
      ops = subst (All (IsJobOf c.args.now lines)) (sym c.in_ok-push.ensures.items)
          (All-push (IsJobOf c.args.now lines) c.loop-pass.jobs.items job i.ops (refl, c.in_ok-ops.ensures.ops ∙ (ap (λ (n : ℕ). ops_by n c.loop-pass.left.items) same ∙ i.left pass.caller (omega (arith, number)))));
      left = λ other less. c.in_ok-ops.ensures.rest other (λ is. omega (arith, is, less, number, longer, same)) ∙ i.left other (omega (arith, less, longer));
    }

pub returns-clause-passes : goal.returns-clause-passes
returns-clause-passes c =
    let i = c.loop-pass.invariant in
    let none = c.in-None.ensures.steps.0 in
    i.passes ∙ all_came c.loop-pass.yielded c.loop-pass.pass-iterator.rest.items c.args.passes.items i.all (omega (arith, none))

pub returns-clause-ops : goal.returns-clause-ops
returns-clause-ops c = c.loop-pass.invariant.ops
