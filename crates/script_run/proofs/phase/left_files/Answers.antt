use Rattle.std.proofs.Common.{◌≡◌, ◌++◌, List, ap, refl, rules, ◌∙◌}
use Rattle.fs_model.specs.declared.trace.TraceLine.{TraceLine}
use Rattle.script_run.specs.Phases.{trace_text}
use Rattle.script_run.proofs.phase.left_files.Goals as goal

pub returns-clause-files : goal.returns-clause-files
returns-clause-files c = refl

pub returns-clause-printed : goal.returns-clause-printed
returns-clause-printed c =
    let same : c.as_slice.result.now ≡ c.args.closed.trace.items = search (rules, c.as_slice.ensures) in
    c.in_ok-write_trace.ensures ∙ ap (λ (t : List TraceLine). c.args.text.now.items ++ trace_text t) same
