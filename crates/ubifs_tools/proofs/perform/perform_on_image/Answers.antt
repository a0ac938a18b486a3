use Rattle.std.proofs.Common.{subst}
use Rattle.ubifs_tools.specs.Performed.{IsRunOn}
use Rattle.ubifs_tools.specs.declared.beginning.RunOn.{RunOn}
use Rattle.ubifs_tools.proofs.Performing.{bad_script, image_done, no_error}
use Rattle.ubifs_tools.proofs.perform.perform_on_image.Goals as goal

pub returns-in-Err : goal.returns-in-Err
returns-in-Err g c = λ old new.
    bad_script c.in-Err.fault c.args.image.items c.args.script.now c.in_ok-line-in-Err.line.items c.as_slice.result.now c.as_slice.ensures (λ begins. absurd (c.requires begins)) c.in-Err.ensures.line c.in_ok-line-in-Err.ensures.line
    (λ e. no_error c.bad_text_line.result c.in_ok-line-in-Err.line c.in_ok-line-in-Err.was (c.bad_text_line.ensures.memory e))

pub run_on-requires-clause-range : goal.run_on-requires-clause-range
run_on-requires-clause-range g c κs within = c.parts_are_in_range.ensures c.args.script.now c.in-Ok.script.parts.items c.in-Ok.ensures.ok

pub returns-in-Unsound : goal.returns-in-Unsound
returns-in-Unsound g c = λ old new.
    let P : RunOn → Type 0 = λ r. IsRunOn c.args.image.items c.in-Ok.script.parts.items r in
    record { parts = c.in-Ok.script.parts.items; script = c.in-Ok.ensures.ok; no_text = c.requires; unsound = subst P c.in-Unsound.is c.in_ok-line.ensures }

pub returns-in-Ended : goal.returns-in-Ended
returns-in-Ended g c = λ old new.
    let P : RunOn → Type 0 = λ r. IsRunOn c.args.image.items c.in-Ok.script.parts.items r in
    image_done old c.args.image.items c.args.script.now c.in-Ok.script.parts.items c.in-Ended.output.text.items c.in-Ended.output.image.items c.requires c.in-Ok.ensures.ok (subst P c.in-Ended.is c.in_ok-line.ensures)
