use Rattle.std.proofs.Common.{◌≡◌, ◌+◌, ◌*◌, arith, length, refl, sym, ◌∙◌}
use Rattle.plain_backing.specs.PlainBacking.{backing_state_of}
use Rattle.vfs_ops.specs.declared.event.Outcome.TheVariants.{Replied}
use Rattle.vfs_ops.specs.Steps.{Passage}
use Rattle.script_run.specs.Reading.{Reading}
use Rattle.script_run.specs.Readers.{seen_over}
use Rattle.script_run.proofs.Answering.{told_of}
use Rattle.script_run.proofs.Closed.{answered_closed, light_after, mode_after}
use Rattle.script_run.proofs.reader.read_replied.Goals as goal

pub stepped-reply-requires-clause-grant : goal.stepped-reply-requires-clause-grant
stepped-reply-requires-clause-grant c =
    let light : (backing_state_of c.args.fs.now.backing).space.weight + 2 * length c.args.fs.now.kept.pages.dirty ≡ 0 = c.requires.closed.light in
    omega (arith, light)

pub returns-clause-closed : goal.returns-clause-closed
returns-clause-closed c =
    let old = backing_state_of c.args.fs.now.backing in
    let new = backing_state_of c.stepped-reply.new.fs.backing in
    let before = c.args.fs.now.kept in
    let after = c.stepped-reply.new.fs.kept in
    let reply = c.stepped-reply.result in
    let left = c.stepped-reply.ensures.step.0 in
    let step = c.stepped-reply.ensures.step.1 in
    let passage : Passage = record { old = old; new = new; before = before; after = after } in
    let told = told_of old new before after _ _ c.args.caller c.args.now c.args.op (Replied reply left) reply left refl step.answered in
    record {
      mode = mode_after _ c.args.cause old new step.goes c.requires.closed.mode;
      light = light_after c.args.cause passage c.args.caller c.args.now left c.args.op reply _ _ c.requires.closed.mode (sym c.is_fault.ensures ∙ c.if-is_fault.false) c.requires.closed.light told.0 step.weighed;
    }

pub returns-clause-replied : goal.returns-clause-replied
returns-clause-replied c = λ mounted numbers.
    let old = backing_state_of c.args.fs.now.backing in
    let new = backing_state_of c.stepped-reply.new.fs.backing in
    let before = c.args.fs.now.kept in
    let after = c.stepped-reply.new.fs.kept in
    let reply = c.stepped-reply.result in
    let left = c.stepped-reply.ensures.step.0 in
    let told = told_of old new before after _ _ c.args.caller c.args.now c.args.op (Replied reply left) reply left refl c.stepped-reply.ensures.step.1.answered in
    let was : Reading = record { files = seen_over c.args.fs.now.backing before; mounted = mounted; now = c.args.now; numbers = numbers } in
    answered_closed c.args.cause old new after was c.args.caller c.args.op reply _ _ c.requires.closed.mode (sym c.is_fault.ensures ∙ c.if-is_fault.false) told.0
