use Rattle.std.proofs.Common.{length, arith}
use Rattle.ubifs_base.specs.RawOf.{raw_of}
use Rattle.plain_backing.specs.PlainBacking.{backing_state_of}
use Rattle.script_run.proofs.Answering.{steady_next}
use Rattle.script_run.proofs.Growth.{adds_none, grown_of, no_growth, no_puts}
use Rattle.script_run.proofs.Working.{no_credits, work_files, work_kept, work_step}
use Rattle.script_run.proofs.session.work.Goals as goal

pub returns-clause-steady : goal.returns-clause-steady
returns-clause-steady c =
    let old = c.args.fs.now in
    let new = c.step-outcome.new.self in
    let step = work_step _ _ c.args.event.now c.step-outcome.result c.requires.work c.step-outcome.ensures.step in
    let works = work_files _ _ c.args.event.now c.step-outcome.result c.requires.work step in
    let issued = no_credits (backing_state_of new.backing).space.credits (length old.kept.pages.dirty) (backing_state_of old.backing).space.credits (length new.kept.pages.dirty) _ _ works.drained works.granted step.issued in
    steady_next (raw_of old.backing.geo) old.backing new.backing old.kept new.kept _ 0 c.requires.steady step.goes c.step-outcome.ensures.sure issued (omega arith)

pub returns-clause-tree : goal.returns-clause-tree
returns-clause-tree c =
    let step = work_step _ _ c.args.event.now c.step-outcome.result c.requires.work c.step-outcome.ensures.step in (work_files _ _ c.args.event.now c.step-outcome.result c.requires.work step).files.tree

pub returns-clause-kept : goal.returns-clause-kept
returns-clause-kept c =
    let step = work_step _ _ c.args.event.now c.step-outcome.result c.requires.work c.step-outcome.ensures.step in work_kept _ _ c.args.event.now c.step-outcome.result c.requires.work step

pub returns-clause-grown : goal.returns-clause-grown
returns-clause-grown c =
    let old = c.args.fs.now in
    let new = c.step-outcome.new.self in
    let event = c.args.event.now in
    let none = no_puts event c.requires.work in
    let step = work_step _ _ event c.step-outcome.result c.requires.work c.step-outcome.ensures.step in
    grown_of old.backing new.backing old.kept new.kept 0 0 0 _ (no_growth _ (backing_state_of old.backing) (backing_state_of new.backing) old.kept new.kept (adds_none event c.step-outcome.result none) step.weighed) step.goes (omega (arith, none))
