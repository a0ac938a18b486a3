use Rattle.std.proofs.Common.{◌∙◌, subst}
use Rattle.ubifs_base.specs.declared.raw_geometry.RawGeometry.{RawGeometry}
use Rattle.ubifs_base.specs.RawOf.{raw_of}
use Rattle.script_run.specs.Run.{HasGrown, ScriptRunning}
use Rattle.script_run.specs.Sessions.{mounted_over}
use Rattle.script_run.proofs.Growth.{grown_then}
use Rattle.script_run.proofs.session.commit.Goals as goal

pub returns-clause-grown : goal.returns-clause-grown
returns-clause-grown c =
    let geo = raw_of c.args.fs.now.backing.geo in
    let first = mounted_over c.args.fs.now.backing c.args.fs.now.kept 0 in
    let started = mounted_over c.work.new.fs.backing c.work.new.fs.kept 0 in
    let stepped = mounted_over c.work-2.new.fs.backing c.work-2.new.fs.kept 0 in
    let ended = mounted_over c.work-3.new.fs.backing c.work-3.new.fs.kept 0 in
    let P : RawGeometry → ScriptRunning → ScriptRunning → Type 0 = λ g a b. HasGrown g 0 0 a b in
    let once = c.work.ensures.steady.geometry in
    let twice = c.work-2.ensures.steady.geometry ∙ once in
    grown_then geo first stepped ended (grown_then geo first started stepped c.work.ensures.grown (subst (λ g. P g started stepped) once c.work-2.ensures.grown)) (subst (λ g. P g stepped ended) twice c.work-3.ensures.grown)
