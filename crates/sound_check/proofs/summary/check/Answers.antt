use Rattle.sound_check.proofs.Kept.{exit_reads, failed_first}
use Rattle.sound_check.proofs.summary.check.Goals as goal

pub returns-in_err-read-clause-cause : goal.returns-in_err-read-clause-cause
returns-in_err-read-clause-cause g c =
    let old = g.V.Volume.state c.args.volume.now in
    let new = g.V.Volume.state c.read_image.new.volume in
    (exit_reads old new c.in_err-read.field-0.0 c.from_residual.result c.from_residual.ensures.1 (failed_first (Unit {0}) _ old new c.in_err-read.field-0.0 c.in_err-read.ensures.keeps c.in_err-read.ensures.cause c.in_err-read.ensures.sure)).cause

pub returns-in_err-read-clause-sure : goal.returns-in_err-read-clause-sure
returns-in_err-read-clause-sure g c =
    let old = g.V.Volume.state c.args.volume.now in
    let new = g.V.Volume.state c.read_image.new.volume in
    (exit_reads old new c.in_err-read.field-0.0 c.from_residual.result c.from_residual.ensures.1 (failed_first (Unit {0}) _ old new c.in_err-read.field-0.0 c.in_err-read.ensures.keeps c.in_err-read.ensures.cause c.in_err-read.ensures.sure)).sure

pub returns-in-Ok-clause-sound : goal.returns-in-Ok-clause-sound
returns-in-Ok-clause-sound g c =
    let met = c.in_ok-read.ensures.sound in
    (met.0, met.1, c.in-Ok.ensures (g.V.Volume.state c.args.volume.now).holds met.0 met.1 met.2)
