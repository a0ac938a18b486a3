use Rattle.std.proofs.Common.{length, arith}
use Rattle.ubi_volume.specs.Volume.{IsWritten}
use Rattle.write_buffer.specs.Units.{IsPut}
use Rattle.write_buffer.proofs.Results.{on_ok}
use Rattle.write_buffer.proofs.Writes.{torn_works, units_put}
use Rattle.write_buffer.proofs.units.write_units.Goals as goal

pub returns-clause-works : goal.returns-clause-works
returns-clause-works g c = torn_works (g.V.Volume.state c.args.volume.now) (g.V.Volume.state c.write.new.self) c.args.lnum c.args.offs (length c.args.bytes.now) c.requires.settled (g.met.V.Volume.mapped_now c.args.volume.now c.args.lnum) c.write.ensures.works

pub returns-clause-done : goal.returns-clause-done
returns-clause-done g c =
    let old = g.V.Volume.state c.args.volume.now in
    let new = g.V.Volume.state c.write.new.self in
    let lnum = c.args.lnum in
    let long = g.met.V.Volume.leb_len c.args.volume.now lnum c.requires.lnum in
    let range = c.requires.range in
    on_ok c.write.result (IsWritten old new lnum c.args.offs c.args.bytes.now) (IsPut old new lnum c.args.offs c.args.bytes.now)
    (units_put old new lnum c.args.offs c.args.bytes.now c.requires.settled (g.met.V.Volume.mapped_now c.args.volume.now lnum) (omega (arith, long, range))) c.write.ensures.done

pub returns-clause-torn : goal.returns-clause-torn
returns-clause-torn g c =
    let old = g.V.Volume.state c.args.volume.now in
    let new = g.V.Volume.state c.write.new.self in
    let lnum = c.args.lnum in
    (torn_works old new lnum c.args.offs (length c.args.bytes.now) c.requires.settled (g.met.V.Volume.mapped_now c.args.volume.now lnum) c.write.ensures.works).left (new.holds lnum)
    (g.met.V.Volume.mapped_now c.write.new.self lnum (new.holds lnum) (g.met.V.Volume.holds_now c.write.new.self lnum))
