use Rattle.std.proofs.Common.{ℕ, ◌<◌, arith}
use Rattle.ubifs_base.specs.RawOf.{raw_of}
use Rattle.bud_log.specs.Log.{IsLogLeb}
use Rattle.bud_log.proofs.Found.{opens_result}
use Rattle.bud_log.proofs.reading.read_log.Goals as goal

pub returns-clause-ready : goal.returns-clause-ready
returns-clause-ready g c =
    let a = g.V.Volume.state c.args.volume.now in
    let b = g.V.Volume.state c.read_from.new.volume in
    let geo = raw_of c.args.geometry.now in
    let lebs = c.requires.lebs in
    let inside : (k : ℕ) → IsLogLeb geo k → k < a.leb_cnt = λ k is. (let high = is.high in omega (arith, high, lebs)) in
    opens_result c.one_log.ensures a b geo c.args.from c.read_from.result
    (record {
      geometry = c.args.geometry.now.in_range;
      ring = c.requires.ring;
      lebs = lebs;
      bytes = λ k is. g.met.V.Volume.leb_bytes c.args.volume.now k (inside k is);
      long = λ k is. g.met.V.Volume.leb_len c.args.volume.now k (inside k is);
      shape = c.read_from.ensures.shape;
      keeps = c.read_from.ensures.keeps;
    })
    c.read_from.ensures.log
