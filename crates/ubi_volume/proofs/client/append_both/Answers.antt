use Rattle.std.proofs.Common.{◌≢◌, arith}
use Rattle.ubi_volume.specs.VolumeLaws.{Only-written}
use Rattle.ubi_volume.proofs.TwoWrites.{one_write, two_writes, on_ok}
use Rattle.ubi_volume.proofs.client.append_both.Goals as goal

pub returns-clause-any_moment : goal.returns-clause-any_moment
returns-clause-any_moment g c = two_writes (g.V.Volume.state c.args.volume.now) (g.V.Volume.state c.write.new.self) (g.V.Volume.state c.write-2.new.self)
    c.args.offs c.args.bytes.now (g.met.V.Volume.mapped_now c.args.volume.now) (g.met.V.Volume.mapped_now c.write.new.self) c.requires.first c.requires.second
    c.in_ok-write.ensures.done c.in_ok-write.ensures.works c.write-2.ensures.works

pub returns-in_err-write-clause-any_moment : goal.returns-in_err-write-clause-any_moment
returns-in_err-write-clause-any_moment g c = one_write (g.V.Volume.state c.args.volume.now) (g.V.Volume.state c.write.new.self)
    c.args.offs c.args.bytes.now (g.met.V.Volume.mapped_now c.args.volume.now) c.requires.first c.requires.second c.write.ensures.works

pub returns-clause-done : goal.returns-clause-done
returns-clause-done g c =
    let a = g.V.Volume.state c.args.volume.now in
    let b = g.V.Volume.state c.write.new.self in
    let end = g.V.Volume.state c.write-2.new.self in
    let sub = g.met.V.Volume.mapped_now in
    let ne12 : 1 ≢ 2 = omega arith in
    let ne21 : 2 ≢ 1 = omega arith in
    let w1 = c.in_ok-write.ensures.works in
    let w2 = c.write-2.ensures.works in
    on_ok c.write-2.result _ _ (λ d. (
      λ x is. Only-written a b 1 c.args.offs c.args.bytes.now (a.holds 1) c.requires.first (sub c.args.volume.now 1) c.in_ok-write.ensures.done x (w2.others_left 1 x ne12 is),
      Only-written b end 2 c.args.offs c.args.bytes.now (a.holds 2) (λ y is. c.requires.second y (w1.others_left 2 y ne21 is)) (sub c.write.new.self 2) d,
    )) c.write-2.ensures.done
