use Rattle.sound_image.specs.ContentsLaws.{contents_bytes}
use Rattle.leaf_check.proofs.Firsts.{some_placed}
use Rattle.leaf_check.proofs.first.first_breach.Goals as goal

pub returns-clause-some : goal.returns-clause-some
returns-clause-some g c =
    let state = g.V.Volume.state c.args.volume.now in
    some_placed state.holds c.in_ok-standing.standing c.in-Some.least c.args.wrong.now c.breach_at.result (contents_bytes state (g.met.V.Volume.leb_bytes c.args.volume.now) (g.met.V.Volume.none c.args.volume.now)) c.in_ok-standing.ensures.standing c.in-Some.ensures.least c.breach_at.ensures.some
