use Rattle.std.proofs.Common.{ℕ, List, subst, sym}
use Rattle.ubifs_base.specs.RawOf.{raw_of}
use Rattle.image_check.specs.PropertyWalk.{IsAreaOf}
use Rattle.image_check.proofs.WholeWalks.{broken_in, met_in}
use Rattle.image_check.proofs.properties.read_properties.Goals as goal

pub returns-clause-met : goal.returns-clause-met
returns-clause-met g c =
    let geo = raw_of c.args.geometry.now in
    let holds = (g.V.Volume.state c.args.volume.now).holds in
    let P : List ℕ → Type 0 = λ bytes. IsAreaOf geo holds bytes in
    met_in geo c.args.master.now holds c.deref.result.now c.in_ok-answer.answer c.requires.placed (subst P (sym c.deref.ensures.value) c.in_ok-area.ensures.area) c.in_ok-answer.ensures.met

pub returns-clause-broken : goal.returns-clause-broken
returns-clause-broken g c =
    let geo = raw_of c.args.geometry.now in
    let holds = (g.V.Volume.state c.args.volume.now).holds in
    let P : List ℕ → Type 0 = λ bytes. IsAreaOf geo holds bytes in
    broken_in geo c.args.master.now holds c.deref.result.now c.in_ok-answer.answer c.requires.placed (subst P (sym c.deref.ensures.value) c.in_ok-area.ensures.area) c.in_ok-answer.ensures.broken
