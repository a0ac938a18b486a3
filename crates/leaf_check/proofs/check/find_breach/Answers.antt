use Rattle.ubifs_base.specs.RawOf.{raw_of}
use Rattle.std.proofs.lemmas.List.Elements.{recursion_from_All}
use Rattle.sound_image.specs.Leaves.{HasItsNode, IsSoundLeaf}
use Rattle.leaf_check.proofs.Checked.{none_met, ok_then, some_broken}
use Rattle.leaf_check.proofs.check.find_breach.Goals as goal

pub wrong_leaves-requires : goal.wrong_leaves-requires
wrong_leaves-requires g c = recursion_from_All (HasItsNode (g.V.Volume.state c.args.volume.now).holds) c.args.intact.now c.requires

pub returns-clause-met : goal.returns-clause-met
returns-clause-met g c =
    let old = g.V.Volume.state c.args.volume.now in
    ok_then c.first_breach.result _ _ (λ o k. none_met (IsSoundLeaf old.holds (raw_of c.args.geometry.now) c.args.props.now) c.args.leaves.now c.in_ok-wrong.wrong.items c.args.missing.now c.extend_from_slice.new.self.items c.deref.result.now o c.deref.ensures.value c.in_ok-extend_from_slice.ensures.items c.in_ok-wrong.ensures.swept k) c.first_breach.ensures.none

pub returns-clause-broken : goal.returns-clause-broken
returns-clause-broken g c =
    let old = g.V.Volume.state c.args.volume.now in
    let now = g.V.Volume.state c.wrong_leaves.new.volume in
    ok_then c.first_breach.result _ _ (λ o k. some_broken old.holds now.holds (raw_of c.args.geometry.now) c.args.props.now c.args.missing.now c.args.leaves.now c.in_ok-wrong.wrong.items c.extend_from_slice.new.self.items c.deref.result.now o c.wrong_leaves.ensures.keeps.holds c.deref.ensures.value c.in_ok-extend_from_slice.ensures.items c.in_ok-wrong.ensures.swept k) c.first_breach.ensures.some
