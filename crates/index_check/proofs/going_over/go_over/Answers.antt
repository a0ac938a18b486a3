use Rattle.std.proofs.Common.{arith, refl}
use Rattle.ubifs_base.specs.RawOf.{raw_of}
use Rattle.image_check.specs.KeptLaws.{kept_start}
use Rattle.sound_image.specs.ContentsLaws.{contents_bytes}
use Rattle.index_check.specs.declared.index_walk.IndexWalk.{IndexWalk}
use Rattle.index_check.proofs.Contents.{step_moved}
use Rattle.index_check.proofs.Kept.{kept_on}
use Rattle.index_check.proofs.Walks.{less_left, next_keys, walk_broken, walk_met, walk_next, walk_start}
use Rattle.index_check.specs.IndexWalk.{wanted_of}
use Rattle.index_check.proofs.going_over.go_over.Goals as goal

pub walking-init : goal.walking-init
walking-init g c =
    let old = g.V.Volume.state c.args.volume.now in
    record { kept = kept_start old; walk = walk_start old.holds (raw_of c.args.geometry.now) c.args.master.now c.args.props.now c.in_ok-walk.walk c.in_ok-walk.ensures }

pub walk_step-requires : goal.walk_step-requires
walk_step-requires g c =
    next_keys (g.V.Volume.state c.args.volume.now).holds (raw_of c.args.geometry.now) c.args.master.now c.args.props.now c.in-Some.wanted c.walking.walk c.walking.walk.waiting.items c.pop.new.self.items c.in-Some.ensures.items c.walking.invariant.walk

pub walking-preserved : goal.walking-preserved
walking-preserved g c =
    let old = g.V.Volume.state c.args.volume.now in
    let now = g.V.Volume.state c.walking.volume in
    let new = g.V.Volume.state c.walk_step.new.volume in
    let geo = raw_of c.args.geometry.now in
    let before = c.walking.invariant in
    let popped : IndexWalk = record c.walking.walk { waiting = c.pop.new.self } in
    record {
      kept = kept_on old now new c.in_ok-walk_step.field-0 before.kept c.in_ok-walk_step.ensures.reads;
      walk =
          walk_next c.one_node.ensures old.holds geo c.args.master.now c.args.props.now c.in-Some.wanted c.walking.walk popped c.walk_step.new.walk
          (contents_bytes old (λ k less. g.met.V.Volume.leb_bytes c.args.volume.now k less) (λ k past. g.met.V.Volume.none c.args.volume.now k past)) c.in-Some.ensures.items refl refl refl
          (step_moved old.holds now.holds geo c.args.props.now (wanted_of c.in-Some.wanted) popped c.walk_step.new.walk before.kept.keeps.holds c.in_ok-walk_step.ensures.step) before.walk;
    }

pub walking-smaller : goal.walking-smaller
walking-smaller g c =
    let popped : IndexWalk = record c.walking.walk { waiting = c.pop.new.self } in
    less_left (g.V.Volume.state c.walking.volume).holds (raw_of c.args.geometry.now) c.args.props.now 65536 c.in-Some.wanted popped c.walk_step.new.walk c.walking.walk.waiting.items (omega arith) c.in-Some.ensures.items c.in_ok-walk_step.ensures.step

pub returns-in-Some-first-clause-broken : goal.returns-in-Some-first-clause-broken
returns-in-Some-first-clause-broken g c =
    walk_broken (g.V.Volume.state c.args.volume.now).holds (raw_of c.args.geometry.now) c.args.master.now c.args.props.now c.walking.walk c.in-Some-first.node (omega (arith, c.in_default.ensures.cases.0)) c.in-Some-first.is c.walking.invariant.walk

pub returns-in-None-clause-met : goal.returns-in-None-clause-met
returns-in-None-clause-met g c =
    walk_met (g.V.Volume.state c.args.volume.now).holds (raw_of c.args.geometry.now) c.args.master.now c.args.props.now c.walking.walk (record { leaves = c.walking.walk.leaves; nodes = c.walking.walk.nodes }) (omega (arith, c.in_default.ensures.cases.0)) c.in-None.is refl refl
    c.walking.invariant.walk
