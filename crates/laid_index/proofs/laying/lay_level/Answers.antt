use Rattle.std.proofs.Common.{rules, ◌≡◌, ℕ, ◌+◌, ◌<◌, List, [], ◌∷◌, length, Ok, Err, ap, sym, ◌∙◌, subst, arith}
use Rattle.std.specs.Prelude.{min}
use Rattle.std.proofs.lemmas.Bool.{eqb-true}
use Rattle.std.proofs.lemmas.List.{nil_from_length}
use Rattle.ubifs_base.specs.RawOf.{raw_of}
use Rattle.ubi_volume.specs.declared.fault.AreaFault.TheVariants.{Memory}
use Rattle.media_sys.specs.Index.{IsIdxNode}
use Rattle.media_sys.specs.declared.branch.Branch.{Branch}
use Rattle.laid_index.specs.Opened.{AreNodesReady, taken_after}
use Rattle.laid_index.specs.Packing.{len_over, level_lens}
use Rattle.laid_index.proofs.Answering.{answered_err, answered_memory, answered_none, answered_ok, answered_then, answered_wider, exit_answered}
use Rattle.laid_index.proofs.Levels.{IsLevelUnderWay, level_begins, level_lays, level_more, level_over, next_node, next_ready, next_within}
use Rattle.laid_index.proofs.laying.lay_level.Goals as goal

pub laying-init : goal.laying-init
laying-init g c =
    let geo = raw_of c.args.geometry.now in
    let leb = c.args.leb.now in
    let state = g.V.Volume.state c.args.volume.now in
    let P : List Branch → Type 0 = λ l. IsLevelUnderWay geo c.args.level c.args.siblings.now l c.args.siblings.now leb state.holds leb state.holds in (
      subst P (sym c.new-made.ensures.items) (level_begins geo c.args.level c.args.siblings.now leb state.holds c.requires.ready.is_open c.requires.order),
      answered_none leb.first (leb.first + length (taken_after geo leb (level_lens geo.fanout (length c.args.siblings.now)))) state 0,
    )

pub lay_node-requires-clause-geometry : goal.lay_node-requires-clause-geometry
lay_node-requires-clause-geometry g c =
    let shape = c.laying.invariant.1.shape in
    let of = c.requires.geometry in
    let count = shape.leb_cnt in
    let most = of.leb_cnt in
    record { leb_size = of.leb_size ∙ sym shape.leb_size; min_io = of.min_io ∙ sym shape.min_io; leb_cnt = omega (arith, count, most) }

pub lay_node-requires-clause-node : goal.lay_node-requires-clause-node
lay_node-requires-clause-node g c =
    let rest = c.laying.rest.now in
    let some : 0 < length rest = search rules in
    let is : c.min-n.result ≡ min (length rest) c.args.geometry.now.fanout = omega arith in
    let P : List Branch → Type 0 = λ l. IsIdxNode (record { level = c.args.level; branches = l }) in
    let wide = c.args.geometry.now.in_range.fanout in
    let three = wide.0 in
    subst P (sym c.split_at.ensures.front) (next_node c.args.level c.min-n.result c.args.geometry.now.fanout rest is some (omega (arith, three)) wide.1 c.laying.invariant.0.order)

pub lay_node-requires-clause-ready : goal.lay_node-requires-clause-ready
lay_node-requires-clause-ready g c =
    let geo = raw_of c.args.geometry.now in
    let rest = c.laying.rest.now in
    let was = (g.V.Volume.state c.args.volume.now).holds in
    let now = (g.V.Volume.state c.laying.volume).holds in
    let some : 0 < length rest = search rules in
    let is : c.min-n.result ≡ min (length rest) c.args.geometry.now.fanout = omega arith in
    let P : ℕ → Type 0 = λ n. AreNodesReady geo (len_over n ∷ []) c.laying.leb now in
    subst P (sym c.split_at.ensures.front_len)
    (next_ready geo c.args.level c.min-n.result c.args.siblings.now c.laying.made.items rest c.args.leb.now c.laying.leb was now c.args.geometry.now.in_range is some c.requires.ready c.laying.invariant.0)

pub returns-in_err-branch-clause-answer : goal.returns-in_err-branch-clause-answer
returns-in_err-branch-clause-answer g c =
    let geo = raw_of c.args.geometry.now in
    let rest = c.laying.rest.now in
    let old = c.args.leb.now in
    let leb = c.laying.leb in
    let a = g.V.Volume.state c.args.volume.now in
    let b = g.V.Volume.state c.laying.volume in
    let d = g.V.Volume.state c.lay_node.new.volume in
    let some : 0 < length rest = search rules in
    let is : c.min-n.result ≡ min (length rest) c.args.geometry.now.fanout = omega arith in
    let last = old.first + length (taken_after geo old (level_lens geo.fanout (length c.args.siblings.now))) in
    let end = leb.first + length (taken_after geo leb (len_over (length c.split_at.result.0.now) ∷ [])) in
    let size = ap (λ (n : ℕ). leb.first + length (taken_after geo leb (len_over n ∷ []))) c.split_at.ensures.front_len in
    let within = next_within geo c.args.level c.min-n.result c.args.siblings.now c.laying.made.items rest old leb a.holds b.holds c.args.geometry.now.in_range is some c.laying.invariant.0 in
    let first = c.laying.invariant.0.lays.first in
    exit_answered old.first last a d c.in_err-branch.field-0.0 c.from_residual.result c.from_residual.ensures.1
    (answered_then old.first last a b d 0 (Err c.in_err-branch.field-0.0) c.laying.invariant.1
    (answered_err old.first last b d c.in_err-branch.field-0.0 (answered_wider leb.first end old.first last b d (Err c.in_err-branch.field-0.0) (omega (arith, first)) (omega (arith, size, within)) c.in_err-branch.ensures.answer)))

pub returns-in_err-push-clause-answer : goal.returns-in_err-push-clause-answer
returns-in_err-push-clause-answer g c =
    let geo = raw_of c.args.geometry.now in
    let rest = c.laying.rest.now in
    let old = c.args.leb.now in
    let leb = c.laying.leb in
    let a = g.V.Volume.state c.args.volume.now in
    let b = g.V.Volume.state c.laying.volume in
    let d = g.V.Volume.state c.lay_node.new.volume in
    let some : 0 < length rest = search rules in
    let is : c.min-n.result ≡ min (length rest) c.args.geometry.now.fanout = omega arith in
    let last = old.first + length (taken_after geo old (level_lens geo.fanout (length c.args.siblings.now))) in
    let end = leb.first + length (taken_after geo leb (len_over (length c.split_at.result.0.now) ∷ [])) in
    let size = ap (λ (n : ℕ). leb.first + length (taken_after geo leb (len_over n ∷ []))) c.split_at.ensures.front_len in
    let within = next_within geo c.args.level c.min-n.result c.args.siblings.now c.laying.made.items rest old leb a.holds b.holds c.args.geometry.now.in_range is some c.laying.invariant.0 in
    let first = c.laying.invariant.0.lays.first in
    exit_answered old.first last a d Memory c.from_residual-in_err-push.result c.from_residual-in_err-push.ensures.1
    (answered_memory old.first last a d c.in_ok-branch.branch
    (answered_then old.first last a b d 0 (Ok c.in_ok-branch.branch) c.laying.invariant.1
    (answered_wider leb.first end old.first last b d (Ok c.in_ok-branch.branch) (omega (arith, first)) (omega (arith, size, within)) c.in_ok-branch.ensures.answer)))

pub laying-preserved : goal.laying-preserved
laying-preserved g c =
    let geo = raw_of c.args.geometry.now in
    let rest = c.laying.rest.now in
    let old = c.args.leb.now in
    let leb = c.laying.leb in
    let new = c.lay_node.new.self in
    let a = g.V.Volume.state c.args.volume.now in
    let b = g.V.Volume.state c.laying.volume in
    let d = g.V.Volume.state c.lay_node.new.volume in
    let some : 0 < length rest = search rules in
    let is : c.min-n.result ≡ min (length rest) c.args.geometry.now.fanout = omega arith in
    let own = c.split_at.result.0.now in
    let behind = c.split_at.result.1.now in
    let last = old.first + length (taken_after geo old (level_lens geo.fanout (length c.args.siblings.now))) in
    let end = leb.first + length (taken_after geo leb (len_over (length own) ∷ [])) in
    let size = ap (λ (n : ℕ). leb.first + length (taken_after geo leb (len_over n ∷ []))) c.split_at.ensures.front_len in
    let within = next_within geo c.args.level c.min-n.result c.args.siblings.now c.laying.made.items rest old leb a.holds b.holds c.args.geometry.now.in_range is some c.laying.invariant.0 in
    let first = c.laying.invariant.0.lays.first in
    let laid = c.in_ok-branch.ensures in
    let P : List Branch → Type 0 = λ l. IsLevelUnderWay geo c.args.level c.args.siblings.now l behind old a.holds new d.holds in (
      subst P (sym c.in_ok-push.ensures.items)
          (level_more geo c.args.level c.min-n.result c.args.siblings.now c.laying.made.items rest own behind c.in_ok-branch.branch old leb new a.holds b.holds d.holds c.args.geometry.now.in_range is some
          c.split_at.ensures.front c.split_at.ensures.back c.laying.invariant.0 laid.lays laid.stands laid.key),
      answered_then old.first last a b d 0 (Ok 0) c.laying.invariant.1
          (answered_ok old.first last b d c.in_ok-branch.branch 0 (answered_wider leb.first end old.first last b d (Ok c.in_ok-branch.branch) (omega (arith, first)) (omega (arith, size, within)) laid.answer)),
    )

pub returns-clause-lays : goal.returns-clause-lays
returns-clause-lays g c =
    let none : c.laying.rest.now ≡ [] = nil_from_length c.laying.rest.now (eqb-true (length c.laying.rest.now) 0 (sym c.is_empty.ensures ∙ c.laying-test.false)) in
    level_lays (raw_of c.args.geometry.now) c.args.level c.args.siblings.now c.laying.made.items c.laying.rest.now c.args.leb.now c.laying.leb (g.V.Volume.state c.args.volume.now).holds (g.V.Volume.state c.laying.volume).holds
    none c.laying.invariant.0

pub returns-clause-over : goal.returns-clause-over
returns-clause-over g c =
    let none : c.laying.rest.now ≡ [] = nil_from_length c.laying.rest.now (eqb-true (length c.laying.rest.now) 0 (sym c.is_empty.ensures ∙ c.laying-test.false)) in
    level_over (raw_of c.args.geometry.now) c.args.level c.args.siblings.now c.laying.made.items c.laying.rest.now c.args.leb.now c.laying.leb (g.V.Volume.state c.args.volume.now).holds (g.V.Volume.state c.laying.volume).holds
    none c.laying.invariant.0

pub returns-clause-stand : goal.returns-clause-stand
returns-clause-stand g c = c.laying.invariant.0.stand

pub returns-clause-answer : goal.returns-clause-answer
returns-clause-answer g c =
    let old = c.args.leb.now in
    let geo = raw_of c.args.geometry.now in
    answered_ok old.first (old.first + length (taken_after geo old (level_lens geo.fanout (length c.args.siblings.now)))) (g.V.Volume.state c.args.volume.now) (g.V.Volume.state c.laying.volume) 0 _ c.laying.invariant.1
