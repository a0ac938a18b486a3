use Rattle.std.proofs.Common.{◌≡◌, ap, sym, ◌∙◌}
use Rattle.std.proofs.lemmas.Result.{IfOk-weaker}
use Rattle.index_tree.specs.Removal.{holds}
use Rattle.index_tree.specs.Shape.{contents}
use Rattle.index_media.specs.PlacedRow.{plain}
use Rattle.node_cache.proofs.Entered.{entered, root_said}
use Rattle.node_cache.proofs.cache.NodeCache.holds.Goals as goal

pub level_at-requires : goal.level_at-requires
level_at-requires g c =
    let own = c.requires.index in
    let p = root_said (g.V.Volume.state c.args.volume.now) own.0 c.args.root.now own.1 own.2 in
    record { lnum = p.0; node = (p.1, p.2); kept = c.requires.kept }

pub holds_below-requires : goal.holds_below-requires
holds_below-requires g c =
    let a = g.V.Volume.state c.args.volume.now in
    let b = g.V.Volume.state c.level_at.new.volume in
    let own = c.requires.index in
    let e = entered a b own.0 _ c.args.root.now own.1 own.2 c.level_at.ensures.reads.keeps c.level_at.ensures.reads.shape c.in_ok-level.ensures.level in
    record { row = (own.0, e.children, e.on); kept = c.level_at.ensures.kept }

pub returns-clause-found : goal.returns-clause-found
returns-clause-found g c = λ fanout placed on.
    let a = g.V.Volume.state c.args.volume.now in
    let b = g.V.Volume.state c.level_at.new.volume in
    let e = entered a b fanout _ c.args.root.now placed on c.level_at.ensures.reads.keeps c.level_at.ensures.reads.shape c.in_ok-level.ensures.level in
    IfOk-weaker c.holds_below.result (λ r. r ≡ holds c.args.leaf.now (contents (plain e.children))) (λ r. r ≡ holds c.args.leaf.now (contents (plain placed)))
    (λ r h. h ∙ sym (ap (holds c.args.leaf.now) e.leaves)) (c.holds_below.ensures.found fanout e.children e.on)
