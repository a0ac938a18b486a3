use Rattle.std.proofs.Common.{◌++◌, List, ap, sym, ◌∙◌}
use Rattle.std.specs.Prelude.{filter, ◌==◌}
use Rattle.index_tree.specs.Shape.{contents}
use Rattle.index_tree.specs.declared.leaf.Leaf.{Leaf}
use Rattle.index_media.specs.PlacedRow.{plain}
use Rattle.node_cache.proofs.Entered.{entered, root_said}
use Rattle.node_cache.proofs.cache.NodeCache.leaves_in.Goals as goal

pub level_at-requires : goal.level_at-requires
level_at-requires g c =
    let own = c.requires.index in
    let p = root_said (g.V.Volume.state c.args.volume.now) own.0 c.args.root.now own.1 own.2 in
    record { lnum = p.0; node = (p.1, p.2); kept = c.requires.kept }

pub push_below-requires : goal.push_below-requires
push_below-requires g c =
    let a = g.V.Volume.state c.args.volume.now in
    let b = g.V.Volume.state c.level_at.new.volume in
    let own = c.requires.index in
    let e = entered a b own.0 _ c.args.root.now own.1 own.2 c.level_at.ensures.reads.keeps c.level_at.ensures.reads.shape c.in_ok-level.ensures.level in
    record { row = (own.0, e.children, e.on); kept = c.level_at.ensures.kept }

pub returns-clause-leaves : goal.returns-clause-leaves
returns-clause-leaves g c = λ fanout placed on.
    let a = g.V.Volume.state c.args.volume.now in
    let b = g.V.Volume.state c.level_at.new.volume in
    let e = entered a b fanout _ c.args.root.now placed on c.level_at.ensures.reads.keeps c.level_at.ensures.reads.shape c.in_ok-level.ensures.level in
    c.in_ok-push_below.ensures.pushed fanout e.children e.on
    ∙ ap (λ (v : List Leaf). v ++ filter (λ x. x.lnum == c.args.lnum) (contents (plain e.children))) c.new-leaves.ensures.items
    ∙ ap (λ (v : List Leaf). filter (λ x. x.lnum == c.args.lnum) v) (sym e.leaves)
