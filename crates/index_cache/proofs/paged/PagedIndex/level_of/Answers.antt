use Rattle.std.proofs.Common.{length, ap, sym, ◌∙◌, arith}
use Rattle.index_media.specs.Clean.{placed_of}
use Rattle.index_media.specs.KeyedRow.{bare}
use Rattle.index_tree.specs.Levels.{levelled}
use Rattle.index_media.specs.PlacedRow.{branches_of}
use Rattle.table_nodes.specs.NodeView.{node_views, children_in}
use Rattle.index_cache.specs.Commit.{level_in}
use Rattle.index_cache.proofs.Written.{few_children}
use Rattle.index_cache.proofs.paged.PagedIndex.level_of.Goals as goal

pub returns-in-None-clause-level : goal.returns-in-None-clause-level
returns-in-None-clause-level c = sym (ap level_in c.in-None.ensures.unseen)

pub returns-in-None-clause-levels : goal.returns-in-None-clause-levels
returns-in-None-clause-levels c = ap (λ o. levelled 0 (bare (children_in o))) c.in-None.ensures.unseen

pub returns-in-Some-clause-levels : goal.returns-in-Some-clause-levels
returns-in-Some-clause-levels c =
    ap (λ o. levelled c.in-Some.found.now.level (bare (children_in o))) c.in-Some.ensures.seen ∙ c.in-Some.ensures.sound.1

pub returns-in-None-clause-most : goal.returns-in-None-clause-most
returns-in-None-clause-most c =
    let none = ap (λ o. length (branches_of (placed_of (children_in o)))) c.in-None.ensures.unseen in
    omega (arith, none)

pub returns-in-Some-clause-most : goal.returns-in-Some-clause-most
returns-in-Some-clause-most c =
    let t = c.args.self.now.table in
    let whole = ap (λ o. length (branches_of (placed_of (children_in o)))) c.in-Some.ensures.seen in
    let few = few_children t.fanout (node_views t.nodes.items) c.in-Some.found.now c.in-Some.ensures.sound in
    omega (arith, whole, few)
