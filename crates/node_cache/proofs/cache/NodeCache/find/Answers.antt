use Rattle.std.proofs.Common.{◌+◌, refl, ap, sym, ◌∙◌}
use Rattle.std.specs.Prelude.{slice_get}
use Rattle.index_tree.specs.Order.{of_rank}
use Rattle.index_tree.specs.Shape.{contents}
use Rattle.index_media.specs.PlacedRow.{branches_of, plain}
use Rattle.node_cache.specs.FirstAt.{root_leaves}
use Rattle.node_cache.specs.RowsOn.{below, root_on, row_as, row_moved}
use Rattle.node_cache.specs.declared.nth.Nth.TheVariants.{Found, Fewer}
use Rattle.node_cache.proofs.Finding.{as_found, none_past}
use Rattle.node_cache.proofs.cache.NodeCache.find.Goals as goal

pub level_at-requires : goal.level_at-requires
level_at-requires g c =
    let a = g.V.Volume.state c.args.volume.now in
    let own = c.requires.index in
    let r = root_on a own.0 c.args.root.now own.1 own.2 in
    let p = below a own.0 r.level c.args.root.now r.children r.on in
    record { lnum = p.lnum; node = (record { level = r.level; branches = branches_of r.children }, p.said); kept = c.requires.kept }

pub find_below-requires : goal.find_below-requires
find_below-requires g c =
    let a = g.V.Volume.state c.args.volume.now in
    let b = g.V.Volume.state c.level_at.new.volume in
    let own = c.requires.index in
    let r = root_on a own.0 c.args.root.now own.1 own.2 in
    let p = below a own.0 r.level c.args.root.now r.children r.on in
    let level = c.in_ok-level.ensures.level (record { level = r.level; branches = branches_of r.children }) p.said in
    let on = row_moved a b own.0 (r.level + 1) _ c.level_at.ensures.reads.keeps c.level_at.ensures.reads.shape r.on in
    record { row = (own.0, r.children, row_as b own.0 own.0 (r.level + 1) _ _ refl (ap (λ n. n + 1) level) on); kept = c.level_at.ensures.kept }

pub returns-in-Found-clause-found : goal.returns-in-Found-clause-found
returns-in-Found-clause-found g c = λ fanout placed on.
    let a = g.V.Volume.state c.args.volume.now in
    let b = g.V.Volume.state c.level_at.new.volume in
    let r = root_on a fanout c.args.root.now placed on in
    let p = below a fanout r.level c.args.root.now r.children r.on in
    let level = c.in_ok-level.ensures.level (record { level = r.level; branches = branches_of r.children }) p.said in
    let moved = row_moved a b fanout (r.level + 1) _ c.level_at.ensures.reads.keeps c.level_at.ensures.reads.shape r.on in
    let found = as_found (contents (plain r.children)) c.rank.result c.args.nth c.in_ok-leaf.field-0 (Found c.in-Found.leaf) c.in-Found.is (c.in_ok-leaf.ensures.found fanout r.children (row_as b fanout fanout (r.level + 1) _ _ refl (ap (λ n. n + 1) level) moved)) in
    sym (ap (λ k. slice_get (of_rank k (contents (plain placed))) c.args.nth) (sym c.rank.ensures) ∙ ap (λ v. slice_get (of_rank c.rank.result v) c.args.nth) (root_leaves placed r.children c.args.root.now r.is) ∙ found)

pub returns-in-Fewer-clause-found : goal.returns-in-Fewer-clause-found
returns-in-Fewer-clause-found g c = λ fanout placed on.
    let a = g.V.Volume.state c.args.volume.now in
    let b = g.V.Volume.state c.level_at.new.volume in
    let r = root_on a fanout c.args.root.now placed on in
    let p = below a fanout r.level c.args.root.now r.children r.on in
    let level = c.in_ok-level.ensures.level (record { level = r.level; branches = branches_of r.children }) p.said in
    let moved = row_moved a b fanout (r.level + 1) _ c.level_at.ensures.reads.keeps c.level_at.ensures.reads.shape r.on in
    let few = as_found (contents (plain r.children)) c.rank.result c.args.nth c.in_ok-leaf.field-0 (Fewer c.in-Fewer.field-0) c.in-Fewer.is (c.in_ok-leaf.ensures.found fanout r.children (row_as b fanout fanout (r.level + 1) _ _ refl (ap (λ n. n + 1) level) moved)) in
    sym (ap (λ k. slice_get (of_rank k (contents (plain placed))) c.args.nth) (sym c.rank.ensures) ∙ ap (λ v. slice_get (of_rank c.rank.result v) c.args.nth) (root_leaves placed r.children c.args.root.now r.is)
    ∙ none_past (of_rank c.rank.result (contents (plain r.children))) c.args.nth c.in-Fewer.field-0 few)
