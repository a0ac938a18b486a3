use Rattle.std.proofs.Common.{◌<◌, ◌∷◌, [], length, ap, sym, ◌∙◌, arith, length-drop}
use Rattle.index_tree.specs.Order.{first_after}
use Rattle.index_tree.specs.Shape.{contents}
use Rattle.index_tree.specs.declared.leaf.Leaf.{Leaf}
use Rattle.index_media.specs.PlacedRow.{branches_of, plain}
use Rattle.media_sys.specs.Index.{Index}
use Rattle.node_cache.specs.FirstAt.{first_at, only_leaf, only_node, no_leaf}
use Rattle.node_cache.specs.RowsOn.{below, row_moved}
use Rattle.node_cache.proofs.Following.{after_behind, after_in_front, after_ok, after_passed}
use Rattle.node_cache.proofs.KeptNodes.{node_of}
use Rattle.node_cache.proofs.Passed.{behind}
use Rattle.node_cache.proofs.cache.NodeCache.+following.Goals as goal

-- ---- below a node
pub after_below-take-requires : goal.after_below-take-requires
after_below-take-requires g t c =
    let own = c.requires.row in
    let p = below (g.V.Volume.state c.args.volume.now) own.0 c.args.level c.args.branch.now own.1 own.2 in
    record { lnum = p.lnum; node = (record { level = c.args.level; branches = branches_of own.1 }, p.said); kept = c.requires.kept }

pub after_below-after_among-found-requires : goal.after_below-after_among-found-requires
after_below-after_among-found-requires g t c κs inside =
    let a = g.V.Volume.state c.args.volume.now in
    let b = g.V.Volume.state c.take.new.volume in
    let own = c.requires.row in
    let p = below a own.0 c.args.level c.args.branch.now own.1 own.2 in
    let took = c.in_ok-node.ensures in
    let said = took.said (record { level = c.args.level; branches = branches_of own.1 }) p.said in
    let all = c.as_slice-branches.result.now in
    let branches = sym (ap (λ (i : Index). i.branches) said) ∙ sym c.as_slice-branches.ensures.value in
    let n = c.branches_passed.result in
    let q = behind a b own.0 c.args.level c.args.at c.args.branch.now own.1 all n own.2 took.reads.keeps took.reads.shape branches c.branches_passed.ensures.begins in
    let few = took.few in
    let long = ap length c.as_slice-branches.ensures.value in
    let cut = length-drop n all in
    let short = ap length c.split_at.ensures.back in
    (omega (arith, few, long, cut, short, c.decreases), (inside, ((own.0, q.others, q.branches ∙ sym c.split_at.ensures.back, q.on), took.kept)))

pub after_below-returns-clause-found : goal.after_below-returns-clause-found
after_below-returns-clause-found g t c = λ fanout row on.
    let a = g.V.Volume.state c.args.volume.now in
    let b = g.V.Volume.state c.take.new.volume in
    let at = c.args.at in
    let p = below a fanout c.args.level c.args.branch.now row on in
    let took = c.in_ok-node.ensures in
    let said = took.said (record { level = c.args.level; branches = branches_of row }) p.said in
    let all = c.as_slice-branches.result.now in
    let branches = sym (ap (λ (i : Index). i.branches) said) ∙ sym c.as_slice-branches.ensures.value in
    let n = c.branches_passed.result in
    let q = behind a b fanout c.args.level at c.args.branch.now row all n on took.reads.keeps took.reads.shape branches c.branches_passed.ensures.begins in
    after_ok c.after_among-found.result (first_after at (contents (plain q.others))) (first_after at (contents (plain row)))
    (after_passed at (contents (plain row)) q.front (contents (plain q.others)) q.is q.within)
    (c.after_among-found.ensures.found fanout q.others (q.branches ∙ sym c.split_at.ensures.back) q.on)

pub after_below-returns-clause-kept : goal.after_below-returns-clause-kept
after_below-returns-clause-kept g t c =
    let old = (g.V.Volume.state c.args.volume.now).holds in
    let new = (g.V.Volume.state c.after_among-found.new.volume).holds in
    c.keep.ensures.kept new c.after_among-found.ensures.kept
    (node_of old new c.args.branch.now c.in_ok-node.node (λ k. c.after_among-found.ensures.reads.keeps.holds k ∙ c.take.ensures.reads.keeps.holds k) c.in_ok-node.ensures.said)

-- ---- among branches
pub after_among-returns-in-None-clause-found : goal.after_among-returns-in-None-clause-found
after_among-returns-in-None-clause-found g t c = λ fanout row e on.
    sym (ap (first_after c.args.at) (no_leaf row c.args.branches.now e c.in-None.ensures.cases))

pub after_among-after_among-requires : goal.after_among-after_among-requires
after_among-after_among-requires g t c κs inside =
    let a = g.V.Volume.state c.args.volume.now in
    let own = c.requires.row in
    let is = c.in-Some.ensures.cases.0 in
    let p = first_at a own.0 c.args.levels own.1 c.in-Some.branch.now c.in-Some.rest.now (own.2 ∙ is) own.3 in
    let long = ap length is in
    (omega (arith, long, c.decreases), (inside, ((own.0, p.others, p.branches, p.on), c.requires.kept)))

pub after_among-returns-then-begin_within-clause-found : goal.after_among-returns-then-begin_within-clause-found
after_among-returns-then-begin_within-clause-found g t c = λ fanout row e on.
    let a = g.V.Volume.state c.args.volume.now in
    let at = c.args.at in
    let p = first_at a fanout c.args.levels row c.in-Some.branch.now c.in-Some.rest.now (e ∙ c.in-Some.ensures.cases.0) on in
    after_ok c.after_among.result (first_after at (contents (plain p.others))) (first_after at (contents (plain row)))
    (after_passed at (contents (plain row)) (contents (plain p.alone)) (contents (plain p.others)) p.is (p.within at (sym c.begin_within.ensures ∙ c.if-begin_within.true)))
    (c.after_among.ensures.found fanout p.others p.branches p.on)

pub after_among-after_at-requires : goal.after_among-after_at-requires
after_among-after_at-requires g t c κs inside =
    let a = g.V.Volume.state c.args.volume.now in
    let own = c.requires.row in
    let is = c.in-Some.ensures.cases.0 in
    let p = first_at a own.0 c.args.levels own.1 c.in-Some.branch.now c.in-Some.rest.now (own.2 ∙ is) own.3 in
    let long = ap length is in
    (omega (arith, long, c.decreases), (inside, ((own.0, p.alone, p.own, p.on_alone), c.requires.kept)))

pub after_among-after_among-requires-in-None-2 : goal.after_among-after_among-requires-in-None-2
after_among-after_among-requires-in-None-2 g t c κs inside =
    let a = g.V.Volume.state c.args.volume.now in
    let b = g.V.Volume.state c.after_at.new.volume in
    let own = c.requires.row in
    let is = c.in-Some.ensures.cases.0 in
    let p = first_at a own.0 c.args.levels own.1 c.in-Some.branch.now c.in-Some.rest.now (own.2 ∙ is) own.3 in
    let long = ap length is in
    (omega (arith, long, c.decreases), (inside, ((own.0, p.others, p.branches, row_moved a b own.0 c.args.levels p.others c.after_at.ensures.reads.keeps c.after_at.ensures.reads.shape p.on), c.after_at.ensures.kept)))

pub after_among-returns-in-Some-2-clause-found : goal.after_among-returns-in-Some-2-clause-found
after_among-returns-in-Some-2-clause-found g t c = λ fanout row e on.
    let a = g.V.Volume.state c.args.volume.now in
    let p = first_at a fanout c.args.levels row c.in-Some.branch.now c.in-Some.rest.now (e ∙ c.in-Some.ensures.cases.0) on in
    let found = c.in_ok-leaf-in-Some.ensures.found fanout p.alone p.own p.on_alone in
    sym (after_in_front c.args.at (contents (plain row)) (contents (plain p.alone)) (contents (plain p.others)) c.in-Some-2.leaf p.is (sym found ∙ c.in-Some-2.is))

pub after_among-returns-in-None-2-clause-found : goal.after_among-returns-in-None-2-clause-found
after_among-returns-in-None-2-clause-found g t c = λ fanout row e on.
    let a = g.V.Volume.state c.args.volume.now in
    let b = g.V.Volume.state c.after_at.new.volume in
    let p = first_at a fanout c.args.levels row c.in-Some.branch.now c.in-Some.rest.now (e ∙ c.in-Some.ensures.cases.0) on in
    let found = c.in_ok-leaf-in-Some.ensures.found fanout p.alone p.own p.on_alone in
    after_ok c.after_among-in-None-2.result (first_after c.args.at (contents (plain p.others))) (first_after c.args.at (contents (plain row)))
    (after_behind c.args.at (contents (plain row)) (contents (plain p.alone)) (contents (plain p.others)) p.is (sym found ∙ c.in-None-2.is))
    (c.after_among-in-None-2.ensures.found fanout p.others p.branches (row_moved a b fanout c.args.levels p.others c.after_at.ensures.reads.keeps c.after_at.ensures.reads.shape p.on))

-- ---- at one branch
pub after_at-returns-then-levels-eq0-clause-found : goal.after_at-returns-then-levels-eq0-clause-found
after_at-returns-then-levels-eq0-clause-found g t c = λ fanout row e on.
    let a = g.V.Volume.state c.args.volume.now in
    let leaf = only_leaf a fanout c.args.levels row c.args.branch.now c.if-levels-eq0.true e on in
    c.one_after.ensures ∙ ap (λ (x : Leaf). first_after c.args.at (x ∷ [])) c.leaf_to.ensures ∙ sym (ap (first_after c.args.at) leaf)

pub after_at-after_below-requires : goal.after_at-after_below-requires
after_at-after_below-requires g t c κs inside =
    let a = g.V.Volume.state c.args.volume.now in
    let own = c.requires.row in
    let some : 0 < c.args.levels = omega (arith, c.if-levels-eq0.false) in
    let p = only_node a own.0 c.args.levels own.1 c.args.branch.now some own.2 own.3 in
    (omega (arith, some, c.decreases), (inside, ((own.0, p.children, p.alone), c.requires.kept)))

pub after_at-returns-clause-found : goal.after_at-returns-clause-found
after_at-returns-clause-found g t c = λ fanout row e on.
    let a = g.V.Volume.state c.args.volume.now in
    let some : 0 < c.args.levels = omega (arith, c.if-levels-eq0.false) in
    let p = only_node a fanout c.args.levels row c.args.branch.now some e on in
    after_ok c.after_below.result (first_after c.args.at (contents (plain p.children))) (first_after c.args.at (contents (plain row))) (ap (first_after c.args.at) p.is) (c.after_below.ensures.found fanout p.children p.alone)
