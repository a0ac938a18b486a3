use Rattle.std.proofs.Common.{◌<◌, ◌∷◌, [], length, ap, sym, ◌∙◌, arith, length-drop}
use Rattle.index_tree.specs.Shape.{contents}
use Rattle.index_tree.specs.declared.leaf.Leaf.{Leaf}
use Rattle.index_media.specs.PlacedRow.{branches_of, plain}
use Rattle.media_sys.specs.Index.{Index}
use Rattle.node_cache.specs.FirstAt.{first_at, only_leaf, only_node, no_leaf}
use Rattle.node_cache.specs.RowsOn.{below, row_moved}
use Rattle.node_cache.proofs.Ending.{last_up_to, last_above, last_behind, last_in_front}
use Rattle.node_cache.proofs.Following.{after_ok}
use Rattle.node_cache.proofs.KeptNodes.{node_of}
use Rattle.node_cache.proofs.Passed.{passed}
use Rattle.node_cache.proofs.cache.NodeCache.+ending.Goals as goal

-- ---- below a node
pub last_below-take-requires : goal.last_below-take-requires
last_below-take-requires g t c =
    let own = c.requires.row in
    let p = below (g.V.Volume.state c.args.volume.now) own.0 c.args.level c.args.branch.now own.1 own.2 in
    record { lnum = p.lnum; node = (record { level = c.args.level; branches = branches_of own.1 }, p.said); kept = c.requires.kept }

pub last_below-last_behind-found-requires : goal.last_below-last_behind-found-requires
last_below-last_behind-found-requires g t c κs inside =
    let a = g.V.Volume.state c.args.volume.now in
    let b = g.V.Volume.state c.take.new.volume in
    let own = c.requires.row in
    let p = below a own.0 c.args.level c.args.branch.now own.1 own.2 in
    let took = c.in_ok-node.ensures in
    let said = took.said (record { level = c.args.level; branches = branches_of own.1 }) p.said in
    let branches = sym (ap (λ (i : Index). i.branches) said) ∙ sym c.as_slice.ensures.value in
    let few = took.few in
    let long = ap length c.as_slice.ensures.value in
    (omega (arith, few, long, c.decreases), (inside, ((own.0, own.1, branches, row_moved a b own.0 c.args.level own.1 took.reads.keeps took.reads.shape p.on), took.kept)))

pub last_below-returns-clause-found : goal.last_below-returns-clause-found
last_below-returns-clause-found g t c = λ fanout row on.
    let a = g.V.Volume.state c.args.volume.now in
    let b = g.V.Volume.state c.take.new.volume in
    let p = below a fanout c.args.level c.args.branch.now row on in
    let took = c.in_ok-node.ensures in
    let said = took.said (record { level = c.args.level; branches = branches_of row }) p.said in
    let branches = sym (ap (λ (i : Index). i.branches) said) ∙ sym c.as_slice.ensures.value in
    c.last_behind-found.ensures.found fanout row branches (row_moved a b fanout c.args.level row took.reads.keeps took.reads.shape p.on)

pub last_below-returns-clause-kept : goal.last_below-returns-clause-kept
last_below-returns-clause-kept g t c =
    let old = (g.V.Volume.state c.args.volume.now).holds in
    let new = (g.V.Volume.state c.last_behind-found.new.volume).holds in
    c.keep.ensures.kept new c.last_behind-found.ensures.kept
    (node_of old new c.args.branch.now c.in_ok-node.node (λ k. c.last_behind-found.ensures.reads.keeps.holds k ∙ c.take.ensures.reads.keeps.holds k) c.in_ok-node.ensures.said)

-- ---- among all branches of a node
pub last_behind-last_among-requires : goal.last_behind-last_among-requires
last_behind-last_among-requires g t c κs inside =
    (omega (arith, c.decreases), (inside, (c.requires.row, c.requires.kept)))

pub last_behind-last_among-requires-2 : goal.last_behind-last_among-requires-2
last_behind-last_among-requires-2 g t c κs inside =
    let a = g.V.Volume.state c.args.volume.now in
    let own = c.requires.row in
    let n = c.branches_passed-passed.result in
    let q = passed a own.0 c.args.levels c.args.at own.1 c.args.branches.now n own.2 own.3 c.branches_passed-passed.ensures.begins in
    let cut = length-drop n c.args.branches.now in
    let short = ap length c.split_at.ensures.back in
    (omega (arith, cut, short, c.decreases), (inside, ((own.0, q.others, q.branches ∙ sym c.split_at.ensures.back, q.on), c.requires.kept)))

pub last_behind-returns-in-Some-clause-found : goal.last_behind-returns-in-Some-clause-found
last_behind-returns-in-Some-clause-found g t c = λ fanout row e on.
    let a = g.V.Volume.state c.args.volume.now in
    let n = c.branches_passed-passed.result in
    let q = passed a fanout c.args.levels c.args.at row c.args.branches.now n e on c.branches_passed-passed.ensures.begins in
    let found = c.in_ok-leaf.ensures.found fanout q.others (q.branches ∙ sym c.split_at.ensures.back) q.on in
    sym (last_behind c.args.at (contents (plain row)) q.front (contents (plain q.others)) c.in-Some.leaf q.is (sym found ∙ c.in-Some.is))

pub last_behind-returns-in-None-clause-found : goal.last_behind-returns-in-None-clause-found
last_behind-returns-in-None-clause-found g t c = λ fanout row e on.
    let a = g.V.Volume.state c.args.volume.now in
    let b = g.V.Volume.state c.last_among-2.new.volume in
    c.last_among-in-None.ensures.found fanout row e (row_moved a b fanout c.args.levels row c.last_among-2.ensures.reads.keeps c.last_among-2.ensures.reads.shape on)

-- ---- among branches
pub last_among-returns-in-None-clause-found : goal.last_among-returns-in-None-clause-found
last_among-returns-in-None-clause-found g t c = λ fanout row e on.
    sym (ap (last_up_to c.args.at) (no_leaf row c.args.branches.now e c.in-None.ensures.cases))

pub last_among-last_at-requires : goal.last_among-last_at-requires
last_among-last_at-requires g t c κs inside =
    let a = g.V.Volume.state c.args.volume.now in
    let own = c.requires.row in
    let is = c.in-Some.ensures.cases.0 in
    let p = first_at a own.0 c.args.levels own.1 c.in-Some.branch.now c.in-Some.rest.now (own.2 ∙ is) own.3 in
    let long = ap length is in
    (omega (arith, long, c.decreases), (inside, ((own.0, p.alone, p.own, p.on_alone), c.requires.kept)))

pub last_among-returns-then-not-begin_within-clause-found : goal.last_among-returns-then-not-begin_within-clause-found
last_among-returns-then-not-begin_within-clause-found g t c = λ fanout row e on.
    let a = g.V.Volume.state c.args.volume.now in
    let p = first_at a fanout c.args.levels row c.in-Some.branch.now c.in-Some.rest.now (e ∙ c.in-Some.ensures.cases.0) on in
    let none = last_above c.args.at (contents (plain p.others)) (p.behind c.args.at (sym c.begin_within.ensures ∙ c.if-not-begin_within.true)) in
    after_ok c.last_at.result (last_up_to c.args.at (contents (plain p.alone))) (last_up_to c.args.at (contents (plain row)))
    (last_in_front c.args.at (contents (plain row)) (contents (plain p.alone)) (contents (plain p.others)) p.is none)
    (c.last_at.ensures.found fanout p.alone p.own p.on_alone)

pub last_among-last_among-requires : goal.last_among-last_among-requires
last_among-last_among-requires g t c κs inside =
    let a = g.V.Volume.state c.args.volume.now in
    let own = c.requires.row in
    let is = c.in-Some.ensures.cases.0 in
    let p = first_at a own.0 c.args.levels own.1 c.in-Some.branch.now c.in-Some.rest.now (own.2 ∙ is) own.3 in
    let long = ap length is in
    (omega (arith, long, c.decreases), (inside, ((own.0, p.others, p.branches, p.on), c.requires.kept)))

pub last_among-returns-in-Some-2-clause-found : goal.last_among-returns-in-Some-2-clause-found
last_among-returns-in-Some-2-clause-found g t c = λ fanout row e on.
    let a = g.V.Volume.state c.args.volume.now in
    let p = first_at a fanout c.args.levels row c.in-Some.branch.now c.in-Some.rest.now (e ∙ c.in-Some.ensures.cases.0) on in
    let found = c.in_ok-leaf-in-Some.ensures.found fanout p.others p.branches p.on in
    sym (last_behind c.args.at (contents (plain row)) (contents (plain p.alone)) (contents (plain p.others)) c.in-Some-2.leaf p.is (sym found ∙ c.in-Some-2.is))

pub last_among-last_at-requires-in-None-2 : goal.last_among-last_at-requires-in-None-2
last_among-last_at-requires-in-None-2 g t c κs inside =
    let a = g.V.Volume.state c.args.volume.now in
    let b = g.V.Volume.state c.last_among.new.volume in
    let own = c.requires.row in
    let is = c.in-Some.ensures.cases.0 in
    let p = first_at a own.0 c.args.levels own.1 c.in-Some.branch.now c.in-Some.rest.now (own.2 ∙ is) own.3 in
    let long = ap length is in
    (omega (arith, long, c.decreases), (inside, ((own.0, p.alone, p.own, row_moved a b own.0 c.args.levels p.alone c.last_among.ensures.reads.keeps c.last_among.ensures.reads.shape p.on_alone), c.last_among.ensures.kept)))

pub last_among-returns-in-None-2-clause-found : goal.last_among-returns-in-None-2-clause-found
last_among-returns-in-None-2-clause-found g t c = λ fanout row e on.
    let a = g.V.Volume.state c.args.volume.now in
    let b = g.V.Volume.state c.last_among.new.volume in
    let p = first_at a fanout c.args.levels row c.in-Some.branch.now c.in-Some.rest.now (e ∙ c.in-Some.ensures.cases.0) on in
    let found = c.in_ok-leaf-in-Some.ensures.found fanout p.others p.branches p.on in
    after_ok c.last_at-in-None-2.result (last_up_to c.args.at (contents (plain p.alone))) (last_up_to c.args.at (contents (plain row)))
    (last_in_front c.args.at (contents (plain row)) (contents (plain p.alone)) (contents (plain p.others)) p.is (sym found ∙ c.in-None-2.is))
    (c.last_at-in-None-2.ensures.found fanout p.alone p.own (row_moved a b fanout c.args.levels p.alone c.last_among.ensures.reads.keeps c.last_among.ensures.reads.shape p.on_alone))

-- ---- at one branch
pub last_at-returns-then-levels-eq0-clause-found : goal.last_at-returns-then-levels-eq0-clause-found
last_at-returns-then-levels-eq0-clause-found g t c = λ fanout row e on.
    let a = g.V.Volume.state c.args.volume.now in
    let leaf = only_leaf a fanout c.args.levels row c.args.branch.now c.if-levels-eq0.true e on in
    c.one_up_to.ensures ∙ ap (λ (x : Leaf). last_up_to c.args.at (x ∷ [])) c.leaf_to.ensures ∙ sym (ap (last_up_to c.args.at) leaf)

pub last_at-last_below-requires : goal.last_at-last_below-requires
last_at-last_below-requires g t c κs inside =
    let a = g.V.Volume.state c.args.volume.now in
    let own = c.requires.row in
    let some : 0 < c.args.levels = omega (arith, c.if-levels-eq0.false) in
    let p = only_node a own.0 c.args.levels own.1 c.args.branch.now some own.2 own.3 in
    (omega (arith, some, c.decreases), (inside, ((own.0, p.children, p.alone), c.requires.kept)))

pub last_at-returns-clause-found : goal.last_at-returns-clause-found
last_at-returns-clause-found g t c = λ fanout row e on.
    let a = g.V.Volume.state c.args.volume.now in
    let some : 0 < c.args.levels = omega (arith, c.if-levels-eq0.false) in
    let p = only_node a fanout c.args.levels row c.args.branch.now some e on in
    after_ok c.last_below.result (last_up_to c.args.at (contents (plain p.children))) (last_up_to c.args.at (contents (plain row))) (ap (last_up_to c.args.at) p.is) (c.last_below.ensures.found fanout p.children p.alone)
