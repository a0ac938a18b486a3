use Rattle.std.proofs.Common.{◌-◌, ◌<◌, ◌∷◌, [], List, length, ap, sym, ◌∙◌, subst, arith, length-drop}
use Rattle.std.specs.Prelude.{IfOk, Result, Ok, Err}
use Rattle.ubi_volume.specs.declared.fault.AreaFault.{AreaFault}
use Rattle.index_tree.specs.Order.{of_rank}
use Rattle.index_tree.specs.Shape.{contents}
use Rattle.index_tree.specs.declared.leaf.Leaf.{Leaf}
use Rattle.index_media.specs.PlacedRow.{branches_of, plain}
use Rattle.media_sys.specs.Index.{Index}
use Rattle.node_cache.specs.Branches.{IsNth}
use Rattle.node_cache.specs.FirstAt.{first_at, only_leaf, only_node, no_leaf}
use Rattle.node_cache.specs.RowsOn.{below, row_moved}
use Rattle.node_cache.specs.declared.nth.Nth.{Nth}
use Rattle.node_cache.specs.declared.nth.Nth.TheVariants.{Found, Fewer}
use Rattle.node_cache.proofs.Finding.{as_found, nth_above, nth_behind, nth_in_front, nth_passed}
use Rattle.node_cache.proofs.KeptNodes.{node_of}
use Rattle.node_cache.proofs.Passed.{behind, below_next, below_passed}
use Rattle.node_cache.proofs.cache.NodeCache.+finding.Goals as goal

-- an answer that is one of some leaves is one of others, if these have it too
on_ok : (r : Result Nth AreaFault) (P Q : Nth → Type 0) → ((n : Nth) → P n → Q n) → IfOk r P → IfOk r Q
on_ok (Ok n) P Q f h = f n h
on_ok (Err e) P Q f h = tt

-- ---- below a node
pub find_below-take-requires : goal.find_below-take-requires
find_below-take-requires g t c =
    let own = c.requires.row in
    let p = below (g.V.Volume.state c.args.volume.now) own.0 c.args.level c.args.branch.now own.1 own.2 in
    record { lnum = p.lnum; node = (record { level = c.args.level; branches = branches_of own.1 }, p.said); kept = c.requires.kept }

pub find_below-find_among-found-requires : goal.find_below-find_among-found-requires
find_below-find_among-found-requires g t c κs inside =
    let a = g.V.Volume.state c.args.volume.now in
    let b = g.V.Volume.state c.take.new.volume in
    let own = c.requires.row in
    let p = below a own.0 c.args.level c.args.branch.now own.1 own.2 in
    let took = c.in_ok-node.ensures in
    let said = took.said (record { level = c.args.level; branches = branches_of own.1 }) p.said in
    let all = c.as_slice-branches.result.now in
    let branches = sym (ap (λ (i : Index). i.branches) said) ∙ sym c.as_slice-branches.ensures.value in
    let n = c.lower_branches_passed.result in
    let q = behind a b own.0 c.args.level (c.args.at - 1) c.args.branch.now own.1 all n own.2 took.reads.keeps took.reads.shape branches c.lower_branches_passed.ensures.begins in
    let few = took.few in
    let long = ap length c.as_slice-branches.ensures.value in
    let cut = length-drop n all in
    let short = ap length c.split_at.ensures.back in
    (omega (arith, few, long, cut, short, c.decreases), (inside, ((own.0, q.others, q.branches ∙ sym c.split_at.ensures.back, q.on), took.kept)))

pub find_below-returns-clause-found : goal.find_below-returns-clause-found
find_below-returns-clause-found g t c = λ fanout row on.
    let a = g.V.Volume.state c.args.volume.now in
    let b = g.V.Volume.state c.take.new.volume in
    let at = c.args.at in
    let p = below a fanout c.args.level c.args.branch.now row on in
    let took = c.in_ok-node.ensures in
    let said = took.said (record { level = c.args.level; branches = branches_of row }) p.said in
    let all = c.as_slice-branches.result.now in
    let branches = sym (ap (λ (i : Index). i.branches) said) ∙ sym c.as_slice-branches.ensures.value in
    let n = c.lower_branches_passed.result in
    let q = behind a b fanout c.args.level (at - 1) c.args.branch.now row all n on took.reads.keeps took.reads.shape branches c.lower_branches_passed.ensures.begins in
    let low = below_passed at n q.front c.lower_branches_passed.ensures.positive q.none q.within in
    on_ok c.find_among-found.result (IsNth (of_rank at (contents (plain q.others))) c.args.nth) (IsNth (of_rank at (contents (plain row))) c.args.nth)
    (λ r h. nth_passed at (contents (plain row)) q.front (contents (plain q.others)) c.args.nth r q.is low h)
    (c.find_among-found.ensures.found fanout q.others (q.branches ∙ sym c.split_at.ensures.back) q.on)

pub find_below-returns-clause-kept : goal.find_below-returns-clause-kept
find_below-returns-clause-kept g t c =
    let old = (g.V.Volume.state c.args.volume.now).holds in
    let new = (g.V.Volume.state c.find_among-found.new.volume).holds in
    c.keep.ensures.kept new c.find_among-found.ensures.kept
    (node_of old new c.args.branch.now c.in_ok-node.node (λ k. c.find_among-found.ensures.reads.keeps.holds k ∙ c.take.ensures.reads.keeps.holds k) c.in_ok-node.ensures.said)

-- ---- among branches
pub find_among-returns-in-None-clause-found : goal.find_among-returns-in-None-clause-found
find_among-returns-in-None-clause-found g t c = λ fanout row e on.
    let none = ap (of_rank c.args.at) (no_leaf row c.args.branches.now e c.in-None.ensures.cases) in
    let long = ap length none in
    omega (arith, long)

pub find_among-find_among-requires : goal.find_among-find_among-requires
find_among-find_among-requires g t c κs inside =
    let a = g.V.Volume.state c.args.volume.now in
    let own = c.requires.row in
    let is = c.in-Some.ensures.cases.0 in
    let p = first_at a own.0 c.args.levels own.1 c.in-Some.branch.now c.in-Some.rest.now (own.2 ∙ is) own.3 in
    let long = ap length is in
    (omega (arith, long, c.decreases), (inside, ((own.0, p.others, p.branches, p.on), c.requires.kept)))

pub find_among-returns-then-begin_below-clause-found : goal.find_among-returns-then-begin_below-clause-found
find_among-returns-then-begin_below-clause-found g t c = λ fanout row e on.
    let a = g.V.Volume.state c.args.volume.now in
    let at = c.args.at in
    let p = first_at a fanout c.args.levels row c.in-Some.branch.now c.in-Some.rest.now (e ∙ c.in-Some.ensures.cases.0) on in
    let begins = c.begin_below.ensures.begins c.if-begin_below.true in
    let some = c.begin_below.ensures.positive c.if-begin_below.true in
    on_ok c.find_among.result (IsNth (of_rank at (contents (plain p.others))) c.args.nth) (IsNth (of_rank at (contents (plain row))) c.args.nth)
    (λ n h. nth_passed at (contents (plain row)) (contents (plain p.alone)) (contents (plain p.others)) c.args.nth n p.is (below_next at (contents (plain p.alone)) some (p.within (at - 1) begins)) h)
    (c.find_among.ensures.found fanout p.others p.branches p.on)

pub find_among-find_at-requires : goal.find_among-find_at-requires
find_among-find_at-requires g t c κs inside =
    let a = g.V.Volume.state c.args.volume.now in
    let own = c.requires.row in
    let is = c.in-Some.ensures.cases.0 in
    let p = first_at a own.0 c.args.levels own.1 c.in-Some.branch.now c.in-Some.rest.now (own.2 ∙ is) own.3 in
    let long = ap length is in
    (omega (arith, long, c.decreases), (inside, ((own.0, p.alone, p.own, p.on_alone), c.requires.kept)))

pub find_among-find_among-requires-then-begin_within : goal.find_among-find_among-requires-then-begin_within
find_among-find_among-requires-then-begin_within g t c κs inside =
    let a = g.V.Volume.state c.args.volume.now in
    let b = g.V.Volume.state c.find_at.new.volume in
    let own = c.requires.row in
    let is = c.in-Some.ensures.cases.0 in
    let p = first_at a own.0 c.args.levels own.1 c.in-Some.branch.now c.in-Some.rest.now (own.2 ∙ is) own.3 in
    let long = ap length is in
    (omega (arith, long, c.decreases), (inside, ((own.0, p.others, p.branches, row_moved a b own.0 c.args.levels p.others c.find_at.ensures.reads.keeps c.find_at.ensures.reads.shape p.on), c.find_at.ensures.kept)))

pub find_among-returns-then-begin_within-clause-found : goal.find_among-returns-then-begin_within-clause-found
find_among-returns-then-begin_within-clause-found g t c = λ fanout row e on.
    let a = g.V.Volume.state c.args.volume.now in
    let b = g.V.Volume.state c.find_at.new.volume in
    let at = c.args.at in
    let p = first_at a fanout c.args.levels row c.in-Some.branch.now c.in-Some.rest.now (e ∙ c.in-Some.ensures.cases.0) on in
    on_ok c.find_among-then-begin_within.result (IsNth (of_rank at (contents (plain p.others))) c.in-Fewer.left) (IsNth (of_rank at (contents (plain row))) c.args.nth)
    (λ n h. nth_behind at (contents (plain row)) (contents (plain p.alone)) (contents (plain p.others)) c.args.nth c.in-Fewer.left n p.is (as_found (contents (plain p.alone)) c.args.at c.args.nth c.in_ok-leaf-in-Some.field-0 (Fewer c.in-Fewer.left) c.in-Fewer.is (c.in_ok-leaf-in-Some.ensures.found fanout p.alone p.own p.on_alone)) h)
    (c.find_among-then-begin_within.ensures.found fanout p.others p.branches (row_moved a b fanout c.args.levels p.others c.find_at.ensures.reads.keeps c.find_at.ensures.reads.shape p.on))

pub find_among-returns-in-Found-clause-found : goal.find_among-returns-in-Found-clause-found
find_among-returns-in-Found-clause-found g t c = λ fanout row e on.
    let a = g.V.Volume.state c.args.volume.now in
    let p = first_at a fanout c.args.levels row c.in-Some.branch.now c.in-Some.rest.now (e ∙ c.in-Some.ensures.cases.0) on in
    nth_in_front c.args.at (contents (plain row)) (contents (plain p.alone)) (contents (plain p.others)) c.args.nth c.in-Found.leaf p.is (as_found (contents (plain p.alone)) c.args.at c.args.nth c.in_ok-leaf-in-Some.field-0 (Found c.in-Found.leaf) c.in-Found.is (c.in_ok-leaf-in-Some.ensures.found fanout p.alone p.own p.on_alone))

pub find_among-returns-else-begin_within-clause-found : goal.find_among-returns-else-begin_within-clause-found
find_among-returns-else-begin_within-clause-found g t c = λ fanout row e on.
    let a = g.V.Volume.state c.args.volume.now in
    let at = c.args.at in
    let left = c.in-Fewer.left in
    let p = first_at a fanout c.args.levels row c.in-Some.branch.now c.in-Some.rest.now (e ∙ c.in-Some.ensures.cases.0) on in
    let none = nth_above at (contents (plain p.others)) left (p.behind at (sym c.begin_within.ensures ∙ c.if-begin_within.false)) in
    nth_behind at (contents (plain row)) (contents (plain p.alone)) (contents (plain p.others)) c.args.nth left (Fewer left) p.is (as_found (contents (plain p.alone)) c.args.at c.args.nth c.in_ok-leaf-in-Some.field-0 (Fewer c.in-Fewer.left) c.in-Fewer.is (c.in_ok-leaf-in-Some.ensures.found fanout p.alone p.own p.on_alone)) none

-- ---- at one branch
pub find_at-returns-then-levels-eq0-clause-found : goal.find_at-returns-then-levels-eq0-clause-found
find_at-returns-then-levels-eq0-clause-found g t c = λ fanout row e on.
    let a = g.V.Volume.state c.args.volume.now in
    let leaf = only_leaf a fanout c.args.levels row c.args.branch.now c.if-levels-eq0.true e on in
    let P : List Leaf → Type 0 = λ v. IsNth (of_rank c.args.at v) c.args.nth c.one_of_rank.result in
    subst P (ap (λ (x : Leaf). x ∷ []) c.leaf_to.ensures ∙ sym leaf) c.one_of_rank.ensures

pub find_at-find_below-requires : goal.find_at-find_below-requires
find_at-find_below-requires g t c κs inside =
    let a = g.V.Volume.state c.args.volume.now in
    let own = c.requires.row in
    let some : 0 < c.args.levels = omega (arith, c.if-levels-eq0.false) in
    let p = only_node a own.0 c.args.levels own.1 c.args.branch.now some own.2 own.3 in
    (omega (arith, some, c.decreases), (inside, ((own.0, p.children, p.alone), c.requires.kept)))

pub find_at-returns-clause-found : goal.find_at-returns-clause-found
find_at-returns-clause-found g t c = λ fanout row e on.
    let a = g.V.Volume.state c.args.volume.now in
    let some : 0 < c.args.levels = omega (arith, c.if-levels-eq0.false) in
    let p = only_node a fanout c.args.levels row c.args.branch.now some e on in
    let P : List Leaf → Type 0 = λ v. IfOk c.find_below.result (IsNth (of_rank c.args.at v) c.args.nth) in
    subst P (sym p.is) (c.find_below.ensures.found fanout p.children p.alone)
