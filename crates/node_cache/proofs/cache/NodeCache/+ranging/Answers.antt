use Rattle.std.proofs.Common.{◌≡◌, ◌-◌, ◌<◌, ◌∷◌, ◌++◌, [], List, length, ap, sym, subst, ◌∙◌, arith, length-drop, append-nil, append_assoc}
use Rattle.std.specs.Prelude.{OnOk}
use Rattle.index_tree.specs.RangeRemoval.{within_range}
use Rattle.index_tree.specs.Shape.{contents}
use Rattle.index_tree.specs.declared.leaf.Leaf.{Leaf}
use Rattle.index_media.specs.PlacedRow.{branches_of, plain}
use Rattle.media_sys.specs.Index.{Index}
use Rattle.node_cache.specs.FirstAt.{first_at, only_leaf, only_node, no_leaf}
use Rattle.node_cache.specs.RowsOn.{below, row_moved}
use Rattle.node_cache.proofs.KeptNodes.{node_of}
use Rattle.node_cache.proofs.Passed.{behind, below_next, below_passed}
use Rattle.node_cache.proofs.Ranging.{range_both, range_in_front, range_passed}
use Rattle.node_cache.proofs.cache.NodeCache.+ranging.Goals as goal

-- ---- below a node
pub push_range_below-take-requires : goal.push_range_below-take-requires
push_range_below-take-requires g t c =
    let own = c.requires.row in
    let p = below (g.V.Volume.state c.args.volume.now) own.0 c.args.level c.args.branch.now own.1 own.2 in
    record { lnum = p.lnum; node = (record { level = c.args.level; branches = branches_of own.1 }, p.said); kept = c.requires.kept }

pub push_range_below-push_range_among-pushed-requires : goal.push_range_below-push_range_among-pushed-requires
push_range_below-push_range_among-pushed-requires g t c κs inside =
    let a = g.V.Volume.state c.args.volume.now in
    let b = g.V.Volume.state c.take.new.volume in
    let own = c.requires.row in
    let p = below a own.0 c.args.level c.args.branch.now own.1 own.2 in
    let took = c.in_ok-node.ensures in
    let said = took.said (record { level = c.args.level; branches = branches_of own.1 }) p.said in
    let all = c.as_slice-branches.result.now in
    let branches = sym (ap (λ (i : Index). i.branches) said) ∙ sym c.as_slice-branches.ensures.value in
    let n = c.lower_branches_passed.result in
    let q = behind a b own.0 c.args.level (c.args.from - 1) c.args.branch.now own.1 all n own.2 took.reads.keeps took.reads.shape branches c.lower_branches_passed.ensures.begins in
    let few = took.few in
    let long = ap length c.as_slice-branches.ensures.value in
    let cut = length-drop n all in
    let short = ap length c.split_at.ensures.back in
    (omega (arith, few, long, cut, short, c.decreases), (inside, (((own.0, q.others, q.branches ∙ sym c.split_at.ensures.back, q.on), took.kept))))

pub push_range_below-returns-clause-pushed : goal.push_range_below-returns-clause-pushed
push_range_below-returns-clause-pushed g t c = λ fanout row on.
    let a = g.V.Volume.state c.args.volume.now in
    let b = g.V.Volume.state c.take.new.volume in
    let p = below a fanout c.args.level c.args.branch.now row on in
    let took = c.in_ok-node.ensures in
    let said = took.said (record { level = c.args.level; branches = branches_of row }) p.said in
    let all = c.as_slice-branches.result.now in
    let branches = sym (ap (λ (i : Index). i.branches) said) ∙ sym c.as_slice-branches.ensures.value in
    let n = c.lower_branches_passed.result in
    let q = behind a b fanout c.args.level (c.args.from - 1) c.args.branch.now row all n on took.reads.keeps took.reads.shape branches c.lower_branches_passed.ensures.begins in
    let low = below_passed c.args.from n q.front c.lower_branches_passed.ensures.positive q.none q.within in
    let P : List Leaf → Type 0 = λ v. OnOk c.push_range_among-pushed.result (c.push_range_among-pushed.new.leaves.items ≡ c.args.leaves.now.items ++ v) in
    subst P (sym (range_passed c.args.from c.args.to (contents (plain row)) q.front (contents (plain q.others)) q.is low))
    (c.push_range_among-pushed.ensures.pushed fanout q.others (q.branches ∙ sym c.split_at.ensures.back) q.on)

pub push_range_below-returns-clause-kept : goal.push_range_below-returns-clause-kept
push_range_below-returns-clause-kept g t c =
    let old = (g.V.Volume.state c.args.volume.now).holds in
    let new = (g.V.Volume.state c.push_range_among-pushed.new.volume).holds in
    c.keep.ensures.kept new c.push_range_among-pushed.ensures.kept
    (node_of old new c.args.branch.now c.in_ok-node.node (λ k. c.push_range_among-pushed.ensures.reads.keeps.holds k ∙ c.take.ensures.reads.keeps.holds k) c.in_ok-node.ensures.said)

-- ---- among branches
pub push_range_among-returns-in-None-clause-pushed : goal.push_range_among-returns-in-None-clause-pushed
push_range_among-returns-in-None-clause-pushed g t c = λ fanout row e on.
    sym (ap (λ (v : List Leaf). c.args.leaves.now.items ++ within_range c.args.from c.args.to v) (no_leaf row c.args.branches.now e c.in-None.ensures.cases) ∙ append-nil c.args.leaves.now.items)

pub push_range_among-push_range_among-requires : goal.push_range_among-push_range_among-requires
push_range_among-push_range_among-requires g t c κs inside =
    let a = g.V.Volume.state c.args.volume.now in
    let own = c.requires.row in
    let is = c.in-Some.ensures.cases.0 in
    let p = first_at a own.0 c.args.levels own.1 c.in-Some.branch.now c.in-Some.rest.now (own.2 ∙ is) own.3 in
    let long = ap length is in
    (omega (arith, long, c.decreases), (inside, ((own.0, p.others, p.branches, p.on), c.requires.kept)))

pub push_range_among-returns-then-begin_below-clause-pushed : goal.push_range_among-returns-then-begin_below-clause-pushed
push_range_among-returns-then-begin_below-clause-pushed g t c = λ fanout row e on.
    let a = g.V.Volume.state c.args.volume.now in
    let p = first_at a fanout c.args.levels row c.in-Some.branch.now c.in-Some.rest.now (e ∙ c.in-Some.ensures.cases.0) on in
    let some = c.begin_below.ensures.positive c.if-begin_below.true in
    let low = below_next c.args.from (contents (plain p.alone)) some (p.within (c.args.from - 1) (c.begin_below.ensures.begins c.if-begin_below.true)) in
    let P : List Leaf → Type 0 = λ v. OnOk c.push_range_among.result (c.push_range_among.new.leaves.items ≡ c.args.leaves.now.items ++ v) in
    subst P (sym (range_passed c.args.from c.args.to (contents (plain row)) (contents (plain p.alone)) (contents (plain p.others)) p.is low)) (c.push_range_among.ensures.pushed fanout p.others p.branches p.on)

pub push_range_among-push_range_at-requires : goal.push_range_among-push_range_at-requires
push_range_among-push_range_at-requires g t c κs inside =
    let a = g.V.Volume.state c.args.volume.now in
    let own = c.requires.row in
    let is = c.in-Some.ensures.cases.0 in
    let p = first_at a own.0 c.args.levels own.1 c.in-Some.branch.now c.in-Some.rest.now (own.2 ∙ is) own.3 in
    let long = ap length is in
    (omega (arith, long, c.decreases), (inside, ((own.0, p.alone, p.own, p.on_alone), c.requires.kept)))

pub push_range_among-push_range_among-requires-then-begin_within : goal.push_range_among-push_range_among-requires-then-begin_within
push_range_among-push_range_among-requires-then-begin_within g t c κs inside =
    let a = g.V.Volume.state c.args.volume.now in
    let b = g.V.Volume.state c.push_range_at.new.volume in
    let own = c.requires.row in
    let is = c.in-Some.ensures.cases.0 in
    let p = first_at a own.0 c.args.levels own.1 c.in-Some.branch.now c.in-Some.rest.now (own.2 ∙ is) own.3 in
    let long = ap length is in
    (omega (arith, long, c.decreases), (inside, ((own.0, p.others, p.branches, row_moved a b own.0 c.args.levels p.others c.push_range_at.ensures.reads.keeps c.push_range_at.ensures.reads.shape p.on), c.push_range_at.ensures.kept)))

pub push_range_among-returns-then-begin_within-clause-pushed : goal.push_range_among-returns-then-begin_within-clause-pushed
push_range_among-returns-then-begin_within-clause-pushed g t c = λ fanout row e on.
    let a = g.V.Volume.state c.args.volume.now in
    let b = g.V.Volume.state c.push_range_at.new.volume in
    let p = first_at a fanout c.args.levels row c.in-Some.branch.now c.in-Some.rest.now (e ∙ c.in-Some.ensures.cases.0) on in
    let old = c.args.leaves.now.items in
    let own = within_range c.args.from c.args.to (contents (plain p.alone)) in
    let more = within_range c.args.from c.args.to (contents (plain p.others)) in
    let here = c.in_ok-push_range_at-in-Some.ensures.pushed fanout p.alone p.own p.on_alone in
    let P : List Leaf → Type 0 = λ v. OnOk c.push_range_among-then-begin_within.result (c.push_range_among-then-begin_within.new.leaves.items ≡ v) in
    let whole = ap (λ (v : List Leaf). v ++ more) here ∙ append_assoc old own more ∙ ap (λ (v : List Leaf). old ++ v) (sym (range_both c.args.from c.args.to (contents (plain row)) (contents (plain p.alone)) (contents (plain p.others)) p.is)) in
    subst P whole (c.push_range_among-then-begin_within.ensures.pushed fanout p.others p.branches (row_moved a b fanout c.args.levels p.others c.push_range_at.ensures.reads.keeps c.push_range_at.ensures.reads.shape p.on))

pub push_range_among-returns-else-begin_within-clause-pushed : goal.push_range_among-returns-else-begin_within-clause-pushed
push_range_among-returns-else-begin_within-clause-pushed g t c = λ fanout row e on.
    let a = g.V.Volume.state c.args.volume.now in
    let p = first_at a fanout c.args.levels row c.in-Some.branch.now c.in-Some.rest.now (e ∙ c.in-Some.ensures.cases.0) on in
    let here = c.in_ok-push_range_at-in-Some.ensures.pushed fanout p.alone p.own p.on_alone in
    let high = p.behind c.args.to (sym c.begin_within.ensures ∙ c.if-begin_within.false) in
    here ∙ ap (λ (v : List Leaf). c.args.leaves.now.items ++ v) (sym (range_in_front c.args.from c.args.to (contents (plain row)) (contents (plain p.alone)) (contents (plain p.others)) p.is high))

-- ---- at one branch
pub push_range_at-returns-then-levels-eq0-clause-pushed : goal.push_range_at-returns-then-levels-eq0-clause-pushed
push_range_at-returns-then-levels-eq0-clause-pushed g t c = λ fanout row e on.
    let a = g.V.Volume.state c.args.volume.now in
    let leaf = only_leaf a fanout c.args.levels row c.args.branch.now c.if-levels-eq0.true e on in
    c.in_ok-push_in_range.ensures
    ∙ ap (λ (x : Leaf). c.args.leaves.now.items ++ within_range c.args.from c.args.to (x ∷ [])) c.leaf_to.ensures
    ∙ sym (ap (λ (v : List Leaf). c.args.leaves.now.items ++ within_range c.args.from c.args.to v) leaf)

pub push_range_at-push_range_below-requires : goal.push_range_at-push_range_below-requires
push_range_at-push_range_below-requires g t c κs inside =
    let a = g.V.Volume.state c.args.volume.now in
    let own = c.requires.row in
    let some : 0 < c.args.levels = omega (arith, c.if-levels-eq0.false) in
    let p = only_node a own.0 c.args.levels own.1 c.args.branch.now some own.2 own.3 in
    (omega (arith, some, c.decreases), (inside, ((own.0, p.children, p.alone), c.requires.kept)))

pub push_range_at-returns-clause-pushed : goal.push_range_at-returns-clause-pushed
push_range_at-returns-clause-pushed g t c = λ fanout row e on.
    let a = g.V.Volume.state c.args.volume.now in
    let some : 0 < c.args.levels = omega (arith, c.if-levels-eq0.false) in
    let p = only_node a fanout c.args.levels row c.args.branch.now some e on in
    let P : List Leaf → Type 0 = λ v. OnOk c.push_range_below.result (c.push_range_below.new.leaves.items ≡ c.args.leaves.now.items ++ within_range c.args.from c.args.to v) in
    subst P (sym p.is) (c.push_range_below.ensures.pushed fanout p.children p.alone)
