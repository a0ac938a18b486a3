use Rattle.std.proofs.Common.{◌≡◌, ◌+◌, ◌-◌, ◌<◌, ◌∷◌, [], ℕ, length, ap, sym, subst, ◌∙◌, arith, length-drop}
use Rattle.std.proofs.lemmas.Result.{IfOk-weaker}
use Rattle.index_tree.specs.Removal.{holds}
use Rattle.index_tree.specs.Shape.{contents}
use Rattle.index_tree.specs.declared.leaf.Leaf.{Leaf}
use Rattle.index_media.specs.KeyedBounds.{AreAtLeast}
use Rattle.index_media.specs.PlacedRow.{branches_of, plain}
use Rattle.media_sys.specs.Index.{Index}
use Rattle.node_cache.specs.FirstAt.{first_at, only_leaf, only_node, no_leaf}
use Rattle.node_cache.specs.RowsOn.{below, row_moved}
use Rattle.node_cache.proofs.HeldLeaves.{holds_above, holds_behind, holds_in_front, holds_passed}
use Rattle.node_cache.proofs.KeptNodes.{node_of}
use Rattle.node_cache.proofs.Passed.{AreBelow, behind, below_next, below_passed}
use Rattle.node_cache.proofs.cache.NodeCache.+holding.Goals as goal

-- ---- below a node
pub holds_below-take-requires : goal.holds_below-take-requires
holds_below-take-requires g t c =
    let own = c.requires.row in
    let p = below (g.V.Volume.state c.args.volume.now) own.0 c.args.level c.args.branch.now own.1 own.2 in
    record { lnum = p.lnum; node = (record { level = c.args.level; branches = branches_of own.1 }, p.said); kept = c.requires.kept }

pub holds_below-holds_among-found-requires : goal.holds_below-holds_among-found-requires
holds_below-holds_among-found-requires g t c κs inside =
    let a = g.V.Volume.state c.args.volume.now in
    let b = g.V.Volume.state c.take.new.volume in
    let own = c.requires.row in
    let p = below a own.0 c.args.level c.args.branch.now own.1 own.2 in
    let took = c.in_ok-node.ensures in
    let said = took.said (record { level = c.args.level; branches = branches_of own.1 }) p.said in
    let all = c.as_slice-branches.result.now in
    let branches = sym (ap (λ (i : Index). i.branches) said) ∙ sym c.as_slice-branches.ensures.value in
    let n = c.lower_branches_passed.result in
    let q = behind a b own.0 c.args.level (c.rank-at.result - 1) c.args.branch.now own.1 all n own.2 took.reads.keeps took.reads.shape branches c.lower_branches_passed.ensures.begins in
    let few = took.few in
    let long = ap length c.as_slice-branches.ensures.value in
    let cut = length-drop n all in
    let short = ap length c.split_at.ensures.back in
    (omega (arith, few, long, cut, short, c.decreases), (inside, (c.rank-at.ensures, ((own.0, q.others, q.branches ∙ sym c.split_at.ensures.back, q.on), took.kept))))

pub holds_below-returns-clause-found : goal.holds_below-returns-clause-found
holds_below-returns-clause-found g t c = λ fanout row on.
    let a = g.V.Volume.state c.args.volume.now in
    let b = g.V.Volume.state c.take.new.volume in
    let p = below a fanout c.args.level c.args.branch.now row on in
    let took = c.in_ok-node.ensures in
    let said = took.said (record { level = c.args.level; branches = branches_of row }) p.said in
    let all = c.as_slice-branches.result.now in
    let branches = sym (ap (λ (i : Index). i.branches) said) ∙ sym c.as_slice-branches.ensures.value in
    let n = c.lower_branches_passed.result in
    let q = behind a b fanout c.args.level (c.rank-at.result - 1) c.args.branch.now row all n on took.reads.keeps took.reads.shape branches c.lower_branches_passed.ensures.begins in
    let P : ℕ → Type 0 = λ k. AreBelow k q.front in
    let low = subst P c.rank-at.ensures (below_passed c.rank-at.result n q.front c.lower_branches_passed.ensures.positive q.none q.within) in
    IfOk-weaker c.holds_among-found.result (λ r. r ≡ holds c.args.sought.now (contents (plain q.others))) (λ r. r ≡ holds c.args.sought.now (contents (plain row)))
    (λ r h. h ∙ sym (holds_passed c.args.sought.now (contents (plain row)) q.front (contents (plain q.others)) q.is low))
    (c.holds_among-found.ensures.found fanout q.others (q.branches ∙ sym c.split_at.ensures.back) q.on)

pub holds_below-returns-clause-kept : goal.holds_below-returns-clause-kept
holds_below-returns-clause-kept g t c =
    let old = (g.V.Volume.state c.args.volume.now).holds in
    let new = (g.V.Volume.state c.holds_among-found.new.volume).holds in
    c.keep.ensures.kept new c.holds_among-found.ensures.kept
    (node_of old new c.args.branch.now c.in_ok-node.node (λ k. c.holds_among-found.ensures.reads.keeps.holds k ∙ c.take.ensures.reads.keeps.holds k) c.in_ok-node.ensures.said)

-- ---- among branches
pub holds_among-returns-in-None-clause-found : goal.holds_among-returns-in-None-clause-found
holds_among-returns-in-None-clause-found g t c = λ fanout row e on.
    sym (ap (holds c.args.sought.now) (no_leaf row c.args.branches.now e c.in-None.ensures.cases))

pub holds_among-holds_among-requires : goal.holds_among-holds_among-requires
holds_among-holds_among-requires g t c κs inside =
    let a = g.V.Volume.state c.args.volume.now in
    let own = c.requires.row in
    let is = c.in-Some.ensures.cases.0 in
    let p = first_at a own.0 c.args.levels own.1 c.in-Some.branch.now c.in-Some.rest.now (own.2 ∙ is) own.3 in
    let long = ap length is in
    (omega (arith, long, c.decreases), (inside, (c.requires.rank, ((own.0, p.others, p.branches, p.on), c.requires.kept))))

pub holds_among-returns-then-begin_below-clause-found : goal.holds_among-returns-then-begin_below-clause-found
holds_among-returns-then-begin_below-clause-found g t c = λ fanout row e on.
    let a = g.V.Volume.state c.args.volume.now in
    let p = first_at a fanout c.args.levels row c.in-Some.branch.now c.in-Some.rest.now (e ∙ c.in-Some.ensures.cases.0) on in
    let P : ℕ → Type 0 = λ k. AreBelow k (contents (plain p.alone)) in
    let some = c.begin_below.ensures.positive c.if-begin_below.true in
    let low = subst P c.requires.rank (below_next c.args.at (contents (plain p.alone)) some (p.within (c.args.at - 1) (c.begin_below.ensures.begins c.if-begin_below.true))) in
    IfOk-weaker c.holds_among.result (λ r. r ≡ holds c.args.sought.now (contents (plain p.others))) (λ r. r ≡ holds c.args.sought.now (contents (plain row)))
    (λ r h. h ∙ sym (holds_passed c.args.sought.now (contents (plain row)) (contents (plain p.alone)) (contents (plain p.others)) p.is low))
    (c.holds_among.ensures.found fanout p.others p.branches p.on)

pub holds_among-holds_at-requires : goal.holds_among-holds_at-requires
holds_among-holds_at-requires g t c κs inside =
    let a = g.V.Volume.state c.args.volume.now in
    let own = c.requires.row in
    let is = c.in-Some.ensures.cases.0 in
    let p = first_at a own.0 c.args.levels own.1 c.in-Some.branch.now c.in-Some.rest.now (own.2 ∙ is) own.3 in
    let long = ap length is in
    (omega (arith, long, c.decreases), (inside, ((own.0, p.alone, p.own, p.on_alone), c.requires.kept)))

pub holds_among-returns-then-branch-clause-found : goal.holds_among-returns-then-branch-clause-found
holds_among-returns-then-branch-clause-found g t c = λ fanout row e on.
    let a = g.V.Volume.state c.args.volume.now in
    let p = first_at a fanout c.args.levels row c.in-Some.branch.now c.in-Some.rest.now (e ∙ c.in-Some.ensures.cases.0) on in
    let here = c.in_ok-holds_at-in-Some.ensures.found fanout p.alone p.own p.on_alone in
    sym (holds_in_front c.args.sought.now (contents (plain row)) (contents (plain p.alone)) (contents (plain p.others)) p.is (sym here ∙ c.if-branch.true))

pub holds_among-holds_among-requires-then-begin_within : goal.holds_among-holds_among-requires-then-begin_within
holds_among-holds_among-requires-then-begin_within g t c κs inside =
    let a = g.V.Volume.state c.args.volume.now in
    let b = g.V.Volume.state c.holds_at.new.volume in
    let own = c.requires.row in
    let is = c.in-Some.ensures.cases.0 in
    let p = first_at a own.0 c.args.levels own.1 c.in-Some.branch.now c.in-Some.rest.now (own.2 ∙ is) own.3 in
    let long = ap length is in
    (omega (arith, long, c.decreases), (inside, (c.requires.rank, ((own.0, p.others, p.branches, row_moved a b own.0 c.args.levels p.others c.holds_at.ensures.reads.keeps c.holds_at.ensures.reads.shape p.on), c.holds_at.ensures.kept))))

pub holds_among-returns-then-begin_within-clause-found : goal.holds_among-returns-then-begin_within-clause-found
holds_among-returns-then-begin_within-clause-found g t c = λ fanout row e on.
    let a = g.V.Volume.state c.args.volume.now in
    let b = g.V.Volume.state c.holds_at.new.volume in
    let p = first_at a fanout c.args.levels row c.in-Some.branch.now c.in-Some.rest.now (e ∙ c.in-Some.ensures.cases.0) on in
    let here = c.in_ok-holds_at-in-Some.ensures.found fanout p.alone p.own p.on_alone in
    IfOk-weaker c.holds_among-then-begin_within.result (λ r. r ≡ holds c.args.sought.now (contents (plain p.others))) (λ r. r ≡ holds c.args.sought.now (contents (plain row)))
    (λ r h. h ∙ sym (holds_behind c.args.sought.now (contents (plain row)) (contents (plain p.alone)) (contents (plain p.others)) p.is (sym here ∙ c.if-branch.false)))
    (c.holds_among-then-begin_within.ensures.found fanout p.others p.branches (row_moved a b fanout c.args.levels p.others c.holds_at.ensures.reads.keeps c.holds_at.ensures.reads.shape p.on))

pub holds_among-returns-else-begin_within-clause-found : goal.holds_among-returns-else-begin_within-clause-found
holds_among-returns-else-begin_within-clause-found g t c = λ fanout row e on.
    let a = g.V.Volume.state c.args.volume.now in
    let p = first_at a fanout c.args.levels row c.in-Some.branch.now c.in-Some.rest.now (e ∙ c.in-Some.ensures.cases.0) on in
    let here = c.in_ok-holds_at-in-Some.ensures.found fanout p.alone p.own p.on_alone in
    let P : ℕ → Type 0 = λ k. AreAtLeast (k + 1) (contents (plain p.others)) in
    let none = holds_above c.args.sought.now (contents (plain p.others)) (subst P c.requires.rank (p.behind c.args.at (sym c.begin_within.ensures ∙ c.if-begin_within.false))) in
    sym (holds_behind c.args.sought.now (contents (plain row)) (contents (plain p.alone)) (contents (plain p.others)) p.is (sym here ∙ c.if-branch.false) ∙ none)

-- ---- at one branch
pub holds_at-returns-then-levels-eq0-clause-found : goal.holds_at-returns-then-levels-eq0-clause-found
holds_at-returns-then-levels-eq0-clause-found g t c = λ fanout row e on.
    let a = g.V.Volume.state c.args.volume.now in
    let leaf = only_leaf a fanout c.args.levels row c.args.branch.now c.if-levels-eq0.true e on in
    c.one_held.ensures ∙ ap (λ (x : Leaf). holds c.args.sought.now (x ∷ [])) c.leaf_to.ensures ∙ sym (ap (holds c.args.sought.now) leaf)

pub holds_at-holds_below-requires : goal.holds_at-holds_below-requires
holds_at-holds_below-requires g t c κs inside =
    let a = g.V.Volume.state c.args.volume.now in
    let own = c.requires.row in
    let some : 0 < c.args.levels = omega (arith, c.if-levels-eq0.false) in
    let p = only_node a own.0 c.args.levels own.1 c.args.branch.now some own.2 own.3 in
    (omega (arith, some, c.decreases), (inside, ((own.0, p.children, p.alone), c.requires.kept)))

pub holds_at-returns-clause-found : goal.holds_at-returns-clause-found
holds_at-returns-clause-found g t c = λ fanout row e on.
    let a = g.V.Volume.state c.args.volume.now in
    let some : 0 < c.args.levels = omega (arith, c.if-levels-eq0.false) in
    let p = only_node a fanout c.args.levels row c.args.branch.now some e on in
    IfOk-weaker c.holds_below.result (λ r. r ≡ holds c.args.sought.now (contents (plain p.children))) (λ r. r ≡ holds c.args.sought.now (contents (plain row)))
    (λ r h. h ∙ sym (ap (holds c.args.sought.now) p.is)) (c.holds_below.ensures.found fanout p.children p.alone)
