use Rattle.std.proofs.Common.{◌≡◌, ◌<◌, ◌∷◌, ◌++◌, [], List, length, ap, sym, subst, ◌∙◌, arith, append-nil, append_assoc}
use Rattle.std.specs.Prelude.{OnOk, filter, ◌==◌}
use Rattle.std.proofs.lemmas.List.Elements.{filter-append}
use Rattle.index_tree.specs.Shape.{contents}
use Rattle.index_tree.specs.declared.leaf.Leaf.{Leaf}
use Rattle.index_media.specs.PlacedRow.{branches_of, plain}
use Rattle.media_sys.specs.Index.{Index}
use Rattle.node_cache.specs.FirstAt.{first_at, only_leaf, only_node, no_leaf}
use Rattle.node_cache.specs.RowsOn.{below, row_moved}
use Rattle.node_cache.proofs.KeptNodes.{node_of}
use Rattle.node_cache.proofs.cache.NodeCache.+scanning.Goals as goal

-- ---- below a node
pub push_below-take-requires : goal.push_below-take-requires
push_below-take-requires g t c =
    let own = c.requires.row in
    let p = below (g.V.Volume.state c.args.volume.now) own.0 c.args.level c.args.branch.now own.1 own.2 in
    record { lnum = p.lnum; node = (record { level = c.args.level; branches = branches_of own.1 }, p.said); kept = c.requires.kept }

pub push_below-push_among-pushed-requires : goal.push_below-push_among-pushed-requires
push_below-push_among-pushed-requires g t c κs inside =
    let a = g.V.Volume.state c.args.volume.now in
    let b = g.V.Volume.state c.take.new.volume in
    let own = c.requires.row in
    let p = below a own.0 c.args.level c.args.branch.now own.1 own.2 in
    let took = c.in_ok-node.ensures in
    let said = took.said (record { level = c.args.level; branches = branches_of own.1 }) p.said in
    let branches = sym (ap (λ (i : Index). i.branches) said) ∙ sym c.as_slice.ensures.value in
    let few = took.few in
    let long = ap length c.as_slice.ensures.value in
    (omega (arith, few, long, c.decreases), (inside, ((own.0, own.1, branches, row_moved a b own.0 c.args.level own.1 took.reads.keeps took.reads.shape p.on), took.kept)))

pub push_below-returns-clause-pushed : goal.push_below-returns-clause-pushed
push_below-returns-clause-pushed g t c = λ fanout row on.
    let a = g.V.Volume.state c.args.volume.now in
    let b = g.V.Volume.state c.take.new.volume in
    let p = below a fanout c.args.level c.args.branch.now row on in
    let took = c.in_ok-node.ensures in
    let said = took.said (record { level = c.args.level; branches = branches_of row }) p.said in
    let branches = sym (ap (λ (i : Index). i.branches) said) ∙ sym c.as_slice.ensures.value in
    c.push_among-pushed.ensures.pushed fanout row branches (row_moved a b fanout c.args.level row took.reads.keeps took.reads.shape p.on)

pub push_below-returns-clause-kept : goal.push_below-returns-clause-kept
push_below-returns-clause-kept g t c =
    let old = (g.V.Volume.state c.args.volume.now).holds in
    let new = (g.V.Volume.state c.push_among-pushed.new.volume).holds in
    c.keep.ensures.kept new c.push_among-pushed.ensures.kept
    (node_of old new c.args.branch.now c.in_ok-node.node (λ k. c.push_among-pushed.ensures.reads.keeps.holds k ∙ c.take.ensures.reads.keeps.holds k) c.in_ok-node.ensures.said)

-- ---- among branches
pub push_among-returns-in-None-clause-pushed : goal.push_among-returns-in-None-clause-pushed
push_among-returns-in-None-clause-pushed g t c = λ fanout row e on.
    sym (ap (λ (v : List Leaf). c.args.leaves.now.items ++ filter (λ (x : Leaf). x.lnum == c.args.lnum) v) (no_leaf row c.args.branches.now e c.in-None.ensures.cases) ∙ append-nil c.args.leaves.now.items)

pub push_among-push_at-requires : goal.push_among-push_at-requires
push_among-push_at-requires g t c κs inside =
    let a = g.V.Volume.state c.args.volume.now in
    let own = c.requires.row in
    let is = c.in-Some.ensures.cases.0 in
    let p = first_at a own.0 c.args.levels own.1 c.in-Some.branch.now c.in-Some.rest.now (own.2 ∙ is) own.3 in
    let long = ap length is in
    (omega (arith, long, c.decreases), (inside, ((own.0, p.alone, p.own, p.on_alone), c.requires.kept)))

pub push_among-push_among-requires : goal.push_among-push_among-requires
push_among-push_among-requires g t c κs inside =
    let a = g.V.Volume.state c.args.volume.now in
    let b = g.V.Volume.state c.push_at.new.volume in
    let own = c.requires.row in
    let is = c.in-Some.ensures.cases.0 in
    let p = first_at a own.0 c.args.levels own.1 c.in-Some.branch.now c.in-Some.rest.now (own.2 ∙ is) own.3 in
    let long = ap length is in
    (omega (arith, long, c.decreases), (inside, ((own.0, p.others, p.branches, row_moved a b own.0 c.args.levels p.others c.push_at.ensures.reads.keeps c.push_at.ensures.reads.shape p.on), c.push_at.ensures.kept)))

pub push_among-returns-in_ok-push_at-in-Some-clause-pushed : goal.push_among-returns-in_ok-push_at-in-Some-clause-pushed
push_among-returns-in_ok-push_at-in-Some-clause-pushed g t c = λ fanout row e on.
    let a = g.V.Volume.state c.args.volume.now in
    let b = g.V.Volume.state c.push_at.new.volume in
    let p = first_at a fanout c.args.levels row c.in-Some.branch.now c.in-Some.rest.now (e ∙ c.in-Some.ensures.cases.0) on in
    let old = c.args.leaves.now.items in
    let own = filter (λ (x : Leaf). x.lnum == c.args.lnum) (contents (plain p.alone)) in
    let more = filter (λ (x : Leaf). x.lnum == c.args.lnum) (contents (plain p.others)) in
    let here = c.in_ok-push_at-in-Some.ensures.pushed fanout p.alone p.own p.on_alone in
    let both = ap (λ (v : List Leaf). filter (λ (x : Leaf). x.lnum == c.args.lnum) v) p.is ∙ filter-append (λ (x : Leaf). x.lnum == c.args.lnum) (contents (plain p.alone)) (contents (plain p.others)) in
    let P : List Leaf → Type 0 = λ v. OnOk c.push_among.result (c.push_among.new.leaves.items ≡ v) in
    subst P (ap (λ (v : List Leaf). v ++ more) here ∙ append_assoc old own more ∙ ap (λ (v : List Leaf). old ++ v) (sym both)) (c.push_among.ensures.pushed fanout p.others p.branches (row_moved a b fanout c.args.levels p.others c.push_at.ensures.reads.keeps c.push_at.ensures.reads.shape p.on))

-- ---- at one branch
pub push_at-returns-then-levels-eq0-clause-pushed : goal.push_at-returns-then-levels-eq0-clause-pushed
push_at-returns-then-levels-eq0-clause-pushed g t c = λ fanout row e on.
    let a = g.V.Volume.state c.args.volume.now in
    let leaf = only_leaf a fanout c.args.levels row c.args.branch.now c.if-levels-eq0.true e on in
    c.in_ok-push_one.ensures
    ∙ ap (λ (x : Leaf). c.args.leaves.now.items ++ filter (λ (x : Leaf). x.lnum == c.args.lnum) (x ∷ [])) c.leaf_to.ensures
    ∙ sym (ap (λ (v : List Leaf). c.args.leaves.now.items ++ filter (λ (x : Leaf). x.lnum == c.args.lnum) v) leaf)

pub push_at-push_below-requires : goal.push_at-push_below-requires
push_at-push_below-requires g t c κs inside =
    let a = g.V.Volume.state c.args.volume.now in
    let own = c.requires.row in
    let some : 0 < c.args.levels = omega (arith, c.if-levels-eq0.false) in
    let p = only_node a own.0 c.args.levels own.1 c.args.branch.now some own.2 own.3 in
    (omega (arith, some, c.decreases), (inside, ((own.0, p.children, p.alone), c.requires.kept)))

pub push_at-returns-clause-pushed : goal.push_at-returns-clause-pushed
push_at-returns-clause-pushed g t c = λ fanout row e on.
    let a = g.V.Volume.state c.args.volume.now in
    let some : 0 < c.args.levels = omega (arith, c.if-levels-eq0.false) in
    let p = only_node a fanout c.args.levels row c.args.branch.now some e on in
    let P : List Leaf → Type 0 = λ v. OnOk c.push_below.result (c.push_below.new.leaves.items ≡ c.args.leaves.now.items ++ filter (λ (x : Leaf). x.lnum == c.args.lnum) v) in
    subst P (sym p.is) (c.push_below.ensures.pushed fanout p.children p.alone)
