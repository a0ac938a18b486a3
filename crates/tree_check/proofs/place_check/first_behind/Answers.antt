use Rattle.std.proofs.Common.{◌≡◌, List, [], ◌∷◌, length, arith}
use Rattle.tree_check.specs.Facts.{facts_in}
use Rattle.tree_check.specs.declared.shown_leaf.ShownLeaf.{ShownLeaf}
use Rattle.tree_check.proofs.SeenSoFar.{seen_end, seen_next, seen_start}
use Rattle.tree_check.proofs.place_check.first_behind.Goals as goal

empty : (xs : List ShownLeaf) → length xs ≡ 0 → xs ≡ []
empty [] h = cc
empty (x ∷ xs) h = absurd (omega (arith, h))

pub telling-init : goal.telling-init
telling-init c = seen_start (facts_in c.args.facts.now) c.args.leaves.now c.nothing_seen-seen.result c.args.found c.nothing_seen-seen.ensures.no_inodes c.nothing_seen-seen.ensures.no_names c.nothing_seen-seen.ensures.no_blocks c.nothing_seen-seen.ensures.no_cuts

pub telling-preserved : goal.telling-preserved
telling-preserved c =
    seen_next (facts_in c.args.facts.now) c.args.leaves.now c.telling.left.now c.in-Some.rest.now c.in-Some.leaf.now c.telling.seen c.misplaced.new.seen c.args.found c.telling.first c.in_ok-misplaced.field-0 c.sooner-first.result
    c.in-Some.ensures.cases.0 c.telling.invariant c.in_ok-misplaced.ensures.wrong c.sooner-first.ensures c.in_ok-misplaced.ensures.noted

pub returns : goal.returns
returns c = seen_end (facts_in c.args.facts.now) c.args.leaves.now c.telling.left.now c.telling.seen c.args.found c.telling.first (empty c.telling.left.now c.in_default.ensures.cases) c.telling.invariant
