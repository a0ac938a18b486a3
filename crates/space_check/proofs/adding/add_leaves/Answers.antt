use Rattle.std.proofs.Common.{[], ◌∷◌, ap, map, subst}
use Rattle.media_sys.specs.declared.branch.Branch.{Branch}
use Rattle.space_check.specs.Sums.{AreAdded}
use Rattle.index_media.specs.PlacedRow.{branch_to}
use Rattle.space_check.proofs.Added.{added_end, added_next, added_start, leaves_parts, none}
use Rattle.space_check.proofs.adding.add_leaves.Goals as goal

pub adding-init : goal.adding-init
adding-init c = added_start c.args.first c.args.sums.now (map branch_to c.args.leaves.now)

pub adding-preserved : goal.adding-preserved
adding-preserved c =
    let P : Branch → Type 0 = λ b. AreAdded c.args.first c.adding.sums c.add.new.sums (b ∷ []) in
    added_next c.args.first c.args.sums.now c.adding.sums c.add.new.sums (branch_to c.in-Some.leaf.now) (map branch_to c.in-Some.rest.now) (map branch_to c.adding.left.now) (map branch_to c.args.leaves.now)
    (leaves_parts c.adding.left.now c.in-Some.leaf.now c.in-Some.rest.now c.in-Some.ensures.cases.0) c.adding.invariant (subst P c.branch_to.ensures c.in_ok-add.ensures)

pub returns : goal.returns
returns c = added_end c.args.first c.args.sums.now c.adding.sums (map branch_to c.adding.left.now) (map branch_to c.args.leaves.now) (ap (map branch_to) (none c.adding.left.now c.in_default.ensures.cases)) c.adding.invariant
