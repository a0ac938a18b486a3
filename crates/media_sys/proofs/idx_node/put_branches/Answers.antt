use Rattle.std.proofs.Common.{◌≡◌, ◌+◌, ◌-◌, ◌*◌, ◌<◌, suc, length, arith}
use Rattle.media_sys.specs.Index.{branch_fields}
use Rattle.media_sys.proofs.FieldLemmas.{spelled_more, fits_more, none_spelled, none_fits}
use Rattle.media_sys.proofs.idx_node.put_branches.Goals as goal

pub loop-left-init : goal.loop-left-init
loop-left-init c =
    let branches = c.args.branches.now in
    record { spelled = none_spelled branch_fields branches (4 + 20 * length branches) c.args.body.now (omega arith); fits = none_fits branch_fields branches; below = omega arith }

pub loop-left-preserved : goal.loop-left-preserved
loop-left-preserved c =
    let branches = c.args.branches.now in
    let left = c.loop-left.left in
    let next : suc (left - 1) ≡ left = omega arith in
    let below : left - 1 < length branches = omega (arith, c.loop-left.invariant.below) in
    let place : 4 + 20 * (left - 1) + 20 ≡ 4 + 20 * left = omega arith in
    record {
      spelled = spelled_more branch_fields branches (left - 1) left _ (4 + 20 * (left - 1)) (4 + 20 * (left - 1) + 20) (4 + 20 * left) c.loop-left.body c.put_branch.new.body next below place
          c.put_branch.ensures.spelling c.loop-left.invariant.spelled;
      fits = fits_more branch_fields branches (left - 1) left _ next below c.put_branch.ensures.fits c.loop-left.invariant.fits;
      below = omega (arith, c.loop-left.invariant.below);
    }
