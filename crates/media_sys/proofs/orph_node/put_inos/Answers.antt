use Rattle.std.proofs.Common.{◌≡◌, ◌+◌, ◌-◌, ◌*◌, ◌<◌, suc, length, arith}
use Rattle.media_sys.specs.Orphans.{ino_fields}
use Rattle.media_sys.proofs.OrphanLemmas.{all_below}
use Rattle.media_sys.proofs.FieldLemmas.{spelled_more, fits_more, none_spelled, none_fits}
use Rattle.media_sys.proofs.orph_node.put_inos.Goals as goal

pub loop-left-init : goal.loop-left-init
loop-left-init c =
    let inos = c.args.inos.now in
    record { spelled = none_spelled ino_fields inos (8 + 8 * length inos) c.args.body.now (omega arith); fits = none_fits ino_fields inos; below = omega arith }

pub loop-left-preserved : goal.loop-left-preserved
loop-left-preserved c =
    let inos = c.args.inos.now in
    let left = c.loop-left.left in
    let next : suc (left - 1) ≡ left = omega arith in
    let below : left - 1 < length inos = omega (arith, c.loop-left.invariant.below) in
    let place : 8 + 8 * (left - 1) + 8 ≡ 8 + 8 * left = omega arith in
    record {
      spelled = spelled_more ino_fields inos (left - 1) left _ (8 + 8 * (left - 1)) (8 + 8 * (left - 1) + 8) (8 + 8 * left) c.loop-left.body c.put_ino.new.body next below place
          c.put_ino.ensures.spelling c.loop-left.invariant.spelled;
      fits = fits_more ino_fields inos (left - 1) left _ next below c.put_ino.ensures.fits c.loop-left.invariant.fits;
      below = omega (arith, c.loop-left.invariant.below);
    }

pub returns-clause-below : goal.returns-clause-below
returns-clause-below c = all_below c.args.inos.now (λ i. omega (arith, c.type_inv.inos i))
