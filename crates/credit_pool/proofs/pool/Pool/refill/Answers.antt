use Rattle.std.proofs.Common.{◌≡◌, rules, ap, arith}
use Rattle.credit_pool.specs.States.{MasterState}
use Rattle.credit_pool.specs.Masters.{of_master}
use Rattle.credit_pool.proofs.Moves.{refills}
use Rattle.credit_pool.proofs.pool.Pool.refill.Goals as goal

pub fetch_add-requires : goal.fetch_add-requires
fetch_add-requires c =
    let limit = c.requires.limit in
    let issued : (of_master c.master.inside.token.me.0).issued ≡ c.args.master.now.issued = ap (λ (m : MasterState). m.issued) c.master.view_is in
    (search rules, search rules, refills _ _ _ c.master.inside.token.me _ c.master.invariant.0 (omega arith))
