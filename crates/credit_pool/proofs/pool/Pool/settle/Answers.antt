use Rattle.std.proofs.Common.{◌≡◌, rules, ap, arith}
use Rattle.credit_pool.specs.States.{MasterState}
use Rattle.credit_pool.specs.Masters.{of_master}
use Rattle.credit_pool.proofs.Moves.{settles}
use Rattle.credit_pool.proofs.pool.Pool.settle.Goals as goal

pub compare_exchange-requires : goal.compare_exchange-requires
compare_exchange-requires c =
    let enough = c.requires.held in
    let held : (of_master c.master.inside.token.me.0).held ≡ c.args.master.now.held = ap (λ (m : MasterState). m.held) c.master.view_is in
    (search rules, search rules, settles _ _ _ c.master.inside.token.me _ c.master.invariant.0 (omega arith))
