use Rattle.std.proofs.Common.{rules}
use Rattle.credit_pool.proofs.Moves.{drains}
use Rattle.credit_pool.proofs.pool.Pool.drain.Goals as goal

pub swap-requires : goal.swap-requires
swap-requires c = (search rules, search rules, drains _ _ c.master.inside.token.me _ c.master.invariant.0)
