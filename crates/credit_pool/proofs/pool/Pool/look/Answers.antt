use Rattle.std.proofs.Common.{rules}
use Rattle.credit_pool.proofs.Moves.{looks}
use Rattle.credit_pool.proofs.pool.Pool.look.Goals as goal

pub load-requires : goal.load-requires
load-requires c = (search rules, search rules, looks _ _ c.seat.inside.token.me _ c.seat.invariant.0 c.seat.invariant.1)
