use Rattle.std.proofs.Common.{◌≡◌, rules, ap, arith}
use Rattle.credit_pool.specs.States.{SeatState}
use Rattle.credit_pool.specs.Seats.{of_seat}
use Rattle.credit_pool.proofs.Moves.{takes}
use Rattle.credit_pool.proofs.pool.Pool.take.Goals as goal

pub compare_exchange-found-requires : goal.compare_exchange-found-requires
compare_exchange-found-requires c =
    let enough = c.requires.enough in
    let limit = c.requires.limit in
    let held : (of_seat c.seat.inside.token.me.0).held ≡ c.args.seat.now.held = ap (λ (s : SeatState). s.held) c.seat.view_is in
    (search rules, search rules, takes _ _ _ _ c.seat.inside.token.me _ c.seat.invariant.0 c.seat.invariant.1 (omega arith) (omega arith))
