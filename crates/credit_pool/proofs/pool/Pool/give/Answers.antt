use Rattle.std.proofs.Common.{◌≡◌, rules, ap, arith}
use Rattle.credit_pool.specs.States.{SeatState}
use Rattle.credit_pool.specs.Seats.{of_seat}
use Rattle.credit_pool.proofs.Moves.{gives}
use Rattle.credit_pool.proofs.pool.Pool.give.Goals as goal

pub fetch_add-requires : goal.fetch_add-requires
fetch_add-requires c =
    let enough = c.requires.held in
    let held : (of_seat c.seat.inside.token.me.0).held ≡ c.args.seat.now.held = ap (λ (s : SeatState). s.held) c.seat.view_is in
    (search rules, search rules, gives _ _ _ c.seat.inside.token.me _ c.seat.invariant.0 c.seat.invariant.1 (omega arith))
