-- A seat's fields, as contracts see them.
use Rattle.std.specs.Prelude.{◌≡◌, false, []}
use Rattle.credit_pool.specs.declared.seat.Seat.TheInside.{Inside}
use Rattle.credit_pool.specs.declared.view.SeatView.{SeatView}
use Rattle.credit_pool.specs.declared.view.View.{View}
use Rattle.credit_pool.specs.declared.view.View.TheVariants.{Master, Seat}
use Rattle.credit_pool.specs.States.{SeatState}

-- what a seat's token knows
abbrev pub of_seat : View → SeatView
of_seat (Master m) = record { caller = 0; held = 0; found = 0; count = 0; spent = false }
of_seat (Seat s) = s

abbrev pub seat_state : Inside → SeatState
seat_state a =
    let v = of_seat a.token.me.0 in record { pool = a.token.table_id; caller = v.caller; held = v.held; found = v.found; count = v.count }

-- the token is that of an unspent seat of this caller
abbrev pub IsSeat : Inside → Type 0
IsSeat a = (a.token.me ≡ (Seat (of_seat a.token.me.0), [])) × ((of_seat a.token.me.0).spent ≡ false) × ((of_seat a.token.me.0).caller ≡ a.caller)
