-- What each kind of step makes of what its owner knows, and what it tells.
use Rattle.std.specs.Prelude.{◌≡◌, ℕ, ◌+◌, ◌-◌, ◌*◌, ◌≤◌, ◌==◌, true, false, if◌then◌else◌, [], ◌∷◌, ◌++◌, length}
use Rattle.atomic_table.specs.Table.{Me, Step}
use Rattle.credit_pool.specs.declared.view.SeatView.{SeatView}
use Rattle.credit_pool.specs.declared.view.MasterView.{MasterView}
use Rattle.credit_pool.specs.declared.view.View.{View}
use Rattle.credit_pool.specs.declared.view.View.TheVariants.{Master, Seat}
use Rattle.credit_pool.specs.States.{without}
use Rattle.credit_pool.specs.Rule.{Accounts}

abbrev Knows : Type 0
Knows = Me (Unit {0}) View

abbrev Kind : Type 0
Kind = Step (Unit {0})

-- a seat's view after a load or an exchange that found this room
abbrev pub seen : ℕ → SeatView → SeatView
seen room s = record { caller = s.caller; held = s.held; found = room; count = s.count + 1; spent = s.spent }

-- a seat's view with these credits in place of its own
abbrev pub with_held : ℕ → SeatView → SeatView
with_held credits s = record { caller = s.caller; held = credits; found = s.found; count = s.count; spent = s.spent }

-- a seat's view after an exchange of a room for less that found this room
abbrev pub tried : ℕ → ℕ → ℕ → SeatView → SeatView
tried old less room s = if room == old then with_held (s.held + (old - less)) (seen room s) else seen room s

-- the master's view with other numbers
abbrev pub with_numbers : ℕ → ℕ → MasterView → MasterView
with_numbers issued held m = record { issued = issued; held = held; out = m.out; next = m.next }

-- a step of a seat, and one of the master
abbrev pub by_seat : (SeatView → SeatView) → View → View
by_seat change (Master m) = Master m
by_seat change (Seat s) = Seat (change s)

abbrev pub by_master : (MasterView → MasterView) → View → View
by_master change (Master m) = Master (change m)
by_master change (Seat s) = Seat s

-- what is told of the master alone
abbrev pub OfMaster : (MasterView → Type 0) → View → Type 0
OfMaster P (Master m) = P m
OfMaster P (Seat s) = Unit {0}

-- load: the seat has found the room
abbrev pub Looks : Kind → Knows → ℕ → Knows → Type 0
Looks kind me room new = new ≡ (by_seat (seen room) me.0, me.1)

-- draw: the seat has found the room, and holds what the room lost, if it was the one wanted
abbrev pub Takes : Kind → Knows → ℕ → Knows → Type 0
Takes kind me room new = new ≡ (by_seat (tried kind.first kind.second room) me.0, me.1)

-- give: the seat holds less by what the room gained
abbrev pub Gives : Kind → Knows → ℕ → Knows → Type 0
Gives kind me room new = new ≡ (by_seat (λ s. with_held (s.held - kind.first) s) me.0, me.1)

-- refill: what the room gained is issued
abbrev pub Refills : Kind → Knows → ℕ → Knows → Type 0
Refills kind me room new = new ≡ (by_master (λ m. with_numbers (m.issued + kind.first) m.held m) me.0, me.1)

-- drain: the room isn't issued any more. It and what the master holds were together at most issued, and issued was at most these and 17 for each caller that is out, since the rule held
abbrev pub Drains : Kind → Knows → ℕ → Knows → Type 0
Drains kind me room new =
    (new ≡ (by_master (λ m. with_numbers (m.issued - room) m.held m) me.0, me.1))
    × OfMaster (λ m. (room + m.held ≤ m.issued) × (m.issued ≤ room + m.held + 17 * length m.out) × Accounts room m.issued m.held m.out) me.0

-- settle: the number named is neither held by the master nor issued any more. It was issued
abbrev pub Settles : Kind → Knows → ℕ → Knows → Type 0
Settles kind me room new =
    (new ≡ (by_master (λ m. with_numbers (m.issued - kind.first) (m.held - kind.first) m) me.0, me.1)) × OfMaster (λ m. m.held ≤ m.issued) me.0

-- call: the caller named gets the next seat
abbrev pub Calls : Kind → Knows → ℕ → Knows → Type 0
Calls kind me room new = new ≡ (by_master (λ m. record { issued = m.issued; held = m.held; out = m.out; next = kind.first }) me.0, me.1)

-- weigh: what the master holds is at most what is issued
abbrev pub Weighs : Kind → Knows → ℕ → Knows → Type 0
Weighs kind me room new = (new ≡ me) × OfMaster (λ m. m.held ≤ m.issued) me.0

-- split: the caller called last is out, and its seat is new
abbrev pub with_seat_out : View → View
with_seat_out v = by_master (λ m. record { issued = m.issued; held = m.held; out = m.out ++ m.next ∷ []; next = m.next }) v

abbrev pub new_seat : View → View
new_seat (Master m) = Seat (record { caller = m.next; held = 0; found = 0; count = 0; spent = false })
new_seat (Seat s) = Seat s

-- join: the master takes what the seat held, and its caller isn't out any more
abbrev pub with_seat_back : View → View → View
with_seat_back (Master m) (Master n) = Master m
with_seat_back (Master m) (Seat s) = Master (record { issued = m.issued; held = m.held + s.held; out = without s.caller m.out; next = m.next })
with_seat_back (Seat s) v = Seat s

abbrev pub spent_seat : View
spent_seat = Seat (record { caller = 0; held = 0; found = 0; count = 0; spent = true })
