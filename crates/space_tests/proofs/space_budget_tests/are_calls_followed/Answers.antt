use Rattle.std.proofs.Common.{refl, arith}
use Rattle.space_tests.proofs.space_budget_tests.are_calls_followed.Goals as goal

pub spend_page-requires-clause-paid : goal.spend_page-requires-clause-paid
spend_page-requires-clause-paid c =
    rw (c.in-Ok.ensures.ok, c.in-Some.ensures.space, c.numbers.ensures.exactly, c.pages.ensures.exactly)
    (record { credit = omega arith; bytes_paid = omega arith; nodes_paid = omega arith })

pub give_back-requires : goal.give_back-requires
give_back-requires c =
    rw (c.spend_page.ensures.exactly, c.in-Ok.ensures.ok, c.in-Some.ensures.space, c.numbers.ensures.exactly, c.pages.ensures.exactly) (omega arith)

pub admit-requires-2-clause-small : goal.admit-requires-2-clause-small
admit-requires-2-clause-small c =
    rw (c.give_back.ensures.exactly, c.spend_page.ensures.exactly, c.in-Ok.ensures.ok, c.in-Some.ensures.space, c.numbers.ensures.exactly, c.pages.ensures.exactly)
    (record { used = omega arith; held = omega arith; credits = omega arith; weight = omega arith })

pub spend_group-requires-clause-small : goal.spend_group-requires-clause-small
spend_group-requires-clause-small c =
    rw (c.in-Ok-admit.ensures.ok, c.removal.ensures.exactly, c.give_back.ensures.exactly, c.spend_page.ensures.exactly, c.in-Ok.ensures.ok, c.in-Some.ensures.space, c.numbers.ensures.exactly, c.pages.ensures.exactly)
    (record { used = omega arith; held = omega arith; credits = omega arith; weight = omega arith })

pub spend_group-requires-clause-paid : goal.spend_group-requires-clause-paid
spend_group-requires-clause-paid c =
    rw (c.in-Ok-admit.ensures.ok, c.removal.ensures.exactly, c.give_back.ensures.exactly, c.spend_page.ensures.exactly, c.in-Ok.ensures.ok, c.in-Some.ensures.space, c.numbers.ensures.exactly, c.pages.ensures.exactly)
    (record { grant = record { bytes = 288; nodes = 3 }; is = refl; bytes_paid = omega arith; nodes_paid = omega arith })
