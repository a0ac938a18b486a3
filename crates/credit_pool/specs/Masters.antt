-- The master's fields, as contracts see them.
use Rattle.std.specs.Prelude.{◌≡◌, []}
use Rattle.credit_pool.specs.declared.master.Master.TheInside.{Inside}
use Rattle.credit_pool.specs.declared.view.MasterView.{MasterView}
use Rattle.credit_pool.specs.declared.view.View.{View}
use Rattle.credit_pool.specs.declared.view.View.TheVariants.{Master, Seat}
use Rattle.credit_pool.specs.States.{MasterState}

-- what the master's token knows
abbrev pub of_master : View → MasterView
of_master (Master m) = m
of_master (Seat s) = record { issued = 0; held = 0; out = []; next = 0 }

abbrev pub master_state : Inside → MasterState
master_state a =
    let v = of_master a.token.me.0 in record { pool = a.token.table_id; issued = v.issued; held = v.held; out = v.out }

-- the token is the master's, and the list is of those who are out
abbrev pub IsMaster : Inside → Type 0
IsMaster a = (a.token.me ≡ (Master (of_master a.token.me.0), [])) × ((of_master a.token.me.0).out ≡ a.out.items)
