use Rattle.std.proofs.Common.{◌≡◌, Option, subst, sym, ◌∙◌}
use Rattle.credit_pool.specs.States.{SeatState}
use Rattle.credited_files.specs.Stocks.{SeatFits}
use Rattle.credited_files.proofs.Others.{all_others}
use Rattle.credited_files.proofs.credits.joined.Goals as goal

pub returns-in_default-clause-master : goal.returns-in_default-clause-master
returns-in_default-clause-master c =
    let zero : c.args.held ≡ 0 = subst (λ (s : Option SeatState). SeatFits c.args.pool.now c.args.caller c.args.held s) c.in_default.is c.requires.seat in
    let held = c.requires.pool.1 ∙ sym zero in
    let out = sym (all_others c.args.caller c.args.master.now.out (c.requires.none c.in_default.is)) in
    λ k. record { pool = c.requires.pool.0 k; issued = c.args.master.now.issued; held = held k; out = out k }
