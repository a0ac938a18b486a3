use Rattle.std.proofs.Common.{◌≡◌, ℕ, ◌∙◌, rules, ap, sym, subst, List, Contains}
use Rattle.atomic_table.specs.Table.{Me}
use Rattle.credit_pool.specs.declared.view.View.{View}
use Rattle.credit_pool.specs.States.{MasterState}
use Rattle.credit_pool.specs.Masters.{of_master}
use Rattle.credit_pool.specs.Steps.{by_master}
use Rattle.credit_pool.proofs.Counting.{not_out}
use Rattle.credit_pool.proofs.Moves.{calls, parts}
use Rattle.credit_pool.proofs.pool.Pool.split.Goals as goal

pub compare_exchange-requires : goal.compare_exchange-requires
compare_exchange-requires c = (search rules, search rules, calls _ _ _ c.master.inside.token.me _ c.master.invariant.0)

pub split_seat-token-requires : goal.split_seat-token-requires
split_seat-token-requires c =
    let m = of_master c.master.inside.token.me.0 in
    let named : View → View = by_master (λ n. record { issued = n.issued; held = n.held; out = n.out; next = c.args.caller }) in
    let is = ap (λ (me : Me (Unit {0}) View). me.0) c.compare_exchange.ensures.2 ∙ ap (λ (me : Me (Unit {0}) View). named me.0) c.master.invariant.0 in
    let out : m.out ≡ c.args.master.now.out = ap (λ (n : MasterState). n.out) c.master.view_is in
    let away : ¬ Contains m.out c.args.caller = subst (λ (l : List ℕ). ¬ Contains l c.args.caller) (sym out) c.requires.one in
    (search rules, search rules, parts _ c.compare_exchange.new.seat.me.0 (record { issued = m.issued; held = m.held; out = m.out; next = c.args.caller }) is (not_out c.args.caller m.out away))
