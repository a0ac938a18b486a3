use Rattle.std.proofs.Common.{ℕ, ◌∙◌, rules, ap, sym, subst, List, [], Contains}
use Rattle.atomic_table.specs.Table.{Me}
use Rattle.credit_pool.specs.declared.view.View.{View}
use Rattle.credit_pool.specs.declared.view.View.TheVariants.{Master}
use Rattle.credit_pool.specs.States.{SeatState, without}
use Rattle.credit_pool.specs.Steps.{with_seat_back}
use Rattle.credit_pool.specs.Masters.{of_master}
use Rattle.credit_pool.proofs.Counting.{is_gone}
use Rattle.credit_pool.proofs.Moves.{returns, weighs}
use Rattle.credit_pool.proofs.pool.Pool.join.Goals as goal

abbrev Knows : Type 0
Knows = Me (Unit {0}) View

pub join_seat-requires : goal.join_seat-requires
join_seat-requires c = (
  search rules,
  search rules,
  search rules,
  search rules,
  returns _ c.master.inside.token.me.0 _ _ c.seat.inside.token.me.0 _ (ap (λ (me : Me (Unit {0}) View). me.0) c.master.invariant.0) (ap (λ (me : Me (Unit {0}) View). me.0) c.seat.invariant.0) c.seat.invariant.1,
)

pub load-requires : goal.load-requires
load-requires c =
    let both : Knows × Knows → Knows = λ p. (with_seat_back p.0.0 p.1.0, p.0.1) in
    (search rules, search rules, weighs _ _ c.join_seat.new.seat.me _ (c.join_seat.ensures.2 ∙ ap both (λ i. (c.master.invariant.0 i, c.seat.invariant.0 i))))

pub invariant_of-master : goal.invariant_of-master
invariant_of-master c =
    let both : Knows × Knows → Knows = λ p. (with_seat_back p.0.0 p.1.0, p.0.1) in
    let is = c.load.ensures.2.0 ∙ (c.join_seat.ensures.2 ∙ ap both (λ i. (c.master.invariant.0 i, c.seat.invariant.0 i))) in
    let left : List ℕ × ℕ → List ℕ = λ p. without p.1 p.0 in (
      is ∙ ap (λ (me : Knows). (Master (of_master me.0), [])) (sym is),
      ap (λ (me : Knows). (of_master me.0).out) is ∙ (ap left (λ i. (c.master.invariant.1 i, c.seat.invariant.2 i)) ∙ sym c.leave_out.ensures),
    )

pub returns-clause-gone : goal.returns-clause-gone
returns-clause-gone c =
    let both : Knows × Knows → Knows = λ p. (with_seat_back p.0.0 p.1.0, p.0.1) in
    let is = c.load.ensures.2.0 ∙ (c.join_seat.ensures.2 ∙ ap both (λ i. (c.master.invariant.0 i, c.seat.invariant.0 i))) in
    let out = ap (λ (me : Knows). (of_master me.0).out) is in
    let caller = ap (λ (s : SeatState). s.caller) c.seat.view_is in
    subst (λ (l : List ℕ). ¬ Contains l c.args.seat.caller) (sym out) (subst (λ (x : ℕ). ¬ Contains (without x (of_master c.master.inside.token.me.0).out) c.args.seat.caller) (sym caller) (is_gone c.args.seat.caller (of_master c.master.inside.token.me.0).out))
