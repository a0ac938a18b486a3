use Rattle.std.proofs.Common.{◌≡◌, ℕ, ◌+◌, List, [], ◌∷◌, length, suc, ap, subst, sym, ◌∙◌, arith, rules}
use Rattle.std.specs.Prelude.{is_some}
use Rattle.std.specs.Vec.{vec_len}
use Rattle.std.specs.BTreeMap.{is_at}
use Rattle.std.specs.Map.{lookup}
use Rattle.std.specs.Ordering.{nat_cmp}
use Rattle.std.proofs.lemmas.Bool.{eqb-true}
use Rattle.tree_check.proofs.Levels.{IsLevel, level_end, level_next, level_start}
use Rattle.tree_check.specs.Reach.{children_at, has, reaches}
use Rattle.tree_check.proofs.reach.reached_in.Goals as goal

empty : (xs : List ℕ) → length xs ≡ 0 → xs ≡ []
empty [] h = cc
empty (x ∷ xs) h = absurd (omega (arith, h))

pub loop-step-init : goal.loop-step-init
loop-step-init c =
    level_start c.args.links.now (has c.new-reached.result) (has c.note.new.reached) c.note.new.next.items
    (λ q. ap (λ es. is_some (lookup (is_at (nat_cmp q)) es)) c.new-reached.ensures.empty)
    c.in_ok-note.ensures.reached
    (λ q. c.in_ok-note.ensures.next q ∙ search rules)

pub loop-step-preserved : goal.loop-step-preserved
loop-step-preserved c =
    let level = c.loop-step.level.items in
    let P : List ℕ → Type 0 = λ xs. IsLevel c.args.links.now c.loop-step.step (has c.loop-step.reached) xs in
    let n : suc c.loop-step.step ≡ c.loop-step.step + 1 = omega arith in
    let Q : ℕ → Type 0 = λ k. IsLevel c.args.links.now k (has c.below.new.reached) c.in_ok-level.level.items in
    subst Q n (
    level_next c.args.links.now c.loop-step.step (has c.loop-step.reached) (has c.below.new.reached) (children_at c.in_ok-children.children) c.as_slice.result.now c.in_ok-level.level.items
    c.in_ok-children.ensures (subst P (sym c.as_slice.ensures.value) c.loop-step.invariant) c.in_ok-level.ensures.reached c.in_ok-level.ensures.level
    )

pub returns-then-is_empty : goal.returns-then-is_empty
returns-then-is_empty c =
    let e : vec_len c.loop-step.level ≡ 0 = eqb-true (vec_len c.loop-step.level) 0 (sym c.is_empty.ensures ∙ c.if-is_empty.true) in
    let k = c.loop-step.level.ok.0 in
    level_end c.args.links.now c.loop-step.step c.args.steps (has c.loop-step.reached) c.loop-step.level.items c.loop-step.invariant (empty c.loop-step.level.items (omega (arith, e, k))) (omega arith)

pub returns : goal.returns
returns c = λ q. c.loop-step.invariant.exact q ∙ ap (λ n. reaches c.args.links.now n q) (omega arith)
