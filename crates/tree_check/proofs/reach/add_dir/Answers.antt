use Rattle.std.proofs.Common.{◌≡◌, ◌==◌, ◌||◌, ℕ, Bool, true, false, List, refl, sym, ap, subst, ◌∙◌, eqb-true}
use Rattle.tree_check.specs.Reach.{mem}
use Rattle.tree_check.proofs.TestLaws.{or_none}
use Rattle.tree_check.proofs.reach.add_dir.Goals as goal

-- what is among numbers need not be added
known : (numbers : List ℕ) (n q : ℕ) → mem n numbers ≡ true → mem q numbers ≡ (mem q numbers || (n == q))
known numbers n q h = by (n == q) refl
  where
    or_true : (b : Bool) → (b || true) ≡ true
    or_true true = refl
    or_true false = refl

    by : (t : Bool) → (n == q) ≡ t → mem q numbers ≡ (mem q numbers || t)
    by false e = or_none (mem q numbers)
    by true e = ap (λ (z : ℕ). mem z numbers) (sym (eqb-true n q e)) ∙ h ∙ sym (or_true (mem q numbers))

pub returns-then-is_last : goal.returns-then-is_last
returns-then-is_last c = λ q.
    let P : List ℕ → Type 0 = λ ns. mem c.args.dir ns ≡ true in
    known c.args.dirs.now.items c.args.dir q (subst P c.as_slice.ensures.value (c.is_last.ensures c.if-is_last.true))
