-- Tests, and keys that are at themselves alone.
use Rattle.std.proofs.Common.{◌≡◌, ℕ, Bool, true, false, Option, Some, refl, sym, ap, subst}
use Rattle.std.specs.Prelude.{◌==◌, ◌||◌, IfSome}
use Rattle.std.specs.BTreeMap.{is_at}
use Rattle.std.specs.Ordering.{is_eq}
use Rattle.std.specs.declared.cmp.Ordering.{Ordering}
use Rattle.std.specs.declared.cmp.Ordering.TheVariants.{Less, Equal, Greater}
use Rattle.std.proofs.lemmas.Bool.{eq-eqb, eqb-true}
use Rattle.fs_laws.specs.Maps.{IsOrder}
use Rattle.fs_model.specs.declared.change.Change.{Change}
use Rattle.tree_check.specs.declared.shown_leaf.Shown.{Shown}
use Rattle.tree_check.specs.Told.{shown_told}

-- two tests of which each passes where the other does
pub same_tests : (a b : Bool) → (a ≡ true → b ≡ true) → (b ≡ true → a ≡ true) → a ≡ b
same_tests true b h k = sym (h refl)
same_tests false true h k = k refl
same_tests false false h k = refl

pub or_none : (b : Bool) → b ≡ (b || false)
or_none true = refl
or_none false = refl

pub eqb_swap : (a b : ℕ) → (a == b) ≡ (b == a)
eqb_swap a b = same_tests (a == b) (b == a) (λ e. eq-eqb b a (sym (eqb-true a b e))) (λ e. eq-eqb a b (sym (eqb-true b a e)))

-- ---- keys
pub at_same : {K : Type 0} (cmp : K → K → Ordering) → IsOrder cmp → (a b : K) → is_at (cmp a) b ≡ true → a ≡ b
at_same cmp order a b h = by (cmp a b) refl h
  where
    by : (o : Ordering) → cmp a b ≡ o → is_eq o ≡ true → a ≡ b
    by Less e k = absurd cc
    by Equal e k = order.exact a b e
    by Greater e k = absurd cc

pub at_here : {K : Type 0} (cmp : K → K → Ordering) → IsOrder cmp → (a b : K) → a ≡ b → is_at (cmp a) b ≡ true
at_here cmp order a b e = subst (λ x. is_at (cmp a) x ≡ true) e (ap is_eq (order.same a))

pub at_swap : {K : Type 0} (cmp : K → K → Ordering) → IsOrder cmp → (a b : K) → is_at (cmp a) b ≡ is_at (cmp b) a
at_swap cmp order a b = same_tests (is_at (cmp a) b) (is_at (cmp b) a) (λ h. at_here cmp order b a (sym (at_same cmp order a b h))) (λ h. at_here cmp order a b (sym (at_same cmp order b a h)))

-- ---- what holds of each change holds of what is told
pub told_all : (P : Option Change → Shown → Type 0) → ((c : Option Change) → IfSome (shown_told c) (P c)) → (c : Option Change) (s : Shown) → shown_told c ≡ Some s → P c s
told_all P all c s e = subst (λ (o : Option Shown). IfSome o (P c)) e (all c)
