-- Sums over a list of which one element is set, and how much the seats of those who are out may hold.
use Rattle.std.proofs.Common.{◌≡◌, ℕ, zero, suc, ◌+◌, ◌*◌, ◌<◌, ◌≤◌, ◌==◌, ◌≢◌, ◌&&◌, Bool, true, false, cond, not, List, [], ◌∷◌, length, get_or, set, sum_by, All, Contains, refl, ap, sym, ◌∙◌, subst, arith, eq-eqb, ne_eqb}
use Rattle.std.proofs.lemmas.List.Sums.{sum_by-cons, sum_by-set}
use Rattle.std.proofs.lemmas.Bool.Decides.{nat_tests}
use mathlib.Core.Logic.{dite}
use mathlib.Core.Option.{some, some-injective, some-ne-none}
use native.Mathlib.Decide.{ℕ_discrete}
use lib.ListN.{get_elem?}
use Rattle.credit_pool.specs.declared.view.SeatView.{SeatView}
use Rattle.credit_pool.specs.States.{without}
use Rattle.credit_pool.specs.Rule.{most_held, held_by, seats_of, times_out}

module _ {A : Type 0} where
  pub at_place : (l : List A) (k : ℕ) (a d : A) → get_elem? l k ≡ some a → (k < length l) × (get_or l k d ≡ a)
  at_place [] k a d e = absurd (some-ne-none a (sym e))
  at_place (x ∷ xs) zero a d e = (omega arith, some-injective x a e)
  at_place (x ∷ xs) (suc k) a d e = let r = at_place xs k a d e in (omega arith, r.1)

  pub sum_there : (f : A → ℕ) (l : List A) (k : ℕ) (a b : A) → get_elem? l k ≡ some a → sum_by f (set l k b) + f a ≡ sum_by f l + f b
  sum_there f l k a b e =
      let p = at_place l k a a e in subst (λ (x : A). sum_by f (set l k b) + f x ≡ sum_by f l + f b) p.1 (sum_by-set f l k b a p.0)

  pub of_all : (P : A → Type 0) (l : List A) (k : ℕ) (a : A) → get_elem? l k ≡ some a → All P l → P a
  of_all P l k a e all = let p = at_place l k a a e in subst P p.1 (all k a p.0)

  pub all_behind : (P : A → Type 0) (x : A) (xs : List A) → All P (x ∷ xs) → All P xs
  all_behind P x xs all = λ k d lt. all (suc k) d (omega arith)

abbrev pub one : Bool → ℕ
one b = cond b 1 0

-- a caller who is out may be taken out of the list once
pub taken_out : (c : ℕ) (out : List ℕ) → 1 ≤ times_out c out → (rest : List ℕ) × (length out ≡ length rest + 1) × ((x : ℕ) → times_out x out ≡ times_out x rest + one (c == x))
taken_out c [] h = absurd (omega arith)
taken_out c (y ∷ ys) h =
    let f : ℕ → ℕ → ℕ = λ x z. one (z == x) in
    dite (ℕ_discrete y c)
    (λ same. (ys, omega arith, λ x. let e = sum_by-cons (f x) y ys in let t : one (y == x) ≡ one (c == x) = ap (λ (z : ℕ). one (z == x)) same in omega arith))
    (λ other.
    let e = sum_by-cons (f c) y ys in
    let t : one (y == c) ≡ 0 = ap one (ne_eqb y c other) in
    let r = taken_out c ys (omega arith) in (
      y ∷ r.0,
      (let l = r.1 in omega arith),
      λ x. let a = sum_by-cons (f x) y ys in let b = sum_by-cons (f x) y r.0 in let i = r.2 x in omega arith,
    ))

-- a seat is spent and holds nothing, or its caller is taken out of those who are out
bound_more : (h : SeatView) (hs : List SeatView) (out : List ℕ) → h.held ≤ most_held h → ((x : ℕ) → seats_of x (h ∷ hs) ≤ times_out x out)
    → ((rest : List ℕ) → ((x : ℕ) → seats_of x hs ≤ times_out x rest) → held_by hs ≤ 17 * length rest)
    → (b : Bool) → h.spent ≡ b → held_by (h ∷ hs) ≤ 17 * length out
bound_more h hs out here fits more true is =
    let e = sum_by-cons (λ (s : SeatView). s.held) h hs in
    let none : h.held ≤ 0 = subst (λ (b : Bool). h.held ≤ cond b 0 17) is here in
    let f : ℕ → SeatView → ℕ = λ x s. one (not s.spent && s.caller == x) in
    let r = more out (λ x.
    let t = sum_by-cons (f x) h hs in let z = fits x in omega arith) in
    omega arith
bound_more h hs out here fits more false is =
    let e = sum_by-cons (λ (s : SeatView). s.held) h hs in
    let some17 : h.held ≤ 17 = subst (λ (b : Bool). h.held ≤ cond b 0 17) is here in
    let f : ℕ → SeatView → ℕ = λ x s. one (not s.spent && s.caller == x) in
    let mine : (x : ℕ) → f x h ≡ one (h.caller == x) = λ x. ap (λ (b : Bool). one (not b && h.caller == x)) is in
    let self : one (h.caller == h.caller) ≡ 1 = ap one (eq-eqb h.caller h.caller refl) in
    let t = sum_by-cons (f h.caller) h hs in
    let z = fits h.caller in
    let m = mine h.caller in
    let rest = taken_out h.caller out (omega arith) in
    let r = more rest.0 (λ x. let u = sum_by-cons (f x) h hs in let v = fits x in let w = rest.2 x in let q = mine x in omega arith) in
    let len = rest.1 in
    omega arith

-- where no caller has more seats than it is out, the seats hold at most 17 for each that is out
pub held_bound : (seats : List SeatView) (out : List ℕ) → All (λ s. s.held ≤ most_held s) seats → ((x : ℕ) → seats_of x seats ≤ times_out x out) → held_by seats ≤ 17 * length out
held_bound [] out all fits = omega arith
held_bound (h ∷ hs) out all fits =
    let behind : All (λ (s : SeatView). s.held ≤ most_held s) hs = all_behind (λ s. s.held ≤ most_held s) h hs all in
    bound_more h hs out (all zero h (omega arith)) fits (λ rest f. held_bound hs rest behind f) h.spent refl

-- one who isn't in the list is out no time
pub not_out : (c : ℕ) (out : List ℕ) → ¬ Contains out c → times_out c out ≡ 0
not_out c [] none = refl
not_out c (y ∷ ys) none = dite (ℕ_discrete y c)
    (λ same. absurd (none (0, omega arith, same)))
    (λ other.
    let e = sum_by-cons (λ (z : ℕ). one (z == c)) y ys in
    let t : one (y == c) ≡ 0 = ap one (ne_eqb y c other) in
    let r = not_out c ys (λ p. none (suc p.0, omega (arith, p.1), p.2)) in
    omega arith)

is_out : (c : ℕ) (out : List ℕ) (k : ℕ) → k < length out → get_or out k c ≡ c → 1 ≤ times_out c out
is_out c [] k lt e = absurd (omega arith)
is_out c (y ∷ ys) zero lt e =
    let s = sum_by-cons (λ (z : ℕ). one (z == c)) y ys in
    let t : one (y == c) ≡ 1 = ap one (eq-eqb y c e) in
    omega arith
is_out c (y ∷ ys) (suc k) lt e =
    let s = sum_by-cons (λ (z : ℕ). one (z == c)) y ys in
    let r = is_out c ys k (omega arith) e in
    omega arith

-- one who is left out isn't in the list
left_none : (c y : ℕ) (rest : List ℕ) → times_out c rest ≡ 0 → (b : Bool) → (y == c) ≡ b → times_out c (cond (not b) (y ∷ rest) rest) ≡ 0
left_none c y rest none true is = none
left_none c y rest none false is = let s = sum_by-cons (λ (z : ℕ). one (z == c)) y rest in let t : one (y == c) ≡ 0 = ap one is in omega arith

left_out : (c : ℕ) (out : List ℕ) → times_out c (without c out) ≡ 0
left_out c [] = refl
left_out c (y ∷ ys) = left_none c y (without c ys) (left_out c ys) (y == c) refl

pub is_gone : (c : ℕ) (out : List ℕ) → ¬ Contains (without c out) c
is_gone c out p = let a = is_out c (without c out) p.0 p.1 p.2 in let b = left_out c out in absurd (omega arith)

-- the others are out as before
stays : (c x y : ℕ) (rest ys : List ℕ) → x ≢ c → times_out x rest ≡ times_out x ys → (b : Bool) → (y == c) ≡ b → times_out x (cond (not b) (y ∷ rest) rest) ≡ times_out x (y ∷ ys)
stays c x y rest ys other same true is =
    let s = sum_by-cons (λ (z : ℕ). one (z == x)) y ys in
    let e : y ≡ c = grind (arith, nat_tests) in
    let t : one (y == x) ≡ 0 = ap one (ne_eqb y x (λ h. other (sym h ∙ e))) in
    omega arith
stays c x y rest ys other same false is =
    let s = sum_by-cons (λ (z : ℕ). one (z == x)) y ys in let t = sum_by-cons (λ (z : ℕ). one (z == x)) y rest in omega arith

pub others_stay : (c x : ℕ) (out : List ℕ) → x ≢ c → times_out x (without c out) ≡ times_out x out
others_stay c x [] other = refl
others_stay c x (y ∷ ys) other = stays c x y (without c ys) ys other (others_stay c x ys other) (y == c) refl
