-- Passes, claims and lines, counted.
use Rattle.std.proofs.Common.{◌≡◌, ℕ, zero, suc, ◌+◌, ◌<◌, ◌≤◌, ◌==◌, ◌&&◌, Bool, true, false, cond, List, [], ◌∷◌, ◌++◌, length, get_or, set, sum_by, All, refl, ap, sym, ◌∙◌, subst, arith}
use Rattle.std.proofs.lemmas.List.Sums.{sum_by-cons, sum_by-append, sum_by-set, get_or-le-sum_by}
use mathlib.Core.List.{IsPrefix}
use mathlib.Core.Option.{some, some-injective, some-ne-none}
use lib.ListN.{get_elem?}
use Rattle.fs_model.specs.declared.trace.TraceLine.{TraceLine}
use Rattle.trace_word.specs.Knowledge.{lines_of}
use Rattle.trace_word.specs.declared.view.GuestView.{GuestView}
use Rattle.trace_word.specs.Rule.{passes_of, claims_of}

module _ {A : Type 0} where
  pub at_place : (l : List A) (k : ℕ) (a d : A) → get_elem? l k ≡ some a → (k < length l) × (get_or l k d ≡ a)
  at_place [] k a d e = absurd (some-ne-none a (sym e))
  at_place (x ∷ xs) zero a d e = (omega arith, some-injective x a e)
  at_place (x ∷ xs) (suc k) a d e = let r = at_place xs k a d e in (omega arith, r.1)

  pub sum_there : (f : A → ℕ) (l : List A) (k : ℕ) (a b : A) → get_elem? l k ≡ some a → sum_by f (set l k b) + f a ≡ sum_by f l + f b
  sum_there f l k a b e =
      let p = at_place l k a a e in subst (λ (x : A). sum_by f (set l k b) + f x ≡ sum_by f l + f b) p.1 (sum_by-set f l k b a p.0)

  pub part_of : (f : A → ℕ) (l : List A) (k : ℕ) (a : A) → get_elem? l k ≡ some a → f a ≤ sum_by f l
  part_of f l k a e = let p = at_place l k a a e in subst (λ (x : A). f x ≤ sum_by f l) p.1 (get_or-le-sum_by f l k a p.0)

  pub of_all : (P : A → Type 0) (l : List A) (k : ℕ) (a : A) → get_elem? l k ≡ some a → All P l → P a
  of_all P l k a e all = let p = at_place l k a a e in subst P p.1 (all k a p.0)

abbrev pub one : Bool → ℕ
one b = cond b 1 0

-- it is a pass of this caller
abbrev pub is_for : ℕ → GuestView → Bool
is_for c g = g.is_pass && g.caller == c

-- what it has claimed for this caller
abbrev pub claim_for : ℕ → GuestView → ℕ
claim_for c g = cond (is_for c g) g.claim 0

abbrev pub of_line : ℕ → TraceLine → ℕ
of_line c l = one (l.caller == c)

pub lines_push : (c : ℕ) (xs : List TraceLine) (l : TraceLine) → lines_of c (xs ++ l ∷ []) ≡ lines_of c xs + of_line c l
lines_push c xs l = let a = sum_by-append (of_line c) xs (l ∷ []) in let b = sum_by-cons (of_line c) l [] in omega arith

-- a beginning has no more lines of a caller
pub fewer_lines : (c : ℕ) (xs ys : List TraceLine) → IsPrefix xs ys → lines_of c xs ≤ lines_of c ys
fewer_lines c xs ys p = let a = sum_by-append (of_line c) xs p.0 in let b = ap (lines_of c) p.1 in omega arith

none_of : (c : ℕ) (g : GuestView) → (b : Bool) → is_for c g ≡ b → one (is_for c g) ≡ 0 → claim_for c g ≡ 0
none_of c g true is none = absurd (let e = ap one is in omega arith)
none_of c g false is none = ap (λ (b : Bool). cond b g.claim 0) is

-- who has no pass has claimed nothing
pub none_claimed : (c : ℕ) (guests : List GuestView) → passes_of c guests ≡ 0 → claims_of c guests ≡ 0
none_claimed c [] none = refl
none_claimed c (g ∷ gs) none =
    let a = sum_by-cons (λ (x : GuestView). one (is_for c x)) g gs in
    let b = sum_by-cons (claim_for c) g gs in
    let h = none_of c g (is_for c g) refl (omega arith) in
    let t = none_claimed c gs (omega arith) in
    omega arith

-- who has one pass has claimed what it has
pub own_claim : (c : ℕ) (guests : List GuestView) (k : ℕ) (g : GuestView) → get_elem? guests k ≡ some g → is_for c g ≡ true → passes_of c guests ≤ 1 → claims_of c guests ≡ g.claim
own_claim c [] k g at is few = absurd (some-ne-none g (sym at))
own_claim c (x ∷ xs) zero g at is few =
    let same : x ≡ g = some-injective x g at in
    let a = sum_by-cons (λ (x : GuestView). one (is_for c x)) x xs in
    let b = sum_by-cons (claim_for c) x xs in
    let o : one (is_for c x) ≡ 1 = ap (λ (y : GuestView). one (is_for c y)) same ∙ ap one is in
    let t = none_claimed c xs (omega arith) in
    let m : claim_for c x ≡ g.claim = ap (claim_for c) same ∙ ap (λ (b : Bool). cond b g.claim 0) is in
    omega arith
own_claim c (x ∷ xs) (suc k) g at is few =
    let a = sum_by-cons (λ (x : GuestView). one (is_for c x)) x xs in
    let b = sum_by-cons (claim_for c) x xs in
    let p = part_of (λ (x : GuestView). one (is_for c x)) xs k g at in
    let o : one (is_for c g) ≡ 1 = ap one is in
    let h = none_of c x (is_for c x) refl (omega arith) in
    let t = own_claim c xs k g at is (omega arith) in
    omega arith

-- a pass's claim is among its caller's
pub claim_there : (c : ℕ) (guests : List GuestView) (k : ℕ) (g : GuestView) → get_elem? guests k ≡ some g → is_for c g ≡ true → g.claim ≤ claims_of c guests
claim_there c guests k g at is =
    let p = part_of (claim_for c) guests k g at in let e : claim_for c g ≡ g.claim = ap (λ (b : Bool). cond b g.claim 0) is in omega arith
