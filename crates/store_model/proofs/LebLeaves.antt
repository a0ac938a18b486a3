-- Where leaves stand after changes: a group's are in the LEB that it was put to, and those it makes obsolete are held.
use Rattle.std.proofs.Common.{◌≡◌, ◌⊎◌, ℕ, Bool, true, false, cond, not, List, [], ◌∷◌, ◌++◌, refl, sym, ap, ◌∙◌, inl, inr}
use Rattle.std.specs.Prelude.{◌==◌, ◌||◌, filter, fold, nat_le}
use Rattle.std.specs.List.{AllByRecursion, list_all, list_any}
use Rattle.std.proofs.lemmas.Bool.{and_parts, and_from, false≢true}
use Rattle.std.proofs.lemmas.List.Folds.{list_any-append}
use Rattle.index_tree.specs.Order.{leaf_rank}
use Rattle.leaf_map.specs.After.{is_gone, is_idle, is_set, put_leaf}
use Rattle.leaf_map.specs.Kept.{Kept, kept_at}
use Rattle.store_model.specs.Events.{Held, after_change}
use Rattle.store_model.specs.Lebs.{stands_in}
use Rattle.store_model.specs.Store.{Carried}
use Rattle.store_model.proofs.RecoveryCopies.{either_of}
use Rattle.store_model.proofs.RecoveryOrder.{or_left, or_right}
use Rattle.store_model.proofs.Sorting.{or_false}

abbrev Test : Type 0
Test = Kept → Bool

pub or_none : (a b : Bool) → a ≡ false → b ≡ false → (a || b) ≡ false
or_none true b h g = absurd (false≢true (sym h))
or_none false b h g = g

-- ---- among fewer, or one more
pub any_filter : (p t : Test) (xs : List Kept) → list_any p xs ≡ false → list_any p (filter t xs) ≡ false
any_filter p t [] h = refl
any_filter p t (x ∷ xs) h = let q = or_false (p x) (list_any p xs) h in by q.0 (any_filter p t xs q.1) (t x)
  where
    by : p x ≡ false → list_any p (filter t xs) ≡ false → (b : Bool) → list_any p (cond b (x ∷ filter t xs) (filter t xs)) ≡ false
    by first rest true = or_none (p x) (list_any p (filter t xs)) first rest
    by first rest false = rest

any_put : (p old : Test) (new : Kept) (xs : List Kept) → p new ≡ false → list_any p xs ≡ false → list_any p (put_leaf old new xs) ≡ false
any_put p old new [] n h = or_none (p new) false n refl
any_put p old new (x ∷ xs) n h = let q = or_false (p x) (list_any p xs) h in by q.0 q.1 (any_put p old new xs n q.1) (old x) (nat_le (leaf_rank x.leaf) (leaf_rank new.leaf))
  where
    by : p x ≡ false → list_any p xs ≡ false → list_any p (put_leaf old new xs) ≡ false → (a b : Bool)
        → list_any p (cond a (new ∷ xs) (cond b (x ∷ put_leaf old new xs) (new ∷ x ∷ xs))) ≡ false
    by first rest more true b = or_none (p new) (list_any p xs) n rest
    by first rest more false true = or_none (p x) (list_any p (put_leaf old new xs)) first more
    by first rest more false false = or_none (p new) (list_any p (x ∷ xs)) n (or_none (p x) (list_any p xs) first rest)

-- what was there is there still, or told by the test
stays_filter : (p t : Test) (xs : List Kept) → list_any p xs ≡ true → (list_any p (filter (λ x. not (t x)) xs) ≡ true) ⊎ (list_any p (filter t xs) ≡ true)
stays_filter p t [] h = absurd (false≢true h)
stays_filter p t (x ∷ xs) h = by (stays_filter p t xs) (either_of (p x) (list_any p xs) h) (t x)
  where
    A : List Kept
    A = filter (λ x. not (t x)) xs

    B : List Kept
    B = filter t xs

    further : (b : Bool) → (list_any p A ≡ true) ⊎ (list_any p B ≡ true) → (list_any p (cond (not b) (x ∷ A) A) ≡ true) ⊎ (list_any p (cond b (x ∷ B) B) ≡ true)
    further true (inl e) = inl e
    further true (inr e) = inr (or_right (p x) (list_any p B) e)
    further false (inl e) = inl (or_right (p x) (list_any p A) e)
    further false (inr e) = inr e

    by : (list_any p xs ≡ true → (list_any p A ≡ true) ⊎ (list_any p B ≡ true)) → (p x ≡ true) ⊎ (list_any p xs ≡ true) → (b : Bool) → (list_any p (cond (not b) (x ∷ A) A) ≡ true) ⊎ (list_any p (cond b (x ∷ B) B) ≡ true)
    by rest (inl e) true = inr (or_left (p x) (list_any p B) e)
    by rest (inl e) false = inl (or_left (p x) (list_any p A) e)
    by rest (inr e) b = further b (rest e)

stays_put : (p old : Test) (new : Kept) (xs : List Kept) → list_any p xs ≡ true → (list_any p (put_leaf old new xs) ≡ true) ⊎ (list_any p (filter old xs) ≡ true)
stays_put p old new [] h = absurd (false≢true h)
stays_put p old new (x ∷ xs) h = by (stays_put p old new xs) (either_of (p x) (list_any p xs) h) (old x) (nat_le (leaf_rank x.leaf) (leaf_rank new.leaf))
  where
    B : List Kept
    B = filter old xs

    P : List Kept
    P = put_leaf old new xs

    further : (list_any p P ≡ true) ⊎ (list_any p B ≡ true) → (list_any p (x ∷ P) ≡ true) ⊎ (list_any p B ≡ true)
    further (inl e) = inl (or_right (p x) (list_any p P) e)
    further (inr e) = inr e

    by : (list_any p xs ≡ true → (list_any p P ≡ true) ⊎ (list_any p B ≡ true)) → (p x ≡ true) ⊎ (list_any p xs ≡ true) → (a b : Bool) → (list_any p (cond a (new ∷ xs) (cond b (x ∷ P) (new ∷ x ∷ xs))) ≡ true) ⊎ (list_any p (cond a (x ∷ B) B) ≡ true)
    by rest (inl e) true b = inr (or_left (p x) (list_any p B) e)
    by rest (inl e) false true = inl (or_left (p x) (list_any p P) e)
    by rest (inl e) false false = inl (or_right (p new) (list_any p (x ∷ xs)) (or_left (p x) (list_any p xs) e))
    by rest (inr e) true b = inl (or_right (p new) (list_any p xs) e)
    by rest (inr e) false true = further (rest e)
    by rest (inr e) false false = inl (or_right (p new) (list_any p (x ∷ xs)) (or_right (p x) (list_any p xs) e))

-- ---- a change
abbrev pub any_leaf : ℕ → Held → Bool
any_leaf lnum h = list_any (stands_in lnum) h.live || list_any (stands_in lnum) h.held

change_none : (lnum : ℕ) (c : Carried) (h : Held) → (c.placed.lnum == lnum) ≡ false → any_leaf lnum h ≡ false → any_leaf lnum (after_change h c) ≡ false
change_none lnum c h away none = let q = or_false (list_any (stands_in lnum) h.live) (list_any (stands_in lnum) h.held) none in by q.0 q.1 (is_idle h.live c.change) (is_set c.change)
  where
    new : Kept
    new = kept_at c.placed

    held_none : (gone : List Kept) → list_any (stands_in lnum) h.held ≡ false → list_any (stands_in lnum) gone ≡ false → list_any (stands_in lnum) (h.held ++ gone) ≡ false
    held_none gone a b = list_any-append (stands_in lnum) h.held gone ∙ or_none (list_any (stands_in lnum) h.held) (list_any (stands_in lnum) gone) a b

    by : list_any (stands_in lnum) h.live ≡ false → list_any (stands_in lnum) h.held ≡ false → (idle set : Bool)
        → (list_any (stands_in lnum) (cond idle h.live (cond set (put_leaf (is_gone c.change) new h.live) (filter (λ x. not (is_gone c.change x)) h.live)))
        || list_any (stands_in lnum) (h.held ++ cond idle [] (filter (is_gone c.change) h.live))) ≡ false
    by a b true set = or_none (list_any (stands_in lnum) h.live) (list_any (stands_in lnum) (h.held ++ [])) a (held_none [] b refl)
    by a b false true =
        or_none (list_any (stands_in lnum) (put_leaf (is_gone c.change) new h.live)) (list_any (stands_in lnum) (h.held ++ filter (is_gone c.change) h.live))
        (any_put (stands_in lnum) (is_gone c.change) new h.live away a) (held_none (filter (is_gone c.change) h.live) b (any_filter (stands_in lnum) (is_gone c.change) h.live a))
    by a b false false =
        or_none (list_any (stands_in lnum) (filter (λ x. not (is_gone c.change x)) h.live)) (list_any (stands_in lnum) (h.held ++ filter (is_gone c.change) h.live))
        (any_filter (stands_in lnum) (λ x. not (is_gone c.change x)) h.live a) (held_none (filter (is_gone c.change) h.live) b (any_filter (stands_in lnum) (is_gone c.change) h.live a))

change_stays : (lnum : ℕ) (c : Carried) (h : Held) → any_leaf lnum h ≡ true → any_leaf lnum (after_change h c) ≡ true
change_stays lnum c h some = by (either_of (list_any (stands_in lnum) h.live) (list_any (stands_in lnum) h.held) some) (is_idle h.live c.change) (is_set c.change)
  where
    p : Test
    p = stands_in lnum

    new : Kept
    new = kept_at c.placed

    G : List Kept
    G = filter (is_gone c.change) h.live

    held_gone : (gone : List Kept) → (list_any p h.held ≡ true) ⊎ (list_any p gone ≡ true) → list_any p (h.held ++ gone) ≡ true
    held_gone gone (inl e) = list_any-append p h.held gone ∙ or_left (list_any p h.held) (list_any p gone) e
    held_gone gone (inr e) = list_any-append p h.held gone ∙ or_right (list_any p h.held) (list_any p gone) e

    moved : (live : List Kept) → (list_any p live ≡ true) ⊎ (list_any p G ≡ true) → (list_any p live || list_any p (h.held ++ G)) ≡ true
    moved live (inl e) = or_left (list_any p live) (list_any p (h.held ++ G)) e
    moved live (inr e) = or_right (list_any p live) (list_any p (h.held ++ G)) (held_gone G (inr e))

    by : (list_any p h.live ≡ true) ⊎ (list_any p h.held ≡ true) → (idle set : Bool)
        → (list_any p (cond idle h.live (cond set (put_leaf (is_gone c.change) new h.live) (filter (λ x. not (is_gone c.change x)) h.live)))
        || list_any p (h.held ++ cond idle [] (filter (is_gone c.change) h.live))) ≡ true
    by (inl e) true set = or_left (list_any p h.live) (list_any p (h.held ++ [])) e
    by (inr e) true set = or_right (list_any p h.live) (list_any p (h.held ++ [])) (held_gone [] (inl e))
    by (inl e) false true = moved (put_leaf (is_gone c.change) new h.live) (stays_put p (is_gone c.change) new h.live e)
    by (inl e) false false = moved (filter (λ x. not (is_gone c.change x)) h.live) (stays_filter p (is_gone c.change) h.live e)
    by (inr e) false true = or_right (list_any p (put_leaf (is_gone c.change) new h.live)) (list_any p (h.held ++ G)) (held_gone G (inl e))
    by (inr e) false false = or_right (list_any p (filter (λ x. not (is_gone c.change x)) h.live)) (list_any p (h.held ++ G)) (held_gone G (inl e))

-- ---- a group, put to one LEB
abbrev pub AreIn : ℕ → List Carried → Type 0
AreIn lnum group = AllByRecursion (λ c. c.placed.lnum ≡ lnum) group

pub group_none : (lnum other : ℕ) (group : List Carried) (h : Held) → AreIn other group → (other == lnum) ≡ false → any_leaf lnum h ≡ false → any_leaf lnum (fold after_change h group) ≡ false
group_none lnum other [] h at away none = none
group_none lnum other (c ∷ group) h at away none = group_none lnum other group (after_change h c) at.1 away (change_none lnum c h (ap (λ k. k == lnum) at.0 ∙ away) none)

pub group_stays : (lnum : ℕ) (group : List Carried) (h : Held) → any_leaf lnum h ≡ true → any_leaf lnum (fold after_change h group) ≡ true
group_stays lnum [] h some = some
group_stays lnum (c ∷ group) h some = group_stays lnum group (after_change h c) (change_stays lnum c h some)

-- ---- a test that all live leaves pass
pub all_filter : (q t : Test) (xs : List Kept) → list_all q xs ≡ true → list_all q (filter t xs) ≡ true
all_filter q t [] h = refl
all_filter q t (x ∷ xs) h = let p = and_parts (q x) (list_all q xs) h in by p.0 (all_filter q t xs p.1) (t x)
  where
    by : q x ≡ true → list_all q (filter t xs) ≡ true → (b : Bool) → list_all q (cond b (x ∷ filter t xs) (filter t xs)) ≡ true
    by first rest true = and_from (q x) (list_all q (filter t xs)) first rest
    by first rest false = rest

pub all_put : (q old : Test) (new : Kept) (xs : List Kept) → q new ≡ true → list_all q xs ≡ true → list_all q (put_leaf old new xs) ≡ true
all_put q old new [] n h = and_from (q new) true n refl
all_put q old new (x ∷ xs) n h = let p = and_parts (q x) (list_all q xs) h in by p.0 p.1 (all_put q old new xs n p.1) (old x) (nat_le (leaf_rank x.leaf) (leaf_rank new.leaf))
  where
    by : q x ≡ true → list_all q xs ≡ true → list_all q (put_leaf old new xs) ≡ true → (a b : Bool)
        → list_all q (cond a (new ∷ xs) (cond b (x ∷ put_leaf old new xs) (new ∷ x ∷ xs))) ≡ true
    by first rest more true b = and_from (q new) (list_all q xs) n rest
    by first rest more false true = and_from (q x) (list_all q (put_leaf old new xs)) first more
    by first rest more false false = and_from (q new) (list_all q (x ∷ xs)) n (and_from (q x) (list_all q xs) first rest)

pub change_all : (q : Test) (c : Carried) (h : Held) → q (kept_at c.placed) ≡ true → list_all q h.live ≡ true → list_all q (after_change h c).live ≡ true
change_all q c h n a = by (is_idle h.live c.change) (is_set c.change)
  where
    by : (idle set : Bool) → list_all q (cond idle h.live (cond set (put_leaf (is_gone c.change) (kept_at c.placed) h.live) (filter (λ x. not (is_gone c.change x)) h.live))) ≡ true
    by true set = a
    by false true = all_put q (is_gone c.change) (kept_at c.placed) h.live n a
    by false false = all_filter q (λ x. not (is_gone c.change x)) h.live a

pub group_all : (test : ℕ → Bool) (lnum : ℕ) (group : List Carried) (h : Held) → AreIn lnum group → test lnum ≡ true → list_all (λ x. test x.leaf.lnum) h.live ≡ true
    → list_all (λ x. test x.leaf.lnum) (fold after_change h group).live ≡ true
group_all test lnum [] h at t a = a
group_all test lnum (c ∷ group) h at t a = group_all test lnum group (after_change h c) at.1 t (change_all (λ x. test x.leaf.lnum) c h (ap test at.0 ∙ t) a)
