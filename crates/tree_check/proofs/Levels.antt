-- What is reached level by level.
use Rattle.std.proofs.Common.{◌≡◌, ◌⊎◌, ℕ, zero, suc, ◌+◌, ◌≤◌, ◌-◌, Bool, true, false, List, [], ◌∷◌, refl, sym, ap, subst, ◌∙◌, inl, inr, filter, arith}
use Rattle.std.specs.Prelude.{◌==◌, ◌||◌, ◌&&◌, not, map, cond}
use Rattle.std.specs.List.{list_any}
use Rattle.std.proofs.lemmas.Bool.{and_parts, and_from, cases_Bool, eq-eqb, eqb-true, not_from_false, or_cases, or_left, or_right}
use Rattle.tree_check.specs.declared.link.Link.{Link}
use Rattle.tree_check.specs.Reach.{inodes_below, mem, reaches}
use Rattle.tree_check.proofs.TestLaws.{eqb_swap, same_tests}

-- so many steps reach these; an entry of one that is reached leads to one that is, or its directory is of the last level; and all of that are reached
pub record IsLevel (links : List Link) (steps : ℕ) (reached : ℕ → Bool) (level : List ℕ) : Type 0 where
  pub exact : (q : ℕ) → reached q ≡ reaches links steps q
  pub closed : (d q : ℕ) → reached d ≡ true → mem q (inodes_below links d) ≡ true → (reached q ≡ true) ⊎ (mem d level ≡ true)
  pub inside : (q : ℕ) → mem q level ≡ true → reached q ≡ true

-- ---- tests
pub any_weaken : {X : Type 0} (p q : X → Bool) → ((x : X) → p x ≡ true → q x ≡ true) → (xs : List X) → list_any p xs ≡ true → list_any q xs ≡ true
any_weaken p q h [] e = absurd cc
any_weaken p q h (x ∷ xs) e = elim (or_cases (p x) (list_any p xs) e) [
  | inl here ↦ or_left (q x) (list_any q xs) (h x here)
  | inr rest ↦ or_right (q x) (list_any q xs) (any_weaken p q h xs rest)
]

-- one of a list passes a test
pub one_any : (p : ℕ → Bool) (xs : List ℕ) (x : ℕ) → mem x xs ≡ true → p x ≡ true → list_any p xs ≡ true
one_any p [] x e h = absurd cc
one_any p (y ∷ xs) x e h = elim (or_cases (y == x) (mem x xs) e) [
  | inl here ↦ or_left (p y) (list_any p xs) (subst (λ z. p z ≡ true) (sym (eqb-true y x here)) h)
  | inr rest ↦ or_right (p y) (list_any p xs) (one_any p xs x rest h)
]

pub any_one : (p : ℕ → Bool) (xs : List ℕ) → list_any p xs ≡ true → (x : ℕ) × (mem x xs ≡ true) × (p x ≡ true)
any_one p [] e = absurd cc
any_one p (y ∷ xs) e = elim (or_cases (p y) (list_any p xs) e) [
  | inl here ↦ (y, or_left (y == y) (mem y xs) (eq-eqb y y refl), here)
  | inr rest ↦ let r = any_one p xs rest in (r.0, or_right (y == r.0) (mem r.0 xs) r.1, r.2)
]

-- ---- entries that lead to an inode
child_more : (l : Link) (links : List Link) (d q : ℕ) → mem q (inodes_below links d) ≡ true → mem q (inodes_below (l ∷ links) d) ≡ true
child_more l links d q h = by (l.dir == d)
  where
    by : (b : Bool) → mem q (map (λ (link : Link). link.ino) (cond b (l ∷ filter (λ link. link.dir == d) links) (filter (λ link. link.dir == d) links))) ≡ true
    by true = or_right (l.ino == q) (mem q (inodes_below links d)) h
    by false = h

child_here : (l : Link) (links : List Link) (q : ℕ) → l.ino ≡ q → mem q (inodes_below (l ∷ links) l.dir) ≡ true
child_here l links q e =
    let P : Bool → Type 0 = λ b. mem q (map (λ (link : Link). link.ino) (cond b (l ∷ filter (λ link. link.dir == l.dir) links) (filter (λ link. link.dir == l.dir) links))) ≡ true in
    subst P (sym (eq-eqb l.dir l.dir refl)) (or_left (l.ino == q) (mem q (inodes_below links l.dir)) (eq-eqb l.ino q e))

pub edge_in : (p : ℕ → Bool) (links : List Link) (q : ℕ) → list_any (λ link. p link.dir) (filter (λ link. link.ino == q) links) ≡ true → (d : ℕ) × (mem q (inodes_below links d) ≡ true) × (p d ≡ true)
edge_in p [] q e = absurd cc
edge_in p (l ∷ links) q e = by (edge_in p links q) (l.ino == q) refl e
  where
    more : ((d : ℕ) × (mem q (inodes_below links d) ≡ true) × (p d ≡ true)) → (d : ℕ) × (mem q (inodes_below (l ∷ links) d) ≡ true) × (p d ≡ true)
    more r = (r.0, child_more l links r.0 q r.1, r.2)

    by : (list_any (λ link. p link.dir) (filter (λ link. link.ino == q) links) ≡ true → (d : ℕ) × (mem q (inodes_below links d) ≡ true) × (p d ≡ true)) → (b : Bool) → (l.ino == q) ≡ b
        → list_any (λ (link : Link). p link.dir) (cond b (l ∷ filter (λ link. link.ino == q) links) (filter (λ link. link.ino == q) links)) ≡ true → (d : ℕ) × (mem q (inodes_below (l ∷ links) d) ≡ true) × (p d ≡ true)
    by rec true f k = elim (or_cases (p l.dir) (list_any (λ (link : Link). p link.dir) (filter (λ link. link.ino == q) links)) k) [
      | inl here ↦ (l.dir, child_here l links q (eqb-true l.ino q f), here)
      | inr rest ↦ more (rec rest)
    ]
    by rec false f k = more (rec k)

above_more : (p : ℕ → Bool) (l : Link) (links : List Link) (q : ℕ) → list_any (λ link. p link.dir) (filter (λ link. link.ino == q) links) ≡ true → list_any (λ link. p link.dir) (filter (λ link. link.ino == q) (l ∷ links)) ≡ true
above_more p l links q h = by (l.ino == q)
  where
    by : (b : Bool) → list_any (λ (link : Link). p link.dir) (cond b (l ∷ filter (λ link. link.ino == q) links) (filter (λ link. link.ino == q) links)) ≡ true
    by true = or_right (p l.dir) (list_any (λ (link : Link). p link.dir) (filter (λ link. link.ino == q) links)) h
    by false = h

above_here : (p : ℕ → Bool) (l : Link) (links : List Link) (q : ℕ) → l.ino ≡ q → p l.dir ≡ true → list_any (λ link. p link.dir) (filter (λ link. link.ino == q) (l ∷ links)) ≡ true
above_here p l links q e h =
    let P : Bool → Type 0 = λ b. list_any (λ (link : Link). p link.dir) (cond b (l ∷ filter (λ link. link.ino == q) links) (filter (λ link. link.ino == q) links)) ≡ true in
    subst P (sym (eq-eqb l.ino q e)) (or_left (p l.dir) (list_any (λ (link : Link). p link.dir) (filter (λ link. link.ino == q) links)) h)

pub edge_out : (p : ℕ → Bool) (links : List Link) (d q : ℕ) → mem q (inodes_below links d) ≡ true → p d ≡ true → list_any (λ link. p link.dir) (filter (λ link. link.ino == q) links) ≡ true
edge_out p [] d q e h = absurd cc
edge_out p (l ∷ links) d q e h = by (λ k. edge_out p links d q k h) (l.dir == d) refl e
  where
    by : (mem q (inodes_below links d) ≡ true → list_any (λ link. p link.dir) (filter (λ link. link.ino == q) links) ≡ true) → (b : Bool) → (l.dir == d) ≡ b
        → mem q (map (λ (link : Link). link.ino) (cond b (l ∷ filter (λ link. link.dir == d) links) (filter (λ link. link.dir == d) links))) ≡ true
        → list_any (λ link. p link.dir) (filter (λ link. link.ino == q) (l ∷ links)) ≡ true
    by rec true f k = elim (or_cases (l.ino == q) (mem q (inodes_below links d)) k) [
      | inl here ↦ above_here p l links q (eqb-true l.ino q here) (subst (λ z. p z ≡ true) (sym (eqb-true l.dir d f)) h)
      | inr rest ↦ above_more p l links q (rec rest)
    ]
    by rec false f k = above_more p l links q (rec k)

-- ---- more steps reach more
more_steps : (links : List Link) (n q : ℕ) → reaches links n q ≡ true → reaches links (suc n) q ≡ true
more_steps links zero q h = or_left (q == 1) (list_any (λ link. reaches links zero link.dir) (filter (λ link. link.ino == q) links)) h
more_steps links (suc n) q h = elim (or_cases (q == 1) (list_any (λ link. reaches links n link.dir) (filter (λ link. link.ino == q) links)) h) [
  | inl here ↦ or_left (q == 1) (list_any (λ link. reaches links (suc n) link.dir) (filter (λ link. link.ino == q) links)) here
  | inr rest ↦
      or_right (q == 1) (list_any (λ link. reaches links (suc n) link.dir) (filter (λ link. link.ino == q) links))
      (any_weaken (λ (link : Link). reaches links n link.dir) (λ (link : Link). reaches links (suc n) link.dir) (λ link k. more_steps links n link.dir k) (filter (λ link. link.ino == q) links) rest)
]

steps_up : (links : List Link) (k n q : ℕ) → reaches links n q ≡ true → reaches links (k + n) q ≡ true
steps_up links zero n q h = let e : 0 + n ≡ n = omega arith in subst (λ m. reaches links m q ≡ true) (sym e) h
steps_up links (suc k) n q h = let e : suc k + n ≡ suc (k + n) = omega arith in subst (λ m. reaches links m q ≡ true) (sym e) (more_steps links (k + n) q (steps_up links k n q h))

-- the root is reached in no step
root_reached : (links : List Link) (n q : ℕ) → (q == 1) ≡ true → reaches links n q ≡ true
root_reached links zero q h = h
root_reached links (suc n) q h = or_left (q == 1) (list_any (λ link. reaches links n link.dir) (filter (λ link. link.ino == q) links)) h

-- ---- the levels
pub level_start : (links : List Link) (was reached : ℕ → Bool) (level : List ℕ) → ((q : ℕ) → was q ≡ false) → ((q : ℕ) → reached q ≡ (was q || (1 == q))) → ((q : ℕ) → mem q level ≡ (false || ((1 == q) && not (was q)))) → IsLevel links 0 reached level
level_start links was reached level none r l = record {
  exact = root;
  closed = λ d q h k. inr (l d ∙ (rw (none d) (and_from (1 == d) true (sym (whole d) ∙ h) refl)));
  inside = λ q h. whole q ∙ (and_parts (1 == q) (not (was q)) (sym (l q) ∙ h)).0;
}
  where
    whole : (q : ℕ) → reached q ≡ (1 == q)
    whole q = r q ∙ ap (λ b. b || (1 == q)) (none q)

    root : (q : ℕ) → reached q ≡ (q == 1)
    root q = whole q ∙ eqb_swap 1 q

pub level_next : (links : List Link) (steps : ℕ) (reached new : ℕ → Bool) (children : ℕ → List ℕ) (level next : List ℕ) → ((d : ℕ) → children d ≡ inodes_below links d) → IsLevel links steps reached level
    → ((q : ℕ) → new q ≡ (reached q || list_any (λ d. mem q (children d)) level)) → ((q : ℕ) → mem q next ≡ (list_any (λ d. mem q (children d)) level && not (reached q))) → IsLevel links (suc steps) new next
level_next links steps reached new children level next same before r l = record {
  exact = λ q. same_tests (new q) (reaches links (suc steps) q) (there q) (back q);
  closed = shut;
  inside = λ q h. r q ∙ or_right (reached q) (list_any (λ d. mem q (children d)) level) (and_parts (list_any (λ d. mem q (children d)) level) (not (reached q)) (sym (l q) ∙ h)).0;
}
  where
    there : (q : ℕ) → new q ≡ true → reaches links (suc steps) q ≡ true
    there q h = elim (or_cases (reached q) (list_any (λ d. mem q (children d)) level) (sym (r q) ∙ h)) [
      | inl old ↦ more_steps links steps q (sym (before.exact q) ∙ old)
      | inr fresh ↦
          let d = any_one (λ d. mem q (children d)) level fresh in
          or_right (q == 1) (list_any (λ link. reaches links steps link.dir) (filter (λ link. link.ino == q) links))
          (edge_out (reaches links steps) links d.0 q (ap (mem q) (sym (same d.0)) ∙ d.2) (sym (before.exact d.0) ∙ before.inside d.0 d.1))
    ]

    reached_new : (q : ℕ) → reached q ≡ true → new q ≡ true
    reached_new q h = r q ∙ or_left (reached q) (list_any (λ d. mem q (children d)) level) h

    led_new : (d q : ℕ) → mem d level ≡ true → mem q (inodes_below links d) ≡ true → new q ≡ true
    led_new d q h k = r q ∙ or_right (reached q) (list_any (λ d. mem q (children d)) level) (one_any (λ d. mem q (children d)) level d h (ap (mem q) (same d) ∙ k))

    back : (q : ℕ) → reaches links (suc steps) q ≡ true → new q ≡ true
    back q h = elim (or_cases (q == 1) (list_any (λ link. reaches links steps link.dir) (filter (λ link. link.ino == q) links)) h) [
      | inl root ↦ reached_new q (before.exact q ∙ root_reached links steps q root)
      | inr led ↦
          let d = edge_in (reaches links steps) links q led in
          elim (before.closed d.0 q (before.exact d.0 ∙ d.2) d.1) [ inl old ↦ reached_new q old | inr last ↦ led_new d.0 q last d.1 ]
    ]

    shut : (d q : ℕ) → new d ≡ true → mem q (inodes_below links d) ≡ true → (new q ≡ true) ⊎ (mem d next ≡ true)
    shut d q h k = elim (cases_Bool (reached d)) [
      | inl old ↦ elim (before.closed d q old k) [ inl known ↦ inl (reached_new q known) | inr last ↦ inl (led_new d q last k) ]
      | inr not_yet ↦ elim (or_cases (reached d) (list_any (λ e. mem d (children e)) level) (sym (r d) ∙ h)) [
        | inl old ↦ absurd cc
        | inr fresh ↦ inr (l d ∙ and_from (list_any (λ e. mem d (children e)) level) (not (reached d)) fresh (not_from_false (reached d) not_yet))
      ]
    ]

-- where a level is empty, no number of steps reaches more
settled : (links : List Link) (steps : ℕ) (reached : ℕ → Bool) (level : List ℕ) → IsLevel links steps reached level → level ≡ [] → (n q : ℕ) → reaches links n q ≡ true → reached q ≡ true
settled links steps reached level h none zero q k = h.exact q ∙ root_reached links steps q k
settled links steps reached level h none (suc n) q k = by (settled links steps reached level h none n)
  where
    by : ((d : ℕ) → reaches links n d ≡ true → reached d ≡ true) → reached q ≡ true
    by rec = elim (or_cases (q == 1) (list_any (λ link. reaches links n link.dir) (filter (λ link. link.ino == q) links)) k) [
      | inl root ↦ h.exact q ∙ root_reached links steps q root
      | inr led ↦
          let d = edge_in (reaches links n) links q led in
          elim (h.closed d.0 q (rec d.0 d.2) d.1) [ inl known ↦ known | inr last ↦ let e : mem d.0 level ≡ false = ap (mem d.0) none in absurd cc ]
    ]

pub level_end : (links : List Link) (steps all : ℕ) (reached : ℕ → Bool) (level : List ℕ) → IsLevel links steps reached level → level ≡ [] → steps ≤ all → (q : ℕ) → reached q ≡ reaches links all q
level_end links steps all reached level h none le q = same_tests (reached q) (reaches links all q)
    (λ e. let n : (all - steps) + steps ≡ all = omega (arith, le) in subst (λ m. reaches links m q ≡ true) n (steps_up links (all - steps) steps q (sym (h.exact q) ∙ e)))
    (settled links steps reached level h none all q)
