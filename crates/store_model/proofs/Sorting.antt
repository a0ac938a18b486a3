-- Changes sorted by number: where no number stands in both of two lists, it is forgotten which of them came first.
use Rattle.std.proofs.Common.{◌≡◌, ℕ, Bool, true, false, cond, not, [], ◌∷◌, ◌++◌, refl, sym, ap, ◌∙◌, arith}
use Rattle.std.specs.Prelude.{◌==◌, ◌||◌, nat_lt, fold}
use Rattle.std.proofs.lemmas.Bool.{and_parts, and_from}
use Rattle.std.proofs.lemmas.List.Folds.{list_all-append, list_any-append}
use Rattle.fs_model.specs.declared.change.Change.{Change}
use Rattle.fs_model.specs.Recovery.{Numbered, placed}
use Rattle.store_model.specs.Invariant.{are_other, has_number}
use Rattle.store_model.proofs.RecoveryCopies.{not_true}

pub or_false : (a b : Bool) → (a || b) ≡ false → (a ≡ false) × (b ≡ false)
or_false false b h = (refl, h)
or_false true b h = absurd cc

neither : (a b : Bool) → a ≡ false → b ≡ false → (a || b) ≡ false
neither a b h g = ap (λ (z : Bool). z || b) h ∙ g

-- one number goes before the other
one_way : (x y : ℕ) → (x == y) ≡ false → nat_lt y x ≡ not (nat_lt x y)
one_way x y h = grind (arith)

-- a number before a third, and not before it
before : (x y z : ℕ) → nat_lt x z ≡ true → nat_lt y z ≡ false → nat_lt y x ≡ false
before x y z h g = grind (arith)

-- where a change is placed
at_front : (c x : ℕ × Change) (l : Numbered) → nat_lt c.0 x.0 ≡ true → placed (x ∷ l) c ≡ c ∷ x ∷ l
at_front c x l h = ap (λ (b : Bool). cond b (c ∷ x ∷ l) (x ∷ placed l c)) h

further_on : (c x : ℕ × Change) (l : Numbered) → nat_lt c.0 x.0 ≡ false → placed (x ∷ l) c ≡ x ∷ placed l c
further_on c x l h = ap (λ (b : Bool). cond b (c ∷ x ∷ l) (x ∷ placed l c)) h

-- of two changes in front of a list the one of the lower number is the first
front_turned : (c d : ℕ × Change) (l : Numbered) → (c.0 == d.0) ≡ false → placed l c ≡ c ∷ l → placed l d ≡ d ∷ l → placed (c ∷ l) d ≡ placed (d ∷ l) c
front_turned c d l ne front_c front_d = by (nat_lt c.0 d.0) refl
  where
    by : (b : Bool) → nat_lt c.0 d.0 ≡ b → placed (c ∷ l) d ≡ placed (d ∷ l) c
    by true e = further_on d c l (one_way c.0 d.0 ne ∙ ap not e) ∙ ap (λ (z : Numbered). c ∷ z) front_d ∙ sym (at_front c d l e)
    by false e = at_front d c l (one_way c.0 d.0 ne ∙ ap not e) ∙ sym (further_on c d l e ∙ ap (λ (z : Numbered). d ∷ z) front_c)

-- a change in front of a list, and one further on
past_turned : (c d x : ℕ × Change) (l : Numbered) → nat_lt c.0 x.0 ≡ true → nat_lt d.0 x.0 ≡ false → placed (placed (x ∷ l) c) d ≡ placed (placed (x ∷ l) d) c
past_turned c d x l h g =
    ap (λ (z : Numbered). placed z d) (at_front c x l h) ∙ further_on d c (x ∷ l) (before c.0 d.0 x.0 h g) ∙ ap (λ (z : Numbered). c ∷ z) (further_on d x l g)
    ∙ sym (ap (λ (z : Numbered). placed z c) (further_on d x l g) ∙ at_front c x (placed l d) h)

-- two changes of different numbers are placed in either order
placed_turned : (c d : ℕ × Change) (l : Numbered) → (c.0 == d.0) ≡ false → placed (placed l c) d ≡ placed (placed l d) c
placed_turned c d [] ne = front_turned c d [] ne refl refl
placed_turned c d (x ∷ l) ne = by (placed_turned c d l ne) (nat_lt c.0 x.0) refl (nat_lt d.0 x.0) refl
  where
    by : placed (placed l c) d ≡ placed (placed l d) c → (p : Bool) → nat_lt c.0 x.0 ≡ p → (q : Bool) → nat_lt d.0 x.0 ≡ q
        → placed (placed (x ∷ l) c) d ≡ placed (placed (x ∷ l) d) c
    by more true h true g =
        ap (λ (z : Numbered). placed z d) (at_front c x l h) ∙ front_turned c d (x ∷ l) ne (at_front c x l h) (at_front d x l g) ∙ sym (ap (λ (z : Numbered). placed z c) (at_front d x l g))
    by more true h false g = past_turned c d x l h g
    by more false h true g = sym (past_turned d c x l g h)
    by more false h false g =
        ap (λ (z : Numbered). placed z d) (further_on c x l h) ∙ further_on d x (placed l c) g ∙ ap (λ (z : Numbered). x ∷ z) more
        ∙ sym (ap (λ (z : Numbered). placed z c) (further_on d x l g) ∙ further_on c x (placed l d) h)

placed_past : (d : ℕ × Change) (xs l : Numbered) → has_number xs d.0 ≡ false → fold placed (placed l d) xs ≡ placed (fold placed l xs) d
placed_past d [] l h = refl
placed_past d (c ∷ xs) l h =
    let p = or_false (c.0 == d.0) (has_number xs d.0) h in
    sym (ap (λ (z : Numbered). fold placed z xs) (placed_turned c d l p.0)) ∙ placed_past d xs (placed l c) p.1

-- lists without a common number
pub sorted_turned : (ys xs l : Numbered) → are_other ys xs ≡ true → fold placed (fold placed l ys) xs ≡ fold placed (fold placed l xs) ys
sorted_turned [] xs l h = refl
sorted_turned (d ∷ ys) xs l h =
    let p = and_parts (not (has_number xs d.0)) (are_other ys xs) h in
    sorted_turned ys xs (placed l d) p.1 ∙ ap (λ (z : Numbered). fold placed z ys) (placed_past d xs l (not_true (has_number xs d.0) p.0))

-- ---- parts of such lists
pub others_left : (a b c : Numbered) → are_other (a ++ b) c ≡ true → (are_other a c ≡ true) × (are_other b c ≡ true)
others_left a b c h = and_parts (are_other a c) (are_other b c) (sym (list_all-append (λ (x : ℕ × Change). not (has_number c x.0)) a b) ∙ h)

pub others_right : (a b c : Numbered) → are_other a (b ++ c) ≡ true → (are_other a b ≡ true) × (are_other a c ≡ true)
others_right [] b c h = (refl, refl)
others_right (x ∷ a) b c h =
    let p = and_parts (not (has_number (b ++ c) x.0)) (are_other a (b ++ c)) h in
    let none = or_false (has_number b x.0) (has_number c x.0) (sym (list_any-append (λ (y : ℕ × Change). y.0 == x.0) b c) ∙ not_true (has_number (b ++ c) x.0) p.0) in
    let rest = others_right a b c p.1 in
    (and_from (not (has_number b x.0)) (are_other a b) (ap not none.0) rest.0, and_from (not (has_number c x.0)) (are_other a c) (ap not none.1) rest.1)

-- lists of such parts
pub others_both_left : (a b c : Numbered) → are_other a c ≡ true → are_other b c ≡ true → are_other (a ++ b) c ≡ true
others_both_left a b c h g = list_all-append (λ (x : ℕ × Change). not (has_number c x.0)) a b ∙ and_from (are_other a c) (are_other b c) h g

pub others_both_right : (a b c : Numbered) → are_other a b ≡ true → are_other a c ≡ true → are_other a (b ++ c) ≡ true
others_both_right [] b c h g = refl
others_both_right (x ∷ a) b c h g =
    let p = and_parts (not (has_number b x.0)) (are_other a b) h in
    let q = and_parts (not (has_number c x.0)) (are_other a c) g in
    let none = list_any-append (λ (y : ℕ × Change). y.0 == x.0) b c in
    and_from (not (has_number (b ++ c) x.0)) (are_other a (b ++ c))
    (ap not (none ∙ neither (has_number b x.0) (has_number c x.0) (not_true (has_number b x.0) p.0) (not_true (has_number c x.0) q.0))) (others_both_right a b c p.1 q.1)
