-- One page is put.
use Rattle.std.proofs.Common.{◌≡◌, ℕ, true, false, cond, not, List, [], ◌∷◌, ◌++◌, length, is_some, refl, sym, ap, subst, ◌∙◌, arith, length-append}
use Rattle.page_cache.specs.Pages.{Pages, dirty_at, with_dirty, with_all_dirty, new_pages, old_pages, IsTakenBack}

one_alone : {X : Type 0} (xs : List X) (x : X) → length (xs ++ x ∷ []) ≡ 1 → xs ++ x ∷ [] ≡ x ∷ []
one_alone [] x one = refl
one_alone (y ∷ ys) x one = absurd (omega (arith, one, length-append ys (x ∷ [])))

-- it is put as one that becomes dirty, or as one that is
pub put_one : (old new : Pages) (ino block : ℕ) (bytes : List ℕ) (pages left : List (ℕ × List ℕ)) → pages ≡ left ++ (block, bytes) ∷ [] → length pages ≡ 1
    → new ≡ with_dirty old ino block bytes → new ≡ with_all_dirty (with_all_dirty old ino (new_pages old ino pages)) ino (old_pages old ino pages)
put_one old new ino block bytes pages left is one made =
    let page : ℕ × List ℕ = (block, bytes) in
    let alone : pages ≡ page ∷ [] = is ∙ one_alone left page (sym (ap length is) ∙ one) in
    made ∙ subst (λ (put : List (ℕ × List ℕ)). with_dirty old ino block bytes ≡ with_all_dirty (with_all_dirty old ino (new_pages old ino put)) ino (old_pages old ino put)) (sym alone)
    (elim (is_some (dirty_at old ino block)) as (λ b. with_dirty old ino block bytes ≡ with_all_dirty (with_all_dirty old ino (cond (not b) (page ∷ []) [])) ino (cond b (page ∷ []) [])) [
      | true ↦ refl
      | false ↦ refl
    ])

-- where there is no memory, none was put
pub taken_back : (old new : Pages) (ino : ℕ) (pages : List (ℕ × List ℕ)) → new ≡ old → IsTakenBack old new ino pages
taken_back old new ino pages same = record { first = []; rest = new_pages old ino pages; split = refl; made = same }
