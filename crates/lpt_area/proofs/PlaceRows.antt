-- Rows of places, item by item.
use Rattle.std.proofs.Common.{◌≡◌, ℕ, zero, suc, ◌+◌, ◌*◌, ◌<◌, List, [], ◌∷◌, ◌++◌, length, take, get_or, refl, ap, sym, ◌∙◌, arith, subst, append_assoc, append-nil, inl, inr, length-append}
use Rattle.std.proofs.lemmas.List.{take_more, length-take, get_or-take}
use Rattle.std.specs.List.{All, AllByRecursion}
use Rattle.media_lpt.specs.declared.nnode.LptPlace.{LptPlace}
use Rattle.lpt_area.specs.Tree.{AtPlace, Row}
use Rattle.lpt_area.specs.Only.{IsOnly, HasNone}

module _ {X : Type 0} (S : List ℕ → ℕ → List X → Type 0) (none : X) where
  pub row_append : (holds : ℕ → List ℕ) (a b : List LptPlace) (p q : List X) → Row S none holds a p → Row S none holds b q → Row S none holds (a ++ b) (p ++ q)
  unfolding Row
  row_append holds [] b p q ha hb = let P : List X → Type 0 = λ z. Row S none holds b (z ++ q) in subst P (sym ha) hb
  row_append holds (x ∷ a) b p q ha hb = (ha.0, ha.1 ++ q, ha.2, row_append holds a b ha.1 q ha.3 hb, ap (λ (z : List X). z ++ q) ha.4 ∙ append_assoc ha.0 ha.1 q)

  pub row_parts : (holds : ℕ → List ℕ) (a b : List LptPlace) (all : List X) → Row S none holds (a ++ b) all → (p : List X) × (q : List X) × Row S none holds a p × Row S none holds b q × (all ≡ p ++ q)
  unfolding Row
  row_parts holds [] b all h = ([], all, refl, h, refl)
  row_parts holds (x ∷ a) b all h =
      let rest = row_parts holds a b h.1 h.3 in
      (h.0 ++ rest.0, rest.1, (h.0, rest.0, h.2, rest.2, refl), rest.3, h.4 ∙ ap (λ (z : List X). h.0 ++ z) rest.4 ∙ sym (append_assoc h.0 rest.0 rest.1))

  pub row_one : (holds : ℕ → List ℕ) (x : LptPlace) (four : List X) → AtPlace S none (holds x.lnum) x four → Row S none holds (x ∷ []) four
  unfolding Row
  row_one holds x four h = (four, [], h, refl, sym (append-nil four))

  pub of_one : (holds : ℕ → List ℕ) (x : LptPlace) (all : List X) → Row S none holds (x ∷ []) all → AtPlace S none (holds x.lnum) x all
  unfolding Row
  of_one holds x all h =
      let same : all ≡ h.0 = h.4 ∙ ap (λ (z : List X). h.0 ++ z) h.3 ∙ append-nil h.0 in
      let P : List X → Type 0 = λ z. AtPlace S none (holds x.lnum) x z in
      subst P (sym same) h.2

  -- no place says nothing
  pub row_none : (holds : ℕ → List ℕ) → IsOnly (Row S none holds []) []
  unfolding Row
  row_none holds = (refl, λ y h. h)

  -- one place more
  pub row_next : (holds : ℕ → List ℕ) (row : List LptPlace) (i : ℕ) (d : LptPlace) (all four new : List X) → i < length row → IsOnly (Row S none holds (take i row)) all
      → IsOnly (AtPlace S none (holds (get_or row i d).lnum) (get_or row i d)) four → new ≡ all ++ four → IsOnly (Row S none holds (take (i + 1) row)) new
  row_next holds row i d all four new lt before step is =
      let x = get_or row i d in
      let e : take (i + 1) row ≡ take i row ++ x ∷ [] = take_more row i d lt in
      let P : List LptPlace → Type 0 = λ r. IsOnly (Row S none holds r) new in
      let Q : List X → Type 0 = λ z. Row S none holds (take i row ++ x ∷ []) z in
      subst P (sym e) (
        subst Q (sym is) (row_append holds (take i row) (x ∷ []) all four before.0 (row_one holds x four step.0)),
        λ y h.
            let parts = row_parts holds (take i row) (x ∷ []) y h in
            let first : parts.0 ≡ all = before.1 parts.0 parts.2 in
            let last : parts.1 ≡ four = step.1 parts.1 (of_one holds x parts.1 parts.3) in
            parts.4 ∙ ap (λ (z : List X). z ++ parts.1) first ∙ ap (λ (z : List X). all ++ z) last ∙ sym is,
      )

  -- what a row says, each of its places says
  pub row_item : (holds : ℕ → List ℕ) (row : List LptPlace) (i : ℕ) (d : LptPlace) (all : List X) → i < length row → Row S none holds row all
      → (four : List X) × AtPlace S none (holds (get_or row i d).lnum) (get_or row i d) four
  unfolding Row
  row_item holds [] i d all lt h = absurd (omega arith)
  row_item holds (x ∷ row) zero d all lt h = (h.0, h.2)
  row_item holds (x ∷ row) (suc i) d all lt h = row_item holds row i d h.1 (omega arith) h.3

  pub row_fails : (holds : ℕ → List ℕ) (row : List LptPlace) (i : ℕ) (d : LptPlace) → i < length row → HasNone (AtPlace S none (holds (get_or row i d).lnum) (get_or row i d)) → HasNone (Row S none holds row)
  row_fails holds row i d lt fails all h = let item = row_item holds row i d all lt h in fails item.0 item.1

  -- the first places, where each says four
  pub row_take : (holds : ℕ → List ℕ) (row : List LptPlace) (n : ℕ) (all : List X) → ((leb : List ℕ) (offs : ℕ) (four : List X) → S leb offs four → length four ≡ 4)
      → Row S none holds row all → Row S none holds (take n row) (take (4 * n) all)
  unfolding Row
  row_take holds [] zero all four h = refl
  row_take holds [] (suc n) all four h = let e : 4 * suc n ≡ suc (3 + 4 * n) = omega arith in ap (take (4 * suc n)) h ∙ ap (λ (m : ℕ). take m []) e
  row_take holds (x ∷ row) zero all four h = refl
  row_take holds (x ∷ row) (suc n) all four h =
      let long : length h.0 ≡ 4 = elim h.2 [ inl gone ↦ ap length gone.1 | inr there ↦ four (holds x.lnum) x.offs h.0 there.1 ] in
      let rest = row_take holds row n h.1 four h.3 in
      let all_four : take (4 * suc n) (h.0 ++ h.1) ≡ h.0 ++ take (4 * n) h.1 = take_four n h.0 h.1 long in
      (h.0, take (4 * n) h.1, h.2, rest, ap (λ (z : List X). take (4 * suc n) z) h.4 ∙ all_four)
    where
      take_four : (n : ℕ) (a b : List X) → length a ≡ 4 → take (4 * suc n) (a ++ b) ≡ a ++ take (4 * n) b
      take_four n (a ∷ b ∷ c ∷ d ∷ []) rest l = let e : 4 * suc n ≡ suc (suc (suc (suc (4 * n)))) = omega arith in rw e refl
      take_four n [] rest l = absurd (omega (arith, l))
      take_four n (a ∷ []) rest l = absurd (omega (arith, l))
      take_four n (a ∷ b ∷ []) rest l = absurd (omega (arith, l))
      take_four n (a ∷ b ∷ c ∷ []) rest l = absurd (omega (arith, l))
      take_four n (a ∷ b ∷ c ∷ d ∷ e ∷ r) rest l = absurd (omega (arith, l))

  -- each says four
  pub row_length : (holds : ℕ → List ℕ) (row : List LptPlace) (all : List X) → ((leb : List ℕ) (offs : ℕ) (four : List X) → S leb offs four → length four ≡ 4)
      → Row S none holds row all → length all ≡ 4 * length row
  unfolding Row
  row_length holds [] all four h = ap length h
  row_length holds (x ∷ row) all four h =
      let long : length h.0 ≡ 4 = elim h.2 [ inl gone ↦ ap length gone.1 | inr there ↦ four (holds x.lnum) x.offs h.0 there.1 ] in
      let rest = row_length holds row h.1 four h.3 in
      let sum = length-append h.0 h.1 in
      ap length h.4 ∙ omega (arith, long, rest, sum)

  -- the same of contents that are the same
  pub row_moved : (holds other : ℕ → List ℕ) (row : List LptPlace) (all : List X) → ((k : ℕ) → other k ≡ holds k) → Row S none holds row all → Row S none other row all
  unfolding Row
  row_moved holds other [] all same h = h
  row_moved holds other (x ∷ row) all same h =
      let P : List ℕ → Type 0 = λ leb. AtPlace S none leb x h.0 in
      (h.0, h.1, subst P (sym (same x.lnum)) h.2, row_moved holds other row h.1 same h.3, h.4)

  pub only_moved : (holds other : ℕ → List ℕ) (row : List LptPlace) (all : List X) → ((k : ℕ) → other k ≡ holds k) → IsOnly (Row S none other row) all → IsOnly (Row S none holds row) all
  only_moved holds other row all same h = (row_moved other holds row all (λ k. sym (same k)) h.0, λ y is. h.1 y (row_moved holds other row y same is))

  pub none_moved : (holds other : ℕ → List ℕ) (row : List LptPlace) → ((k : ℕ) → other k ≡ holds k) → HasNone (Row S none other row) → HasNone (Row S none holds row)
  none_moved holds other row same h y is = h y (row_moved holds other row y same is)

  -- a row says one thing only, where what stands at a place does
  pub row_same : (holds : ℕ → List ℕ) (row : List LptPlace) (p q : List X) → ((k offs : ℕ) (a b : List X) → S (holds k) offs a → S (holds k) offs b → a ≡ b)
      → Row S none holds row p → Row S none holds row q → p ≡ q
  unfolding Row
  row_same holds [] p q one hp hq = hp ∙ sym hq
  row_same holds (x ∷ row) p q one hp hq =
      let first : hp.0 ≡ hq.0 = at_same (holds x.lnum) x hp.0 hq.0 (one x.lnum x.offs) hp.2 hq.2 in
      let rest : hp.1 ≡ hq.1 = row_same holds row hp.1 hq.1 one hp.3 hq.3 in
      hp.4 ∙ ap (λ (z : List X). z ++ hp.1) first ∙ ap (λ (z : List X). hq.0 ++ z) rest ∙ sym hq.4
    where
      at_same : (leb : List ℕ) (place : LptPlace) (a b : List X) → ((a b : List X) → S leb place.offs a → S leb place.offs b → a ≡ b) → AtPlace S none leb place a → AtPlace S none leb place b → a ≡ b
      at_same leb place a b one (inl p) (inl q) = p.1 ∙ sym q.1
      at_same leb place a b one (inl p) (inr q) = absurd (q.0 p.0)
      at_same leb place a b one (inr p) (inl q) = absurd (p.0 q.0)
      at_same leb place a b one (inr p) (inr q) = one a b p.1 q.1

-- what holds of each element, by place
pub all_of : {X : Type 0} (P : X → Type 0) (xs : List X) → AllByRecursion P xs → All P xs
all_of P [] h k d lt = absurd (omega arith)
all_of P (x ∷ xs) h zero d lt = h.0
all_of P (x ∷ xs) h (suc k) d lt = all_of P xs h.1 k d (omega arith)

-- and of the first ones
pub all_take : {X : Type 0} (P : X → Type 0) (n : ℕ) (xs : List X) → All P xs → All P (take n xs)
all_take P n xs h k d lt =
    let long = length-take n xs in
    let e : get_or (take n xs) k d ≡ get_or xs k d = get_or-take n xs k d (omega (arith, lt, long)) in
    subst P (sym e) (h k d (omega (arith, lt, long)))
