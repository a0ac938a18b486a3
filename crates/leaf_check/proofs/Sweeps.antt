-- Leaves in order of place, gone over one by one.
use Rattle.std.proofs.Common.{◌≡◌, ◌⊎◌, ℕ, ◌^◌, ◌<◌, ◌≤◌, true, false, cond, List, [], ◌∷◌, ◌++◌, Option, None, ap, sym, ◌∙◌, subst, inl, inr, append_assoc, append-nil, arith}
use Rattle.std.specs.List.{AllByRecursion}
use Rattle.std.proofs.lemmas.Bool.{cases_lt}
use Rattle.index_tree.specs.declared.leaf.Leaf.{Leaf}
use Rattle.sound_image.specs.Wrong.{IsOneOf}
use Rattle.sound_image.specs.WrongLaws.{front_of_two, one_of_two, one_of_none}
use Rattle.leaf_check.specs.Overlaps.{IsNarrow, IsOverlapped, StandsBefore, is_clear_of, overlaps, place_rank, touches}
use Rattle.leaf_check.specs.Sweep.{IsBadAmong, IsLeafJudged, IsRightAmong, IsSwept, IsUpTo}
use Rattle.leaf_check.proofs.Overlaps.{AllAbove, AllNarrow, Ascend, CrossedBefore, crossed_back, last_of, one_overlaps, overlapped_behind, step_apart, step_touches, ascend_behind, narrow_behind}

pub the_one : (x y : Leaf) → IsOneOf x (y ∷ []) → x ≡ y
the_one x y ([], behind, e) = sym (ap first_or e)
  where
    first_or : List Leaf → Leaf
    first_or [] = x
    first_or (w ∷ ws) = w
the_one x y (z ∷ before, behind, e) = absurd (one_of_none x (before, behind, ap tail_of e))
  where
    tail_of : List Leaf → List Leaf
    tail_of [] = []
    tail_of (w ∷ ws) = ws

pub all_more : (P : Leaf → Type 0) (xs : List Leaf) (x : Leaf) → AllByRecursion P xs → P x → AllByRecursion P (xs ++ (x ∷ []))
all_more P [] x h k = (k, tt)
all_more P (y ∷ xs) x h k = (h.0, all_more P xs x h.1 k)

-- the wrong ones among those that were seen
pub record SweptSoFar (IsSound : Leaf → Type 0) (done leaves wrong : List Leaf) : Type 0 where
  pub are : AllByRecursion (λ leaf. IsOneOf leaf leaves × IsBadAmong IsSound leaves leaf) wrong
  pub rest : (leaf : Leaf) → IsOneOf leaf done → IsRightAmong IsSound leaves leaf ⊎ IsUpTo wrong leaf

pub swept_start : (IsSound : Leaf → Type 0) (leaves wrong : List Leaf) → wrong ≡ [] → SweptSoFar IsSound [] leaves wrong
swept_start IsSound leaves wrong e =
    let P : List Leaf → Type 0 = λ zs. AllByRecursion (λ leaf. IsOneOf leaf leaves × IsBadAmong IsSound leaves leaf) zs in
    record { are = subst P (sym e) tt; rest = λ leaf one. absurd (one_of_none leaf one) }

before_then : (a b c : Leaf) → StandsBefore a b → StandsBefore b c → StandsBefore a c
before_then a b c (inl h) (inl k) = inl (omega (arith, h, k))
before_then a b c (inl h) (inr (e, k)) = inl (omega (arith, h, e))
before_then a b c (inr (e, h)) (inl k) = inl (omega (arith, e, k))
before_then a b c (inr (e, h)) (inr (f, k)) = inr (e ∙ f, omega (arith, h, k))

-- a wrong one more
pub swept_wrong : (IsSound : Leaf → Type 0) (done rest leaves wrong more : List Leaf) (x : Leaf) → leaves ≡ done ++ (x ∷ rest) → more ≡ wrong ++ (x ∷ []) → IsBadAmong IsSound leaves x → SweptSoFar IsSound done leaves wrong → SweptSoFar IsSound (done ++ (x ∷ [])) leaves more
swept_wrong IsSound done rest leaves wrong more x split pushed bad h =
    let P : List Leaf → Type 0 = λ zs. SweptSoFar IsSound (done ++ (x ∷ [])) leaves zs in
    subst P (sym pushed) (record {
      are = all_more (λ leaf. IsOneOf leaf leaves × IsBadAmong IsSound leaves leaf) wrong x h.are ((done, rest, split), bad);
      rest = λ leaf one. elim (one_of_two leaf done (x ∷ []) one) [
        | inl seen ↦ elim (h.rest leaf seen) [
          | inl right ↦ inl right
          | inr (inl told) ↦ inr (inl (front_of_two leaf wrong (x ∷ []) told))
          | inr (inr (other, told, stands)) ↦ inr (inr (other, front_of_two other wrong (x ∷ []) told, stands))
        ]
        | inr own ↦ inr (inl (wrong, [], ap (λ (y : Leaf). wrong ++ (y ∷ [])) (sym (the_one leaf x own))))
      ];
    })

-- one that is sound and touches no neighbour
pub swept_right : (IsSound : Leaf → Type 0) (done rest leaves wrong : List Leaf) (x : Leaf) → leaves ≡ done ++ (x ∷ rest) → AllNarrow leaves → Ascend leaves → touches (last_of None done) x rest ≡ false → IsSound x → SweptSoFar IsSound done leaves wrong → SweptSoFar IsSound (done ++ (x ∷ [])) leaves wrong
swept_right IsSound done rest leaves wrong x split narrow up none sound h =
    let N : List Leaf → Type 0 = λ zs. AllNarrow zs in
    let A : List Leaf → Type 0 = λ zs. Ascend zs in
    let O : List Leaf → Type 0 = λ zs. IsOverlapped zs x in
    record {
      are = h.are;
      rest = λ leaf one. elim (one_of_two leaf done (x ∷ []) one) [
        | inl seen ↦ h.rest leaf seen
        | inr own ↦
            let S : Leaf → Type 0 = λ y. IsRightAmong IsSound leaves y ⊎ IsUpTo wrong y in
            subst S (sym (the_one leaf x own)) (elim (cases_lt (cond (is_clear_of x x) 0 1) (overlaps x leaves)) [
              | inr not ↦ inl (sound, λ over. absurd (omega (arith, not, over)))
              | inl over ↦
                  let c = step_apart x done rest (subst N split narrow) (subst A split up) none (subst O split over) in
                  let y = c.crossed.y in
                  elim (h.rest y (c.crossed.before, c.crossed.behind, c.crossed.is)) [
                    | inl right ↦ absurd (right.1 (bad_before done rest leaves x split c))
                    | inr (inl told) ↦ inr (inr (y, told, c.stands))
                    | inr (inr (other, told, stands)) ↦ inr (inr (other, told, before_then other y x stands c.stands))
                  ]
            ])
      ];
    }
  where
    bad_before : (done rest leaves : List Leaf) (x : Leaf) → leaves ≡ done ++ (x ∷ rest) → (c : CrossedBefore x done) → IsOverlapped leaves c.crossed.y
    bad_before done rest leaves x split c =
        let y = c.crossed.y in
        let e : leaves ≡ c.crossed.before ++ (y ∷ (c.crossed.behind ++ (x ∷ rest))) = split ∙ ap (λ (zs : List Leaf). zs ++ (x ∷ rest)) c.crossed.is ∙ append_assoc c.crossed.before (y ∷ c.crossed.behind) (x ∷ rest) in
        let P : List Leaf → Type 0 = λ zs. IsOverlapped zs y in
        subst P (sym e) (overlapped_behind y c.crossed.before (c.crossed.behind ++ (x ∷ rest)) (one_overlaps y x c.crossed.behind rest (crossed_back x y c.crossed.over)))

-- a neighbour is touched
pub touched_bad : (IsSound : Leaf → Type 0) (done rest leaves : List Leaf) (x : Leaf) → leaves ≡ done ++ (x ∷ rest) → touches (last_of None done) x rest ≡ true → IsBadAmong IsSound leaves x
touched_bad IsSound done rest leaves x split h =
    let P : List Leaf → Type 0 = λ zs. IsOverlapped zs x in
    inr (subst P (sym split) (step_touches x done rest h))

-- ---- the end
pub swept_end : (IsSound : Leaf → Type 0) (done left leaves wrong : List Leaf) → left ≡ [] → leaves ≡ done ++ left → SweptSoFar IsSound done leaves wrong → IsSwept IsSound leaves wrong
swept_end IsSound done left leaves wrong none split h =
    let P : List Leaf → Type 0 = λ zs. (leaf : Leaf) → IsOneOf leaf zs → IsRightAmong IsSound leaves leaf ⊎ IsUpTo wrong leaf in
    record { are = h.are; rest = subst P (sym (split ∙ ap (λ (zs : List Leaf). done ++ zs) none ∙ append-nil done)) h.rest }

-- what isn't before a leaf in the order doesn't stand before it
stands_far : (w x y : Leaf) → IsNarrow x → IsNarrow y → place_rank x ≤ place_rank y → StandsBefore w x → StandsBefore w y
stands_far w x y nx ny h k = by (narrow_place x.lnum x.offs x.len y.lnum y.offs y.len nx.offs_fits nx.len_fits ny.offs_fits ny.len_fits h) k
  where
    narrow_place : (l o n m p q : ℕ) → o < 2 ^ 32 → n < 2 ^ 32 → p < 2 ^ 32 → q < 2 ^ 32 → place_rank (record { key = x.key; lnum = l; offs = o; len = n }) ≤ place_rank (record { key = x.key; lnum = m; offs = p; len = q }) → (l < m) ⊎ ((l ≡ m) × (o ≤ p))
    narrow_place l o n m p q ho hn hp hq h = elim (cases_lt l m) [ inl less ↦ inl less | inr not ↦ inr (omega (arith, ho, hn, hp, hq, h, not), omega (arith, ho, hn, hp, hq, h, not)) ]

    by : (x.lnum < y.lnum) ⊎ ((x.lnum ≡ y.lnum) × (x.offs ≤ y.offs)) → StandsBefore w x → StandsBefore w y
    by (inl less) (inl k) = inl (omega (arith, less, k))
    by (inl less) (inr (e, k)) = inl (omega (arith, less, e))
    by (inr (e, o)) (inl k) = inl (omega (arith, e, k))
    by (inr (e, o)) (inr (f, k)) = inr (f ∙ e, omega (arith, o, k))

-- behind a place at which one is wrong all others are passed over
pub swept_past : (IsSound : Leaf → Type 0) (done rest leaves wrong : List Leaf) (x w : Leaf) → leaves ≡ done ++ (x ∷ rest) → AllNarrow leaves → Ascend leaves → IsOneOf w wrong → StandsBefore w x → SweptSoFar IsSound done leaves wrong → IsSwept IsSound leaves wrong
swept_past IsSound done rest leaves wrong x w split narrow up one stands h =
    let N : List Leaf → Type 0 = λ zs. AllNarrow zs in
    let A : List Leaf → Type 0 = λ zs. Ascend zs in
    let back = ascend_behind done x rest (subst A split up) in
    let thin = narrow_behind done (x ∷ rest) (subst N split narrow) in
    let P : List Leaf → Type 0 = λ zs. (leaf : Leaf) → IsOneOf leaf zs → IsRightAmong IsSound leaves leaf ⊎ IsUpTo wrong leaf in
    record {
      are = h.are;
      rest = subst P (sym split) (λ leaf seen. elim (one_of_two leaf done (x ∷ rest) seen) [
        | inl front ↦ h.rest leaf front
        | inr behind ↦ inr (inr (w, one, far leaf behind back thin))
      ]);
    }
  where
    above_one : (low : ℕ) (y : Leaf) (before behind : List Leaf) → AllAbove low (before ++ (y ∷ behind)) → low ≤ place_rank y
    above_one low y [] behind h = h.0
    above_one low y (z ∷ before) behind h = above_one low y before behind h.1

    narrow_one : (y : Leaf) (before behind : List Leaf) → AllNarrow (before ++ (y ∷ behind)) → IsNarrow y
    narrow_one y [] behind h = h.0
    narrow_one y (z ∷ before) behind h = narrow_one y before behind h.1

    far : (leaf : Leaf) → IsOneOf leaf (x ∷ rest) → Ascend (x ∷ rest) → AllNarrow (x ∷ rest) → StandsBefore w leaf
    far leaf (before, behind, e) up thin =
        let N : List Leaf → Type 0 = λ zs. AllNarrow zs in
        let B : List Leaf → Type 0 = λ zs. AllAbove (place_rank x) zs in
        let own : AllAbove (place_rank x) (x ∷ rest) = (omega arith, up.0) in
        stands_far w x leaf thin.0 (narrow_one leaf before behind (subst N e thin)) (above_one (place_rank x) leaf before behind (subst B e own)) stands

-- one leaf more was judged
pub swept_next : (IsSound : Leaf → Type 0) (done rest leaves wrong more : List Leaf) (last : Option Leaf) (x : Leaf) → leaves ≡ done ++ (x ∷ rest) → last ≡ last_of None done → AllNarrow leaves → Ascend leaves → IsLeafJudged IsSound last x rest wrong more → SweptSoFar IsSound done leaves wrong → SweptSoFar IsSound (done ++ (x ∷ [])) leaves more
swept_next IsSound done rest leaves wrong more last x split end narrow up (inl (pushed, inl touched)) h =
    let P : Option Leaf → Type 0 = λ o. touches o x rest ≡ true in
    swept_wrong IsSound done rest leaves wrong more x split pushed (touched_bad IsSound done rest leaves x split (subst P end touched)) h
swept_next IsSound done rest leaves wrong more last x split end narrow up (inl (pushed, inr unsound)) h = swept_wrong IsSound done rest leaves wrong more x split pushed (inl unsound) h
swept_next IsSound done rest leaves wrong more last x split end narrow up (inr (same, apart, sound)) h =
    let P : Option Leaf → Type 0 = λ o. touches o x rest ≡ false in
    let Q : List Leaf → Type 0 = λ zs. SweptSoFar IsSound (done ++ (x ∷ [])) leaves zs in
    subst Q (sym same) (swept_right IsSound done rest leaves wrong x split narrow up (subst P end apart) sound h)
