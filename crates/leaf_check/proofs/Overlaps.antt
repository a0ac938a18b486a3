-- In order of place, a leaf that overlaps another overlaps a neighbour, or one that stands before it.
use Rattle.std.proofs.Common.{◌≡◌, ◌⊎◌, ℕ, ◌+◌, ◌*◌, ◌^◌, ◌<◌, ◌≤◌, Bool, true, false, cond, not, List, [], ◌∷◌, ◌++◌, Option, Some, None, refl, ap, sym, ◌∙◌, subst, inl, inr, arith}
use Rattle.std.specs.Prelude.{◌==◌, ◌||◌, nat_le}
use Rattle.std.proofs.lemmas.Bool.{cases_Bool, cases_lt, eqb-true, eq-eqb, lt-leb, leb-false, not-false, not-true, not_from_true, or_from, or_parts, or_cases}
use Rattle.std.specs.List.{AllByRecursion}
use Rattle.index_tree.specs.declared.leaf.Leaf.{Leaf}
use Rattle.index_media.specs.PlacedRow.{node_end}
use Rattle.leaf_check.specs.Overlaps.{IsNarrow, IsOverlapped, StandsBefore, is_clear_of, overlaps, place_rank, touches, touches_last, touches_next}

-- ---- two leaves
-- two leaves overlap
record Cross (a b : Leaf) : Type 0 where
  lnum : a.lnum ≡ b.lnum
  first : b.offs < node_end (a.offs + a.len)
  other : a.offs < node_end (b.offs + b.len)

cross_parts : (a b : Leaf) → is_clear_of a b ≡ false → Cross a b
cross_parts a b h =
    let one = or_parts (not (a.lnum == b.lnum)) (nat_le (node_end (a.offs + a.len)) b.offs || nat_le (node_end (b.offs + b.len)) a.offs) h in
    let two = or_parts (nat_le (node_end (a.offs + a.len)) b.offs) (nat_le (node_end (b.offs + b.len)) a.offs) one.1 in
    record {
      lnum = eqb-true a.lnum b.lnum (not-false (a.lnum == b.lnum) one.0);
      first = leb-false (node_end (a.offs + a.len)) b.offs two.0;
      other = leb-false (node_end (b.offs + b.len)) a.offs two.1;
    }

cross_of : (a b : Leaf) → Cross a b → is_clear_of a b ≡ false
cross_of a b h =
    or_from (not (a.lnum == b.lnum)) (nat_le (node_end (a.offs + a.len)) b.offs || nat_le (node_end (b.offs + b.len)) a.offs) (not_from_true (a.lnum == b.lnum) (eq-eqb a.lnum b.lnum h.lnum))
    (or_from (nat_le (node_end (a.offs + a.len)) b.offs) (nat_le (node_end (b.offs + b.len)) a.offs) (lt-leb (node_end (a.offs + a.len)) b.offs h.first) (lt-leb (node_end (b.offs + b.len)) a.offs h.other))

cross_back : (a b : Leaf) → Cross a b → Cross b a
cross_back a b h = record { lnum = sym h.lnum; first = h.other; other = h.first }

pub crossed_back : (a b : Leaf) → is_clear_of a b ≡ false → is_clear_of b a ≡ false
crossed_back a b h = cross_of b a (cross_back a b (cross_parts a b h))

-- one comes before another in the order, or both have one place
lnum_rises : (l o n m p q : ℕ) → o < 2 ^ 32 → n < 2 ^ 32 → p < 2 ^ 32 → q < 2 ^ 32 → l * 2 ^ 64 + o * 2 ^ 32 + n ≤ m * 2 ^ 64 + p * 2 ^ 32 + q → l ≤ m
lnum_rises l o n m p q ho hn hp hq h = omega (arith, ho, hn, hp, hq, h)

offs_rises : (l o n p q : ℕ) → n < 2 ^ 32 → q < 2 ^ 32 → l * 2 ^ 64 + o * 2 ^ 32 + n ≤ l * 2 ^ 64 + p * 2 ^ 32 + q → o ≤ p
offs_rises l o n p q hn hq h = omega (arith, hn, hq, h)

len_rises : (l o n q : ℕ) → l * 2 ^ 64 + o * 2 ^ 32 + n ≤ l * 2 ^ 64 + o * 2 ^ 32 + q → n ≤ q
len_rises l o n q h = omega (arith, h)

-- what the order says of two leaves
record Rises (a b : Leaf) : Type 0 where
  lnum : a.lnum ≤ b.lnum
  offs : a.lnum ≡ b.lnum → a.offs ≤ b.offs
  len : a.lnum ≡ b.lnum → a.offs ≡ b.offs → a.len ≤ b.len

rises : (a b : Leaf) → IsNarrow a → IsNarrow b → place_rank a ≤ place_rank b → Rises a b
rises a b na nb h =
    let offs : a.lnum ≡ b.lnum → a.offs ≤ b.offs = λ e. let P : ℕ → Type 0 = λ l. l * 2 ^ 64 + a.offs * 2 ^ 32 + a.len ≤ b.lnum * 2 ^ 64 + b.offs * 2 ^ 32 + b.len in
    offs_rises b.lnum a.offs a.len b.offs b.len na.len_fits nb.len_fits (subst P e h) in
    record {
      lnum = lnum_rises a.lnum a.offs a.len b.lnum b.offs b.len na.offs_fits na.len_fits nb.offs_fits nb.len_fits h;
      offs = offs;
      len = λ e f. (
          let P : ℕ → Type 0 = λ l. l * 2 ^ 64 + a.offs * 2 ^ 32 + a.len ≤ b.lnum * 2 ^ 64 + b.offs * 2 ^ 32 + b.len in
          let Q : ℕ → Type 0 = λ o. b.lnum * 2 ^ 64 + o * 2 ^ 32 + a.len ≤ b.lnum * 2 ^ 64 + b.offs * 2 ^ 32 + b.len in
          len_rises b.lnum b.offs a.len b.len (subst Q f (subst P e h))
          );
    }

-- whatever overlaps a later leaf overlaps the next
next_crossed : (x n y : Leaf) → Rises x n → Rises n y → Cross x y → Cross x n
next_crossed x n y a b h =
    let low = a.lnum in
    let high = b.lnum in
    let same = h.lnum in
    let l : x.lnum ≡ n.lnum = omega (arith, low, high, same) in
    let m : n.lnum ≡ y.lnum = omega (arith, low, high, same) in
    let o = a.offs l in
    let p = b.offs m in
    let first = h.first in
    record {
      lnum = l;
      first = omega (arith, p, first);
      other = elim (cases_lt x.offs (node_end (n.offs + n.len))) [
        | inl less ↦ less
        | inr not ↦
            let here : x.offs ≡ n.offs = omega (arith, o, not) in
            let none : n.len ≡ 0 = omega (arith, o, not) in
            let len = a.len l here in
            absurd (omega (arith, here, none, len, not, first, p))
      ];
    }

-- of those at one place, whatever overlaps an earlier one overlaps the one before it
last_crossed : (y p x : Leaf) → Rises y p → Rises p x → y.offs ≡ x.offs → Cross x y → Cross x p
last_crossed y p x a b place h =
    let low = a.lnum in
    let high = b.lnum in
    let same = h.lnum in
    let l : y.lnum ≡ p.lnum = omega (arith, low, high, same) in
    let m : p.lnum ≡ x.lnum = omega (arith, low, high, same) in
    let o = a.offs l in
    let q = b.offs m in
    let e : y.offs ≡ p.offs = omega (arith, o, q, place) in
    let f : p.offs ≡ x.offs = omega (arith, o, q, place) in
    let long = a.len l e in
    let more = b.len m f in
    let other = h.other in
    record { lnum = sym m; first = omega (arith, f, e, long, more, other); other = omega (arith, f, e, long, other) }

-- ---- counts
-- one of a list that a leaf overlaps
pub record Crossed (x : Leaf) (ys : List Leaf) : Type 0 where
  pub y : Leaf
  pub before : List Leaf
  pub behind : List Leaf
  pub is : ys ≡ before ++ (y ∷ behind)
  pub over : is_clear_of x y ≡ false

cond_true : (b : Bool) → b ≡ true → ◌≡◌ {A = ℕ} (cond b 0 1) 0
cond_true true h = refl
cond_true false h = absurd cc

cond_false : (b : Bool) → b ≡ false → ◌≡◌ {A = ℕ} (cond b 0 1) 1
cond_false false h = refl
cond_false true h = absurd cc

pub some_crossed : (x : Leaf) (ys : List Leaf) → 0 < overlaps x ys → Crossed x ys
some_crossed x [] h = absurd (omega (arith, h))
some_crossed x (y ∷ ys) h = elim (cases_Bool (is_clear_of x y)) [
  | inl apart ↦
      let own = cond_true (is_clear_of x y) apart in
      let more = some_crossed x ys (omega (arith, h, own)) in
      record { y = more.y; before = y ∷ more.before; behind = more.behind; is = ap (λ (zs : List Leaf). y ∷ zs) more.is; over = more.over }
  | inr over ↦ record { y = y; before = []; behind = ys; is = refl; over = over }
]

-- all leaves are this far in the order, and have 32 bits
abbrev pub AllAbove : ℕ → List Leaf → Type 0
AllAbove low [] = Unit {0}
AllAbove low (x ∷ xs) = (low ≤ place_rank x) × AllAbove low xs

abbrev pub AllBelow : ℕ → List Leaf → Type 0
AllBelow high [] = Unit {0}
AllBelow high (x ∷ xs) = (place_rank x ≤ high) × AllBelow high xs

abbrev pub AllNarrow : List Leaf → Type 0
AllNarrow xs = AllByRecursion IsNarrow xs

-- each is as far in the order as those before it
abbrev pub Ascend : List Leaf → Type 0
Ascend [] = Unit {0}
Ascend (x ∷ xs) = AllAbove (place_rank x) xs × Ascend xs

above_at : (low : ℕ) (before behind : List Leaf) (y : Leaf) → AllAbove low (before ++ (y ∷ behind)) → low ≤ place_rank y
above_at low [] behind y h = h.0
above_at low (x ∷ before) behind y h = above_at low before behind y h.1

below_at : (high : ℕ) (before behind : List Leaf) (y : Leaf) → AllBelow high (before ++ (y ∷ behind)) → place_rank y ≤ high
below_at high [] behind y h = h.0
below_at high (x ∷ before) behind y h = below_at high before behind y h.1

narrow_at : (before behind : List Leaf) (y : Leaf) → AllNarrow (before ++ (y ∷ behind)) → IsNarrow y
narrow_at [] behind y h = h.0
narrow_at (x ∷ before) behind y h = narrow_at before behind y h.1

-- in the order, who overlaps no neighbour behind it overlaps none behind it
later_apart : (x : Leaf) (rest : List Leaf) → IsNarrow x → AllNarrow rest → AllAbove (place_rank x) rest → Ascend rest → touches_next x rest ≡ false → overlaps x rest ≡ 0
later_apart x [] nx narrow above up none = refl
later_apart x (n ∷ more) nx narrow above up none =
    let apart : is_clear_of x n ≡ true = not-false (is_clear_of x n) none in
    let own = cond_true (is_clear_of x n) apart in
    elim (cases_lt 0 (overlaps x more)) [
      | inl some ↦
          let c = some_crossed x more some in
          let P : List Leaf → Type 0 = λ zs. AllAbove (place_rank n) zs in
          let Q : List Leaf → Type 0 = λ zs. AllNarrow zs in
          let ny = narrow_at c.before c.behind c.y (subst Q c.is narrow.1) in
          let crossed = next_crossed x n c.y (rises x n nx narrow.0 above.0) (rises n c.y narrow.0 ny (above_at (place_rank n) c.before c.behind c.y (subst P c.is up.0))) (cross_parts x c.y c.over) in
          let e : true ≡ false = sym apart ∙ cross_of x n crossed in
          absurd cc
      | inr not ↦ omega (arith, own, not)
    ]

-- the last of a list
abbrev pub last_of : Option Leaf → List Leaf → Option Leaf
last_of last [] = last
last_of last (x ∷ xs) = last_of (Some x) xs

-- what stands at its end
record EndsIn (p : Leaf) (done : List Leaf) : Type 0 where
  front : List Leaf
  is : done ≡ front ++ (p ∷ [])

ends_in : (x : Leaf) (xs : List Leaf) → (p : Leaf) × (last_of (Some x) xs ≡ Some p) × EndsIn p (x ∷ xs)
ends_in x [] = (x, refl, record { front = []; is = refl })
ends_in x (y ∷ xs) =
    let more = ends_in y xs in
    (more.0, more.1, record { front = x ∷ more.2.front; is = ap (λ (zs : List Leaf). x ∷ zs) more.2.is })

abbrev first_of : Leaf → List Leaf → Leaf
first_of d [] = d
first_of d (x ∷ xs) = x

abbrev behind_first : List Leaf → List Leaf
behind_first [] = []
behind_first (x ∷ xs) = xs

not_empty : (before behind : List Leaf) (y : Leaf) → before ++ (y ∷ behind) ≡ [] → ⊥
not_empty [] behind y e = cc
not_empty (x ∷ before) behind y e = cc

-- whatever stands in a list that ends in p is p, or no farther in the order
up_to_end : (before behind front : List Leaf) (y p : Leaf) → before ++ (y ∷ behind) ≡ front ++ (p ∷ []) → Ascend (before ++ (y ∷ behind)) → (y ≡ p) ⊎ (place_rank y ≤ place_rank p)
up_to_end [] behind [] y p e up = inl (ap (first_of y) e)
up_to_end [] behind (z ∷ front) y p e up = inr (let P : List Leaf → Type 0 = λ xs. AllAbove (place_rank y) xs in above_at (place_rank y) front [] p (subst P (ap behind_first e) up.0))
up_to_end (x ∷ before) behind [] y p e up = absurd (not_empty before behind y (ap behind_first e))
up_to_end (x ∷ before) behind (z ∷ front) y p e up = up_to_end before behind front y p (ap behind_first e) up.1

-- one that stands before a leaf, and that it overlaps
pub record CrossedBefore (x : Leaf) (done : List Leaf) : Type 0 where
  pub crossed : Crossed x done
  pub stands : StandsBefore crossed.y x

-- in the order, who doesn't overlap the one before it overlaps none before it at its own place
pub earlier_before : (x : Leaf) (done : List Leaf) → IsNarrow x → AllNarrow done → AllBelow (place_rank x) done → Ascend done → touches_last (last_of None done) x ≡ false → 0 < overlaps x done → CrossedBefore x done
earlier_before x [] nx narrow below up none some = absurd (omega (arith, some))
earlier_before x (d ∷ done) nx narrow below up none some =
    let c = some_crossed x (d ∷ done) some in
    let end = ends_in d done in
    let p = end.0 in
    let y = c.y in
    let last : is_clear_of x p ≡ true = (let P : Option Leaf → Type 0 = λ o. touches_last o x ≡ false in not-false (is_clear_of x p) (subst P end.1 none)) in
    let A : List Leaf → Type 0 = λ zs. Ascend zs in
    let N : List Leaf → Type 0 = λ zs. AllNarrow zs in
    let B : List Leaf → Type 0 = λ zs. AllBelow (place_rank x) zs in
    let ny = narrow_at c.before c.behind y (subst N c.is narrow) in
    let np = narrow_at end.2.front [] p (subst N end.2.is narrow) in
    let high = below_at (place_rank x) c.before c.behind y (subst B c.is below) in
    let high_p = below_at (place_rank x) end.2.front [] p (subst B end.2.is below) in
    let cross = cross_parts x y c.over in
    let up_y = rises y x ny nx high in
    let same = cross.lnum in
    elim (up_to_end c.before c.behind end.2.front y p (sym c.is ∙ end.2.is) (subst A c.is up)) [
      | inl e ↦ (let f : true ≡ false = sym last ∙ ap (is_clear_of x) (sym e) ∙ c.over in absurd cc)
      | inr low ↦ elim (cases_lt y.offs x.offs) [
        | inl less ↦ record { crossed = c; stands = inr (sym same, less) }
        | inr not ↦
            let own = up_y.offs (sym same) in
            let crossed = last_crossed y p x (rises y p ny np low) (rises p x np nx high_p) (omega (arith, own, not)) cross in
            let f : true ≡ false = sym last ∙ cross_of x p crossed in
            absurd cc
      ]
    ]

-- ---- a leaf among others
pub overlaps-append : (x : Leaf) (xs ys : List Leaf) → overlaps x (xs ++ ys) ≡ overlaps x xs + overlaps x ys
overlaps-append x [] ys = omega arith
overlaps-append x (z ∷ xs) ys = let more = overlaps-append x xs ys in omega (arith, more)

overlaps_at : (x z : Leaf) (before behind : List Leaf) → overlaps x (before ++ (z ∷ behind)) ≡ overlaps x before + (cond (is_clear_of x z) 0 1 + overlaps x behind)
overlaps_at x z before behind = overlaps-append x before (z ∷ behind)

pub overlapped_parts : (x : Leaf) (done rest : List Leaf) → IsOverlapped (done ++ (x ∷ rest)) x → (0 < overlaps x done) ⊎ (0 < overlaps x rest)
overlapped_parts x done rest h =
    let e = overlaps_at x x done rest in
    elim (cases_lt 0 (overlaps x done)) [
      | inl some ↦ inl some
      | inr none ↦ inr (omega (arith, h, e, none))
    ]

-- it overlaps one before it, or one behind it
pub overlapped_before : (x : Leaf) (before behind : List Leaf) → 0 < overlaps x before → IsOverlapped (before ++ (x ∷ behind)) x
overlapped_before x before behind h = let e = overlaps_at x x before behind in omega (arith, h, e)

pub overlapped_behind : (x : Leaf) (before behind : List Leaf) → 0 < overlaps x behind → IsOverlapped (before ++ (x ∷ behind)) x
overlapped_behind x before behind h = let e = overlaps_at x x before behind in omega (arith, h, e)

pub one_overlaps : (x z : Leaf) (before behind : List Leaf) → is_clear_of x z ≡ false → 0 < overlaps x (before ++ (z ∷ behind))
one_overlaps x z before behind h = let e = overlaps_at x z before behind in let own = cond_false (is_clear_of x z) h in omega (arith, e, own)

-- ---- lists in order
pub ascend_behind : (done : List Leaf) (x : Leaf) (rest : List Leaf) → Ascend (done ++ (x ∷ rest)) → Ascend (x ∷ rest)
ascend_behind [] x rest h = h
ascend_behind (d ∷ done) x rest h = ascend_behind done x rest h.1

above_front : (low : ℕ) (xs ys : List Leaf) → AllAbove low (xs ++ ys) → AllAbove low xs
above_front low [] ys h = tt
above_front low (x ∷ xs) ys h = (h.0, above_front low xs ys h.1)

pub ascend_front : (done rest : List Leaf) → Ascend (done ++ rest) → Ascend done
ascend_front [] rest h = tt
ascend_front (d ∷ done) rest h = (above_front (place_rank d) done rest h.0, ascend_front done rest h.1)

pub below_front : (done : List Leaf) (x : Leaf) (rest : List Leaf) → Ascend (done ++ (x ∷ rest)) → AllBelow (place_rank x) done
below_front [] x rest h = tt
below_front (d ∷ done) x rest h = (above_at (place_rank d) done rest x h.0, below_front done x rest h.1)

pub narrow_front : (xs ys : List Leaf) → AllNarrow (xs ++ ys) → AllNarrow xs
narrow_front [] ys h = tt
narrow_front (x ∷ xs) ys h = (h.0, narrow_front xs ys h.1)

pub narrow_behind : (xs ys : List Leaf) → AllNarrow (xs ++ ys) → AllNarrow ys
narrow_behind [] ys h = h
narrow_behind (x ∷ xs) ys h = narrow_behind xs ys h.1

pub last_more : (last : Option Leaf) (done : List Leaf) (x : Leaf) → last_of last (done ++ (x ∷ [])) ≡ Some x
last_more last [] x = refl
last_more last (d ∷ done) x = last_more (Some d) done x

-- ---- a leaf that overlaps no neighbour overlaps none, or one that stands before it and is overlapped itself
pub step_apart : (x : Leaf) (done rest : List Leaf) → AllNarrow (done ++ (x ∷ rest)) → Ascend (done ++ (x ∷ rest)) → touches (last_of None done) x rest ≡ false → IsOverlapped (done ++ (x ∷ rest)) x → CrossedBefore x done
step_apart x done rest narrow up none over =
    let parts = or_parts (touches_last (last_of None done) x) (touches_next x rest) none in
    let nx = (narrow_behind done (x ∷ rest) narrow).0 in
    let back = ascend_behind done x rest up in
    let later = later_apart x rest nx (narrow_behind done (x ∷ rest) narrow).1 back.0 back.1 parts.1 in
    elim (overlapped_parts x done rest over) [
      | inl some ↦ earlier_before x done nx (narrow_front done (x ∷ rest) narrow) (below_front done x rest up) (ascend_front done (x ∷ rest) up) parts.0 some
      | inr some ↦ absurd (omega (arith, some, later))
    ]

-- and one that overlaps a neighbour is overlapped
pub step_touches : (x : Leaf) (done rest : List Leaf) → touches (last_of None done) x rest ≡ true → IsOverlapped (done ++ (x ∷ rest)) x
step_touches x done rest h = elim (or_cases (touches_last (last_of None done) x) (touches_next x rest) h) [
  | inl last ↦ overlapped_before x done rest (last_overlaps done last)
  | inr next ↦ overlapped_behind x done rest (next_overlaps rest next)
]
  where
    not_apart : (y : Leaf) → not (is_clear_of x y) ≡ true → is_clear_of x y ≡ false
    not_apart y h = not-true (is_clear_of x y) h

    next_overlaps : (rest : List Leaf) → touches_next x rest ≡ true → 0 < overlaps x rest
    next_overlaps [] h = absurd cc
    next_overlaps (n ∷ more) h = one_overlaps x n [] more (not_apart n h)

    last_overlaps : (done : List Leaf) → touches_last (last_of None done) x ≡ true → 0 < overlaps x done
    last_overlaps [] h = absurd cc
    last_overlaps (d ∷ done) h =
        let end = ends_in d done in
        let P : Option Leaf → Type 0 = λ o. touches_last o x ≡ true in
        let Q : List Leaf → Type 0 = λ zs. 0 < overlaps x zs in
        subst Q (sym end.2.is) (one_overlaps x end.0 end.2.front [] (not_apart end.0 (subst P end.1 h)))
