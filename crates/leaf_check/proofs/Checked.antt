-- What the check of leaves answers, from the leaves that are wrong and those that are missing.
use Rattle.std.proofs.Common.{◌≡◌, ◌⊎◌, ℕ, zero, suc, ◌+◌, ◌<◌, ◌≤◌, Bool, true, false, cond, List, [], ◌∷◌, ◌++◌, length, map, take, drop, refl, ap, sym, ◌∙◌, subst, inl, inr, arith, Option, Some, None, IfNone, IfSome, IfOk, Result, Ok, Err, get_or}
use Rattle.std.specs.Prelude.{All, IsTrue}
use Rattle.std.specs.List.{AllByRecursion, Contains, list_all, sum_by}
use Rattle.std.specs.List.Sorted.{IsNonDecreasingBy, IsPermutation}
use Rattle.std.proofs.lemmas.Bool.{and_cases, and_from, and_left, and_right, cases_Bool, cases_lt}
use Rattle.std.proofs.lemmas.List.Elements.{All-from_recursion}
use Rattle.std.proofs.lemmas.List.Sorted.{Contains-permutation, IsPermutation-sym, sum_by-IsPermutation}
use Rattle.std.proofs.lemmas.List.Sums.{sum_by-cons}
use Rattle.ubifs_base.specs.declared.raw_geometry.RawGeometry.{RawGeometry}
use Rattle.ubifs_base.specs.NodeType.{type_number}
use Rattle.media_leaf.specs.LeafNode.{IsLeafNode}
use Rattle.media_lpt.specs.declared.lprop.Lprop.{Lprop}
use Rattle.media_sys.specs.declared.branch.Branch.{Branch}
use Rattle.index_tree.specs.declared.leaf.Leaf.{Leaf}
use Rattle.index_media.specs.PlacedRow.{are_disjoint, branch_to, is_apart, stretch_of}
use Rattle.sound_image.specs.LeafBreaches.{HasLeafNodeOf, IsLeafMisfit, IsWrongAmong, IsWrongOfLeaves, key_type}
use Rattle.sound_image.specs.Frames.{IsKnownAt, NeedsFeature}
use Rattle.sound_image.specs.Leaves.{IsSoundLeaf}
use Rattle.sound_image.specs.Wrong.{IsFirstWrong, IsOneOf, Misfit, Wrong, comes_before, differs, type_byte}
use Rattle.sound_image.specs.WrongLaws.{one_of_none, back_of_two, front_of_two, one_of_two}
use Rattle.sound_image.specs.declared.breach.Breach.{Breach}
use Rattle.sound_image.specs.declared.rule.Rule.TheVariants as rules
use Rattle.image_check.specs.Told.{IsBreachOf}
use Rattle.image_check.specs.FirstLaws.{not_before_place}
use Rattle.leaf_check.specs.Overlaps.{IsOverlapped, StandsBefore, is_clear_of, overlaps, place_rank}
use Rattle.leaf_check.specs.Standings.{IsFirstPlaced, IsPlacedWrong}
use Rattle.leaf_check.specs.Sweep.{IsBadAmong, IsRightAmong, IsSwept, IsUpTo}
use Rattle.leaf_check.proofs.Firsts.{some_breach}
use Rattle.leaf_check.proofs.Overlaps.{AllAbove, Ascend, overlaps-append, some_crossed}

-- ---- one of a list, by its place in it
contains_at : (x : Leaf) (before behind : List Leaf) → get_or (before ++ (x ∷ behind)) (length before) x ≡ x
contains_at x [] behind = refl
contains_at x (y ∷ before) behind = contains_at x before behind

contains_of : (x : Leaf) (xs : List Leaf) → IsOneOf x xs → Contains xs x
contains_of x xs (before, behind, e) =
    let P : List Leaf → Type 0 = λ zs. Contains zs x in
    subst P (sym e) (length before, far before, contains_at x before behind)
  where
    far : (before : List Leaf) → length before < length (before ++ (x ∷ behind))
    far [] = omega arith
    far (y ∷ before) = let more = far before in omega (arith, more)

one_at : (x : Leaf) (xs : List Leaf) (k : ℕ) → k < length xs → get_or xs k x ≡ x → IsOneOf x xs
one_at x [] k h e = absurd (omega (arith, h))
one_at x (y ∷ xs) zero h e = ([], xs, ap (λ (z : Leaf). z ∷ xs) e)
one_at x (y ∷ xs) (suc k) h e = let more = one_at x xs k (omega (arith, h)) e in (y ∷ more.0, more.1, ap (λ (zs : List Leaf). y ∷ zs) more.2)

one_of : (x : Leaf) (xs : List Leaf) → Contains xs x → IsOneOf x xs
one_of x xs h = one_at x xs h.0 h.1 h.2

one_moved : (x : Leaf) (xs ys : List Leaf) → IsPermutation xs ys → IsOneOf x xs → IsOneOf x ys
one_moved x xs ys p h = one_of x ys (Contains-permutation xs ys x p (contains_of x xs h))

-- ---- leaves in another order
as_sum : (x : Leaf) (ys : List Leaf) → overlaps x ys ≡ sum_by (λ (other : Leaf). cond (is_clear_of x other) 0 1) ys
as_sum x [] = refl
as_sum x (y ∷ ys) = ap (λ (n : ℕ). cond (is_clear_of x y) 0 1 + n) (as_sum x ys) ∙ sym (sum_by-cons (λ (other : Leaf). cond (is_clear_of x other) 0 1) y ys)

same_overlaps : (x : Leaf) (xs ys : List Leaf) → IsPermutation xs ys → overlaps x ys ≡ overlaps x xs
same_overlaps x xs ys p = as_sum x ys ∙ sum_by-IsPermutation (λ (other : Leaf). cond (is_clear_of x other) 0 1) xs ys p ∙ sym (as_sum x xs)

over_to : (x : Leaf) (xs ys : List Leaf) → IsPermutation xs ys → IsOverlapped ys x → IsOverlapped xs x
over_to x xs ys p h = let e = same_overlaps x xs ys p in omega (arith, h, e)

over_from : (x : Leaf) (xs ys : List Leaf) → IsPermutation xs ys → IsOverlapped xs x → IsOverlapped ys x
over_from x xs ys p h = let e = same_overlaps x xs ys p in omega (arith, h, e)

all_then : (P Q : Leaf → Type 0) (xs : List Leaf) → ((x : Leaf) → P x → Q x) → AllByRecursion P xs → AllByRecursion Q xs
all_then P Q [] f h = tt
all_then P Q (x ∷ xs) f h = (f x h.0, all_then P Q xs f h.1)

pub swept_moved : (IsSound : Leaf → Type 0) (leaves ordered wrong : List Leaf) → IsPermutation leaves ordered → IsSwept IsSound ordered wrong → IsSwept IsSound leaves wrong
swept_moved IsSound leaves ordered wrong p h = record {
  are = all_then (λ x. IsOneOf x ordered × IsBadAmong IsSound ordered x) (λ x. IsOneOf x leaves × IsBadAmong IsSound leaves x) wrong (λ x k. (one_moved x ordered leaves (IsPermutation-sym leaves ordered p) k.0, elim k.1 [ inl unsound ↦ inl unsound | inr over ↦ inr (over_to x leaves ordered p over) ])) h.are;
  rest = λ x one. elim (h.rest x (one_moved x leaves ordered p one)) [
    | inl right ↦ inl (right.0, λ over. right.1 (over_from x leaves ordered p over))
    | inr up ↦ inr up
  ];
}

-- in order by their numbers, each is as far as those before it
pub ascend_of : (xs : List Leaf) → IsNonDecreasingBy place_rank xs → Ascend xs
ascend_of [] h = tt
ascend_of (x ∷ xs) h = (above xs (λ k d l. h 0 (suc k) d (omega arith) (omega (arith, l))), ascend_of xs (λ i j d l m. h (suc i) (suc j) d (omega (arith, l)) (omega (arith, m))))
  where
    above : (ys : List Leaf) → ((k : ℕ) (d : Leaf) → k < length ys → place_rank x ≤ place_rank (get_or ys k d)) → AllAbove (place_rank x) ys
    above [] f = tt
    above (y ∷ ys) f = (f 0 y (omega arith), above ys (λ k d l. f (suc k) d (omega (arith, l))))

-- ---- nothing is wrong
right_all : (IsSound : Leaf → Type 0) (leaves wrong : List Leaf) → wrong ≡ [] → IsSwept IsSound leaves wrong → (x : Leaf) → IsOneOf x leaves → IsRightAmong IsSound leaves x
right_all IsSound leaves wrong none h x one =
    let N : List Leaf → Type 0 = λ zs. IsUpTo zs x in
    elim (h.rest x one) [
      | inl right ↦ right
      | inr up ↦ elim (subst N none up) [ inl here ↦ absurd (one_of_none x here) | inr other ↦ absurd (one_of_none other.0 other.1) ]
    ]

all_of : (P : Leaf → Type 0) (xs : List Leaf) → ((x : Leaf) → IsOneOf x xs → P x) → AllByRecursion P xs
all_of P [] f = tt
all_of P (x ∷ xs) f = (f x ([], xs, refl), all_of P xs (λ y one. f y (x ∷ one.0, one.1, ap (λ (zs : List Leaf). x ∷ zs) one.2)))

apart_all : (x : Leaf) (xs : List Leaf) → overlaps x xs ≡ 0 → list_all (λ (other : Branch). is_apart (stretch_of (branch_to x)) other) (map branch_to xs) ≡ true
apart_all x [] h = refl
apart_all x (y ∷ xs) h = elim (cases_Bool (is_clear_of x y)) [
  | inl apart ↦
      let own = cond_true (is_clear_of x y) apart in
      and_from (is_clear_of x y) (list_all (λ (other : Branch). is_apart (stretch_of (branch_to x)) other) (map branch_to xs)) apart (apart_all x xs (omega (arith, h, own)))
  | inr over ↦ let own = cond_false (is_clear_of x y) over in absurd (omega (arith, h, own))
]
  where
    cond_true : (b : Bool) → b ≡ true → ◌≡◌ {A = ℕ} (cond b 0 1) 0
    cond_true true h = refl
    cond_true false h = absurd cc

    cond_false : (b : Bool) → b ≡ false → ◌≡◌ {A = ℕ} (cond b 0 1) 1
    cond_false false h = refl
    cond_false true h = absurd cc

disjoint_of : (xs : List Leaf) → ((x : Leaf) → IsOneOf x xs → overlaps x xs ≤ cond (is_clear_of x x) 0 1) → are_disjoint (map branch_to xs) ≡ true
disjoint_of [] f = refl
disjoint_of (x ∷ xs) f =
    and_from (list_all (λ (other : Branch). is_apart (stretch_of (branch_to x)) other) (map branch_to xs)) (are_disjoint (map branch_to xs))
    (apart_all x xs (let own = f x ([], xs, refl) in omega (arith, own)))
    (disjoint_of xs (λ y one. let more = f y (x ∷ one.0, one.1, ap (λ (zs : List Leaf). x ∷ zs) one.2) in omega (arith, more)))

both_empty : (xs ys : List Leaf) → xs ++ ys ≡ [] → (xs ≡ []) × (ys ≡ [])
both_empty [] ys e = (refl, e)
both_empty (x ∷ xs) ys e = absurd cc

-- then the rule holds
pub all_met : (IsSound : Leaf → Type 0) (leaves wrong missing all : List Leaf) → all ≡ wrong ++ missing → all ≡ [] → IsSwept IsSound leaves wrong → All IsSound leaves × (missing ≡ []) × IsTrue (are_disjoint (map branch_to leaves))
all_met IsSound leaves wrong missing all joined none h =
    let both = both_empty wrong missing (sym joined ∙ none) in
    let right = right_all IsSound leaves wrong both.0 h in (
      All-from_recursion IsSound leaves (all_of IsSound leaves (λ x one. (right x one).0)),
      both.1,
      disjoint_of leaves (λ x one. elim (cases_lt (cond (is_clear_of x x) 0 1) (overlaps x leaves)) [ inl over ↦ absurd ((right x one).1 over) | inr not ↦ not ]),
    )

-- ---- something is wrong
-- a leaf that overlaps one of others isn't apart from all
not_all : (x : Leaf) (xs : List Leaf) → 0 < overlaps x xs → list_all (is_clear_of x) xs ≡ false
not_all x xs h = let c = some_crossed x xs h in (let P : List Leaf → Type 0 = λ zs. list_all (is_clear_of x) zs ≡ false in subst P (sym c.is) (off c.before c.behind c.y c.over))
  where
    off : (before behind : List Leaf) (y : Leaf) → is_clear_of x y ≡ false → list_all (is_clear_of x) (before ++ (y ∷ behind)) ≡ false
    off [] behind y over = and_left (is_clear_of x y) (list_all (is_clear_of x) behind) over
    off (z ∷ before) behind y over = and_right (is_clear_of x z) (list_all (is_clear_of x) (before ++ (y ∷ behind))) (off before behind y over)

some_over : (x : Leaf) (xs : List Leaf) → list_all (is_clear_of x) xs ≡ false → 0 < overlaps x xs
some_over x [] h = absurd cc
some_over x (y ∷ xs) h = elim (and_cases (is_clear_of x y) (list_all (is_clear_of x) xs) h) [
  | inl over ↦ let own = cond_off (is_clear_of x y) over in omega (arith, own)
  | inr more ↦ let rest = some_over x xs more in omega (arith, rest)
]
  where
    cond_off : (b : Bool) → b ≡ false → ◌≡◌ {A = ℕ} (cond b 0 1) 1
    cond_off false h = refl
    cond_off true h = absurd cc

parts_of : (x z : Leaf) (before behind : List Leaf) → overlaps x (before ++ (z ∷ behind)) ≡ overlaps x (before ++ behind) + cond (is_clear_of x z) 0 1
parts_of x z before behind =
    let a = overlaps-append x before (z ∷ behind) in
    let b = overlaps-append x before behind in
    omega (arith, a, b)

bad_among : (contents : ℕ → List ℕ) (geo : RawGeometry) (props : List Lprop) (x : Leaf) (before behind leaves : List Leaf) → leaves ≡ before ++ (x ∷ behind) → IsBadAmong (IsSoundLeaf contents geo props) leaves x → IsWrongAmong contents geo props x (before ++ behind)
bad_among contents geo props x before behind leaves e (inl unsound) = inl unsound
bad_among contents geo props x before behind leaves e (inr over) =
    let P : List Leaf → Type 0 = λ zs. IsOverlapped zs x in
    let own : IsOverlapped (before ++ (x ∷ behind)) x = subst P e over in
    let parts = parts_of x x before behind in
    inr (not_all x (before ++ behind) (omega (arith, own, parts)))

-- who is right isn't wrong
right_among : (contents : ℕ → List ℕ) (geo : RawGeometry) (props : List Lprop) (x : Leaf) (before behind leaves : List Leaf) → leaves ≡ before ++ (x ∷ behind) → IsRightAmong (IsSoundLeaf contents geo props) leaves x → IsWrongAmong contents geo props x (before ++ behind) → ⊥
right_among contents geo props x before behind leaves e right (inl unsound) = unsound right.0
right_among contents geo props x before behind leaves e right (inr over) =
    let P : List Leaf → Type 0 = λ zs. IsOverlapped zs x in
    let some = some_over x (before ++ behind) over in
    let parts = parts_of x x before behind in
    right.1 (subst P (sym e) (omega (arith, some, parts)))

all_at : (P : Leaf → Type 0) (before behind : List Leaf) (x : Leaf) → AllByRecursion P (before ++ (x ∷ behind)) → P x
all_at P [] behind x h = h.0
all_at P (y ∷ before) behind x h = all_at P before behind x h.1

module _ (contents : ℕ → List ℕ) (geo : RawGeometry) (props : List Lprop) (missing leaves wrong : List Leaf) (swept : IsSwept (IsSoundLeaf contents geo props) leaves wrong) where
  -- what is told of them is wrong
  is_wrong : (at : Wrong) → IsPlacedWrong contents (wrong ++ missing) at → IsWrongOfLeaves contents geo props missing leaves at
  is_wrong at p = elim (one_of_two p.one wrong missing p.is_one) [
    | inl (before, behind, e) ↦
        let Q : List Leaf → Type 0 = λ zs. AllByRecursion (λ leaf. IsOneOf leaf leaves × IsBadAmong (IsSoundLeaf contents geo props) leaves leaf) zs in
        let own = all_at (λ leaf. IsOneOf leaf leaves × IsBadAmong (IsSoundLeaf contents geo props) leaves leaf) before behind p.one (subst Q e swept.are) in
        record { leaf = p.one; lnum = p.lnum; offs = p.offs; wrong = inr (own.0.0, own.0.1, own.0.2, bad_among contents geo props p.one own.0.0 own.0.1 leaves own.0.2 own.1); misfit = p.misfit }
    | inr gone ↦ record { leaf = p.one; lnum = p.lnum; offs = p.offs; wrong = inl gone; misfit = p.misfit }
  ]

  placed : (at : Wrong) (w : IsWrongOfLeaves contents geo props missing leaves at) → IsOneOf w.leaf (wrong ++ missing) → IsPlacedWrong contents (wrong ++ missing) at
  placed at w one = record { one = w.leaf; is_one = one; lnum = w.lnum; offs = w.offs; misfit = w.misfit }

  far_before : (other at : Wrong) (z y : Leaf) → other.lnum ≡ y.lnum → other.offs ≡ y.offs → StandsBefore z y → ((z.lnum < at.lnum) ⊎ ((z.lnum ≡ at.lnum) × (z.offs < at.offs)) → ⊥) → comes_before other at ≡ false
  far_before other at z y l o stands low = elim (cases_lt z.lnum at.lnum) [
    | inl less ↦ absurd (low (inl less))
    | inr high ↦ elim stands [
      | inl less ↦ not_before_place other at (omega (arith, l, less, high)) (λ e. absurd (omega (arith, e, l, less, high))) (λ e f. absurd (omega (arith, e, l, less, high)))
      | inr (same, less) ↦ elim (cases_lt at.lnum z.lnum) [
        | inl more ↦ not_before_place other at (omega (arith, l, same, more)) (λ e. absurd (omega (arith, e, l, same, more))) (λ e f. absurd (omega (arith, e, l, same, more)))
        | inr under ↦ elim (cases_lt z.offs at.offs) [
          | inl before ↦ absurd (low (inr (omega (arith, high, under), before)))
          | inr behind ↦ not_before_place other at (omega (arith, l, same, high)) (λ e. omega (arith, o, less, behind)) (λ e f. absurd (omega (arith, f, o, less, behind)))
        ]
      ]
    ]
  ]

  pub first_wrong : (at : Wrong) → IsFirstPlaced contents (wrong ++ missing) at → IsFirstWrong (IsWrongOfLeaves contents geo props missing leaves) at
  first_wrong at h = record {
    wrong = is_wrong at h.first.wrong;
    least = λ other w. elim w.wrong [
      | inl gone ↦ h.first.least other (placed other w (back_of_two w.leaf wrong missing gone))
      | inr (before, behind, e, among) ↦ elim (swept.rest w.leaf (before, behind, e)) [
        | inl right ↦ absurd (right_among contents geo props w.leaf before behind leaves e right among)
        | inr (inl told) ↦ h.first.least other (placed other w (front_of_two w.leaf wrong missing told))
        | inr (inr (z, told, stands)) ↦ far_before other at z w.leaf w.lnum w.offs stands (h.low z (front_of_two z wrong missing told))
      ]
    ];
  }

-- along what calls answer
pub ok_then : {T E : Type 0} (r : Result T E) (P Q : T → Type 0) → ((x : T) → P x → Q x) → IfOk r P → IfOk r Q
ok_then (Ok x) P Q f h = f x h
ok_then (Err fault) P Q f h = tt

pub swept_seen : (IsSound : Leaf → Type 0) (leaves ordered seen wrong : List Leaf) → seen ≡ ordered → IsPermutation leaves ordered → IsSwept IsSound seen wrong → IsSwept IsSound leaves wrong
swept_seen IsSound leaves ordered seen wrong e p h = let P : List Leaf → Type 0 = λ xs. IsSwept IsSound xs wrong in swept_moved IsSound leaves ordered wrong p (subst P e h)

pub none_met : (IsSound : Leaf → Type 0) (leaves wrong missing all seen : List Leaf) (o : Option Breach) → seen ≡ all → all ≡ wrong ++ missing → IsSwept IsSound leaves wrong → IfNone o (seen ≡ []) → IfNone o (All IsSound leaves × (missing ≡ []) × IsTrue (are_disjoint (map branch_to leaves)))
none_met IsSound leaves wrong missing all seen (Some breach) e joined h k = tt
none_met IsSound leaves wrong missing all seen None e joined h k = all_met IsSound leaves wrong missing all joined (sym e ∙ k) h

-- ---- contents that are the same
node_moved : (c d : ℕ → List ℕ) (x : Leaf) (len : ℕ) → c x.lnum ≡ d x.lnum → HasLeafNodeOf c x len → HasLeafNodeOf d x len
node_moved c d x len e h =
    let P : List ℕ → Type 0 = λ leb. x.offs + len ≤ length leb in
    let Q : List ℕ → Type 0 = λ leb. IsLeafNode (take len (drop x.offs leb)) h.sqnum h.group h.node in
    record { sqnum = h.sqnum; group = h.group; node = h.node; room = subst P e h.room; is = subst Q e h.is; type = h.type }

needs_same : (c d : ℕ → List ℕ) (x : Leaf) (m : Misfit) → c x.lnum ≡ d x.lnum → IsLeafMisfit c x m → IsLeafMisfit d x m
needs_same c d x m e (inl (what, need, value)) = inl (what, (let P : List ℕ → Type 0 = λ leb. NeedsFeature leb x.offs what in subst P e need), value)
needs_same c d x m e (inr (known, inl (absent, value))) = inr (
  (let P : List ℕ → Type 0 = λ leb. IsKnownAt leb x.offs in subst P e known),
  inl ((λ len h. absent len (node_moved d c x len (sym e) h)), value ∙ ap (λ (leb : List ℕ). differs (type_number (key_type x.key)) (type_byte leb x.offs)) e),
)
needs_same c d x m e (inr (known, inr (len, there, value))) = inr ((let P : List ℕ → Type 0 = λ leb. IsKnownAt leb x.offs in subst P e known), inr (len, node_moved c d x len e there, value))

placed_same : (c d : ℕ → List ℕ) (leaves : List Leaf) (at : Wrong) → ((k : ℕ) → c k ≡ d k) → IsPlacedWrong c leaves at → IsPlacedWrong d leaves at
placed_same c d leaves at e h = record { one = h.one; is_one = h.is_one; lnum = h.lnum; offs = h.offs; misfit = needs_same c d h.one at.misfit (e h.one.lnum) h.misfit }

first_same : (c d : ℕ → List ℕ) (leaves : List Leaf) (at : Wrong) → ((k : ℕ) → c k ≡ d k) → IsFirstPlaced c leaves at → IsFirstPlaced d leaves at
first_same c d leaves at e h = record {
  first = record { wrong = placed_same c d leaves at e h.first.wrong; least = λ other w. h.first.least other (placed_same d c leaves other (λ k. sym (e k)) w) };
  low = h.low;
}

pub some_broken : (contents now : ℕ → List ℕ) (geo : RawGeometry) (props : List Lprop) (missing leaves wrong all seen : List Leaf) (o : Option Breach) → ((k : ℕ) → now k ≡ contents k) → seen ≡ all → all ≡ wrong ++ missing → IsSwept (IsSoundLeaf contents geo props) leaves wrong
    → IfSome o (IsBreachOf rules.Leaves (IsFirstPlaced now seen)) → IfSome o (IsBreachOf rules.Leaves (IsFirstWrong (IsWrongOfLeaves contents geo props missing leaves)))
some_broken contents now geo props missing leaves wrong all seen o same e joined h k =
    let P : List Leaf → Type 0 = λ xs. IfSome o (IsBreachOf rules.Leaves (IsFirstPlaced now xs)) in
    some_breach (IsFirstPlaced now (wrong ++ missing)) (IsFirstWrong (IsWrongOfLeaves contents geo props missing leaves)) o (λ at first. first_wrong contents geo props missing leaves wrong h at (first_same now contents (wrong ++ missing) at same first)) (subst P (e ∙ joined) k)
