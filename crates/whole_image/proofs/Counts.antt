-- How many LEBs of a range nodes stand in.
use Rattle.std.proofs.Common.{◌≡◌, ◌⊎◌, ℕ, zero, suc, ◌+◌, ◌-◌, ◌%◌, ◌<◌, ◌≤◌, Bool, true, false, List, [], ◌∷◌, cond, get_or, inl, inr, length, refl, ap, ◌∙◌, subst, arith}
use Rattle.std.specs.Prelude.{All, ◌==◌, ◌||◌, count_by, filter, map}
use Rattle.std.specs.List.{list_any, range_with_len}
use Rattle.std.proofs.lemmas.Bool.{ne_eqb}
use Rattle.std.proofs.lemmas.List.Elements.{All-get_or, All-head, All-tail}
use Rattle.std.proofs.lemmas.List.Sums.{sum_by-cons}
use Rattle.ubifs_base.specs.declared.raw_geometry.RawGeometry.{RawGeometry}
use Rattle.media_sys.specs.declared.branch.Branch.{Branch}
use Rattle.index_media.specs.PlacedRow.{bytes_taken}
use Rattle.laid_main.specs.Filling.{TakesOfLebs}
use Rattle.laid_main.specs.Props.{AreBytesTaken}

-- ---- numbers of a range that pass a test
abbrev one_if : Bool → ℕ
one_if b = cond b 1 0

all_pass : (p : ℕ → Bool) (a n : ℕ) → ((k : ℕ) → a ≤ k → k < a + n → p k ≡ true) → count_by p (range_with_len a n) ≡ n
all_pass p a zero h = refl
all_pass p a (suc n) h =
    let whole = sum_by-cons (λ (k : ℕ). one_if (p k)) a (range_with_len (a + 1) n) in
    let first : one_if (p a) ≡ one_if true = ap one_if (h a (omega arith) (omega arith)) in
    let rest = all_pass p (a + 1) n (λ k low high. h k (omega (arith, low)) (omega (arith, high))) in
    omega (arith, whole, first, rest)

none_pass : (p : ℕ → Bool) (a n : ℕ) → ((k : ℕ) → a ≤ k → k < a + n → p k ≡ false) → count_by p (range_with_len a n) ≡ 0
none_pass p a zero h = refl
none_pass p a (suc n) h =
    let whole = sum_by-cons (λ (k : ℕ). one_if (p k)) a (range_with_len (a + 1) n) in
    let first : one_if (p a) ≡ one_if false = ap one_if (h a (omega arith) (omega arith)) in
    let rest = none_pass p (a + 1) n (λ k low high. h k (omega (arith, low)) (omega (arith, high))) in
    omega (arith, whole, first, rest)

split : (p : ℕ → Bool) (a m n : ℕ) → count_by p (range_with_len a (m + n)) ≡ count_by p (range_with_len a m) + count_by p (range_with_len (a + m) n)
split p a zero n =
    let e : zero + n ≡ n = omega arith in
    let z : a ≡ a + zero = omega arith in
    let x = ap (λ (k : ℕ). count_by p (range_with_len a k)) e in
    let y = ap (λ (k : ℕ). count_by p (range_with_len k n)) z in
    omega (arith, x, y)
split p a (suc m) n =
    let e : suc m + n ≡ suc (m + n) = omega arith in
    let z : a + 1 + m ≡ a + suc m = omega arith in
    let x = ap (λ (k : ℕ). count_by p (range_with_len a k)) e in
    let y = ap (λ (k : ℕ). count_by p (range_with_len k n)) z in
    let whole = sum_by-cons (λ (k : ℕ). one_if (p k)) a (range_with_len (a + 1) (m + n)) in
    let front = sum_by-cons (λ (k : ℕ). one_if (p k)) a (range_with_len (a + 1) m) in
    let more = split p (a + 1) m n in
    sums (count_by p (range_with_len a (suc m + n))) (count_by p (range_with_len a (suc (m + n)))) (one_if (p a)) (count_by p (range_with_len (a + 1) (m + n))) (count_by p (range_with_len a (suc m)))
    (count_by p (range_with_len (a + 1) m)) (count_by p (range_with_len (a + 1 + m) n)) (count_by p (range_with_len (a + suc m) n)) x whole front more y
  where
    sums : (all same one rest front part back there : ℕ) → all ≡ same → same ≡ one + rest → front ≡ one + part → rest ≡ part + back → back ≡ there → all ≡ front + there
    sums all same one rest front part back there a b c d e = omega (arith, a, b, c, d, e)

-- three stretches, one behind another
pub in_three : (p : ℕ → Bool) (a x y z all : ℕ) → all ≡ x + (y + z) → count_by p (range_with_len a all) ≡ count_by p (range_with_len a x) + (count_by p (range_with_len (a + x) y) + count_by p (range_with_len (a + x + y) z))
in_three p a x y z all e =
    ap (λ (n : ℕ). count_by p (range_with_len a n)) e
    ∙ split p a x (y + z)
    ∙ ap (λ (n : ℕ). count_by p (range_with_len a x) + n) (split p (a + x) y z)

-- those of the second stretch alone pass
pub second_passes : (p : ℕ → Bool) (a x y z all : ℕ) → all ≡ x + (y + z) → ((k : ℕ) → k < a + x → p k ≡ false) → ((k : ℕ) → a + x ≤ k → k < a + x + y → p k ≡ true) → ((k : ℕ) → a + x + y ≤ k → p k ≡ false)
    → count_by p (range_with_len a all) ≡ y
second_passes p a x y z all e before in_it behind =
    let three = in_three p a x y z all e in
    let front = none_pass p a x (λ k low high. before k high) in
    let own = all_pass p (a + x) y in_it in
    let back = none_pass p (a + x + y) z (λ k low high. behind k low) in
    omega (arith, three, front, own, back)

-- those of the third alone
pub third_passes : (p : ℕ → Bool) (a x y z all : ℕ) → all ≡ x + (y + z) → ((k : ℕ) → a ≤ k → k < a + x → p k ≡ false) → ((k : ℕ) → a + x ≤ k → k < a + x + y → p k ≡ false) → ((k : ℕ) → a + x + y ≤ k → p k ≡ true)
    → count_by p (range_with_len a all) ≡ z
third_passes p a x y z all e before in_it behind =
    let three = in_three p a x y z all e in
    let front = none_pass p a x before in
    let own = none_pass p (a + x) y in_it in
    let back = all_pass p (a + x + y) z (λ k low high. behind k low) in
    omega (arith, three, front, own, back)

-- ---- LEBs in which nodes stand
-- whether a branch leads to this LEB
abbrev pub stands : List Branch → ℕ → Bool
stands branches lnum = list_any (λ (n : ℕ). n == lnum) (map (λ (branch : Branch). branch.lnum) branches)

some_stand : (branches : List Branch) (lnum : ℕ) → 0 < bytes_taken (filter (λ (branch : Branch). branch.lnum == lnum) branches) → stands branches lnum ≡ true
some_stand [] lnum h = absurd (omega (arith, h))
some_stand (b ∷ bs) lnum h = by (b.lnum == lnum) h (some_stand bs lnum)
  where
    rest : List Branch
    rest = filter (λ (branch : Branch). branch.lnum == lnum) bs

    by : (t : Bool) → 0 < bytes_taken (cond t (b ∷ rest) rest) → (0 < bytes_taken rest → stands bs lnum ≡ true) → (t || stands bs lnum) ≡ true
    by true some more = refl
    by false some more = more some

none_stand : (low high lnum : ℕ) → (lnum < low) ⊎ (high ≤ lnum) → (branches : List Branch) → All (λ (branch : Branch). (low ≤ branch.lnum) × (branch.lnum < high)) branches → stands branches lnum ≡ false
none_stand low high lnum out [] within = refl
none_stand low high lnum out (b ∷ bs) within =
    let P : Branch → Type 0 = λ branch. (low ≤ branch.lnum) × (branch.lnum < high) in
    let here = All-head P b bs within in
    let from = here.0 in
    let to = here.1 in
    let other : (b.lnum == lnum) ≡ false = ne_eqb b.lnum lnum (λ e. elim out [ inl before ↦ omega (arith, e, from, before) | inr behind ↦ omega (arith, e, to, behind) ]) in
    ap (λ (t : Bool). t || stands bs lnum) other ∙ none_stand low high lnum out bs (All-tail P b bs within)

pub stand_there : (geo : RawGeometry) (first : ℕ) (used : List ℕ) (branches : List Branch) → TakesOfLebs first used branches → AreBytesTaken geo used → (lnum : ℕ) → first ≤ lnum → lnum < first + length used → stands branches lnum ≡ true
stand_there geo first used branches takes taken lnum low high =
    let lt : lnum - first < length used = omega (arith, low, high) in
    let own = All-get_or (λ (bytes : ℕ). (0 < bytes) × (bytes % 8 ≡ 0) × (bytes ≤ geo.leb_size)) used (lnum - first) 0 lt taken in
    let more = own.0 in
    let at : first + (lnum - first) ≡ lnum = omega (arith, low) in
    let Q : ℕ → Type 0 = λ n. bytes_taken (filter (λ (branch : Branch). branch.lnum == n) branches) ≡ get_or used (lnum - first) 0 in
    let here = subst Q at (takes.bytes (lnum - first) lt) in
    some_stand branches lnum (omega (arith, here, more))

pub stand_not : (first : ℕ) (used : List ℕ) (branches : List Branch) → TakesOfLebs first used branches → (lnum : ℕ) → (lnum < first) ⊎ (first + length used ≤ lnum) → stands branches lnum ≡ false
stand_not first used branches takes lnum out = none_stand first (first + length used) lnum out branches takes.within
