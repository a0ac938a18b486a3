-- What nodes take of LEBs, added one by one.
use Rattle.std.proofs.Common.{◌≡◌, ℕ, zero, suc, ◌+◌, ◌<◌, List, [], ◌∷◌, ◌++◌, length, set, take, get_or, refl, ap, sym, subst, ◌∙◌, inl, inr, arith}
use Rattle.std.specs.Prelude.{◌==◌, ◌≢◌, filter, map, if◌then◌else◌, sum_by, IsPermutation}
use Rattle.std.proofs.Math.Nat.{zero-add}
use Rattle.std.proofs.lemmas.Bool.{cases_eq, eq-eqb, ne_eqb}
use Rattle.std.proofs.lemmas.List.{get_or-set_same, get_or-set_other, length-set}
use Rattle.std.proofs.lemmas.List.Sorted.{sum_by-IsPermutation}
use Rattle.std.proofs.lemmas.List.Sums.{sum_by-cons}
use Rattle.media_sys.specs.declared.branch.Branch.{Branch}
use Rattle.index_tree.specs.declared.leaf.Leaf.{Leaf}
use Rattle.index_media.specs.PlacedRow.{branch_to, bytes_taken, node_end}
use Rattle.space_check.specs.Sums.{AreAdded, node_bytes_in}

-- ---- what nodes take of a LEB
-- what one node takes
abbrev pub own_bytes : ℕ → Branch → ℕ
own_bytes lnum branch = if branch.lnum == lnum then node_end branch.len else 0

own_here : (lnum : ℕ) (branch : Branch) → branch.lnum ≡ lnum → own_bytes lnum branch ≡ node_end branch.len
own_here lnum branch same = let e = eq-eqb branch.lnum lnum same in ap (λ b. if b then node_end branch.len else 0) e

own_elsewhere : (lnum : ℕ) (branch : Branch) → branch.lnum ≢ lnum → own_bytes lnum branch ≡ 0
own_elsewhere lnum branch other = let e = ne_eqb branch.lnum lnum other in ap (λ b. if b then node_end branch.len else 0) e

pub bytes_cons : (lnum : ℕ) (branch : Branch) (rest : List Branch) → node_bytes_in lnum (branch ∷ rest) ≡ own_bytes lnum branch + node_bytes_in lnum rest
bytes_cons lnum branch rest = elim (cases_eq branch.lnum lnum) [
  | inl same ↦
      let e = eq-eqb branch.lnum lnum same in
      ap (λ b. bytes_taken (if b then branch ∷ filter (λ (x : Branch). x.lnum == lnum) rest else filter (λ (x : Branch). x.lnum == lnum) rest)) e ∙ ap (λ n. n + node_bytes_in lnum rest) (sym (own_here lnum branch same))
  | inr other ↦
      let e = ne_eqb branch.lnum lnum other in
      ap (λ b. bytes_taken (if b then branch ∷ filter (λ (x : Branch). x.lnum == lnum) rest else filter (λ (x : Branch). x.lnum == lnum) rest)) e ∙ sym (zero-add (node_bytes_in lnum rest)) ∙ ap (λ n. n + node_bytes_in lnum rest) (sym (own_elsewhere lnum branch other))
]

pub bytes_of_one : (lnum : ℕ) (branch : Branch) → node_bytes_in lnum (branch ∷ []) ≡ own_bytes lnum branch
bytes_of_one lnum branch = let e = bytes_cons lnum branch [] in omega (arith, e)

-- of nodes one behind another
pub bytes_append : (lnum : ℕ) (xs ys : List Branch) → node_bytes_in lnum (xs ++ ys) ≡ node_bytes_in lnum xs + node_bytes_in lnum ys
bytes_append lnum [] ys = sym (zero-add (node_bytes_in lnum ys))
bytes_append lnum (x ∷ xs) ys =
    let more = bytes_append lnum xs ys in
    let all = bytes_cons lnum x (xs ++ ys) in
    let front = bytes_cons lnum x xs in
    omega (arith, more, all, front)

-- it is a sum over nodes, so their order says nothing
bytes_sum : (lnum : ℕ) (xs : List Branch) → node_bytes_in lnum xs ≡ sum_by (own_bytes lnum) xs
bytes_sum lnum [] = refl
bytes_sum lnum (x ∷ xs) =
    let more = bytes_sum lnum xs in
    let all = bytes_cons lnum x xs in
    let sum = sum_by-cons (own_bytes lnum) x xs in
    omega (arith, more, all, sum)

pub bytes_permuted : (lnum : ℕ) (xs ys : List Branch) → IsPermutation xs ys → node_bytes_in lnum ys ≡ node_bytes_in lnum xs
bytes_permuted lnum xs ys h = bytes_sum lnum ys ∙ sum_by-IsPermutation (own_bytes lnum) xs ys h ∙ sym (bytes_sum lnum xs)

-- ---- one node more
-- nothing is added for a node outside the main LEBs
pub added_none : (first : ℕ) (sums : List ℕ) (branch : Branch) → ((at : ℕ) → at < length sums → branch.lnum ≢ first + at) → AreAdded first sums sums (branch ∷ [])
added_none first sums branch other = record {
  len = refl;
  more = λ at less. let e = bytes_of_one (first + at) branch ∙ own_elsewhere (first + at) branch (other at less) in omega (arith, e);
}

pub added_one : (first at sum : ℕ) (sums : List ℕ) (branch : Branch) → branch.lnum ≡ first + at → at < length sums → sum ≡ get_or sums at 0 + node_end branch.len → AreAdded first sums (set sums at sum) (branch ∷ [])
added_one first at sum sums branch here inside is = record {
  len = length-set sums at sum;
  more = λ k less. elim (cases_eq k at) [
    | inl same ↦
        let P : ℕ → Type 0 = λ n. get_or (set sums at sum) n 0 ≡ get_or sums n 0 + node_bytes_in (first + n) (branch ∷ []) in
        let e = get_or-set_same sums at sum 0 inside in
        let own = bytes_of_one (first + at) branch ∙ own_here (first + at) branch here in
        subst P (sym same) (omega (arith, e, own, is))
    | inr other ↦
        let e = get_or-set_other sums at k sum 0 other in
        let own = bytes_of_one (first + k) branch ∙ own_elsewhere (first + k) branch (λ s. other (omega (arith, s, here))) in
        omega (arith, e, own)
  ];
}

-- ---- node by node
-- what is left would make of the sums so far those of all
pub record AddedSoFar (first : ℕ) (old now : List ℕ) (left all : List Branch) : Type 0 where
  pub len : length now ≡ length old
  pub sums : (at : ℕ) → at < length old → get_or now at 0 + node_bytes_in (first + at) left ≡ get_or old at 0 + node_bytes_in (first + at) all

pub added_start : (first : ℕ) (sums : List ℕ) (all : List Branch) → AddedSoFar first sums sums all all
added_start first sums all = record { len = refl; sums = λ at less. refl }

pub added_next : (first : ℕ) (old now new : List ℕ) (branch : Branch) (rest left all : List Branch) → left ≡ branch ∷ rest → AddedSoFar first old now left all → AreAdded first now new (branch ∷ []) → AddedSoFar first old new rest all
added_next first old now new branch rest left all parts before one = record {
  len = one.len ∙ before.len;
  sums = λ at less.
      let len = before.len in
      let whole = before.sums at less in
      let step = one.more at (omega (arith, len, less)) in
      let cons = ap (node_bytes_in (first + at)) parts ∙ bytes_cons (first + at) branch rest in
      let own = bytes_of_one (first + at) branch in
      omega (arith, whole, step, cons, own);
}

pub added_end : (first : ℕ) (old now : List ℕ) (left all : List Branch) → left ≡ [] → AddedSoFar first old now left all → AreAdded first old now all
added_end first old now left all done before = record {
  len = before.len;
  more = λ at less.
      let whole = before.sums at less in
      let empty : node_bytes_in (first + at) left ≡ 0 = ap (node_bytes_in (first + at)) done in
      omega (arith, whole, empty);
}

pub none : {X : Type 0} (xs : List X) → length xs ≡ 0 → xs ≡ []
none [] h = refl
none (x ∷ xs) h = absurd (omega (arith, h))

pub leaves_parts : (left : List Leaf) (leaf : Leaf) (rest : List Leaf) → left ≡ leaf ∷ rest → map branch_to left ≡ branch_to leaf ∷ map branch_to rest
leaves_parts left leaf rest e = ap (map branch_to) e

-- what was put in place of all elements of a vector
pub take_front : (xs more : List ℕ) (n : ℕ) → length xs ≡ n → take n (xs ++ more) ≡ xs
take_front [] more zero h = refl
take_front [] more (suc n) h = absurd (omega (arith, h))
take_front (x ∷ xs) more zero h = absurd (omega (arith, h))
take_front (x ∷ xs) more (suc n) h = ap (λ (ys : List ℕ). x ∷ ys) (take_front xs more n (omega (arith, h)))
