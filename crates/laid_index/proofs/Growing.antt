-- Rows, taken apart and put under parents.
use Rattle.std.proofs.Common.{◌≡◌, ℕ, suc, zero, ◌+◌, ◌-◌, ◌<◌, ◌≤◌, List, [], ◌∷◌, ◌++◌, length, take, drop, refl, ap, sym, ◌∙◌, subst, arith, append_assoc, length-append}
use Rattle.std.specs.Prelude.{map}
use Rattle.std.specs.List.{AllByRecursion}
use Rattle.std.proofs.lemmas.List.{length-take, take-take}
use Rattle.media_sys.specs.declared.branch.Branch.{Branch}
use Rattle.index_tree.specs.Shape.{contents as leaves_in}
use Rattle.index_tree.specs.declared.leaf.Leaf.{Leaf}
use Rattle.index_media.specs.PlacedRow.{PlacedRow, ended, leaf_at, node_at, all_nodes, branches_of, bytes_taken, plain}
use Rattle.index_media.specs.Stored.{IsIndexNodeAt}
use Rattle.laid_index.specs.Rows.{AreOver, HasFirstKey, IsGrown, StandOver, parents, row_back, row_front}
use Rattle.laid_index.proofs.Takes.{in_leb, in_leb_append}

pub branches_front : (n : ℕ) (row : PlacedRow) → branches_of (row_front n row) ≡ take n (branches_of row)
branches_front zero ended = refl
branches_front (suc n) ended = refl
branches_front zero (leaf_at x rest) = refl
branches_front (suc n) (leaf_at x rest) = ap (λ (l : List Branch). record { lnum = x.lnum; offs = x.offs; len = x.len; key = x.key } ∷ l) (branches_front n rest)
branches_front zero (node_at b c rest) = refl
branches_front (suc n) (node_at b c rest) = ap (λ (l : List Branch). b ∷ l) (branches_front n rest)

pub branches_back : (n : ℕ) (row : PlacedRow) → branches_of (row_back n row) ≡ drop n (branches_of row)
branches_back zero ended = refl
branches_back (suc n) ended = refl
branches_back zero (leaf_at x rest) = refl
branches_back (suc n) (leaf_at x rest) = branches_back n rest
branches_back zero (node_at b c rest) = refl
branches_back (suc n) (node_at b c rest) = branches_back n rest

pub grown_front : (contents : ℕ → List ℕ) (f levels n : ℕ) (row : PlacedRow) → IsGrown contents f levels row → IsGrown contents f levels (row_front n row)
grown_front contents f levels zero ended h = tt
grown_front contents f levels (suc n) ended h = tt
grown_front contents f levels zero (leaf_at x rest) h = tt
grown_front contents f levels (suc n) (leaf_at x rest) h = (h.0, grown_front contents f levels n rest h.1)
grown_front contents f levels zero (node_at b c rest) h = tt
grown_front contents f levels (suc n) (node_at b c rest) h = (h.0, h.1, h.2, h.3, h.4, grown_front contents f levels n rest h.5)

pub grown_back : (contents : ℕ → List ℕ) (f levels n : ℕ) (row : PlacedRow) → IsGrown contents f levels row → IsGrown contents f levels (row_back n row)
grown_back contents f levels zero ended h = tt
grown_back contents f levels (suc n) ended h = tt
grown_back contents f levels zero (leaf_at x rest) h = h
grown_back contents f levels (suc n) (leaf_at x rest) h = grown_back contents f levels n rest h.1
grown_back contents f levels zero (node_at b c rest) h = h
grown_back contents f levels (suc n) (node_at b c rest) h = grown_back contents f levels n rest h.5

pub leaves_split : (n : ℕ) (row : PlacedRow) → leaves_in (plain (row_front n row)) ++ leaves_in (plain (row_back n row)) ≡ leaves_in (plain row)
leaves_split zero ended = refl
leaves_split (suc n) ended = refl
leaves_split zero (leaf_at x rest) = refl
leaves_split (suc n) (leaf_at x rest) = ap (λ (l : List Leaf). x ∷ l) (leaves_split n rest)
leaves_split zero (node_at b c rest) = refl
leaves_split (suc n) (node_at b c rest) =
    append_assoc (leaves_in (plain c)) (leaves_in (plain (row_front n rest))) (leaves_in (plain (row_back n rest)))
    ∙ ap (λ (l : List Leaf). leaves_in (plain c) ++ l) (leaves_split n rest)

pub nodes_split : (n : ℕ) (row : PlacedRow) → all_nodes (row_front n row) ++ all_nodes (row_back n row) ≡ all_nodes row
nodes_split zero ended = refl
nodes_split (suc n) ended = refl
nodes_split zero (leaf_at x rest) = refl
nodes_split (suc n) (leaf_at x rest) = nodes_split n rest
nodes_split zero (node_at b c rest) = refl
nodes_split (suc n) (node_at b c rest) =
    append_assoc (b ∷ all_nodes c) (all_nodes (row_front n rest)) (all_nodes (row_back n rest))
    ∙ ap (λ (l : List Branch). b ∷ all_nodes c ++ l) (nodes_split n rest)

-- the branches of a row behind its first are those that are left
pub over_back : (f : ℕ) (row : PlacedRow) (bs left : List Branch) → AreOver f (drop f (branches_of row)) bs left → AreOver f (branches_of (row_back f row)) bs left
over_back f row bs left h = let P : List Branch → Type 0 = λ l. AreOver f l bs left in subst P (sym (branches_back f row)) h

pub row_none : (row : PlacedRow) → branches_of row ≡ [] → row ≡ ended
row_none ended e = refl
row_none (leaf_at x rest) e = absurd cc
row_none (node_at b c rest) e = absurd cc

pub parents_branches : (f : ℕ) (bs : List Branch) (row : PlacedRow) → branches_of (parents f bs row) ≡ bs
parents_branches f [] row = refl
parents_branches f (b ∷ bs) row = ap (λ (l : List Branch). b ∷ l) (parents_branches f bs (row_back f row))

pub parents_leaves : (f : ℕ) (bs : List Branch) (row : PlacedRow) → AreOver f (branches_of row) bs [] → leaves_in (plain (parents f bs row)) ≡ leaves_in (plain row)
parents_leaves f [] row h = ap (λ (r : PlacedRow). leaves_in (plain r)) (sym (row_none row h))
parents_leaves f (b ∷ bs) row h =
    ap (λ (l : List Leaf). leaves_in (plain (row_front f row)) ++ l) (parents_leaves f bs (row_back f row) (over_back f row bs [] h.1)) ∙ leaves_split f row

pub parents_nodes : (f lnum : ℕ) (bs : List Branch) (row : PlacedRow) → AreOver f (branches_of row) bs []
    → bytes_taken (in_leb lnum (all_nodes (parents f bs row))) ≡ bytes_taken (in_leb lnum (all_nodes row ++ bs))
parents_nodes f lnum bs row h =
    sums_to f lnum bs row h ∙ sym (in_leb_append lnum (all_nodes row) bs)
  where
    sums_to : (f lnum : ℕ) (bs : List Branch) (row : PlacedRow) → AreOver f (branches_of row) bs []
        → bytes_taken (in_leb lnum (all_nodes (parents f bs row))) ≡ bytes_taken (in_leb lnum (all_nodes row)) + bytes_taken (in_leb lnum bs)
    sums_to f lnum [] row h = ap (λ (r : PlacedRow). bytes_taken (in_leb lnum (all_nodes r)) + 0) (sym (row_none row h))
    sums_to f lnum (b ∷ bs) row h =
        let more = sums_to f lnum bs (row_back f row) (over_back f row bs [] h.1) in
        let front = all_nodes (row_front f row) in
        let back = all_nodes (row_back f row) in
        let all = all_nodes (parents f bs (row_back f row)) in
        let a = in_leb_append lnum (b ∷ []) (front ++ all) in
        let c = in_leb_append lnum front all in
        let d = in_leb_append lnum front back in
        let e = ap (λ (l : List Branch). bytes_taken (in_leb lnum l)) (nodes_split f row) in
        let g = in_leb_append lnum (b ∷ []) bs in
        omega (arith, more, a, c, d, e, g)

pub parents_count : (f : ℕ) (bs : List Branch) (row : PlacedRow) → AreOver f (branches_of row) bs [] → length (all_nodes (parents f bs row)) ≡ length (all_nodes row) + length bs
parents_count f [] row h = ap (λ (r : PlacedRow). length (all_nodes r) + 0) (sym (row_none row h))
parents_count f (b ∷ bs) row h =
    let more = parents_count f bs (row_back f row) (over_back f row bs [] h.1) in
    let a = length-append (b ∷ all_nodes (row_front f row)) (all_nodes (parents f bs (row_back f row))) in
    let d = length-append (all_nodes (row_front f row)) (all_nodes (row_back f row)) in
    let e = ap length (nodes_split f row) in
    omega (arith, more, a, d, e)

all_split : {X : Type 0} (P : X → Type 0) (xs ys : List X) → AllByRecursion P (xs ++ ys) → AllByRecursion P xs × AllByRecursion P ys
all_split P [] ys h = (tt, h)
all_split P (x ∷ xs) ys h = let rest = all_split P xs ys h.1 in ((h.0, rest.0), rest.1)

all_join : {X : Type 0} (P : X → Type 0) (xs ys : List X) → AllByRecursion P xs → AllByRecursion P ys → AllByRecursion P (xs ++ ys)
all_join P [] ys h k = k
all_join P (x ∷ xs) ys h k = (h.0, all_join P xs ys h.1 k)

parents_each : (P : Branch → Type 0) (f : ℕ) (bs : List Branch) (row : PlacedRow) → AllByRecursion P (all_nodes row) → AllByRecursion P bs → AllByRecursion P (all_nodes (parents f bs row))
parents_each P f [] row h k = tt
parents_each P f (b ∷ bs) row h k =
    let A : List Branch → Type 0 = λ l. AllByRecursion P l in
    let parts = all_split P (all_nodes (row_front f row)) (all_nodes (row_back f row)) (subst A (sym (nodes_split f row)) h) in
    all_join P (b ∷ all_nodes (row_front f row)) (all_nodes (parents f bs (row_back f row))) (k.0, parts.0) (parents_each P f bs (row_back f row) parts.1 k.1)

pub parents_all : (P : Branch → Type 0) (f : ℕ) (bs : List Branch) (row : PlacedRow) → AllByRecursion P (all_nodes row ++ bs) → AllByRecursion P (all_nodes (parents f bs row))
parents_all P f bs row h = let parts = all_split P (all_nodes row) bs h in parents_each P f bs row parts.0 parts.1

key_front : (f : ℕ) (b : Branch) (row : PlacedRow) → 1 ≤ f → HasFirstKey b (branches_of row) → HasFirstKey b (branches_of (row_front f row))
key_front f b row some h =
    let P : List Branch → Type 0 = λ l. HasFirstKey b l in
    let Q : List Branch → Type 0 = λ l. map (λ (one : Branch). one.key) l ≡ b.key ∷ [] in
    subst P (sym (branches_front f row)) (subst Q (sym (take-take 1 f (branches_of row) some)) h)

-- Nodes over a row stand a level above it.
pub parents_grown : (contents : ℕ → List ℕ) (f levels : ℕ) (bs left : List Branch) (row : PlacedRow) → 1 ≤ f → AreOver f (branches_of row) bs left → StandOver contents f levels (branches_of row) bs
    → IsGrown contents f levels row → IsGrown contents f (levels + 1) (parents f bs row)
parents_grown contents f levels [] left row one over stand h = tt
parents_grown contents f levels (b ∷ bs) left row one over stand h =
    let S : List Branch → Type 0 = λ l. StandOver contents f levels l bs in
    let N : List Branch → Type 0 = λ l. IsIndexNodeAt contents b (record { level = levels; branches = l }) in
    let M : ℕ → Type 0 = λ n. IsIndexNodeAt contents b (record { level = n; branches = branches_of (row_front f row) }) in
    let G : ℕ → Type 0 = λ n. IsGrown contents f n (row_front f row) in
    let down : levels ≡ levels + 1 - 1 = omega arith in
    let some : 0 < levels + 1 = omega arith in
    let most = length-take f (branches_of row) in
    let long = ap length (branches_front f row) in (
      some,
      subst M down (subst N (sym (branches_front f row)) stand.0),
      key_front f b row one over.0,
      omega (arith, most, long),
      subst G down (grown_front contents f levels f row h),
      parents_grown contents f levels bs left (row_back f row) one (over_back f row bs left over.1) (subst S (sym (branches_back f row)) stand.1) (grown_back contents f levels f row h),
    )
