-- What rows weigh.
use Rattle.std.proofs.Common.{◌≡◌, ℕ, suc, zero, ◌+◌, ◌-◌, ◌<◌, ◌≤◌, Bool, List, [], ◌∷◌, ◌++◌, length, inl, inr, refl, ap, sym, ◌∙◌, subst, arith, length-drop}
use Rattle.std.specs.Prelude.{min, nat_le, if◌then◌else◌}
use Rattle.std.proofs.lemmas.Bool.{cases_lt, le-leb, lt-leb}
use Rattle.std.proofs.lemmas.List.{length-take}
use Rattle.media_sys.specs.declared.branch.Branch.{Branch}
use Rattle.index_tree.specs.Shape.{count, full, shape_weight}
use Rattle.index_media.specs.PlacedRow.{PlacedRow, ended, leaf_at, node_at, branches_of, plain}
use Rattle.laid_index.specs.Packing.{len_over, lens_weight, level_lens}
use Rattle.laid_index.specs.Rows.{AreOver, HasFirstKey, parents, row_back, row_front}
use Rattle.laid_index.proofs.Growing.{branches_back, branches_front, over_back, row_none}
use Rattle.laid_index.proofs.Packs.{level_none, level_step}

pub count_is : (row : PlacedRow) → count (plain row) ≡ length (branches_of row)
count_is ended = refl
count_is (leaf_at x rest) = let e = count_is rest in omega (arith, e)
count_is (node_at b c rest) = let e = count_is rest in omega (arith, e)

pub some_children : (b : Branch) (children : List Branch) → HasFirstKey b children → 0 < length children
some_children b [] h = absurd cc
some_children b (c ∷ cs) h = omega arith

-- a row weighs what its parts do
weight_split : (f n : ℕ) (row : PlacedRow) → shape_weight f (plain (row_front n row)) + shape_weight f (plain (row_back n row)) ≡ shape_weight f (plain row)
weight_split f zero ended = refl
weight_split f (suc n) ended = refl
weight_split f zero (leaf_at x rest) = omega arith
weight_split f (suc n) (leaf_at x rest) = weight_split f n rest
weight_split f zero (node_at b c rest) = omega arith
weight_split f (suc n) (node_at b c rest) = let e = weight_split f n rest in omega (arith, e)

-- so do nodes, by their lengths
pub lens_join : (f : ℕ) (xs ys : List ℕ) → lens_weight f (xs ++ ys) ≡ lens_weight f xs + lens_weight f ys
lens_join f [] ys = omega arith
lens_join f (x ∷ xs) ys = let e = lens_join f xs ys in omega (arith, e)

-- a node is full by its children if it is so by its length
node_weighs : (f n : ℕ) → 1 + (if nat_le f n then 1 else 0) ≡ (if nat_le (len_over f) (len_over n) then 2 else 1)
node_weighs f n = elim (cases_lt n f) [
  | inl lt ↦
      ap (λ (b : Bool). 1 + (if b then 1 else 0)) (lt-leb f n lt)
      ∙ sym (ap (λ (b : Bool). if b then 2 else 1) (lt-leb (len_over f) (len_over n) (omega (arith, lt))))
  | inr ge ↦
      ap (λ (b : Bool). 1 + (if b then 1 else 0)) (le-leb f n (omega (arith, ge)))
      ∙ sym (ap (λ (b : Bool). if b then 2 else 1) (le-leb (len_over f) (len_over n) (omega (arith, ge))))
]

all_weigh : (front up back row full own below left : ℕ) → up ≡ back + left → front + back ≡ row → 1 + full ≡ own → below ≡ own + left → front + up + 1 + full ≡ row + below
all_weigh front up back row full own below left a b c d = omega (arith, a, b, c, d)

-- Nodes over a row are full but for the last.
pub parents_weigh : (f : ℕ) (bs : List Branch) (row : PlacedRow) → 1 ≤ f → AreOver f (branches_of row) bs []
    → shape_weight f (plain (parents f bs row)) ≡ shape_weight f (plain row) + lens_weight f (level_lens f (length (branches_of row)))
parents_weigh f [] row one h =
    let P : PlacedRow → Type 0 = λ r. 0 ≡ shape_weight f (plain r) + lens_weight f (level_lens f (length (branches_of r))) in
    subst P (sym (row_none row h)) (sym (ap (λ (l : List ℕ). 0 + lens_weight f l) (level_none f)))
parents_weigh f (b ∷ bs) row one h =
    let n = length (branches_of row) in
    let front = row_front f row in
    let back = row_back f row in
    let m = length (branches_of front) in
    let some : 0 < n = some_children b (branches_of row) h.0 in
    let is : m ≡ min n f = ap length (branches_front f row) ∙ length-take f (branches_of row) ∙ min_swap f n in
    let left : length (branches_of back) ≡ n - m = ap length (branches_back f row) ∙ length-drop f (branches_of row) ∙ rest n m f is in
    let level = level_lens f (n - m) in
    let more : shape_weight f (plain (parents f bs back)) ≡ shape_weight f (plain back) + lens_weight f level =
    parents_weigh f bs back one (over_back f row bs [] h.1) ∙ ap (λ (k : ℕ). shape_weight f (plain back) + lens_weight f (level_lens f k)) left in
    let own : 1 + full f (plain front) ≡ (if nat_le (len_over f) (len_over m) then 2 else 1) =
    ap (λ (k : ℕ). 1 + (if nat_le f k then 1 else 0)) (count_is front) ∙ node_weighs f m in
    let below : lens_weight f (level_lens f n) ≡ (if nat_le (len_over f) (len_over m) then 2 else 1) + lens_weight f level =
    ap (lens_weight f) (level_step f n m (omega (arith, one)) some is) in
    all_weigh (shape_weight f (plain front)) (shape_weight f (plain (parents f bs back))) (shape_weight f (plain back)) (shape_weight f (plain row)) (full f (plain front))
    (if nat_le (len_over f) (len_over m) then 2 else 1) (lens_weight f (level_lens f n)) (lens_weight f level) more (weight_split f f row) own below
  where
    min_swap : (a b : ℕ) → min a b ≡ min b a
    min_swap a b = omega arith

    rest : (n m f : ℕ) → m ≡ min n f → n - f ≡ n - m
    rest n m f e = omega (arith, e)

-- the same of nodes of these lengths over these siblings
pub row_weighs : (f : ℕ) (siblings made : List Branch) (lens : List ℕ) (row : PlacedRow) → 1 ≤ f → branches_of row ≡ siblings → level_lens f (length siblings) ≡ lens → AreOver f (branches_of row) made []
    → shape_weight f (plain (parents f made row)) ≡ shape_weight f (plain row) + lens_weight f lens
row_weighs f siblings made lens row one e is over =
    parents_weigh f made row one over
    ∙ ap (λ (l : List ℕ). shape_weight f (plain row) + lens_weight f l) (ap (λ (l : List Branch). level_lens f (length l)) e ∙ is)

-- a level more, and those above it
pub levels_weigh : (f : ℕ) (lens above : List ℕ) (top mid low : ℕ) → top ≡ mid + lens_weight f above → mid ≡ low + lens_weight f lens → top ≡ low + lens_weight f (lens ++ above)
levels_weigh f lens above top mid low a b = sums (lens_weight f lens) (lens_weight f above) (lens_weight f (lens ++ above)) a b (lens_join f lens above)
  where
    sums : (x y xy : ℕ) → top ≡ mid + y → mid ≡ low + x → xy ≡ x + y → top ≡ low + xy
    sums x y xy a b c = omega (arith, a, b, c)
