-- Rows of numbered leaves: their texts, their places, and one leaf or one row more.
use Rattle.std.proofs.Common.{◌≡◌, ℕ, ◌+◌, suc, List, [], ◌∷◌, ◌++◌, length, map, refl, sym, ◌∙◌, ap, arith, append_assoc, length-append}
use Rattle.std.specs.List.{concat, flat_map, AllByRecursion}
use Rattle.std.proofs.lemmas.List.{append-nil, map-append}
use Rattle.std.proofs.lemmas.List.Sums.{sum_by-append, sum_by-cons}
use Rattle.ubifs_base.specs.declared.raw_geometry.RawGeometry.{RawGeometry}
use Rattle.media_leaf.specs.LeafNode.{LeafNode}
use Rattle.group_nodes.specs.TextLaws.{length-leaf_text}
use Rattle.group_nodes.specs.Texts.{padded_leaf_bytes}
use Rattle.image_maker.specs.Image.{leaf_texts}
use Rattle.image_maker.specs.Places.{FitsLeb, numbered_leaves, numbered_text, placed_leaf, placed_row, placed_rows, row_bytes}

-- ---- one leaf more
pub numbered-append : (n : ℕ) (leaves : List LeafNode) (leaf : LeafNode) → numbered_leaves n (leaves ++ leaf ∷ []) ≡ numbered_leaves n leaves ++ (n + length leaves, leaf) ∷ []
numbered-append n [] leaf = let e : n ≡ n + 0 = omega arith in ap (λ (k : ℕ). (k, leaf) ∷ []) e
numbered-append n (first ∷ leaves) leaf =
    let e : suc n + length leaves ≡ n + suc (length leaves) = omega arith in
    ap (λ xs. (n, first) ∷ xs) (numbered-append (suc n) leaves leaf ∙ ap (λ (k : ℕ). numbered_leaves (suc n) leaves ++ (k, leaf) ∷ []) e)

pub bytes-append : (row : List (ℕ × LeafNode)) (n : ℕ × LeafNode) → row_bytes (row ++ n ∷ []) ≡ row_bytes row + padded_leaf_bytes n.1
bytes-append row n = let e = sum_by-append (λ (n : ℕ × LeafNode). padded_leaf_bytes n.1) row (n ∷ []) in omega (arith, e)

pub placed-append : (lnum offs : ℕ) (row : List (ℕ × LeafNode)) (n : ℕ × LeafNode)
    → placed_row lnum offs (row ++ n ∷ []) ≡ placed_row lnum offs row ++ placed_leaf lnum (offs + row_bytes row) n ∷ []
placed-append lnum offs [] n = let e : offs ≡ offs + 0 = omega arith in ap (λ (k : ℕ). placed_leaf lnum k n ∷ []) e
placed-append lnum offs (first ∷ row) n =
    let sum = sum_by-cons (λ (n : ℕ × LeafNode). padded_leaf_bytes n.1) first row in
    let e : offs + padded_leaf_bytes first.1 + row_bytes row ≡ offs + row_bytes (first ∷ row) = omega (arith, sum) in
    ap (λ xs. placed_leaf lnum offs first ∷ xs)
    (placed-append lnum (offs + padded_leaf_bytes first.1) row n ∙ ap (λ (k : ℕ). placed_row lnum (offs + padded_leaf_bytes first.1) row ++ placed_leaf lnum k n ∷ []) e)

-- ---- one row more
pub placed-row : (lnum : ℕ) (rows : List (List (ℕ × LeafNode))) (row : List (ℕ × LeafNode))
    → placed_rows lnum (rows ++ row ∷ []) ≡ placed_rows lnum rows ++ placed_row (lnum + length rows) 0 row
placed-row lnum [] row = let e : lnum ≡ lnum + 0 = omega arith in append-nil (placed_row lnum 0 row) ∙ ap (λ (k : ℕ). placed_row k 0 row) e
placed-row lnum (first ∷ rows) row =
    let e : suc lnum + length rows ≡ lnum + suc (length rows) = omega arith in
    ap (λ xs. placed_row lnum 0 first ++ xs) (placed-row (suc lnum) rows row ∙ ap (λ (k : ℕ). placed_rows (suc lnum) rows ++ placed_row k 0 row) e)
    ∙ sym (append_assoc (placed_row lnum 0 first) (placed_rows (suc lnum) rows) (placed_row (lnum + suc (length rows)) 0 row))

-- a leaf more in the last row
pub placed-next : (lnum : ℕ) (rows : List (List (ℕ × LeafNode))) (last : List (ℕ × LeafNode)) (n : ℕ × LeafNode)
    → placed_rows lnum (rows ++ (last ++ n ∷ []) ∷ []) ≡ placed_rows lnum (rows ++ last ∷ []) ++ placed_leaf (lnum + length rows) (row_bytes last) n ∷ []
placed-next lnum rows last n =
    let here = placed_row (lnum + length rows) 0 last in
    let next = placed_leaf (lnum + length rows) (row_bytes last) n ∷ [] in
    let e : 0 + row_bytes last ≡ row_bytes last = omega arith in
    placed-row lnum rows (last ++ n ∷ [])
    ∙ ap (λ xs. placed_rows lnum rows ++ xs) (placed-append (lnum + length rows) 0 last n ∙ ap (λ (k : ℕ). here ++ placed_leaf (lnum + length rows) k n ∷ []) e)
    ∙ sym (append_assoc (placed_rows lnum rows) here next)
    ∙ ap (λ xs. xs ++ next) (sym (placed-row lnum rows last))

-- an empty row more
pub placed-none : (lnum : ℕ) (rows : List (List (ℕ × LeafNode))) → placed_rows lnum (rows ++ [] ∷ []) ≡ placed_rows lnum rows
placed-none lnum rows = placed-row lnum rows [] ∙ append-nil (placed_rows lnum rows)

pub all-row : (raw : RawGeometry) (rows : List (List (ℕ × LeafNode))) (row : List (ℕ × LeafNode)) → AllByRecursion (FitsLeb raw) rows → FitsLeb raw row → AllByRecursion (FitsLeb raw) (rows ++ row ∷ [])
all-row raw [] row h fits = (fits, tt)
all-row raw (first ∷ rows) row h fits = (h.0, all-row raw rows row h.1 fits)

-- ---- texts
pub texts_are : (n : ℕ) (leaves : List LeafNode) → map numbered_text (numbered_leaves n leaves) ≡ leaf_texts n leaves
texts_are n [] = refl
texts_are n (leaf ∷ leaves) = ap (λ xs. numbered_text (n, leaf) ∷ xs) (texts_are (suc n) leaves)

pub flat_texts : (rows : List (List (ℕ × LeafNode))) → flat_map (λ part. part) (map (map numbered_text) rows) ≡ map numbered_text (flat_map (λ row. row) rows)
flat_texts [] = refl
flat_texts (row ∷ rows) = ap (λ xs. map numbered_text row ++ xs) (flat_texts rows) ∙ sym (map-append numbered_text row (flat_map (λ row. row) rows))

pub length_texts : (row : List (ℕ × LeafNode)) → length (concat (map numbered_text row)) ≡ row_bytes row
length_texts [] = refl
length_texts (n ∷ row) =
    let here = length-leaf_text n.0 0 n.1 in
    let more = length_texts row in
    let sum = sum_by-cons (λ (n : ℕ × LeafNode). padded_leaf_bytes n.1) n row in
    let both = length-append (numbered_text n) (concat (map numbered_text row)) in
    omega (arith, here, more, sum, both)
