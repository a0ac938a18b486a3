-- Rows of nodes whose texts fill LEBs stand where they are placed.
use Rattle.std.proofs.Common.{◌≡◌, ℕ, ◌+◌, ◌-◌, ◌<◌, suc, List, [], ◌∷◌, ◌++◌, length, map, replicate, refl, sym, ap, subst, ◌∙◌, arith, append_assoc, length-append}
use Rattle.std.specs.Prelude.{drop, get_or, take}
use Rattle.std.specs.List.{AllByRecursion, concat, flat_map}
use Rattle.std.proofs.Math.Seq.{drop-append_seam, take-append_seam}
use Rattle.ubifs_base.specs.Gap.{gap_of}
use Rattle.ubifs_base.specs.declared.raw_geometry.RawGeometry.{RawGeometry}
use Rattle.media_leaf.specs.LeafNode.{LeafNode, IsLeafNode, written}
use Rattle.fs_model.specs.Cover.{round_8}
use Rattle.group_nodes.specs.Texts.{padded_leaf_bytes, leaf_len, leaf_text}
use Rattle.group_nodes.specs.TextLaws.{length-leaf_text, length-written}
use Rattle.leaf_map.specs.Kept.{Placed}
use Rattle.sound_image.specs.Leaves.{IsPlacedIn}
use Rattle.image_maker.specs.Image.{leb_text, round_up, to_unit}
use Rattle.image_maker.specs.Places.{IsWrittenLeaf, numbered_leaves, numbered_text, placed_leaf, placed_row, placed_rows}

-- a node stands behind what stands in front of it
one_stands : (contents : ℕ → List ℕ) (lnum : ℕ) (n : ℕ × LeafNode) (front back : List ℕ) → contents lnum ≡ front ++ (numbered_text n ++ back) → IsWrittenLeaf n
    → IsPlacedIn contents (placed_leaf lnum (length front) n)
unfolding leaf_text
one_stands contents lnum n front back here is =
    let bytes = written n.0 0 n.1 in
    let pad = replicate (round_8 (length bytes) - length bytes) 0xCE in
    let long : length bytes ≡ leaf_len n.1 = length-written n.0 0 n.1 in
    let same : drop (length front) (contents lnum) ≡ bytes ++ (pad ++ back) = ap (drop (length front)) here ∙ drop-append_seam front ((bytes ++ pad) ++ back) ∙ append_assoc bytes pad back in
    let first : take (leaf_len n.1) (drop (length front) (contents lnum)) ≡ bytes =
    ap (λ (k : ℕ). take k (drop (length front) (contents lnum))) (sym long) ∙ ap (take (length bytes)) same ∙ take-append_seam bytes (pad ++ back) in
    let all : length (contents lnum) ≡ length (front ++ ((bytes ++ pad) ++ back)) = ap length here in
    let e1 = length-append front ((bytes ++ pad) ++ back) in
    let e2 = length-append (bytes ++ pad) back in
    let e3 = length-append bytes pad in
    let P : List ℕ → Type 0 = λ b. IsLeafNode b n.0 0 n.1 in
    record { room = omega (arith, all, e1, e2, e3, long); is = subst P (sym first) is }

row_stands : (contents : ℕ → List ℕ) (lnum : ℕ) (row : List (ℕ × LeafNode)) (front back : List ℕ) → contents lnum ≡ front ++ (concat (map numbered_text row) ++ back)
    → AllByRecursion IsWrittenLeaf row → AllByRecursion (IsPlacedIn contents) (placed_row lnum (length front) row)
row_stands contents lnum [] front back here is = tt
row_stands contents lnum (n ∷ row) front back here is =
    let text = numbered_text n in
    let rest = concat (map numbered_text row) in
    let first : contents lnum ≡ front ++ (text ++ (rest ++ back)) = here ∙ ap (λ x. front ++ x) (append_assoc text rest back) in
    let next : contents lnum ≡ (front ++ text) ++ (rest ++ back) = first ∙ sym (append_assoc front text (rest ++ back)) in
    let place : length (front ++ text) ≡ length front + padded_leaf_bytes n.1 = let e = length-append front text in let l = length-leaf_text n.0 0 n.1 in omega (arith, e, l) in
    (one_stands contents lnum n front (rest ++ back) first is.0, subst (λ (k : ℕ). AllByRecursion (IsPlacedIn contents) (placed_row lnum k row)) place (row_stands contents lnum row (front ++ text) back next is.1))

-- ---- rows
all_front : {X : Type 0} (P : X → Type 0) (xs ys : List X) → AllByRecursion P (xs ++ ys) → AllByRecursion P xs
all_front P [] ys h = tt
all_front P (x ∷ xs) ys h = (h.0, all_front P xs ys h.1)

all_back : {X : Type 0} (P : X → Type 0) (xs ys : List X) → AllByRecursion P (xs ++ ys) → AllByRecursion P ys
all_back P [] ys h = h
all_back P (x ∷ xs) ys h = all_back P xs ys h.1

all_both : {X : Type 0} (P : X → Type 0) (xs ys : List X) → AllByRecursion P xs → AllByRecursion P ys → AllByRecursion P (xs ++ ys)
all_both P [] ys h k = k
all_both P (x ∷ xs) ys h k = (h.0, all_both P xs ys h.1 k)

pub rows_stand : (raw : RawGeometry) (contents : ℕ → List ℕ) (lnum : ℕ) (rows : List (List (ℕ × LeafNode)))
    → ((k : ℕ) → k < length rows → contents (lnum + k) ≡ leb_text raw (get_or (map (map numbered_text) rows) k []))
    → AllByRecursion IsWrittenLeaf (flat_map (λ row. row) rows) → AllByRecursion (IsPlacedIn contents) (placed_rows lnum rows)
rows_stand raw contents lnum [] h is = tt
rows_stand raw contents lnum (row ∷ rows) h is =
    let texts = concat (map numbered_text row) in
    let gap : List ℕ = gap_of (round_up raw.min_io (length texts) - length texts) in
    let fill : List ℕ = replicate (raw.leb_size - length (to_unit raw.min_io texts)) 255 in
    let zero : lnum ≡ lnum + 0 = omega arith in
    let here : contents lnum ≡ [] ++ (texts ++ (gap ++ fill)) = ap contents zero ∙ h 0 (omega arith) ∙ append_assoc texts gap fill in
    all_both (IsPlacedIn contents) (placed_row lnum 0 row) (placed_rows (suc lnum) rows)
    (row_stands contents lnum row [] (gap ++ fill) here (all_front IsWrittenLeaf row (flat_map (λ row. row) rows) is))
    (rows_stand raw contents (suc lnum) rows (λ k l. ap contents (next k) ∙ h (suc k) (omega (arith, l))) (all_back IsWrittenLeaf row (flat_map (λ row. row) rows) is))
  where
    next : (k : ℕ) → suc lnum + k ≡ lnum + suc k
    next k = omega arith

-- ---- their nodes are the leaves
row_nodes : (lnum offs : ℕ) (row : List (ℕ × LeafNode)) → map (λ (x : Placed). x.node) (placed_row lnum offs row) ≡ map (λ (n : ℕ × LeafNode). n.1) row
row_nodes lnum offs [] = refl
row_nodes lnum offs (n ∷ row) = ap (λ xs. n.1 ∷ xs) (row_nodes lnum (offs + padded_leaf_bytes n.1) row)

map_both : {X Y : Type 0} (f : X → Y) (xs ys : List X) → map f (xs ++ ys) ≡ map f xs ++ map f ys
map_both f [] ys = refl
map_both f (x ∷ xs) ys = ap (λ zs. f x ∷ zs) (map_both f xs ys)

rows_nodes : (lnum : ℕ) (rows : List (List (ℕ × LeafNode))) → map (λ (x : Placed). x.node) (placed_rows lnum rows) ≡ map (λ (n : ℕ × LeafNode). n.1) (flat_map (λ row. row) rows)
rows_nodes lnum [] = refl
rows_nodes lnum (row ∷ rows) =
    map_both (λ (x : Placed). x.node) (placed_row lnum 0 row) (placed_rows (suc lnum) rows)
    ∙ ap (λ xs. xs ++ map (λ (x : Placed). x.node) (placed_rows (suc lnum) rows)) (row_nodes lnum 0 row)
    ∙ ap (λ xs. map (λ (n : ℕ × LeafNode). n.1) row ++ xs) (rows_nodes (suc lnum) rows)
    ∙ sym (map_both (λ (n : ℕ × LeafNode). n.1) row (flat_map (λ row. row) rows))

unnumbered : (sqnum : ℕ) (leaves : List LeafNode) → map (λ (n : ℕ × LeafNode). n.1) (numbered_leaves sqnum leaves) ≡ leaves
unnumbered sqnum [] = refl
unnumbered sqnum (leaf ∷ leaves) = ap (λ xs. leaf ∷ xs) (unnumbered (suc sqnum) leaves)

pub nodes_are : (lnum : ℕ) (rows : List (List (ℕ × LeafNode))) (leaves : List LeafNode) → flat_map (λ row. row) rows ≡ numbered_leaves 1 leaves → map (λ (x : Placed). x.node) (placed_rows lnum rows) ≡ leaves
nodes_are lnum rows leaves all = rows_nodes lnum rows ∙ ap (map (λ (n : ℕ × LeafNode). n.1)) all ∙ unnumbered 1 leaves
