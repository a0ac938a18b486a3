-- Rows of nodes stand in order, and take their bytes of the LEBs.
use Rattle.std.proofs.Common.{◌≡◌, ◌⊎◌, ℕ, ◌+◌, ◌-◌, ◌*◌, ◌/◌, ◌%◌, ◌<◌, ◌≤◌, suc, zero, Bool, true, false, cond, List, [], ◌∷◌, ◌++◌, length, map, replicate, refl, sym, ap, ◌∙◌, arith, length-append, inl, inr}
use Rattle.std.specs.Prelude.{◌==◌, drop, filter, get_or, nat_lt}
use Rattle.std.specs.Int.{div_ceil}
use Rattle.std.specs.List.{AllByRecursion, concat}
use Rattle.std.proofs.lemmas.Bool.Decides.{nat_tests}
use Rattle.std.proofs.lemmas.List.{length-map}
use Rattle.std.proofs.lemmas.List.Elements.{All-from_recursion}
use Rattle.std.proofs.lemmas.List.Sums.{sum_by-cons}
use Rattle.std.proofs.lemmas.Grind.{div_ceil_times}
use Rattle.std.proofs.lemmas.Nat.{div-add-mod'}
use Rattle.std.proofs.Math.ListN.{get_or-map}
use Rattle.std.proofs.Math.Nat.{lt_of_mul-lt-mul_right, mod-lt, suc-mul}
use Rattle.std.proofs.Math.Seq.{drop-append_seam}
use Rattle.ubifs_base.specs.Gap.{gap_of, padding_node}
use Rattle.ubifs_base.specs.Node.{node_bytes}
use Rattle.ubifs_base.specs.declared.raw_geometry.RawGeometry.{RawGeometry}
use Rattle.media_leaf.specs.LeafNode.{LeafNode, inode, block, entry, truncation}
use Rattle.media_sys.specs.declared.branch.Branch.{Branch}
use Rattle.group_nodes.specs.Texts.{padded_leaf_bytes, leaf_len}
use Rattle.group_nodes.specs.TextLaws.{length-leaf_text}
use Rattle.index_media.specs.PlacedRow.{branch_to, bytes_taken, node_end}
use Rattle.leaf_map.specs.Kept.{Placed}
use Rattle.leb_scan.specs.Text.{is_blank}
use Rattle.lpt_area.specs.Written.{in_units}
use Rattle.laid_image.specs.Laid.{leaf_of_placed}
use Rattle.laid_main.specs.Filling.{AreFilled, TakesOfLebs}
use Rattle.image_maker.specs.Image.{leb_text, round_up, to_unit}
use Rattle.image_maker.specs.Places.{FitsLeb, numbered_text, placed_leaf, placed_row, placed_rows, row_bytes}
use Rattle.laid_tree.specs.Standing.{StandInOrder}

-- ---- in order
some_bytes : (leaf : LeafNode) → 0 < leaf_len leaf
some_bytes (inode node) = omega arith
some_bytes (block node) = omega arith
some_bytes (entry node) = omega arith
some_bytes (truncation node) = omega arith

row_order : (lnum offs l o : ℕ) (row : List (ℕ × LeafNode)) (rest : List Placed) → offs % 8 ≡ 0 → (l < lnum) ⊎ ((l ≡ lnum) × (o ≤ offs)) → ((m p : ℕ) → m < suc lnum → StandInOrder m p rest)
    → StandInOrder l o (placed_row lnum offs row ++ rest)
row_order lnum offs l o [] rest even before later = later l o (elim before [ inl a ↦ omega (arith, a) | inr b ↦ let same = b.0 in omega (arith, same) ])
row_order lnum offs l o (n ∷ row) rest even before later =
    (some_bytes n.1, before, row_order lnum (offs + padded_leaf_bytes n.1) lnum (node_end (offs + leaf_len n.1)) row rest (omega (arith, even)) (inr (refl, omega (arith, even))) later)

pub rows_order : (lnum l o : ℕ) (rows : List (List (ℕ × LeafNode))) → (l < lnum) ⊎ ((l ≡ lnum) × (o ≤ 0)) → StandInOrder l o (placed_rows lnum rows)
rows_order lnum l o [] before = tt
rows_order lnum l o (row ∷ rows) before = row_order lnum 0 l o row (placed_rows (suc lnum) rows) (omega arith) before (λ m p less. rows_order (suc lnum) m p rows (inl less))

-- ---- within their LEBs
abbrev IsWithin : ℕ → ℕ → Branch → Type 0
IsWithin first past branch = (first ≤ branch.lnum) × (branch.lnum < past)

abbrev branches : List Placed → List Branch
branches nodes = map branch_to (map leaf_of_placed nodes)

row_within : (first past lnum offs : ℕ) (row : List (ℕ × LeafNode)) (rest : List Placed) → first ≤ lnum → lnum < past → AllByRecursion (IsWithin first past) (branches rest) → AllByRecursion (IsWithin first past) (branches (placed_row lnum offs row ++ rest))
row_within first past lnum offs [] rest low high more = more
row_within first past lnum offs (n ∷ row) rest low high more = ((low, high), row_within first past lnum (offs + padded_leaf_bytes n.1) row rest low high more)

rows_within : (first past lnum : ℕ) (rows : List (List (ℕ × LeafNode))) → first ≤ lnum → lnum + length rows ≤ past → AllByRecursion (IsWithin first past) (branches (placed_rows lnum rows))
rows_within first past lnum [] low high = tt
rows_within first past lnum (row ∷ rows) low high = row_within first past lnum 0 row (placed_rows (suc lnum) rows) low (omega (arith, high)) (rows_within first past (suc lnum) rows (omega (arith, low)) (omega (arith, high)))

-- ---- the bytes that they take
abbrev taken : ℕ → List Placed → ℕ
taken lnum nodes = bytes_taken (filter (λ (branch : Branch). branch.lnum == lnum) (branches nodes))

same_leb : (n : ℕ) → (n == n) ≡ true
same_leb n = grind (arith, nat_tests)

other_leb : (a b : ℕ) → b < a → (a == b) ≡ false
other_leb a b l = grind (arith, nat_tests)

earlier_leb : (a b : ℕ) → a < b → (a == b) ≡ false
earlier_leb a b l = grind (arith, nat_tests)

-- a row takes its bytes of its own LEB
row_taken : (lnum offs : ℕ) (row : List (ℕ × LeafNode)) (rest : List Placed) → taken lnum (placed_row lnum offs row ++ rest) ≡ row_bytes row + taken lnum rest
row_taken lnum offs [] rest = let none : taken lnum rest ≡ 0 + taken lnum rest = omega arith in none
row_taken lnum offs (n ∷ row) rest = by (row_taken lnum (offs + padded_leaf_bytes n.1) row rest) (lnum == lnum) (same_leb lnum)
  where
    more : List Placed
    more = placed_row lnum (offs + padded_leaf_bytes n.1) row ++ rest

    by : taken lnum more ≡ row_bytes row + taken lnum rest → (b : Bool) → b ≡ true → bytes_taken (cond b (branch_to (leaf_of_placed (placed_leaf lnum offs n)) ∷ filter (λ (branch : Branch). branch.lnum == lnum) (branches more)) (filter (λ (branch : Branch). branch.lnum == lnum) (branches more))) ≡ row_bytes (n ∷ row) + taken lnum rest
    by here true e =
        let sum = sum_by-cons (λ (n : ℕ × LeafNode). padded_leaf_bytes n.1) n row in
        omega (arith, here, sum)
    by here false e = absurd cc

-- and nothing of another
row_other : (lnum offs m : ℕ) (row : List (ℕ × LeafNode)) (rest : List Placed) → (lnum == m) ≡ false → taken m (placed_row lnum offs row ++ rest) ≡ taken m rest
row_other lnum offs m [] rest h = refl
row_other lnum offs m (n ∷ row) rest h = by (row_other lnum (offs + padded_leaf_bytes n.1) m row rest h) (lnum == m) h
  where
    more : List Placed
    more = placed_row lnum (offs + padded_leaf_bytes n.1) row ++ rest

    by : taken m more ≡ taken m rest → (b : Bool) → b ≡ false → bytes_taken (cond b (branch_to (leaf_of_placed (placed_leaf lnum offs n)) ∷ filter (λ (branch : Branch). branch.lnum == m) (branches more)) (filter (λ (branch : Branch). branch.lnum == m) (branches more))) ≡ taken m rest
    by later true e = absurd cc
    by later false e = later

rows_later : (lnum m : ℕ) (rows : List (List (ℕ × LeafNode))) → m < lnum → taken m (placed_rows lnum rows) ≡ 0
rows_later lnum m [] l = refl
rows_later lnum m (row ∷ rows) l = row_other lnum 0 m row (placed_rows (suc lnum) rows) (other_leb lnum m l) ∙ rows_later (suc lnum) m rows (omega (arith, l))

rows_taken : (lnum k : ℕ) (rows : List (List (ℕ × LeafNode))) → k < length rows → taken (lnum + k) (placed_rows lnum rows) ≡ get_or (map row_bytes rows) k 0
rows_taken lnum k [] l = absurd (omega (arith, l))
rows_taken lnum zero (row ∷ rows) l =
    let none = rows_later (suc lnum) lnum rows (omega arith) in
    let here = row_taken lnum 0 row (placed_rows (suc lnum) rows) in
    let e : lnum + 0 ≡ lnum = omega arith in
    ap (λ (m : ℕ). taken m (placed_rows lnum (row ∷ rows))) e ∙ omega (arith, none, here)
rows_taken lnum (suc k) (row ∷ rows) l =
    let e : lnum + suc k ≡ suc lnum + k = omega arith in
    ap (λ (m : ℕ). taken m (placed_rows lnum (row ∷ rows))) e
    ∙ row_other lnum 0 (suc lnum + k) row (placed_rows (suc lnum) rows) (earlier_leb lnum (suc lnum + k) (omega arith))
    ∙ rows_taken (suc lnum) k rows (omega (arith, l))

pub rows_take : (lnum : ℕ) (rows : List (List (ℕ × LeafNode))) → TakesOfLebs lnum (map row_bytes rows) (branches (placed_rows lnum rows))
rows_take lnum rows =
    let same = length-map rows row_bytes in
    record {
      within = All-from_recursion (IsWithin lnum (lnum + length (map row_bytes rows))) (branches (placed_rows lnum rows)) (rows_within lnum (lnum + length (map row_bytes rows)) lnum rows (omega arith) (omega (arith, same)));
      bytes = λ k l. rows_taken lnum k rows (omega (arith, l, same));
    }

-- ---- what fills the LEBs
even_row : (row : List (ℕ × LeafNode)) → row_bytes row % 8 ≡ 0
even_row [] = refl
even_row (n ∷ row) =
    let more = even_row row in
    let sum = sum_by-cons (λ (n : ℕ × LeafNode). padded_leaf_bytes n.1) n row in
    omega (arith, more, sum)

all_filled : (raw : RawGeometry) (rows : List (List (ℕ × LeafNode))) → AllByRecursion (FitsLeb raw) rows → AllByRecursion (λ (bytes : ℕ). (0 < bytes) × (bytes % 8 ≡ 0) × (bytes ≤ raw.leb_size)) (map row_bytes rows)
all_filled raw [] h = tt
all_filled raw (row ∷ rows) h = ((h.0.some, even_row row, h.0.most), all_filled raw rows h.1)

length_padding : (n : ℕ) → length (padding_node n) ≡ 28
unfolding node_bytes
length_padding n = omega arith

length_replicate : (n v : ℕ) → length (replicate n v) ≡ n
length_replicate zero v = refl
length_replicate (suc n) v = let e = length_replicate n v in omega (arith, e)

length_gap : (n : ℕ) → length (gap_of n) ≡ n
unfolding gap_of
length_gap n = by (nat_lt n 28) refl
  where
    by : (b : Bool) → nat_lt n 28 ≡ b → length (cond b (replicate n 0xCE) (padding_node (n - 28) ++ replicate (n - 28) 0)) ≡ n
    by true e = length_replicate n 0xCE
    by false e =
        let many : 28 ≤ n = grind (arith, nat_tests) in
        let p = length_padding (n - 28) in
        let r = length_replicate (n - 28) 0 in
        let a = length-append (padding_node (n - 28)) (replicate (n - 28) 0) in
        omega (arith, many, p, r, a)

length_texts : (row : List (ℕ × LeafNode)) → length (concat (map numbered_text row)) ≡ row_bytes row
length_texts [] = refl
length_texts (n ∷ row) =
    let here = length-leaf_text n.0 0 n.1 in
    let more = length_texts row in
    let sum = sum_by-cons (λ (n : ℕ × LeafNode). padded_leaf_bytes n.1) n row in
    let both = length-append (numbered_text n) (concat (map numbered_text row)) in
    omega (arith, here, more, sum, both)

blank_rest : (n : ℕ) → is_blank (replicate n 255) ≡ true
blank_rest zero = refl
blank_rest (suc n) = blank_rest n

-- whole units are reckoned in two ways
units_same : (u n : ℕ) → 0 < u → round_up u n ≡ in_units u n
units_same u n some =
    let q = div_ceil n u in
    let r = (n + (u - 1)) / u in
    let t = div_ceil_times n u some in
    let low : n ≤ q * u = t.0 in
    let high : q * u < n + u = t.1 in
    let d = div-add-mod' (n + (u - 1)) u in
    let m : (n + (u - 1)) % u < u = mod-lt (n + (u - 1)) some in
    let sq : suc q * u ≡ q * u + u = suc-mul q u in
    let sr : suc r * u ≡ r * u + u = suc-mul r u in
    let a : q < suc r = lt_of_mul-lt-mul_right u (omega (arith, high, sr, d, m, some)) in
    let b : r < suc q = lt_of_mul-lt-mul_right u (omega (arith, low, sq, d, some)) in
    let same : q ≡ r = omega (arith, a, b) in
    ap (λ (k : ℕ). k * u) same

row_end : (raw : RawGeometry) (row : List (ℕ × LeafNode)) → 0 < raw.min_io → is_blank (drop (in_units raw.min_io (row_bytes row)) (leb_text raw (map numbered_text row))) ≡ true
row_end raw row some =
    let texts = concat (map numbered_text row) in
    let body = to_unit raw.min_io texts in
    let rest : List ℕ = replicate (raw.leb_size - length body) 255 in
    let long = length_texts row in
    let times = div_ceil_times (length texts) raw.min_io some in
    let low : length texts ≤ round_up raw.min_io (length texts) = times.0 in
    let gap = length_gap (round_up raw.min_io (length texts) - length texts) in
    let both = length-append texts (gap_of (round_up raw.min_io (length texts) - length texts)) in
    let all : length body ≡ round_up raw.min_io (length texts) = omega (arith, both, gap, low) in
    let units : length body ≡ in_units raw.min_io (row_bytes row) = all ∙ ap (round_up raw.min_io) long ∙ units_same raw.min_io (row_bytes row) some in
    ap (λ (n : ℕ). is_blank (drop n (body ++ rest))) (sym units) ∙ ap is_blank (drop-append_seam body rest) ∙ blank_rest (raw.leb_size - length body)

pub rows_fill : (raw : RawGeometry) (contents : ℕ → List ℕ) (lnum : ℕ) (rows : List (List (ℕ × LeafNode))) → 0 < raw.min_io → AllByRecursion (FitsLeb raw) rows
    → ((k : ℕ) → k < length rows → contents (lnum + k) ≡ leb_text raw (get_or (map (map numbered_text) rows) k [])) → AreFilled raw contents lnum (map row_bytes rows)
rows_fill raw contents lnum rows some each held =
    let same = length-map rows row_bytes in
    record {
      some = All-from_recursion (λ (bytes : ℕ). (0 < bytes) × (bytes % 8 ≡ 0) × (bytes ≤ raw.leb_size)) (map row_bytes rows) (all_filled raw rows each);
      ends = λ k l.
          let text : contents (lnum + k) ≡ leb_text raw (map numbered_text (get_or rows k [])) = held k (omega (arith, l, same)) ∙ ap (leb_text raw) (get_or-map (map numbered_text) rows k []) in
          let used : get_or (map row_bytes rows) k 0 ≡ row_bytes (get_or rows k []) = get_or-map row_bytes rows k [] in
          ap (λ (n : ℕ). is_blank (drop (in_units raw.min_io n) (contents (lnum + k)))) used ∙ ap (λ leb. is_blank (drop (in_units raw.min_io (row_bytes (get_or rows k []))) leb)) text ∙ row_end raw (get_or rows k []) some;
    }
