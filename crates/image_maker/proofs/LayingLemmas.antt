-- Nodes go into the open LEB, and the open LEB onto the volume.
use Rattle.std.proofs.Common.{◌≡◌, ℕ, ◌+◌, ◌-◌, ◌*◌, ◌^◌, ◌<◌, ◌≤◌, suc, List, [], ◌∷◌, ◌++◌, length, map, get_or, sym, ◌∙◌, ap, subst, arith, append_assoc, length-append, add-one, inl, inr, ◌⊎◌}
use Rattle.std.specs.List.{concat, flat_map, AllByRecursion}
use Rattle.std.proofs.lemmas.List.{append-nil, length-map, map-append}
use Rattle.std.proofs.lemmas.Bool.{cases_lt}
use Rattle.std.proofs.lemmas.List.Folds.{concat-append}
use Rattle.std.proofs.lemmas.List.Sums.{sum_by-append}
use Rattle.std.proofs.lemmas.Grind.{flat_map-append}
use Rattle.std.proofs.Math.Nat.{suc-mul}
use Rattle.std.proofs.Math.ListN.{get_or-append}
use Rattle.std.proofs.Math.Seq.{get_or-append_seam}
use Rattle.ubifs_base.specs.declared.raw_geometry.RawGeometry.{RawGeometry}
use Rattle.ubifs_base.specs.Areas.{main_first}
use Rattle.ubifs_base.specs.Geometry.{leb_reserve}
use Rattle.media_leaf.specs.LeafNode.{LeafNode}
use Rattle.ubi_volume.specs.Volume.{filled}
use Rattle.leaf_map.specs.Kept.{Placed, kept_at}
use Rattle.index_tree.specs.declared.leaf.Leaf.{Leaf}
use Rattle.image_maker.specs.declared.laid_leaves.LaidLeaves.{LaidLeaves}
use Rattle.image_maker.specs.declared.open_leb.OpenLeb.{OpenLeb}
use Rattle.image_maker.specs.Image.{leb_text, to_unit, AreHeld, IsImage}
use Rattle.image_maker.specs.Laying.{TakesLeaf, AreLeafNodesLaid, IsLeafLebClosed}
use Rattle.image_maker.specs.Packed.{packed_leaves}
use Rattle.image_maker.specs.Places.{AreLaid, IsWrittenLeaf, numbered_leaves, numbered_text, placed_leaf, placed_rows, row_bytes}
use Rattle.image_maker.proofs.Rows.{all-row, flat_texts, length_texts, numbered-append, placed-next, placed-none, texts_are}
use Rattle.group_nodes.specs.Texts.{padded_leaf_bytes, leaf_text}

abbrev leaf_there : Placed → Leaf
leaf_there x = (kept_at x).leaf

-- the buffer has the bytes of the last row
pub buffer_bytes : (raw : RawGeometry) (leaves : List LeafNode) (open_leb : OpenLeb) (holds : ℕ → List ℕ) → (h : AreLeafNodesLaid raw leaves open_leb holds) → length open_leb.bytes.items ≡ row_bytes h.last
buffer_bytes raw leaves open_leb holds h = ap length h.buffer ∙ length_texts h.last

-- one node more
pub IsLaid-append : (raw : RawGeometry) (leaves : List LeafNode) (leaf : LeafNode) (before after : OpenLeb) (holds : ℕ → List ℕ)
    → TakesLeaf leaf before after
    → AreLeafNodesLaid raw leaves before holds
    → AreLeafNodesLaid raw (leaves ++ leaf ∷ []) after holds
IsLaid-append raw leaves leaf before after holds new h =
    let text = leaf_text before.sqnum 0 leaf in
    let n : ℕ × LeafNode = (before.sqnum, leaf) in
    let number : before.sqnum ≡ 1 + length leaves = let k = h.number in omega (arith, k) in
    let numbers : numbered_leaves 1 leaves ++ n ∷ [] ≡ numbered_leaves 1 (leaves ++ leaf ∷ []) =
    ap (λ (k : ℕ). numbered_leaves 1 leaves ++ (k, leaf) ∷ []) number ∙ sym (numbered-append 1 leaves leaf) in
    let texts : map numbered_text (h.last ++ n ∷ []) ≡ map numbered_text h.last ++ text ∷ [] = map-append numbered_text h.last (n ∷ []) in
    let places : placed_leaf before.lnum (length before.bytes.items) n ≡ placed_leaf (main_first raw + length h.rows) (row_bytes h.last) n =
    ap (λ (k : ℕ). placed_leaf k (length before.bytes.items) n) h.place ∙ ap (λ (k : ℕ). placed_leaf (main_first raw + length h.rows) k n) (buffer_bytes raw leaves before holds h) in
    let rows = placed_rows (main_first raw) (h.rows ++ h.last ∷ []) in
    let e1 = length-append leaves (leaf ∷ []) in
    let e2 = sum_by-append padded_leaf_bytes leaves (leaf ∷ []) in
    let taken = h.taken in
    let len = new.len in
    let sqnum = new.sqnum in
    record {
      rows = h.rows;
      last = h.last ++ n ∷ [];
      all = sym (append_assoc (flat_map (λ row. row) h.rows) h.last (n ∷ [])) ∙ ap (λ x. x ++ n ∷ []) h.all ∙ numbers;
      each = h.each;
      buffer = new.bytes ∙ ap (λ x. x ++ text) h.buffer ∙ ap (λ x. concat (map numbered_text h.last) ++ x) (sym (append-nil text)) ∙ sym (concat-append (map numbered_text h.last) (text ∷ [])) ∙ ap concat (sym texts);
      place = new.lnum ∙ h.place;
      number = omega (arith, sqnum, number, e1);
      held = h.held;
      taken = omega (arith, taken, len, e2);
      leaves_are =
          new.leaves
          ∙ ap (λ x. x ++ leaf_there (placed_leaf before.lnum (length before.bytes.items) n) ∷ []) h.leaves_are
          ∙ ap (λ (x : Placed). map leaf_there rows ++ leaf_there x ∷ []) places
          ∙ sym (map-append leaf_there rows (placed_leaf (main_first raw + length h.rows) (row_bytes h.last) n ∷ []))
          ∙ ap (map leaf_there) (sym (placed-next (main_first raw) h.rows h.last n));
      used = new.used ∙ h.used;
    }

below_next : (k n : ℕ) → k < n + 1 → (k < n) ⊎ (n ≡ k)
below_next k n h = elim (cases_lt k n) [ inl below ↦ inl below | inr other ↦ inr (omega (arith, h, other)) ]

-- what the volume holds once the open LEB is written
held-closed : (raw : RawGeometry) (parts : List (List (List ℕ))) (last : List (List ℕ)) (before after : OpenLeb) (old new : ℕ → List ℕ)
    → before.lnum ≡ main_first raw + length parts → before.bytes.items ≡ concat last → AreHeld raw parts old → IsLeafLebClosed raw before after old new → AreHeld raw (parts ++ last ∷ []) new
held-closed raw parts last before after old new place buffer held closed =
    let n = length parts in
    let more : length (parts ++ last ∷ []) ≡ n + 1 = length-append parts (last ∷ []) in
    record {
      main = λ k inside.
          let P : ℕ → Type 0 = λ j. new (main_first raw + j) ≡ leb_text raw (get_or (parts ++ last ∷ []) j []) in
          let cases : (k < n) ⊎ (n ≡ k) = below_next k n (omega (arith, inside, more)) in
          elim cases [
            | inl early ↦
                closed.others (main_first raw + k) (λ e. omega (arith, e, place, early))
                ∙ held.main k early
                ∙ ap (leb_text raw) (sym (get_or-append parts (last ∷ []) [] k early))
            | inr at ↦ subst P at (
                ap new (sym place)
                ∙ closed.holds
                ∙ ap (λ b. filled raw.leb_size (to_unit raw.min_io b)) buffer
                ∙ ap (leb_text raw) (sym (get_or-append_seam parts last [] []))
                )
          ];
      before = λ k early. closed.others k (λ e. omega (arith, e, place, early)) ∙ held.before k early;
      behind = λ k late inside. closed.others k (λ e. omega (arith, e, place, late, more)) ∙ held.behind k (omega (arith, late, more)) inside;
    }

pub AreHeld-closed : (raw : RawGeometry) (leaves : List LeafNode) (before after : OpenLeb) (old new : ℕ → List ℕ)
    → (h : AreLeafNodesLaid raw leaves before old) → IsLeafLebClosed raw before after old new → AreHeld raw (map (map numbered_text) (h.rows ++ h.last ∷ [])) new
AreHeld-closed raw leaves before after old new h closed =
    let place : before.lnum ≡ main_first raw + length (map (map numbered_text) h.rows) = h.place ∙ ap (λ (k : ℕ). main_first raw + k) (sym (length-map h.rows (map numbered_text))) in
    subst (λ parts. AreHeld raw parts new) (sym (map-append (map numbered_text) h.rows (h.last ∷ [])))
    (held-closed raw (map (map numbered_text) h.rows) (map numbered_text h.last) before after old new place h.buffer h.held closed)

flat_map-close : (rows : List (List (ℕ × LeafNode))) (last : List (ℕ × LeafNode)) → flat_map (λ row. row) (rows ++ last ∷ []) ≡ flat_map (λ row. row) rows ++ last
flat_map-close rows last =
    flat_map-append (λ row. row) rows (last ∷ []) ∙ ap (λ x. flat_map (λ row. row) rows ++ x) (append-nil last)

used-close : (raw : RawGeometry) (leaves : List LeafNode) (before after : OpenLeb) (old new : ℕ → List ℕ)
    → (h : AreLeafNodesLaid raw leaves before old) → IsLeafLebClosed raw before after old new → after.used.items ≡ map row_bytes (h.rows ++ h.last ∷ [])
used-close raw leaves before after old new h closed =
    closed.used
    ∙ ap (λ x. x ++ length before.bytes.items ∷ []) h.used
    ∙ ap (λ (k : ℕ). map row_bytes h.rows ++ k ∷ []) (buffer_bytes raw leaves before old h)
    ∙ sym (map-append row_bytes h.rows (h.last ∷ []))

-- the next LEB is open, and took nothing
pub IsLaid-close : (raw : RawGeometry) (leaves : List LeafNode) (before after : OpenLeb) (old new : ℕ → List ℕ)
    → raw.leb_size - leb_reserve raw ≤ length before.bytes.items
    → 0 < length before.bytes.items
    → length before.bytes.items ≤ raw.leb_size
    → IsLeafLebClosed raw before after old new
    → AreLeafNodesLaid raw leaves before old
    → AreLeafNodesLaid raw leaves after new
IsLaid-close raw leaves before after old new full some most closed h =
    let beside = raw.leb_size - leb_reserve raw in
    let more : length (h.rows ++ h.last ∷ []) ≡ suc (length h.rows) = length-append h.rows (h.last ∷ []) ∙ add-one (length h.rows) in
    let taken = h.taken in
    let bytes = buffer_bytes raw leaves before old h in
    let empty : length after.bytes.items ≡ 0 = ap length closed.bytes in
    let product : length (h.rows ++ h.last ∷ []) * beside ≡ length h.rows * beside + beside =
    ap (λ (x : ℕ). x * beside) more ∙ suc-mul (length h.rows) beside in
    record {
      rows = h.rows ++ h.last ∷ [];
      last = [];
      all = append-nil (flat_map (λ row. row) (h.rows ++ h.last ∷ [])) ∙ flat_map-close h.rows h.last ∙ h.all;
      each = all-row raw h.rows h.last h.each (record { some = omega (arith, bytes, some); most = omega (arith, bytes, most) });
      buffer = closed.bytes;
      place = let p = h.place in let q = closed.lnum in omega (arith, p, q, more);
      number = closed.sqnum ∙ h.number;
      held = AreHeld-closed raw leaves before after old new h closed;
      taken = omega (arith, taken, full, empty, product);
      leaves_are = closed.leaves ∙ h.leaves_are ∙ ap (map leaf_there) (sym (placed-none (main_first raw) (h.rows ++ h.last ∷ [])));
      used = used-close raw leaves before after old new h closed;
    }

-- once the last LEB is written, all leaves are laid
pub AreLaid-close : (raw : RawGeometry) (leaves : List LeafNode) (before after : OpenLeb) (old new : ℕ → List ℕ) (laid : LaidLeaves)
    → before.lnum + 2 ≤ raw.leb_cnt
    → 0 < length before.bytes.items
    → length before.bytes.items ≤ raw.leb_size
    → AllByRecursion IsWrittenLeaf (numbered_leaves 1 leaves)
    → length leaves ≤ 2 ^ 30
    → laid.leaves.items ≡ after.leaves.items
    → laid.used.items ≡ after.used.items
    → laid.sqnum ≡ after.sqnum
    → before.used.items ++ length before.bytes.items ∷ [] ≡ packed_leaves raw.leb_size 0 leaves
    → IsLeafLebClosed raw before after old new
    → AreLeafNodesLaid raw leaves before old
    → AreLaid raw leaves new laid
AreLaid-close raw leaves before after old new laid inside some most nodes few places used sqnum packs closed h =
    let more : length (h.rows ++ h.last ∷ []) ≡ length h.rows + 1 = length-append h.rows (h.last ∷ []) in
    let place = h.place in
    let bytes = buffer_bytes raw leaves before old h in
    record {
      rows = h.rows ++ h.last ∷ [];
      all = flat_map-close h.rows h.last ∙ h.all;
      each = all-row raw h.rows h.last h.each (record { some = omega (arith, bytes, some); most = omega (arith, bytes, most) });
      held = AreHeld-closed raw leaves before after old new h closed;
      nodes = nodes;
      leaves_are = places ∙ closed.leaves ∙ h.leaves_are;
      used = used ∙ used-close raw leaves before after old new h closed;
      packed = used ∙ closed.used ∙ packs;
      sqnum = sqnum ∙ closed.sqnum ∙ h.number;
      few = few;
      room = omega (arith, more, place, inside);
    }

-- and the image is whole
pub IsImage-laid : (raw : RawGeometry) (leaves : List LeafNode) (holds : ℕ → List ℕ) (laid : LaidLeaves) → AreLaid raw leaves holds laid → IsImage raw leaves holds
IsImage-laid raw leaves holds laid h =
    let same = length-map h.rows (map numbered_text) in
    let room = h.room in
    record {
      parts = map (map numbered_text) h.rows;
      all = flat_texts h.rows ∙ ap (map numbered_text) h.all ∙ texts_are 1 leaves;
      few = omega (arith, same, room);
      held = h.held;
    }
