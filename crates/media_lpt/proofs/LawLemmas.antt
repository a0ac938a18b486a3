-- Bytes are at most one node, and a node has one spelling.
use Rattle.std.proofs.Common.{◌≡◌, ◌⊎◌, ℕ, ◌+◌, ◌-◌, ◌*◌, ◌/◌, ◌^◌, ◌<◌, ◌≤◌, ◌==◌, Bool, true, false, List, [], ◌∷◌, length, drop, refl, ap, sym, ◌∙◌, arith, inl, inr, get_or-drop, length-drop, cond}
use Rattle.std.proofs.lemmas.Bool.{eq-eqb, cases_Bool, eqb-true}
use Rattle.std.specs.List.{flat_map, AllByRecursion}
use Rattle.ubifs_base.specs.Areas.{lpt_first}
use Rattle.ubifs_base.specs.Crc.{crc16_of}
use Rattle.ubifs_base.specs.CrcLaws.{crc16_of-lt}
use Rattle.ubifs_base.specs.NodeLaws.{IsBytes}
use Rattle.ubifs_base.specs.Properties.{fls, node_number_bits, space_bits, place_lnum_bits, place_offs_bits}
use Rattle.ubifs_base.specs.declared.raw_geometry.RawGeometry.{RawGeometry}
use Rattle.media_lpt.specs.declared.lprop.Lprop.{Lprop}
use Rattle.media_lpt.specs.declared.pnode.Pnode.{Pnode}
use Rattle.media_lpt.specs.declared.nnode.LptPlace.{LptPlace}
use Rattle.media_lpt.specs.declared.nnode.Nnode.{Nnode}
use Rattle.media_lpt.specs.declared.ltab.LptRow.{LptRow}
use Rattle.media_lpt.specs.Nodes.{lprop_fields, pnode_fields, IsInEights, IsPnodeBytes, place_fields, place_value, nnode_fields, IsPlace, IsNnodeBytes, row_fields, IsLtabBytes, lnum_bits, lnum_fields, IsLsaveBytes}
use Rattle.media_lpt.specs.Packed.{Field, field, packed_number, bytes_number, IsPacked, IsAt}
use Rattle.media_lpt.specs.PackedLaws.{packed-framed, same_items, bytes_number-inj}
use Rattle.media_lpt.proofs.NodeLemmas.{bits_len-lprop, bits_len-place}
use Rattle.media_lpt.proofs.PackingLemmas.{bytes_number-drop}
use Rattle.media_lpt.proofs.TableLemmas.{bits_len-row, bits_len-lnum}

same_flag : (a b : Bool) → cond {A = ℕ} a 1 0 ≡ cond b 1 0 → a ≡ b
same_flag true true e = refl
same_flag true false e = absurd (omega (arith, e))
same_flag false true e = absurd (omega (arith, e))
same_flag false false e = refl

same_lprop : (geo : RawGeometry) (bytes : List ℕ) (a b : Lprop) (bit : ℕ) → IsInEights a → IsInEights b → IsAt bytes bit (lprop_fields geo a) → IsAt bytes bit (lprop_fields geo b) → a ≡ b
unfolding lprop_fields IsAt
same_lprop geo bytes a b bit ia ib ha hb =
    let e1 : a.free / 8 ≡ b.free / 8 = ha.0 ∙ sym hb.0 in
    let e2 : a.dirty / 8 ≡ b.dirty / 8 = ha.1.0 ∙ sym hb.1.0 in
    let free : a.free ≡ b.free = omega (arith, e1, ia.0, ib.0) in
    let dirty : a.dirty ≡ b.dirty = omega (arith, e2, ia.1, ib.1) in
    let index : a.index ≡ b.index = same_flag a.index b.index (ha.1.1.0 ∙ sym hb.1.1.0) in
    let f : ℕ → Lprop = λ n. record { free = n; dirty = a.dirty; index = a.index } in
    let g : ℕ → Lprop = λ n. record { free = b.free; dirty = n; index = a.index } in
    let h : Bool → Lprop = λ i. record { free = b.free; dirty = b.dirty; index = i } in
    ap f free ∙ ap g dirty ∙ ap h index

pub one_pnode : (geo : RawGeometry) (bytes : List ℕ) (a b : Pnode) → IsBytes bytes → IsPnodeBytes geo bytes a → IsPnodeBytes geo bytes b → a ≡ b
unfolding pnode_fields IsAt
one_pnode geo bytes a b fits ha hb =
    let at_a = (packed-framed bytes 0 (pnode_fields geo a) fits (omega arith) ha.is.fit ha.packed).1 in
    let at_b = (packed-framed bytes 0 (pnode_fields geo b) fits (omega arith) hb.is.fit hb.packed).1 in
    let num : a.num ≡ b.num = at_a.0 ∙ sym at_b.0 in
    let props : a.props ≡ b.props = same_items (lprop_fields geo) IsInEights (2 * space_bits geo + 1) bytes (20 + node_number_bits geo) a.props b.props (bits_len-lprop geo)
    (λ x y bit. same_lprop geo bytes x y bit) (ha.is.four ∙ sym hb.is.four) ha.is.eights hb.is.eights at_a.1 at_b.1 in
    let f : ℕ → Pnode = λ n. record { num = n; props = a.props } in
    let g : List Lprop → Pnode = λ ps. record { num = b.num; props = ps } in
    ap f num ∙ ap g props

-- the value tells the LEB
value_cases : (geo : RawGeometry) (place : LptPlace) → IsPlace geo place → ((place.lnum ≡ 0) × (place_value geo place ≡ geo.lpt_lebs)) ⊎ ((place.lnum ≡ lpt_first geo + place_value geo place) × (place_value geo place < geo.lpt_lebs))
value_cases geo place is = elim (cases_Bool (place.lnum == 0)) [
  | inl none ↦ inl (eqb-true place.lnum 0 none, rw none refl)
  | inr some ↦ elim is [
    | inl zero_lnum ↦ absurd (let t = eq-eqb place.lnum 0 zero_lnum in cc)
    | inr within ↦ inr (rw some (let low = within.0 in omega (arith, low)), rw some (let low = within.0 in let high = within.1 in omega (arith, low, high)))
  ]
]

same_lnum : (geo : RawGeometry) (a b : LptPlace) → IsPlace geo a → IsPlace geo b → place_value geo a ≡ place_value geo b → a.lnum ≡ b.lnum
same_lnum geo a b ia ib e = elim (value_cases geo a ia) [
  | inl x ↦ elim (value_cases geo b ib) [
    | inl y ↦ x.0 ∙ sym y.0
    | inr y ↦ absurd (let p = x.1 in let q = y.1 in omega (arith, p, q, e))
  ]
  | inr x ↦ elim (value_cases geo b ib) [
    | inl y ↦ absurd (let p = x.1 in let q = y.1 in omega (arith, p, q, e))
    | inr y ↦ x.0 ∙ ap (λ n. lpt_first geo + n) e ∙ sym y.0
  ]
]

same_place : (geo : RawGeometry) (bytes : List ℕ) (a b : LptPlace) (bit : ℕ) → IsPlace geo a → IsPlace geo b → IsAt bytes bit (place_fields geo a) → IsAt bytes bit (place_fields geo b) → a ≡ b
unfolding place_fields IsAt
same_place geo bytes a b bit ia ib ha hb =
    let lnum : a.lnum ≡ b.lnum = same_lnum geo a b ia ib (ha.0 ∙ sym hb.0) in
    let offs : a.offs ≡ b.offs = ha.1.0 ∙ sym hb.1.0 in
    let f : ℕ → LptPlace = λ n. record { lnum = n; offs = a.offs } in
    let g : ℕ → LptPlace = λ n. record { lnum = b.lnum; offs = n } in
    ap f lnum ∙ ap g offs

pub one_nnode : (geo : RawGeometry) (bytes : List ℕ) (a b : Nnode) → IsBytes bytes → IsNnodeBytes geo bytes a → IsNnodeBytes geo bytes b → a ≡ b
unfolding nnode_fields IsAt
one_nnode geo bytes a b fits ha hb =
    let at_a = (packed-framed bytes 1 (nnode_fields geo a) fits (omega arith) ha.is.fit ha.packed).1 in
    let at_b = (packed-framed bytes 1 (nnode_fields geo b) fits (omega arith) hb.is.fit hb.packed).1 in
    let num : a.num ≡ b.num = at_a.0 ∙ sym at_b.0 in
    let places : a.places ≡ b.places = same_items (place_fields geo) (IsPlace geo) (place_lnum_bits geo + place_offs_bits geo) bytes (20 + node_number_bits geo) a.places b.places (bits_len-place geo)
    (λ x y bit. same_place geo bytes x y bit) (ha.is.four ∙ sym hb.is.four) ha.is.places hb.is.places at_a.1 at_b.1 in
    let f : ℕ → Nnode = λ n. record { num = n; places = a.places } in
    let g : List LptPlace → Nnode = λ ps. record { num = b.num; places = ps } in
    ap f num ∙ ap g places

-- nothing is asked of an item
all_any : {X : Type 0} (xs : List X) → AllByRecursion (λ _. Unit {0}) xs
all_any [] = tt
all_any (x ∷ xs) = (tt, all_any xs)

same_row : (geo : RawGeometry) (bytes : List ℕ) (a b : LptRow) (bit : ℕ) → IsAt bytes bit (row_fields geo a) → IsAt bytes bit (row_fields geo b) → a ≡ b
unfolding row_fields IsAt
same_row geo bytes a b bit ha hb =
    let free : a.free ≡ b.free = ha.0 ∙ sym hb.0 in
    let dirty : a.dirty ≡ b.dirty = ha.1.0 ∙ sym hb.1.0 in
    let f : ℕ → LptRow = λ n. record { free = n; dirty = a.dirty } in
    let g : ℕ → LptRow = λ n. record { free = b.free; dirty = n } in
    ap f free ∙ ap g dirty

pub one_ltab : (geo : RawGeometry) (bytes : List ℕ) (a b : List LptRow) → IsBytes bytes → IsLtabBytes geo bytes a → IsLtabBytes geo bytes b → a ≡ b
one_ltab geo bytes a b fits ha hb =
    let at_a = (packed-framed bytes 2 (flat_map (row_fields geo) a) fits (omega arith) ha.is.fit ha.packed).1 in
    let at_b = (packed-framed bytes 2 (flat_map (row_fields geo) b) fits (omega arith) hb.is.fit hb.packed).1 in
    same_items (row_fields geo) (λ _. Unit {0}) (2 * fls geo.leb_size) bytes 20 a b (bits_len-row geo) (λ x y bit _ _. same_row geo bytes x y bit) (ha.is.whole ∙ sym hb.is.whole) (all_any a) (all_any b) at_a at_b

same_number : (geo : RawGeometry) (bytes : List ℕ) (a b bit : ℕ) → IsAt bytes bit (lnum_fields geo a) → IsAt bytes bit (lnum_fields geo b) → a ≡ b
unfolding lnum_fields IsAt
same_number geo bytes a b bit ha hb = ha.0 ∙ sym hb.0

pub one_lsave : (geo : RawGeometry) (bytes : List ℕ) (a b : List ℕ) → IsBytes bytes → IsLsaveBytes geo bytes a → IsLsaveBytes geo bytes b → a ≡ b
one_lsave geo bytes a b fits ha hb =
    let at_a = (packed-framed bytes 3 (flat_map (lnum_fields geo) a) fits (omega arith) ha.is.fit ha.packed).1 in
    let at_b = (packed-framed bytes 3 (flat_map (lnum_fields geo) b) fits (omega arith) hb.is.fit hb.packed).1 in
    same_items (lnum_fields geo) (λ _. Unit {0}) (lnum_bits geo) bytes 20 a b (bits_len-lnum geo) (λ x y bit _ _. same_number geo bytes x y bit) (ha.is.whole ∙ sym hb.is.whole) (all_any a) (all_any b) at_a at_b

-- the bits above the checksum are those of the bytes behind it
behind : (bytes : List ℕ) (kind : ℕ) (fields : List Field) → 2 ≤ length bytes → IsBytes bytes → IsPacked bytes kind fields → bytes_number (drop 2 bytes) ≡ kind + 2 ^ 4 * packed_number fields
unfolding packed_number
behind bytes kind fields long fits h =
    let low = crc16_of-lt (drop 2 bytes) (λ i. rw get_or-drop (fits (2 + i))) in
    let s = h.spelled in
    sym (bytes_number-drop 2 bytes long fits) ∙ omega (arith, s, low)

pub one_packed : (a b : List ℕ) (kind : ℕ) (fields : List Field) → IsBytes a → IsBytes b → IsPacked a kind fields → IsPacked b kind fields → a ≡ b
one_packed a b kind fields fa fb ha hb =
    let la = ha.long in
    let lb = hb.long in
    let len : length a ≡ length b = la ∙ sym lb in
    let long_a : 2 ≤ length a = omega (arith, la) in
    let long_b : 2 ≤ length b = omega (arith, lb) in
    let rest : drop 2 a ≡ drop 2 b = bytes_number-inj (drop 2 a) (drop 2 b) (rw (length-drop, length-drop) (ap (λ n. n - 2) len)) (λ i. rw get_or-drop (fa (2 + i))) (λ i. rw get_or-drop (fb (2 + i)))
    (behind a kind fields long_a fa ha ∙ sym (behind b kind fields long_b fb hb)) in
    let same : bytes_number a ≡ bytes_number b = ha.spelled ∙ ap (λ r. packed_number (field 16 (crc16_of r) ∷ field 4 kind ∷ fields)) rest ∙ sym hb.spelled in
    bytes_number-inj a b len fa fb same
