-- The body of an entry node is read exactly where it is spelled.
use Rattle.std.proofs.Common.{◌≡◌, ℕ, suc, ◌+◌, ◌-◌, ◌*◌, ◌/◌, ◌%◌, ◌^◌, ◌<◌, ◌≤◌, ◌==◌, ◌||◌, not, nat_lt, nat_le, Bool, true, false, List, [], ◌∷◌, ◌++◌, length, take, drop, slice_index, get_or, refl, ap, sym, ◌∙◌, subst, arith, inl, inr, length-append, length-drop, get_or-drop, take-append-drop}
use Rattle.std.specs.List.{list_all}
use Rattle.std.specs.Prelude.{if◌then◌else◌}
use Rattle.std.proofs.Math.Seq.{take-append_seam, get_or-append_seam, drop-cons}
use Rattle.std.proofs.lemmas.List.{drop-drop, drop_all, length-take-le}
use Rattle.std.proofs.lemmas.Bool.{cases_Bool, ltb-false, le-ltb, eqb-true, eq-eqb, not-false, leb-true}
use Rattle.std.proofs.Math.Bool.{or-false}
use Rattle.byteorder.specs.Endian.{little_number}
use Rattle.ubifs_base.specs.Key.{key_words}
use Rattle.ubifs_base.specs.declared.key.Key.TheVariants.{Dent, Xent}
use Rattle.ubifs_base.specs.NodeLaws.{IsBytes}
use Rattle.ubifs_base.specs.R5.{r5_of, r5_from}
use Rattle.media_leaf.specs.declared.dent_node.DentNode.{DentNode}
use Rattle.media_leaf.specs.Entry.{is_name_byte, entry_fields, entry_tail, entry_at, entry_type, is_entry, is_named, read_entry}
use Rattle.node_fields.specs.FieldLaws.{reads_back, spelled, length-read}
use Rattle.node_fields.specs.Fields.{Spells}
use Rattle.media_leaf.specs.LeafNode.{leaf_form, entry}
use Rattle.node_fields.specs.Form.{IsBody}
use Rattle.node_fields.specs.FormLaws.{IsReader}
use Rattle.media_leaf.proofs.BodyTests.{IsTest, past, reader_of}

-- a hash has 29 bits
above_two : (masked : ℕ) → masked < 2 ^ 29 → (if nat_le masked 2 then masked + 3 else masked) < 2 ^ 29
above_two masked h = elim (cases_Bool (nat_le masked 2)) [
  | inl e ↦ rw e (let few = leb-true masked 2 e in omega (arith, few))
  | inr e ↦ rw e h
]

pub r5_of-lt : (name : List ℕ) → r5_of name < 2 ^ 29
unfolding r5_of
r5_of-lt name = above_two (r5_from 0 name % 2 ^ 29) (omega arith)

-- the words of an entry's key, by what it is an entry of
first_word : (dir hash : ℕ) (attribute : Bool) → (key_words (if attribute then Xent dir hash else Dent dir hash)).0 ≡ dir
first_word dir hash true = refl
first_word dir hash false = refl

second_word : (dir hash : ℕ) (attribute : Bool) → (key_words (if attribute then Xent dir hash else Dent dir hash)).1 ≡ (if attribute then 3 else 2) * 2 ^ 29 + hash
second_word dir hash true = refl
second_word dir hash false = refl

-- the type tells which
type_is : (attribute : Bool) → let kind : ℕ = if attribute then 3 else 2 in (kind == 2 || kind == 3) ≡ true
type_is true = refl
type_is false = refl

attribute_is : (attribute : Bool) → let kind : ℕ = if attribute then 3 else 2 in (kind == 3) ≡ attribute
attribute_is true = refl
attribute_is false = refl

kind_is : (kind : ℕ) → (kind == 2 || kind == 3) ≡ true → kind ≡ (if kind == 3 then 3 else 2)
kind_is kind h = elim (cases_Bool (kind == 3)) [
  | inl e ↦ rw e (eqb-true kind 3 e)
  | inr e ↦ let h' = rw e at h in rw e (eqb-true kind 2 (sym (or-false (kind == 2)) ∙ h'))
]

-- the name stands before the zero byte
name_at : (name body : List ℕ) → drop 32 body ≡ name ++ (0 ∷ []) → take (length name) (drop 32 body) ≡ name
name_at name body rest = ap (take (length name)) rest ∙ take-append_seam name (0 ∷ [])

zero_at : (name body : List ℕ) → drop 32 body ≡ name ++ (0 ∷ []) → slice_index body (32 + length name) ≡ 0
zero_at name body rest = sym (get_or-drop 32 body (length name) 0) ∙ ap (λ (b : List ℕ). get_or b (length name) 0) rest ∙ get_or-append_seam name 0 [] 0

name_and_zero : (size : ℕ) (body : List ℕ) → length body ≡ 33 + size → slice_index body (32 + size) ≡ 0 → drop 32 body ≡ take size (drop 32 body) ++ (0 ∷ [])
name_and_zero size body long zero_byte =
    let there : 32 + size < length body = omega (arith, long) in
    let none : drop (suc (32 + size)) body ≡ [] = drop_all (suc (32 + size)) body (omega (arith, long)) in
    let last : drop (32 + size) body ≡ 0 ∷ [] = drop-cons body (32 + size) 0 there ∙ rw (zero_byte, none) refl in
    sym (take-append-drop size (drop 32 body)) ∙ ap (λ (b : List ℕ). take size (drop 32 body) ++ b) (drop-drop size 32 body ∙ last)

byte_at_place : (place : ℕ) (body : List ℕ) → little_number 1 (drop place body) ≡ slice_index body place
byte_at_place place body =
    let e : slice_index (drop place body) 0 ≡ slice_index body (place + 0) = get_or-drop place body 0 0 in
    let same : place + 0 ≡ place = omega arith in
    let number : little_number 1 (drop place body) ≡ slice_index (drop place body) 0 = omega arith in
    number ∙ e ∙ ap (slice_index body) same

-- a type above a hash
type_above : (kind hash : ℕ) → hash < 2 ^ 29 → (kind * 2 ^ 29 + hash) / 2 ^ 29 ≡ kind
type_above kind hash h = omega arith

hash_below : (kind hash : ℕ) → hash < 2 ^ 29 → (kind * 2 ^ 29 + hash) % 2 ^ 29 ≡ hash
hash_below kind hash h = omega arith

passes : (kind : ℕ) (body : List ℕ) (node : DentNode) → IsBody leaf_form kind body (entry node) → is_entry kind body ≡ true
unfolding is_entry is_named
passes kind body node h =
    let name = node.name in
    let size = length name in
    let hash = r5_of name in
    let attribute = node.attribute in
    let inum_fits = h.is.inum_fits in
    let known = h.is.kind_known in
    let some = h.is.some in
    let most = h.is.most in
    let plain : list_all is_name_byte name ≡ true = h.is.plain in
    let type : kind ≡ entry_type node = h.kind_is in
    let P : ℕ → Type 0 = λ k. (k == 2 || k == 3) ≡ true in
    let back = reads_back 0 (entry_fields node) (entry_tail node) body (omega arith) h.spelled in
    let rest : drop 32 body ≡ name ++ (0 ∷ []) = back.rest in
    let second : little_number 4 (drop 4 body) ≡ kind * 2 ^ 29 + hash =
    back.numbers.1.0 ∙ second_word node.dir hash attribute ∙ ap (λ (k : ℕ). k * 2 ^ 29 + hash) (sym type) in
    let inum : little_number 8 (drop 16 body) ≡ node.inum = back.numbers.1.1.0 in
    let kind_byte : slice_index body 25 ≡ node.kind = sym (byte_at_place 25 body) ∙ back.numbers.1.1.1.0 in
    let long_name : little_number 2 (drop 26 body) ≡ size = back.numbers.1.1.1.1.0 in
    let wide : length (entry_tail node) ≡ size + 1 = length-append name (0 ∷ []) in
    let whole : length body ≡ 32 + length (entry_tail node) = length-read (entry_fields node) (entry_tail node) body back in
    let long : length body ≡ 33 + size = omega (arith, whole, wide) in
    let t0 : (kind == 2 || kind == 3) ≡ true = subst P (sym type) (type_is attribute) in
    let t1 : nat_lt (length body) 33 ≡ false = le-ltb (length body) 33 (omega (arith, long)) in
    let t2 : nat_lt 4294967295 node.inum ≡ false = le-ltb 4294967295 node.inum (omega (arith, inum_fits)) in
    let t3 : nat_lt 6 node.kind ≡ false = le-ltb 6 node.kind known in
    let t4 : nat_lt size 1 ≡ false = le-ltb size 1 some in
    let t5 : nat_lt 255 size ≡ false = le-ltb 255 size most in
    let t6 : (length body - 33 == size) ≡ true = eq-eqb (length body - 33) size (omega (arith, long)) in
    let t7 : (slice_index body (32 + size) == 0) ≡ true = eq-eqb (slice_index body (32 + size)) 0 (zero_at name body rest) in
    let t8 : take size (drop 32 body) ≡ name = name_at name body rest in
    let bits = r5_of-lt name in
    let high : (kind * 2 ^ 29 + hash) / 2 ^ 29 ≡ kind = type_above kind hash bits in
    let low : (kind * 2 ^ 29 + hash) % 2 ^ 29 ≡ hash = hash_below kind hash bits in
    let t9 : (kind == kind) ≡ true = eq-eqb kind kind refl in
    let t10 : (hash == hash) ≡ true = eq-eqb hash hash refl in
    rw (t0, t1, inum, t2, kind_byte, t3, long_name, t4, t5, t6, t7, t8, plain, second, high, t9, low, t10) refl

reads : (kind : ℕ) (body : List ℕ) (node : DentNode) → IsBody leaf_form kind body (entry node) → entry_at kind body ≡ node
unfolding entry_at
reads kind body node h =
    let name = node.name in
    let hash = r5_of name in
    let attribute = node.attribute in
    let type : kind ≡ entry_type node = h.kind_is in
    let Q : ℕ → Type 0 = λ k. (k == 3) ≡ attribute in
    let back = reads_back 0 (entry_fields node) (entry_tail node) body (omega arith) h.spelled in
    let rest : drop 32 body ≡ name ++ (0 ∷ []) = back.rest in
    let dir : little_number 4 body ≡ node.dir = back.numbers.0 ∙ first_word node.dir hash attribute in
    let inum : little_number 8 (drop 16 body) ≡ node.inum = back.numbers.1.1.0 in
    let kind_byte : slice_index body 25 ≡ node.kind = sym (byte_at_place 25 body) ∙ back.numbers.1.1.1.0 in
    let long_name : little_number 2 (drop 26 body) ≡ length name = back.numbers.1.1.1.1.0 in
    let there : take (length name) (drop 32 body) ≡ name = name_at name body rest in
    let which : (kind == 3) ≡ attribute = subst Q (sym type) (attribute_is attribute) in
    rw (inum, kind_byte, long_name, there, dir, which) refl

spells : (kind : ℕ) (body : List ℕ) → IsBytes body → is_entry kind body ≡ true → IsBody leaf_form kind body (entry (entry_at kind body))
unfolding is_entry is_named entry_at
spells kind body fits h =
    let second = little_number 4 (drop 4 body) in
    let inum = little_number 8 (drop 16 body) in
    let size = little_number 2 (drop 26 body) in
    let name = take size (drop 32 body) in
    let read : DentNode = entry_at kind body in
    let g0 = past (not (kind == 2 || kind == 3)) _ h in
    let g1 = past (nat_lt (length body) 33) _ g0.1 in
    let g2 = past (nat_lt 4294967295 inum) _ g1.1 in
    let g3 = past (nat_lt 6 (slice_index body 25)) _ g2.1 in
    let g4 = past (nat_lt size 1) _ g3.1 in
    let g5 = past (nat_lt 255 size) _ g4.1 in
    let g6 = past (not (length body - 33 == size)) _ g5.1 in
    let g7 = past (not (slice_index body (32 + size) == 0)) _ g6.1 in
    let g8 = past (not (list_all is_name_byte name)) _ g7.1 in
    let g9 = past (not (second / 2 ^ 29 == kind)) (second % 2 ^ 29 == r5_of name) g8.1 in
    let type : kind ≡ entry_type read = kind_is kind (not-false (kind == 2 || kind == 3) g0.0) in
    let room : 33 ≤ length body = ltb-false (length body) 33 g1.0 in
    let inum_most : inum ≤ 4294967295 = ltb-false 4294967295 inum g2.0 in
    let known : slice_index body 25 ≤ 6 = ltb-false 6 (slice_index body 25) g3.0 in
    let some : 1 ≤ size = ltb-false size 1 g4.0 in
    let most : size ≤ 255 = ltb-false 255 size g5.0 in
    let whole : length body - 33 ≡ size = eqb-true (length body - 33) size (not-false (length body - 33 == size) g6.0) in
    let long : length body ≡ 33 + size = omega (arith, room, whole) in
    let zero_byte : slice_index body (32 + size) ≡ 0 = eqb-true (slice_index body (32 + size)) 0 (not-false (slice_index body (32 + size) == 0) g7.0) in
    let plain : list_all is_name_byte name ≡ true = not-false (list_all is_name_byte name) g8.0 in
    let high : second / 2 ^ 29 ≡ kind = eqb-true (second / 2 ^ 29) kind (not-false (second / 2 ^ 29 == kind) g9.0) in
    let low : second % 2 ^ 29 ≡ r5_of name = eqb-true (second % 2 ^ 29) (r5_of name) g9.1 in
    let word : second ≡ kind * 2 ^ 29 + r5_of name = omega (arith, high, low) in
    let long_name : length name ≡ size = length-take-le size (drop 32 body) (let l = length-drop 32 body in omega (arith, l, long)) in
    let tail : drop 32 body ≡ entry_tail read = name_and_zero size body long zero_byte in
    let Q : List ℕ → Type 0 = λ t. Spells (entry_fields read) t body in
    let first_is = sym (first_word (little_number 4 body) (r5_of name) (kind == 3)) in
    let second_is = word ∙ ap (λ (k : ℕ). k * 2 ^ 29 + r5_of name) type ∙ sym (second_word (little_number 4 body) (r5_of name) (kind == 3)) in
    record {
      kind_is = type;
      spelled = subst Q tail (spelled 0 (entry_fields read) body fits (omega (arith, room)) (first_is, (second_is, (refl, (byte_at_place 25 body, (sym long_name, tt))))));
      is = record { inum_fits = omega (arith, inum_most); kind_known = known; some = rw long_name some; most = rw long_name most; plain = plain };
    }

pub entry_test : IsTest leaf_form entry is_entry entry_at
entry_test = record { passes = passes; reads = reads; spells = spells }

pub entry_reader : IsReader leaf_form entry read_entry
unfolding read_entry
entry_reader = reader_of leaf_form entry is_entry entry_at entry_test
