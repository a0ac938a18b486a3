-- The body of a superblock node is tested and read exactly where it is spelled.
use Rattle.std.proofs.Common.{◌≡◌, ℕ, zero, suc, ◌+◌, ◌^◌, ◌<◌, ◌≤◌, ◌==◌, true, List, [], ◌∷◌, length, take, drop, slice_index, get_or, refl, sym, ap, ◌∙◌, subst, arith, get_or-drop, length-drop, take_all}
use Rattle.std.proofs.lemmas.Bool.{eqb-true, eq-eqb}
use Rattle.byteorder.specs.Endian.{little_bytes, little_number}
use Rattle.byteorder.specs.Numbers.{little_from-lt, little_number-reads_back, length-bytes_low_first}
use Rattle.ubifs_base.specs.NodeLaws.{IsBytes, little_bytes-number}
use Rattle.node_fields.specs.FieldLaws.{IsRead, reads_back, length-read}
use Rattle.node_fields.specs.Form.{IsBody}
use Rattle.media_sys.specs.declared.super_node.Super.{Super}
use Rattle.media_sys.specs.Superblock.{super_fields, is_super, super_at}
use Rattle.media_sys.specs.SystemNode.{system_form, superblock}
use Rattle.media_sys.proofs.TestLemmas.{IsTest, both, each, all_spelled}

pub byte_at_place : (place : ℕ) (body : List ℕ) → little_number 1 (drop place body) ≡ slice_index body place
byte_at_place place body =
    let e : slice_index (drop place body) 0 ≡ slice_index body (place + 0) = get_or-drop place body 0 0 in
    let same : place + 0 ≡ place = omega arith in
    let number : little_number 1 (drop place body) ≡ slice_index (drop place body) 0 = omega arith in
    number ∙ e ∙ ap (slice_index body) same

-- so many bytes are the bytes of their number
pub bytes_of_number : (n : ℕ) (bytes : List ℕ) → length bytes ≡ n → IsBytes bytes → little_bytes n (little_number n bytes) ≡ bytes
bytes_of_number n bytes long fits = little_bytes-number n bytes (omega (arith, long)) fits ∙ take_all n bytes (omega (arith, long))

at_fields : (node : Super) (body : List ℕ) → length node.uuid ≡ 16 → IsBytes node.uuid → IsRead 0 (super_fields node) [] body → super_at body ≡ node
unfolding super_at
at_fields node body long fits h =
    let n0 = h.numbers in
    let n4 = n0.1.1.1.1 in
    let n8 = n4.1.1.1.1 in
    let n12 = n8.1.1.1.1 in
    let n16 = n12.1.1.1.1 in
    let n20 = n16.1.1.1.1 in
    let hash : slice_index body 2 ≡ node.key_hash = sym (byte_at_place 2 body) ∙ n0.0 in
    let format : slice_index body 3 ≡ node.key_fmt = sym (byte_at_place 3 body) ∙ n0.1.0 in
    let uuid : little_bytes 16 (little_number 16 node.uuid) ≡ node.uuid = bytes_of_number 16 node.uuid long fits in
    rw (
      hash,
      format,
      n0.1.1.0,
      n0.1.1.1.0,
      n4.0,
      n4.1.0,
      n4.1.1.0,
      n4.1.1.1.0,
      n8.0,
      n8.1.0,
      n8.1.1.0,
      n8.1.1.1.0,
      n12.0,
      n12.1.0,
      n12.1.1.0,
      n12.1.1.1.0,
      n16.0,
      n16.1.0,
      n16.1.1.0,
      n16.1.1.1.0,
      n20.0,
      n20.1.0,
      uuid,
    ) refl

takes : (kind : ℕ) (body : List ℕ) (node : Super) → IsBody system_form kind body (superblock node) → (is_super kind body ≡ true) × (super_at body ≡ node)
unfolding is_super
takes kind body node h =
    let back = reads_back 0 (super_fields node) [] body (omega arith) h.spelled in
    let long : length body ≡ 4072 = length-read (super_fields node) [] body back in
    (both (kind == 6) (length body == 4072) (eq-eqb kind 6 h.kind_is) (eq-eqb (length body) 4072 long), at_fields node body h.is.sixteen h.is.bytes back)

pub take_byte : (n : ℕ) (xs : List ℕ) (i : ℕ) → IsBytes xs → get_or (take n xs) i 0 < 256
take_byte zero xs i fits = omega arith
take_byte (suc n) [] i fits = fits i
take_byte (suc n) (x ∷ xs) zero fits = fits 0
take_byte (suc n) (x ∷ xs) (suc i) fits = take_byte n xs i (λ i. fits (suc i))

-- the bytes of a number are bytes
part_bytes : (n place : ℕ) (body : List ℕ) → IsBytes body → place + n ≤ length body → IsBytes (little_bytes n (little_number n (drop place body)))
part_bytes n place body fits long =
    let part : IsBytes (drop place body) = λ i. rw get_or-drop (fits (place + i)) in
    let e : little_bytes n (little_number n (drop place body)) ≡ take n (drop place body) = little_bytes-number n (drop place body) (rw length-drop (omega arith)) part in
    let P : List ℕ → Type 0 = λ b. IsBytes b in
    subst P (sym e) (λ i. take_byte n (drop place body) i part)

gives : (kind : ℕ) (body : List ℕ) → IsBytes body → is_super kind body ≡ true → IsBody system_form kind body (superblock (super_at body))
unfolding is_super super_at
gives kind body fits h =
    let t = each (kind == 6) (length body == 4072) h in
    let long : length body ≡ 4072 = eqb-true (length body) 4072 t.1 in
    let number = little_number 16 (drop 84 body) in
    let below : number < 256 ^ 16 = little_from-lt 0 16 (drop 84 body) (λ i. rw get_or-drop (fits (84 + i))) in
    let uuid : number ≡ little_number 16 (little_bytes 16 number) = sym (little_number-reads_back 16 number [] below) in
    record {
      kind_is = eqb-true kind 6 t.0;
      spelled = all_spelled (super_fields (super_at body)) body fits long
          (byte_at_place 2 body, (byte_at_place 3 body, (refl, (refl, (refl, (refl, (refl, (refl, (refl, (refl, (refl, (refl, (refl, (refl, (refl, (refl, (refl, (refl, (refl, (refl, (uuid, (refl, tt))))))))))))))))))))));
      is = record { sixteen = length-bytes_low_first 0 16 number; bytes = part_bytes 16 84 body fits (omega (arith, long)) };
    }

pub super_test : IsTest system_form superblock is_super super_at
super_test = record { takes = takes; gives = gives }
