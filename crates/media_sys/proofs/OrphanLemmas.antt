-- The body of an orphan node is tested and read exactly where it is spelled.
use Rattle.std.proofs.Common.{◌≡◌, ℕ, zero, suc, ◌+◌, ◌-◌, ◌*◌, ◌/◌, ◌%◌, ◌^◌, ◌<◌, ◌≤◌, ◌&&◌, ◌==◌, nat_lt, nat_le, Bool, true, false, List, [], ◌∷◌, length, drop, get_or, refl, ap, ◌∙◌, arith}
use Rattle.std.specs.Prelude.{if◌then◌else◌}
use Rattle.std.specs.List.{flat_map, AllByRecursion}
use Rattle.std.proofs.lemmas.Bool.{eqb-true, eq-eqb, leb-true, le-leb, ltb-true, lt-ltb}
use Rattle.byteorder.specs.Endian.{little_number}
use Rattle.byteorder.specs.Numbers.{little_from-lt}
use Rattle.ubifs_base.specs.NodeLaws.{IsBytes}
use Rattle.node_fields.specs.Fields.{total_width, Reads}
use Rattle.node_fields.specs.FieldLaws.{reads_back, length-read}
use Rattle.node_fields.specs.Form.{IsBody}
use Rattle.media_sys.specs.Orphans.{Orphans, ino_fields, orphan_fields, inos_fit, inos_at, is_orphans, orphans_at}
use Rattle.media_sys.specs.SystemNode.{system_form, orphans}
use Rattle.media_sys.proofs.FieldLemmas.{total_width-flat_map}
use Rattle.media_sys.proofs.TestLemmas.{IsTest, each, all_spelled}

pub width : (ino : ℕ) → total_width (ino_fields ino) ≡ 8
width ino = refl

length-inos_at : (n place : ℕ) (body : List ℕ) → length (inos_at n place body) ≡ n
unfolding inos_at
length-inos_at zero place body = refl
length-inos_at (suc n) place body = ap suc (length-inos_at n (place + 8) body)

-- one inode number, and those behind it
pub fit-step : (n m p q : ℕ) (body : List ℕ) → n ≡ suc m → p + 8 ≡ q → inos_fit n p body ≡ (nat_lt (little_number 8 (drop p body)) (2 ^ 32) && inos_fit m q body)
unfolding inos_fit
fit-step n m p q body more next = ap (λ k. inos_fit k p body) more ∙ ap (λ r. nat_lt (little_number 8 (drop p body)) (2 ^ 32) && inos_fit m r body) next

-- inode numbers that stand in a body are read there, and they fit
record AreFound (inos : List ℕ) (place : ℕ) (body : List ℕ) : Type 0 where
  read : inos_at (length inos) place body ≡ inos
  fit : inos_fit (length inos) place body ≡ true

found : (inos : List ℕ) (place : ℕ) (body : List ℕ) → AllByRecursion (λ ino. ino < 2 ^ 32) inos → Reads place (flat_map ino_fields inos) body → AreFound inos place body
unfolding inos_at inos_fit
found [] place body below h = record { read = refl; fit = refl }
found (ino ∷ rest) place body below h =
    let first : little_number 8 (drop place body) ≡ ino = h.0 in
    let others = found rest (place + 8) body below.1 h.1 in
    let read = others.read in
    let fit = others.fit in
    let t : nat_lt ino (2 ^ 32) ≡ true = lt-ltb ino (2 ^ 32) below.0 in
    record { read = rw (first, read) refl; fit = rw (first, t, fit) refl }

-- inode numbers that fit are those that are read
record AreRead (n place : ℕ) (body : List ℕ) : Type 0 where
  below : AllByRecursion (λ ino. ino < 2 ^ 32) (inos_at n place body)
  read : Reads place (flat_map ino_fields (inos_at n place body)) body

read_all : (n place : ℕ) (body : List ℕ) → inos_fit n place body ≡ true → AreRead n place body
unfolding inos_at inos_fit
read_all zero place body h = record { below = tt; read = tt }
read_all (suc n) place body h =
    let ino = little_number 8 (drop place body) in
    let t = each (nat_lt ino (2 ^ 32)) (inos_fit n (place + 8) body) h in
    let others = read_all n (place + 8) body t.1 in
    record { below = (ltb-true ino (2 ^ 32) t.0, others.below); read = (refl, others.read) }

-- the commit's number below the highest bit
low_bits : (cmt_no : ℕ) (last : Bool) → cmt_no < 2 ^ 63 → (cmt_no + (if last then 2 ^ 63 else 0)) % 2 ^ 63 ≡ cmt_no
low_bits cmt_no true h = omega arith
low_bits cmt_no false h = omega arith

high_bit : (cmt_no : ℕ) (last : Bool) → cmt_no < 2 ^ 63 → ((cmt_no + (if last then 2 ^ 63 else 0)) / 2 ^ 63 == 1) ≡ last
high_bit cmt_no true h = let e : (cmt_no + 2 ^ 63) / 2 ^ 63 ≡ 1 = omega arith in rw e refl
high_bit cmt_no false h = let e : (cmt_no + 0) / 2 ^ 63 ≡ 0 = omega arith in rw e refl

two_parts : (q r : ℕ) → q < 2 → r + q * 2 ^ 63 ≡ r + (if q == 1 then 2 ^ 63 else 0)
two_parts zero r h = omega arith
two_parts (suc zero) r h = omega arith
two_parts (suc (suc q)) r h = absurd (omega arith)

whole_word : (word : ℕ) → word < 2 ^ 64 → word ≡ word % 2 ^ 63 + (if word / 2 ^ 63 == 1 then 2 ^ 63 else 0)
whole_word word h =
    let e : word ≡ word % 2 ^ 63 + word / 2 ^ 63 * 2 ^ 63 = omega arith in
    let q : word / 2 ^ 63 < 2 = omega arith in
    e ∙ two_parts (word / 2 ^ 63) (word % 2 ^ 63) q

takes : (kind : ℕ) (body : List ℕ) (node : Orphans) → IsBody system_form kind body (orphans node) → (is_orphans kind body ≡ true) × (orphans_at body ≡ node)
unfolding is_orphans orphans_at
takes kind body node h =
    let count = length node.inos in
    let back = reads_back 0 (orphan_fields node) [] body (omega arith) h.spelled in
    let n = back.numbers in
    let most = h.is.most in
    let there = found node.inos 8 body h.is.inos_fit n.1 in
    let wide : total_width (flat_map ino_fields node.inos) ≡ 8 * count = total_width-flat_map ino_fields 8 node.inos width in
    let whole : length body ≡ total_width (orphan_fields node) + 0 = length-read (orphan_fields node) [] body back in
    let long : length body ≡ 8 + 8 * count = omega (arith, whole, wide) in
    let word : little_number 8 body ≡ node.cmt_no + (if node.last then 2 ^ 63 else 0) = n.0 in
    let t0 : (kind == 11) ≡ true = eq-eqb kind 11 h.kind_is in
    let t1 : nat_le 8 (length body) ≡ true = le-leb 8 (length body) (omega (arith, long)) in
    let t2 : nat_lt (24 + length body) (2 ^ 32) ≡ true = lt-ltb (24 + length body) (2 ^ 32) (omega (arith, long, most)) in
    let t3 : (length body % 8 == 0) ≡ true = eq-eqb (length body % 8) 0 (omega (arith, long)) in
    let number : (length body - 8) / 8 ≡ count = omega (arith, long) in
    let fit = there.fit in
    let read = there.read in
    let low = low_bits node.cmt_no node.last h.is.cmt_fits in
    let high = high_bit node.cmt_no node.last h.is.cmt_fits in
    (rw (t0, t1, t2, t3, number, fit) refl, rw (word, number, low, high, read) refl)

gives : (kind : ℕ) (body : List ℕ) → IsBytes body → is_orphans kind body ≡ true → IsBody system_form kind body (orphans (orphans_at body))
unfolding is_orphans orphans_at
gives kind body fits h =
    let count = (length body - 8) / 8 in
    let word = little_number 8 body in
    let fit = inos_fit count 8 body in
    let t0 = each (kind == 11) (nat_le 8 (length body) && (nat_lt (24 + length body) (2 ^ 32) && (length body % 8 == 0 && fit))) h in
    let t1 = each (nat_le 8 (length body)) (nat_lt (24 + length body) (2 ^ 32) && (length body % 8 == 0 && fit)) t0.1 in
    let t2 = each (nat_lt (24 + length body) (2 ^ 32)) (length body % 8 == 0 && fit) t1.1 in
    let t3 = each (length body % 8 == 0) fit t2.1 in
    let room : 8 ≤ length body = leb-true 8 (length body) t1.0 in
    let most : 24 + length body < 2 ^ 32 = ltb-true (24 + length body) (2 ^ 32) t2.0 in
    let eights : length body % 8 ≡ 0 = eqb-true (length body % 8) 0 t3.0 in
    let long : length body ≡ 8 + 8 * count = omega (arith, room, eights) in
    let inos = inos_at count 8 body in
    let number : length inos ≡ count = length-inos_at count 8 body in
    let there = read_all count 8 body t3.1 in
    let below : word < 256 ^ 8 = little_from-lt 0 8 body fits in
    let wide : total_width (flat_map ino_fields inos) ≡ 8 * length inos = total_width-flat_map ino_fields 8 inos width in
    let whole : length body ≡ total_width (orphan_fields (orphans_at body)) = omega (arith, long, wide, number) in
    record {
      kind_is = eqb-true kind 11 t0.0;
      spelled = all_spelled (orphan_fields (orphans_at body)) body fits whole (whole_word word (omega (arith, below)), there.read);
      is = record { cmt_fits = omega arith; inos_fit = there.below; most = omega (arith, most, long, number) };
    }

pub orphans_test : IsTest system_form orphans is_orphans orphans_at
orphans_test = record { takes = takes; gives = gives }

-- what holds of each inode number holds of all
pub all_below : (inos : List ℕ) → ((i : ℕ) → get_or inos i 0 < 2 ^ 32) → AllByRecursion (λ ino. ino < 2 ^ 32) inos
all_below [] h = tt
all_below (ino ∷ rest) h = (h 0, all_below rest (λ i. h (suc i)))
