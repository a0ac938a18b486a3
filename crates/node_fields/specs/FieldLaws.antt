-- How fields are read: by the numbers at their places, and in no other way.
use Rattle.std.specs.Prelude.{◌≡◌, ℕ, ◌+◌, ◌-◌, ◌^◌, ◌<◌, ◌≤◌, List, [], ◌∷◌, ◌++◌, length, take, drop, replicate, min}
use Rattle.std.proofs.Common.{refl, ap, sym, ◌∙◌, arith, subst, length-drop, length-take, length-append, drop-drop, take-append-drop, get_or-drop}
use Rattle.std.proofs.lemmas.List.{length-replicate}
use Rattle.std.proofs.Math.Seq.{take-append_seam, drop-append_seam}
use Rattle.byteorder.specs.Endian.{little_bytes, little_number}
use Rattle.byteorder.specs.Numbers.{little_from-lt, little_number-reads_back, length-bytes_low_first}
use Rattle.ubifs_base.specs.NodeLaws.{IsBytes, little_bytes-number}
use Rattle.node_fields.specs.Fields.{Field, number, ignored, Spells, spelling, total_width, AllFit, Reads}

-- what is spelled is read
pub record IsRead (place : ℕ) (fields : List Field) (tail bytes : List ℕ) : Type 0 where
  pub long : place + total_width fields ≤ length bytes
  pub numbers : Reads place fields bytes
  pub rest : drop (place + total_width fields) bytes ≡ tail

-- a number that is spelled is the one that is read
one_number : (width value : ℕ) (bytes : List ℕ) → value < 256 ^ width → take width bytes ≡ little_bytes width value
    → (width ≤ length bytes) × (little_number width bytes ≡ value)
one_number width value bytes fits h =
    let e : min width (length bytes) ≡ width = sym (length-take width bytes) ∙ ap length h ∙ length-bytes_low_first 0 width value in
    let whole : bytes ≡ little_bytes width value ++ drop width bytes = sym (take-append-drop width bytes) ∙ ap (λ b. b ++ drop width bytes) h in
    (omega (arith, e), ap (little_number width) whole ∙ little_number-reads_back width value (drop width bytes) fits)

pub reads_back : (place : ℕ) (fields : List Field) (tail bytes : List ℕ) → place ≤ length bytes → Spells fields tail (drop place bytes) → IsRead place fields tail bytes
unfolding Spells
reads_back place [] tail bytes long h =
    let e : place + 0 ≡ place = omega arith in
    record { long = omega (arith, long); numbers = tt; rest = rw e h }
reads_back place (number width value ∷ fields) tail bytes long h =
    let first = one_number width value (drop place bytes) h.0 h.1 in
    let P : List ℕ → Type 0 = λ b. Spells fields tail b in
    let wide = first.0 in
    let fewer : place + width ≤ length bytes = let l = length-drop place bytes in omega (arith, l, wide, long) in
    let others = reads_back (place + width) fields tail bytes fewer (subst P (drop-drop width place bytes) h.2) in
    let e : place + (width + total_width fields) ≡ place + width + total_width fields = omega arith in
    record {
      long = let l = others.long in omega (arith, l);
      numbers = (first.1, others.numbers);
      rest = rw e others.rest;
    }
reads_back place (ignored width ∷ fields) tail bytes long h =
    let P : List ℕ → Type 0 = λ b. Spells fields tail b in
    let wide = h.0 in
    let fewer : place + width ≤ length bytes = let l = length-drop place bytes in omega (arith, l, wide, long) in
    let others = reads_back (place + width) fields tail bytes fewer (subst P (drop-drop width place bytes) h.1) in
    let e : place + (width + total_width fields) ≡ place + width + total_width fields = omega arith in
    record {
      long = let l = others.long in omega (arith, l);
      numbers = others.numbers;
      rest = rw e others.rest;
    }

-- fields and tail are all
pub length-read : (fields : List Field) (tail bytes : List ℕ) → IsRead 0 fields tail bytes → length bytes ≡ total_width fields + length tail
length-read fields tail bytes h =
    let long = h.long in
    let e : length bytes - (0 + total_width fields) ≡ length tail = sym (length-drop (0 + total_width fields) bytes) ∙ ap length h.rest in
    omega (arith, long, e)

-- what is read is spelled
pub spelled : (place : ℕ) (fields : List Field) (bytes : List ℕ) → IsBytes bytes → place + total_width fields ≤ length bytes → Reads place fields bytes
    → Spells fields (drop (place + total_width fields) bytes) (drop place bytes)
unfolding Spells
spelled place [] bytes fits long h = let e : place + 0 ≡ place = omega arith in rw e refl
spelled place (number width value ∷ fields) bytes fits long h =
    let part : IsBytes (drop place bytes) = λ i. rw get_or-drop (fits (place + i)) in
    let wide : width ≤ length (drop place bytes) = rw length-drop (omega (arith, long)) in
    let P : List ℕ → Type 0 = λ b. Spells fields (drop (place + (width + total_width fields)) bytes) b in
    let e : place + width + total_width fields ≡ place + (width + total_width fields) = omega arith in
    let Q : ℕ → Type 0 = λ n. Spells fields (drop n bytes) (drop (place + width) bytes) in
    let others = subst Q e (spelled (place + width) fields bytes fits (omega (arith, long)) h.1) in (
      subst (λ (n : ℕ). n < 256 ^ width) h.0 (little_from-lt 0 width (drop place bytes) part),
      sym (little_bytes-number width (drop place bytes) wide part) ∙ ap (little_bytes width) h.0,
      subst P (sym (drop-drop width place bytes)) others,
    )
spelled place (ignored width ∷ fields) bytes fits long h =
    let P : List ℕ → Type 0 = λ b. Spells fields (drop (place + (width + total_width fields)) bytes) b in
    let e : place + width + total_width fields ≡ place + (width + total_width fields) = omega arith in
    let Q : ℕ → Type 0 = λ n. Spells fields (drop n bytes) (drop (place + width) bytes) in
    let others = subst Q e (spelled (place + width) fields bytes fits (omega (arith, long)) h) in
    (rw length-drop (omega (arith, long)), subst P (sym (drop-drop width place bytes)) others)

take_front : (n : ℕ) (front back : List ℕ) → length front ≡ n → take n (front ++ back) ≡ front
take_front n front back e = ap (λ k. take k (front ++ back)) (sym e) ∙ take-append_seam front back

drop_front : (n : ℕ) (front back : List ℕ) → length front ≡ n → drop n (front ++ back) ≡ back
drop_front n front back e = ap (λ k. drop k (front ++ back)) (sym e) ∙ drop-append_seam front back

-- the one spelling is one
pub spelling_spells : (fields : List Field) (tail : List ℕ) → AllFit fields → Spells fields tail (spelling fields tail)
unfolding Spells spelling
spelling_spells [] tail h = refl
spelling_spells (number width value ∷ fields) tail h =
    let back = spelling fields tail in
    let front = little_bytes width value in
    let e : length front ≡ width = length-bytes_low_first 0 width value in
    let P : List ℕ → Type 0 = λ b. Spells fields tail b in
    (h.0, take_front width front back e, subst P (sym (drop_front width front back e)) (spelling_spells fields tail h.1))
spelling_spells (ignored width ∷ fields) tail h =
    let back = spelling fields tail in
    let front = replicate width 0 in
    let e : length front ≡ width = length-replicate {A = ℕ} width 0 in
    let P : List ℕ → Type 0 = λ b. Spells fields tail b in
    let long : length (front ++ back) ≡ length front + length back = length-append front back in
    (omega (arith, e, long), subst P (sym (drop_front width front back e)) (spelling_spells fields tail h))

pub length-spelling : (fields : List Field) (tail : List ℕ) → length (spelling fields tail) ≡ total_width fields + length tail
unfolding spelling
length-spelling [] tail = omega arith
length-spelling (number width value ∷ fields) tail =
    let a = length-append (little_bytes width value) (spelling fields tail) in
    let b = length-bytes_low_first 0 width value in
    let c = length-spelling fields tail in
    omega (arith, a, b, c)
length-spelling (ignored width ∷ fields) tail =
    let a = length-append (replicate width 0) (spelling fields tail) in
    let b = length-replicate {A = ℕ} width 0 in
    let c = length-spelling fields tail in
    omega (arith, a, b, c)
