-- What is true of every volume in memory.
use Rattle.std.specs.Prelude.{◌≡◌, ◌⊎◌, IsTrue, ℕ, ◌-◌, ◌<◌, ◌≤◌, List, [], Option, Some, None, slice_get, length, drop, replicate, All}
use Rattle.std.proofs.Common.{inl, inr, ap, arith, subst, sym}
use Rattle.std.proofs.lemmas.Option.{slice_get_cases, slice_get_past}
use Rattle.ubifs_base.specs.NodeLaws.{IsBytes}
use Rattle.ubi_volume.specs.Volume.{IsLebBytes}
use Rattle.ubi_volume.specs.Lebs.{bytes_in, written_in, IsLeft, IsLeb}
use Rattle.ubi_volume.specs.MemVolume.{state_of}
use Rattle.ubi_volume.specs.declared.leb.Leb.{Leb}
use Rattle.ubi_volume.specs.declared.mem_volume.MemVolume.{MemVolume}

-- the LEB of a number
pub leb_at : (size : ℕ) (lebs : List Leb) (n : ℕ) → n < length lebs → All (IsLeb size) lebs → (leb : Leb) × (slice_get lebs n ≡ Some leb) × IsLeb size leb
leb_at size lebs n inside all =
    elim (slice_get_cases lebs n).1 [
      | inl there ↦ let P : Leb → Type 0 = IsLeb size in (there.0, there.2, subst P there.3 (all n there.0 inside))
      | inr past ↦ absurd (omega (arith, inside, past.0))
    ]

-- a LEB has its size
pub length-bytes_in : (size : ℕ) (lebs : List Leb) (n : ℕ) → n < length lebs → All (IsLeb size) lebs → length (bytes_in (slice_get lebs n)) ≡ size
length-bytes_in size lebs n inside all =
    let leb = leb_at size lebs n inside all in
    let P : Option Leb → Type 0 = λ o. length (bytes_in o) ≡ size in
    subst P (sym leb.1) leb.2.content.len

-- of bytes
pub bytes-bytes_in : (size : ℕ) (lebs : List Leb) (n : ℕ) → n < length lebs → All (IsLeb size) lebs → IsBytes (bytes_in (slice_get lebs n))
bytes-bytes_in size lebs n inside all =
    let leb = leb_at size lebs n inside all in
    let P : Option Leb → Type 0 = λ o. IsBytes (bytes_in o) in
    subst P (sym leb.1) leb.2.content.bytes

-- and so has what a cut leaves of it
one_of_two : (size : ℕ) (leb : Leb) (c : List ℕ) → IsLeb size leb → (c ≡ leb.content.items) ⊎ (IsTrue leb.undo × (c ≡ leb.before.items)) → IsLebBytes size c
one_of_two size leb c is (inl e) = let P : List ℕ → Type 0 = IsLebBytes size in subst P (sym e) is.content
one_of_two size leb c is (inr (undo, e)) = let P : List ℕ → Type 0 = IsLebBytes size in subst P (sym e) (is.before undo)

pub IsLeft-bytes : (size : ℕ) (lebs : List Leb) (n : ℕ) (c : List ℕ) → n < length lebs → All (IsLeb size) lebs → IsLeft (slice_get lebs n) c → IsLebBytes size c
IsLeft-bytes size lebs n c inside all left =
    let leb = leb_at size lebs n inside all in
    let P : Option Leb → Type 0 = λ o. IsLeft o c in
    one_of_two size leb.0 c leb.2 (subst P leb.1 left)

-- what isn't written of it is 255
pub drop-bytes_in : (size : ℕ) (lebs : List Leb) (n : ℕ) → n < length lebs → All (IsLeb size) lebs
    → drop (written_in (slice_get lebs n)) (bytes_in (slice_get lebs n)) ≡ replicate (size - written_in (slice_get lebs n)) 255
drop-bytes_in size lebs n inside all =
    let leb = leb_at size lebs n inside all in
    let P : Option Leb → Type 0 = λ o. drop (written_in o) (bytes_in o) ≡ replicate (size - written_in o) 255 in
    subst P (sym leb.1) leb.2.blank

-- what a LEB holds, a cut may leave
pub left_now : (leb : Option Leb) (c : List ℕ) → c ≡ bytes_in leb → IsLeft leb c
left_now (Some leb) c h = inl h
left_now None c h = h

pub leb_len_of : (v : MemVolume) (n : ℕ) → n < (state_of v).leb_cnt → length ((state_of v).holds n) ≡ (state_of v).leb_size
leb_len_of v n inside = length-bytes_in v.shape.leb_size v.lebs.items n (omega (arith, inside, v.all)) v.sizes

pub leb_bytes_of : (v : MemVolume) (n : ℕ) → n < (state_of v).leb_cnt → IsBytes ((state_of v).holds n)
leb_bytes_of v n inside = bytes-bytes_in v.shape.leb_size v.lebs.items n (omega (arith, inside, v.all)) v.sizes

pub left_bytes_of : (v : MemVolume) (n : ℕ) (c : List ℕ) → n < (state_of v).leb_cnt → (state_of v).left_now n c → IsLebBytes (state_of v).leb_size c
left_bytes_of v n c inside left = IsLeft-bytes v.shape.leb_size v.lebs.items n c (omega (arith, inside, v.all)) v.sizes left

pub none_of : (v : MemVolume) (n : ℕ) → (state_of v).leb_cnt ≤ n → (state_of v).holds n ≡ []
none_of v n past = ap bytes_in (slice_get_past v.lebs.items n (omega (arith, past, v.all)))

pub blank_of : (v : MemVolume) (n : ℕ) → n < (state_of v).leb_cnt → drop ((state_of v).written n) ((state_of v).holds n) ≡ replicate ((state_of v).leb_size - (state_of v).written n) 255
blank_of v n inside = drop-bytes_in v.shape.leb_size v.lebs.items n (omega (arith, inside, v.all)) v.sizes

-- where no call fails, none that failed is under way
pub unbroken_of : (v : MemVolume) → (state_of v).sure → (state_of v).unbroken
unbroken_of v sure = sure.whole
