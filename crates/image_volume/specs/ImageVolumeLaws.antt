-- What is true of every such volume.
use Rattle.std.specs.Prelude.{◌≢◌, Bool, true, false, nat_lt, if◌then◌else◌, Option, Some, None, get_or, ◌==◌}
use Rattle.std.proofs.Common.{◌≡◌, ℕ, ◌+◌, ◌-◌, ◌*◌, ◌<◌, ◌≤◌, List, [], ◌++◌, length, take, drop, replicate, refl, subst, ap, sym, ◌∙◌, arith, inl, inr, get_or-drop, length-append, length-take}
use Rattle.std.proofs.lemmas.Bool.{cases_lt, lt-ltb, le-ltb, eq-eqb}
use Rattle.std.proofs.lemmas.List.{drop_all, get_or-append_right, get_or-replicate, get_or-take, get_or_append_left, get_or_past, length-replicate}
use Rattle.ubifs_base.specs.NodeLaws.{IsBytes}
use Rattle.ubi_volume.specs.Loading.{IsErased, IsWrittenPart, leb_of}
use Rattle.ubi_volume.specs.Volume.{Keeps, SameShape, IsLebBytes, filled}
use Rattle.image_volume.specs.ImageVolume.{state_of, leb_held, is_first, closed_to}
use Rattle.image_volume.specs.Written.{written_end}
use Rattle.image_volume.specs.WrittenLaws.{written_end-is}
use Rattle.image_volume.specs.declared.image_volume.ImageVolume.{ImageVolume}

-- a LEB that is there
pub held_inside : (v : ImageVolume) (n : ℕ) → n < v.shape.leb_cnt → leb_held v.shape v.bytes.now n ≡ leb_of v.shape.leb_size v.bytes.now n
held_inside v n inside = ap (λ (b : Bool). if b then leb_of v.shape.leb_size v.bytes.now n else []) (lt-ltb n v.shape.leb_cnt inside)

-- and one that isn't
pub none_of : (v : ImageVolume) (n : ℕ) → (state_of v).leb_cnt ≤ n → (state_of v).holds n ≡ []
none_of v n past = ap (λ (b : Bool). if b then leb_of v.shape.leb_size v.bytes.now n else []) (le-ltb n v.shape.leb_cnt past)

-- a LEB has its size
length-leb_of : (size : ℕ) (image : List ℕ) (n : ℕ) → length (leb_of size image n) ≡ size
length-leb_of size image n =
    let front = take size (drop (n * size) image) in
    let short = length-take size (drop (n * size) image) in
    length-append front (replicate (size - length front) 255) ∙ rw length-replicate (omega (arith, short))

pub leb_len_of : (v : ImageVolume) (n : ℕ) → n < (state_of v).leb_cnt → length ((state_of v).holds n) ≡ (state_of v).leb_size
leb_len_of v n inside = ap length (held_inside v n inside) ∙ length-leb_of v.shape.leb_size v.bytes.now n

-- of bytes
erased_byte : (n i : ℕ) → get_or (replicate n 255) i 0 < 256
erased_byte n i =
    let P : ℕ → Type 0 = λ b. b < 256 in
    elim (cases_lt i n) [
      | inl inside ↦ subst P (sym (get_or-replicate n i 255 0 inside)) (omega arith)
      | inr past ↦ let count : length {A = ℕ} (replicate n 255) ≡ n = length-replicate {A = ℕ} n 255 in subst P (sym (get_or_past (replicate n 255) i 0 (omega (arith, past, count)))) (omega arith)
    ]

bytes-filled : (size : ℕ) (bytes : List ℕ) → IsBytes bytes → IsBytes (filled size bytes)
bytes-filled size bytes are i =
    let P : ℕ → Type 0 = λ b. b < 256 in
    elim (cases_lt i (length bytes)) [
      | inl inside ↦ subst P (sym (get_or_append_left bytes (replicate (size - length bytes) 255) 0 i inside)) (are i)
      | inr past ↦ subst P (sym (get_or-append_right bytes (replicate (size - length bytes) 255) (length bytes) i 0 refl past)) (erased_byte (size - length bytes) (i - length bytes))
    ]

bytes-part : (at n : ℕ) (bytes : List ℕ) → IsBytes bytes → IsBytes (take n (drop at bytes))
bytes-part at n bytes are i =
    let P : ℕ → Type 0 = λ b. b < 256 in
    elim (cases_lt i n) [
      | inl inside ↦ subst P (sym (get_or-take n (drop at bytes) i 0 inside ∙ get_or-drop at bytes i 0)) (are (at + i))
      | inr past ↦ let len = length-take n (drop at bytes) in subst P (sym (get_or_past (take n (drop at bytes)) i 0 (omega (arith, past, len)))) (omega arith)
    ]

pub leb_bytes_of : (v : ImageVolume) (n : ℕ) → n < (state_of v).leb_cnt → IsBytes ((state_of v).holds n)
leb_bytes_of v n inside =
    let size = v.shape.leb_size in
    let P : List ℕ → Type 0 = λ bytes. IsBytes bytes in
    subst P (sym (held_inside v n inside)) (bytes-filled size (take size (drop (n * size) v.bytes.now)) (bytes-part (n * size) size v.bytes.now v.are_bytes))

pub left_bytes_of : (v : ImageVolume) (n : ℕ) (c : List ℕ) → n < (state_of v).leb_cnt → (state_of v).left_now n c → IsLebBytes (state_of v).leb_size c
left_bytes_of v n c inside left =
    let P : List ℕ → Type 0 = λ bytes. IsLebBytes v.shape.leb_size bytes in
    subst P (sym left) (record { len = leb_len_of v n inside; bytes = leb_bytes_of v n inside })

-- what isn't written of it is 255
pub blank_of : (v : ImageVolume) (n : ℕ) → n < (state_of v).leb_cnt → drop ((state_of v).written n) ((state_of v).holds n) ≡ replicate ((state_of v).leb_size - (state_of v).written n) 255
blank_of v n inside = by_mark (is_first v.refusals.first n)
  where
    by_mark : (b : Bool) → drop (if b then v.shape.leb_size + 1 else written_end v.shape.min_io (leb_held v.shape v.bytes.now n)) (leb_held v.shape v.bytes.now n)
        ≡ replicate (v.shape.leb_size - (if b then v.shape.leb_size + 1 else written_end v.shape.min_io (leb_held v.shape v.bytes.now n))) 255
    by_mark true =
        let len = leb_len_of v n inside in
        let none : v.shape.leb_size - (v.shape.leb_size + 1) ≡ 0 = omega arith in
        drop_all (v.shape.leb_size + 1) (leb_held v.shape v.bytes.now n) (omega (arith, len)) ∙ ap (λ k. replicate k 255) (sym none)
    by_mark false =
        let held = leb_held v.shape v.bytes.now n in
        (written_end-is v.shape.min_io held v.shape_ok.unit).behind ∙ ap (λ k. replicate (k - written_end v.shape.min_io held) 255) (leb_len_of v n inside)

-- no more counts as written than a LEB has
held_short : (v : ImageVolume) (n : ℕ) → length (leb_held v.shape v.bytes.now n) ≤ v.shape.leb_size
held_short v n =
    elim (cases_lt n v.shape.leb_cnt) [
      | inl inside ↦ let len = leb_len_of v n inside in omega (arith, len)
      | inr past ↦ let len = ap length (none_of v n past) in omega (arith, len)
    ]

written_short : (v : ImageVolume) (n : ℕ) → written_end v.shape.min_io (leb_held v.shape v.bytes.now n) ≤ v.shape.leb_size
written_short v n =
    let held = leb_held v.shape v.bytes.now n in
    let short = held_short v n in
    let none : length held - v.shape.leb_size ≡ 0 = omega (arith, short) in
    (written_end-is v.shape.min_io held v.shape_ok.unit).least v.shape.leb_size v.shape_ok.whole (drop_all v.shape.leb_size held short ∙ ap (λ k. replicate k 255) (sym none))

-- where no call fails, none that failed is under way
pub unbroken_of : (v : ImageVolume) → (state_of v).sure → (state_of v).unbroken
unbroken_of v sure = sure

-- What keeps all was refused nothing: the LEB of a first refused call is closed to more than any LEB was.
never_first : (old new : ImageVolume) (first : Option ℕ) → old.refusals.first ≡ None → new.refusals.first ≡ first → SameShape (state_of old) (state_of new)
    → ((k : ℕ) → (state_of new).written k ≡ (state_of old).written k) → first ≡ None
never_first old new None sure is shape same = refl
never_first old new (Some lnum) sure is shape same =
    let W : Option ℕ → ℕ = λ first. closed_to new.shape new.bytes.now first lnum in
    let O : Option ℕ → ℕ = λ first. closed_to old.shape old.bytes.now first lnum in
    let marked : new.shape.leb_size + 1 ≡ closed_to new.shape new.bytes.now (Some lnum) lnum =
    ap (λ (b : Bool). if b then new.shape.leb_size + 1 else written_end new.shape.min_io (leb_held new.shape new.bytes.now lnum)) (sym (eq-eqb lnum lnum refl)) in
    let closed : new.shape.leb_size + 1 ≡ written_end old.shape.min_io (leb_held old.shape old.bytes.now lnum) = marked ∙ ap W (sym is) ∙ same lnum ∙ ap O sure in
    let short = written_short old lnum in
    let size = shape.leb_size in
    absurd (omega (arith, closed, short, size))

-- So after a call that keeps all, a volume that was sure isn't spent.
pub never_spent : (old new : ImageVolume) → (state_of old).sure → SameShape (state_of old) (state_of new) → Keeps (state_of old) (state_of new) → (state_of new).spent → ⊥
never_spent old new sure shape keeps spent = spent (never_first old new new.refusals.first sure refl shape keeps.written)
