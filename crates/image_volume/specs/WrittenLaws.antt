-- What counts as written is what IsWrittenPart says.
use Rattle.std.specs.Prelude.{Bool, true, false, ◌==◌, if◌then◌else◌}
use Rattle.std.proofs.Common.{◌≡◌, ℕ, suc, zero, ◌+◌, ◌-◌, ◌*◌, ◌/◌, ◌%◌, ◌<◌, ◌≤◌, List, [], ◌∷◌, length, drop, replicate, refl, subst, ap, sym, ◌∙◌, arith, drop-drop}
use Rattle.std.proofs.Math.Nat.{lt-div-mul-add, div-lt_iff_lt-mul, div-add-mod, mul-mod_left, mul-le-mul_right, mul_comm}
use Rattle.std.proofs.lemmas.Bool.{eqb-true, eq-eqb}
use Rattle.std.proofs.lemmas.List.{drop-replicate, drop_all, get_or-replicate}
use Rattle.std.specs.Prelude.{get_or}
use Rattle.ubi_volume.specs.Loading.{IsErased, IsWrittenPart}
use Rattle.image_volume.specs.Written.{longer, used_len, written_end}

-- with one byte more in front, what stands behind the last byte that isn't erased is erased
erased_step : (byte len : ℕ) (bytes : List ℕ) → IsErased len bytes → IsErased (longer byte len) (byte ∷ bytes)
erased_step byte zero bytes erased = by_byte (byte == 255) refl
  where
    by_byte : (b : Bool) → (byte == 255) ≡ b → IsErased (if b then 0 else 1) (byte ∷ bytes)
    by_byte true e =
        let less : length bytes - 0 ≡ length bytes = omega arith in
        let whole : byte ∷ bytes ≡ 255 ∷ replicate (length bytes) 255 = ap (λ x. x ∷ bytes) (eqb-true byte 255 e) ∙ ap (λ xs. 255 ∷ xs) (erased ∙ ap (λ n. replicate n 255) less) in
        let count : suc (length bytes) ≡ length (byte ∷ bytes) - 0 = omega arith in
        whole ∙ ap (λ n. replicate n 255) count
    by_byte false e = let less : length bytes - 0 ≡ suc (length bytes) - 1 = omega arith in erased ∙ ap (λ n. replicate n 255) less
erased_step byte (suc len) bytes erased =
    let less : length bytes - suc len ≡ suc (length bytes) - suc (suc len) = omega arith in
    erased ∙ ap (λ n. replicate n 255) less

erased_behind : (bytes : List ℕ) → IsErased (used_len bytes) bytes
erased_behind [] = refl
erased_behind (byte ∷ bytes) = erased_step byte (used_len bytes) bytes (erased_behind bytes)

-- and it is no shorter than what any erased end leaves
longer_one : (byte len m : ℕ) → len ≤ m → longer byte len ≤ suc m
longer_one byte zero m le = by_byte (byte == 255)
  where
    by_byte : (b : Bool) → (if b then 0 else 1) ≤ suc m
    by_byte true = omega arith
    by_byte false = omega arith
longer_one byte (suc len) m le = omega (arith, le)

all_erased : (byte len : ℕ) → byte ≡ 255 → len ≤ 0 → longer byte len ≤ 0
all_erased byte zero is le =
    let P : Bool → Type 0 = λ b. (if b then 0 else 1) ≤ 0 in
    subst P (sym (eq-eqb byte 255 is)) (omega arith)
all_erased byte (suc len) is le = absurd (omega (arith, le))

pub used_len-least : (bytes : List ℕ) (m : ℕ) → IsErased m bytes → used_len bytes ≤ m
used_len-least [] m erased = omega arith
used_len-least (byte ∷ bytes) zero erased =
    let count : length (byte ∷ bytes) - 0 ≡ suc (length bytes) = omega arith in
    let whole : byte ∷ bytes ≡ 255 ∷ replicate (length bytes) 255 = erased ∙ ap (λ n. replicate n 255) count in
    let less : length bytes ≡ length bytes - 0 = omega arith in
    all_erased byte (used_len bytes) (ap (λ xs. get_or xs 0 0) whole) (used_len-least bytes 0 (ap (drop 1) whole ∙ ap (λ n. replicate n 255) less))
used_len-least (byte ∷ bytes) (suc m) erased =
    let less : suc (length bytes) - suc m ≡ length bytes - m = omega arith in
    longer_one byte (used_len bytes) m (used_len-least bytes m (erased ∙ ap (λ n. replicate n 255) less))

-- what is erased from a place on is erased from a later one on
erased_later : (place k : ℕ) (bytes : List ℕ) → IsErased place bytes → IsErased (place + k) bytes
erased_later place k bytes erased =
    let less : (length bytes - place) - k ≡ length bytes - (place + k) = omega arith in
    sym (drop-drop k place bytes) ∙ ap (drop k) erased ∙ drop-replicate k (length bytes - place) 255 ∙ ap (λ n. replicate n 255) less

-- a number of whole units that isn't less than a length is no less than the end of the unit in which that length ends
unit_end : (unit len m : ℕ) → 0 < unit → m % unit ≡ 0 → len ≤ m → (len + (unit - 1)) / unit * unit ≤ m
unit_end unit len m some whole le =
    let e : m ≡ m / unit * unit = sym (div-add-mod m unit) ∙ rw whole (omega (arith, mul_comm unit (m / unit))) in
    let next : (m / unit + 1) * unit ≡ m / unit * unit + unit = omega arith in
    let fewer : (len + (unit - 1)) / unit < m / unit + 1 = (div-lt_iff_lt-mul some).1 (omega (arith, le, e, next, some)) in
    let below : (len + (unit - 1)) / unit * unit ≤ m / unit * unit = mul-le-mul_right unit (omega (arith, fewer)) in
    omega (arith, below, e)

-- so the end of the unit of the last byte that isn't erased is the end of what counts as written
pub written_end-is : (unit : ℕ) (bytes : List ℕ) → 0 < unit → IsWrittenPart unit bytes (written_end unit bytes)
written_end-is unit bytes some =
    let len = used_len bytes in
    let over : len + (unit - 1) < (len + (unit - 1)) / unit * unit + unit = lt-div-mul-add some in
    let past : len ≤ written_end unit bytes = omega (arith, over, some) in
    let e : len + (written_end unit bytes - len) ≡ written_end unit bytes = omega (arith, past) in
    let P : ℕ → Type 0 = λ n. IsErased n bytes in
    record {
      whole = mul-mod_left ((len + (unit - 1)) / unit) unit;
      behind = subst P e (erased_later len (written_end unit bytes - len) bytes (erased_behind bytes));
      least = λ m multiple erased. unit_end unit len m some multiple (used_len-least bytes m erased);
    }
