-- How far a LEB of an image is written.
use Rattle.std.proofs.Common.{◌≡◌, ℕ, ◌+◌, ◌-◌, ◌*◌, ◌/◌, ◌%◌, ◌<◌, ◌≤◌, List, length, drop, replicate, slice_index, get_or, subst, ap, sym, ◌∙◌, arith, get_or-drop, drop-drop}
use Rattle.std.proofs.Math.Nat.{lt-div-mul-add, div-lt_iff_lt-mul, div-add-mod, mul-mod_left, mul-le-mul_right, mul_comm}
use Rattle.std.proofs.lemmas.List.{drop-replicate, get_or-replicate}
use Rattle.ubi_volume.specs.Loading.{IsErased, IsWrittenPart}

-- what is erased from a place on is erased from a later one on
erased_later : (place k : ℕ) (bytes : List ℕ) → IsErased place bytes → IsErased (place + k) bytes
erased_later place k bytes erased =
    let less : (length bytes - place) - k ≡ length bytes - (place + k) = omega arith in
    sym (drop-drop k place bytes) ∙ ap (drop k) erased ∙ drop-replicate k (length bytes - place) 255 ∙ ap (λ n. replicate n 255) less

-- a byte that isn't 255 stands in front of what is erased
before_erased : (last m : ℕ) (bytes : List ℕ) → last < length bytes → (slice_index bytes last ≡ 255 → ⊥) → IsErased m bytes → last < m
before_erased last m bytes inside other erased =
    let behind : m ≤ last → slice_index bytes last ≡ 255 = λ le.
    let e : m + (last - m) ≡ last = omega (arith, le) in
    ap (λ n. get_or bytes n 0) (sym e) ∙ sym (get_or-drop m bytes (last - m) 0) ∙ ap (λ b. get_or b (last - m) 0) erased
    ∙ get_or-replicate (length bytes - m) (last - m) 255 0 (omega (arith, le, inside)) in
    grind (arith, behind, other)

-- a multiple of the unit that lies behind a byte lies at or behind the end of that byte's unit
unit_end : (unit last m : ℕ) → 0 < unit → m % unit ≡ 0 → last < m → (last / unit + 1) * unit ≤ m
unit_end unit last m some whole behind =
    let e : m ≡ m / unit * unit = sym (div-add-mod m unit) ∙ rw whole (omega (arith, mul_comm unit (m / unit))) in
    let P : ℕ → Type 0 = λ n. last < n in
    let fewer : last / unit < m / unit = (div-lt_iff_lt-mul some).1 (subst P e behind) in
    let below : (last / unit + 1) * unit ≤ m / unit * unit = mul-le-mul_right unit (omega (arith, fewer)) in
    omega (arith, below, e)

-- up to the end of the unit of the last byte that isn't 255
pub written_part : (unit last : ℕ) (bytes : List ℕ) → 0 < unit → last < length bytes → (slice_index bytes last ≡ 255 → ⊥) → IsErased (last + 1) bytes
    → IsWrittenPart unit bytes ((last / unit + 1) * unit)
written_part unit last bytes some inside other erased =
    let end = (last / unit + 1) * unit in
    let over : last < last / unit * unit + unit = lt-div-mul-add some in
    let past : last < end = omega (arith, over) in
    let e : last + 1 + (end - (last + 1)) ≡ end = omega (arith, past) in
    let P : ℕ → Type 0 = λ n. IsErased n bytes in
    record {
      whole = mul-mod_left (last / unit + 1) unit;
      behind = subst P e (erased_later (last + 1) (end - (last + 1)) bytes erased);
      least = λ m multiple erased_there. unit_end unit last m some multiple (before_erased last m bytes inside other erased_there);
    }

-- and that is inside the LEB
pub written_inside : (unit last : ℕ) (bytes : List ℕ) → 0 < unit → length bytes % unit ≡ 0 → last < length bytes → (last / unit + 1) * unit ≤ length bytes
written_inside unit last bytes some whole inside = unit_end unit last (length bytes) some whole inside
