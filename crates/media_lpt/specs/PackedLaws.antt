-- Fields are put and read one behind another, and bytes are at most one list of fields.
use Rattle.std.specs.Prelude.{◌≡◌, ℕ, zero, suc, ◌+◌, ◌*◌, ◌/◌, ◌%◌, ◌^◌, ◌<◌, ◌≤◌, List, [], ◌∷◌, ◌++◌, length, drop, get_or, replicate}
use Rattle.std.specs.List.{flat_map, AllByRecursion}
use Rattle.std.proofs.Common.{refl, ap, sym, ◌∙◌, arith, subst, get_or-drop, append_assoc}
use Rattle.std.proofs.Math.Nat.{mul_assoc, mul_comm, mul-add, mul-le-mul_left, div-one}
use Rattle.std.proofs.lemmas.Nat.{pow-add, pow_pos, shr-shr, shr_split, mod_below, shr_below, shr_high, mod_low, mul-add-lt}
use Rattle.byteorder.specs.Endian.{little_number}
use Rattle.byteorder.specs.Numbers.{little_from-cons}
use Rattle.ubifs_base.specs.NodeLaws.{IsBytes}
use Rattle.ubifs_base.specs.Crc.{crc16_of}
use Rattle.ubifs_base.specs.CrcLaws.{crc16_of-lt}
use Rattle.ubifs_base.specs.Properties.{bytes_for, node_head_bits}
use Rattle.media_lpt.specs.Packed.{Field, field, bits_len, packed_number, AllFit, bytes_number, IsPacked, IsPut, IsFree, IsAt, IsFramed}

-- Bytes as a number.

pub bytes_number-append : (a b : List ℕ) → bytes_number (a ++ b) ≡ bytes_number a + 2 ^ (8 * length a) * bytes_number b
unfolding bytes_number
bytes_number-append [] b = omega arith
bytes_number-append (x ∷ a) b =
    let ih = bytes_number-append a b in
    let p : 2 ^ (8 * suc (length a)) ≡ 256 * 2 ^ (8 * length a) = (let e : 8 * suc (length a) ≡ 8 + 8 * length a = omega arith in rw e (pow-add 2 8 (8 * length a))) in
    let q : 256 * (2 ^ (8 * length a) * bytes_number b) ≡ 256 * 2 ^ (8 * length a) * bytes_number b = sym (mul_assoc 256 (2 ^ (8 * length a)) (bytes_number b)) in
    rw p (omega (arith, ih, q))

pub bytes_number-lt : (bytes : List ℕ) → IsBytes bytes → bytes_number bytes < 2 ^ (8 * length bytes)
unfolding bytes_number
bytes_number-lt [] fits = omega arith
bytes_number-lt (x ∷ a) fits =
    let h : x < 256 = fits 0 in
    let ih = bytes_number-lt a (λ i. fits (suc i)) in
    let p : 2 ^ (8 * suc (length a)) ≡ 256 * 2 ^ (8 * length a) = (let e : 8 * suc (length a) ≡ 8 + 8 * length a = omega arith in rw e (pow-add 2 8 (8 * length a))) in
    rw p (omega (arith, ih, h))

-- the first n bytes as a number, the rest above them
pub bytes_number-split : (n : ℕ) (bytes : List ℕ) → n ≤ length bytes → bytes_number bytes ≡ little_number n bytes + 2 ^ (8 * n) * bytes_number (drop n bytes)
unfolding bytes_number
bytes_number-split zero bytes h = omega arith
bytes_number-split (suc n) [] h = absurd (omega arith)
bytes_number-split (suc n) (x ∷ a) h =
    let ih = bytes_number-split n a (omega arith) in
    let p : 2 ^ (8 * suc n) ≡ 256 * 2 ^ (8 * n) = (let e : 8 * suc n ≡ 8 + 8 * n = omega arith in rw e (pow-add 2 8 (8 * n))) in
    let q : 256 * (2 ^ (8 * n) * bytes_number (drop n a)) ≡ 256 * 2 ^ (8 * n) * bytes_number (drop n a) = sym (mul_assoc 256 (2 ^ (8 * n)) (bytes_number (drop n a))) in
    let moved = little_from-cons 0 n x a in
    rw (p, moved) (omega (arith, ih, q))

pub bytes_number-zeros : (n : ℕ) → bytes_number (replicate n 0) ≡ 0
unfolding bytes_number
bytes_number-zeros zero = refl
bytes_number-zeros (suc n) = let ih = bytes_number-zeros n in omega (arith, ih)

-- bytes of one length and one number are the same
pub bytes_number-inj : (a b : List ℕ) → length a ≡ length b → IsBytes a → IsBytes b → bytes_number a ≡ bytes_number b → a ≡ b
unfolding bytes_number
bytes_number-inj [] [] l fa fb e = refl
bytes_number-inj [] (y ∷ b) l fa fb e = absurd (omega arith)
bytes_number-inj (x ∷ a) [] l fa fb e = absurd (omega arith)
bytes_number-inj (x ∷ a) (y ∷ b) l fa fb e =
    let hx : x < 256 = fa 0 in
    let hy : y < 256 = fb 0 in
    let same : x ≡ y = omega (arith, e, hx, hy) in
    let rest = bytes_number-inj a b (omega arith) (λ i. fa (suc i)) (λ i. fb (suc i)) (omega (arith, e, hx, hy)) in
    rw (same, rest) refl

-- Fields, one behind another.

pub bits_len-none : bits_len [] ≡ 0
unfolding bits_len
bits_len-none = refl

pub bits_len-append : (a b : List Field) → bits_len (a ++ b) ≡ bits_len a + bits_len b
unfolding bits_len
bits_len-append [] b = omega arith
bits_len-append (f ∷ a) b = let ih = bits_len-append a b in omega (arith, ih)

pub packed_number-append : (a b : List Field) → packed_number (a ++ b) ≡ packed_number a + 2 ^ bits_len a * packed_number b
unfolding packed_number bits_len
packed_number-append [] b = omega arith
packed_number-append (f ∷ a) b =
    let ih = packed_number-append a b in
    let q : 2 ^ f.width * (packed_number a + 2 ^ bits_len a * packed_number b) ≡ 2 ^ f.width * packed_number a + 2 ^ (f.width + bits_len a) * packed_number b =
    mul-add (2 ^ f.width) (packed_number a) (2 ^ bits_len a * packed_number b)
    ∙ ap (λ x. 2 ^ f.width * packed_number a + x) (sym (mul_assoc (2 ^ f.width) (2 ^ bits_len a) (packed_number b)) ∙ ap (λ x. x * packed_number b) (sym (pow-add 2 f.width (bits_len a)))) in
    rw (ih, q) (omega arith)

pub AllFit-append : (a b : List Field) → AllFit a → AllFit b → AllFit (a ++ b)
unfolding AllFit
AllFit-append [] b ha hb = hb
AllFit-append (f ∷ a) b ha hb = (ha.0, AllFit-append a b ha.1 hb)

pub packed_number-lt : (fields : List Field) → AllFit fields → packed_number fields < 2 ^ bits_len fields
unfolding packed_number bits_len AllFit
packed_number-lt [] fit = omega arith
packed_number-lt (f ∷ rest) fit =
    let ih = packed_number-lt rest fit.1 in
    let more : 2 ^ f.width * (packed_number rest + 1) ≤ 2 ^ f.width * 2 ^ bits_len rest = mul-le-mul_left (2 ^ f.width) (omega (arith, ih)) in
    let q : 2 ^ f.width * (packed_number rest + 1) ≡ 2 ^ f.width * packed_number rest + 2 ^ f.width * 1 = mul-add (2 ^ f.width) (packed_number rest) 1 in
    rw (pow-add 2 f.width (bits_len rest)) (let h = fit.0 in omega (arith, more, q, h))

-- Fields that are put.

pub IsPut-none : (bytes : List ℕ) (bit : ℕ) → IsPut bytes bit [] bytes
unfolding packed_number
IsPut-none bytes bit = record { same_len = refl; sum = omega arith }

pub IsPut-append : (a b c : List ℕ) (bit : ℕ) (f g : List Field) → IsPut a bit f b → IsPut b (bit + bits_len f) g c → IsPut a bit (f ++ g) c
IsPut-append a b c bit f g h k =
    let p : 2 ^ (bit + bits_len f) * packed_number g ≡ 2 ^ bit * (2 ^ bits_len f * packed_number g) =
    ap (λ x. x * packed_number g) (pow-add 2 bit (bits_len f)) ∙ mul_assoc (2 ^ bit) (2 ^ bits_len f) (packed_number g) in
    let q : 2 ^ bit * packed_number (f ++ g) ≡ 2 ^ bit * packed_number f + 2 ^ bit * (2 ^ bits_len f * packed_number g) =
    ap (λ x. 2 ^ bit * x) (packed_number-append f g) ∙ mul-add (2 ^ bit) (packed_number f) (2 ^ bits_len f * packed_number g) in
    let first = h.sum in
    let second = k.sum in
    record { same_len = k.same_len ∙ h.same_len; sum = omega (arith, first, second, p, q) }

pub IsFree-put : (a b : List ℕ) (bit : ℕ) (f : List Field) → IsFree a bit → AllFit f → IsPut a bit f b → IsFree b (bit + bits_len f)
IsFree-put a b bit f free fit put =
    let low = free.below in
    let high = packed_number-lt f fit in
    let m : packed_number f * 2 ^ bit + bytes_number a < 2 ^ bit * 2 ^ bits_len f = mul-add-lt (packed_number f) (2 ^ bit) (bytes_number a) (2 ^ bits_len f) high low in
    let t : 2 ^ bit * packed_number f ≡ packed_number f * 2 ^ bit = mul_comm (2 ^ bit) (packed_number f) in
    let p : 2 ^ (bit + bits_len f) ≡ 2 ^ bit * 2 ^ bits_len f = pow-add 2 bit (bits_len f) in
    let s = put.sum in
    record { below = omega (arith, m, t, p, s) }

-- a field, and then the others
pub IsPut-cons : (a b c : List ℕ) (bit width value : ℕ) (g : List Field) → IsPut a bit (field width value ∷ []) b → IsPut b (bit + width) g c → IsPut a bit (field width value ∷ g) c
unfolding bits_len
IsPut-cons a b c bit width value g h k =
    let P : ℕ → Type 0 = λ x. IsPut b (bit + x) g c in
    let e : width ≡ width + 0 = omega arith in
    IsPut-append a b c bit (field width value ∷ []) g h (subst P e k)

-- Fields that are read.

pub IsAt-none : (bytes : List ℕ) (bit : ℕ) → IsAt bytes bit []
unfolding IsAt
IsAt-none bytes bit = tt

pub IsAt-append : (bytes : List ℕ) (bit : ℕ) (f g : List Field) → IsAt bytes bit f → IsAt bytes (bit + bits_len f) g → IsAt bytes bit (f ++ g)
unfolding IsAt bits_len
IsAt-append bytes bit [] g h k = let e : bit + 0 ≡ bit = omega arith in let P : ℕ → Type 0 = λ x. IsAt bytes x g in subst P e k
IsAt-append bytes bit (x ∷ f) g h k =
    let e : bit + (x.width + bits_len f) ≡ bit + x.width + bits_len f = omega arith in
    let P : ℕ → Type 0 = λ x. IsAt bytes x g in
    (h.0, IsAt-append bytes (bit + x.width) f g h.1 (subst P e k))

-- the fields before, and those behind
pub IsAt-parts : (bytes : List ℕ) (bit : ℕ) (f g : List Field) → IsAt bytes bit (f ++ g) → IsAt bytes bit f × IsAt bytes (bit + bits_len f) g
unfolding IsAt bits_len
IsAt-parts bytes bit [] g h = (tt, let e : bit ≡ bit + 0 = omega arith in let P : ℕ → Type 0 = λ x. IsAt bytes x g in subst P e h)
IsAt-parts bytes bit (x ∷ f) g h =
    let e : bit + x.width + bits_len f ≡ bit + (x.width + bits_len f) = omega arith in
    let P : ℕ → Type 0 = λ x. IsAt bytes x g in
    let rest = IsAt-parts bytes (bit + x.width) f g h.1 in
    ((h.0, rest.0), subst P e rest.1)

pub IsAt-AllFit : (bytes : List ℕ) (bit : ℕ) (f : List Field) → IsAt bytes bit f → AllFit f
unfolding IsAt AllFit
IsAt-AllFit bytes bit [] h = tt
IsAt-AllFit bytes bit (x ∷ f) h =
    let low = mod_below (bytes_number bytes / 2 ^ bit) (2 ^ x.width) (pow_pos x.width) in
    let e = h.0 in
    (omega (arith, low, e), IsAt-AllFit bytes (bit + x.width) f h.1)

-- fields that are read make the number, where nothing stands above them
pub IsAt-number : (bytes : List ℕ) (bit : ℕ) (f : List Field) → bytes_number bytes < 2 ^ (bit + bits_len f) → IsAt bytes bit f → bytes_number bytes / 2 ^ bit ≡ packed_number f
unfolding IsAt packed_number bits_len
IsAt-number bytes bit [] small h =
    let e : bit + 0 ≡ 0 + bit = omega arith in
    let P : ℕ → Type 0 = λ x. bytes_number bytes < 2 ^ x in
    let low : bytes_number bytes / 2 ^ bit < 2 ^ 0 = shr_below (bytes_number bytes) 0 bit (subst P e small) in
    omega (arith, low)
IsAt-number bytes bit (x ∷ f) small h =
    let e : bit + (x.width + bits_len f) ≡ bit + x.width + bits_len f = omega arith in
    let P : ℕ → Type 0 = λ x. bytes_number bytes < 2 ^ x in
    let ih : bytes_number bytes / 2 ^ (bit + x.width) ≡ packed_number f = IsAt-number bytes (bit + x.width) f (subst P e small) h.1 in
    let s : bytes_number bytes / 2 ^ bit / 2 ^ x.width * 2 ^ x.width + bytes_number bytes / 2 ^ bit % 2 ^ x.width ≡ bytes_number bytes / 2 ^ bit = shr_split (bytes_number bytes / 2 ^ bit) x.width in
    let high : bytes_number bytes / 2 ^ bit / 2 ^ x.width ≡ packed_number f = shr-shr (bytes_number bytes) bit x.width ∙ ih in
    let m : bytes_number bytes / 2 ^ bit / 2 ^ x.width * 2 ^ x.width ≡ 2 ^ x.width * packed_number f = ap (λ y. y * 2 ^ x.width) high ∙ mul_comm (packed_number f) (2 ^ x.width) in
    let v = h.0 in
    omega (arith, s, m, v)

-- the fields that make the number are read from it
pub IsAt-of_number : (bytes : List ℕ) (bit : ℕ) (f : List Field) → AllFit f → bytes_number bytes / 2 ^ bit ≡ packed_number f → IsAt bytes bit f
unfolding IsAt packed_number AllFit
IsAt-of_number bytes bit [] fit e = tt
IsAt-of_number bytes bit (x ∷ f) fit e =
    let all : bytes_number bytes / 2 ^ bit ≡ packed_number f * 2 ^ x.width + x.value = e ∙ ap (λ y. x.value + y) (mul_comm (2 ^ x.width) (packed_number f)) ∙ omega arith in
    let low : bytes_number bytes / 2 ^ bit % 2 ^ x.width ≡ x.value = ap (λ y. y % 2 ^ x.width) all ∙ mod_low (packed_number f) x.width x.value fit.0 in
    let high : bytes_number bytes / 2 ^ (bit + x.width) ≡ packed_number f =
    sym (shr-shr (bytes_number bytes) bit x.width) ∙ ap (λ y. y / 2 ^ x.width) all ∙ shr_high (packed_number f) x.width x.value fit.0 in
    (sym low, IsAt-of_number bytes (bit + x.width) f fit.1 high)

-- Whole nodes.

-- in the grammar, and so framed and read
pub packed-framed : (bytes : List ℕ) (kind : ℕ) (fields : List Field) → IsBytes bytes → kind < 16 → AllFit fields → IsPacked bytes kind fields
    → IsFramed bytes kind (bits_len fields) × IsAt bytes 20 fields
unfolding IsAt AllFit bits_len
packed-framed bytes kind fields fits known fit h =
    let crc = crc16_of (drop 2 bytes) in
    let all : List Field = field 16 crc ∷ field 4 kind ∷ fields in
    let crc_fits : crc < 2 ^ 16 = crc16_of-lt (drop 2 bytes) (λ i. rw get_or-drop (fits (2 + i))) in
    let kind_fits : kind < 2 ^ 4 = omega arith in
    let all_fit : AllFit all = (crc_fits, (kind_fits, fit)) in
    let at : IsAt bytes 0 all = IsAt-of_number bytes 0 all all_fit (div-one (bytes_number bytes) ∙ h.spelled) in
    let low : packed_number all < 2 ^ (16 + (4 + bits_len fields)) = packed_number-lt all all_fit in
    let e : 16 + (4 + bits_len fields) ≡ 20 + bits_len fields = omega arith in
    let P : ℕ → Type 0 = λ x. packed_number all < 2 ^ x in
    let Q : ℕ → Type 0 = λ x. x < 2 ^ (20 + bits_len fields) in
    (record { long = h.long; checksum = sym (at.0 ∙ ap (λ x. x % 2 ^ 16) (div-one (bytes_number bytes))); kind = sym at.1.0; filled = subst Q (sym h.spelled) (subst P e low) }, at.1.1)

-- framed and read, and so in the grammar
pub framed-packed : (bytes : List ℕ) (kind : ℕ) (fields : List Field) → IsFramed bytes kind (bits_len fields) → IsAt bytes 20 fields → IsPacked bytes kind fields
unfolding IsAt bits_len
framed-packed bytes kind fields h at =
    let crc = crc16_of (drop 2 bytes) in
    let all : List Field = field 16 crc ∷ field 4 kind ∷ fields in
    let first : crc ≡ bytes_number bytes / 2 ^ 0 % 2 ^ 16 = sym (ap (λ x. x % 2 ^ 16) (div-one (bytes_number bytes)) ∙ h.checksum) in
    let whole : IsAt bytes 0 all = (first, (sym h.kind, at)) in
    let e : 20 + bits_len fields ≡ 0 + (16 + (4 + bits_len fields)) = omega arith in
    let P : ℕ → Type 0 = λ x. bytes_number bytes < 2 ^ x in
    record { long = h.long; spelled = sym (div-one (bytes_number bytes)) ∙ IsAt-number bytes 0 all (subst P e h.filled) whole }

-- the type alone, then the fields, then the checksum of all that follows it
pub put-packed : (start body sealed : List ℕ) (kind : ℕ) (fields : List Field) → bytes_number start ≡ 2 ^ 16 * kind → IsPut start 20 fields body
    → bytes_number sealed ≡ bytes_number body + crc16_of (drop 2 sealed) → length sealed ≡ bytes_for (node_head_bits + bits_len fields) → IsPacked sealed kind fields
unfolding packed_number
put-packed start body sealed kind fields s put crc long = let b = put.sum in record { long = long; spelled = omega (arith, s, b, crc) }

-- Fields of each item of a list.

pub flat_map-append : {X : Type 0} (f : X → List Field) (a b : List X) → flat_map f (a ++ b) ≡ flat_map f a ++ flat_map f b
flat_map-append f [] b = refl
flat_map-append f (x ∷ a) b = ap (λ y. f x ++ y) (flat_map-append f a b) ∙ sym (append_assoc (f x) (flat_map f a) (flat_map f b))

pub bits_len-flat_map : {X : Type 0} (f : X → List Field) (w : ℕ) (xs : List X) → ((x : X) → bits_len (f x) ≡ w) → bits_len (flat_map f xs) ≡ length xs * w
bits_len-flat_map f w [] h = bits_len-none ∙ omega arith
bits_len-flat_map f w (x ∷ xs) h =
    let ih = bits_len-flat_map f w xs h in
    let one = h x in
    bits_len-append (f x) (flat_map f xs) ∙ omega (arith, ih, one)

-- what fits together fits by itself
pub AllFit-parts : (a b : List Field) → AllFit (a ++ b) → AllFit a × AllFit b
unfolding AllFit
AllFit-parts [] b h = (tt, h)
AllFit-parts (f ∷ a) b h = let rest = AllFit-parts a b h.1 in ((h.0, rest.0), rest.1)

pub AllFit-item : {X : Type 0} (f : X → List Field) (xs : List X) (i : ℕ) (d : X) → i < length xs → AllFit (flat_map f xs) → AllFit (f (get_or xs i d))
AllFit-item f [] i d h fit = absurd (omega arith)
AllFit-item f (x ∷ xs) zero d h fit = (AllFit-parts (f x) (flat_map f xs) fit).0
AllFit-item f (x ∷ xs) (suc i) d h fit = AllFit-item f xs i d (omega arith) (AllFit-parts (f x) (flat_map f xs) fit).1

-- lists whose items are read from the same bits are one
pub same_items : {X : Type 0} (f : X → List Field) (Is : X → Type 0) (w : ℕ) (bytes : List ℕ) (bit : ℕ) (xs ys : List X) → ((x : X) → bits_len (f x) ≡ w)
    → ((x y : X) (bit : ℕ) → Is x → Is y → IsAt bytes bit (f x) → IsAt bytes bit (f y) → x ≡ y)
    → length xs ≡ length ys → AllByRecursion Is xs → AllByRecursion Is ys → IsAt bytes bit (flat_map f xs) → IsAt bytes bit (flat_map f ys) → xs ≡ ys
same_items f Is w bytes bit [] [] wide one l ix iy ax ay = refl
same_items f Is w bytes bit [] (y ∷ ys) wide one l ix iy ax ay = absurd (omega arith)
same_items f Is w bytes bit (x ∷ xs) [] wide one l ix iy ax ay = absurd (omega arith)
same_items {X = X} f Is w bytes bit (x ∷ xs) (y ∷ ys) wide one l ix iy ax ay =
    let px = IsAt-parts bytes bit (f x) (flat_map f xs) ax in
    let py = IsAt-parts bytes bit (f y) (flat_map f ys) ay in
    let first : x ≡ y = one x y bit ix.0 iy.0 px.0 py.0 in
    let P : ℕ → Type 0 = λ n. IsAt bytes (bit + n) (flat_map f xs) in
    let Q : ℕ → Type 0 = λ n. IsAt bytes (bit + n) (flat_map f ys) in
    let rest : xs ≡ ys = same_items f Is w bytes (bit + w) xs ys wide one (omega arith) ix.1 iy.1 (subst P (wide x) px.1) (subst Q (wide y) py.1) in
    ap (λ (z : X). z ∷ xs) first ∙ ap (λ (zs : List X). y ∷ zs) rest
