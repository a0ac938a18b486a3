-- What is told of bytes that aren't the node that is wanted.
use Rattle.std.proofs.Common.{◌≡◌, ℕ, zero, suc, ◌+◌, ◌*◌, ◌/◌, ◌%◌, ◌^◌, ◌≤◌, Bool, List, [], ◌∷◌, length, take, drop, get_or, refl, ap, sym, ◌∙◌, arith}
use Rattle.std.specs.Prelude.{◌≢◌, if◌then◌else◌}
use Rattle.std.proofs.lemmas.Bool.{eq-eqb, ne_eqb}
use Rattle.ubifs_base.specs.Crc.{crc16_of}
use Rattle.ubifs_base.specs.NodeLaws.{IsBytes}
use Rattle.media_lpt.specs.Packed.{bytes_number}
use Rattle.sound_image.specs.PropertyBreaches.{lpt_misfit}
use Rattle.sound_image.specs.Wrong.{Misfit, differs}

-- the first two bytes, and the low half of the third
number_low : (b : List ℕ) → IsBytes b → bytes_number b % 2 ^ 16 ≡ get_or b 0 0 + 256 * get_or b 1 0
unfolding bytes_number
number_low [] fits = omega arith
number_low (x ∷ []) fits = let p = fits 0 in omega (arith, p)
number_low (x ∷ (y ∷ more)) fits = let p = fits 0 in let q = fits 1 in omega (arith, p, q)

number_type : (b : List ℕ) → IsBytes b → bytes_number b / 2 ^ 16 % 2 ^ 4 ≡ get_or b 2 0 % 16
unfolding bytes_number
number_type [] fits = omega arith
number_type (x ∷ []) fits = let p = fits 0 in omega (arith, p)
number_type (x ∷ (y ∷ [])) fits = let p = fits 0 in let q = fits 1 in omega (arith, p, q)
number_type (x ∷ (y ∷ (z ∷ more))) fits = let p = fits 0 in let q = fits 1 in let r = fits 2 in omega (arith, p, q, r)

-- the checksums are equal, so the type is another
pub misfit_type : (kind : ℕ) (b : List ℕ) (stored right type : ℕ) → IsBytes b → stored ≡ get_or b 0 0 + 256 * get_or b 1 0 → right ≡ crc16_of (drop 2 b) → stored ≡ right → type ≡ get_or b 2 0 % 16 → differs kind type ≡ lpt_misfit kind b
misfit_type kind b stored right type fits s r same t =
    let e = number_low b fits ∙ sym s ∙ same ∙ r in
    let C : Bool → Misfit = λ x. if x then differs kind (bytes_number b / 2 ^ 16 % 2 ^ 4) else differs (crc16_of (drop 2 b)) (bytes_number b % 2 ^ 16) in
    ap (differs kind) (t ∙ sym (number_type b fits)) ∙ ap C (sym (eq-eqb (bytes_number b % 2 ^ 16) (crc16_of (drop 2 b)) e))

-- or they aren't
pub misfit_sum : (kind : ℕ) (b : List ℕ) (stored right : ℕ) → IsBytes b → stored ≡ get_or b 0 0 + 256 * get_or b 1 0 → right ≡ crc16_of (drop 2 b) → stored ≢ right → differs right stored ≡ lpt_misfit kind b
misfit_sum kind b stored right fits s r other =
    let n = number_low b fits in
    let ne : bytes_number b % 2 ^ 16 ≢ crc16_of (drop 2 b) = λ e. other (s ∙ sym n ∙ e ∙ sym r) in
    let C : Bool → Misfit = λ x. if x then differs kind (bytes_number b / 2 ^ 16 % 2 ^ 4) else differs (crc16_of (drop 2 b)) (bytes_number b % 2 ^ 16) in
    ap (λ (m : ℕ). differs m stored) r ∙ ap (differs (crc16_of (drop 2 b))) (s ∙ sym n) ∙ ap C (sym (ne_eqb (bytes_number b % 2 ^ 16) (crc16_of (drop 2 b)) ne))

-- what is behind the end
pub drop_past : (bytes : List ℕ) (n : ℕ) → length bytes ≤ n → drop n bytes ≡ []
drop_past [] zero h = refl
drop_past [] (suc n) h = refl
drop_past (x ∷ bytes) zero h = absurd (omega (arith, h))
drop_past (x ∷ bytes) (suc n) h = drop_past bytes n (omega (arith, h))

pub take_past : (bytes : List ℕ) (n : ℕ) → length bytes ≤ n → take n bytes ≡ bytes
take_past [] zero h = refl
take_past [] (suc n) h = refl
take_past (x ∷ bytes) zero h = absurd (omega (arith, h))
take_past (x ∷ bytes) (suc n) h = ap (λ (xs : List ℕ). x ∷ xs) (take_past bytes n (omega (arith, h)))
