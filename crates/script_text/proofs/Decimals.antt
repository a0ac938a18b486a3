use Rattle.std.proofs.Common.{◌≡◌, ℕ, zero, suc, ◌<◌, ◌^◌, List, length, get_or, arith, sym, ◌∙◌, ap, Result, Ok, Err}
use Rattle.std.specs.Fmt.{decimal}
use Rattle.std.specs.Str.Parse.{ParsesUnsigned, AllDigits, digits_value}
use Rattle.std.proofs.lemmas.Str.Parse.{IsNumeralModel, numerals_by_value, tells_digits, parse_plain, not_in_digits}
use Rattle.std.proofs.lemmas.Fmt.{decimal-digits_value, digits_decimal, decimal_nonempty, first_decimal, decimal_digit, parse-decimal}
use Rattle.script_text.specs.Words.{IsPlainNumeral}

own : IsNumeralModel (AllDigits 10) (digits_value 10)
own = numerals_by_value (AllDigits 10) tells_digits

pub found_of : (E : Type 0) (bs : List ℕ) (n : ℕ) (r : Result ℕ E) → ParsesUnsigned 64 10 bs r → r ≡ Ok n → IsPlainNumeral bs → bs ≡ decimal n
found_of E bs n (Err x) h e plain = absurd cc
found_of E bs n (Ok x) h e plain =
    let read = parse_plain own {E = E} 64 bs (Ok x) h plain.0 in
    let same : x ≡ n = cc in
    sym (ap decimal (sym same ∙ read.1) ∙ decimal-digits_value own bs read.0.0 read.0.1 plain.1 read.0.2)

pub plain_decimal : (n : ℕ) → n < 2 ^ 64 → IsPlainNumeral (decimal n)
plain_decimal zero fits = (λ e. let d = ap (λ (b : List ℕ). get_or b 0 0) (decimal_digit 0 (omega arith)) in omega (arith, d, e), λ e. ap length (decimal_digit 0 (omega arith)))
plain_decimal (suc n) fits = (
  not_in_digits own (decimal (suc n)) 43 (digits_decimal own (suc n) fits) (λ r. omega (arith, r)) 0 (decimal_nonempty (suc n) fits),
  λ e. absurd (let f = first_decimal (suc n) (omega arith) fits in omega (arith, f, e)),
)

pub ok_of : (E : Type 0) (bs : List ℕ) (n : ℕ) (r : Result ℕ E) → ParsesUnsigned 64 10 bs r → n < 2 ^ 64 → bs ≡ decimal n → r ≡ Ok n
ok_of E bs n r h fits e = parse-decimal 64 n bs r fits fits e h
