-- Which parts a line can be of.
use Rattle.std.proofs.Common.{◌≡◌, ℕ, ◌<◌, ◌≤◌, ◌^◌, Bool, true, false, List, [], ◌∷◌, ◌++◌, length, get_or, arith, sym, refl, ap, subst, ◌∙◌}
use Rattle.std.specs.Prelude.{codes, nat_lt, ◌&&◌, if◌then◌else◌}
use Rattle.std.specs.Fmt.{decimal}
use Rattle.std.specs.List.{list_all}
use Rattle.std.specs.Str.Parse.{AllDigits}
use Rattle.std.proofs.lemmas.Bool.{and_from, lt-ltb}
use Rattle.std.proofs.lemmas.Fmt.{decimal_nonempty, digits_decimal}
use Rattle.std.proofs.lemmas.Str.Parse.{tells_digits}
use Rattle.fs_model.specs.Proper.{are_bytes}
use Rattle.fs_model.specs.declared.op.Op.{Op}
use Rattle.fs_model.specs.declared.op.Op.TheVariants.{Create, Mkdir, Symlink, Link, Unlink, Rmdir, Rename, OpenFile, Close, Read, Write, Truncate, Fsync, Flush, List as Listing, Stat, Readlink, Chmod}
use Rattle.script_text.specs.declared.part.Part.{Part}
use Rattle.script_text.specs.declared.part.Part.TheVariants.{Mount, Unmount, Now, Workers, Line}
use Rattle.script_text.specs.Script.{op_name, op_words, part_words, IsLineOf, MayStand, IsInRange, given_bytes}
use Rattle.script_text.specs.Words.{AreSpacedWords, Word, Fixed, Number, Lacks}
use Rattle.script_text.proofs.Cutting.{own}
use Rattle.script_text.proofs.Lines.{number_cut}
use Rattle.script_text.proofs.Naming.{tight_name}
use Rattle.script_text.proofs.Sentences.{tight_of, AllBare, one_line}
use Rattle.script_text.proofs.Spelling.{spelled_bytes}

-- a fixed word, and a number behind it
pub behind_name : (name : List ℕ) (bits n : ℕ) (line : List ℕ) → AreSpacedWords (Fixed name ∷ Number bits n ∷ []) line → line ≡ name ++ (32 ∷ decimal n)
behind_name name bits n line h = h.4 ∙ (ap (λ (t : List ℕ). t ++ (32 ∷ h.1)) h.2 ∙ ap (λ (t : List ℕ). name ++ (32 ∷ t)) h.3.1)

-- a caller, and an operation behind it
pub behind_caller : (caller : ℕ) (op : Op) (line : List ℕ) (h : IsLineOf (Line caller op) line) → line ≡ decimal caller ++ (32 ∷ h.words.1)
behind_caller caller op line h = h.words.4 ∙ ap (λ (t : List ℕ). t ++ (32 ∷ h.words.1)) h.words.2.1

-- a byte, or 49 in place of any digit
abbrev pub letter : ℕ → ℕ
letter byte = if nat_lt byte 58 then 49 else byte

-- what the first byte of a part's line is so
abbrev pub first : Part → ℕ
first Mount = 109
first Unmount = 117
first (Now now) = 110
first (Workers count) = 119
first (Line caller op) = 49

letter_digits : (ds more : List ℕ) → AllDigits 10 ds → 0 < length ds → letter (get_or (ds ++ more) 0 0) ≡ 49
letter_digits [] more h some = absurd (omega (arith, some))
letter_digits (d ∷ ds) more h some =
    let low : nat_lt d 58 ≡ true = (let p = tells_digits.parts d ds h in lt-ltb d 58 (omega (arith, p.0.1))) in
    ap (λ (b : Bool). if b then 49 else d) low

letter_number : (n : ℕ) (more : List ℕ) → n < 2 ^ 64 → letter (get_or (decimal n ++ more) 0 0) ≡ 49
letter_number n more fits = letter_digits (decimal n) more (digits_decimal own n fits) (decimal_nonempty n fits)

pub first_is : (p : Part) (line : List ℕ) → IsLineOf p line → letter (get_or line 0 0) ≡ first p
first_is Mount line h = ap (λ (t : List ℕ). letter (get_or t 0 0)) h.words
first_is Unmount line h = ap (λ (t : List ℕ). letter (get_or t 0 0)) h.words
first_is (Now now) line h = ap (λ (t : List ℕ). letter (get_or t 0 0)) (behind_name (codes "now") 64 now line h.words)
first_is (Workers count) line h = ap (λ (t : List ℕ). letter (get_or t 0 0)) (behind_name (codes "workers") 8 count line h.words)
first_is (Line caller op) line h =
    ap (λ (t : List ℕ). letter (get_or t 0 0)) (behind_caller caller op line h) ∙ letter_number caller (32 ∷ h.words.1) (omega (arith, h.allowed.1))

-- a line that begins with a caller is of that caller
pub of_caller : (part : Part) (line : List ℕ) (caller : ℕ) (rest : List ℕ) → caller ≤ 16 → line ≡ decimal caller ++ (32 ∷ rest) → IsLineOf part line
    → (op : Op) × (part ≡ Line caller op) × AreSpacedWords (Fixed (op_name op) ∷ op_words op) rest
of_caller part line caller rest few e h = by part h (sym (first_is part line h) ∙ (ap (λ (t : List ℕ). letter (get_or t 0 0)) e ∙ letter_number caller (32 ∷ rest) (omega (arith, few))))
  where
    by : (q : Part) → IsLineOf q line → first q ≡ 49 → (op : Op) × (q ≡ Line caller op) × AreSpacedWords (Fixed (op_name op) ∷ op_words op) rest
    by Mount k d = absurd (omega (arith, d))
    by Unmount k d = absurd (omega (arith, d))
    by (Now now) k d = absurd (omega (arith, d))
    by (Workers count) k d = absurd (omega (arith, d))
    by (Line other op) k d =
        let both = number_cut 32 other caller k.words.1 rest (omega arith) (omega (arith, k.allowed.1)) (omega (arith, few)) (sym (behind_caller other op line k) ∙ e) in
        let P : List ℕ → Type 0 = λ t. AreSpacedWords (Fixed (op_name op) ∷ op_words op) t in
        (op, ap (λ (x : ℕ). Line x op) both.0, subst P both.1 k.words.3)

-- and it is none where no caller's line may stand, or the caller is 0
pub no_caller : (mounted : Bool) (line : List ℕ) (caller : ℕ) (rest : List ℕ) → caller ≤ 16 → line ≡ decimal caller ++ (32 ∷ rest) → (mounted ≡ true → 1 ≤ caller → ⊥)
    → (part : Part) → MayStand mounted part → IsLineOf part line → ⊥
no_caller mounted line caller rest few e none part stands h =
    let is = of_caller part line caller rest few e h in
    let P : Part → Type 0 = λ p. MayStand mounted p × IsLineOf p line in
    let both = subst P is.1 (stands, h) in none both.0 both.1.allowed.0

-- a caller's line
pub caller_line : (line : List ℕ) (caller : ℕ) (op : Op) (rest : List ℕ) → 1 ≤ caller → caller ≤ 16 → line ≡ decimal caller ++ (32 ∷ rest) → AreSpacedWords (Fixed (op_name op) ∷ op_words op) rest → length line ≤ 10000
    → IsLineOf (Line caller op) line
caller_line line caller op rest some few e words short =
    record { allowed = (some, few); words = (decimal caller, rest, (omega (arith, few), refl), words, e); short = short }

-- a line without a caller
pub control_none : (mounted : Bool) (line : List ℕ) → (mounted ≡ false → line ≡ codes "mount" → ⊥) → (mounted ≡ true → line ≡ codes "unmount" → ⊥)
    → ((now : ℕ) → now < 2 ^ 64 → line ≡ codes "now " ++ decimal now → ⊥)
    → ((count : ℕ) → count ≤ 8 → line ≡ codes "workers " ++ decimal count → ⊥)
    → (part : Part) → MayStand mounted part → IsLineOf part line → (caller : ℕ) × (rest : List ℕ) × (caller ≤ 16) × (line ≡ decimal caller ++ (32 ∷ rest))
control_none mounted line mount unmount now workers Mount stands h = absurd (mount stands h.words)
control_none mounted line mount unmount now workers Unmount stands h = absurd (unmount stands h.words)
control_none mounted line mount unmount now workers (Now n) stands h = absurd (now n h.words.3.0 (behind_name (codes "now") 64 n line h.words))
control_none mounted line mount unmount now workers (Workers count) stands h = absurd (workers count h.allowed (behind_name (codes "workers") 8 count line h.words))
control_none mounted line mount unmount now workers (Line caller op) stands h = (caller, h.words.1, h.allowed.1, behind_caller caller op line h)

pub op_bare : (op : Op) → AllBare (op_words op)
op_bare (Create path mode) = (tt, (tt, tt))
op_bare (Mkdir path mode) = (tt, (tt, tt))
op_bare (Symlink path target) = (tt, (tt, tt))
op_bare (Link old new) = (tt, (tt, tt))
op_bare (Unlink path) = (tt, tt)
op_bare (Rmdir path) = (tt, tt)
op_bare (Rename old new) = (tt, (tt, tt))
op_bare (OpenFile path slot) = (tt, (omega arith, tt))
op_bare (Close slot) = (omega arith, tt)
op_bare (Read slot offs len) = (omega arith, (omega arith, (omega arith, tt)))
op_bare (Write slot offs len byte) = (omega arith, (omega arith, (omega arith, (omega arith, tt))))
op_bare (Truncate slot size) = (omega arith, (omega arith, tt))
op_bare (Fsync slot) = (omega arith, tt)
op_bare Flush = tt
op_bare (Listing path) = (tt, tt)
op_bare (Stat path) = (tt, tt)
op_bare (Readlink path) = (tt, tt)
op_bare (Chmod path mode) = (tt, (tt, tt))

part_bare : (part : Part) → AllBare (part_words part)
part_bare Mount = (tight_of (codes "mount") refl, tt)
part_bare Unmount = (tight_of (codes "unmount") refl, tt)
part_bare (Now now) = (tight_of (codes "now") refl, (omega arith, tt))
part_bare (Workers count) = (tight_of (codes "workers") refl, (omega arith, tt))
part_bare (Line caller op) = (omega arith, (tight_name op, op_bare op))

-- a part's line has no newline in it
pub part_line : (part : Part) (line : List ℕ) → IsLineOf part line → Lacks 10 line
part_line part line h = one_line (part_words part) line (part_bare part) h.words

given_are_bytes : (op : Op) (text : List ℕ) → AreSpacedWords (op_words op) text → list_all are_bytes (given_bytes op) ≡ true
given_are_bytes (Create path mode) text h = and_from (are_bytes path) true (spelled_bytes path h.0 h.2.0) refl
given_are_bytes (Mkdir path mode) text h = and_from (are_bytes path) true (spelled_bytes path h.0 h.2.0) refl
given_are_bytes (Symlink path target) text h = and_from (are_bytes path) (are_bytes target && true) (spelled_bytes path h.0 h.2.0) (and_from (are_bytes target) true (spelled_bytes target h.1 h.3) refl)
given_are_bytes (Link old new) text h = and_from (are_bytes new) true (spelled_bytes new h.1 h.3.0) refl
given_are_bytes (Rename old new) text h = and_from (are_bytes new) true (spelled_bytes new h.1 h.3.0) refl
given_are_bytes (Write slot offs len byte) text h = and_from (are_bytes (byte ∷ [])) true (and_from (nat_lt byte 256) true (lt-ltb byte 256 h.3.3.3.0) refl) refl
given_are_bytes (Unlink path) text h = refl
given_are_bytes (Rmdir path) text h = refl
given_are_bytes (OpenFile path slot) text h = refl
given_are_bytes (Close slot) text h = refl
given_are_bytes (Read slot offs len) text h = refl
given_are_bytes (Truncate slot size) text h = refl
given_are_bytes (Fsync slot) text h = refl
given_are_bytes Flush text h = refl
given_are_bytes (Listing path) text h = refl
given_are_bytes (Stat path) text h = refl
given_are_bytes (Readlink path) text h = refl
given_are_bytes (Chmod path mode) text h = refl

-- an operation without words gives nothing
alone : (op : Op) → op_words op ≡ [] → list_all are_bytes (given_bytes op) ≡ true
alone Flush e = refl
alone op e = absurd cc

pub part_in_range : (part : Part) (line : List ℕ) → IsLineOf part line → IsInRange part
part_in_range Mount line h = tt
part_in_range Unmount line h = tt
part_in_range (Now now) line h = h.words.3.0
part_in_range (Workers count) line h = h.allowed
part_in_range (Line caller op) line h = (h.allowed, by (op_words op) refl h.words.3)
  where
    by : (ws : List Word) → op_words op ≡ ws → AreSpacedWords (Fixed (op_name op) ∷ ws) h.words.1 → list_all are_bytes (given_bytes op) ≡ true
    by [] e k = alone op e
    by (w ∷ ws) e k = let P : List Word → Type 0 = λ l. AreSpacedWords l k.1 in given_are_bytes op k.1 (subst P (sym e) k.3)
