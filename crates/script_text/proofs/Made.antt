-- Which lines of a manifest a text can be.
use Rattle.std.proofs.Common.{◌≡◌, ℕ, ◌≤◌, get_or, List, [], ◌∷◌, ◌++◌, length, arith, sym, refl, ap, subst, ◌∙◌}
use Rattle.std.specs.Prelude.{codes}
use Rattle.script_text.specs.declared.manifest_line.ManifestLine.{ManifestLine}
use Rattle.script_text.specs.declared.manifest_line.ManifestLine.TheVariants.{Dir, File, Copy, Symlink, Link}
use Rattle.script_text.specs.ManifestLines.{made_name, made_words, IsGivenLine, IsManifestLineOf}
use Rattle.script_text.specs.MadeNames.{SaysMade}
use Rattle.script_text.specs.Words.{AreSpacedWords, Word, Fixed, Number, Mode, Path, Target, FileName, Lacks}
use Rattle.script_text.proofs.OneReading.{AllAlike, words_once}
use Rattle.script_text.proofs.Sentences.{AllBare, Tight, begun, one_line, split, tight_lacks, tight_of, uncut}
use Rattle.script_text.proofs.Spelling.{spelled_bytes}

-- the first byte of a line
abbrev letter : ManifestLine → ℕ
letter (Dir path mode) = 100
letter (File path mode len byte) = 102
letter (Copy path mode name) = 99
letter (Symlink path target) = 115
letter (Link old new) = 108

letter_is : (line : ManifestLine) → letter line ≡ get_or (made_name line) 0 0
letter_is (Dir path mode) = refl
letter_is (File path mode len byte) = refl
letter_is (Copy path mode name) = refl
letter_is (Symlink path target) = refl
letter_is (Link old new) = refl

letter_of : (line : ManifestLine) (name : List ℕ) → made_name line ≡ name → letter line ≡ get_or name 0 0
letter_of line name e = letter_is line ∙ ap (λ (t : List ℕ). get_or t 0 0) e

made_tight : (line : ManifestLine) → Tight (made_name line)
made_tight (Dir path mode) = tight_of (codes "dir") refl
made_tight (File path mode len byte) = tight_of (codes "file") refl
made_tight (Copy path mode name) = tight_of (codes "copy") refl
made_tight (Symlink path target) = tight_of (codes "symlink") refl
made_tight (Link old new) = tight_of (codes "link") refl

made_bare : (line : ManifestLine) → AllBare (made_words line)
made_bare (Dir path mode) = (tt, (tt, tt))
made_bare (File path mode len byte) = (tt, (tt, (omega arith, (omega arith, tt))))
made_bare (Copy path mode name) = (tt, (tt, (tt, tt)))
made_bare (Symlink path target) = (tt, (tt, tt))
made_bare (Link old new) = (tt, (tt, tt))

pub dir_none : (text : List ℕ) → ((path : List ℕ) (mode : ℕ) → AreSpacedWords (Path path ∷ Mode mode ∷ []) text → ⊥) → (line : ManifestLine) → SaysMade (codes "dir") line text → ⊥
dir_none text none line s = by line (letter_of line (codes "dir") s.name_is) s.words
  where
    by : (x : ManifestLine) → letter x ≡ 100 → AreSpacedWords (made_words x) text → ⊥
    by (Dir path mode) e h = none path mode h
    by (File path mode len byte) e h = omega (arith, e)
    by (Copy path mode name) e h = omega (arith, e)
    by (Symlink path target) e h = omega (arith, e)
    by (Link old new) e h = omega (arith, e)

pub symlink_none : (text : List ℕ) → ((path target : List ℕ) → AreSpacedWords (Path path ∷ Target target ∷ []) text → ⊥) → (line : ManifestLine) → SaysMade (codes "symlink") line text → ⊥
symlink_none text none line s = by line (letter_of line (codes "symlink") s.name_is) s.words
  where
    by : (x : ManifestLine) → letter x ≡ 115 → AreSpacedWords (made_words x) text → ⊥
    by (Dir path mode) e h = omega (arith, e)
    by (File path mode len byte) e h = omega (arith, e)
    by (Copy path mode name) e h = omega (arith, e)
    by (Symlink path target) e h = none path target h
    by (Link old new) e h = omega (arith, e)

pub copy_none : (text : List ℕ) → ((path : List ℕ) (mode : ℕ) (name : List ℕ) → AreSpacedWords (Path path ∷ Mode mode ∷ FileName name ∷ []) text → ⊥) → (line : ManifestLine) → SaysMade (codes "copy") line text → ⊥
copy_none text none line s = by line (letter_of line (codes "copy") s.name_is) s.words
  where
    by : (x : ManifestLine) → letter x ≡ 99 → AreSpacedWords (made_words x) text → ⊥
    by (Dir path mode) e h = omega (arith, e)
    by (File path mode len byte) e h = omega (arith, e)
    by (Copy path mode name) e h = none path mode name h
    by (Symlink path target) e h = omega (arith, e)
    by (Link old new) e h = omega (arith, e)

pub link_none : (text : List ℕ) → ((old new : List ℕ) → AreSpacedWords (Path old ∷ Path new ∷ []) text → ⊥) → (line : ManifestLine) → SaysMade (codes "link") line text → ⊥
link_none text none line s = by line (letter_of line (codes "link") s.name_is) s.words
  where
    by : (x : ManifestLine) → letter x ≡ 108 → AreSpacedWords (made_words x) text → ⊥
    by (Dir path mode) e h = omega (arith, e)
    by (File path mode len byte) e h = omega (arith, e)
    by (Copy path mode name) e h = omega (arith, e)
    by (Symlink path target) e h = omega (arith, e)
    by (Link old new) e h = none old new h

-- the words behind `file`
abbrev pub file_words : List ℕ → ℕ → ℕ → ℕ → List Word
file_words path mode len byte = Path path ∷ Mode mode ∷ Number 32 len ∷ Number 8 byte ∷ []

pub file_none : (text : List ℕ) → ((path : List ℕ) (mode len byte : ℕ) → AreSpacedWords (file_words path mode len byte) text → len ≤ 16777216 → ⊥) → (line : ManifestLine) → SaysMade (codes "file") line text → ⊥
file_none text none line s = by line (letter_of line (codes "file") s.name_is) s
  where
    by : (x : ManifestLine) → letter x ≡ 102 → SaysMade (codes "file") x text → ⊥
    by (Dir path mode) e h = omega (arith, e)
    by (File path mode len byte) e h = none path mode len byte h.words h.few
    by (Copy path mode name) e h = omega (arith, e)
    by (Symlink path target) e h = omega (arith, e)
    by (Link old new) e h = omega (arith, e)

-- a mode, a length and a byte are read in one way only
pub one_length : (text : List ℕ) (mode len byte m l b : ℕ) → AreSpacedWords (Mode mode ∷ Number 32 len ∷ Number 8 byte ∷ []) text → AreSpacedWords (Mode m ∷ Number 32 l ∷ Number 8 b ∷ []) text → len ≡ l
one_length text mode len byte m l b h k =
    let e = words_once (Mode mode ∷ Number 32 len ∷ Number 8 byte ∷ []) (Mode m ∷ Number 32 l ∷ Number 8 b ∷ []) text (tt, (refl, (refl, tt))) (tt, (omega arith, (omega arith, tt))) (tt, (omega arith, (omega arith, tt))) h k in cc

-- what stands before the first space is the line's first word
pub name_parts : (text name rest : List ℕ) → Lacks 32 name → text ≡ name ++ (32 ∷ rest) → (line : ManifestLine) → IsManifestLineOf line text → SaysMade name line rest
name_parts text name rest lacks e (Dir path mode) h =
    let s = split (Fixed (codes "dir")) (Path path) (Mode mode ∷ []) text name rest (made_tight (Dir path mode)) lacks e h.words in record { name_is = sym s.0; words = s.1; few = tt }
name_parts text name rest lacks e (File path mode len byte) h =
    let s = split (Fixed (codes "file")) (Path path) (Mode mode ∷ Number 32 len ∷ Number 8 byte ∷ []) text name rest (made_tight (File path mode len byte)) lacks e h.words in record { name_is = sym s.0; words = s.1; few = h.few }
name_parts text name rest lacks e (Copy path mode file) h =
    let s = split (Fixed (codes "copy")) (Path path) (Mode mode ∷ FileName file ∷ []) text name rest (made_tight (Copy path mode file)) lacks e h.words in record { name_is = sym s.0; words = s.1; few = tt }
name_parts text name rest lacks e (Symlink path target) h =
    let s = split (Fixed (codes "symlink")) (Path path) (Target target ∷ []) text name rest (made_tight (Symlink path target)) lacks e h.words in record { name_is = sym s.0; words = s.1; few = tt }
name_parts text name rest lacks e (Link old new) h =
    let s = split (Fixed (codes "link")) (Path old) (Path new ∷ []) text name rest (made_tight (Link old new)) lacks e h.words in record { name_is = sym s.0; words = s.1; few = tt }

some_words : (line : ManifestLine) → made_words line ≡ [] → ⊥
some_words (Dir path mode) e = absurd cc
some_words (File path mode len byte) e = absurd cc
some_words (Copy path mode name) e = absurd cc
some_words (Symlink path target) e = absurd cc
some_words (Link old new) e = absurd cc

-- no line is one word
pub no_word : (text : List ℕ) → Lacks 32 text → (line : ManifestLine) → IsManifestLineOf line text → ⊥
no_word text lacks (Dir path mode) h = uncut (Fixed (codes "dir")) (Path path) (Mode mode ∷ []) text lacks h.words
no_word text lacks (File path mode len byte) h = uncut (Fixed (codes "file")) (Path path) (Mode mode ∷ Number 32 len ∷ Number 8 byte ∷ []) text lacks h.words
no_word text lacks (Copy path mode name) h = uncut (Fixed (codes "copy")) (Path path) (Mode mode ∷ FileName name ∷ []) text lacks h.words
no_word text lacks (Symlink path target) h = uncut (Fixed (codes "symlink")) (Path path) (Target target ∷ []) text lacks h.words
no_word text lacks (Link old new) h = uncut (Fixed (codes "link")) (Path old) (Path new ∷ []) text lacks h.words

-- the first word, and the words behind it
pub line_parts : (text name rest : List ℕ) (line : ManifestLine) → text ≡ name ++ (32 ∷ rest) → length text ≤ 10000 → SaysMade name line rest → IsManifestLineOf line text
line_parts text name rest line e short s = record {
  words = begun (made_name line) (made_words line) text rest (some_words line) s.words (e ∙ ap (λ (t : List ℕ). t ++ (32 ∷ rest)) (sym s.name_is));
  few = s.few;
  short = short;
}

-- a line has no newline in it
pub made_line : (line : ManifestLine) (text : List ℕ) → IsManifestLineOf line text → Lacks 10 text
made_line line text h = one_line (Fixed (made_name line) ∷ made_words line) text (made_tight line, made_bare line) h.words

-- no line is the last one
pub made_no_end : (line : ManifestLine) (text : List ℕ) → IsManifestLineOf line text → text ≡ codes "end" → ⊥
made_no_end line text h e = no_word text (let P : List ℕ → Type 0 = λ t. Lacks 32 t in subst P (sym e) (tight_lacks 32 (codes "end") (omega arith) (tight_of (codes "end") refl))) line h

same_kind : (a b : ManifestLine) → letter a ≡ letter b → AllAlike (made_words a) (made_words b) × (made_words a ≡ made_words b → a ≡ b)
same_kind (Dir p m) (Dir q n) e = ((tt, (tt, tt)), λ w. cc)
same_kind (Dir p m) (File q n l b) e = absurd (omega (arith, e))
same_kind (Dir p m) (Copy q n f) e = absurd (omega (arith, e))
same_kind (Dir p m) (Symlink q t) e = absurd (omega (arith, e))
same_kind (Dir p m) (Link q t) e = absurd (omega (arith, e))
same_kind (File p m l b) (Dir q n) e = absurd (omega (arith, e))
same_kind (File p m l b) (File q n k d) e = ((tt, (tt, (refl, (refl, tt)))), λ w. cc)
same_kind (File p m l b) (Copy q n f) e = absurd (omega (arith, e))
same_kind (File p m l b) (Symlink q t) e = absurd (omega (arith, e))
same_kind (File p m l b) (Link q t) e = absurd (omega (arith, e))
same_kind (Copy p m f) (Dir q n) e = absurd (omega (arith, e))
same_kind (Copy p m f) (File q n k d) e = absurd (omega (arith, e))
same_kind (Copy p m f) (Copy q n g) e = ((tt, (tt, (tt, tt))), λ w. cc)
same_kind (Copy p m f) (Symlink q t) e = absurd (omega (arith, e))
same_kind (Copy p m f) (Link q t) e = absurd (omega (arith, e))
same_kind (Symlink p t) (Dir q n) e = absurd (omega (arith, e))
same_kind (Symlink p t) (File q n l b) e = absurd (omega (arith, e))
same_kind (Symlink p t) (Copy q n f) e = absurd (omega (arith, e))
same_kind (Symlink p t) (Symlink q u) e = ((tt, (tt, tt)), λ w. cc)
same_kind (Symlink p t) (Link q u) e = absurd (omega (arith, e))
same_kind (Link p t) (Dir q n) e = absurd (omega (arith, e))
same_kind (Link p t) (File q n l b) e = absurd (omega (arith, e))
same_kind (Link p t) (Copy q n f) e = absurd (omega (arith, e))
same_kind (Link p t) (Symlink q u) e = absurd (omega (arith, e))
same_kind (Link p t) (Link q u) e = ((tt, (tt, tt)), λ w. cc)

-- a text is one line
pub made_once : (a b : ManifestLine) (text : List ℕ) → IsManifestLineOf a text → IsManifestLineOf b text → a ≡ b
made_once a b text h k =
    let x = front a text h in
    let s = name_parts text (made_name a) x.0 (tight_lacks 32 (made_name a) (omega arith) (made_tight a)) x.1 b k in
    let t = name_parts text (made_name a) x.0 (tight_lacks 32 (made_name a) (omega arith) (made_tight a)) x.1 a h in
    let same = same_kind a b (letter_is a ∙ sym (letter_of b (made_name a) s.name_is)) in
    same.1 (words_once (made_words a) (made_words b) x.0 same.0 (made_bare a) (made_bare b) t.words s.words)
  where
    front : (line : ManifestLine) (text : List ℕ) → IsManifestLineOf line text → (rest : List ℕ) × (text ≡ made_name line ++ (32 ∷ rest))
    front (Dir path mode) text h = (h.words.1, h.words.4 ∙ ap (λ (t : List ℕ). t ++ (32 ∷ h.words.1)) h.words.2)
    front (File path mode len byte) text h = (h.words.1, h.words.4 ∙ ap (λ (t : List ℕ). t ++ (32 ∷ h.words.1)) h.words.2)
    front (Copy path mode name) text h = (h.words.1, h.words.4 ∙ ap (λ (t : List ℕ). t ++ (32 ∷ h.words.1)) h.words.2)
    front (Symlink path target) text h = (h.words.1, h.words.4 ∙ ap (λ (t : List ℕ). t ++ (32 ∷ h.words.1)) h.words.2)
    front (Link old new) text h = (h.words.1, h.words.4 ∙ ap (λ (t : List ℕ). t ++ (32 ∷ h.words.1)) h.words.2)

-- what a line gives is bytes
pub made_given : (line : ManifestLine) (text : List ℕ) → IsManifestLineOf line text → IsGivenLine line
made_given (Dir path mode) text h = spelled_bytes path h.words.3.0 h.words.3.2.0
made_given (File path mode len byte) text h = (spelled_bytes path h.words.3.0 h.words.3.2.0, h.few, h.words.3.3.3.3.0)
made_given (Copy path mode name) text h = (spelled_bytes path h.words.3.0 h.words.3.2.0, h.words.3.3.3.1)
made_given (Symlink path target) text h = (spelled_bytes path h.words.3.0 h.words.3.2.0, spelled_bytes target h.words.3.1 h.words.3.3)
made_given (Link old new) text h = spelled_bytes new h.words.3.1 h.words.3.3.0
