-- A line is of one part.
use Rattle.std.proofs.Common.{◌≡◌, ℕ, List, [], ◌∷◌, Some, arith, sym, refl, ap, subst, ◌∙◌, inl, inr}
use Rattle.std.proofs.lemmas.Fmt.{decimal_injective}
use Rattle.fs_model.specs.declared.op.Op.{Op}
use Rattle.fs_model.specs.declared.op.Op.TheVariants.{Create, Mkdir, Symlink, Link, Unlink, Rmdir, Rename, OpenFile, Close, Read, Write, Truncate, Fsync, Flush, List as Listing, Stat, Readlink, Chmod}
use Rattle.script_text.specs.declared.verb.Verb.{Verb}
use Rattle.script_text.specs.Script.{op_name, op_words}
use Rattle.script_text.specs.Words.{BeginsWithByte, IsWordSpelled, Word, Fixed, Number, Mode, Path, Target, FileName, IsWord, AreSpacedWords}
use Rattle.script_text.proofs.Cutting.{cut_once, not_cut}
use Rattle.script_text.proofs.Naming.{op_verb, of_verb, tight_name, verb_there}
use Rattle.script_text.proofs.PartLines.{op_bare}
use Rattle.script_text.proofs.Sentences.{Bare, AllBare, tight_lacks, unbroken_word, split, named}
use Rattle.script_text.proofs.Spelling.{begins_once, some_bytes}

-- a word spells one row of bytes
pub spelled_once : (xs ys word : List ℕ) → IsWordSpelled word xs → IsWordSpelled word ys → xs ≡ ys
spelled_once [] [] word h k = refl
spelled_once [] (y ∷ ys) word h k = let P : List ℕ → Type 0 = λ t. BeginsWithByte t y k.0 in absurd (some_bytes y k.0 (subst P h k.1))
spelled_once (x ∷ xs) [] word h k = let P : List ℕ → Type 0 = λ t. BeginsWithByte t x h.0 in absurd (some_bytes x h.0 (subst P k h.1))
spelled_once (x ∷ xs) (y ∷ ys) word h k =
    let once = begins_once word x y h.0 k.0 h.1 k.1 in
    let P : List ℕ → Type 0 = λ t. IsWordSpelled t ys in
    let rest = spelled_once xs ys h.0 h.2 (subst P (sym once.1) k.2) in
    ap (λ (z : ℕ). z ∷ xs) once.0 ∙ ap (λ (zs : List ℕ). y ∷ zs) rest

-- words of one kind
abbrev pub Alike : Word → Word → Type 0
Alike (Fixed a) (Fixed b) = Unit {0}
Alike (Number bits m) (Number more n) = bits ≡ more
Alike (Mode m) (Mode n) = Unit {0}
Alike (Path x) (Path y) = Unit {0}
Alike (Target x) (Target y) = Unit {0}
Alike (FileName a) (FileName b) = Unit {0}
Alike w v = ⊥

abbrev pub AllAlike : List Word → List Word → Type 0
AllAlike [] [] = Unit {0}
AllAlike (w ∷ ws) (v ∷ vs) = Alike w v × AllAlike ws vs
AllAlike ws vs = ⊥

word_once : (w v : Word) (t : List ℕ) → Alike w v → Bare w → Bare v → IsWord w t → IsWord v t → w ≡ v
word_once (Fixed a) (Fixed b) t s x y h k = ap Fixed (sym h ∙ k)
word_once (Number bits m) (Number more n) t s x y h k =
    let same : m ≡ n = decimal_injective m n (omega (arith, x, h.0)) (omega (arith, y, k.0)) (sym h.1 ∙ k.1) in
    ap (λ (c : ℕ). Number c m) s ∙ ap (λ (c : ℕ). Number more c) same
word_once (Mode m) (Mode n) t s x y h k = ap Mode (sym h.value ∙ k.value)
word_once (Path a) (Path b) t s x y h k = ap Path (spelled_once a b t h.0 k.0)
word_once (Target a) (Target b) t s x y h k = ap Target (spelled_once a b t h k)
word_once (FileName a) (FileName b) t s x y h k = ap FileName (sym h.0 ∙ k.0)
word_once w v t s x y h k = absurd s

pub words_once : (ws vs : List Word) (t : List ℕ) → AllAlike ws vs → AllBare ws → AllBare vs → AreSpacedWords ws t → AreSpacedWords vs t → ws ≡ vs
words_once [] [] t s x y h k = refl
words_once [] (v ∷ vs) t s x y h k = absurd s
words_once (w ∷ ws) [] t s x y h k = absurd s
words_once (w ∷ []) (v ∷ []) t s x y h k = ap (λ (z : Word). z ∷ []) (word_once w v t s.0 x.0 y.0 h k)
words_once (w ∷ []) (v ∷ z ∷ vs) t s x y h k = absurd s.1
words_once (w ∷ z ∷ ws) (v ∷ []) t s x y h k = absurd s.1
words_once (w ∷ z ∷ ws) (v ∷ a ∷ vs) t s x y h k =
    let p = split v a vs t h.0 h.1 y.0 (unbroken_word w h.0 x.0 h.2).0 h.4 k in
    let rest = words_once (z ∷ ws) (a ∷ vs) h.1 s.1 x.1 y.1 h.3 p.1 in
    ap (λ (c : Word). c ∷ z ∷ ws) (word_once w v h.0 s.0 x.0 y.0 h.2 p.0) ∙ ap (λ (cs : List Word). v ∷ cs) rest

-- two operations of one word
same_verb : (a b : Op) (verb : Verb) → op_verb a ≡ Some verb → op_verb b ≡ Some verb → AllAlike (op_words a) (op_words b) × (op_words a ≡ op_words b → a ≡ b)
same_verb (Create p t) (Create px tx) verb e d = ((tt, (tt, tt)), λ w. cc)
same_verb (Mkdir p t) (Mkdir px tx) verb e d = ((tt, (tt, tt)), λ w. cc)
same_verb (Symlink p t) (Symlink px tx) verb e d = ((tt, (tt, tt)), λ w. cc)
same_verb (Link p t) (Link px tx) verb e d = ((tt, (tt, tt)), λ w. cc)
same_verb (Unlink p) (Unlink px) verb e d = ((tt, tt), λ w. cc)
same_verb (Rmdir p) (Rmdir px) verb e d = ((tt, tt), λ w. cc)
same_verb (Rename p t) (Rename px tx) verb e d = ((tt, (tt, tt)), λ w. cc)
same_verb (OpenFile p t) (OpenFile px tx) verb e d = ((tt, (refl, tt)), λ w. cc)
same_verb (Close p) (Close px) verb e d = ((refl, tt), λ w. cc)
same_verb (Read p t l) (Read px tx lx) verb e d = ((refl, (refl, (refl, tt))), λ w. cc)
same_verb (Write p t l b) (Write px tx lx bx) verb e d = ((refl, (refl, (refl, (refl, tt)))), λ w. cc)
same_verb (Truncate p t) (Truncate px tx) verb e d = ((refl, (refl, tt)), λ w. cc)
same_verb (Fsync p) (Fsync px) verb e d = ((refl, tt), λ w. cc)
same_verb (Listing p) (Listing px) verb e d = ((tt, tt), λ w. cc)
same_verb (Stat p) (Stat px) verb e d = ((tt, tt), λ w. cc)
same_verb (Readlink p) (Readlink px) verb e d = ((tt, tt), λ w. cc)
same_verb (Chmod p t) (Chmod px tx) verb e d = ((tt, (tt, tt)), λ w. cc)
same_verb a b verb e d = absurd cc

only_flush : (op : Op) → op_words op ≡ [] → op ≡ Flush
only_flush Flush e = refl
only_flush op e = absurd cc

pub op_once : (a b : Op) (text : List ℕ) → AreSpacedWords (Fixed (op_name a) ∷ op_words a) text → AreSpacedWords (Fixed (op_name b) ∷ op_words b) text → a ≡ b
op_once a b text h k = elim (named (op_name a) (op_words a) text h) [
  | inl x ↦ elim (named (op_name b) (op_words b) text k) [
    | inl y ↦ only_flush a x.0 ∙ sym (only_flush b y.0)
    | inr y ↦ absurd (not_cut 32 (op_name a) (op_name b) y.rest (tight_lacks 32 (op_name a) (omega arith) (tight_name a)) (sym x.1 ∙ y.text))
  ]
  | inr x ↦ elim (named (op_name b) (op_words b) text k) [
    | inl y ↦ absurd (not_cut 32 (op_name b) (op_name a) x.rest (tight_lacks 32 (op_name b) (omega arith) (tight_name b)) (sym y.1 ∙ x.text))
    | inr y ↦
        let p = cut_once 32 (op_name a) x.rest (op_name b) y.rest (tight_lacks 32 (op_name a) (omega arith) (tight_name a)) (tight_lacks 32 (op_name b) (omega arith) (tight_name b)) (sym x.text ∙ y.text) in
        let v = verb_there a x.rest x.some x.words in
        let same = same_verb a b v.0 (of_verb a v.0 v.1) (of_verb b v.0 (sym p.0 ∙ v.1)) in
        let P : List ℕ → Type 0 = λ t. AreSpacedWords (op_words b) t in
        same.1 (words_once (op_words a) (op_words b) x.rest same.0 (op_bare a) (op_bare b) x.words (subst P (sym p.1) y.words))
  ]
]
