-- What a pass and the recorder learn where they tell each other what they have seen.
use Rattle.std.proofs.Common.{◌≡◌, ℕ, ◌≤◌, List, [], ◌∷◌, ◌++◌, length, All, refl, ap, ◌∙◌, subst, arith}
use Rattle.std.proofs.lemmas.List.{length_push, get_or_push}
use mathlib.Core.List.{IsPrefix}
use Rattle.fs_model.specs.declared.trace.TraceLine.{TraceLine}
use Rattle.trace_word.specs.Knowledge.{lines_of}
use Rattle.trace_word.specs.declared.view.Known.{Known}
use Rattle.trace_word.specs.Knowledge.{known_joined, known_told, claim_note, note_of}
use Rattle.trace_word.proofs.Prefixes.{longer_is}
use Rattle.trace_word.proofs.Counting.{fewer_lines}

last_of_all : {A : Type 0} (P : A → Type 0) (xs : List A) (y : A) → All P (xs ++ y ∷ []) → P y
last_of_all P xs y all = subst P (get_or_push xs y y (length xs) refl) (all (length xs) y (omega (arith, length_push xs y)))

-- the recorder was known_told of a list, which begins its own
pub heard : (now old n p : Known) (caller claim : ℕ) → now ≡ known_told old n → n ≡ claim_note caller claim p → All (λ e. IsPrefix e now.seen) now.earlier → IsPrefix p.seen old.seen
heard now old n p caller claim is note all =
    let at : All (λ (e : List TraceLine). IsPrefix e old.seen) (old.earlier ++ n.seen ∷ []) = subst (λ (k : Known). All (λ (e : List TraceLine). IsPrefix e k.seen) k.earlier) is all in
    subst (λ (k : Known). IsPrefix k.seen old.seen) note (last_of_all (λ (e : List TraceLine). IsPrefix e old.seen) old.earlier n.seen at)

-- a pass was known_told of a longer list, and has that now
pub saw : (now p n k : Known) → now ≡ known_joined p n → n ≡ note_of k → IsPrefix p.seen k.seen → now.seen ≡ k.seen
saw now p n k is note pre = ap (λ (x : Known). x.seen) is ∙ (ap (λ (x : Known). (known_joined p x).seen) note ∙ longer_is p.seen k.seen pre)

-- which has just the lines that it claimed
pub all_claimed : (caller claim : ℕ) (xs ys : List TraceLine) → IsPrefix xs ys → lines_of caller xs ≡ claim → lines_of caller ys ≤ claim → lines_of caller ys ≡ claim
all_claimed caller claim xs ys pre is le = let f = fewer_lines caller xs ys pre in omega arith
