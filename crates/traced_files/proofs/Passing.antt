-- Lists of passes, one after another.
use Rattle.std.proofs.Common.{◌≡◌, ℕ, zero, suc, List, [], ◌∷◌, ◌++◌, length, All, ap, sym, ◌∙◌, subst, arith, length-append, append_assoc}
use Rattle.std.proofs.lemmas.List.{append-nil}
use Rattle.std.proofs.lemmas.List.Elements.{All-head, All-tail}
use Rattle.atomic_table.specs.Seated.{TableId}
use Rattle.traced_files.specs.States.{fresh_pass, fresh_passes}

pub length-fresh_passes : (word pool : TableId) (n : ℕ) → length (fresh_passes word pool n) ≡ n
length-fresh_passes word pool zero = omega arith
length-fresh_passes word pool (suc n) = omega (arith, length-append (fresh_passes word pool n) (fresh_pass word pool (suc n) ∷ []), length-fresh_passes word pool n)

-- where nothing is left, all that came is the whole
pub all_came : {A : Type 0} (came left whole : List A) → came ++ left ≡ whole → length left ≡ 0 → came ≡ whole
all_came came [] whole is none = sym (append-nil came) ∙ is
all_came came (x ∷ xs) whole is none = absurd (omega arith)

-- one more came
pub one_came : {A : Type 0} (came left rest whole : List A) (x : A) → came ++ left ≡ whole → left ≡ x ∷ rest → (came ++ x ∷ []) ++ rest ≡ whole
one_came {A = A} came left rest whole x is next = append_assoc came (x ∷ []) rest ∙ (ap (λ (l : List A). came ++ l) (sym next) ∙ is)

-- what holds of the whole holds of the next
pub holds_next : {A : Type 0} (P : A → Type 0) (came left rest whole : List A) (x : A) → came ++ left ≡ whole → left ≡ x ∷ rest → All P whole → P x
holds_next {A = A} P came left rest whole x is next all =
    let split : came ++ x ∷ rest ≡ whole = ap (λ (l : List A). came ++ l) (sym next) ∙ is in
    let here : All P (came ++ x ∷ rest) = subst (All P) (sym split) all in
    in_middle P came x rest here
  where
    in_middle : {A : Type 0} (P : A → Type 0) (xs : List A) (x : A) (ys : List A) → All P (xs ++ x ∷ ys) → P x
    in_middle P [] x ys all = All-head P x ys all
    in_middle P (z ∷ zs) x ys all = in_middle P zs x ys (All-tail P z (zs ++ x ∷ ys) all)
