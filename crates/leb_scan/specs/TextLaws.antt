-- How pieces of a text join.
use Rattle.std.proofs.Common.{◌≡◌, ℕ, zero, suc, ◌+◌, ◌-◌, ◌≤◌, ◌==◌, Bool, true, false, cond, List, [], ◌∷◌, ◌++◌, drop, replicate, refl, ap, sym, ◌∙◌, subst, arith}
use Rattle.std.proofs.lemmas.Bool.{and_parts}
use Rattle.std.proofs.lemmas.List.{drop-drop}
use Rattle.leb_scan.specs.declared.found.Found.{Found}
use Rattle.leb_scan.specs.declared.item.Item.{Item}
use Rattle.leb_scan.specs.declared.item.Item.TheVariants.{Node, Padding, Word}
use Rattle.leb_scan.specs.declared.tail.Tail.TheVariants.{Clean, Torn}
use Rattle.leb_scan.specs.Text.{Begins, behind, Stand, is_blank, IsTail, nodes_of, tail_at}

-- items behind items
pub Stand-then : (leb : List ℕ) (a b c : ℕ) (first second : List Item) → Stand leb a first b → Stand leb b second c → Stand leb a (first ++ second) c
Stand-then leb a b c [] second h1 h2 = let P : ℕ → Type 0 = λ place. Stand leb place second c in subst P (sym h1) h2
Stand-then leb a b c (item ∷ first) second h1 h2 = (h1.0, Stand-then leb (behind leb a item) b c first second h1.1 h2)

pub nodes_of-append : (first second : List Item) → nodes_of (first ++ second) ≡ nodes_of first ++ nodes_of second
nodes_of-append [] second = refl
nodes_of-append (Node found ∷ first) second = ap (λ (nodes : List Found). found ∷ nodes) (nodes_of-append first second)
nodes_of-append (Padding found pad_len ∷ first) second = ap (λ (nodes : List Found). found ∷ nodes) (nodes_of-append first second)
nodes_of-append (Word ∷ first) second = nodes_of-append first second

tail_from : (leb : List ℕ) (end : ℕ) (b : Bool) → is_blank (drop end leb) ≡ b → ((item : Item) → Begins leb end item → ⊥) → IsTail leb end (cond b Clean Torn)
tail_from leb end true e none = e
tail_from leb end false e none = (e, none)

-- where no item begins, the text ends
pub ends : (leb : List ℕ) (end : ℕ) → ((item : Item) → Begins leb end item → ⊥) → IsTail leb end (tail_at leb end)
ends leb end none = tail_from leb end (is_blank (drop end leb)) refl none

-- what is behind unwritten bytes is unwritten
pub blank_drop : (n : ℕ) (bytes : List ℕ) → is_blank bytes ≡ true → is_blank (drop n bytes) ≡ true
blank_drop zero bytes h = h
blank_drop (suc n) [] h = refl
blank_drop (suc n) (x ∷ bytes) h = blank_drop n bytes (and_parts (x == 0xFF) (is_blank bytes) h).1

pub blank_later : (leb : List ℕ) (place later : ℕ) → is_blank (drop place leb) ≡ true → place ≤ later → is_blank (drop later leb) ≡ true
blank_later leb place later h after =
    let P : ℕ → Type 0 = λ p. is_blank (drop p leb) ≡ true in
    let e : place + (later - place) ≡ later = omega (arith, after) in
    subst P e (ap is_blank (sym (drop-drop (later - place) place leb)) ∙ blank_drop (later - place) (drop place leb) h)

pub blank_replicate : (n : ℕ) → is_blank (replicate n 255) ≡ true
blank_replicate zero = refl
blank_replicate (suc n) = blank_replicate n

-- equal lists have equal parts
pub same_parts : {X : Type 0} (x y : X) (xs ys : List X) → x ∷ xs ≡ y ∷ ys → (x ≡ y) × (xs ≡ ys)
same_parts x y xs ys h = (cc, cc)
