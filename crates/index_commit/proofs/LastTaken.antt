-- Of the dirty nodes of an index the root is written last.
use Rattle.std.proofs.Common.{◌≡◌, ℕ, zero, suc, ◌+◌, ◌<◌, ◌≤◌, true, false, List, [], ◌∷◌, ◌++◌, length, refl, ap, sym, subst, arith, inl, inr}
use Rattle.std.specs.Prelude.{◌⊎◌, ◌==◌, Option, None, Some, slice_get, unwrap_or, ⊤}
use Rattle.std.proofs.lemmas.Bool.{cases_Bool}
use Rattle.std.proofs.lemmas.Bool.Decides.{nat_tests}
use Rattle.node_table.specs.Dirty.{dirty_among, dirty_behind, dirty_below, dirty_from, dirty_lists, dirty_node}
use Rattle.node_table.specs.Placing.{without_number}
use Rattle.table_nodes.specs.declared.link.Link.{Link}
use Rattle.table_nodes.specs.declared.link.Link.TheVariants.{ToLeaf, ToNode}
use Rattle.table_nodes.specs.declared.node.NodePlace.{NodePlace}
use Rattle.table_nodes.specs.declared.node.Root.{Root}
use Rattle.table_nodes.specs.declared.node.TableNode.{TableNode}
use Rattle.index_commit.specs.Written.{AreFirstsTaken}

-- each number is lower
abbrev pub AreLower : ℕ → List ℕ → Type 0
AreLower most [] = ⊤
AreLower most (n ∷ numbers) = (n < most) × AreLower most numbers

-- there are none, or the last one is this, and the others are lower
abbrev pub EndsWith : ℕ → List ℕ → Type 0
EndsWith last numbers = (numbers ≡ []) ⊎ ((below : List ℕ) × (numbers ≡ below ++ last ∷ []) × AreLower last below)

-- each list ends with its own number
abbrev pub EndTheirs : ℕ → List (List ℕ) → Type 0
EndTheirs from [] = ⊤
EndTheirs from (numbers ∷ lists) = EndsWith from numbers × EndTheirs (suc from) lists

lower_more : (n m : ℕ) (numbers : List ℕ) → n ≤ m → AreLower n numbers → AreLower m numbers
lower_more n m [] more h = tt
lower_more n m (k ∷ numbers) more h = let less = h.0 in (omega (arith, less, more), lower_more n m numbers more h.1)

lower_both : (n : ℕ) (xs ys : List ℕ) → AreLower n xs → AreLower n ys → AreLower n (xs ++ ys)
lower_both n [] ys h k = k
lower_both n (x ∷ xs) ys h k = (h.0, lower_both n xs ys h.1 k)

ends_lower : (last most : ℕ) (numbers : List ℕ) → last < most → EndsWith last numbers → AreLower most numbers
ends_lower last most numbers less (inl none) = subst (AreLower most) (sym none) tt
ends_lower last most numbers less (inr own) =
    subst (AreLower most) (sym own.1) (lower_both most own.0 (last ∷ []) (lower_more last most own.0 (omega (arith, less)) own.2) (less, tt))

-- the list of a number, or none
lower_at : (from most n : ℕ) (lists : List (List ℕ)) → from + length lists ≤ most → EndTheirs from lists → AreLower most (unwrap_or (slice_get lists n) [])
lower_at from most n [] fits h = tt
lower_at from most zero (numbers ∷ lists) fits h = ends_lower from most numbers (omega (arith, fits)) h.0
lower_at from most (suc n) (numbers ∷ lists) fits h = lower_at (suc from) most n lists (omega (arith, fits)) h.1

ends_at : (from n : ℕ) (lists : List (List ℕ)) → EndTheirs from lists → EndsWith (from + n) (unwrap_or (slice_get lists n) [])
ends_at from n [] h = inl refl
ends_at from zero (numbers ∷ lists) h =
    let same : from ≡ from + 0 = omega arith in
    let P : ℕ → Type 0 = λ k. EndsWith k numbers in
    subst P same h.0
ends_at from (suc n) (numbers ∷ lists) h =
    let same : suc from + n ≡ from + suc n = omega arith in
    let P : ℕ → Type 0 = λ k. EndsWith k (unwrap_or (slice_get lists n) []) in
    subst P same (ends_at (suc from) n lists h.1)

pub lower_among : (known : List (List ℕ)) (links : List Link) → EndTheirs 0 known → AreLower (length known) (dirty_among known links)
lower_among known [] h = tt
lower_among known (ToLeaf x ∷ links) h = lower_among known links h
lower_among known (ToNode key number ∷ links) h =
    lower_both (length known) (unwrap_or (slice_get known number) []) (dirty_among known links) (lower_at 0 (length known) number known (omega arith) h) (lower_among known links h)

pub own_ends : (place : Option NodePlace) (number : ℕ) (below : List ℕ) → AreLower number below → EndsWith number (dirty_node place number below)
own_ends None number below h = inr (below, refl, h)
own_ends (Some place) number below h = inl refl

pub end_both : (from : ℕ) (lists : List (List ℕ)) (numbers : List ℕ) → EndTheirs from lists → EndsWith (from + length lists) numbers → EndTheirs from (lists ++ numbers ∷ [])
end_both from [] numbers h k =
    let same : from + 0 ≡ from = omega arith in
    let P : ℕ → Type 0 = λ n. EndsWith n numbers in
    (subst P same k, tt)
end_both from (own ∷ lists) numbers h k =
    let same : from + suc (length lists) ≡ suc from + length lists = omega arith in
    let P : ℕ → Type 0 = λ n. EndsWith n numbers in
    (h.0, end_both (suc from) lists numbers h.1 (subst P same k))

end_behind : (known : List (List ℕ)) (nodes : List TableNode) → EndTheirs 0 known → EndTheirs 0 (dirty_behind known nodes)
end_behind known [] h = h
end_behind known (node ∷ nodes) h =
    let same : length known ≡ 0 + length known = omega arith in
    let P : ℕ → Type 0 = λ n. EndsWith n (dirty_node node.place (length known) (dirty_among known node.links.items)) in
    let own = subst P same (own_ends node.place (length known) (dirty_among known node.links.items) (lower_among known node.links.items h)) in
    end_behind (known ++ dirty_node node.place (length known) (dirty_among known node.links.items) ∷ []) nodes
    (end_both 0 known (dirty_node node.place (length known) (dirty_among known node.links.items)) h own)

from_ends : (nodes : List TableNode) (number : ℕ) → EndsWith number (dirty_from nodes number)
from_ends nodes number =
    let same : 0 + number ≡ number = omega arith in
    let P : ℕ → Type 0 = λ n. EndsWith n (dirty_from nodes number) in
    subst P same (ends_at 0 number (dirty_lists nodes) (end_behind [] nodes tt))

-- ---- what is taken until none is left
without_last : (n last : ℕ) (below : List ℕ) → n < last → without_number n (below ++ last ∷ []) ≡ without_number n below ++ last ∷ []
without_last n last [] less =
    let other : (last == n) ≡ false = grind (arith, nat_tests, less) in
    rw other refl
without_last n last (k ∷ below) less = elim (cases_Bool (k == n)) [
  | inl e ↦ rw e (without_last n last below less)
  | inr e ↦ rw e (ap (λ (l : List ℕ). k ∷ l) (without_last n last below less))
]

lower_without : (n most : ℕ) (numbers : List ℕ) → AreLower most numbers → AreLower most (without_number n numbers)
lower_without n most [] h = tt
lower_without n most (k ∷ numbers) h = elim (cases_Bool (k == n)) [
  | inl e ↦ rw e (lower_without n most numbers h.1)
  | inr e ↦ rw e (h.0, lower_without n most numbers h.1)
]

pub none_from_none : (numbers left : List ℕ) → AreFirstsTaken numbers [] left → numbers ≡ []
none_from_none [] left h = refl
none_from_none (n ∷ numbers) left h = let bad = h.0 in absurd cc

none_before : (below : List ℕ) (last : ℕ) → [] ≡ below ++ last ∷ [] → ⊥
none_before [] last e = absurd cc
none_before (n ∷ below) last e = absurd cc

last_taken : (numbers below : List ℕ) (last n : ℕ) → AreLower last below → AreFirstsTaken numbers (below ++ last ∷ []) [] → length numbers ≡ n + 1 → slice_get numbers n ≡ Some last
last_taken [] below last n lower h long = absurd (omega (arith, long))
last_taken (x ∷ numbers) [] last n lower h long =
    let same : last ≡ x = let first = h.0 in cc in
    let itself : (last == x) ≡ true = grind (arith, nat_tests, same) in
    let rest : AreFirstsTaken numbers [] [] = rw itself at h.1 in
    let none = ap length (none_from_none numbers [] rest) in
    let start : n ≡ 0 = omega (arith, none, long) in
    let P : ℕ → Type 0 = λ k. slice_get (x ∷ numbers) k ≡ Some last in
    subst P (sym start) (ap (λ (k : ℕ). Some k) (sym same))
last_taken (x ∷ numbers) (y ∷ below) last zero lower h long =
    let same : y ≡ x = let first = h.0 in cc in
    let less : y < last = lower.0 in
    let sooner : x < last = omega (arith, same, less) in
    let none : length numbers ≡ 0 = omega (arith, long) in
    let left : List ℕ = without_number x (y ∷ below) in
    let rest : AreFirstsTaken numbers (left ++ last ∷ []) [] = subst (λ (l : List ℕ). AreFirstsTaken numbers l []) (without_last x last (y ∷ below) sooner) h.1 in
    absurd (none_before left last (none_left numbers (left ++ last ∷ []) none rest))
  where
    none_left : (numbers old : List ℕ) → length numbers ≡ 0 → AreFirstsTaken numbers old [] → [] ≡ old
    none_left [] old none h = h
    none_left (n ∷ numbers) old none h = absurd (omega (arith, none))
last_taken (x ∷ numbers) (y ∷ below) last (suc n) lower h long =
    let same : y ≡ x = let first = h.0 in cc in
    let less : y < last = lower.0 in
    let sooner : x < last = omega (arith, same, less) in
    let left : List ℕ = without_number x (y ∷ below) in
    let rest : AreFirstsTaken numbers (left ++ last ∷ []) [] = subst (λ (l : List ℕ). AreFirstsTaken numbers l []) (without_last x last (y ∷ below) sooner) h.1 in
    last_taken numbers left last n (lower_without x last (y ∷ below) lower) rest (omega (arith, long))

-- where all dirty nodes below a root were written, it was the last
pub root_is_last : (nodes : List TableNode) (root : Root) (numbers : List ℕ) (n : ℕ) → AreFirstsTaken numbers (dirty_below nodes (Some root)) [] → length numbers ≡ n + 1 → slice_get numbers n ≡ Some root.number
root_is_last nodes root numbers n h long = elim (from_ends nodes root.number) [
  | inl none ↦
      let P : List ℕ → Type 0 = λ l. AreFirstsTaken numbers l [] in
      let empty = ap length (none_from_none numbers [] (subst P none h)) in
      absurd (omega (arith, empty, long))
  | inr own ↦
      let P : List ℕ → Type 0 = λ l. AreFirstsTaken numbers l [] in
      last_taken numbers own.0 root.number n own.2 (subst P own.1 h) long
]
