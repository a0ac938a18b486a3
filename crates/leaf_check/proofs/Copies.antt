-- Leaves that are copied one after another.
use Rattle.std.proofs.Common.{◌≡◌, List, [], ◌∷◌, ◌++◌, ap, sym, subst, ◌∙◌, append_assoc}
use Rattle.std.specs.List.{AllByRecursion}
use Rattle.index_tree.specs.declared.leaf.Leaf.{Leaf}
use Rattle.leaf_check.specs.Overlaps.{IsNarrow}
use Rattle.leaf_check.proofs.Sweeps.{all_more}

pub copied_more : (copies more left rest all : List Leaf) (leaf one : Leaf) → one ≡ leaf → more ≡ copies ++ (one ∷ []) → left ≡ leaf ∷ rest → copies ++ left ≡ all → more ++ rest ≡ all
copied_more copies more left rest all leaf one same pushed cut is =
    ap (λ (xs : List Leaf). xs ++ rest) pushed ∙ append_assoc copies (one ∷ []) rest ∙ ap (λ (x : Leaf). copies ++ (x ∷ rest)) same ∙ ap (λ (xs : List Leaf). copies ++ xs) (sym cut) ∙ is

pub copied_narrow : (copies more : List Leaf) (one : Leaf) → IsNarrow one → more ≡ copies ++ (one ∷ []) → AllByRecursion IsNarrow copies → AllByRecursion IsNarrow more
copied_narrow copies more one narrow pushed h =
    let P : List Leaf → Type 0 = λ xs. AllByRecursion IsNarrow xs in
    subst P (sym pushed) (all_more IsNarrow copies one h narrow)
