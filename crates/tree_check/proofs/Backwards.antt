-- Leaves that are looked at from the last to the first.
use Rattle.std.proofs.Common.{◌≡◌, List, [], ◌∷◌, ◌++◌, refl, ap, sym, ◌∙◌}
use Rattle.tree_check.specs.declared.shown_leaf.ShownLeaf.{ShownLeaf}
use Rattle.tree_check.specs.Links.{LinkMap, entries_over, with_link}

entries_push : (xs : List ShownLeaf) (x : ShownLeaf) (es : LinkMap) → entries_over (xs ++ x ∷ []) es ≡ entries_over xs (with_link x.shown es)
entries_push [] x es = refl
entries_push (y ∷ xs) x es = ap (with_link y.shown) (entries_push xs x es)

pub entries_step : (left front all : List ShownLeaf) (x : ShownLeaf) (es new : LinkMap) → left ≡ front ++ x ∷ [] → entries_over left es ≡ entries_over all [] → new ≡ with_link x.shown es → entries_over front new ≡ entries_over all []
entries_step left front all x es new parts before is = ap (entries_over front) is ∙ sym (entries_push front x es) ∙ ap (λ (xs : List ShownLeaf). entries_over xs es) (sym parts) ∙ before
