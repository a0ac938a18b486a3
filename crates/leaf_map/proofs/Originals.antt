-- Where each committed leaf has its own node, the leaves that are found are those.
use Rattle.std.proofs.Common.{◌≡◌, List, [], ◌∷◌, ◌++◌, refl, ap, ◌∙◌}
use Rattle.leaf_map.specs.Allowed.{AreOriginals}
use Rattle.leaf_map.specs.Kept.{Kept, Placed}
use Rattle.leaf_map.specs.Parts.{Committed, Named, Parts}
use Rattle.leaf_map.specs.Recovered.{copies_left, found_leaves, leaf_found_for, leaves_found, spare_copies}

found_all : (named : List Named) (copies : List Placed) (kept : List Kept) (committed : List Committed) → AreOriginals named kept committed → found_leaves named copies committed ≡ kept
found_all named copies [] [] h = refl
found_all named copies [] (c ∷ committed) h = absurd h
found_all named copies (x ∷ kept) [] h = absurd h
found_all named copies (x ∷ kept) (c ∷ committed) (found, own, here, more) =
    ap (λ o. leaf_found_for copies c o ++ found_leaves named (copies_left copies c o) committed) own ∙ ap (λ z. z ∷ found_leaves named copies committed) here ∙ ap (λ z. x ∷ z) (found_all named copies kept committed more)

pub originals_found : (parts : Parts) (kept : List Kept) → AreOriginals parts.named kept parts.committed → leaves_found parts ≡ kept
originals_found parts kept h = found_all parts.named (spare_copies parts) kept parts.committed h
