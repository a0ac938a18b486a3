-- What is told of leaves tells which of them show what one before them shows.
use Rattle.std.proofs.Common.{◌≡◌, ℕ, ◌+◌, ◌<◌, append_assoc, drop, length, Bool, true, false, cond, List, [], ◌∷◌, ◌++◌, sym, ap, ◌∙◌}
use Rattle.std.specs.Prelude.{get_or}
use Rattle.std.specs.List.{list_any}
use Rattle.std.proofs.lemmas.List.{drop_more}
use Rattle.leaf_map.specs.Kept.{Kept, shown_by}
use Rattle.leaf_map.specs.LeafMap.{shows_same}
use Rattle.leaf_map.specs.Parts.{Parts}
use Rattle.leaf_recovery.specs.declared.recovered_leaf.RecoveredLeaf.{RecoveredLeaf}
use Rattle.leaf_recovery.specs.Repeated.{repeated_behind, repeated_behind_told}
use Rattle.leaf_recovery.specs.Things.{shows_told}
use Rattle.leaf_recovery.specs.Told.{Pairwise}
use Rattle.leaf_recovery.proofs.Pairs.{any_pairs, append_pairs}
use Rattle.leaf_recovery.proofs.Telling.{KeptTold, same_shown}

one_or_none : (parts : Parts) (x : Kept) (r : RecoveredLeaf) → KeptTold parts x r → (a b : Bool) → a ≡ b → Pairwise (KeptTold parts) (cond a (x ∷ []) []) (cond b (r ∷ []) [])
one_or_none parts x r t true true e = (t, tt)
one_or_none parts x r t false false e = tt
one_or_none parts x r t true false e = absurd cc
one_or_none parts x r t false true e = absurd cc

pub repeated_pairs : (parts : Parts) (ys : List Kept) (qs : List RecoveredLeaf) → Pairwise (KeptTold parts) ys qs → (xs : List Kept) (rs : List RecoveredLeaf) → Pairwise (KeptTold parts) xs rs
    → Pairwise (KeptTold parts) (repeated_behind ys xs) (repeated_behind_told qs rs)
repeated_pairs parts ys qs g [] [] h = tt
repeated_pairs parts ys qs g [] (r ∷ rs) h = absurd h
repeated_pairs parts ys qs g (x ∷ xs) [] h = absurd h
repeated_pairs parts ys qs g (x ∷ xs) (r ∷ rs) h =
    append_pairs (KeptTold parts) (cond (list_any (λ y. shows_same (shown_by y) (shown_by x)) ys) (x ∷ []) []) (cond (list_any (λ q. shows_told q.content r.content) qs) (r ∷ []) [])
    (repeated_behind (x ∷ ys) xs) (repeated_behind_told (r ∷ qs) rs)
    (one_or_none parts x r h.0 (list_any (λ y. shows_same (shown_by y) (shown_by x)) ys) (list_any (λ q. shows_told q.content r.content) qs)
    (any_pairs (KeptTold parts) (λ y. shows_same (shown_by y) (shown_by x)) (λ q. shows_told q.content r.content) (λ y q t. sym (same_shown q.content r.content (shown_by y) (shown_by x) t.shows h.0.shows)) ys qs g))
    (repeated_pairs parts (x ∷ ys) (r ∷ qs) (h.0, g) xs rs h.1)

-- ---- one leaf more
pub one_item : (found : List RecoveredLeaf) (i : ℕ) (x : RecoveredLeaf) → i < length found → x ≡ get_or found i x → drop i found ≡ x ∷ drop (i + 1) found
one_item found i x h e = drop_more found i x h ∙ ap (λ (z : RecoveredLeaf). z ∷ drop (i + 1) found) (sym e)

-- what is repeated so far, and then of the others
pub repeated_on : (before rest repeated whole : List RecoveredLeaf) (x : RecoveredLeaf) (b : Bool) → b ≡ list_any (λ y. shows_told y.content x.content) before → repeated ++ repeated_behind_told before (x ∷ rest) ≡ whole
    → (repeated ++ cond b (x ∷ []) []) ++ repeated_behind_told (x ∷ before) rest ≡ whole
repeated_on before rest repeated whole x b e h =
    append_assoc repeated (cond b (x ∷ []) []) (repeated_behind_told (x ∷ before) rest)
    ∙ ap (λ (c : Bool). repeated ++ (cond c (x ∷ []) [] ++ repeated_behind_told (x ∷ before) rest)) e ∙ h
