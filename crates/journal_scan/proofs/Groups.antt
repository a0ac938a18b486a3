-- Whole groups of a list that grows.
use Rattle.std.proofs.Common.{◌≡◌, ◌==◌, ◌&&◌, Bool, true, false, cond, List, [], ◌∷◌, ◌++◌, refl, ap, ◌∙◌}
use Rattle.leaf_map.specs.Kept.{Placed}
use Rattle.journal_scan.specs.Journal.{is_unfinished, whole_groups}

unfinished_more : (nodes : List Placed) (x : Placed) → (x.group == 1) ≡ true → is_unfinished (nodes ++ x ∷ []) ≡ is_unfinished nodes
unfinished_more [] x e = rw e refl
unfinished_more (y ∷ nodes) x e = ap (λ b. (y.group == 1) && b) (unfinished_more nodes x e)

and_no : (b : Bool) → (b && false) ≡ false
and_no true = refl
and_no false = refl

finished_now : (nodes : List Placed) (x : Placed) → (x.group == 1) ≡ false → is_unfinished (nodes ++ x ∷ []) ≡ false
finished_now [] x e = rw e refl
finished_now (y ∷ nodes) x e = ap (λ b. (y.group == 1) && b) (finished_now nodes x e) ∙ and_no (y.group == 1)

-- a node in a group that isn't its last doesn't end one
pub whole_same : (nodes : List Placed) (x : Placed) → (x.group == 1) ≡ true → whole_groups (nodes ++ x ∷ []) ≡ whole_groups nodes
whole_same [] x e = rw e refl
whole_same (y ∷ nodes) x e =
    ap (λ b. cond b [] (y ∷ whole_groups (nodes ++ x ∷ []))) (unfinished_more (y ∷ nodes) x e)
    ∙ ap (λ zs. cond (is_unfinished (y ∷ nodes)) [] (y ∷ zs)) (whole_same nodes x e)

-- and any other ends all
pub whole_all : (nodes : List Placed) (x : Placed) → (x.group == 1) ≡ false → whole_groups (nodes ++ x ∷ []) ≡ nodes ++ x ∷ []
whole_all [] x e = rw e refl
whole_all (y ∷ nodes) x e =
    ap (λ b. cond b [] (y ∷ whole_groups (nodes ++ x ∷ []))) (finished_now (y ∷ nodes) x e)
    ∙ ap (λ zs. y ∷ zs) (whole_all nodes x e)
