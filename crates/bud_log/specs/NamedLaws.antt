-- A bud that is named already, among others.
use Rattle.std.proofs.Common.{◌≡◌, ℕ, zero, suc, ◌<◌, List, [], ◌∷◌, ◌++◌, length, take, drop, get_or, set, min, refl, ap, sym, ◌∙◌, arith, drop-cons}
use Rattle.std.proofs.lemmas.Bool.{eq-eqb}
use Rattle.media_sys.specs.declared.ref_node.RefNode.{RefNode}
use Rattle.bud_log.specs.Buds.{named_also}
use Rattle.bud_log.specs.declared.head_at.HeadAt.{HeadAt}

get_any : {X : Type 0} (xs : List X) (i : ℕ) (d e : X) → i < length xs → get_or xs i d ≡ get_or xs i e
get_any [] i d e h = absurd (omega (arith, h))
get_any (x ∷ xs) zero d e h = refl
get_any (x ∷ xs) (suc i) d e h = get_any xs i d e (omega (arith, h))

set_split : {X : Type 0} (xs : List X) (i : ℕ) (y : X) → i < length xs → set xs i y ≡ take i xs ++ y ∷ drop (suc i) xs
set_split [] i y h = absurd (omega (arith, h))
set_split (x ∷ xs) zero y h = refl
set_split (x ∷ xs) (suc i) y h = ap (λ (zs : List _). x ∷ zs) (set_split xs i y (omega (arith, h)))

named_first : (bud : HeadAt) (buds : List HeadAt) (node : RefNode) → bud.lnum ≡ node.lnum → named_also (bud ∷ buds) node ≡ record { head = bud.head; lnum = bud.lnum; offs = min bud.offs node.offs } ∷ buds
named_first bud buds node same = rw (eq-eqb bud.lnum node.lnum same) refl

bud_same : (bud : HeadAt) (offs n : ℕ) → offs ≡ n
    → let a : HeadAt = record { head = bud.head; lnum = bud.lnum; offs = offs } in
    let b : HeadAt = record { head = bud.head; lnum = bud.lnum; offs = n } in
    a ≡ b
bud_same bud offs n e = rw e refl

-- u, v and w are what stands at this place
pub named_there : (xs : List HeadAt) (i n : ℕ) (u v w : HeadAt) (node : RefNode) → named_also xs node ≡ take i xs ++ named_also (drop i xs) node → i < length xs → u ≡ get_or xs i u → v ≡ get_or xs i v → w ≡ get_or xs i w
    → w.lnum ≡ node.lnum → n ≡ min u.offs node.offs → set xs i (record { head = v.head; lnum = v.lnum; offs = n }) ≡ named_also xs node
named_there xs i n u v w node h inside eu ev ew lnum offs =
    let uv : u ≡ v = eu ∙ get_any xs i u v inside ∙ sym ev in
    let wv : w ≡ v = ew ∙ get_any xs i w v inside ∙ sym ev in
    let there : drop i xs ≡ v ∷ drop (suc i) xs = drop-cons xs i v inside ∙ ap (λ (b : HeadAt). b ∷ drop (suc i) xs) (sym ev) in
    let same : v.lnum ≡ node.lnum = ap (λ (b : HeadAt). b.lnum) (sym wv) ∙ lnum in
    let least : n ≡ min v.offs node.offs = offs ∙ ap (λ (b : HeadAt). min b.offs node.offs) uv in
    set_split xs i (record { head = v.head; lnum = v.lnum; offs = n }) inside
    ∙ ap (λ (b : HeadAt). take i xs ++ b ∷ drop (suc i) xs) (bud_same v n (min v.offs node.offs) least)
    ∙ sym (h ∙ ap (λ (bs : List HeadAt). take i xs ++ bs) (ap (λ (bs : List HeadAt). named_also bs node) there ∙ named_first v (drop (suc i) xs) node same))
