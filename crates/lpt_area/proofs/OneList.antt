-- A tree says one list of properties.
use Rattle.std.proofs.Common.{◌≡◌, ℕ, zero, suc, List, [], ◌∷◌, take, drop, ap, sym, ◌∙◌, subst, arith}
use Rattle.ubifs_base.specs.NodeLaws.{IsBytes}
use Rattle.ubifs_base.specs.Properties.{pnode_len, nnode_len, pnode_count, tree_height}
use Rattle.ubifs_base.specs.declared.raw_geometry.RawGeometry.{RawGeometry}
use Rattle.ubifs_base.specs.Areas.{main_lebs}
use Rattle.media_lpt.specs.declared.lprop.Lprop.{Lprop}
use Rattle.media_lpt.specs.declared.nnode.LptPlace.{LptPlace}
use Rattle.media_lpt.specs.declared.nnode.Nnode.{Nnode}
use Rattle.media_lpt.specs.declared.pnode.Pnode.{Pnode}
use Rattle.lpt_area.specs.Tree.{HasPnode, HasNnode, IsBelow, IsTree, no_place, empty_leb, row_len}
use Rattle.lpt_area.proofs.Decided.{OneNnode, OnePnode}
use Rattle.lpt_area.proofs.PlaceRows.{row_same}

front_is_bytes : (n : ℕ) (xs : List ℕ) → IsBytes xs → IsBytes (take n xs)
front_is_bytes zero xs fits i = omega arith
front_is_bytes (suc n) [] fits i = omega arith
front_is_bytes (suc n) (x ∷ xs) fits zero = fits 0
front_is_bytes (suc n) (x ∷ xs) fits (suc i) = front_is_bytes n xs (λ j. fits (suc j)) i

part_is_bytes : (n offs : ℕ) (leb : List ℕ) → IsBytes leb → IsBytes (take n (drop offs leb))
part_is_bytes n zero leb fits = front_is_bytes n leb fits
part_is_bytes n (suc offs) [] fits = front_is_bytes n [] fits
part_is_bytes n (suc offs) (x ∷ leb) fits = part_is_bytes n offs leb (λ j. fits (suc j))

nnode_same : (geo : RawGeometry) (leb : List ℕ) (offs : ℕ) (a b : List LptPlace) → OneNnode geo → IsBytes leb → HasNnode geo leb offs a → HasNnode geo leb offs b → a ≡ b
nnode_same geo leb offs a b one fits ha hb =
    ha.says ∙ ap (λ (n : Nnode). n.places) (one (take (nnode_len geo) (drop offs leb)) ha.node hb.node (part_is_bytes (nnode_len geo) offs leb fits) ha.is hb.is) ∙ sym hb.says

pnode_same : (geo : RawGeometry) (leb : List ℕ) (offs : ℕ) (a b : List Lprop) → OnePnode geo → IsBytes leb → HasPnode geo leb offs a → HasPnode geo leb offs b → a ≡ b
pnode_same geo leb offs a b one fits ha hb =
    ha.says ∙ ap (λ (n : Pnode). n.props) (one (take (pnode_len geo) (drop offs leb)) ha.node hb.node (part_is_bytes (pnode_len geo) offs leb fits) ha.is hb.is) ∙ sym hb.says

below_same : (geo : RawGeometry) (holds : ℕ → List ℕ) (level : ℕ) (row : List LptPlace) (a b : List Lprop) → ((k : ℕ) → IsBytes (holds k)) → OneNnode geo → OnePnode geo
    → IsBelow geo holds level row a → IsBelow geo holds level row b → a ≡ b
unfolding IsBelow
below_same geo holds zero row a b fits nnode pnode ha hb =
    let same = row_same (HasPnode geo) (empty_leb geo) holds row ha.0 hb.0 (λ k offs x y hx hy. pnode_same geo (holds k) offs x y pnode (fits k) hx hy) ha.1 hb.1 in
    ha.2 ∙ ap (take (main_lebs geo)) same ∙ sym hb.2
below_same geo holds (suc level) row a b fits nnode pnode ha hb =
    let same = row_same (HasNnode geo) no_place holds row ha.0 hb.0 (λ k offs x y hx hy. nnode_same geo (holds k) offs x y nnode (fits k) hx hy) ha.1 hb.1 in
    let P : List LptPlace → Type 0 = λ r. IsBelow geo holds level (take (row_len geo level) r) a in
    below_same geo holds level (take (row_len geo level) hb.0) a b fits nnode pnode (subst P same ha.2) hb.2

pub one_list : (geo : RawGeometry) (holds : ℕ → List ℕ) (root : LptPlace) (a b : List Lprop) → ((k : ℕ) → IsBytes (holds k)) → OneNnode geo → OnePnode geo → IsTree geo holds root a → IsTree geo holds root b → a ≡ b
one_list geo holds root a b fits nnode pnode ha hb = below_same geo holds (tree_height (pnode_count geo)) (root ∷ []) a b fits nnode pnode ha.below hb.below
