-- A tree of LEB properties says as many as there are main LEBs.
use Rattle.std.proofs.Common.{◌≡◌, ℕ, zero, suc, ◌+◌, ◌*◌, ◌^◌, pow-add, ◌<◌, ◌≤◌, List, [], ◌∷◌, length, length-append, take, ap, ◌∙◌, inl, inr, arith}
use Rattle.std.proofs.lemmas.List.{length-take-le}
use Rattle.std.proofs.Math.Nat.{mul_assoc, mul-le-mul_left}
use Rattle.ubifs_base.specs.Areas.{main_lebs}
use Rattle.ubifs_base.specs.Geometry.{IsGeometry}
use Rattle.ubifs_base.specs.Properties.{quarter, level_nodes, pnode_count, tree_height}
use Rattle.ubifs_base.specs.PropertiesLaws.{tree_height-least}
use Rattle.ubifs_base.specs.declared.raw_geometry.RawGeometry.{RawGeometry}
use Rattle.media_lpt.specs.declared.lprop.Lprop.{Lprop}
use Rattle.media_lpt.specs.declared.nnode.LptPlace.{LptPlace}
use Rattle.media_sys.specs.declared.master.Master.{Master}
use Rattle.lpt_area.specs.Tree.{HasPnode, HasNnode, IsBelow, Row, alone, row_len, no_place, empty_leb}
use Rattle.sound_image.specs.Properties.{HasProperties, lpt_root}

-- a level has room for what is below it
level_room : (n level k : ℕ) → n ≤ 4 ^ level * k → level_nodes n level ≤ k
level_room n zero k h = omega (arith, h)
level_room n (suc level) k h =
    let e : suc level ≡ level + 1 = omega arith in
    let p : 4 ^ suc level * k ≡ 4 ^ level * (4 * k) = ap (λ (m : ℕ). 4 ^ m * k) e ∙ ap (λ (m : ℕ). m * k) (pow-add 4 level 1) ∙ mul_assoc (4 ^ level) 4 k in
    let below = level_room n level (4 * k) (omega (arith, h, p)) in
    omega (arith, below)

-- the root is one node
one_root : (geo : RawGeometry) → IsGeometry geo → row_len geo (tree_height (pnode_count geo)) ≤ 1
one_root geo h =
    let size = h.leb_size.0 in
    let all = h.max_leb_cnt in
    let less = h.leb_cnt.1 in
    let more : geo.max_leb_cnt * 1 ≤ geo.max_leb_cnt * geo.leb_size = mul-le-mul_left geo.max_leb_cnt (omega (arith, size)) in
    let low : pnode_count geo < 2 ^ 32 = omega (arith, more, all) in
    let serves = (tree_height-least (pnode_count geo) low).serves in
    let among : quarter (main_lebs geo) ≤ pnode_count geo = omega (arith, less) in
    level_room (quarter (main_lebs geo)) (tree_height (pnode_count geo)) 1 (omega (arith, serves, among))

-- each place of a row says four
four_each : {X : Type 0} (S : List ℕ → ℕ → List X → Type 0) (none : X) (holds : ℕ → List ℕ) (row : List LptPlace) (all : List X) → ((leb : List ℕ) (offs : ℕ) (four : List X) → S leb offs four → length four ≡ 4) → Row S none holds row all → length all ≡ 4 * length row
unfolding Row
four_each S none holds [] all four h = ap length h
four_each S none holds (x ∷ row) all four h =
    let long : length h.0 ≡ 4 = elim h.2 [ inl gone ↦ ap length gone.1 | inr there ↦ four (holds x.lnum) x.offs h.0 there.1 ] in
    let rest = four_each S none holds row h.1 four h.3 in
    let sum = length-append h.0 h.1 in
    ap length h.4 ∙ omega (arith, long, rest, sum)

below_count : (geo : RawGeometry) (holds : ℕ → List ℕ) (level : ℕ) (row : List LptPlace) (props : List Lprop) → row_len geo level ≤ length row → IsBelow geo holds level row props → length props ≡ main_lebs geo
unfolding IsBelow
below_count geo holds zero row props enough h =
    let long = four_each (HasPnode geo) (empty_leb geo) holds row h.0 (λ leb offs four k. ap length k.says ∙ k.is.is.four) h.1 in
    ap length h.2 ∙ length-take-le (main_lebs geo) h.0 (omega (arith, enough, long))
below_count geo holds (suc level) row props enough h =
    let long = four_each (HasNnode geo) no_place holds row h.0 (λ leb offs four k. ap length k.says ∙ k.is.is.four) h.1 in
    let taken = length-take-le (row_len geo level) h.0 (omega (arith, enough, long)) in
    below_count geo holds level (take (row_len geo level) h.0) props (omega (arith, taken)) h.2

-- what the tree says is as many as there are main LEBs
pub main_count : (contents : ℕ → List ℕ) (geo : RawGeometry) (master : Master) (props : List Lprop) → IsGeometry geo → HasProperties contents geo master props → length props ≡ main_lebs geo
main_count contents geo master props fits h = below_count geo (alone master.lpt_lnum (contents master.lpt_lnum)) (tree_height (pnode_count geo)) (lpt_root master ∷ []) props (one_root geo fits) h.below
