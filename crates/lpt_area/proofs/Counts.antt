-- How many nodes the levels of a tree have.
use Rattle.std.proofs.Common.{◌≡◌, ℕ, zero, suc, ◌+◌, ◌*◌, ◌^◌, pow-add, ◌<◌, ◌≤◌, List, [], ◌∷◌, length, take, ap, ◌∙◌, arith}
use Rattle.std.specs.Prelude.{Option, Some, None, Result, Ok, Err, IfOk, IfSome}
use Rattle.std.proofs.lemmas.List.{length-take-le}
use Rattle.std.proofs.Math.Nat.{mul_assoc, mul-le-mul_left}
use Rattle.ubifs_base.specs.Areas.{main_lebs}
use Rattle.ubifs_base.specs.Geometry.{IsGeometry}
use Rattle.ubifs_base.specs.Properties.{quarter, level_nodes, pnode_count, tree_height}
use Rattle.ubifs_base.specs.PropertiesLaws.{tree_height-least}
use Rattle.ubifs_base.specs.declared.raw_geometry.RawGeometry.{RawGeometry}
use Rattle.media_lpt.specs.declared.lprop.Lprop.{Lprop}
use Rattle.media_lpt.specs.declared.nnode.LptPlace.{LptPlace}
use Rattle.lpt_area.specs.Tree.{HasPnode, HasNnode, IsBelow, row_len, no_place, empty_leb}
use Rattle.lpt_area.proofs.PlaceRows.{row_length}

-- a level has room for what is below it
pub level_nodes-le : (n level k : ℕ) → n ≤ 4 ^ level * k → level_nodes n level ≤ k
level_nodes-le n zero k h = omega (arith, h)
level_nodes-le n (suc level) k h =
    let e : suc level ≡ level + 1 = omega arith in
    let p : 4 ^ suc level * k ≡ 4 ^ level * (4 * k) = ap (λ (m : ℕ). 4 ^ m * k) e ∙ ap (λ (m : ℕ). m * k) (pow-add 4 level 1) ∙ mul_assoc (4 ^ level) 4 k in
    let below = level_nodes-le n level (4 * k) (omega (arith, h, p)) in
    omega (arith, below)

pub level_nodes-mono : (m n level : ℕ) → m ≤ n → level_nodes m level ≤ level_nodes n level
level_nodes-mono m n zero h = h
level_nodes-mono m n (suc level) h = let below = level_nodes-mono m n level h in omega (arith, below)

pub level_nodes-some : (n level : ℕ) → 1 ≤ n → 1 ≤ level_nodes n level
level_nodes-some n zero h = h
level_nodes-some n (suc level) h = let below = level_nodes-some n level h in omega (arith, below)

-- the pnodes over main LEBs are among all pnodes
pub row_len-pnodes : (geo : RawGeometry) → IsGeometry geo → quarter (main_lebs geo) ≤ pnode_count geo
row_len-pnodes geo h = let less = h.leb_cnt.1 in omega (arith, less)

pub main-some : (geo : RawGeometry) → IsGeometry geo → 1 ≤ quarter (main_lebs geo)
main-some geo h = let less = h.leb_cnt.0 in omega (arith, less)

pub max_leb_cnt-lt : (geo : RawGeometry) → IsGeometry geo → geo.max_leb_cnt ≤ 2 ^ 30
max_leb_cnt-lt geo h =
    let size = h.leb_size.0 in
    let all = h.max_leb_cnt in
    let more : geo.max_leb_cnt * 1 ≤ geo.max_leb_cnt * geo.leb_size = mul-le-mul_left geo.max_leb_cnt (omega (arith, size)) in
    omega (arith, more, all)

pub pnode_count-lt : (geo : RawGeometry) → IsGeometry geo → pnode_count geo < 2 ^ 32
pnode_count-lt geo h = let max = max_leb_cnt-lt geo h in omega (arith, max)

-- the root is one node
pub root_alone : (geo : RawGeometry) → IsGeometry geo → level_nodes (pnode_count geo) (tree_height (pnode_count geo)) ≤ 1
root_alone geo h =
    let height = tree_height-least (pnode_count geo) (pnode_count-lt geo h) in
    let serves = height.serves in
    level_nodes-le (pnode_count geo) (tree_height (pnode_count geo)) 1 (omega (arith, serves))

pub four_props : (geo : RawGeometry) (leb : List ℕ) (offs : ℕ) (four : List Lprop) → HasPnode geo leb offs four → length four ≡ 4
four_props geo leb offs four h = ap length h.says ∙ h.is.is.four

pub four_places : (geo : RawGeometry) (leb : List ℕ) (offs : ℕ) (four : List LptPlace) → HasNnode geo leb offs four → length four ≡ 4
four_places geo leb offs four h = ap length h.says ∙ h.is.is.four

-- a tree says the properties of each main LEB
pub below_count : (geo : RawGeometry) (holds : ℕ → List ℕ) (level : ℕ) (places : List LptPlace) (props : List Lprop) → row_len geo level ≤ length places → IsBelow geo holds level places props → length props ≡ main_lebs geo
unfolding IsBelow
below_count geo holds zero places props enough h =
    let long = row_length (HasPnode geo) (empty_leb geo) holds places h.0 (four_props geo) h.1 in
    ap length h.2 ∙ length-take-le (main_lebs geo) h.0 (omega (arith, enough, long))
below_count geo holds (suc level) places props enough h =
    let long = row_length (HasNnode geo) no_place holds places h.0 (four_places geo) h.1 in
    let taken = length-take-le (row_len geo level) h.0 (omega (arith, enough, long)) in
    below_count geo holds level (take (row_len geo level) h.0) props (omega (arith, taken)) h.2

pub tree_count : (geo : RawGeometry) (holds : ℕ → List ℕ) (root : LptPlace) (props : List Lprop) → IsGeometry geo → IsBelow geo holds (tree_height (pnode_count geo)) (root ∷ []) props → length props ≡ main_lebs geo
tree_count geo holds root props h is =
    let one = root_alone geo h in
    let fewer = level_nodes-mono (quarter (main_lebs geo)) (pnode_count geo) (tree_height (pnode_count geo)) (row_len-pnodes geo h) in
    below_count geo holds (tree_height (pnode_count geo)) (root ∷ []) props (omega (arith, one, fewer)) is

pub if_some : {T E : Type 0} (r : Result (Option T) E) (P Q : T → Type 0) → ((x : T) → P x → Q x) → IfOk r (λ o. IfSome o P) → IfOk r (λ o. IfSome o Q)
if_some (Ok (Some x)) P Q f h = f x h
if_some (Ok None) P Q f h = tt
if_some (Err e) P Q f h = tt
