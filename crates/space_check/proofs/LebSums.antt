-- Sums of main LEBs, and the first that is wrong.
use Rattle.std.proofs.Common.{◌≡◌, ℕ, zero, suc, ◌+◌, ◌-◌, ◌<◌, List, [], ◌∷◌, Some, length, map, slice_get, get_or, refl, ap, sym, subst, ◌∙◌, arith}
use Rattle.std.proofs.lemmas.List.{length-map}
use Rattle.ubifs_base.specs.Areas.{main_first}
use Rattle.ubifs_base.specs.declared.raw_geometry.RawGeometry.{RawGeometry}
use Rattle.media_lpt.specs.declared.lprop.Lprop.{Lprop}
use Rattle.media_sys.specs.declared.branch.Branch.{Branch}
use Rattle.index_tree.specs.declared.leaf.Leaf.{Leaf}
use Rattle.index_media.specs.PlacedRow.{PlacedRow, all_nodes, branch_to, plain}
use Rattle.index_tree.specs.Shape.{contents as leaves_in}
use Rattle.sound_image.specs.Breaches.{IsWrongSum}
use Rattle.sound_image.specs.Properties.{prop_of}
use Rattle.sound_image.specs.Space.{HasSums, committed_bytes}
use Rattle.sound_image.specs.Wrong.{IsFirstWrong, differs}
use Rattle.sound_image.specs.declared.rule.Rule.TheVariants as rules
use Rattle.sound_image.specs.declared.breach.Breach.TheVariants.{Damaged}
use Rattle.image_check.specs.Told.{IsBreachOf}
use Rattle.space_check.specs.Sums.{AreAdded, AreSums, IsFirstOther, ListsIndex, node_bytes_in}
use Rattle.space_check.proofs.Added.{bytes_append, bytes_permuted}
use Rattle.image_check.specs.FirstLaws.{first_of_lebs}
use Rattle.space_check.proofs.Places.{in_main, of_main, one_prop, some_inside, there_is}

-- free and dirty bytes
abbrev pub spare_bytes : Lprop → ℕ
spare_bytes prop = prop.free + prop.dirty

spare_at : (props : List Lprop) (at : ℕ) (prop : Lprop) → slice_get props at ≡ Some prop → get_or (map spare_bytes props) at 0 ≡ spare_bytes prop
spare_at [] at prop h = absurd cc
spare_at (p ∷ props) zero prop h = let e : p ≡ prop = one_prop p prop (Some p) refl h in ap spare_bytes e
spare_at (p ∷ props) (suc at) prop h = spare_at props at prop h

-- the sums, once leaves and nodes were added
pub sums_made : (first : ℕ) (props : List Lprop) (leaves : List Leaf) (nodes : List Branch) (start then sums : List ℕ) → start ≡ map spare_bytes props → AreAdded first start then (map branch_to leaves) → AreAdded first then sums nodes → AreSums first props leaves nodes sums
sums_made first props leaves nodes start then sums e a b =
    let long : length start ≡ length props = ap length e ∙ length-map props spare_bytes in
    record {
      len = b.len ∙ a.len ∙ long;
      is = λ at prop has.
          let inside = some_inside props at prop has in
          let len = a.len in
          let one = a.more at (omega (arith, long, inside)) in
          let two = b.more at (omega (arith, len, long, inside)) in
          let own = ap (λ (xs : List ℕ). get_or xs at 0) e ∙ spare_at props at prop has in
          omega (arith, one, two, own);
    }

-- what leaves and nodes take is what the committed index does
pub committed : (placed : PlacedRow) (leaves : List Leaf) (nodes : List Branch) (lnum : ℕ) → ListsIndex placed leaves nodes → node_bytes_in lnum (map branch_to leaves) + node_bytes_in lnum nodes ≡ committed_bytes placed lnum
committed placed leaves nodes lnum h =
    let a = bytes_append lnum (all_nodes placed) (map branch_to (leaves_in (plain placed))) in
    let b = bytes_permuted lnum (all_nodes placed) nodes h.nodes_are in
    let c = ap (λ (xs : List Leaf). node_bytes_in lnum (map branch_to xs)) h.leaves_are in
    omega (arith, a, b, c)

-- the sum of a LEB is what the rule speaks of
sum_is : (geo : RawGeometry) (props : List Lprop) (placed : PlacedRow) (leaves : List Leaf) (nodes : List Branch) (sums : List ℕ) (at : ℕ) (prop : Lprop) → ListsIndex placed leaves nodes → AreSums (main_first geo) props leaves nodes sums → slice_get props at ≡ Some prop
    → get_or sums at 0 ≡ prop.free + prop.dirty + committed_bytes placed (main_first geo + at)
sum_is geo props placed leaves nodes sums at prop lists are has = are.is at prop has ∙ ap (λ (n : ℕ). prop.free + prop.dirty + n) (committed placed leaves nodes (main_first geo + at) lists)

pub sums_met : (geo : RawGeometry) (props : List Lprop) (placed : PlacedRow) (leaves : List Leaf) (nodes : List Branch) (sums : List ℕ) → ListsIndex placed leaves nodes → AreSums (main_first geo) props leaves nodes sums
    → ((at : ℕ) → at < length sums → get_or sums at 0 ≡ geo.leb_size) → HasSums geo props placed
sums_met geo props placed leaves nodes sums lists are whole lnum prop has =
    let there = in_main geo props lnum prop has in
    let low = there.0 in
    let at = lnum - main_first geo in
    let same : main_first geo + at ≡ lnum = omega (arith, low) in
    let inside = some_inside props at prop there.1 in
    let len = are.len in
    let P : ℕ → Type 0 = λ n. prop.free + prop.dirty + committed_bytes placed n ≡ geo.leb_size in
    subst P same (sym (sum_is geo props placed leaves nodes sums at prop lists are there.1) ∙ whole at (omega (arith, len, inside)))

first_sum : (geo : RawGeometry) (props : List Lprop) (placed : PlacedRow) (leaves : List Leaf) (nodes : List Branch) (sums : List ℕ) (at : ℕ) → ListsIndex placed leaves nodes → AreSums (main_first geo) props leaves nodes sums → IsFirstOther geo.leb_size sums at
    → IsFirstWrong (IsWrongSum geo props placed) (record { lnum = main_first geo + at; offs = 0; misfit = differs geo.leb_size (get_or sums at 0) })
first_sum geo props placed leaves nodes sums at lists are first =
    let lnum = main_first geo + at in
    let len = are.len in
    let in_sums = first.inside in
    let here = there_is props at (omega (arith, len, in_sums)) in
    let prop = here.0 in
    let sum = sum_is geo props placed leaves nodes sums at prop lists are here.1 in
    let own = of_main geo props at prop here.1 in
    first_of_lebs (IsWrongSum geo props placed) (record { lnum = lnum; offs = 0; misfit = differs geo.leb_size (get_or sums at 0) })
    (record { prop = prop; has = own; start = refl; other = λ e. first.other (sum ∙ e); values = ap (differs geo.leb_size) sum })
    (λ other w less.
    let main = in_main geo props other.lnum w.prop w.has in
    let low = main.0 in
    let place = other.lnum - main_first geo in
    let same : main_first geo + place ≡ other.lnum = omega (arith, low) in
    let P : ℕ → Type 0 = λ n. get_or sums place 0 ≡ w.prop.free + w.prop.dirty + committed_bytes placed n in
    let there = subst P same (sum_is geo props placed leaves nodes sums place w.prop lists are main.1) in
    w.other (sym there ∙ first.before place (omega (arith, less, low))))
    (λ other w same.
    let H : ℕ → Type 0 = λ n. prop_of geo props n ≡ Some w.prop in
    let it = one_prop w.prop prop (prop_of geo props lnum) (subst H same w.has) own in
    (omega arith, λ s. w.values ∙ ap (λ (n : ℕ). differs geo.leb_size (w.prop.free + w.prop.dirty + committed_bytes placed n)) same ∙ ap (λ (x : Lprop). differs geo.leb_size (x.free + x.dirty + committed_bytes placed lnum)) it ∙ ap (differs geo.leb_size) (sym sum)))

pub sums_broken : (geo : RawGeometry) (props : List Lprop) (placed : PlacedRow) (leaves : List Leaf) (nodes : List Branch) (sums : List ℕ) (at lnum found : ℕ) → ListsIndex placed leaves nodes → AreSums (main_first geo) props leaves nodes sums → IsFirstOther geo.leb_size sums at
    → lnum ≡ main_first geo + at → found ≡ get_or sums at 0 → IsBreachOf rules.Sums (IsFirstWrong (IsWrongSum geo props placed)) (Damaged rules.Sums lnum 0 geo.leb_size found)
sums_broken geo props placed leaves nodes sums at lnum found lists are first l f =
    let P : ℕ → Type 0 = λ n. IsFirstWrong (IsWrongSum geo props placed) (record { lnum = n; offs = 0; misfit = differs geo.leb_size found }) in
    let Q : ℕ → Type 0 = λ n. IsFirstWrong (IsWrongSum geo props placed) (record { lnum = main_first geo + at; offs = 0; misfit = differs geo.leb_size n }) in
    (refl, subst P (sym l) (subst Q (sym f) (first_sum geo props placed leaves nodes sums at lists are first)))
