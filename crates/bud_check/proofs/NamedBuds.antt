-- What references name are places of buds.
use Rattle.std.proofs.Common.{◌≡◌, ℕ, ◌%◌, ◌≤◌, Bool, true, false, List, [], ◌∷◌, fold, min, sym, subst, inl, inr, arith}
use Rattle.std.specs.Prelude.{◌==◌, if◌then◌else◌}
use Rattle.std.specs.List.{AllByRecursion}
use Rattle.std.proofs.Math.Nat.{min-eq_left, min-eq_right}
use Rattle.std.proofs.lemmas.Bool.{cases_lt}
use Rattle.ubifs_base.specs.declared.raw_geometry.RawGeometry.{RawGeometry}
use Rattle.media_sys.specs.declared.ref_node.RefNode.{RefNode}
use Rattle.bud_log.specs.Buds.{buds_of, named_also}
use Rattle.bud_log.specs.declared.head_at.HeadAt.{HeadAt}
use Rattle.sound_image.specs.Log.{NamesMain}
use Rattle.bud_check.specs.Findings.{IsBudPlace}

min_of : (P : ℕ → Type 0) (a b : ℕ) → P a → P b → P (min a b)
min_of P a b x y = elim (cases_lt a b) [
  | inl less ↦ let le : a ≤ b = omega (arith, less) in subst P (sym (min-eq_left {n = a} {m = b} le)) x
  | inr less ↦ subst P (sym (min-eq_right {n = b} {m = a} less)) y
]

named_place : (geo : RawGeometry) (buds : List HeadAt) (node : RefNode) → AllByRecursion (IsBudPlace geo) buds → NamesMain geo node → AllByRecursion (IsBudPlace geo) (named_also buds node)
named_place geo [] node h k = (record { high = k.high; inside = k.inside; even = k.even }, tt)
named_place geo (bud ∷ buds) node h k = by (named_place geo buds node h.1 k) (bud.lnum == node.lnum)
  where
    by : AllByRecursion (IsBudPlace geo) (named_also buds node) → (b : Bool) → AllByRecursion (IsBudPlace geo) (if b then record { head = bud.head; lnum = bud.lnum; offs = min bud.offs node.offs } ∷ buds else bud ∷ named_also buds node)
    by rest true = (record { high = h.0.high; inside = min_of (λ n. n ≤ geo.leb_size) bud.offs node.offs h.0.inside k.inside; even = min_of (λ n. n % 8 ≡ 0) bud.offs node.offs h.0.even k.even }, h.1)
    by rest false = (h.0, rest)

fold_places : (geo : RawGeometry) (nodes : List RefNode) (buds : List HeadAt) → AllByRecursion (IsBudPlace geo) buds → AllByRecursion (NamesMain geo) nodes → AllByRecursion (IsBudPlace geo) (fold named_also buds nodes)
fold_places geo [] buds h k = h
fold_places geo (node ∷ nodes) buds h k = fold_places geo nodes (named_also buds node) (named_place geo buds node h k.0) k.1

-- what references to places of main LEBs name are places of buds
pub named_places : (geo : RawGeometry) (nodes : List RefNode) (buds : List HeadAt) → buds ≡ buds_of nodes → AllByRecursion (NamesMain geo) nodes → AllByRecursion (IsBudPlace geo) buds
named_places geo nodes buds e k =
    let P : List HeadAt → Type 0 = λ bs. AllByRecursion (IsBudPlace geo) bs in
    subst P (sym e) (fold_places geo nodes [] tt k)
