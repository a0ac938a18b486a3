-- Numbers with which texts begin, and that none is above another.
use Rattle.std.proofs.Common.{◌≡◌, ℕ, true, false, List, [], ◌∷◌, ◌++◌, Option, Some, refl, subst}
use Rattle.ubifs_base.specs.declared.raw_geometry.RawGeometry.{RawGeometry}
use Rattle.media_sys.specs.declared.ref_node.RefNode.{RefNode}
use Rattle.leb_scan.specs.declared.found.Found.{Found}
use Rattle.bud_log.specs.Log.{next_leb, Run}
use Rattle.bud_log.specs.LogText.{LogText, begins_with, start_of, is_later}
use Rattle.bud_log.specs.Writing.{AreBelow, IsChain}
use Rattle.bud_log.specs.declared.log_end.LogEnd.{LogEnd}
use Rattle.bud_log.specs.Chains.{last_first, last_more}
use Rattle.bud_log.specs.Grown.{grown_text}

pub below_last : (b : ℕ) (texts : List LogText) (text : LogText) → AreBelow b texts → is_later b (begins_with text.nodes) ≡ false → AreBelow b (texts ++ text ∷ [])
below_last b [] text h last = (last, h)
below_last b (other ∷ texts) text h last = (h.0, below_last b texts text h.1 last)

begins_later : (number : ℕ) (nodes more : List Found) → is_later number (begins_with nodes) ≡ true → begins_with nodes ≡ begins_with (nodes ++ more)
begins_later number [] more h = absurd cc
begins_later number (found ∷ nodes) more h = refl

pub begins_start : (start : ℕ) (nodes more : List Found) → start_of (begins_with nodes) ≡ Some start → begins_with nodes ≡ begins_with (nodes ++ more)
begins_start start [] more h = absurd cc
begins_start start (found ∷ nodes) more h = refl

run_below : (c : ℕ → List ℕ) (geo : RawGeometry) (from start lnum past number : ℕ) (text : LogText) (texts : List LogText) (nodes : List Found) (references : List RefNode) (ends : LogEnd) → Run c geo from start lnum (text ∷ texts) past
    → AreBelow number (text ∷ texts) → AreBelow number (last_more (λ (t : LogText). grown_text t nodes references ends) (text ∷ texts))
run_below c geo from start lnum past number text [] nodes references ends h below =
    let P : Option Found → Type 0 = λ o. is_later number o ≡ false in
    (subst P (begins_later start text.nodes nodes h.2) below.0, below.1)
run_below c geo from start lnum past number text (other ∷ texts) nodes references ends h below = (below.0, run_below c geo from start (next_leb geo lnum) past number other texts nodes references ends h.3 below.1)

-- the last text grows
pub below_grown : (c : ℕ → List ℕ) (geo : RawGeometry) (from start past number : ℕ) (first : LogText) (more : List LogText) (nodes : List Found) (references : List RefNode) (ends : LogEnd) → IsChain c geo from start first more past
    → AreBelow number (first ∷ more) → let f : LogText → LogText = λ t. grown_text t nodes references ends in AreBelow number (last_first f first more ∷ last_more f more)
below_grown c geo from start past number first [] nodes references ends h below =
    let P : Option Found → Type 0 = λ o. is_later number o ≡ false in
    (subst P (begins_start start first.nodes nodes h.starts) below.0, below.1)
below_grown c geo from start past number first (text ∷ texts) nodes references ends h below = (below.0, run_below c geo from start (next_leb geo from) past number text texts nodes references ends h.run below.1)
