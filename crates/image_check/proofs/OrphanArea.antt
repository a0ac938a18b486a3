-- The LEBs of the orphan area, one after another.
use Rattle.std.proofs.Common.{◌≡◌, ℕ, ◌+◌, ◌<◌, ◌≤◌, List, length, ap, subst, ◌∙◌, inl, inr, arith, refl}
use Rattle.ubifs_base.specs.Areas.{main_first, orph_first}
use Rattle.ubifs_base.specs.NodeLaws.{IsBytes}
use Rattle.ubifs_base.specs.declared.raw_geometry.RawGeometry.{RawGeometry}
use Rattle.ubi_volume.specs.Volume.{VolumeState}
use Rattle.small_areas.specs.MasterLaws.{OneText}
use Rattle.sound_image.specs.Breaches.{IsNoOrphan}
use Rattle.sound_image.specs.OrphanLists.{HasOrphanNodes}
use Rattle.sound_image.specs.Wrong.{IsFirstWrong, Wrong, differs}
use Rattle.sound_image.specs.declared.rule.Rule.TheVariants as rules
use Rattle.sound_image.specs.declared.breach.Breach.TheVariants.{Damaged}
use Rattle.std.proofs.lemmas.Bool.{cases_lt}
use Rattle.lpt_area.specs.KeptLaws.{IsKept}
use Rattle.image_check.specs.Firsts.{IsFirstForeign, IsForeign}
use Rattle.image_check.specs.Told.{IsBreachOf}
use Rattle.image_check.proofs.ForeignNodes.{foreign_not}
use Rattle.image_check.specs.FirstLaws.{first_of_lebs}

-- the LEBs up to one meet the rule
abbrev pub ListsTo : (ℕ → List ℕ) → RawGeometry → ℕ → Type 0
ListsTo holds geo to = (k : ℕ) → orph_first geo ≤ k → k < to → HasOrphanNodes (holds k)

pub record ListsSoFar (geo : RawGeometry) (old now : VolumeState) (to : ℕ) (leb : List ℕ) : Type 0 where
  pub lists : ListsTo old.holds geo to
  pub kept : IsKept old now
  pub len : length leb ≡ old.leb_size

-- one LEB more
pub lists_next : (holds : ℕ → List ℕ) (geo : RawGeometry) (to : ℕ) (leb : List ℕ) → leb ≡ holds to → ListsTo holds geo to → HasOrphanNodes leb → ListsTo holds geo (to + 1)
lists_next holds geo to leb e before here k low high = elim (cases_lt k to) [
  | inl less ↦ before k low less
  | inr more ↦
      let P : List ℕ → Type 0 = λ b. HasOrphanNodes b in
      let Q : ℕ → Type 0 = λ n. HasOrphanNodes (holds n) in
      let same : to ≡ k = omega (arith, high, more) in
      subst Q same (subst P e here)
]

-- what is wrong in a LEB of the area
wrong_there : (holds : ℕ → List ℕ) (geo : RawGeometry) (other : Wrong) → IsNoOrphan holds geo other → (kind : ℕ) × IsForeign (holds other.lnum) other.offs kind × (other.misfit ≡ differs 11 kind)
wrong_there holds geo other w = elim w.wrong [
  | inl (found, one, no_orphan, no_padding, offs, values) ↦ (_, record { items = w.items; end = w.end; tail = w.tail; is_text = w.is_text; wrong = inl (found, one, no_orphan, no_padding, offs, refl) }, values)
  | inr (torn, offs, values) ↦ (_, record { items = w.items; end = w.end; tail = w.tail; is_text = w.is_text; wrong = inr (torn, offs, refl) }, values)
]

is_wrong_there : (holds : ℕ → List ℕ) (geo : RawGeometry) (lnum offs kind : ℕ) → orph_first geo ≤ lnum → lnum < main_first geo → IsForeign (holds lnum) offs kind → IsNoOrphan holds geo (record { lnum = lnum; offs = offs; misfit = differs 11 kind })
is_wrong_there holds geo lnum offs kind low high h = record {
  low = low;
  high = high;
  items = h.items;
  end = h.end;
  tail = h.tail;
  is_text = h.is_text;
  wrong = elim h.wrong [
    | inl (found, one, no_orphan, no_padding, at, type) ↦ inl (found, one, no_orphan, no_padding, at, ap (differs 11) type)
    | inr (torn, at, type) ↦ inr (torn, at, ap (differs 11) type)
  ];
}

-- the first place at which something else stands in the first LEB that doesn't meet the rule is what is wrong first
first_in_area : OneText → (holds : ℕ → List ℕ) (geo : RawGeometry) (lnum offs kind : ℕ) → orph_first geo ≤ lnum → lnum < main_first geo → ((k : ℕ) → k < main_first geo → IsBytes (holds k)) → ListsTo holds geo lnum → IsFirstForeign (holds lnum) offs kind
    → IsFirstWrong (IsNoOrphan holds geo) (record { lnum = lnum; offs = offs; misfit = differs 11 kind })
first_in_area text holds geo lnum offs kind low high fits before first =
    first_of_lebs (IsNoOrphan holds geo) (record { lnum = lnum; offs = offs; misfit = differs 11 kind }) (is_wrong_there holds geo lnum offs kind low high first.is)
    (λ other w less. let there = wrong_there holds geo other w in foreign_not text (holds other.lnum) other.offs there.0 (fits other.lnum w.high) there.1 (before other.lnum w.low less))
    (λ other w same.
    let there = wrong_there holds geo other w in
    let P : ℕ → Type 0 = λ k. IsForeign (holds k) other.offs there.0 in
    let least = first.least other.offs there.0 (subst P same there.1) in
    (least.0, λ s. there.2 ∙ ap (differs 11) (least.1 s)))

pub area_broken : OneText → (holds : ℕ → List ℕ) (geo : RawGeometry) (leb : List ℕ) (lnum offs kind : ℕ) → leb ≡ holds lnum → orph_first geo ≤ lnum → lnum < main_first geo → ((k : ℕ) → k < main_first geo → IsBytes (holds k)) → ListsTo holds geo lnum
    → IsFirstForeign leb offs kind → IsBreachOf rules.Orphans (IsFirstWrong (IsNoOrphan holds geo)) (Damaged rules.Orphans lnum offs 11 kind)
area_broken text holds geo leb lnum offs kind e low high fits before first =
    let P : List ℕ → Type 0 = λ b. IsFirstForeign b offs kind in
    (refl, first_in_area text holds geo lnum offs kind low high fits before (subst P e first))

pub lists_start : (holds : ℕ → List ℕ) (geo : RawGeometry) (n : ℕ) → n ≡ orph_first geo → ListsTo holds geo n
lists_start holds geo n e k low high = absurd (omega (arith, e, low, high))
