-- The LEBs of an area, one behind another.
use Rattle.std.proofs.Common.{◌≡◌, ℕ, zero, suc, ◌+◌, ◌-◌, ◌<◌, ◌≤◌, List, [], ◌++◌, length, take, drop, ap, sym, ◌∙◌, arith, append_assoc, append-nil, get_or-drop}
use Rattle.std.proofs.Math.Seq.{drop-append_seam, take-append_seam}
use Rattle.ubifs_base.specs.Areas.{lpt_first, orph_first}
use Rattle.ubifs_base.specs.NodeLaws.{IsBytes}
use Rattle.ubifs_base.specs.declared.raw_geometry.RawGeometry.{RawGeometry}
use Rattle.ubi_volume.specs.Volume.{VolumeState}
use Rattle.small_areas.specs.MasterLaws.{take_bytes}
use Rattle.lpt_area.specs.KeptLaws.{IsKept}
use Rattle.image_check.specs.PropertyWalk.{IsAreaOf, lpt_leb_in, lebs_behind}

-- so many LEBs from one on
abbrev pub lebs_from : (ℕ → List ℕ) → ℕ → ℕ → List ℕ
lebs_from holds first zero = []
lebs_from holds first (suc n) = holds first ++ lebs_from holds (suc first) n

-- one LEB more
one_leb_more : (holds : ℕ → List ℕ) (first n : ℕ) → lebs_from holds first (suc n) ≡ lebs_from holds first n ++ holds (first + n)
one_leb_more holds first zero = let e : first ≡ first + 0 = omega arith in append-nil (holds first) ∙ ap holds e
one_leb_more holds first (suc n) =
    let e : suc first + n ≡ first + suc n = omega arith in
    ap (λ (xs : List ℕ). holds first ++ xs) (one_leb_more holds (suc first) n ∙ ap (λ (k : ℕ). lebs_from holds (suc first) n ++ holds k) e) ∙ sym (append_assoc (holds first) (lebs_from holds (suc first) n) (holds (first + suc n)))

-- each of them is found
leb_found : (holds : ℕ → List ℕ) (size first n i : ℕ) → ((k : ℕ) → k < first + n → length (holds k) ≡ size) → i < n → take size (lebs_behind size i (lebs_from holds first n)) ≡ holds (first + i)
leb_found holds size first zero i full less = absurd (omega (arith, less))
leb_found holds size first (suc n) zero full less =
    let long = full first (omega arith) in
    let e : first ≡ first + 0 = omega arith in
    ap (λ (m : ℕ). take m (holds first ++ lebs_from holds (suc first) n)) (sym long) ∙ take-append_seam (holds first) (lebs_from holds (suc first) n) ∙ ap holds e
leb_found holds size first (suc n) (suc i) full less =
    let long = full first (omega arith) in
    let e : suc first + i ≡ first + suc i = omega arith in
    ap (λ (m : ℕ). take size (lebs_behind size i (drop m (holds first ++ lebs_from holds (suc first) n)))) (sym long) ∙ ap (λ (xs : List ℕ). take size (lebs_behind size i xs)) (drop-append_seam (holds first) (lebs_from holds (suc first) n))
    ∙ leb_found holds size (suc first) n i (λ k low. full k (omega (arith, low))) (omega (arith, less)) ∙ ap holds e

pub area_is : (geo : RawGeometry) (holds : ℕ → List ℕ) (n : ℕ) (area : List ℕ) → ((k : ℕ) → k < orph_first geo → length (holds k) ≡ geo.leb_size) → lpt_first geo + n ≡ orph_first geo → area ≡ lebs_from holds (lpt_first geo) n → IsAreaOf geo holds area
unfolding lpt_leb_in
area_is geo holds n area full end is lnum low high =
    let size = geo.leb_size in
    let first = lpt_first geo in
    let at : first + (lnum - first) ≡ lnum = omega (arith, low) in
    ap (λ (xs : List ℕ). take size (lebs_behind size (lnum - first) xs)) is ∙ leb_found holds size first n (lnum - first) (λ k less. full k (omega (arith, less, end))) (omega (arith, low, high, end)) ∙ ap holds at

-- the LEBs so far were read
pub record AreaSoFar (geo : RawGeometry) (old now : VolumeState) (lnum : ℕ) (area leb : List ℕ) : Type 0 where
  pub low : lpt_first geo ≤ lnum
  pub high : lnum ≤ orph_first geo
  pub bytes : area ≡ lebs_from old.holds (lpt_first geo) (lnum - lpt_first geo)
  pub kept : IsKept old now
  pub len : length leb ≡ old.leb_size

pub area_start : (holds : ℕ → List ℕ) (first lnum : ℕ) (area : List ℕ) → area ≡ [] → lnum ≡ first → area ≡ lebs_from holds first (lnum - first)
area_start holds first lnum area none here = let z : lnum - first ≡ 0 = omega (arith, here) in none ∙ ap (lebs_from holds first) (sym z)

pub area_next : (holds : ℕ → List ℕ) (first lnum : ℕ) (area leb new : List ℕ) → first ≤ lnum → area ≡ lebs_from holds first (lnum - first) → leb ≡ holds lnum → new ≡ area ++ leb → new ≡ lebs_from holds first (lnum + 1 - first)
area_next holds first lnum area leb new low before read is =
    let at : first + (lnum - first) ≡ lnum = omega (arith, low) in
    let up : lnum + 1 - first ≡ suc (lnum - first) = omega (arith, low) in
    is ∙ ap (λ (xs : List ℕ). xs ++ leb) before ∙ ap (λ (xs : List ℕ). lebs_from holds first (lnum - first) ++ xs) (read ∙ ap holds (sym at)) ∙ sym (one_leb_more holds first (lnum - first)) ∙ ap (lebs_from holds first) (sym up)

-- bytes of the area are bytes
behind_bytes : (size number : ℕ) (area : List ℕ) → IsBytes area → IsBytes (lebs_behind size number area)
behind_bytes size zero area fits = fits
behind_bytes size (suc number) area fits = behind_bytes size number (drop size area) (λ i. rw get_or-drop (fits (size + i)))

pub held_bytes : (geo : RawGeometry) (area : List ℕ) (lnum : ℕ) → IsBytes area → IsBytes (lpt_leb_in geo area lnum)
unfolding lpt_leb_in
held_bytes geo area lnum fits = take_bytes geo.leb_size (lebs_behind geo.leb_size (lnum - lpt_first geo) area) (behind_bytes geo.leb_size (lnum - lpt_first geo) area fits)

-- one LEB was passed
pub behind_next : (size from lnum : ℕ) (rest new : List ℕ) → from < lnum → new ≡ drop size rest → lebs_behind size (lnum - (from + 1)) new ≡ lebs_behind size (lnum - from) rest
behind_next size from lnum rest new less is =
    let e : lnum - from ≡ suc (lnum - (from + 1)) = omega (arith, less) in
    ap (lebs_behind size (lnum - (from + 1))) is ∙ ap (λ (n : ℕ). lebs_behind size n rest) (sym e)

pub held_at : (geo : RawGeometry) (area rest leb : List ℕ) (from lnum : ℕ) → lnum ≤ from → lebs_behind geo.leb_size (lnum - from) rest ≡ lebs_behind geo.leb_size (lnum - lpt_first geo) area → leb ≡ take geo.leb_size (drop 0 rest) → leb ≡ lpt_leb_in geo area lnum
unfolding lpt_leb_in
held_at geo area rest leb from lnum past same is =
    let size = geo.leb_size in
    let none : lnum - from ≡ 0 = omega (arith, past) in
    let e : rest ≡ lebs_behind size (lnum - lpt_first geo) area = ap (λ (n : ℕ). lebs_behind size n rest) (sym none) ∙ same in
    is ∙ ap (take size) e
