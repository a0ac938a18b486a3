-- A log that its calls left is held, as a mount behind an unmount finds it.
use Rattle.std.proofs.Common.{◌≡◌, inl, inr, ℕ, ◌+◌, ◌<◌, true, false, List, [], ◌∷◌, Some, ap, sym, ◌∙◌, subst, arith}
use Rattle.std.proofs.lemmas.Bool.{cases_eq}
use Rattle.ubifs_base.specs.NodeLaws.{IsBytes}
use Rattle.ubifs_base.specs.declared.raw_geometry.RawGeometry.{RawGeometry}
use Rattle.ubi_volume.specs.Volume.{VolumeState, Only}
use Rattle.ubi_volume.specs.Frame.{IsSameLeb}
use Rattle.leb_scan.specs.Text.{nodes_of}
use Rattle.leb_scan.specs.declared.found.Found.{Found}
use Rattle.bud_log.specs.AfterCut.{IsHeldLog, IsOpenBehind, IsSettledOrOlder}
use Rattle.bud_log.specs.AfterCutLaws.{goes_lnum, IsReady-held, IsAt-behind}
use Rattle.bud_log.specs.Log.{Log, IsLogLeb, next_leb, Run}
use Rattle.bud_log.specs.LogAnswers.{StartsWith, IsSection}
use Rattle.bud_log.specs.LogAt.{LogAt, IsAt, steps_to}
use Rattle.bud_log.specs.LogLaws.{older_more, next_in}
use Rattle.bud_log.specs.LogText.{LogText, begins_with, start_of, is_start_alone, IsNoLoneStart}
use Rattle.bud_log.specs.RingRuns.{OneLebText}
use Rattle.bud_log.specs.RingSteps.{steps_more}
use Rattle.bud_log.specs.Writing.{IsOlder, last_end, GoesOn, IsLogReady}
use Rattle.bud_log.specs.declared.head_at.HeadAt.{HeadAt}
use Rattle.bud_log.specs.declared.log_end.LogEnd.{LogEnd}

-- the LEB behind a chain is the next one
run_past : (c : ℕ → List ℕ) (geo : RawGeometry) (from number l past lnum : ℕ) (first : LogEnd) (texts : List LogText) → Run c geo from number l texts past → l ≡ next_leb geo first.lnum → (last_end first texts).lnum ≡ lnum
    → past ≡ next_leb geo lnum
run_past c geo from number l past lnum first [] h e last = sym h ∙ e ∙ ap (next_leb geo) last
run_past c geo from number l past lnum first (text ∷ texts) h e last = run_past c geo from number (next_leb geo l) past lnum text.ends texts h.3 (ap (next_leb geo) (sym h.1.here)) last

-- the LEB behind the last that is read is the one behind that in which the log goes on
pub IsReady-past : (a : VolumeState) (geo : RawGeometry) (from lnum offs number : ℕ) (buds : List HeadAt) (h : IsLogReady a geo from lnum offs number buds) → h.past ≡ next_leb geo lnum
IsReady-past a geo from lnum offs number buds h = run_past a.holds geo from h.start (next_leb geo from) h.past lnum h.first.ends h.more h.chain.run (ap (next_leb geo) (sym h.chain.is_first.here)) (goes_lnum geo (last_end h.first.ends h.more) lnum offs h.last)

-- and its first commit start has the number that the LEB begins with
pub IsReady-start : OneLebText → (a : VolumeState) (geo : RawGeometry) (from lnum offs number start : ℕ) (buds : List HeadAt) (h : IsLogReady a geo from lnum offs number buds) → IsBytes (a.holds from) → StartsWith (a.holds from) from start → h.start ≡ start
IsReady-start one a geo from lnum offs number start buds h fits (text, is, starts) =
    let first = h.first in
    let k = h.chain.is_first in
    let same = one (a.holds from) 0 first.ends.offs text.ends.offs k.items is.items first.ends.tail text.ends.tail fits k.is_text is.is_text in
    let nodes : first.nodes ≡ text.nodes = k.nodes ∙ ap nodes_of same.0 ∙ sym is.nodes in
    let both : Some h.start ≡ Some start = sym h.chain.starts ∙ ap (λ (n : List Found). start_of (begins_with n)) nodes ∙ starts in
    cc

-- A log whose present section stands as it was started is held. Opened over what is told of it, it goes on in the same LEB, where nothing counts as written.
pub IsReady-unmounted : OneLebText → (a : VolumeState) (at : LogAt) (number low : ℕ) (buds : List HeadAt) → IsLogReady a at.geo at.section at.lnum at.offs number buds → IsAt a at → IsSection a at low → ((k : ℕ) → IsLogLeb at.geo k → IsBytes (a.holds k)) → ((k : ℕ) → IsLogLeb at.geo k → a.left_now k (a.holds k))
    → (log : Log) × IsHeldLog a at.geo at.section number log × (log.buds ≡ buds) × IsOpenBehind a at.geo log.ends × (log.ends.lnum ≡ at.lnum)
IsReady-unmounted one a at number low buds h is_at section fits held =
    let geo = at.geo in
    let from = at.section in
    let lnum = at.lnum in
    let e = IsReady-past a geo from lnum at.offs number buds h in
    let start = IsReady-start one a geo from lnum at.offs number (low + 1) buds h (fits from is_at.section) section.starts in
    let O : ℕ → Type 0 = λ n. Only (a.holds n) (a.left_now n) in
    let quiet : IsSettledOrOlder a h.start h.past = elim (cases_eq h.past from) [
      | inl same ↦ inl (subst O (sym same) (h.settled from (inl (sym h.chain.is_first.here))))
      | inr ne ↦ inr (λ leb left.
          let L : ℕ → Type 0 = λ n. a.left_now n leb in
          let P : ℕ → Type 0 = λ n. IsOlder low n leb in
          let behind = steps_more geo from lnum is_at.section is_at.here (λ again. ne (e ∙ again)) in
          let old = section.older (next_leb geo lnum) leb (next_in geo lnum is_at.here) (omega (arith, behind)) (subst L e left) in
          older_more low h.start h.past leb (omega (arith, start)) (subst P (sym e) old))
    ] in
    let r = IsReady-held a geo from lnum at.offs number buds h is_at.section held quiet in
    let goes : GoesOn geo r.0.ends lnum at.offs = elim r.3 [
      | inl goes ↦ goes
      | inr (other, lone) ↦
          let text = lone.0 in
          let is = lone.1 in
          let more = section.more other in
          let same = one (a.holds lnum) 0 text.ends.offs more.0.ends.offs is.items more.1.items text.ends.tail more.0.ends.tail (fits lnum is_at.here) is.is_text more.1.is_text in
          let nodes : text.nodes ≡ more.0.nodes = is.nodes ∙ ap nodes_of same.0 ∙ sym more.1.nodes in
          let both : true ≡ false = sym lone.2 ∙ ap is_start_alone nodes ∙ more.2 in
          absurd cc
    ] in
    (r.0, r.1, r.2, IsAt-behind a at r.0.ends is_at goes, goes_lnum at.geo r.0.ends at.lnum at.offs goes)

-- The present section stands as it was started where the LEBs of its log are as they were.
pub IsSection-same : (a b : VolumeState) (at : LogAt) (number : ℕ) → IsLogLeb at.geo at.section → IsLogLeb at.geo at.lnum → ((k : ℕ) → IsLogLeb at.geo k → IsSameLeb a b k) → IsSection a at number → IsSection b at number
IsSection-same a b at number s l same section =
    let P : List ℕ → Type 0 = λ leb. StartsWith leb at.section (number + 1) in
    let Q : List ℕ → Type 0 = λ leb. IsNoLoneStart leb at.lnum in
    record {
      starts = subst P (sym (same at.section s).holds) section.starts;
      more = λ other. subst Q (sym (same at.lnum l).holds) (section.more other);
      older = λ k leb is behind left. section.older k leb is behind ((same k is).left leb left);
    }

-- So it does where the log is opened again, wherever it goes on in the same LEB.
pub IsSection-moved : (state : VolumeState) (a b : LogAt) (number : ℕ) → b.geo ≡ a.geo → b.section ≡ a.section → b.lnum ≡ a.lnum → IsSection state a number → IsSection state b number
IsSection-moved state a b number geo section lnum h =
    let S : ℕ → Type 0 = λ n. StartsWith (state.holds n) n (number + 1) in
    let M : ℕ → Type 0 = λ n. IsNoLoneStart (state.holds n) n in
    record {
      starts = subst S (sym section) h.starts;
      more = λ other. subst M (sym lnum) (h.more (λ same. other (lnum ∙ same ∙ sym section)));
      older = λ k leb is behind left.
          let L : RawGeometry → Type 0 = λ g. IsLogLeb g k in
          let G : RawGeometry → Type 0 = λ g. steps_to g a.section a.lnum < steps_to g a.section k in
          let F : ℕ → Type 0 = λ n. steps_to b.geo n a.lnum < steps_to b.geo n k in
          let H : ℕ → Type 0 = λ n. steps_to b.geo b.section n < steps_to b.geo b.section k in
          h.older k leb (subst L geo is) (subst G geo (subst F section (subst H lnum behind))) left;
    }
