-- What calls leave of the present section.
use Rattle.std.proofs.Common.{◌≡◌, ◌⊎◌, inl, inr, ℕ, ◌+◌, ◌%◌, ◌≤◌, Bool, true, false, List, [], ◌∷◌, ◌++◌, Some, length, take, refl, ap, sym, ◌∙◌, subst, arith, length-append}
use Rattle.std.specs.Prelude.{◌≢◌}
use Rattle.std.proofs.lemmas.Bool.{cases_Bool, cases_eq}
use Rattle.ubifs_base.specs.Areas.{main_first}
use Rattle.ubifs_base.specs.NodeLaws.{IsBytes}
use Rattle.ubi_volume.specs.Volume.{VolumeState, WorksOn}
use Rattle.ubi_volume.specs.Frame.{Works}
use Rattle.media_sys.specs.SystemNode.{reference}
use Rattle.media_sys.specs.declared.ref_node.RefNode.{RefNode}
use Rattle.leb_scan.specs.Gaps.{gap_length}
use Rattle.leb_scan.specs.Text.{IsText, nodes_of}
use Rattle.leb_scan.specs.declared.found.Found.{Found}
use Rattle.leb_scan.specs.declared.tail.Tail.TheVariants.{Clean}
use Rattle.bud_log.specs.Below.{begins_start}
use Rattle.bud_log.specs.Grown.{grown, grown_text}
use Rattle.bud_log.specs.Log.{IsLogLeb, next_leb}
use Rattle.bud_log.specs.LogAnswers.{StartsWith, IsSection}
use Rattle.bud_log.specs.LogAt.{LogAt, IsOfEarlierSection, steps_to, has_room, lnum_at, offs_at, next_lnum, ending, starting, without_old_sections}
use Rattle.bud_log.specs.LogCalls.{IsAdded, EndUnderWay}
use Rattle.bud_log.specs.LogText.{LogText, IsLogTextOf, begins_with, start_of, is_start_alone, IsNoLoneStart}
use Rattle.bud_log.specs.References.{lone_references}
use Rattle.bud_log.specs.RingRuns.{OneLebText}
use Rattle.bud_log.specs.RingSteps.{steps_more}
use Rattle.bud_log.specs.Writing.{IsOlder, AreOthersOlder, AreNodes, last_end, IsLogReady, references_in}
use Rattle.bud_log.specs.declared.head_at.HeadAt.{HeadAt}
use Rattle.bud_log.specs.declared.log_end.LogEnd.{LogEnd}
use Rattle.bud_log.proofs.Ended.{ended_each}
use Rattle.bud_log.proofs.Laid.{AreLaid}
use Rattle.bud_log.proofs.OneBud.{main_out}
use Rattle.bud_log.proofs.Opened.{blank_older, chain_end, clean_end, end_blank, put_laid, put_front, begun_laid}
use Rattle.bud_log.proofs.ReadyAgain.{laid_text}

-- a text that names a bud is no commit start alone
named_alone : (leb : List ℕ) (lnum : ℕ) (text : LogText) (before : List RefNode) (node : RefNode) → IsLogTextOf leb lnum text → text.references ≡ before ++ node ∷ [] → is_start_alone text.nodes ≡ false
named_alone leb lnum text before node is e = elim (cases_Bool (is_start_alone text.nodes)) [
  | inl alone ↦
      let none = lone_references leb text.nodes text.references is.refer alone in
      let count : length (before ++ node ∷ []) ≡ 0 = ap length (sym e ∙ none) in
      let one = length-append before (node ∷ []) in
      absurd (omega (arith, count, one))
  | inr other ↦ other
]

-- A reference was written behind the end of the log. What its first LEB begins with stays, and the LEB of the reference is no commit start alone.
pub added_section : OneLebText → (here : Bool) (a b : VolumeState) (at : LogAt) (from known number low : ℕ) (buds : List HeadAt) (node : RefNode) (bytes : List ℕ) (D : List ℕ → Type 0) → IsLogReady a at.geo from at.lnum at.offs known buds → IsBytes (a.holds from)
    → (here ≡ true → has_room at ≡ true) → (here ≡ false → next_leb at.geo at.lnum ≢ from) → IsAdded here a b at bytes → WorksOn a b (lnum_at here at) D → AreNodes bytes number (reference node ∷ [])
    → length (a.holds at.lnum) ≡ a.leb_size → offs_at here at + length bytes ≤ a.leb_size → at.offs % 8 ≡ 0 → StartsWith (a.holds from) from low
    → StartsWith (b.holds from) from low × IsNoLoneStart (b.holds (lnum_at here at)) (lnum_at here at)
added_section one true a b at from known number low buds node bytes D h fits_bytes roomy free w works are size room even starts =
    let lnum = at.lnum in
    let old = a.holds lnum in
    let new = b.holds lnum in
    let fits : at.offs + length bytes ≤ length old = omega (arith, room, size) in
    let end : ℕ = at.offs + length bytes in
    let front = put_front old bytes at.offs fits in
    let P : List ℕ → Type 0 = λ leb. AreLaid leb at.offs end number (reference node ∷ []) in
    let clean = clean_end at (last_end h.first.ends h.more) (roomy refl) h.last in
    let laid = subst P (sym w.holds) (put_laid old bytes at.offs number are.gap (reference node ∷ []) are.spelled are.are fits (end_blank a at.geo from lnum at.offs known buds h clean) even are.fits are.even (gap_length are.gap)) in
    let before : LogEnd = record { lnum = lnum; offs = at.offs; tail = Clean } in
    let t = chain_end a.holds at.geo from h.start h.past h.first h.more before h.chain clean in
    let found = nodes_of laid.items in
    let references = references_in (reference node ∷ []) in
    let E : LogEnd → Type 0 = λ z. take z.offs old ≡ take z.offs new in
    let F : LogEnd → Type 0 = λ z. IsText new z.offs laid.items end Clean in
    let text = grown_text t.0 found references (record { lnum = lnum; offs = end; tail = Clean }) in
    let is : IsLogTextOf new lnum text =
    grown old new lnum end Clean t.0 laid.items references t.1 (subst E (sym t.2) (front.0 ∙ ap (take at.offs) (sym w.holds))) (front.1 ∙ ap length (sym w.holds)) (subst F (sym t.2) laid.is_text) laid.refer in
    let kept : StartsWith (b.holds from) from low = elim (cases_eq from lnum) [
      | inl same ↦
          let S : ℕ → Type 0 = λ n. StartsWith (a.holds n) n low in
          let B : ℕ → Type 0 = λ n. IsBytes (a.holds n) in
          let N : ℕ → Type 0 = λ n. StartsWith (b.holds n) n low in
          let s = subst S same starts in
          let both = one old 0 s.0.ends.offs t.0.ends.offs s.1.items t.1.items s.0.ends.tail t.0.ends.tail (subst B same fits_bytes) s.1.is_text t.1.is_text in
          let nodes : s.0.nodes ≡ t.0.nodes = s.1.nodes ∙ ap nodes_of both.0 ∙ sym t.1.nodes in
          let first : start_of (begins_with t.0.nodes) ≡ Some low = ap (λ (n : List Found). start_of (begins_with n)) (sym nodes) ∙ s.2 in
          subst N (sym same) (text, is, ap start_of (sym (begins_start low t.0.nodes found first)) ∙ first)
      | inr ne ↦ let Q : List ℕ → Type 0 = λ leb. StartsWith leb from low in subst Q (sym (works.others from ne)) starts
    ] in
    (kept, (text, is, named_alone new lnum text t.0.references node is refl))
added_section one false a b at from known number low buds node bytes D h fits_bytes roomy free w works are size room even starts =
    let there = next_leb at.geo at.lnum in
    let laid = begun_laid a b there number bytes (reference node ∷ []) w are room in
    let is = laid_text (b.holds there) there (0 + length bytes) number (reference node ∷ []) laid in
    let text : LogText = record { nodes = nodes_of laid.items; references = references_in (reference node ∷ []); ends = record { lnum = there; offs = 0 + length bytes; tail = Clean } } in
    let Q : List ℕ → Type 0 = λ leb. StartsWith leb from low in
    (subst Q (sym (works.others from (λ e. free refl (sym e)))) starts, (text, is, named_alone (b.holds there) there text [] node is refl))

-- the log ends no nearer to the section's start than before
steps_near : (here : Bool) (at : LogAt) → IsLogLeb at.geo at.section → IsLogLeb at.geo at.lnum → (here ≡ false → next_leb at.geo at.lnum ≢ at.section) → steps_to at.geo at.section at.lnum ≤ steps_to at.geo at.section (lnum_at here at)
steps_near true at s l free = omega arith
steps_near false at s l free = let more = steps_more at.geo at.section at.lnum s l (free refl) in omega (arith, more)

-- a bud was opened
pub opened_section : (here : Bool) (a b : VolumeState) (at : LogAt) (low bud offs : ℕ) (Left : (ℕ → List ℕ) → Type 0) → here ≡ has_room at → IsLogLeb at.geo at.section → IsLogLeb at.geo at.lnum → (here ≡ false → next_leb at.geo at.lnum ≢ at.section) → main_first at.geo ≤ bud
    → Works a b (λ k. (k ≡ bud) ⊎ (k ≡ next_lnum at)) Left → StartsWith (b.holds at.section) at.section (low + 1) × IsNoLoneStart (b.holds (lnum_at here at)) (lnum_at here at) → IsSection a at low → IsSection b (ending at (lnum_at here at) offs) low
opened_section here a b at low bud offs Left e s l free main works there section = record {
  starts = there.0;
  more = λ other. there.1;
  older = λ k leb is behind left.
      let near = steps_near here at s l free in
      let aside : (k ≡ bud) ⊎ (k ≡ next_lnum at) → ⊥ = λ touched. elim touched [
        | inl same ↦ let L : ℕ → Type 0 = λ n. IsLogLeb at.geo n in main_out at.geo bud main (subst L same is)
        | inr same ↦
            let steps : steps_to at.geo at.section k ≡ steps_to at.geo at.section (lnum_at here at) = ap (steps_to at.geo at.section) (same ∙ ap (λ (r : Bool). lnum_at r at) (sym e)) in
            absurd (omega (arith, steps, behind))
      ] in
      section.older k leb is (omega (arith, near, behind)) ((works.others k aside).left leb left);
}

-- a section was started in the next LEB
pub started_section : (a b : VolumeState) (at : LogAt) (number offs there : ℕ) (D : List ℕ → Type 0) → StartsWith (b.holds there) there (number + 1) → WorksOn a b there D → AreOthersOlder a at.geo there number → IsSection b (starting at there offs) number
started_section a b at number offs there D starts works older = record {
  starts = starts;
  more = λ other. absurd (other refl);
  older = λ k leb is behind left.
      let other : k ≢ there = λ e. (let steps : steps_to at.geo there k ≡ steps_to at.geo there there = ap (steps_to at.geo there) e in absurd (omega (arith, steps, behind))) in
      older k leb is other (works.others_left k leb other left);
}

-- the sections before it were unmapped
pub ended_section : (a b : VolumeState) (at : LogAt) (low : ℕ) → steps_to at.geo at.first at.section ≤ steps_to at.geo at.first at.lnum → ((k : ℕ) → b.left_now k (b.holds k)) → Works a b (IsOfEarlierSection at) (EndUnderWay a at) → IsSection a at low → IsSection b (without_old_sections at) low
ended_section a b at low way held works section =
    let S : List ℕ → Type 0 = λ leb. StartsWith leb at.section (low + 1) in
    let N : List ℕ → Type 0 = λ leb. IsNoLoneStart leb at.lnum in
    record {
      starts = subst S (sym (works.others at.section (λ is. (let before = is.before in absurd (omega (arith, before))))).holds) section.starts;
      more = λ other. subst N (sym (works.others at.lnum (λ is. (let before = is.before in absurd (omega (arith, before, way))))).holds) (section.more other);
      older = λ k leb is behind left. elim (ended_each a b at held works k leb left) [
        | inl now ↦ section.older k leb is behind now
        | inr (ended, e) ↦ let P : List ℕ → Type 0 = λ y. IsOlder low k y in subst P (sym e) (blank_older low k a.leb_size)
      ];
    }
