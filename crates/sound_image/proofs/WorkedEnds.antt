-- Damaged images in which something is written where nothing should be.
use Rattle.std.proofs.Common.{◌≡◌, ℕ, ◌+◌, ◌-◌, ◌^◌, ◌≤◌, false, List, [], ◌∷◌, ◌++◌, Some, length, get_or, refl, ap, sym, ◌∙◌, subst, inl, inr, arith}
use Rattle.std.specs.Prelude.{◌≢◌, All}
use Rattle.std.proofs.lemmas.Bool.{cases_lt, leb-true, ltb-true}
use Rattle.std.proofs.lemmas.List.Elements.{All-head, All-tail}
use Rattle.ubifs_base.specs.NodeType.{type_number}
use Rattle.ubifs_base.specs.declared.node_type.NodeType.TheVariants as types
use Rattle.media_lpt.specs.declared.lprop.Lprop.{Lprop}
use Rattle.media_sys.specs.SystemNode.{commit_start, written}
use Rattle.leb_scan.specs.Gaps.{IsPadding, gap_items, gap_padding_alone}
use Rattle.leb_scan.specs.Text.{IsText, nodes_of}
use Rattle.leb_scan.specs.declared.found.Found.{Found}
use Rattle.leb_scan.specs.declared.tail.Tail.TheVariants.{Clean}
use Rattle.small_areas.specs.MasterLaws.{OneText}
use Rattle.small_areas.specs.Orphans.{AreListed, AreOrphans}
use Rattle.bud_log.specs.LogText.{LogText}
use Rattle.sound_image.specs.Breaches.{IsFirstBreach}
use Rattle.sound_image.specs.Image.{Image}
use Rattle.sound_image.specs.Properties.{prop_of}
use Rattle.sound_image.specs.Rules.{MeetsBefore}
use Rattle.sound_image.specs.Space.{HasErasedEnds, HasSums}
use Rattle.sound_image.specs.Worked.{HasStartForOrphans, HasWrittenEnd, least_geometry, least_props}
use Rattle.sound_image.specs.Wrong.{Wrong, differs}
use Rattle.sound_image.specs.declared.breach.Breach.TheVariants.{Damaged}
use Rattle.sound_image.specs.declared.rule.Rule.TheVariants as rules
use Rattle.sound_image.proofs.AloneTexts.{alone_items, alone_text, found_first}
use Rattle.sound_image.proofs.FreshLog.{start_is}
use Rattle.sound_image.proofs.LeastImage.{has_ends, has_sums, least_text, least_with, no_orphans}
use Rattle.sound_image.proofs.Lists.{all_at, cons_parts}
use Rattle.sound_image.proofs.WorkedRows.{not_before, prop_low, prop_same, up_to_leaves}

pub before_ends : (contents : ℕ → List ℕ) (image : Image) → MeetsBefore contents image rules.Sums → HasSums image.geo image.props image.placed → MeetsBefore contents image rules.Ends
before_ends contents image h sums rules.Superblock n = h rules.Superblock (ltb-true 1 8 refl)
before_ends contents image h sums rules.Masters n = h rules.Masters (ltb-true 2 8 refl)
before_ends contents image h sums rules.Properties n = h rules.Properties (ltb-true 3 8 refl)
before_ends contents image h sums rules.Index n = h rules.Index (ltb-true 4 8 refl)
before_ends contents image h sums rules.Log n = h rules.Log (ltb-true 5 8 refl)
before_ends contents image h sums rules.Buds n = h rules.Buds (ltb-true 6 8 refl)
before_ends contents image h sums rules.Leaves n = h rules.Leaves (ltb-true 7 8 refl)
before_ends contents image h sums rules.Sums n = sums
before_ends contents image h sums rules.Ends n = absurd (omega (arith, n))
before_ends contents image h sums rules.Orphans n = absurd (omega (arith, n))
before_ends contents image h sums rules.Tree n = absurd (omega (arith, n))
before_ends contents image h sums rules.Links n = absurd (omega (arith, n))

pub before_orphans : (contents : ℕ → List ℕ) (image : Image) → MeetsBefore contents image rules.Ends → HasErasedEnds contents image.geo image.latest.master image.props image.log → MeetsBefore contents image rules.Orphans
before_orphans contents image h ends rules.Superblock n = h rules.Superblock (ltb-true 1 9 refl)
before_orphans contents image h ends rules.Masters n = h rules.Masters (ltb-true 2 9 refl)
before_orphans contents image h ends rules.Properties n = h rules.Properties (ltb-true 3 9 refl)
before_orphans contents image h ends rules.Index n = h rules.Index (ltb-true 4 9 refl)
before_orphans contents image h ends rules.Log n = h rules.Log (ltb-true 5 9 refl)
before_orphans contents image h ends rules.Buds n = h rules.Buds (ltb-true 6 9 refl)
before_orphans contents image h ends rules.Leaves n = h rules.Leaves (ltb-true 7 9 refl)
before_orphans contents image h ends rules.Sums n = h rules.Sums (ltb-true 8 9 refl)
before_orphans contents image h ends rules.Ends n = ends
before_orphans contents image h ends rules.Orphans n = absurd (omega (arith, n))
before_orphans contents image h ends rules.Tree n = absurd (omega (arith, n))
before_orphans contents image h ends rules.Links n = absurd (omega (arith, n))

-- ---- a byte among the free ones
pub written_end_row : (contents : ℕ → List ℕ) → HasWrittenEnd contents → IsFirstBreach contents (Damaged rules.Ends 10 200 255 0)
written_end_row contents h =
    let log : List LogText = least_text h.like.log.start.gap ∷ [] in
    let at : Wrong = record { lnum = 10; offs = 200; misfit = differs 255 0 } in
    let first : Lprop = record { free = 16208; dirty = 16; index = false } in
    let byte = h.byte in (
      least_with least_props log,
      before_ends contents (least_with least_props log) (up_to_leaves contents least_props h.like (no_orphans contents h.orphans) refl refl) has_sums,
      record {
        wrong = record {
          no_bud = refl;
          prop = first;
          has = refl;
          some = ltb-true 0 16208 refl;
          not_all = ltb-true 16208 16384 refl;
          elsewhere = λ e. absurd cc;
          behind = leb-true 176 200 refl;
          byte = λ e. omega (arith, e, byte);
          values = ap (differs 255) (sym byte);
        };
        least = λ other wrong.
            let low = prop_low least_props other.lnum wrong.prop wrong.has in
            let behind : other.lnum ≡ 10 → 176 ≤ other.offs = λ here.
            let P : ℕ → Type 0 = λ k. prop_of least_geometry least_props k ≡ Some wrong.prop in
            let Q : Lprop → Type 0 = λ p. 16384 - p.free ≤ other.offs in
            subst Q (sym (prop_same first wrong.prop (subst P here wrong.has))) wrong.behind in
            let later : other.lnum ≡ 10 → 200 ≤ other.offs = λ here. elim (cases_lt other.offs 200) [
              | inl less ↦ let B : ℕ → Type 0 = λ k. get_or (contents k) other.offs 255 ≢ 255 in absurd (subst B here wrong.byte (h.erased other.offs (behind here) less))
              | inr high ↦ high
            ] in
            let values : other.lnum ≡ 10 → other.offs ≡ 200 → other.misfit ≡ differs 255 0 = λ here there.
            wrong.values ∙ ap (λ (k : ℕ). differs 255 (get_or (contents k) other.offs 255)) here ∙ ap (λ (k : ℕ). differs 255 (get_or (contents 10) k 255)) there ∙ ap (differs 255) byte in
            not_before other at low later values;
      },
    )

-- ---- the start of a commit where orphans may stand
-- padding lists nothing
none_listed : (leb : List ℕ) (nodes : List Found) → All IsPadding nodes → AreListed leb nodes []
none_listed leb [] h = refl
none_listed leb (found ∷ nodes) h = let kind = All-head IsPadding found nodes h in inl (λ e. absurd cc, none_listed leb nodes (All-tail IsPadding found nodes h))

-- one that is no padding is the first
pub only_first : (first found : Found) (nodes before behind : List Found) → All IsPadding nodes → found.kind ≢ types.Padding → first ∷ nodes ≡ before ++ (found ∷ behind) → first ≡ found
only_first first found nodes [] behind h other e = (cons_parts first found nodes behind e).0
only_first first found nodes (b ∷ before) behind h other e =
    let rest = (cons_parts first b nodes (before ++ (found ∷ behind)) e).1 in
    let P : List Found → Type 0 = λ xs. All IsPadding xs in
    absurd (other (all_at IsPadding found (before ++ (found ∷ behind)) (before, behind, refl) (subst P rest h)))

pub no_orphan_row : OneText → (contents : ℕ → List ℕ) → HasStartForOrphans contents → IsFirstBreach contents (Damaged rules.Orphans 9 0 11 10)
no_orphan_row text contents h =
    let log : List LogText = least_text h.like.log.start.gap ∷ [] in
    let at : Wrong = record { lnum = 9; offs = 0; misfit = differs 11 10 } in
    let bytes : List ℕ = written 1 0 (commit_start (record { cmt_no = 0 })) in
    let gap : ℕ = h.start.gap in
    let first : Found = found_first bytes 1 0 (commit_start (record { cmt_no = 0 })) in
    let padding = gap_padding_alone (length bytes) gap in
    let is_text = alone_text (contents 9) bytes 1 0 (commit_start (record { cmt_no = 0 })) h.start (start_is 1 0 (ltb-true 1 (2 ^ 64) refl) (ltb-true 0 (2 ^ 64) refl)) (λ e. absurd cc) in
    let items = alone_items bytes 1 0 (commit_start (record { cmt_no = 0 })) gap in
    let listed : AreOrphans contents 9 1 [] =
    ([], [], refl, record { items = items; end = length bytes + gap; tail = Clean; is_text = is_text; listed = inl (λ e. absurd cc, none_listed (contents 9) (nodes_of (gap_items (length bytes) gap)) padding) }, refl) in (
      least_with least_props log,
      before_orphans contents (least_with least_props log) (before_ends contents (least_with least_props log) (up_to_leaves contents least_props h.like listed refl refl) has_sums)
          (λ no_bud lnum prop has some not_all other. has_ends contents h.behind lnum prop has other),
      record {
        wrong = record {
          low = leb-true 9 9 refl;
          high = ltb-true 9 10 refl;
          items = items;
          end = length bytes + gap;
          tail = Clean;
          is_text = is_text;
          wrong = inl (first, ([], nodes_of (gap_items (length bytes) gap), refl), λ e. absurd cc, λ e. absurd cc, refl, refl);
        };
        least = λ other wrong.
            let low = wrong.low in
            let high = wrong.high in
            let here : other.lnum ≡ 9 = omega (arith, low, high) in
            let P : ℕ → Type 0 = λ k. IsText (contents k) 0 wrong.items wrong.end wrong.tail in
            let same = text (contents 9) 0 wrong.end (length bytes + gap) wrong.items items wrong.tail Clean (h.like.begins.bytes 9) (subst P here wrong.is_text) is_text in
            let values : other.misfit ≡ differs 11 10 = elim wrong.wrong [
              | inl (found, (before, behind, parts), no_orphan, no_padding, offs, value) ↦
                  let own = only_first first found (nodes_of (gap_items (length bytes) gap)) before behind padding no_padding (ap nodes_of (sym same.0) ∙ parts) in
                  value ∙ ap (λ (f : Found). differs 11 (type_number f.kind)) (sym own)
              | inr (torn, offs, value) ↦ let e = sym torn ∙ same.2 in absurd cc
            ] in
            not_before other at low (λ e. omega arith) (λ e f. values);
      },
    )
