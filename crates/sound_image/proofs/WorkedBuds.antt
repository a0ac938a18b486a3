-- A damaged image in whose bud the start of a commit stands.
use Rattle.std.proofs.Common.{◌≡◌, ℕ, ◌+◌, ◌^◌, List, [], ◌∷◌, drop, length, take, refl, ap, sym, ◌∙◌, subst, inl, inr, arith}
use Rattle.std.proofs.lemmas.Bool.{ltb-true}
use Rattle.ubifs_base.specs.NodeType.{type_number}
use Rattle.ubifs_base.specs.declared.journal_head.JournalHead.TheVariants.{Base}
use Rattle.media_sys.specs.SystemNode.{IsSystemNode, commit_start, written}
use Rattle.media_sys.specs.declared.feature.Feature.{Feature}
use Rattle.media_sys.specs.declared.ref_node.RefNode.{RefNode}
use Rattle.leb_scan.specs.Gaps.{gap_items, gap_padding_alone}
use Rattle.leb_scan.specs.Text.{IsText, nodes_of}
use Rattle.leb_scan.specs.declared.found.Found.{Found}
use Rattle.leb_scan.specs.declared.tail.Tail.TheVariants.{Clean}
use Rattle.small_areas.specs.MasterLaws.{OneText}
use Rattle.bud_log.specs.Buds.{buds_of}
use Rattle.bud_log.specs.LogText.{LogText}
use Rattle.bud_log.specs.declared.head_at.HeadAt.{HeadAt}
use Rattle.sound_image.specs.Breaches.{IsFirstBreach, IsWrongInBuds}
use Rattle.sound_image.specs.Frames.{NeedsFeature}
use Rattle.sound_image.specs.Image.{Image}
use Rattle.sound_image.specs.Log.{HasLog}
use Rattle.sound_image.specs.Rules.{MeetsBefore}
use Rattle.sound_image.specs.Worked.{HasStartInBud, least_image, least_props}
use Rattle.sound_image.specs.Wrong.{IsFirstWrong, Wrong, differs}
use Rattle.sound_image.specs.declared.breach.Breach.TheVariants.{Damaged}
use Rattle.sound_image.specs.declared.rule.Rule.TheVariants as rules
use Rattle.sound_image.proofs.AloneTexts.{alone_bytes, alone_items, alone_text, found_first}
use Rattle.sound_image.proofs.FreshLog.{start_is}
use Rattle.sound_image.proofs.LeastImage.{has_index, least_placed}
use Rattle.sound_image.proofs.PlainBuds.{known_system}
use Rattle.sound_image.proofs.WorkedEnds.{only_first}
use Rattle.sound_image.proofs.WorkedFiles.{one_alone}
use Rattle.sound_image.proofs.WorkedRows.{MeetsFirst, least_super_has, not_before}

before_buds : (contents : ℕ → List ℕ) (image : Image) → MeetsFirst contents image → HasLog contents image.geo image.latest.master image.log → MeetsBefore contents image rules.Buds
before_buds contents image h log rules.Superblock n = h.superblock
before_buds contents image h log rules.Masters n = h.masters
before_buds contents image h log rules.Properties n = h.properties
before_buds contents image h log rules.Index n = h.index
before_buds contents image h log rules.Log n = log
before_buds contents image h log rules.Buds n = absurd (omega (arith, n))
before_buds contents image h log rules.Leaves n = absurd (omega (arith, n))
before_buds contents image h log rules.Sums n = absurd (omega (arith, n))
before_buds contents image h log rules.Ends n = absurd (omega (arith, n))
before_buds contents image h log rules.Orphans n = absurd (omega (arith, n))
before_buds contents image h log rules.Tree n = absurd (omega (arith, n))
before_buds contents image h log rules.Links n = absurd (omega (arith, n))

abbrev one_bud : HeadAt
one_bud = record { head = Base; lnum = 10; offs = 0 }

abbrev at_start : Wrong
at_start = record { lnum = 10; offs = 0; misfit = differs 1 10 }

abbrev start_bytes : List ℕ
start_bytes = written 1 0 (commit_start (record { cmt_no = 0 }))

abbrev start_found : Found
start_found = found_first start_bytes 1 0 (commit_start (record { cmt_no = 0 }))

-- its text from the start on
start_text : (contents : ℕ → List ℕ) (log : List LogText) (h : HasStartInBud contents log)
    → IsText (contents 10) 0 (alone_items start_bytes 1 0 (commit_start (record { cmt_no = 0 })) h.start.gap) (length start_bytes + h.start.gap) Clean
start_text contents log h = alone_text (contents 10) start_bytes 1 0 (commit_start (record { cmt_no = 0 })) h.start (start_is 1 0 (ltb-true 1 (2 ^ 64) refl) (ltb-true 0 (2 ^ 64) refl)) (λ e. absurd cc)

-- it stands there
start_at : (contents : ℕ → List ℕ) (log : List LogText) → HasStartInBud contents log → IsSystemNode (take (length start_bytes) (drop 0 (contents 10))) 1 0 (commit_start (record { cmt_no = 0 }))
start_at contents log h =
    let P : List ℕ → Type 0 = λ b. IsSystemNode b 1 0 (commit_start (record { cmt_no = 0 })) in
    subst P (sym (alone_bytes (contents 10) start_bytes h.start)) (start_is 1 0 (ltb-true 1 (2 ^ 64) refl) (ltb-true 0 (2 ^ 64) refl))

-- no feature is needed where it stands
none_needed : (contents : ℕ → List ℕ) (log : List LogText) (h : HasStartInBud contents log) (what : Feature) → NeedsFeature (contents 10) 0 what → ⊥
none_needed contents log h what needed =
    let stands = (start_text contents log h).stand.0.stands in
    known_system (contents 10) start_found (commit_start (record { cmt_no = 0 })) (h.begins.bytes 10)
    (record { here = refl; room = stands.room; kind = refl; is = start_at contents log h }) what needed

start_first : OneText → (contents : ℕ → List ℕ) (log : List LogText) → HasStartInBud contents log → IsFirstWrong (IsWrongInBuds contents (one_bud ∷ [])) at_start
start_first text contents log h =
    let gap : ℕ = h.start.gap in
    let items = alone_items start_bytes 1 0 (commit_start (record { cmt_no = 0 })) gap in
    let padding = gap_padding_alone (length start_bytes) gap in
    let is_text = start_text contents log h in
    record {
      wrong = (
        one_bud,
        ([], [], refl),
        record {
          items = items;
          end = length start_bytes + gap;
          tail = Clean;
          is_text = is_text;
          lnum = refl;
          wrong = inl (start_found, ([], nodes_of (gap_items (length start_bytes) gap), refl), λ may. elim may [ inl leaf ↦ absurd cc | inr pad ↦ absurd cc ], refl, refl);
        },
      );
      least = λ other (bud, (front, back, e), wrong).
          let own : one_bud ≡ bud = (one_alone one_bud bud front back e).1 in
          let B : HeadAt → Type 0 = λ b. IsText (contents b.lnum) b.offs wrong.items wrong.end wrong.tail in
          let same = text (contents 10) 0 wrong.end (length start_bytes + gap) wrong.items items wrong.tail Clean (h.begins.bytes 10) (subst B (sym own) wrong.is_text) is_text in
          let here : other.lnum ≡ 10 = wrong.lnum ∙ ap (λ (b : HeadAt). b.lnum) (sym own) in
          let misfit : other.offs ≡ 0 → other.misfit ≡ differs 1 10 = λ there. elim wrong.wrong [
            | inl (found, (before, behind, parts), may_not, offs, value) ↦
                let first = only_first start_found found (nodes_of (gap_items (length start_bytes) gap)) before behind padding (λ pad. may_not (inr pad)) (ap nodes_of (sym same.0) ∙ parts) in
                value ∙ ap (λ (f : Found). differs 1 (type_number f.kind)) (sym first)
            | inr (what, needed, place, value) ↦
                let N : HeadAt → Type 0 = λ b. NeedsFeature (contents b.lnum) other.offs what in
                let M : ℕ → Type 0 = λ k. NeedsFeature (contents 10) k what in
                absurd (none_needed contents log h what (subst M there (subst N (sym own) needed)))
          ] in
          not_before other at_start (omega (arith, here)) (λ f. omega arith) (λ f there. misfit there);
    }

pub bud_row : OneText → (contents : ℕ → List ℕ) (log : List LogText) → HasStartInBud contents log → IsFirstBreach contents (Damaged rules.Buds 10 0 1 10)
bud_row text contents log h =
    let image : Image = least_image log in
    let P : List RefNode → Type 0 = λ nodes. IsFirstWrong (IsWrongInBuds contents (buds_of nodes)) at_start in (
      image,
      before_buds contents image (record {
        superblock = least_super_has contents h.begins.super;
        masters = record { is_latest = h.begins.masters; in_areas = least_placed };
        properties = h.properties;
        index = has_index contents least_props refl h.index;
      }) h.has_log,
      subst P (sym h.named) (start_first text contents log h),
    )
