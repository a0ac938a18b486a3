-- What is wrong by a rule breaks it.
use Rattle.std.proofs.Common.{◌≡◌, ℕ, zero, suc, ◌+◌, ◌-◌, ◌≤◌, true, List, [], ◌∷◌, ◌++◌, drop, get_or, get_or-drop, refl, ap, sym, ◌∙◌, subst, inl, inr, arith}
use Rattle.std.specs.Prelude.{◌⊎◌, ◌==◌, All}
use Rattle.std.proofs.lemmas.Bool.{eqb-true}
use Rattle.std.proofs.lemmas.List.Elements.{All-head, All-tail}
use Rattle.ubifs_base.specs.NodeLaws.{IsBytes}
use Rattle.ubifs_base.specs.declared.node_type.NodeType.TheVariants as types
use Rattle.ubifs_base.specs.declared.raw_geometry.RawGeometry.{RawGeometry}
use Rattle.media_lpt.specs.declared.lprop.Lprop.{Lprop}
use Rattle.media_sys.specs.declared.master.Master.{Master}
use Rattle.small_areas.specs.Addresses.{addresses_of, first_past}
use Rattle.small_areas.specs.MasterLaws.{OneNode, OneText, one_latest}
use Rattle.small_areas.specs.declared.placed_master.PlacedMaster.{PlacedMaster}
use Rattle.leb_scan.specs.Text.{is_blank, nodes_of}
use Rattle.leb_scan.specs.declared.found.Found.{Found}
use Rattle.bud_log.specs.LogText.{LogText}
use Rattle.index_media.specs.PlacedRow.{PlacedRow}
use Rattle.leb_scan.specs.declared.tail.Tail.TheVariants.{Clean}
use Rattle.sound_image.specs.Breaches.{IsMisplaced, IsNoOrphan, IsWrittenEnd, IsWrongSum}
use Rattle.sound_image.specs.Masters.{HasMasters}
use Rattle.sound_image.specs.OrphanLists.{HasOrphanLists}
use Rattle.sound_image.specs.Space.{HasErasedEnds, HasSums}
use Rattle.sound_image.specs.Wrong.{Wrong}
use Rattle.sound_image.proofs.Lists.{two_true}

-- each byte of unwritten ones is 255
pub blank_byte : (bytes : List ℕ) (i : ℕ) → is_blank bytes ≡ true → get_or bytes i 255 ≡ 255
blank_byte [] i h = refl
blank_byte (b ∷ bytes) zero h = eqb-true b 255 (two_true (b == 255) (is_blank bytes) h).0
blank_byte (b ∷ bytes) (suc i) h = blank_byte bytes i (two_true (b == 255) (is_blank bytes) h).1

blank_behind : (bytes : List ℕ) (from place : ℕ) → from ≤ place → is_blank (drop from bytes) ≡ true → get_or bytes place 255 ≡ 255
blank_behind bytes from place behind h =
    let e : from + (place - from) ≡ place = omega (arith, behind) in
    ap (λ (k : ℕ). get_or bytes k 255) (sym e) ∙ sym (get_or-drop from bytes (place - from) 255) ∙ blank_byte (drop from bytes) (place - from) h

pub sums_broken : (geo : RawGeometry) (props : List Lprop) (placed : PlacedRow) (at : Wrong) → IsWrongSum geo props placed at → HasSums geo props placed → ⊥
sums_broken geo props placed at wrong h = wrong.other (h at.lnum wrong.prop wrong.has)

pub ends_broken : (contents : ℕ → List ℕ) (geo : RawGeometry) (master : Master) (props : List Lprop) (log : List LogText) (at : Wrong) → IsWrittenEnd contents geo master props log at → HasErasedEnds contents geo master props log → ⊥
ends_broken contents geo master props log at wrong h =
    wrong.byte (blank_behind (contents at.lnum) (geo.leb_size - wrong.prop.free) at.offs wrong.behind (h wrong.no_bud at.lnum wrong.prop wrong.has wrong.some wrong.not_all wrong.elsewhere))

pub masters_broken : OneNode → OneText → (contents : ℕ → List ℕ) (geo : RawGeometry) (latest : PlacedMaster) (at : Wrong) → ((k : ℕ) → IsBytes (contents k)) → IsMisplaced contents geo at → HasMasters contents geo latest → ⊥
masters_broken node text contents geo latest at fits wrong h =
    let same = one_latest node text (contents 1) (contents 2) latest wrong.latest (fits 1) (fits 2) h.is_latest wrong.is_latest in
    let e = sym (ap (λ (m : Master). first_past (addresses_of geo m)) same ∙ wrong.past) ∙ h.in_areas in
    absurd cc

one_of_all : (P : Found → Type 0) (before behind : List Found) (found : Found) → All P (before ++ (found ∷ behind)) → P found
one_of_all P [] behind found h = All-head P found behind h
one_of_all P (b ∷ before) behind found h = one_of_all P before behind found (All-tail P b (before ++ (found ∷ behind)) h)

pub orphans_broken : OneText → (contents : ℕ → List ℕ) (geo : RawGeometry) (at : Wrong) → ((k : ℕ) → IsBytes (contents k)) → IsNoOrphan contents geo at → HasOrphanLists contents geo → ⊥
orphans_broken text contents geo at fits wrong h =
    let own = h at.lnum wrong.low wrong.high in
    let same = text (contents at.lnum) 0 own.end wrong.end own.items wrong.items Clean wrong.tail (fits at.lnum) own.is_text wrong.is_text in
    let P : Found → Type 0 = λ found. (found.kind ≡ types.Orphans) ⊎ (found.kind ≡ types.Padding) in
    let Q : List Found → Type 0 = λ nodes. All P nodes in
    elim wrong.wrong [
      | inl (found, (before, behind, parts), no_orphan, no_padding, offs, values) ↦
          let all = subst Q (ap nodes_of same.0 ∙ parts) own.kinds in
          elim (one_of_all P before behind found all) [ inl e ↦ no_orphan e | inr e ↦ no_padding e ]
      | inr (torn, offs, values) ↦ let e = same.2 ∙ torn in absurd cc
    ]
