-- A log to which the start of a commit alone was written.
use Rattle.std.proofs.Common.{◌≡◌, ℕ, ◌+◌, ◌^◌, ◌<◌, ◌≤◌, nat_lt, cond, Bool, true, false, List, [], ◌∷◌, length, refl, sym, subst, inl, inr, arith}
use Rattle.std.specs.Prelude.{◌≢◌, All}
use Rattle.std.proofs.lemmas.Bool.{leb-true, ltb-false, ltb-true}
use Rattle.std.proofs.lemmas.List.Elements.{All-head, All-tail}
use Rattle.ubifs_base.specs.Areas.{lpt_first}
use Rattle.ubifs_base.specs.declared.raw_geometry.RawGeometry.{RawGeometry}
use Rattle.node_fields.specs.FormLaws.{written_is}
use Rattle.media_sys.specs.SystemNode.{IsSystemNode, commit_start, system_form, written}
use Rattle.media_sys.specs.declared.commit_start.CommitStart.{CommitStart}
use Rattle.media_sys.specs.declared.master.Master.{Master}
use Rattle.leb_scan.specs.Gaps.{IsPadding, gap_items, gap_padding_alone}
use Rattle.leb_scan.specs.Text.{nodes_of}
use Rattle.leb_scan.specs.declared.found.Found.{Found}
use Rattle.leb_scan.specs.declared.tail.Tail.TheVariants.{Clean}
use Rattle.bud_log.specs.Log.{IsLogLeb, next_leb, references_of}
use Rattle.bud_log.specs.LogText.{LogText, IsLogTextOf, Refer}
use Rattle.bud_log.specs.LogLaws.{blank-older, next_in}
use Rattle.sound_image.specs.Laid.{BeginsAlone, IsFreshLog}
use Rattle.sound_image.specs.Log.{HasLog}
use Rattle.sound_image.proofs.AloneTexts.{alone_bytes, alone_items, alone_text}

-- a commit start in its one spelling
pub start_is : (sqnum cmt_no : ℕ) → sqnum < 2 ^ 64 → cmt_no < 2 ^ 64 → IsSystemNode (written sqnum 0 (commit_start (record { cmt_no = cmt_no }))) sqnum 0 (commit_start (record { cmt_no = cmt_no }))
start_is sqnum cmt_no sq fits =
    let word : cmt_no < 256 ^ 8 = omega (arith, fits) in
    written_is system_form sqnum 0 (commit_start (record { cmt_no = cmt_no })) sq (leb-true 0 2 refl) (ltb-true 10 256 refl) (word, tt) (ltb-true (24 + 8 + 0) (2 ^ 32) refl) tt

-- padding refers to nothing
refer_padding : (leb : List ℕ) (nodes : List Found) → All IsPadding nodes → Refer leb nodes []
refer_padding leb [] h = refl
refer_padding leb (found ∷ nodes) h = let kind = All-head IsPadding found nodes h in inl (λ e. absurd cc, refer_padding leb nodes (All-tail IsPadding found nodes h))

-- the text of its LEB
abbrev pub start_text : ℕ → List ℕ → ℕ → ℕ → ℕ → LogText
start_text from bytes sqnum cmt_no gap = record {
  nodes = nodes_of (alone_items bytes sqnum 0 (commit_start (record { cmt_no = cmt_no })) gap);
  references = [];
  ends = record { lnum = from; offs = length bytes + gap; tail = Clean };
}

is_start_text : (leb bytes : List ℕ) (from sqnum cmt_no : ℕ) (h : BeginsAlone leb bytes) → IsSystemNode bytes sqnum 0 (commit_start (record { cmt_no = cmt_no })) → IsLogTextOf leb from (start_text from bytes sqnum cmt_no h.gap)
is_start_text leb bytes from sqnum cmt_no h is = record {
  items = alone_items bytes sqnum 0 (commit_start (record { cmt_no = cmt_no })) h.gap;
  is_text = alone_text leb bytes sqnum 0 (commit_start (record { cmt_no = cmt_no })) h is (λ e. absurd cc);
  here = refl;
  nodes = refl;
  refer = inl (λ e. absurd cc, refer_padding leb (nodes_of (gap_items (length bytes) h.gap)) (gap_padding_alone (length bytes) h.gap));
}

-- the next LEB of the ring is another
next_by : (geo : RawGeometry) (from : ℕ) (more : Bool) → IsLogLeb geo from → 3 ≤ geo.log_lebs → nat_lt (from + 1) (lpt_first geo) ≡ more → cond more (from + 1) 3 ≡ from → ⊥
next_by geo from true is lebs e same = omega (arith, same)
next_by geo from false is lebs e same = let high = ltb-false (from + 1) (lpt_first geo) e in omega (arith, same, high, lebs)

next_other : (geo : RawGeometry) (from : ℕ) → IsLogLeb geo from → 3 ≤ geo.log_lebs → next_leb geo from ≢ from
next_other geo from is lebs = next_by geo from (nat_lt (from + 1) (lpt_first geo)) is lebs refl

pub has_fresh_log : (contents : ℕ → List ℕ) (geo : RawGeometry) (master : Master) (sqnum : ℕ) → 3 ≤ geo.log_lebs → sqnum < 2 ^ 64 → master.cmt_no < 2 ^ 64
    → (h : IsFreshLog contents geo master.log_lnum sqnum master.cmt_no)
    → HasLog contents geo master (start_text master.log_lnum (written sqnum 0 (commit_start (record { cmt_no = master.cmt_no }))) sqnum master.cmt_no h.start.gap ∷ [])
has_fresh_log contents geo master sqnum lebs sq fits h =
    let from : ℕ = master.log_lnum in
    let start : CommitStart = record { cmt_no = master.cmt_no } in
    let bytes : List ℕ = written sqnum 0 (commit_start start) in
    let is = start_is sqnum master.cmt_no sq fits in
    let past : ℕ = next_leb geo from in
    let P : List ℕ → Type 0 = λ b. IsSystemNode b sqnum 0 (commit_start start) in
    record {
      first = start_text from bytes sqnum master.cmt_no h.start.gap;
      more = [];
      whole = refl;
      start = sqnum;
      past = past;
      chain = record { is_first = is_start_text (contents from) bytes from sqnum master.cmt_no h.start is; starts = refl; run = refl };
      stops = inr (blank-older sqnum past (contents past) (h.blank past (next_in geo from h.in_log) (next_other geo from h.in_log lebs)));
      commit = inr (refl, start, subst P (sym (alone_bytes (contents from) bytes h.start)) is, refl);
      named = tt;
      torn = tt;
      spare = inl (omega (arith, lebs));
      older = λ lnum is_log none. blank-older sqnum lnum (contents lnum) (h.blank lnum is_log (λ e. none (inl e)));
    }

pub fresh_log : (contents : ℕ → List ℕ) (geo : RawGeometry) (master : Master) (sqnum : ℕ) → 3 ≤ geo.log_lebs → sqnum < 2 ^ 64 → master.cmt_no < 2 ^ 64
    → IsFreshLog contents geo master.log_lnum sqnum master.cmt_no → (texts : List LogText) × (length texts ≡ 1) × (references_of texts ≡ []) × HasLog contents geo master texts
fresh_log contents geo master sqnum lebs sq fits h =
    let text : LogText = start_text master.log_lnum (written sqnum 0 (commit_start (record { cmt_no = master.cmt_no }))) sqnum master.cmt_no h.start.gap in
    (text ∷ [], refl, refl, has_fresh_log contents geo master sqnum lebs sq fits h)
