-- After nodes were written the volume is ready for the next ones.
use Rattle.std.proofs.Common.{◌≡◌, inl, inr, ℕ, ◌+◌, ◌<◌, ◌≤◌, Bool, true, false, List, [], ◌∷◌, ◌++◌, Option, Some, length, take, refl, ap, sym, ◌∙◌, subst, arith, append-nil}
use Rattle.std.specs.Prelude.{◌≢◌, if◌then◌else◌, fold}
use Rattle.std.proofs.lemmas.Bool.{cases_eq, cases_Bool, lt-ltb, le-ltb}
use Rattle.ubifs_base.specs.declared.raw_geometry.RawGeometry.{RawGeometry}
use Rattle.ubi_volume.specs.Volume.{VolumeState, put, WorksOn, IsWritten, WriteUnderWay}
use Rattle.media_sys.specs.SystemNode.{SystemNode, commit_start, node_type}
use Rattle.media_sys.specs.declared.commit_start.CommitStart.{CommitStart}
use Rattle.ubifs_base.specs.declared.node_type.NodeType.TheVariants as types
use Rattle.leb_scan.specs.Text.{nodes_of, IsText}
use Rattle.leb_scan.specs.declared.found.Found.{Found}
use Rattle.leb_scan.specs.declared.tail.Tail.TheVariants.{Clean}
use Rattle.bud_log.specs.Buds.{named_also, buds_of}
use Rattle.bud_log.specs.Log.{IsLogLeb, next_leb, references_of, log_end_of}
use Rattle.bud_log.specs.LogCalls.{IsLebBegun}
use Rattle.bud_log.specs.LogText.{LogText, IsLogTextOf, IsStartAt, at_start, begins_with, start_of, BeginsCommit, StartsCommit, is_later, is_start_alone}
use Rattle.bud_log.specs.Writing.{references_in, IsAmong, IsPassedOver, AreOthersOlder, AreSpelled, last_end, IsLogReady, IsLogMeant}
use Rattle.bud_log.specs.declared.head_at.HeadAt.{HeadAt}
use Rattle.bud_log.specs.declared.log_end.LogEnd.{LogEnd}
use Rattle.bud_log.specs.LogLaws.{among_log, below_more, chain_alike, older_more, passed-later}
use Rattle.bud_log.proofs.Appended.{IsQuiet, IsLeftFirst, quiet_ready, end_among}
use Rattle.bud_log.specs.AfterCut.{IsLeftReady, lebs_to}
use Rattle.bud_log.specs.AfterCutLaws.{older_ready, chain_ready, goes_lnum, lebs_same}
use Rattle.bud_log.specs.RingRuns.{last_end_of, end_then}
use Rattle.bud_log.specs.Chains.{past_free, chain_more, last_first, last_more, Growth, Grows, chain_grown, references_grown, last_end_grown, among_grown, buds_behind, references_added, last_end_added, among_added}
use Rattle.bud_log.specs.Grown.{grown, grown_text}
use Rattle.bud_log.proofs.Laid.{AreLaid, FirstStands}
use Rattle.bud_log.specs.LogAnswers.{StartsWith}
use Rattle.bud_log.specs.Below.{below_last, below_grown}
use Rattle.bud_log.proofs.Parts.{FirstIs, part_begins}
use Rattle.bud_log.specs.References.{OneSystemNode, some_references}

-- nodes behind the end of the log
pub ready_here : (a b : VolumeState) (geo : RawGeometry) (from lnum offs number next end len : ℕ) (buds : List HeadAt) (nodes : List SystemNode) (bytes : List ℕ) (h : IsLogReady a geo from lnum offs number buds) → last_end h.first.ends h.more ≡ record { lnum = lnum; offs = offs; tail = Clean } → IsLogLeb geo from
    → ((c : List ℕ) → a.left_mapped lnum c → a.left_now lnum c) → number ≤ next → IsWritten a b lnum offs bytes → WorksOn a b lnum (WriteUnderWay a lnum offs len) → take offs (a.holds lnum) ≡ take offs (b.holds lnum)
    → length (a.holds lnum) ≡ length (b.holds lnum) → AreLaid (b.holds lnum) offs end number nodes → IsLogReady b geo from lnum end next (fold named_also buds (references_in nodes))
ready_here a b geo from lnum offs number next end len buds nodes bytes h clean f sub later w works front long laid =
    let there = end_among a geo from lnum offs number buds h in
    let all : List LogText = h.first ∷ h.more in
    let only = h.settled lnum there in
    let old : LogEnd = record { lnum = lnum; offs = offs; tail = Clean } in
    let ends : LogEnd = record { lnum = lnum; offs = end; tail = Clean } in
    let found = nodes_of laid.items in
    let references = references_in nodes in
    let growth : Growth = record { before = a.holds; after = b.holds; behind = old; nodes = found; references = references; ends = ends } in
    let grows : Grows growth = λ text is e.
    let E : LogEnd → Type 0 = λ z. take z.offs (a.holds lnum) ≡ take z.offs (b.holds lnum) in
    let F : LogEnd → Type 0 = λ z. IsText (b.holds lnum) z.offs laid.items end Clean in
    grown (a.holds lnum) (b.holds lnum) lnum end Clean text laid.items references is (subst E (sym e) front) long (subst F (sym e) laid.is_text) laid.refer in
    let g : LogText → LogText = λ t. grown_text t found references ends in
    let same : (last_end h.first.ends h.more).lnum ≡ ends.lnum = ap (λ (e : LogEnd). e.lnum) clean in
    let low = h.low in
    record {
      start = h.start;
      first = last_first g h.first h.more;
      more = last_more g h.more;
      past = h.past;
      chain = chain_grown growth geo from h.start h.past h.first h.more f h.chain clean (λ k ne is. sym (works.others k ne)) grows;
      low = omega (arith, low, later);
      below = below_more number next (last_first g h.first h.more ∷ last_more g h.more) later (below_grown a.holds geo from h.start h.past number h.first h.more found references ends h.chain h.below);
      buds_are = ap (λ (bs : List HeadAt). fold named_also bs references) h.buds_are ∙ sym (buds_behind (references_of all) references) ∙ ap buds_of (sym (references_grown h.first h.more found references ends));
      last = inl (last_end_grown h.first h.more found references ends);
      settled = λ k is c left. elim (cases_eq k lnum) [
        | inl e ↦
            let L : ℕ → Type 0 = λ n. b.left_now n c in
            let H : ℕ → Type 0 = λ n. c ≡ b.holds n in
            let d = w.left c (subst L e left) in
            subst H (sym e) (d.2 ∙ ap (put offs bytes) (only d.0 (sub d.0 d.1)) ∙ sym w.holds)
        | inr ne ↦ h.settled k ((among_grown k h.first h.more found references ends same).0 is) c (works.others_left k c ne left) ∙ sym (works.others k ne)
      ];
      spare = λ k leb is none left.
          let old_none : IsAmong k all → ⊥ = λ i. none ((among_grown k h.first h.more found references ends same).1 i) in
          let ne : k ≢ lnum = λ e. let P : ℕ → Type 0 = λ n. IsAmong n all in old_none (subst P (sym e) there) in
          passed-later h.start number next h.past k leb later (h.spare k leb is old_none (works.others_left k leb ne left));
    }

later_first : (start number place : ℕ) (nodes : List SystemNode) (node : SystemNode) (found : List Found) → FirstIs 0 number (node ∷ nodes) found → start ≤ number → is_later start (begins_with found) ≡ true
later_first start number place nodes node [] first low = absurd cc
later_first start number place nodes node (f ∷ found) (g, e, offs, sqnum, kind) low =
    let same : f ≡ g = cc in
    let o : f.offs ≡ 0 = ap (λ (x : Found). x.offs) same ∙ offs in
    let s : f.sqnum ≡ number + 1 = ap (λ (x : Found). x.sqnum) same ∙ sqnum in
    rw o (lt-ltb start f.sqnum (omega (arith, s, low)))

-- the text that was laid at the start of a LEB
pub laid_text : (leb : List ℕ) (lnum end number : ℕ) (nodes : List SystemNode) (h : AreLaid leb 0 end number nodes)
    → IsLogTextOf leb lnum (record { nodes = nodes_of h.items; references = references_in nodes; ends = record { lnum = lnum; offs = end; tail = Clean } })
laid_text leb lnum end number nodes h = record { items = h.items; is_text = h.is_text; here = refl; nodes = refl; refer = h.refer }

among_old : (k : ℕ) (first : LogText) (more : List LogText) (text : LogText) (past : ℕ) → k ≢ past → text.ends.lnum ≡ past → IsAmong k (first ∷ (more ++ text ∷ [])) → IsAmong k (first ∷ more)
among_old k first more text past ne e (inl same) = inl same
among_old k first more text past ne e (inr there) = elim ((among_added k more text).0 there) [ inl old ↦ inr old | inr same ↦ absurd (ne (same ∙ e)) ]

among_new : (k : ℕ) (first : LogText) (more : List LogText) (text : LogText) → IsAmong k (first ∷ more) → IsAmong k (first ∷ (more ++ text ∷ []))
among_new k first more text (inl same) = inl same
among_new k first more text (inr there) = inr ((among_added k more text).1 (inl there))

-- it begins with the first number, and not with one above it
not_above : (next number : ℕ) (nodes : List SystemNode) (node : SystemNode) (found : List Found) → FirstIs 0 number (node ∷ nodes) found → number < next → is_later next (begins_with found) ≡ false
not_above next number nodes node [] first low = refl
not_above next number nodes node (f ∷ found) (g, e, offs, sqnum, kind) low =
    let same : f ≡ g = cc in
    let o : f.offs ≡ 0 = ap (λ (x : Found). x.offs) same ∙ offs in
    let s : f.sqnum ≡ number + 1 = ap (λ (x : Found). x.sqnum) same ∙ sqnum in
    rw o (le-ltb next f.sqnum (omega (arith, s, low)))

-- a LEB that begins with a commit start of the first number
starts_there : (number : ℕ) (nodes : List SystemNode) (start : CommitStart) (found : List Found) → FirstIs 0 number (commit_start start ∷ nodes) found → start_of (begins_with found) ≡ Some (number + 1)
starts_there number nodes start [] first = absurd cc
starts_there number nodes start (f ∷ found) (g, e, offs, sqnum, kind) =
    let same : f ≡ g = cc in
    let o : f.offs ≡ 0 = ap (λ (x : Found). x.offs) same ∙ offs in
    let s : f.sqnum ≡ number + 1 = ap (λ (x : Found). x.sqnum) same ∙ sqnum in
    let k : f.kind ≡ types.CommitStart = ap (λ (x : Found). x.kind) same ∙ kind in
    rw (o, k, s) refl

-- and the commit is told by it
begins_commit : (leb : List ℕ) (number : ℕ) (nodes : List SystemNode) (start : CommitStart) (found : List Found) → FirstIs 0 number (commit_start start ∷ nodes) found → FirstStands leb (commit_start start ∷ nodes) found
    → BeginsCommit leb (begins_with found) (Some start.cmt_no)
begins_commit leb number nodes start [] first stands = absurd cc
begins_commit leb number nodes start (f ∷ found) (g, e, offs, sqnum, kind) (j, d, is) =
    let same : f ≡ g = cc in
    let again : f ≡ j = cc in
    let o : f.offs ≡ 0 = ap (λ (x : Found). x.offs) same ∙ offs in
    let k : f.kind ≡ types.CommitStart = ap (λ (x : Found). x.kind) same ∙ kind in
    let P : Found → Type 0 = λ x. IsStartAt leb x start in
    let at : at_start (Some f) ≡ Some f = rw o refl in
    let Q : Option Found → Type 0 = λ x. BeginsCommit leb x (Some start.cmt_no) in
    subst Q (sym at) (inr (k, start, subst P (sym again) is, refl))

pub starts_commit : (leb : List ℕ) (lnum end number : ℕ) (nodes : List SystemNode) (start : CommitStart) → AreLaid leb 0 end number (commit_start start ∷ nodes) → StartsCommit leb lnum start.cmt_no
starts_commit leb lnum end number nodes start laid = (
  record { nodes = nodes_of laid.items; references = references_in (commit_start start ∷ nodes); ends = record { lnum = lnum; offs = end; tail = Clean } },
  laid_text leb lnum end number (commit_start start ∷ nodes) laid,
  begins_commit leb number nodes start (nodes_of laid.items) laid.first laid.stands,
)

-- with the first number
pub starts_with : (leb : List ℕ) (lnum end number : ℕ) (nodes : List SystemNode) (start : CommitStart) → AreLaid leb 0 end number (commit_start start ∷ nodes) → StartsWith leb lnum (number + 1)
starts_with leb lnum end number nodes start laid = (
  record { nodes = nodes_of laid.items; references = references_in (commit_start start ∷ nodes); ends = record { lnum = lnum; offs = end; tail = Clean } },
  laid_text leb lnum end number (commit_start start ∷ nodes) laid,
  starts_there number nodes start (nodes_of laid.items) laid.first,
)

-- nodes at the start of the next LEB, which was unmapped
pub ready_next : (a b : VolumeState) (geo : RawGeometry) (from lnum offs number next end : ℕ) (buds : List HeadAt) (node : SystemNode) (nodes : List SystemNode) (bytes : List ℕ) (D : List ℕ → Type 0) (h : IsLogReady a geo from lnum offs number buds) → IsLogLeb geo from
    → h.past ≢ from → number < next → IsLebBegun a b h.past bytes → WorksOn a b h.past D → AreLaid (b.holds h.past) 0 end number (node ∷ nodes) → IsLogReady b geo from h.past end next (fold named_also buds (references_in (node ∷ nodes)))
ready_next a b geo from lnum offs number next end buds node nodes bytes D h f ne later w works laid =
    let all : List LogText = h.first ∷ h.more in
    let past = h.past in
    let references = references_in (node ∷ nodes) in
    let text : LogText = record { nodes = nodes_of laid.items; references = references; ends = record { lnum = past; offs = end; tail = Clean } } in
    let free = past_free a.holds geo from h.start past h.first h.more f h.chain ne in
    let apart : (k : ℕ) → IsAmong k all → k ≢ past = λ k is e. let P : ℕ → Type 0 = λ n. IsAmong n all in free (subst P e is) in
    let low = h.low in
    let more : number ≤ next = omega (arith, later) in
    let old = chain_alike a.holds b.holds geo from h.start past h.first h.more (λ k is. sym (works.others k (apart k is))) h.chain in
    record {
      start = h.start;
      first = h.first;
      more = h.more ++ text ∷ [];
      past = next_leb geo past;
      chain = chain_more b.holds geo from h.start past h.first h.more text old ne (laid_text (b.holds past) past end number (node ∷ nodes) laid) (later_first h.start number 0 nodes node (nodes_of laid.items) laid.first low);
      low = omega (arith, low, later);
      below = below_last next all text (below_more number next all more h.below) (not_above next number nodes node (nodes_of laid.items) laid.first later);
      buds_are = ap (λ (bs : List HeadAt). fold named_also bs references) h.buds_are ∙ sym (buds_behind (references_of all) references) ∙ ap buds_of (sym (references_added h.first h.more text));
      last = inl (last_end_added h.first.ends h.more text);
      settled = λ k is c left. elim (cases_eq k past) [
        | inl e ↦
            let L : ℕ → Type 0 = λ n. b.left_now n c in
            let H : ℕ → Type 0 = λ n. c ≡ b.holds n in
            subst H (sym e) (w.left c (subst L e left) ∙ sym w.holds)
        | inr other ↦ h.settled k (among_old k h.first h.more text past other refl is) c (works.others_left k c other left) ∙ sym (works.others k other)
      ];
      spare = λ k leb is none left.
          let other : k ≢ past = λ e. none (inr ((among_added k h.more text).1 (inr e))) in
          elim (h.spare k leb is (λ i. none (among_new k h.first h.more text i)) (works.others_left k leb other left)) [ inl older ↦ inl older | inr lone ↦ absurd (other lone.0) ];
    }

-- a commit start and nodes behind it at the start of a LEB: the log that is read from there on
pub ready_section : (a b : VolumeState) (geo : RawGeometry) (number next end there : ℕ) (start : CommitStart) (nodes : List SystemNode) (bytes : List ℕ) (D : List ℕ → Type 0) → AreOthersOlder a geo there number → number < next → IsLebBegun a b there bytes → WorksOn a b there D → AreLaid (b.holds there) 0 end number (commit_start start ∷ nodes) → IsLogReady b geo there there end next (buds_of (references_in (commit_start start ∷ nodes)))
ready_section a b geo number next end there start nodes bytes D older later w works laid =
    let references = references_in (commit_start start ∷ nodes) in
    let text : LogText = record { nodes = nodes_of laid.items; references = references; ends = record { lnum = there; offs = end; tail = Clean } } in
    record {
      start = number + 1;
      first = text;
      more = [];
      past = next_leb geo there;
      chain = record { is_first = laid_text (b.holds there) there end number (commit_start start ∷ nodes) laid; starts = starts_there number nodes start (nodes_of laid.items) laid.first; run = refl };
      low = omega (arith, later);
      below = (not_above next number nodes (commit_start start) (nodes_of laid.items) laid.first later, tt);
      buds_are = ap buds_of (sym (append-nil references));
      last = inl refl;
      settled = λ k among c left.
          let e : k ≡ there = elim among [ inl same ↦ same | inr none ↦ absurd none ] in
          let L : ℕ → Type 0 = λ n. b.left_now n c in
          let H : ℕ → Type 0 = λ n. c ≡ b.holds n in
          subst H (sym e) (w.left c (subst L e left) ∙ sym w.holds);
      spare = λ k leb in_log none left.
          let other : k ≢ there = λ e. none (inl e) in
          inl (older_more number (number + 1) k leb (omega arith) (older k leb in_log other (works.others_left k leb other left)));
    }

-- what was torn at the start of the next LEB
pub next_first : OneSystemNode → (a : VolumeState) (geo : RawGeometry) (from lnum offs number : ℕ) (buds : List HeadAt) (node : SystemNode) (nodes : List SystemNode) (h : IsLogReady a geo from lnum offs number buds) (x : ℕ → List ℕ) → IsLogLeb geo from → h.past ≢ from
    → AreSpelled number (node ∷ nodes) → ((k : ℕ) → IsLogLeb geo k → k ≢ h.past → a.left_now k (x k)) → IsLogMeant number 0 (node ∷ nodes) (x h.past) → IsLeftFirst x geo from (lebs_to geo from lnum) (lebs_to geo from h.past) number buds node nodes
next_first one a geo from lnum offs number buds node nodes h x f ne spelled others meant =
    let all : List LogText = h.first ∷ h.more in
    let past = h.past in
    let free = past_free a.holds geo from h.start past h.first h.more f h.chain ne in
    let apart : (k : ℕ) → IsAmong k all → k ≢ past = λ k is e. let P : ℕ → Type 0 = λ n. IsAmong n all in free (subst P e is) in
    let in_log : (k : ℕ) → IsAmong k all → IsLogLeb geo k = λ k is. among_log a.holds geo from h.start past k h.first h.more f h.chain is in
    let found = nodes_of meant.items in
    let some = some_references (x past) meant.items 0 meant.end meant.is_text.stand in
    let text : LogText = record { nodes = found; references = some.0; ends = record { lnum = past; offs = meant.end; tail = meant.tail } } in
    let is_text : IsLogTextOf (x past) past text = record { items = meant.items; is_text = meant.is_text; here = refl; nodes = refl; refer = some.1 } in
    elim (part_begins one (x past) found 0 number node nodes some.0 spelled meant.part some.1) [
      | inl none ↦
          let not_later : is_later h.start (begins_with text.nodes) ≡ false = ap (λ (n : List Found). is_later h.start (begins_with n)) none in
          let quiet : IsQuiet a geo h.start number h.past all x = record {
            read = λ k is. h.settled k is (x k) (others k (in_log k is) (apart k is));
            not_read = λ k is free_of. elim (cases_eq k past) [
              | inl e ↦ let Q : ℕ → Type 0 = λ n. IsPassedOver h.start number h.past n (x n) in subst Q (sym e) (inl (text, is_text, not_later))
              | inr other ↦ h.spare k (x k) is free_of (others k is other)
            ];
          } in
          inl (quiet_ready a geo from lnum offs number buds h x f quiet)
      | inr (first, start_only, behind) ↦
          let n = behind.0 in
          let few = behind.1 in
          let refs = behind.2 in
          let alone_if = behind.3 in
          let low = h.low in
          let old = chain_alike a.holds x geo from h.start past h.first h.more (λ k is. sym (h.settled k is (x k) (others k (in_log k is) (apart k is)))) h.chain in
          elim (cases_Bool (is_start_alone found)) [
            | inl alone ↦
                let next : ℕ = number + 1 in
                let more : number ≤ next = omega arith in
                let less : number < next = omega arith in
                let most = lebs_to geo from lnum in
                let P : List HeadAt → Type 0 = λ bs. IsLeftReady x geo from most next bs in
                let passed : (k : ℕ) → IsLogLeb geo k → (IsAmong k all → ⊥) → IsPassedOver h.start next past k (x k) = λ k is none. elim (cases_eq k past) [
                  | inl e ↦ let Q : ℕ → Type 0 = λ m. IsPassedOver h.start next past m (x m) in subst Q (sym e) (inr (refl, text, is_text, alone, not_above next number nodes node found first less))
                  | inr other ↦ passed-later h.start number next past k (x k) more (h.spare k (x k) is none (others k is other))
                ] in
                let near = lebs_same geo from (last_end h.first.ends h.more).lnum lnum (goes_lnum geo (last_end h.first.ends h.more) lnum offs h.last) in
                inr (inl (start_only alone, subst P (sym h.buds_are) (chain_ready x geo from h.start next past most h.first h.more f old (omega (arith, low)) (below_more number next all more h.below) passed near)))
            | inr other_text ↦
                let next : ℕ = number + 1 + n in
                let less : number < next = omega arith in
                let more : number ≤ next = omega arith in
                let most = lebs_to geo from past in
                let chain = chain_more x geo from h.start past h.first h.more text old ne is_text (later_first h.start number 0 nodes node found first low) in
                let below = below_last next all text (below_more number next all more h.below) (not_above next number nodes node found first less) in
                let E : Bool → Type 0 = λ b. (if b then last_end_of h.first.ends h.more else text.ends).lnum ≡ past in
                let end : (log_end_of h.first.ends (h.more ++ text ∷ [])).lnum ≡ past = ap (λ (z : LogEnd). z.lnum) (end_then h.first.ends h.more text) ∙ subst E (sym other_text) refl in
                let ready = older_ready x geo from h.start next (next_leb geo past) most h.first (h.more ++ text ∷ []) f chain (omega (arith, low)) below (λ k is none.
                let other : k ≢ past = λ e. none (inr ((among_added k h.more text).1 (inr e))) in
                elim (h.spare k (x k) is (λ i. none (among_new k h.first h.more text i)) (others k is other)) [ inl older ↦ older | inr lone ↦ absurd (other lone.0) ])
                (lebs_same geo from (log_end_of h.first.ends (h.more ++ text ∷ [])).lnum past end) in
                let P : List HeadAt → Type 0 = λ bs. IsLeftReady x geo from most next bs in
                let e : buds_of (references_of (h.first ∷ (h.more ++ text ∷ []))) ≡ fold named_also buds (references_in (node ∷ take n nodes)) =
                ap buds_of (references_added h.first h.more text) ∙ buds_behind (references_of all) some.0 ∙ ap (λ (b : List HeadAt). fold named_also b some.0) (sym h.buds_are) ∙ ap (fold named_also buds) refs in
                let some_behind : node_type node ≡ types.CommitStart → 0 < n = λ start. elim (cases_eq n 0) [ inl none ↦ (let alone = alone_if none start in absurd cc) | inr positive ↦ omega (arith, positive) ] in
                inr (inr (n, few, some_behind, subst P e ready))
          ]
    ]
