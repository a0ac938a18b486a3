-- Nodes are written to the log: the volume is ready for the next, and what a cut leaves on the way.
use Rattle.std.proofs.Common.{◌≡◌, ◌⊎◌, inl, inr, ℕ, zero, suc, ◌+◌, ◌<◌, ◌≤◌, List, [], ◌∷◌, length, take, refl, ap, sym, ◌∙◌, subst, arith}
use Rattle.std.specs.Prelude.{◌≢◌, fold}
use Rattle.std.proofs.lemmas.Bool.{cases_eq}
use Rattle.ubifs_base.specs.declared.raw_geometry.RawGeometry.{RawGeometry}
use Rattle.ubi_volume.specs.Volume.{VolumeState, WorksOn, WriteUnderWay}
use Rattle.ubi_volume.specs.VolumeLaws.{WriteUnderWay-only}
use Rattle.media_sys.specs.SystemNode.{SystemNode, node_type}
use Rattle.ubifs_base.specs.declared.node_type.NodeType.TheVariants as types
use Rattle.leb_scan.specs.Text.{nodes_of, IsText}
use Rattle.leb_scan.specs.declared.tail.Tail.TheVariants.{Clean}
use Rattle.bud_log.specs.Buds.{named_also, buds_of}
use Rattle.bud_log.specs.AfterCut.{IsLeftReady, lebs_to}
use Rattle.bud_log.specs.AfterCutLaws.{chain_ready, goes_lnum, lebs_same}
use Rattle.bud_log.specs.Below.{below_grown}
use Rattle.bud_log.specs.Log.{IsLogLeb, references_of}
use Rattle.bud_log.specs.LogText.{LogText}
use Rattle.bud_log.specs.Writing.{references_in, AreSpelled, IsAmong, IsOlder, IsPassedOver, last_end, IsLogReady, IsLogMeant}
use Rattle.bud_log.specs.declared.head_at.HeadAt.{HeadAt}
use Rattle.bud_log.specs.declared.log_end.LogEnd.{LogEnd}
use Rattle.bud_log.specs.LogLaws.{among_log, chain_alike, below_more, passed-later}
use Rattle.bud_log.specs.Chains.{last_among, last_first, last_more, Growth, Grows, chain_grown, references_grown, last_end_grown, among_grown, buds_behind}
use Rattle.bud_log.specs.Grown.{grown, grown_text}
use Rattle.bud_log.proofs.Parts.{part_first}
use Rattle.bud_log.specs.References.{OneSystemNode, some_references}

-- what a cut left, of which the log reads as before
pub record IsQuiet (a : VolumeState) (geo : RawGeometry) (start number past : ℕ) (all : List LogText) (x : ℕ → List ℕ) : Type 0 where
  pub read : (k : ℕ) → IsAmong k all → x k ≡ a.holds k
  pub not_read : (k : ℕ) → IsLogLeb geo k → (IsAmong k all → ⊥) → IsPassedOver start number past k (x k)

-- Of a node and others none is there; or a commit start alone; or the node, and of the others the first, so many. How many LEBs of the ring
-- the log takes then, before and with the nodes.
abbrev pub IsLeftFirst : (ℕ → List ℕ) → RawGeometry → ℕ → ℕ → ℕ → ℕ → List HeadAt → SystemNode → List SystemNode → Type 0
IsLeftFirst x geo from old new number buds node nodes =
    IsLeftReady x geo from old number buds
    ⊎ (((node_type node ≡ types.CommitStart) × IsLeftReady x geo from old (number + 1) buds)
    ⊎ ((n : ℕ) × (n ≤ length nodes) × (node_type node ≡ types.CommitStart → 0 < n) × IsLeftReady x geo from new (number + 1 + n) (fold named_also buds (references_in (node ∷ take n nodes)))))

pub quiet_ready : (a : VolumeState) (geo : RawGeometry) (from lnum offs number : ℕ) (buds : List HeadAt) (h : IsLogReady a geo from lnum offs number buds) (x : ℕ → List ℕ) → IsLogLeb geo from → IsQuiet a geo h.start number h.past (h.first ∷ h.more) x
    → IsLeftReady x geo from (lebs_to geo from lnum) number buds
quiet_ready a geo from lnum offs number buds h x f q =
    let most = lebs_to geo from lnum in
    let chain = chain_alike a.holds x geo from h.start h.past h.first h.more (λ k there. sym (q.read k there)) h.chain in
    let P : List HeadAt → Type 0 = λ bs. IsLeftReady x geo from most number bs in
    subst P (sym h.buds_are) (chain_ready x geo from h.start number h.past most h.first h.more f chain h.low h.below q.not_read (lebs_same geo from (last_end h.first.ends h.more).lnum lnum (goes_lnum geo (last_end h.first.ends h.more) lnum offs h.last)))

-- in the same LEB
first_here : (x : ℕ → List ℕ) (geo : RawGeometry) (from most number n : ℕ) (buds : List HeadAt) (node : SystemNode) (nodes : List SystemNode) → node_type node ≢ types.CommitStart → n ≤ length (node ∷ nodes)
    → IsLeftReady x geo from most (number + n) (fold named_also buds (references_in (take n (node ∷ nodes)))) → IsLeftFirst x geo from most most number buds node nodes
first_here x geo from most number zero buds node nodes other few left =
    let P : ℕ → Type 0 = λ m. IsLeftReady x geo from most m buds in
    let same : number + 0 ≡ number = omega arith in
    inl (subst P same left)
first_here x geo from most number (suc n) buds node nodes other few left =
    let P : ℕ → Type 0 = λ m. IsLeftReady x geo from most m (fold named_also buds (references_in (node ∷ take n nodes))) in
    let same : number + suc n ≡ number + 1 + n = omega arith in
    let less : suc n ≤ suc (length nodes) = few in
    inr (inr (n, omega (arith, less), (λ start. absurd (other start)), subst P same left))

-- a call on a LEB that isn't read, which leaves nothing there that would be
pub ready_works : (a b : VolumeState) (geo : RawGeometry) (from lnum offs number : ℕ) (buds : List HeadAt) (h : IsLogReady a geo from lnum offs number buds) (k : ℕ) (D : List ℕ → Type 0) → (IsAmong k (h.first ∷ h.more) → ⊥)
    → ((c : List ℕ) → IsLogLeb geo k → D c → IsOlder h.start k c) → WorksOn a b k D → IsLogReady b geo from lnum offs number buds
ready_works a b geo from lnum offs number buds h k D aside older w =
    let apart : (j : ℕ) → IsAmong j (h.first ∷ h.more) → j ≢ k = λ j there e. let P : ℕ → Type 0 = λ n. IsAmong n (h.first ∷ h.more) in aside (subst P e there) in
    record {
      start = h.start;
      first = h.first;
      more = h.more;
      past = h.past;
      chain = chain_alike a.holds b.holds geo from h.start h.past h.first h.more (λ j there. sym (w.others j (apart j there))) h.chain;
      low = h.low;
      below = h.below;
      buds_are = h.buds_are;
      last = h.last;
      settled = λ j there c left. h.settled j there c (w.others_left j c (apart j there) left) ∙ sym (w.others j (apart j there));
      spare = λ j leb is none left. elim (cases_eq j k) [
        | inl same ↦
            let P : ℕ → Type 0 = λ n. IsLogLeb geo n in
            let Q : ℕ → Type 0 = λ n. IsPassedOver h.start number h.past n leb in
            let L : ℕ → Type 0 = λ n. b.left_now n leb in
            subst Q (sym same) (inl (older leb (subst P same is) (w.left leb (subst L same left))))
        | inr other ↦ h.spare j leb is none (w.others_left j leb other left)
      ];
    }

ends_among : (first : LogText) (more : List LogText) (lnum : ℕ) → (last_end first.ends more).lnum ≡ lnum → IsAmong lnum (first ∷ more)
ends_among first [] lnum h = inl (sym h)
ends_among first (text ∷ more) lnum h =
    let P : ℕ → Type 0 = λ n. IsAmong n (text ∷ more) in
    inr (subst P h (last_among first.ends text more (last_end first.ends (text ∷ more)) refl))

-- the LEB in which the log ends is read
pub end_among : (a : VolumeState) (geo : RawGeometry) (from lnum offs number : ℕ) (buds : List HeadAt) (h : IsLogReady a geo from lnum offs number buds) → IsAmong lnum (h.first ∷ h.more)
end_among a geo from lnum offs number buds h = ends_among h.first h.more lnum (goes_lnum geo (last_end h.first.ends h.more) lnum offs h.last)

-- what was torn behind the end of the log
pub here_first : OneSystemNode → (a : VolumeState) (geo : RawGeometry) (from lnum offs number len : ℕ) (buds : List HeadAt) (node : SystemNode) (nodes : List SystemNode) (h : IsLogReady a geo from lnum offs number buds) (x : ℕ → List ℕ) → node_type node ≢ types.CommitStart → last_end h.first.ends h.more ≡ record { lnum = lnum; offs = offs; tail = Clean } → IsLogLeb geo from
    → ((c : List ℕ) → a.left_mapped lnum c → a.left_now lnum c) → AreSpelled number (node ∷ nodes) → ((k : ℕ) → IsLogLeb geo k → k ≢ lnum → a.left_now k (x k)) → WriteUnderWay a lnum offs len (x lnum) → IsLogMeant number offs (node ∷ nodes) (x lnum)
    → IsLeftFirst x geo from (lebs_to geo from lnum) (lebs_to geo from lnum) number buds node nodes
here_first one a geo from lnum offs number len buds node nodes h x other_type clean f sub spelled others here meant =
    let most = lebs_to geo from lnum in
    let there = end_among a geo from lnum offs number buds h in
    let all : List LogText = h.first ∷ h.more in
    let only = h.settled lnum there in
    let old : LogEnd = record { lnum = lnum; offs = offs; tail = Clean } in
    let ends : LogEnd = record { lnum = lnum; offs = meant.end; tail = meant.tail } in
    let not_read : (k : ℕ) → IsLogLeb geo k → (IsAmong k all → ⊥) → IsPassedOver h.start number h.past k (x k) = λ k is none. h.spare k (x k) is none (others k is (λ e. let P : ℕ → Type 0 = λ n. IsAmong n all in none (subst P (sym e) there))) in
    let in_log : (k : ℕ) → IsAmong k all → IsLogLeb geo k = λ k is. among_log a.holds geo from h.start h.past k h.first h.more f h.chain is in
    elim (WriteUnderWay-only a lnum offs len (a.holds lnum) only sub (x lnum) here) [
      | inl same ↦
          let quiet : IsQuiet a geo h.start number h.past all x = record {
            read = λ k is. elim (cases_eq k lnum) [
              | inl e ↦ let P : ℕ → Type 0 = λ n. x n ≡ a.holds n in subst P (sym e) same
              | inr ne ↦ h.settled k is (x k) (others k (in_log k is) ne)
            ];
            not_read = not_read;
          } in
          inl (quiet_ready a geo from lnum offs number buds h x f quiet)
      | inr torn ↦
          let some = some_references (x lnum) meant.items offs meant.end meant.is_text.stand in
          let part = part_first one (x lnum) (nodes_of meant.items) offs number (node ∷ nodes) some.0 spelled meant.part some.1 in
          let growth : Growth = record { before = a.holds; after = x; behind = old; nodes = nodes_of meant.items; references = some.0; ends = ends } in
          let grows : Grows growth = λ text is e.
          let E : LogEnd → Type 0 = λ z. take z.offs (a.holds lnum) ≡ take z.offs (x lnum) in
          let F : LogEnd → Type 0 = λ z. IsText (x lnum) z.offs meant.items meant.end meant.tail in
          grown (a.holds lnum) (x lnum) lnum meant.end meant.tail text meant.items some.0 is (subst E (sym e) (sym torn.front)) (sym torn.len) (subst F (sym e) meant.is_text) some.1 in
          let chain = chain_grown growth geo from h.start h.past h.first h.more f h.chain clean (λ k ne is. sym (h.settled k is (x k) (others k (in_log k is) ne))) grows in
          let g : LogText → LogText = λ t. grown_text t (nodes_of meant.items) some.0 ends in
          let same : (last_end h.first.ends h.more).lnum ≡ ends.lnum = ap (λ (e : LogEnd). e.lnum) clean in
          let low = h.low in
          let more : number ≤ number + part.0 = omega arith in
          let below = below_more number (number + part.0) (last_first g h.first h.more ∷ last_more g h.more) more (below_grown a.holds geo from h.start h.past number h.first h.more (nodes_of meant.items) some.0 ends h.chain h.below) in
          let ready = chain_ready x geo from h.start (number + part.0) h.past most (last_first g h.first h.more) (last_more g h.more) f chain (omega (arith, low)) below
          (λ k is none. passed-later h.start number (number + part.0) h.past k (x k) more (not_read k is (λ i. none ((among_grown k h.first h.more (nodes_of meant.items) some.0 ends same).1 i)))) (lebs_same geo from (last_end (last_first g h.first h.more).ends (last_more g h.more)).lnum lnum (ap (λ (e : LogEnd). e.lnum) (last_end_grown h.first h.more (nodes_of meant.items) some.0 ends))) in
          let P : List HeadAt → Type 0 = λ bs. IsLeftReady x geo from most (number + part.0) bs in
          let e : buds_of (references_of (last_first g h.first h.more ∷ last_more g h.more)) ≡ fold named_also buds (references_in (take part.0 (node ∷ nodes))) =
          ap buds_of (references_grown h.first h.more (nodes_of meant.items) some.0 ends) ∙ buds_behind (references_of all) some.0 ∙ ap (λ (b : List HeadAt). fold named_also b some.0) (sym h.buds_are) ∙ ap (fold named_also buds) part.2 in
          first_here x geo from most number part.0 buds node nodes other_type part.1 (subst P e ready)
    ]
