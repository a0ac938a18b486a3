-- Laws of what a power cut leaves of a log.
use Rattle.std.proofs.Common.{◌≡◌, ◌⊎◌, inl, inr, ℕ, ◌+◌, ◌-◌, ◌%◌, ◌<◌, ◌≤◌, nat_le, Bool, true, false, max, List, [], ◌∷◌, ◌++◌, Option, Some, None, refl, ap, sym, ◌∙◌, subst, arith, append-nil}
use Rattle.std.specs.Prelude.{◌≢◌, ◌==◌, if◌then◌else◌, IsTrue, IsFalse, fold}
use Rattle.std.proofs.lemmas.Bool.{cases_eq, cases_Bool, lt-leb, ltb-false, le-ltb}
use Rattle.std.proofs.Math.Nat.{mod-lt, le-max_left, le-max_right}
use Rattle.std.proofs.lemmas.Nat.{div-add-mod'}
use Rattle.ubifs_base.specs.Areas.{lpt_first}
use Rattle.ubifs_base.specs.Geometry.{IsGeometry}
use Rattle.ubifs_base.specs.NodeType.{type_number}
use Rattle.ubifs_base.specs.declared.node_type.NodeType.TheVariants as types
use Rattle.ubifs_base.specs.declared.raw_geometry.RawGeometry.{RawGeometry}
use Rattle.ubi_volume.specs.Volume.{VolumeState, Only}
use Rattle.ubi_volume.specs.Frame.{IsSameLeb}
use Rattle.ubi_volume.specs.Loading.{IsFound, IsWrittenPart}
use Rattle.ubi_volume.specs.MemVolume.{without_fail}
use Rattle.media_sys.specs.declared.ref_node.RefNode.{RefNode}
use Rattle.leb_scan.specs.declared.found.Found.{Found}
use Rattle.leb_scan.specs.declared.tail.Tail.{Tail}
use Rattle.leb_scan.specs.declared.tail.Tail.TheVariants.{Clean, Torn}
use Rattle.bud_log.specs.AfterCut.{IsReadyIn, IsLeftReady, IsFoundLog, IsHeldLog, IsOpenBehind, IsToldEnd, IsSettledOrOlder, lebs_to}
use Rattle.bud_log.specs.Below.{below_last}
use Rattle.bud_log.specs.Buds.{buds_of}
use Rattle.bud_log.specs.Chains.{past_free, chain_past, chain_more, among_added, references_added}
use Rattle.bud_log.specs.Log.{Log, IsLog, IsLogLeb, next_leb, Run, Stops, AreFurther, references_of, greatest_of, log_end_of}
use Rattle.bud_log.specs.LogAt.{LogAt, IsAt, padded_room_of, steps_to}
use Rattle.bud_log.specs.LogLaws.{further_same, among_log, among_or, chain_alike, below_more}
use Rattle.bud_log.specs.LogText.{LogText, IsLogTextOf, begins_with, start_of, BeginsCommit, is_later, greatest_found, is_start_alone, IsLoneStart}
use Rattle.bud_log.specs.References.{text_begins, some_commit, lone_references}
use Rattle.bud_log.specs.RingSteps.{end_near, end_alone}
use Rattle.bud_log.specs.Writing.{IsAmong, IsOlder, IsPassedOver, AreBelow, last_end, IsChain, offs_behind, GoesOn, IsLogReady}
use Rattle.bud_log.specs.declared.head_at.HeadAt.{HeadAt}
use Rattle.bud_log.specs.declared.log_end.LogEnd.{LogEnd}

-- texts that are read are a log, where all other LEBs are older
pub older_ready : (x : ℕ → List ℕ) (geo : RawGeometry) (from start number past most : ℕ) (first : LogText) (more : List LogText) → IsLogLeb geo from → IsChain x geo from start first more past → start ≤ number → AreBelow number (first ∷ more)
    → ((k : ℕ) → IsLogLeb geo k → (IsAmong k (first ∷ more) → ⊥) → IsOlder start k (x k)) → steps_to geo from (log_end_of first.ends more).lnum + 1 ≤ most → IsLeftReady x geo from most number (buds_of (references_of (first ∷ more)))
older_ready x geo from start number past most first more f h low below older near =
    let P : Option ℕ → Type 0 = λ o. AreFurther x geo from o more in
    let commit = some_commit (x from) (begins_with first.nodes) (text_begins (x from) from first h.is_first) in
    let stops : Stops x from start past = elim (cases_eq past from) [ inl same ↦ inl same | inr ne ↦ inr (older past (chain_past x geo from start past first more f h) (past_free x geo from start past first more f h ne)) ] in
    let log : Log = record { commit = commit.0; buds = buds_of (references_of (first ∷ more)); sqnum = greatest_of 0 (first ∷ more); ends = log_end_of first.ends more } in
    let is_log : IsLog x geo from log = record { first = first; more = more; is_first = h.is_first; commit = commit.1; are_further = subst P (sym h.starts) (past, h.run, stops); buds = refl; sqnum = refl; ends = refl } in
    (log, record { is_log = is_log; start = start; starts = h.starts; low = low; below = below; spare = older }, refl, near)

-- where the LEB behind them is older
past_ready : (x : ℕ → List ℕ) (geo : RawGeometry) (from start number past most : ℕ) (first : LogText) (more : List LogText) → IsLogLeb geo from → IsChain x geo from start first more past → start ≤ number → AreBelow number (first ∷ more)
    → ((k : ℕ) → IsLogLeb geo k → (IsAmong k (first ∷ more) → ⊥) → IsPassedOver start number past k (x k)) → IsOlder start past (x past) → steps_to geo from (log_end_of first.ends more).lnum + 1 ≤ most → IsLeftReady x geo from most number (buds_of (references_of (first ∷ more)))
past_ready x geo from start number past most first more f h low below passed older near =
    let P : ℕ → Type 0 = λ n. IsOlder start n (x n) in
    older_ready x geo from start number past most first more f h low below (λ k is none. elim (passed k is none) [ inl old ↦ old | inr lone ↦ subst P (sym lone.0) older ]) near

-- where it has a commit start alone, which is read, and names no bud
lone_ready : (x : ℕ → List ℕ) (geo : RawGeometry) (from start number past most : ℕ) (first : LogText) (more : List LogText) (text : LogText) → IsLogLeb geo from → IsChain x geo from start first more past → start ≤ number → AreBelow number (first ∷ more)
    → ((k : ℕ) → IsLogLeb geo k → (IsAmong k (first ∷ more) → ⊥) → IsPassedOver start number past k (x k)) → past ≢ from → IsLogTextOf (x past) past text → IsTrue (is_start_alone text.nodes) → IsFalse (is_later number (begins_with text.nodes)) → IsTrue (is_later start (begins_with text.nodes))
    → steps_to geo from (last_end first.ends more).lnum + 1 ≤ most → IsLeftReady x geo from most number (buds_of (references_of (first ∷ more)))
lone_ready x geo from start number past most first more text f h low below passed ne is alone not_above later near =
    let N : LogEnd → Type 0 = λ e. steps_to geo from e.lnum + 1 ≤ most in
    let longer = chain_more x geo from start past first more text h ne is later in
    let P : List HeadAt → Type 0 = λ bs. IsLeftReady x geo from most number bs in
    let none : text.references ≡ [] = lone_references (x past) text.nodes text.references is.refer alone in
    let e : buds_of (references_of (first ∷ (more ++ text ∷ []))) ≡ buds_of (references_of (first ∷ more)) =
    ap buds_of (references_added first more text ∙ ap (λ (r : List RefNode). references_of (first ∷ more) ++ r) none ∙ append-nil (references_of (first ∷ more))) in
    subst P e (older_ready x geo from start number (next_leb geo past) most first (more ++ text ∷ []) f longer low (below_last number (first ∷ more) text below not_above) (λ k is_in free.
    elim (passed k is_in (λ i. free (elim i [ inl same ↦ inl same | inr there ↦ inr ((among_added k more text).1 (inl there)) ]))) [
      | inl old ↦ old
      | inr lone ↦ absurd (free (inr ((among_added k more text).1 (inr (lone.0 ∙ sym is.here)))))
    ]) (subst N (sym (end_alone first.ends more text alone)) near))

-- texts that are read, where all other LEBs are passed over
pub chain_ready : (x : ℕ → List ℕ) (geo : RawGeometry) (from start number past most : ℕ) (first : LogText) (more : List LogText) → IsLogLeb geo from → IsChain x geo from start first more past → start ≤ number → AreBelow number (first ∷ more)
    → ((k : ℕ) → IsLogLeb geo k → (IsAmong k (first ∷ more) → ⊥) → IsPassedOver start number past k (x k)) → steps_to geo from (last_end first.ends more).lnum + 1 ≤ most → IsLeftReady x geo from most number (buds_of (references_of (first ∷ more)))
chain_ready x geo from start number past most first more f h low below passed near =
    let L : ℕ → Type 0 = λ n. IsLogLeb geo n in
    let no_further = end_near x geo from start (next_leb geo from) past first.ends more f (subst L (sym h.is_first.here) f) (ap (next_leb geo) (sym h.is_first.here)) h.run in
    let told : steps_to geo from (log_end_of first.ends more).lnum + 1 ≤ most = omega (arith, near, no_further) in
    elim (cases_eq past from) [
      | inl same ↦ older_ready x geo from start number past most first more f h low below (λ k is none. elim (passed k is none) [ inl old ↦ old | inr lone ↦ absurd (none (inl (lone.0 ∙ same ∙ sym h.is_first.here))) ]) told
      | inr ne ↦ elim (passed past (chain_past x geo from start past first more f h) (past_free x geo from start past first more f h ne)) [
        | inl older ↦ past_ready x geo from start number past most first more f h low below passed older told
        | inr (here, text, is, alone, not_above) ↦ elim (cases_Bool (is_later start (begins_with text.nodes))) [
          | inl later ↦ lone_ready x geo from start number past most first more text f h low below passed ne is alone not_above later near
          | inr not_later ↦ past_ready x geo from start number past most first more f h low below passed (text, is, not_later) told
        ]
      ]
    ]

-- a log goes on in the LEB of its last text, or behind it
pub goes_lnum : (geo : RawGeometry) (last : LogEnd) (lnum offs : ℕ) → GoesOn geo last lnum offs → last.lnum ≡ lnum
goes_lnum geo last lnum offs (inl e) = ap (λ (z : LogEnd). z.lnum) e
goes_lnum geo last lnum offs (inr full) = full.0

-- in as many LEBs as are in use
pub lebs_same : (geo : RawGeometry) (from a b : ℕ) → a ≡ b → steps_to geo from a + 1 ≤ lebs_to geo from b
lebs_same geo from a b e = let same : steps_to geo from a ≡ steps_to geo from b = ap (steps_to geo from) e in omega (arith, same)

-- Of a volume that is ready for its next node, a cut leaves a log that whoever mounts it may write on.
pub IsReady-left : (a : VolumeState) (geo : RawGeometry) (from lnum offs number : ℕ) (buds : List HeadAt) (x : ℕ → List ℕ) → IsLogLeb geo from → IsLogReady a geo from lnum offs number buds → ((k : ℕ) → IsLogLeb geo k → a.left_now k (x k)) → IsLeftReady x geo from (lebs_to geo from lnum) number buds
IsReady-left a geo from lnum offs number buds x f h left =
    let most = lebs_to geo from lnum in
    let P : List HeadAt → Type 0 = λ bs. IsLeftReady x geo from most number bs in
    let chain = chain_alike a.holds x geo from h.start h.past h.first h.more (λ k there. sym (h.settled k there (x k) (left k (among_log a.holds geo from h.start h.past k h.first h.more f h.chain there)))) h.chain in
    subst P (sym h.buds_are) (chain_ready x geo from h.start number h.past most h.first h.more f chain h.low h.below (λ k is none. h.spare k (x k) is none (left k is)) (lebs_same geo from (last_end h.first.ends h.more).lnum lnum (goes_lnum geo (last_end h.first.ends h.more) lnum offs h.last)))

-- Where a volume was found after a cut, its log was.
pub IsFound-log : (contents : ℕ → List ℕ) (geo : RawGeometry) (state : VolumeState) → lpt_first geo ≤ state.leb_cnt → IsFound contents state → IsFoundLog contents geo state
IsFound-log contents geo state lebs found =
    let inside : (k : ℕ) → IsLogLeb geo k → k < state.leb_cnt = λ k is. (let high = is.high in omega (arith, high, lebs)) in
    record { holds = λ k is. found.holds k (inside k is); written = λ k is. found.written k (inside k is); left = λ k is. found.left k }

-- even if a call is still armed to fail
pub revived-log : (contents : ℕ → List ℕ) (geo : RawGeometry) (state : VolumeState) → lpt_first geo ≤ state.leb_cnt → IsFound contents (without_fail state) → IsFoundLog contents geo state
revived-log contents geo state lebs found =
    let log = IsFound-log contents geo (without_fail state) lebs found in
    record { holds = log.holds; written = log.written; left = log.left }

-- So it stays while its LEBs stay as they are: whatever is armed, and whatever becomes of other LEBs.
pub IsFoundLog-same : (contents : ℕ → List ℕ) (geo : RawGeometry) (a b : VolumeState) → b.min_io ≡ a.min_io → ((k : ℕ) → IsLogLeb geo k → IsSameLeb a b k) → IsFoundLog contents geo a → IsFoundLog contents geo b
IsFoundLog-same contents geo a b unit same found = record {
  holds = λ k is. (same k is).holds ∙ found.holds k is;
  written = λ k is.
      let U : ℕ → Type 0 = λ u. IsWrittenPart u (b.holds k) (b.written k) in
      let B : List ℕ → Type 0 = λ leb. IsWrittenPart a.min_io leb (b.written k) in
      let W : ℕ → Type 0 = λ n. IsWrittenPart a.min_io (a.holds k) n in
      subst U (sym unit) (subst B (sym (same k is).holds) (subst W (sym (same k is).written) (found.written k is)));
  left = λ k is leb left. found.left k is leb ((same k is).left leb left) ∙ sym (same k is).holds;
}

-- What a cut left, once it is found, is ready for its next node.

-- the texts up to the end that is told: all that are read, or all but a last one that is a commit start alone
record IsTold (c : ℕ → List ℕ) (geo : RawGeometry) (from start number lnum : ℕ) (before : LogEnd) (texts : List LogText) : Type 0 where
  told : List LogText
  past : ℕ
  run : Run c geo from start lnum told past
  last : last_end before told ≡ log_end_of before texts
  references : references_of told ≡ references_of texts
  below : AreBelow number told
  among : (k : ℕ) → IsAmong k told → IsAmong k texts
  left_out : (k : ℕ) → IsAmong k texts → IsAmong k told ⊎ ((k ≡ past) × (text : LogText) × IsLogTextOf (c k) k text × IsTrue (is_start_alone text.nodes) × IsFalse (is_later number (begins_with text.nodes)))

told_all : (c : ℕ → List ℕ) (geo : RawGeometry) (from start number lnum past : ℕ) (before : LogEnd) (texts : List LogText) → Run c geo from start lnum texts past → AreBelow number texts → last_end before texts ≡ log_end_of before texts → IsTold c geo from start number lnum before texts
told_all c geo from start number lnum past before texts run below last = record { told = texts; past = past; run = run; last = last; references = refl; below = below; among = λ k there. there; left_out = λ k there. inl there }

told_of : (c : ℕ → List ℕ) (geo : RawGeometry) (from start number lnum past : ℕ) (before : LogEnd) (texts : List LogText) → Run c geo from start lnum texts past → AreBelow number texts → IsTold c geo from start number lnum before texts
told_of c geo from start number lnum past before [] run below = told_all c geo from start number lnum past before [] run below refl
told_of c geo from start number lnum past before (text ∷ []) run below = elim (cases_Bool (is_start_alone text.nodes)) [
  | inl alone ↦
      let none : text.references ≡ [] = lone_references (c lnum) text.nodes text.references run.1.refer alone in
      let E : Bool → Type 0 = λ b. before ≡ (if b then before else text.ends) in
      let P : ℕ → Type 0 = λ n. IsLogTextOf (c n) n text in
      record {
        told = [];
        past = lnum;
        run = refl;
        last = subst E (sym alone) refl;
        references = sym none ∙ sym (append-nil text.references);
        below = tt;
        among = λ k none. absurd none;
        left_out = λ k there. elim there [ inl same ↦ inr (same ∙ run.1.here, text, subst P (sym (same ∙ run.1.here)) run.1, alone, below.0) | inr none ↦ absurd none ];
      }
  | inr other ↦
      let E : Bool → Type 0 = λ b. text.ends ≡ (if b then before else text.ends) in
      told_all c geo from start number lnum past before (text ∷ []) run below (subst E (sym other) refl)
]
told_of c geo from start number lnum past before (text ∷ (other ∷ more)) run below =
    let rest = told_of c geo from start number (next_leb geo lnum) past text.ends (other ∷ more) run.3 below.1 in
    record {
      told = text ∷ rest.told;
      past = rest.past;
      run = (run.0, run.1, run.2, rest.run);
      last = rest.last;
      references = ap (λ (r : List RefNode). text.references ++ r) rest.references;
      below = (below.0, rest.below);
      among = λ k there. elim there [ inl same ↦ inl same | inr behind ↦ inr (rest.among k behind) ];
      left_out = λ k there. elim there [ inl same ↦ inl (inl same) | inr behind ↦ elim (rest.left_out k behind) [ inl told ↦ inl (inr told) | inr out ↦ inr out ] ];
    }

-- no reference has room behind a LEB's end
no_room : (unit size : ℕ) → 8 ≤ unit → nat_le (size + padded_room_of unit 64) size ≡ false
no_room unit size some =
    let n : ℕ = 64 + (unit - 1) in
    let whole : padded_room_of unit 64 + n % unit ≡ n = omega (arith, div-add-mod' n unit) in
    let rest : n % unit < unit = mod-lt n (omega (arith, some)) in
    lt-leb (size + padded_room_of unit 64) size (omega (arith, whole, rest, some))

goes_if : (geo : RawGeometry) (lnum offs : ℕ) (tail : Tail) → 8 ≤ geo.min_io → let ends : LogEnd = record { lnum = lnum; offs = offs; tail = tail } in GoesOn geo ends lnum (offs_behind geo ends)
goes_if geo lnum offs Torn some = inr (refl, refl, no_room geo.min_io geo.leb_size some)
goes_if geo lnum offs Clean some =
    let ends : LogEnd = record { lnum = lnum; offs = offs; tail = Clean } in
    let G : ℕ → Type 0 = λ n. GoesOn geo ends lnum n in
    elim (cases_Bool (offs % geo.min_io == 0)) [
      | inl whole ↦ let e : offs_behind geo ends ≡ offs = rw whole refl in subst G (sym e) (inl refl)
      | inr part ↦ let e : offs_behind geo ends ≡ geo.leb_size = rw part refl in subst G (sym e) (inr (refl, e, no_room geo.min_io geo.leb_size some))
    ]

-- where it goes on
pub goes_behind : (geo : RawGeometry) (ends : LogEnd) → 8 ≤ geo.min_io → GoesOn geo ends ends.lnum (offs_behind geo ends)
goes_behind geo ends some = goes_if geo ends.lnum ends.offs ends.tail some

told_opens : (state : VolumeState) (geo : RawGeometry) (from number : ℕ) (log : Log) (held : IsHeldLog state geo from number log)
    (told : IsTold state.holds geo from held.ready.start number (next_leb geo from) held.ready.is_log.first.ends held.ready.is_log.more) → 8 ≤ geo.min_io → IsLogReady state geo from log.ends.lnum (offs_behind geo log.ends) number log.buds
told_opens state geo from number log held told some =
    let h = held.ready in
    let first = h.is_log.first in
    let all : List LogText = first ∷ told.told in
    let G : LogEnd → Type 0 = λ e. GoesOn geo e log.ends.lnum (offs_behind geo log.ends) in
    record {
      start = h.start;
      first = first;
      more = told.told;
      past = told.past;
      chain = record { is_first = h.is_log.is_first; starts = h.starts; run = told.run };
      low = h.low;
      below = (h.below.0, told.below);
      buds_are = h.is_log.buds ∙ ap (λ (r : List RefNode). buds_of (first.references ++ r)) (sym told.references);
      last = subst G (sym (told.last ∙ sym h.is_log.ends)) (goes_behind geo log.ends some);
      settled = λ k there. held.settled k (elim there [ inl same ↦ inl same | inr further ↦ inr (told.among k further) ]);
      spare = λ k leb is none left. elim (among_or k (first ∷ h.is_log.more)) [
        | inl (inl same) ↦ absurd (none (inl same))
        | inl (inr among) ↦ elim (told.left_out k among) [
          | inl there ↦ absurd (none (inr there))
          | inr out ↦ let P : List ℕ → Type 0 = λ bytes. IsPassedOver h.start number told.past k bytes in subst P (sym (held.settled k (inr among) leb left)) (inr out)
        ]
        | inr outside ↦ inl (held.spare k leb is outside left)
      ];
    }

pub further_run : (c : ℕ → List ℕ) (geo : RawGeometry) (from start : ℕ) (o : Option ℕ) (more : List LogText) → o ≡ Some start → AreFurther c geo from o more → (past : ℕ) × Run c geo from start (next_leb geo from) more past
further_run c geo from start None more e h = absurd cc
further_run c geo from start (Some n) more e h =
    let same : n ≡ start = cc in
    let P : ℕ → Type 0 = λ s. Run c geo from s (next_leb geo from) more h.0 in
    (h.0, subst P same h.1)

pub IsHeldLog-opens : (state : VolumeState) (geo : RawGeometry) (from number : ℕ) (log : Log) → IsGeometry geo → IsHeldLog state geo from number log → IsLogReady state geo from log.ends.lnum (offs_behind geo log.ends) number log.buds
IsHeldLog-opens state geo from number log geometry held =
    let h = held.ready in
    let run = further_run state.holds geo from h.start (start_of (begins_with h.is_log.first.nodes)) h.is_log.more h.starts h.is_log.are_further in
    let told = told_of state.holds geo from h.start number (next_leb geo from) run.0 h.is_log.first.ends h.is_log.more run.1 h.below.1 in
    told_opens state geo from number log held told geometry.min_io.1

-- in contents that agree on the log's LEBs
pub IsReadyIn-same : (c d : ℕ → List ℕ) (geo : RawGeometry) (from number : ℕ) (log : Log) → IsLogLeb geo from → ((k : ℕ) → IsLogLeb geo k → c k ≡ d k) → IsReadyIn c geo from number log → IsReadyIn d geo from number log
IsReadyIn-same c d geo from number log f same h =
    let first = h.is_log.first in
    let more = h.is_log.more in
    let P : List ℕ → Type 0 = λ leb. IsLogTextOf leb from first in
    let Q : List ℕ → Type 0 = λ leb. BeginsCommit leb (begins_with first.nodes) log.commit in
    let is_log : IsLog d geo from log = record {
      first = first;
      more = more;
      is_first = subst P (same from f) h.is_log.is_first;
      are_further = further_same c d geo from (start_of (begins_with first.nodes)) more f same h.is_log.are_further;
      commit = subst Q (same from f) h.is_log.commit;
      buds = h.is_log.buds;
      sqnum = h.is_log.sqnum;
      ends = h.is_log.ends;
    } in
    record { is_log = is_log; start = h.start; starts = h.starts; low = h.low; below = h.below; spare = λ k is none. let S : List ℕ → Type 0 = λ leb. IsOlder h.start k leb in subst S (same k is) (h.spare k is none) }

-- one LEB that is read is one of the log
read_in : (c : ℕ → List ℕ) (geo : RawGeometry) (from number k : ℕ) (log : Log) (h : IsReadyIn c geo from number log) → IsLogLeb geo from → IsAmong k (h.is_log.first ∷ h.is_log.more) → IsLogLeb geo k
read_in c geo from number k log h f there =
    let run = further_run c geo from h.start (start_of (begins_with h.is_log.first.nodes)) h.is_log.more h.starts h.is_log.are_further in
    among_log c geo from h.start run.0 k h.is_log.first h.is_log.more f (record { is_first = h.is_log.is_first; starts = h.starts; run = run.1 }) there

-- What a cut left, once it is found, is held.
pub IsFoundLog-held : (contents : ℕ → List ℕ) (state : VolumeState) (geo : RawGeometry) (from number : ℕ) (log : Log) → IsLogLeb geo from → IsFoundLog contents geo state → IsReadyIn contents geo from number log → IsHeldLog state geo from number log
IsFoundLog-held contents state geo from number log f found h =
    let ready = IsReadyIn-same contents state.holds geo from number log f (λ k is. sym (found.holds k is)) h in
    record {
      ready = ready;
      settled = λ k there. found.left k (read_in state.holds geo from number k log ready f there);
      spare = λ k leb is none left. let P : List ℕ → Type 0 = λ bytes. IsOlder ready.start k bytes in subst P (sym (found.left k is leb left)) (ready.spare k is none);
    }

-- texts that are read are held, where of all other LEBs a cut leaves nothing but older sections
held_chain : (a : VolumeState) (geo : RawGeometry) (from start number past : ℕ) (first : LogText) (more : List LogText) → IsLogLeb geo from → IsChain a.holds geo from start first more past → start ≤ number → AreBelow number (first ∷ more)
    → ((k : ℕ) → IsAmong k (first ∷ more) → Only (a.holds k) (a.left_now k)) → ((k : ℕ) (leb : List ℕ) → IsLogLeb geo k → (IsAmong k (first ∷ more) → ⊥) → a.left_now k leb → IsOlder start k leb) → ((k : ℕ) → IsLogLeb geo k → a.left_now k (a.holds k))
    → (log : Log) × IsHeldLog a geo from number log × (log.buds ≡ buds_of (references_of (first ∷ more))) × (log.ends ≡ log_end_of first.ends more)
held_chain a geo from start number past first more f h low below settled spare held =
    let older : (k : ℕ) → IsLogLeb geo k → (IsAmong k (first ∷ more) → ⊥) → IsOlder start k (a.holds k) = λ k is none. spare k (a.holds k) is none (held k is) in
    let commit = some_commit (a.holds from) (begins_with first.nodes) (text_begins (a.holds from) from first h.is_first) in
    let P : Option ℕ → Type 0 = λ o. AreFurther a.holds geo from o more in
    let stops : Stops a.holds from start past = elim (cases_eq past from) [ inl same ↦ inl same | inr ne ↦ inr (older past (chain_past a.holds geo from start past first more f h) (past_free a.holds geo from start past first more f h ne)) ] in
    let log : Log = record { commit = commit.0; buds = buds_of (references_of (first ∷ more)); sqnum = greatest_of 0 (first ∷ more); ends = log_end_of first.ends more } in
    let is_log : IsLog a.holds geo from log = record { first = first; more = more; is_first = h.is_first; commit = commit.1; are_further = subst P (sym h.starts) (past, h.run, stops); buds = refl; sqnum = refl; ends = refl } in
    (log, record { ready = record { is_log = is_log; start = start; starts = h.starts; low = low; below = below; spare = older }; settled = settled; spare = spare }, refl, refl)

-- texts are told to end where the last one does, if it isn't a commit start alone
end_told : (c : ℕ → List ℕ) (geo : RawGeometry) (from start lnum past : ℕ) (before : LogEnd) (texts : List LogText) → Run c geo from start lnum texts past
    → let last : ℕ = (last_end before texts).lnum in
    (log_end_of before texts ≡ last_end before texts) ⊎ ((last ≢ from) × IsLoneStart (c last) last)
end_told c geo from start lnum past before [] run = inl refl
end_told c geo from start lnum past before (text ∷ []) run =
    let P : ℕ → Type 0 = λ n. (n ≢ from) × IsLoneStart (c n) n in
    let E : Bool → Type 0 = λ b. (if b then before else text.ends) ≡ text.ends in
    elim (cases_Bool (is_start_alone text.nodes)) [ inl alone ↦ inr (subst P (sym run.1.here) (run.0, (text, run.1, alone))) | inr other ↦ inl (subst E (sym other) refl) ]
end_told c geo from start lnum past before (text ∷ (other ∷ more)) run = end_told c geo from start (next_leb geo lnum) past text.ends (other ∷ more) run.3

-- so a log that is ready for its next node is told to end where it goes on
ready_told : (a : VolumeState) (geo : RawGeometry) (from lnum offs number : ℕ) (buds : List HeadAt) (h : IsLogReady a geo from lnum offs number buds) → IsToldEnd a geo from lnum offs (log_end_of h.first.ends h.more)
ready_told a geo from lnum offs number buds h =
    let G : LogEnd → Type 0 = λ e. GoesOn geo e lnum offs in
    let L : ℕ → Type 0 = λ n. (n ≢ from) × IsLoneStart (a.holds n) n in
    elim (end_told a.holds geo from h.start (next_leb geo from) h.past h.first.ends h.more h.chain.run) [
      | inl same ↦ inl (subst G (sym same) h.last)
      | inr lone ↦ inr (subst L (goes_lnum geo (last_end h.first.ends h.more) lnum offs h.last) lone)
    ]

-- So is a log that is ready for its next node, as an unmount leaves it, if the LEB behind the last that is read is settled or older.
pub IsReady-held : (a : VolumeState) (geo : RawGeometry) (from lnum offs number : ℕ) (buds : List HeadAt) (h : IsLogReady a geo from lnum offs number buds) → IsLogLeb geo from → ((k : ℕ) → IsLogLeb geo k → a.left_now k (a.holds k)) → IsSettledOrOlder a h.start h.past
    → (log : Log) × IsHeldLog a geo from number log × (log.buds ≡ buds) × IsToldEnd a geo from lnum offs log.ends
IsReady-held a geo from lnum offs number buds h f held quiet =
    let first = h.first in
    let more = h.more in
    let past = h.past in
    let T : LogEnd → Type 0 = λ e. IsToldEnd a geo from lnum offs e in
    let B : List HeadAt → Type 0 = λ bs. (log : Log) × IsHeldLog a geo from number log × (log.buds ≡ bs) × T log.ends in
    let Held : List LogText → Type 0 = λ ts. (log : Log) × IsHeldLog a geo from number log × (log.buds ≡ buds_of (references_of (first ∷ ts))) × (log.ends ≡ log_end_of first.ends ts) in
    let whole : Held more → B buds = λ r. (r.0, r.1, r.2 ∙ sym h.buds_are, subst T (sym r.3) (ready_told a geo from lnum offs number buds h)) in
    -- where the LEB behind holds nothing newer
    let without : ((leb : List ℕ) → a.left_now past leb → IsOlder h.start past leb) → B buds = λ old.
    let P : ℕ → Type 0 = λ n. (leb : List ℕ) → a.left_now n leb → IsOlder h.start n leb in
    whole (held_chain a geo from h.start number past first more f h.chain h.low h.below h.settled (λ k leb is none left. elim (h.spare k leb is none left) [ inl older ↦ older | inr lone ↦ subst P (sym lone.0) old leb left ]) held) in
    elim quiet [
      | inr old ↦ without old
      | inl only ↦ elim (cases_eq past from) [
        | inl same ↦ whole (held_chain a geo from h.start number past first more f h.chain h.low h.below h.settled
            (λ k leb is none left. elim (h.spare k leb is none left) [ inl older ↦ older | inr lone ↦ absurd (none (inl (lone.0 ∙ same ∙ sym h.chain.is_first.here))) ]) held)
        | inr ne ↦
            let in_log = chain_past a.holds geo from h.start past first more f h.chain in
            let free = past_free a.holds geo from h.start past first more f h.chain ne in
            let O : List ℕ → Type 0 = λ bytes. IsOlder h.start past bytes in
            elim (h.spare past (a.holds past) in_log free (held past in_log)) [
              | inl older ↦ without (λ leb left. subst O (sym (only leb left)) older)
              | inr (here, text, is, alone, not_above) ↦ elim (cases_Bool (is_later h.start (begins_with text.nodes))) [
                | inr not_later ↦ without (λ leb left. subst O (sym (only leb left)) (text, is, not_later))
                | inl later ↦
                    let longer = chain_more a.holds geo from h.start past first more text h.chain ne is later in
                    let none : text.references ≡ [] = lone_references (a.holds past) text.nodes text.references is.refer alone in
                    let e : buds_of (references_of (first ∷ (more ++ text ∷ []))) ≡ buds_of (references_of (first ∷ more)) =
                    ap buds_of (references_added first more text ∙ ap (λ (r : List RefNode). references_of (first ∷ more) ++ r) none ∙ append-nil (references_of (first ∷ more))) in
                    let S : ℕ → Type 0 = λ n. Only (a.holds n) (a.left_now n) in
                    let G : LogEnd → Type 0 = λ z. GoesOn geo z lnum offs in
                    let longer_told : Held (more ++ text ∷ []) → B buds = λ r. (r.0, r.1, r.2 ∙ e ∙ sym h.buds_are, inl (subst G (sym (r.3 ∙ end_alone first.ends more text alone)) h.last)) in
                    longer_told (held_chain a geo from h.start number (next_leb geo past) first (more ++ text ∷ []) f longer h.low (below_last number (first ∷ more) text h.below not_above)
                    (λ k there. elim there [
                      | inl same ↦ h.settled k (inl same)
                      | inr further ↦ elim ((among_added k more text).0 further) [ inl before ↦ h.settled k (inr before) | inr last ↦ subst S (sym (last ∙ is.here)) only ]
                    ])
                    (λ k leb is_in outside left. elim (h.spare k leb is_in (λ i. outside (elim i [ inl same ↦ inl same | inr there ↦ inr ((among_added k more text).1 (inl there)) ])) left) [
                      | inl older ↦ older
                      | inr lone ↦ absurd (outside (inr ((among_added k more text).1 (inr (lone.0 ∙ sym is.here)))))
                    ])
                    held)
              ]
            ]
      ]
    ]

-- Of a log that is held a cut leaves that very log, whichever unmappings it undoes.
pub IsHeldLog-left : (a : VolumeState) (geo : RawGeometry) (from number : ℕ) (log : Log) (x : ℕ → List ℕ) → IsLogLeb geo from → IsHeldLog a geo from number log → ((k : ℕ) → IsLogLeb geo k → a.left_now k (x k)) → IsReadyIn x geo from number log
IsHeldLog-left a geo from number log x f held left =
    let h = held.ready in
    let first = h.is_log.first in
    let more = h.is_log.more in
    let run = further_run a.holds geo from h.start (start_of (begins_with first.nodes)) more h.starts h.is_log.are_further in
    let chain : IsChain a.holds geo from h.start first more run.0 = record { is_first = h.is_log.is_first; starts = h.starts; run = run.1 } in
    let same : (k : ℕ) → IsAmong k (first ∷ more) → a.holds k ≡ x k = λ k there. sym (held.settled k there (x k) (left k (read_in a.holds geo from number k log h f there))) in
    let there = chain_alike a.holds x geo from h.start run.0 first more same chain in
    let P : Option ℕ → Type 0 = λ o. AreFurther x geo from o more in
    let Q : List ℕ → Type 0 = λ leb. BeginsCommit leb (begins_with first.nodes) log.commit in
    let older : (k : ℕ) → IsLogLeb geo k → (IsAmong k (first ∷ more) → ⊥) → IsOlder h.start k (x k) = λ k is none. held.spare k (x k) is none (left k is) in
    let stops : Stops x from h.start run.0 = elim (cases_eq run.0 from) [ inl again ↦ inl again | inr ne ↦ inr (older run.0 (chain_past x geo from h.start run.0 first more f there) (past_free x geo from h.start run.0 first more f there ne)) ] in
    record {
      is_log = record {
        first = first;
        more = more;
        is_first = there.is_first;
        are_further = subst P (sym h.starts) (run.0, there.run, stops);
        commit = subst Q (same from (inl (sym h.is_log.is_first.here))) h.is_log.commit;
        buds = h.is_log.buds;
        sqnum = h.is_log.sqnum;
        ends = h.is_log.ends;
      };
      start = h.start;
      starts = h.starts;
      low = h.low;
      below = h.below;
      spare = older;
    }

-- nothing counts as written behind an end at which a log is written on
pub IsAt-behind : (state : VolumeState) (at : LogAt) (ends : LogEnd) → IsAt state at → GoesOn at.geo ends at.lnum at.offs → IsOpenBehind state at.geo ends
IsAt-behind state at ends h (inl clean) =
    let P : LogEnd → Type 0 = λ z. IsOpenBehind state at.geo z in
    let Q : Bool → Type 0 = λ b. state.written at.lnum ≤ (if b then at.offs else at.geo.leb_size) in
    let unit : (at.offs % at.geo.min_io == 0) ≡ true = rw h.unit refl in
    subst P (sym clean) (subst Q (sym unit) h.is_open)
IsAt-behind state at ends h (inr (same, past, full)) =
    let P : ℕ → Type 0 = λ n. state.written n ≤ at.geo.leb_size in
    let Q : ℕ → Type 0 = λ n. state.written ends.lnum ≤ n in
    let before = h.is_open in
    let within = h.within in
    subst Q (sym past) (subst P (sym same) (omega (arith, before, within)))

-- What was left stays such a log.

-- when sequence numbers rise
pub IsReadyIn-later : (c : ℕ → List ℕ) (geo : RawGeometry) (from number next : ℕ) (log : Log) → number ≤ next → IsReadyIn c geo from number log → IsReadyIn c geo from next log
IsReadyIn-later c geo from number next log later h =
    let low = h.low in
    record { is_log = h.is_log; start = h.start; starts = h.starts; low = omega (arith, low, later); below = below_more number next (h.is_log.first ∷ h.is_log.more) later h.below; spare = h.spare }

start_below : (next start : ℕ) (begins : Option Found) → start_of begins ≡ Some start → is_later next begins ≡ false → start ≤ next
start_below next start None starts not_later = absurd cc
start_below next start (Some found) starts not_later = elim (cases_Bool (type_number found.kind == type_number types.CommitStart)) [
  | inl is ↦
      let P : Bool → Type 0 = λ b. (if b then Some found.sqnum else None) ≡ Some start in
      let e : Some found.sqnum ≡ Some start = subst P is starts in
      let same : found.sqnum ≡ start = cc in
      let low = ltb-false next found.sqnum not_later in
      omega (arith, same, low)
  | inr other ↦
      let P : Bool → Type 0 = λ b. (if b then Some found.sqnum else None) ≡ Some start in
      let e : None ≡ Some start = subst P other starts in
      absurd cc
]

-- with any number above which no LEB that is read begins
pub IsReadyIn-below : (c : ℕ → List ℕ) (geo : RawGeometry) (from number next : ℕ) (log : Log) (h : IsReadyIn c geo from number log) → AreBelow next (h.is_log.first ∷ h.is_log.more) → IsReadyIn c geo from next log
IsReadyIn-below c geo from number next log h below =
    record { is_log = h.is_log; start = h.start; starts = h.starts; low = start_below next h.start (begins_with h.is_log.first.nodes) h.starts below.0; below = below; spare = h.spare }

founds_least : (low : ℕ) (nodes : List Found) → low ≤ fold (λ n (found : Found). max n found.sqnum) low nodes
founds_least low [] = omega arith
founds_least low (found ∷ nodes) =
    let more = founds_least (max low found.sqnum) nodes in
    let here = le-max_left low found.sqnum in
    omega (arith, more, here)

texts_least : (low : ℕ) (texts : List LogText) → low ≤ greatest_of low texts
texts_least low [] = omega arith
texts_least low (text ∷ texts) =
    let more = texts_least (max low (greatest_found text.nodes)) texts in
    let here = le-max_left low (greatest_found text.nodes) in
    omega (arith, more, here)

begins_below : (next : ℕ) (nodes : List Found) → greatest_found nodes ≤ next → is_later next (begins_with nodes) ≡ false
begins_below next [] most = refl
begins_below next (found ∷ nodes) most =
    let P : Bool → Type 0 = λ b. is_later next (if b then Some found else None) ≡ false in
    let more = founds_least (max 0 found.sqnum) nodes in
    let here = le-max_right 0 found.sqnum in
    elim (cases_Bool (found.offs == 0)) [ inl first ↦ subst P (sym first) (le-ltb next found.sqnum (omega (arith, most, more, here))) | inr later ↦ subst P (sym later) refl ]

greatest_below : (next low : ℕ) (texts : List LogText) → greatest_of low texts ≤ next → AreBelow next texts
greatest_below next low [] most = tt
greatest_below next low (text ∷ texts) most =
    let more = texts_least (max low (greatest_found text.nodes)) texts in
    let here = le-max_right low (greatest_found text.nodes) in
    (begins_below next text.nodes (omega (arith, most, more, here)), greatest_below next (max low (greatest_found text.nodes)) texts most)

-- so with the greatest number that was read, and any above it
pub IsReadyIn-greatest : (c : ℕ → List ℕ) (geo : RawGeometry) (from number next : ℕ) (log : Log) → log.sqnum ≤ next → IsReadyIn c geo from number log → IsReadyIn c geo from next log
IsReadyIn-greatest c geo from number next log most h =
    let is = h.is_log.sqnum in
    IsReadyIn-below c geo from number next log h (greatest_below next 0 (h.is_log.first ∷ h.is_log.more) (omega (arith, most, is)))

-- which serves for the next node of a log that is held
pub IsHeldLog-next : (state : VolumeState) (geo : RawGeometry) (from number next : ℕ) (log : Log) → (number ≤ next) ⊎ (log.sqnum ≤ next) → IsHeldLog state geo from number log → IsHeldLog state geo from next log
IsHeldLog-next state geo from number next log which held =
    let h = held.ready in
    let texts : List LogText = h.is_log.first ∷ h.is_log.more in
    let is = h.is_log.sqnum in
    let below : AreBelow next texts = elim which [ inl later ↦ below_more number next texts later h.below | inr most ↦ greatest_below next 0 texts (omega (arith, most, is)) ] in
    record {
      ready = record { is_log = h.is_log; start = h.start; starts = h.starts; low = start_below next h.start (begins_with h.is_log.first.nodes) h.starts below.0; below = below; spare = h.spare };
      settled = held.settled;
      spare = held.spare;
    }
