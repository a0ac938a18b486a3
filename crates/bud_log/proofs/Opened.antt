-- A LEB is made a journal head's, and nodes are written to the log: over all calls together.
use Rattle.std.proofs.Common.{◌≡◌, ◌⊎◌, inl, inr, ℕ, ◌+◌, ◌-◌, ◌%◌, ◌^◌, ◌<◌, ◌≤◌, Bool, true, false, List, [], ◌∷◌, ◌++◌, length, take, drop, refl, ap, sym, ◌∙◌, subst, arith, append_assoc, length-append, length-drop}
use Rattle.std.specs.Prelude.{◌≢◌, fold}
use Rattle.std.proofs.lemmas.Bool.{cases_eq}
use Rattle.std.proofs.lemmas.List.{drop-drop, take_at, drop_at, length-take-le, length-replicate}
use Rattle.ubifs_base.specs.Gap.{gap_of}
use Rattle.ubifs_base.specs.declared.raw_geometry.RawGeometry.{RawGeometry}
use Rattle.ubi_volume.specs.Volume.{VolumeState, filled, put, WorksOn, Leaves, WriteUnderWay}
use Rattle.ubi_volume.specs.VolumeLaws.{Leaves-more}
use Rattle.media_sys.specs.SystemNode.{SystemNode, reference, commit_start, node_type}
use Rattle.ubifs_base.specs.declared.node_type.NodeType.TheVariants as types
use Rattle.media_sys.specs.declared.ref_node.RefNode.{RefNode}
use Rattle.leb_scan.specs.Gaps.{gap_length}
use Rattle.leb_scan.specs.Text.{is_blank, IsText}
use Rattle.leb_scan.specs.TextLaws.{blank_drop, blank_replicate}
use Rattle.leb_scan.specs.declared.tail.Tail.TheVariants.{Clean}
use Rattle.bud_log.specs.Buds.{named_also}
use Rattle.bud_log.specs.Log.{IsLogLeb, next_leb, Run}
use Rattle.bud_log.specs.LogAt.{LogAt, has_room, lnum_at, offs_at, references_to, head_nodes, section_nodes}
use Rattle.bud_log.specs.LogCalls.{IsLebBegun, IsAdded, AddDuring, OpenUnderWay, StartUnderWay}
use Rattle.bud_log.specs.LogText.{LogText, IsLogTextOf}
use Rattle.bud_log.specs.Writing.{references_in, AreSpelled, AreNodes, laid, IsAmong, IsOlder, IsChain, last_end, GoesOn, IsLogReady, IsLogMeant, IsOldOrMeant}
use Rattle.bud_log.specs.AfterCut.{IsLeftReady, IsLeftOpened, IsLeftStarted, lebs_to}
use Rattle.bud_log.specs.AfterCutLaws.{IsReady-left, IsReadyIn-later}
use Rattle.bud_log.specs.declared.head_at.HeadAt.{HeadAt}
use Rattle.bud_log.specs.declared.log_end.LogEnd.{LogEnd}
use Rattle.bud_log.specs.HeldLaws.{IsReady-past}
use Rattle.bud_log.specs.LogLaws.{blank-older, among_log}
use Rattle.bud_log.proofs.Appended.{IsLeftFirst, ready_works, here_first}
use Rattle.bud_log.proofs.Laid.{AreLaid, laid_there}
use Rattle.bud_log.proofs.ReadyAgain.{ready_here, ready_next, next_first}
use Rattle.bud_log.proofs.Spelled.{as_many, first_references}
use Rattle.bud_log.specs.References.{OneSystemNode}

-- an unwritten LEB begins with no node
pub blank_older : (start lnum size : ℕ) → IsOlder start lnum (filled size [])
blank_older start lnum size = blank-older start lnum (filled size []) (blank_replicate (size - 0))

-- the last text
run_end : (c : ℕ → List ℕ) (geo : RawGeometry) (from number l past : ℕ) (text : LogText) (texts : List LogText) (old : LogEnd) → Run c geo from number l (text ∷ texts) past → last_end text.ends texts ≡ old
    → (t : LogText) × IsLogTextOf (c old.lnum) old.lnum t × (t.ends ≡ old)
run_end c geo from number l past text [] old h last =
    let P : ℕ → Type 0 = λ n. IsLogTextOf (c n) n text in
    (text, subst P (sym h.1.here ∙ ap (λ (z : LogEnd). z.lnum) last) h.1, last)
run_end c geo from number l past text (other ∷ texts) old h last = run_end c geo from number (next_leb geo l) past other texts old h.3 last

pub chain_end : (c : ℕ → List ℕ) (geo : RawGeometry) (from start past : ℕ) (first : LogText) (more : List LogText) (old : LogEnd) → IsChain c geo from start first more past → last_end first.ends more ≡ old → (t : LogText) × IsLogTextOf (c old.lnum) old.lnum t × (t.ends ≡ old)
chain_end c geo from start past first [] old h last =
    let P : ℕ → Type 0 = λ n. IsLogTextOf (c n) n first in
    (first, subst P (sym h.is_first.here ∙ ap (λ (z : LogEnd). z.lnum) last) h.is_first, last)
chain_end c geo from start past first (text ∷ texts) old h last = run_end c geo from start (next_leb geo from) past text texts old h.run last

-- nothing is written behind the end
pub end_blank : (a : VolumeState) (geo : RawGeometry) (from lnum offs number : ℕ) (buds : List HeadAt) (h : IsLogReady a geo from lnum offs number buds) → last_end h.first.ends h.more ≡ record { lnum = lnum; offs = offs; tail = Clean } → is_blank (drop offs (a.holds lnum)) ≡ true
end_blank a geo from lnum offs number buds h clean =
    let old : LogEnd = record { lnum = lnum; offs = offs; tail = Clean } in
    let t = chain_end a.holds geo from h.start h.past h.first h.more old h.chain clean in
    let P : LogEnd → Type 0 = λ z. IsText (a.holds lnum) 0 t.1.items z.offs z.tail in
    (subst P t.2 t.1.is_text).ends

-- nodes and a gap that were put where nothing was written
pub put_laid : (old bytes : List ℕ) (offs number g : ℕ) (nodes : List SystemNode) → AreSpelled number nodes → bytes ≡ laid number nodes ++ gap_of g → offs + length bytes ≤ length old → is_blank (drop offs old) ≡ true → offs % 8 ≡ 0 → g < 2 ^ 32 → g % 8 ≡ 0
    → length (gap_of g) ≡ g → AreLaid (put offs bytes old) offs (offs + length bytes) number nodes
put_laid old bytes offs number g nodes spelled e room blank even fits even_gap wide =
    let front : List ℕ = take offs old in
    let back : List ℕ = drop (offs + length bytes) old in
    let leb : List ℕ = put offs bytes old in
    let at : length front ≡ offs = length-take-le offs old (omega (arith, room)) in
    let all : leb ≡ front ++ (bytes ++ back) = append_assoc front bytes back in
    let here : drop offs leb ≡ bytes ++ back = ap (drop offs) all ∙ drop_at front (bytes ++ back) offs at in
    let there : drop offs leb ≡ laid number nodes ++ (gap_of g ++ back) = here ∙ ap (λ (b : List ℕ). b ++ back) e ∙ append_assoc (laid number nodes) (gap_of g) back in
    let l1 : length leb ≡ length front + length (bytes ++ back) = ap length all ∙ length-append front (bytes ++ back) in
    let R : List ℕ → Type 0 = λ b. is_blank b ≡ true in
    let clear : is_blank back ≡ true = subst R (drop-drop (length bytes) offs old) (blank_drop (length bytes) (drop offs old) blank) in
    let size : length bytes ≡ length (laid number nodes) + g = ap length e ∙ length-append (laid number nodes) (gap_of g) ∙ ap (λ (n : ℕ). length (laid number nodes) + n) wide in
    let end : offs + length (laid number nodes) + g ≡ offs + length bytes = omega (arith, size) in
    let P : ℕ → Type 0 = λ z. AreLaid leb offs z number nodes in
    subst P end (laid_there leb offs number nodes g back spelled there (omega (arith, l1, at)) even fits even_gap clear)

-- the front stays, and the length
pub put_front : (old bytes : List ℕ) (offs : ℕ) → offs + length bytes ≤ length old → (take offs old ≡ take offs (put offs bytes old)) × (length old ≡ length (put offs bytes old))
put_front old bytes offs room =
    let front : List ℕ = take offs old in
    let back : List ℕ = drop (offs + length bytes) old in
    let at : length front ≡ offs = length-take-le offs old (omega (arith, room)) in
    let all : put offs bytes old ≡ front ++ (bytes ++ back) = append_assoc front bytes back in
    let l1 : length (put offs bytes old) ≡ length front + length (bytes ++ back) = ap length all ∙ length-append front (bytes ++ back) in
    let l2 : length (bytes ++ back) ≡ length bytes + length back = length-append bytes back in
    let l3 : length back ≡ length old - (offs + length bytes) = length-drop (offs + length bytes) old in
    (sym (ap (take offs) all ∙ take_at front (bytes ++ back) offs at), omega (arith, l1, l2, l3, at, room))

-- and at the start of a LEB that was unmapped
pub begun_laid : (a b : VolumeState) (there number : ℕ) (bytes : List ℕ) (nodes : List SystemNode) → IsLebBegun a b there bytes → AreNodes bytes number nodes → 0 + length bytes ≤ a.leb_size → AreLaid (b.holds there) 0 (0 + length bytes) number nodes
begun_laid a b there number bytes nodes w are room =
    let old : List ℕ = filled a.leb_size [] in
    let size : length old ≡ a.leb_size - 0 = length-replicate (a.leb_size - 0) 255 in
    let fits : 0 + length bytes ≤ length old = omega (arith, room, size) in
    let P : List ℕ → Type 0 = λ leb. AreLaid leb 0 (0 + length bytes) number nodes in
    subst P (sym w.holds) (put_laid old bytes 0 number are.gap nodes are.spelled are.are fits (blank_replicate (a.leb_size - 0)) (omega arith) are.fits are.even (gap_length are.gap))

-- what a cut may leave where no unmapping is undone is among all that it may leave
abbrev pub HasMapped : VolumeState → Type 0
HasMapped state = (k : ℕ) (bytes : List ℕ) → state.left_mapped k bytes → state.left_now k bytes

-- a LEB outside of the log is none that is read
aside_of : (a : VolumeState) (geo : RawGeometry) (from lnum offs number bud : ℕ) (buds : List HeadAt) (h : IsLogReady a geo from lnum offs number buds) → IsLogLeb geo from → (IsLogLeb geo bud → ⊥) → IsAmong bud (h.first ∷ h.more) → ⊥
aside_of a geo from lnum offs number bud buds h f out there = out (among_log a.holds geo from h.start h.past bud h.first h.more f h.chain there)

-- the bud's LEB was unmapped and mapped, whatever the answer
pub bud_ready : (a b : VolumeState) (geo : RawGeometry) (from lnum offs number bud : ℕ) (buds : List HeadAt) (D : List ℕ → Type 0) → IsLogReady a geo from lnum offs number buds → IsLogLeb geo from → (IsLogLeb geo bud → ⊥) → WorksOn a b bud D
    → IsLogReady b geo from lnum offs number buds
bud_ready a b geo from lnum offs number bud buds D h f out w = ready_works a b geo from lnum offs number buds h bud D (aside_of a geo from lnum offs number bud buds h f out) (λ c is d. absurd (out is)) w

-- where a reference has room the last text has a clean end
pub clean_end : (at : LogAt) (last : LogEnd) → has_room at ≡ true → GoesOn at.geo last at.lnum at.offs → last ≡ record { lnum = at.lnum; offs = at.offs; tail = Clean }
clean_end at last roomy (inl clean) = clean
clean_end at last roomy (inr full) = let both : true ≡ false = sym roomy ∙ full.2 in absurd cc

-- nodes were added to the log
pub added_ready : (here : Bool) (a b : VolumeState) (at : LogAt) (from number next : ℕ) (buds : List HeadAt) (node : SystemNode) (nodes : List SystemNode) (bytes : List ℕ) → IsLogReady a at.geo from at.lnum at.offs number buds → IsLogLeb at.geo from
    → (here ≡ true → has_room at ≡ true) → (here ≡ false → next_leb at.geo at.lnum ≢ from) → number < next → HasMapped a → IsAdded here a b at bytes → WorksOn a b (lnum_at here at) (AddDuring here a at (length bytes)) → AreNodes bytes number (node ∷ nodes)
    → length (a.holds at.lnum) ≡ a.leb_size → offs_at here at + length bytes ≤ a.leb_size → at.offs % 8 ≡ 0
    → IsLogReady b at.geo from (lnum_at here at) (offs_at here at + length bytes) next (fold named_also buds (references_in (node ∷ nodes)))
added_ready true a b at from number next buds node nodes bytes h f roomy free later sub w works are size room even =
    let old = a.holds at.lnum in
    let fits : at.offs + length bytes ≤ length old = omega (arith, room, size) in
    let front = put_front old bytes at.offs fits in
    let P : List ℕ → Type 0 = λ leb. AreLaid leb at.offs (at.offs + length bytes) number (node ∷ nodes) in
    let clean = clean_end at (last_end h.first.ends h.more) (roomy refl) h.last in
    let laid = subst P (sym w.holds) (put_laid old bytes at.offs number are.gap (node ∷ nodes) are.spelled are.are fits (end_blank a at.geo from at.lnum at.offs number buds h clean) even are.fits are.even (gap_length are.gap)) in
    ready_here a b at.geo from at.lnum at.offs number next (at.offs + length bytes) (length bytes) buds (node ∷ nodes) bytes h clean f (sub at.lnum) (omega (arith, later)) w works
    (front.0 ∙ ap (take at.offs) (sym w.holds)) (front.1 ∙ ap length (sym w.holds)) laid
added_ready false a b at from number next buds node nodes bytes h f roomy free later sub w works are size room even =
    let there = next_leb at.geo at.lnum in
    let e : h.past ≡ there = IsReady-past a at.geo from at.lnum at.offs number buds h in
    let laid = begun_laid a b there number bytes (node ∷ nodes) w are room in
    let B : ℕ → Type 0 = λ n. IsLebBegun a b n bytes in
    let N : ℕ → Type 0 = λ n. n ≢ from in
    let W : ℕ → Type 0 = λ n. WorksOn a b n (AddDuring false a at (length bytes)) in
    let L : ℕ → Type 0 = λ n. AreLaid (b.holds n) 0 (0 + length bytes) number (node ∷ nodes) in
    let R : ℕ → Type 0 = λ n. IsLogReady b at.geo from n (0 + length bytes) next (fold named_also buds (references_in (node ∷ nodes))) in
    subst R e (ready_next a b at.geo from at.lnum at.offs number next (0 + length bytes) buds node nodes bytes (AddDuring false a at (length bytes)) h f (subst N (sym e) (free refl)) later (subst B (sym e) w) (subst W (sym e) works) (subst L (sym e) laid))

-- and whatever a cut leaves on the way
pub added_first : OneSystemNode → (here : Bool) (a : VolumeState) (at : LogAt) (from number n : ℕ) (buds : List HeadAt) (node : SystemNode) (nodes : List SystemNode) (x : ℕ → List ℕ) → (here ≡ true → node_type node ≢ types.CommitStart) → IsLogReady a at.geo from at.lnum at.offs number buds → IsLogLeb at.geo from
    → (here ≡ true → has_room at ≡ true) → (here ≡ false → next_leb at.geo at.lnum ≢ from) → HasMapped a → AreSpelled number (node ∷ nodes) → ((k : ℕ) → IsLogLeb at.geo k → k ≢ lnum_at here at → a.left_now k (x k)) → a.left_now (lnum_at here at) (x (lnum_at here at)) ⊎ AddDuring here a at n (x (lnum_at here at))
    → IsOldOrMeant a (lnum_at here at) (offs_at here at) number (node ∷ nodes) (x (lnum_at here at)) → IsLeftFirst x at.geo from (lebs_to at.geo from at.lnum) (lebs_to at.geo from (lnum_at here at)) number buds node nodes
added_first one here a at from number n buds node nodes x other h f roomy free sub spelled others there (inl old) =
    let all : (k : ℕ) → IsLogLeb at.geo k → a.left_now k (x k) = λ k is. elim (cases_eq k (lnum_at here at)) [
      | inl e ↦ let P : ℕ → Type 0 = λ m. a.left_now m (x m) in subst P (sym e) old
      | inr ne ↦ others k is ne
    ] in
    inl (IsReady-left a at.geo from at.lnum at.offs number buds x f h all)
added_first one true a at from number n buds node nodes x other h f roomy free sub spelled others there (inr meant) =
    let here : WriteUnderWay a at.lnum at.offs n (x at.lnum) = elim there [ inl now ↦ inl now | inr w ↦ w ] in
    here_first one a at.geo from at.lnum at.offs number n buds node nodes h x (other refl) (clean_end at (last_end h.first.ends h.more) (roomy refl) h.last) f (sub at.lnum) spelled others here meant
added_first one false a at from number n buds node nodes x other h f roomy free sub spelled others there (inr meant) =
    let e : h.past ≡ next_leb at.geo at.lnum = IsReady-past a at.geo from at.lnum at.offs number buds h in
    let N : ℕ → Type 0 = λ m. m ≢ from in
    let O : ℕ → Type 0 = λ m. (k : ℕ) → IsLogLeb at.geo k → k ≢ m → a.left_now k (x k) in
    let M : ℕ → Type 0 = λ m. IsLogMeant number 0 (node ∷ nodes) (x m) in
    let L : ℕ → Type 0 = λ m. IsLeftFirst x at.geo from (lebs_to at.geo from at.lnum) (lebs_to at.geo from m) number buds node nodes in
    subst L e (next_first one a at.geo from at.lnum at.offs number buds node nodes h x f (subst N (sym e) (free refl)) spelled (subst O (sym e) others) (subst M (sym e) meant))

-- of one reference nothing, or all, is there
opened_left : (here : Bool) (x : ℕ → List ℕ) (at : LogAt) (from number : ℕ) (buds : List HeadAt) (node : RefNode) → here ≡ has_room at → IsLeftFirst x at.geo from (lebs_to at.geo from at.lnum) (lebs_to at.geo from (lnum_at here at)) number buds (reference node) [] → is_blank (x node.lnum) ≡ true
    → IsLeftOpened x at from number buds node
opened_left here x at from number buds node e (inl none) blank = inl none
opened_left here x at from number buds node e (inr (inl lone)) blank = let start = lone.0 in absurd cc
opened_left here x at from number buds node e (inr (inr first)) blank =
    let few = first.1 in
    let none : first.0 ≡ 0 = omega (arith, few) in
    let P : ℕ → Type 0 = λ n. IsLeftReady x at.geo from (lebs_to at.geo from (lnum_at here at)) (number + 1 + n) (fold named_also buds (references_in (reference node ∷ take n []))) in
    let Q : ℕ → Type 0 = λ n. IsLeftReady x at.geo from (lebs_to at.geo from (lnum_at here at)) n (named_also buds node) in
    let H : Bool → Type 0 = λ r. IsLeftReady x at.geo from (lebs_to at.geo from (lnum_at r at)) (number + 1) (named_also buds node) in
    let same : number + 1 + 0 ≡ number + 1 = omega arith in
    let left : P 0 = subst P none first.3 in
    inr (subst H e (subst Q same left), blank)

-- a bud was opened, or the call failed on the way
pub opened_moment : OneSystemNode → (here : Bool) (a b : VolumeState) (at : LogAt) (from number n : ℕ) (buds : List HeadAt) (node : RefNode) → here ≡ has_room at → IsLogReady a at.geo from at.lnum at.offs number buds → IsLogLeb at.geo from
    → (here ≡ false → next_leb at.geo at.lnum ≢ from) → HasMapped a → AreSpelled number (reference node ∷ []) → (IsLogLeb at.geo node.lnum → ⊥) → Leaves a b (OpenUnderWay here a at node.lnum n)
    → Leaves a b (λ left. IsOldOrMeant a (lnum_at here at) (offs_at here at) number (reference node ∷ []) (left (lnum_at here at)) → IsLeftOpened left at from number buds node)
opened_moment one here a b at from number n buds node e h f free sub spelled out time =
    let there = lnum_at here at in
    let nodes : List SystemNode = reference node ∷ [] in
    let P : ℕ → Type 0 = λ m. IsLogLeb at.geo m in
    let M : (ℕ → List ℕ) → Type 0 = λ left. IsOldOrMeant a there (offs_at here at) number nodes (left there) in
    let aside : (k : ℕ) → IsLogLeb at.geo k → k ≢ node.lnum = λ k in_log same. out (subst P same in_log) in
    Leaves-more a b (OpenUnderWay here a at node.lnum n) (λ left. M left → IsLeftOpened left at from number buds node)
    (λ x d meant. elim d.1 [
      | inl before ↦
          let all : (k : ℕ) → IsLogLeb at.geo k → a.left_now k (x k) = λ k in_log. elim (cases_eq k there) [
            | inl same ↦ let Q : ℕ → Type 0 = λ m. a.left_now m (x m) in subst Q (sym same) before.1
            | inr ne ↦ d.0 k (aside k in_log) ne
          ] in
          inl (IsReady-left a at.geo from at.lnum at.offs number buds x f h all)
      | inr added ↦
          let B : List ℕ → Type 0 = λ leb. is_blank leb ≡ true in
          let first = added_first one here a at from number n buds (reference node) [] x (λ r start. absurd cc) h f (λ r. sym e ∙ r) free sub spelled (λ k in_log ne. d.0 k (aside k in_log) ne) (inr added.1) meant in
          opened_left here x at from number buds node e first (subst B (sym added.0) (blank_replicate (a.leb_size - 0)))
    ])
    time

-- the first of a section's nodes are the commit start and the first of its references
started_left : (x : ℕ → List ℕ) (at : LogAt) (from number cmt_no : ℕ) (buds heads : List HeadAt) → IsLeftFirst x at.geo from (lebs_to at.geo from at.lnum) (lebs_to at.geo from (next_leb at.geo at.lnum)) number buds (commit_start (record { cmt_no = cmt_no })) (head_nodes heads)
    → IsLeftStarted x at from number buds (references_to heads)
started_left x at from number cmt_no buds heads (inl none) = inl (none.0, IsReadyIn-later x at.geo from number (number + 1) none.0 (omega arith) none.1, none.2, none.3)
started_left x at from number cmt_no buds heads (inr (inl lone)) = inl lone.1
started_left x at from number cmt_no buds heads (inr (inr first)) =
    let n = first.0 in
    let few = first.1 in
    let Q : List RefNode → Type 0 = λ r. IsLeftReady x at.geo from (lebs_to at.geo from (next_leb at.geo at.lnum)) (number + 1 + n) (fold named_also buds r) in
    let count = as_many heads in
    let nodes = count.0 in
    let references = count.1 in
    inr (n, first.2 refl, omega (arith, few, nodes, references), subst Q (first_references n heads) first.3)

-- a section was started, or the call failed on the way
pub started_moment : OneSystemNode → (a b : VolumeState) (at : LogAt) (from number n cmt_no : ℕ) (buds heads : List HeadAt) → IsLogReady a at.geo from at.lnum at.offs number buds → IsLogLeb at.geo from → next_leb at.geo at.lnum ≢ from → HasMapped a → AreSpelled number (section_nodes cmt_no heads)
    → Leaves a b (StartUnderWay a at n)
    → Leaves a b (λ left. IsOldOrMeant a (next_leb at.geo at.lnum) 0 number (section_nodes cmt_no heads) (left (next_leb at.geo at.lnum)) → IsLeftStarted left at from number buds (references_to heads))
started_moment one a b at from number n cmt_no buds heads h f free sub spelled time =
    let there = next_leb at.geo at.lnum in
    let nodes = section_nodes cmt_no heads in
    Leaves-more a b (StartUnderWay a at n) (λ left. IsOldOrMeant a there 0 number nodes (left there) → IsLeftStarted left at from number buds (references_to heads))
    (λ x u meant. started_left x at from number cmt_no buds heads
    (added_first one false a at from number n buds (commit_start (record { cmt_no = cmt_no })) (head_nodes heads) x (λ e. absurd cc) h f (λ e. absurd cc) (λ e. free) sub spelled (λ k in_log ne. u.0 k ne) (inr u.1) meant))
    time
