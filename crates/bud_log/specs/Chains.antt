-- Laws of texts that are read, where some LEB changes.
use Rattle.std.proofs.Common.{◌≡◌, ◌⊎◌, inl, inr, ℕ, ◌<◌, ◌≤◌, true, List, [], ◌∷◌, ◌++◌, Some, refl, ap, sym, ◌∙◌, subst, arith, append-nil, append_assoc}
use Rattle.std.specs.Prelude.{◌≢◌, IsTrue, fold}
use Rattle.std.proofs.lemmas.List.Sums.{fold-append}
use Rattle.ubifs_base.specs.declared.raw_geometry.RawGeometry.{RawGeometry}
use Rattle.media_sys.specs.declared.ref_node.RefNode.{RefNode}
use Rattle.leb_scan.specs.declared.found.Found.{Found}
use Rattle.bud_log.specs.Buds.{named_also, buds_of}
use Rattle.bud_log.specs.Log.{IsLogLeb, next_leb, Run, references_of}
use Rattle.bud_log.specs.LogText.{LogText, IsLogTextOf, begins_with, start_of, is_later}
use Rattle.bud_log.specs.Writing.{IsAmong, IsChain, last_end}
use Rattle.bud_log.specs.declared.log_end.LogEnd.{LogEnd}
use Rattle.bud_log.specs.LogLaws.{next_in}
use Rattle.bud_log.specs.Grown.{grown_text}
use Rattle.bud_log.specs.RingRuns.{lebs_left_of, fewer_left, run_then, references_then}

pub past_in : (c : ℕ → List ℕ) (geo : RawGeometry) (from number lnum past : ℕ) (texts : List LogText) → Run c geo from number lnum texts past → IsLogLeb geo lnum → IsLogLeb geo past
past_in c geo from number lnum past [] h l = let P : ℕ → Type 0 = λ n. IsLogLeb geo n in subst P h l
past_in c geo from number lnum past (text ∷ texts) h l = past_in c geo from number (next_leb geo lnum) past texts h.3 (next_in geo lnum l)

-- along a run fewer LEBs are left
run_fewer : (c : ℕ → List ℕ) (geo : RawGeometry) (from number lnum past : ℕ) (texts : List LogText) → IsLogLeb geo from → Run c geo from number lnum texts past → IsLogLeb geo lnum → lebs_left_of geo from past ≤ lebs_left_of geo from lnum
run_fewer c geo from number lnum past [] f h l = let P : ℕ → Type 0 = λ n. lebs_left_of geo from n ≤ lebs_left_of geo from lnum in subst P h (omega arith)
run_fewer c geo from number lnum past (text ∷ texts) f h l =
    let less = fewer_left geo from lnum f l h.0 in
    let rest = run_fewer c geo from number (next_leb geo lnum) past texts f h.3 (next_in geo lnum l) in
    omega (arith, less, rest)

among_fewer : (c : ℕ → List ℕ) (geo : RawGeometry) (from number lnum past k : ℕ) (texts : List LogText) → IsLogLeb geo from → Run c geo from number lnum texts past → IsLogLeb geo lnum → IsAmong k texts → lebs_left_of geo from k ≤ lebs_left_of geo from lnum
among_fewer c geo from number lnum past k [] f h l there = absurd there
among_fewer c geo from number lnum past k (text ∷ texts) f h l (inl same) = let P : ℕ → Type 0 = λ n. lebs_left_of geo from n ≤ lebs_left_of geo from lnum in subst P (sym (same ∙ h.1.here)) (omega arith)
among_fewer c geo from number lnum past k (text ∷ texts) f h l (inr there) =
    let less = fewer_left geo from lnum f l h.0 in
    let rest = among_fewer c geo from number (next_leb geo lnum) past k texts f h.3 (next_in geo lnum l) there in
    omega (arith, less, rest)

-- the LEB behind a run is none of its LEBs
pub past_other : (c : ℕ → List ℕ) (geo : RawGeometry) (from number lnum past k : ℕ) (texts : List LogText) → IsLogLeb geo from → Run c geo from number lnum texts past → IsLogLeb geo lnum → IsAmong k texts → lebs_left_of geo from past < lebs_left_of geo from k
past_other c geo from number lnum past k [] f h l there = absurd there
past_other c geo from number lnum past k (text ∷ texts) f h l (inl same) =
    let less = fewer_left geo from lnum f l h.0 in
    let rest = run_fewer c geo from number (next_leb geo lnum) past texts f h.3 (next_in geo lnum l) in
    let P : ℕ → Type 0 = λ n. lebs_left_of geo from past < lebs_left_of geo from n in
    subst P (sym (same ∙ h.1.here)) (omega (arith, less, rest))
past_other c geo from number lnum past k (text ∷ texts) f h l (inr there) = past_other c geo from number (next_leb geo lnum) past k texts f h.3 (next_in geo lnum l) there

-- the LEB behind a chain isn't read
pub past_free : (c : ℕ → List ℕ) (geo : RawGeometry) (from start past : ℕ) (first : LogText) (more : List LogText) → IsLogLeb geo from → IsChain c geo from start first more past → past ≢ from → IsAmong past (first ∷ more) → ⊥
past_free c geo from start past first more f h ne (inl same) = ne (same ∙ h.is_first.here)
past_free c geo from start past first more f h ne (inr there) = let less = past_other c geo from start (next_leb geo from) past past more f h.run (next_in geo from f) there in absurd (omega (arith, less))

pub chain_past : (c : ℕ → List ℕ) (geo : RawGeometry) (from start past : ℕ) (first : LogText) (more : List LogText) → IsLogLeb geo from → IsChain c geo from start first more past → IsLogLeb geo past
chain_past c geo from start past first more f h = past_in c geo from start (next_leb geo from) past more h.run (next_in geo from f)

-- one LEB more
pub chain_more : (c : ℕ → List ℕ) (geo : RawGeometry) (from start past : ℕ) (first : LogText) (more : List LogText) (text : LogText) → IsChain c geo from start first more past → past ≢ from → IsLogTextOf (c past) past text
    → IsTrue (is_later start (begins_with text.nodes)) → IsChain c geo from start first (more ++ text ∷ []) (next_leb geo past)
chain_more c geo from start past first more text h ne is later = record { is_first = h.is_first; starts = h.starts; run = run_then c geo from start (next_leb geo from) past more text h.run ne is later }

-- the last text, changed
abbrev pub last_first : (LogText → LogText) → LogText → List LogText → LogText
last_first f first [] = f first
last_first f first (text ∷ texts) = first

abbrev pub last_more : (LogText → LogText) → List LogText → List LogText
last_more f [] = []
last_more f (text ∷ []) = f text ∷ []
last_more f (text ∷ (other ∷ texts)) = text ∷ last_more f (other ∷ texts)

pub last_among : (first : LogEnd) (text : LogText) (texts : List LogText) (ends : LogEnd) → last_end first (text ∷ texts) ≡ ends → IsAmong ends.lnum (text ∷ texts)
last_among first text [] ends h = inl (sym (ap (λ (e : LogEnd). e.lnum) h))
last_among first text (other ∷ texts) ends h = inr (last_among text.ends other texts ends h)

later_grown : (number : ℕ) (nodes more : List Found) → is_later number (begins_with nodes) ≡ true → is_later number (begins_with (nodes ++ more)) ≡ true
later_grown number [] more h = absurd cc
later_grown number (found ∷ nodes) more h = h

start_grown : (start : ℕ) (nodes more : List Found) → start_of (begins_with nodes) ≡ Some start → start_of (begins_with (nodes ++ more)) ≡ Some start
start_grown start [] more h = absurd cc
start_grown start (found ∷ nodes) more h = h

-- a run doesn't go through its first LEB again
among_not_from : (c : ℕ → List ℕ) (geo : RawGeometry) (from number lnum past k : ℕ) (texts : List LogText) → Run c geo from number lnum texts past → IsAmong k texts → k ≢ from
among_not_from c geo from number lnum past k [] h there = absurd there
among_not_from c geo from number lnum past k (text ∷ texts) h (inl same) = λ e. h.0 (sym h.1.here ∙ sym same ∙ e)
among_not_from c geo from number lnum past k (text ∷ texts) h (inr there) = among_not_from c geo from number (next_leb geo lnum) past k texts h.3 there

-- what comes behind the end of the text of one LEB, from contents before to contents after: nodes with their references, and where the text ends then
pub record Growth : Type 0 where
  pub before : ℕ → List ℕ
  pub after : ℕ → List ℕ
  pub behind : LogEnd
  pub nodes : List Found
  pub references : List RefNode
  pub ends : LogEnd

-- a text with that
abbrev pub log_text_grown : Growth → LogText → LogText
log_text_grown g text = grown_text text g.nodes g.references g.ends

-- the text of this LEB that ends there grows so
abbrev pub Grows : Growth → Type 0
Grows g = (text : LogText) → IsLogTextOf (g.before g.behind.lnum) g.behind.lnum text → text.ends ≡ g.behind → IsLogTextOf (g.after g.behind.lnum) g.behind.lnum (log_text_grown g text)

run_grown : (g : Growth) (geo : RawGeometry) (from number lnum past : ℕ) (text : LogText) (texts : List LogText) → IsLogLeb geo from → IsLogLeb geo lnum
    → Run g.before geo from number lnum (text ∷ texts) past → last_end text.ends texts ≡ g.behind → ((k : ℕ) → k ≢ g.behind.lnum → IsAmong k (text ∷ texts) → g.before k ≡ g.after k) → Grows g
    → Run g.after geo from number lnum (last_more (log_text_grown g) (text ∷ texts)) past
run_grown g geo from number lnum past text [] f l h last same grows =
    let here : g.behind.lnum ≡ lnum = sym (ap (λ (e : LogEnd). e.lnum) last) ∙ h.1.here in
    let P : ℕ → Type 0 = λ n. IsLogTextOf (g.before n) n text in
    let Q : ℕ → Type 0 = λ n. IsLogTextOf (g.after n) n (log_text_grown g text) in
    (h.0, subst Q here (grows text (subst P (sym here) h.1) last), later_grown number text.nodes g.nodes h.2, h.3)
run_grown g geo from number lnum past text (other ∷ texts) f l h last same grows =
    let old = g.behind in
    let there = last_among text.ends other texts old last in
    let less = fewer_left geo from lnum f l h.0 in
    let rest = among_fewer g.before geo from number (next_leb geo lnum) past old.lnum (other ∷ texts) f h.3 (next_in geo lnum l) there in
    let ne : lnum ≢ old.lnum = λ e. let P : ℕ → Type 0 = λ n. lebs_left_of geo from n ≤ lebs_left_of geo from (next_leb geo lnum) in let again = subst P (sym e) rest in absurd (omega (arith, less, again)) in
    let P : List ℕ → Type 0 = λ leb. IsLogTextOf leb lnum text in (
      h.0,
      subst P (same lnum ne (inl (sym h.1.here))) h.1,
      h.2,
      run_grown g geo from number (next_leb geo lnum) past other texts f (next_in geo lnum l) h.3 last (λ k n there. same k n (inr there)) grows,
    )

-- the last text grows
pub chain_grown : (g : Growth) (geo : RawGeometry) (from start past : ℕ) (first : LogText) (more : List LogText) → IsLogLeb geo from
    → IsChain g.before geo from start first more past → last_end first.ends more ≡ g.behind → ((k : ℕ) → k ≢ g.behind.lnum → IsAmong k (first ∷ more) → g.before k ≡ g.after k) → Grows g
    → IsChain g.after geo from start (last_first (log_text_grown g) first more) (last_more (log_text_grown g) more) past
chain_grown g geo from start past first [] f h last same grows =
    let here : g.behind.lnum ≡ from = sym (ap (λ (e : LogEnd). e.lnum) last) ∙ h.is_first.here in
    let P : ℕ → Type 0 = λ n. IsLogTextOf (g.before n) n first in
    let Q : ℕ → Type 0 = λ n. IsLogTextOf (g.after n) n (log_text_grown g first) in
    record { is_first = subst Q here (grows first (subst P (sym here) h.is_first) last); starts = start_grown start first.nodes g.nodes h.starts; run = h.run }
chain_grown g geo from start past first (text ∷ texts) f h last same grows =
    let there = last_among first.ends text texts g.behind last in
    let other = among_not_from g.before geo from start (next_leb geo from) past g.behind.lnum (text ∷ texts) h.run there in
    let P : List ℕ → Type 0 = λ leb. IsLogTextOf leb from first in
    record {
      is_first = subst P (same from (λ e. other (sym e)) (inl (sym h.is_first.here))) h.is_first;
      starts = h.starts;
      run = run_grown g geo from start (next_leb geo from) past text texts f (next_in geo from f) h.run last (λ k n there. same k n (inr there)) grows;
    }

references_more : (text : LogText) (texts : List LogText) (nodes : List Found) (references : List RefNode) (ends : LogEnd)
    → references_of (last_more (λ (t : LogText). grown_text t nodes references ends) (text ∷ texts)) ≡ references_of (text ∷ texts) ++ references
references_more text [] nodes references ends = append-nil (text.references ++ references) ∙ ap (λ (r : List RefNode). r ++ references) (sym (append-nil text.references))
references_more text (other ∷ texts) nodes references ends =
    ap (λ (r : List RefNode). text.references ++ r) (references_more other texts nodes references ends) ∙ sym (append_assoc text.references (references_of (other ∷ texts)) references)

pub references_grown : (first : LogText) (more : List LogText) (nodes : List Found) (references : List RefNode) (ends : LogEnd)
    → let f : LogText → LogText = λ t. grown_text t nodes references ends in
    references_of (last_first f first more ∷ last_more f more) ≡ references_of (first ∷ more) ++ references
references_grown first [] nodes references ends = append-nil (first.references ++ references) ∙ ap (λ (r : List RefNode). r ++ references) (sym (append-nil first.references))
references_grown first (text ∷ texts) nodes references ends =
    ap (λ (r : List RefNode). first.references ++ r) (references_more text texts nodes references ends) ∙ sym (append_assoc first.references (references_of (text ∷ texts)) references)

last_end_more : (first : LogEnd) (text : LogText) (texts : List LogText) (nodes : List Found) (references : List RefNode) (ends : LogEnd) → last_end first (last_more (λ (t : LogText). grown_text t nodes references ends) (text ∷ texts)) ≡ ends
last_end_more first text [] nodes references ends = refl
last_end_more first text (other ∷ texts) nodes references ends = last_end_more text.ends other texts nodes references ends

pub last_end_grown : (first : LogText) (more : List LogText) (nodes : List Found) (references : List RefNode) (ends : LogEnd)
    → let f : LogText → LogText = λ t. grown_text t nodes references ends in
    last_end (last_first f first more).ends (last_more f more) ≡ ends
last_end_grown first [] nodes references ends = refl
last_end_grown first (text ∷ texts) nodes references ends = last_end_more first.ends text texts nodes references ends

among_more : (k : ℕ) (text : LogText) (texts : List LogText) (nodes : List Found) (references : List RefNode) (ends : LogEnd) → (last_end text.ends texts).lnum ≡ ends.lnum
    → (IsAmong k (last_more (λ (t : LogText). grown_text t nodes references ends) (text ∷ texts)) → IsAmong k (text ∷ texts)) × (IsAmong k (text ∷ texts) → IsAmong k (last_more (λ (t : LogText). grown_text t nodes references ends) (text ∷ texts)))
among_more k text [] nodes references ends e = (
  λ h. elim h [ inl same ↦ inl (same ∙ sym e) | inr none ↦ inr none ],
  λ h. elim h [ inl same ↦ inl (same ∙ e) | inr none ↦ inr none ],
)
among_more k text (other ∷ texts) nodes references ends e =
    let rest = among_more k other texts nodes references ends e in (
      λ h. elim h [ inl same ↦ inl same | inr there ↦ inr (rest.0 there) ],
      λ h. elim h [ inl same ↦ inl same | inr there ↦ inr (rest.1 there) ],
    )

-- the LEBs are the same
pub among_grown : (k : ℕ) (first : LogText) (more : List LogText) (nodes : List Found) (references : List RefNode) (ends : LogEnd) → (last_end first.ends more).lnum ≡ ends.lnum
    → let f : LogText → LogText = λ t. grown_text t nodes references ends in
    (IsAmong k (last_first f first more ∷ last_more f more) → IsAmong k (first ∷ more)) × (IsAmong k (first ∷ more) → IsAmong k (last_first f first more ∷ last_more f more))
among_grown k first [] nodes references ends e = (
  λ h. elim h [ inl same ↦ inl (same ∙ sym e) | inr none ↦ inr none ],
  λ h. elim h [ inl same ↦ inl (same ∙ e) | inr none ↦ inr none ],
)
among_grown k first (text ∷ texts) nodes references ends e =
    let rest = among_more k text texts nodes references ends e in (
      λ h. elim h [ inl same ↦ inl same | inr there ↦ inr (rest.0 there) ],
      λ h. elim h [ inl same ↦ inl same | inr there ↦ inr (rest.1 there) ],
    )

-- the buds of references behind others
pub buds_behind : (nodes more : List RefNode) → buds_of (nodes ++ more) ≡ fold named_also (buds_of nodes) more
buds_behind nodes more = fold-append named_also [] nodes more

-- one LEB more, of these references
pub references_added : (first : LogText) (more : List LogText) (text : LogText) → references_of (first ∷ (more ++ text ∷ [])) ≡ references_of (first ∷ more) ++ text.references
references_added first more text = ap (λ (r : List RefNode). first.references ++ r) (references_then more text) ∙ sym (append_assoc first.references (references_of more) text.references)

pub last_end_added : (first : LogEnd) (more : List LogText) (text : LogText) → last_end first (more ++ text ∷ []) ≡ text.ends
last_end_added first [] text = refl
last_end_added first (other ∷ more) text = last_end_added other.ends more text

pub among_added : (k : ℕ) (more : List LogText) (text : LogText) → (IsAmong k (more ++ text ∷ []) → IsAmong k more ⊎ (k ≡ text.ends.lnum)) × (IsAmong k more ⊎ (k ≡ text.ends.lnum) → IsAmong k (more ++ text ∷ []))
among_added k [] text = (λ h. elim h [ inl same ↦ inr same | inr none ↦ inl none ], λ h. elim h [ inl none ↦ inr none | inr same ↦ inl same ])
among_added k (other ∷ more) text =
    let rest = among_added k more text in (
      λ h. elim h [ inl same ↦ inl (inl same) | inr there ↦ elim (rest.0 there) [ inl old ↦ inl (inr old) | inr same ↦ inr same ] ],
      λ h. elim h [ inl old ↦ elim old [ inl same ↦ inl same | inr there ↦ inr (rest.1 (inl there)) ] | inr same ↦ inr (rest.1 (inr same)) ],
    )
