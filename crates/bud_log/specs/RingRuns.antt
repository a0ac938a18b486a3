-- Texts that are read round the ring, one behind another.
use Rattle.std.proofs.Common.{◌≡◌, ◌⊎◌, inl, inr, ℕ, ◌+◌, ◌-◌, ◌<◌, ◌≤◌, nat_lt, Bool, true, false, max, List, [], ◌∷◌, ◌++◌, refl, ap, sym, ◌∙◌, subst, arith, append-nil, append_assoc, Option, Some, None}
use Rattle.std.specs.Prelude.{◌≢◌, if◌then◌else◌, IsTrue, fold}
use Rattle.std.proofs.lemmas.Bool.{cases_lt, lt-ltb, le-ltb}
use Rattle.std.proofs.Math.Nat.{zero-max}
use Rattle.std.proofs.lemmas.List.Sums.{fold-append}
use Rattle.ubifs_base.specs.Areas.{lpt_first}
use Rattle.ubifs_base.specs.NodeLaws.{IsBytes}
use Rattle.ubifs_base.specs.declared.raw_geometry.RawGeometry.{RawGeometry}
use Rattle.media_sys.specs.declared.ref_node.RefNode.{RefNode}
use Rattle.leb_scan.specs.Text.{IsText, nodes_of}
use Rattle.leb_scan.specs.declared.found.Found.{Found}
use Rattle.leb_scan.specs.declared.item.Item.{Item}
use Rattle.leb_scan.specs.declared.tail.Tail.{Tail}
use Rattle.bud_log.specs.Buds.{named_also}
use Rattle.bud_log.specs.Log.{IsLogLeb, next_leb, Run, Stops, AreFurther, references_of, greatest_of, log_end_of, IsLog}
use Rattle.bud_log.specs.LogText.{LogText, Refer, IsLogTextOf, begins_with, start_of, BeginsCommit, is_later, greatest_found, is_start_alone}
use Rattle.bud_log.specs.Seen.{IsSeen, AreNamed, IsTaken, IsPassed, IsReadOn}
use Rattle.bud_log.specs.declared.head_at.HeadAt.{HeadAt}
use Rattle.bud_log.specs.declared.log_end.LogEnd.{LogEnd}
use Rattle.bud_log.specs.declared.read_to.ReadTo.{ReadTo}
use Rattle.bud_log.specs.declared.seen.Seen.{Seen}
use Rattle.bud_log.specs.References.{some_references}

-- bytes have at most one text
abbrev pub OneLebText : Type 0
OneLebText = (leb : List ℕ) (from end1 end2 : ℕ) (items1 items2 : List Item) (tail1 tail2 : Tail) → IsBytes leb
    → IsText leb from items1 end1 tail1 → IsText leb from items2 end2 tail2 → (items1 ≡ items2) × (end1 ≡ end2) × (tail1 ≡ tail2)

pub ends_same : (l1 l2 o1 o2 : ℕ) (t1 t2 : Tail) → l1 ≡ l2 → o1 ≡ o2 → t1 ≡ t2
    → let a : LogEnd = record { lnum = l1; offs = o1; tail = t1 } in
    let b : LogEnd = record { lnum = l2; offs = o2; tail = t2 } in
    a ≡ b
ends_same l1 l2 o1 o2 t1 t2 l o t = rw (l, o, t) refl

-- how many log LEBs lie before the first again
abbrev pub lebs_left_of : RawGeometry → ℕ → ℕ → ℕ
lebs_left_of geo from lnum = if nat_lt from lnum then (from + lpt_first geo) - (lnum + 3) else from - lnum

-- one LEB that isn't the first is before it or behind it
below_or_above : (lnum from : ℕ) → lnum ≢ from → (lnum < from) ⊎ (from < lnum)
below_or_above lnum from ne = elim (cases_lt lnum from) [
  | inl below ↦ inl below
  | inr above ↦ elim (cases_lt from lnum) [ inl more ↦ inr more | inr other ↦ absurd (ne (omega (arith, above, other))) ]
]

pub left_below : (geo : RawGeometry) (from lnum : ℕ) → lnum ≤ from → lebs_left_of geo from lnum ≡ from - lnum
left_below geo from lnum h = rw (le-ltb from lnum h) refl

pub left_above : (geo : RawGeometry) (from lnum : ℕ) → from < lnum → lebs_left_of geo from lnum ≡ (from + lpt_first geo) - (lnum + 3)
left_above geo from lnum h = rw (lt-ltb from lnum h) refl

pub next_here : (geo : RawGeometry) (lnum : ℕ) → lnum + 1 < lpt_first geo → next_leb geo lnum ≡ lnum + 1
next_here geo lnum h = rw (lt-ltb (lnum + 1) (lpt_first geo) h) refl

pub next_round : (geo : RawGeometry) (lnum : ℕ) → lpt_first geo ≤ lnum + 1 → next_leb geo lnum ≡ 3
next_round geo lnum h = rw (le-ltb (lnum + 1) (lpt_first geo) h) refl

-- one step round the ring
pub fewer_left : (geo : RawGeometry) (from lnum : ℕ) → IsLogLeb geo from → IsLogLeb geo lnum → lnum ≢ from → lebs_left_of geo from (next_leb geo lnum) < lebs_left_of geo from lnum
fewer_left geo from lnum f l ne =
    let f1 = f.low in
    let f2 = f.high in
    let l1 = l.low in
    let l2 = l.high in
    elim (cases_lt (lnum + 1) (lpt_first geo)) [
      | inl here ↦
          elim (below_or_above lnum from ne) [
            | inl below ↦ rw (next_here geo lnum here, left_below geo from (lnum + 1) (omega (arith, below)), left_below geo from lnum (omega (arith, below))) (omega (arith, below))
            | inr above ↦
                rw (next_here geo lnum here, left_above geo from (lnum + 1) (omega (arith, above)), left_above geo from lnum above) (omega (arith, above, here, f1, l1))
          ]
      | inr round ↦
          elim (below_or_above lnum from ne) [
            | inl below ↦ absurd (omega (arith, below, round, f2))
            | inr above ↦ rw (next_round geo lnum round, left_below geo from 3 f1, left_above geo from lnum above) (omega (arith, above, f1, f2, l1, l2))
          ]
    ]

-- one text more
pub run_then : (contents : ℕ → List ℕ) (geo : RawGeometry) (from number lnum past : ℕ) (texts : List LogText) (text : LogText) → Run contents geo from number lnum texts past → past ≢ from
    → IsLogTextOf (contents past) past text → IsTrue (is_later number (begins_with text.nodes)) → Run contents geo from number lnum (texts ++ text ∷ []) (next_leb geo past)
run_then contents geo from number lnum past [] text run ne is later =
    let P : ℕ → Type 0 = λ n. (n ≢ from) × IsLogTextOf (contents n) n text × IsTrue (is_later number (begins_with text.nodes)) × (next_leb geo n ≡ next_leb geo past) in
    subst P (sym run) (ne, is, later, refl)
run_then contents geo from number lnum past (first ∷ texts) text run ne is later = (run.0, run.1, run.2, run_then contents geo from number (next_leb geo lnum) past texts text run.3 ne is later)

pub references_then : (texts : List LogText) (text : LogText) → references_of (texts ++ text ∷ []) ≡ references_of texts ++ text.references
references_then [] text = append-nil text.references
references_then (first ∷ texts) text = ap (λ (r : List RefNode). first.references ++ r) (references_then texts text) ∙ sym (append_assoc first.references (references_of texts) text.references)

-- where the last text ends
abbrev pub last_end_of : LogEnd → List LogText → LogEnd
last_end_of first [] = first
last_end_of first (text ∷ texts) = last_end_of text.ends texts

pub last_then : (first : LogEnd) (texts : List LogText) (text : LogText) → last_end_of first (texts ++ text ∷ []) ≡ text.ends
last_then first [] text = refl
last_then first (other ∷ texts) text = last_then other.ends texts text

pub end_then : (first : LogEnd) (texts : List LogText) (text : LogText) → log_end_of first (texts ++ text ∷ []) ≡ (if is_start_alone text.nodes then last_end_of first texts else text.ends)
end_then first [] text = refl
end_then first (other ∷ []) text = refl
end_then first (other ∷ (another ∷ texts)) text = end_then other.ends (another ∷ texts) text

-- what the loop over the ring keeps
pub record IsReadSoFar (contents : ℕ → List ℕ) (geo : RawGeometry) (from number : ℕ) (first : ReadTo) (old new : List HeadAt) (lnum : ℕ) (last : LogEnd) (read : ReadTo) : Type 0 where
  pub more : List LogText
  pub run : Run contents geo from number (next_leb geo from) more lnum
  pub named_are : new ≡ fold named_also old (references_of more)
  pub sqnum_is : read.sqnum ≡ greatest_of first.sqnum more
  pub last_is : last ≡ last_end_of first.end more
  pub end_is : read.end ≡ log_end_of first.end more

pub so_far_first : (contents : ℕ → List ℕ) (geo : RawGeometry) (from number lnum : ℕ) (first : ReadTo) (old : List HeadAt) → lnum ≡ next_leb geo from → IsReadSoFar contents geo from number first old old lnum first.end first
so_far_first contents geo from number lnum first old h = record { more = []; run = sym h; named_are = refl; sqnum_is = refl; last_is = refl; end_is = refl }

-- where a text ends, as it was seen
same_end : (lnum : ℕ) (seen : Seen) (here ends : LogEnd) → here.lnum ≡ lnum → here.offs ≡ seen.offs → here.tail ≡ seen.tail → ends.lnum ≡ lnum → seen.offs ≡ ends.offs → seen.tail ≡ ends.tail → here ≡ ends
same_end lnum seen here ends h1 h2 h3 e1 e2 e3 = ends_same here.lnum ends.lnum here.offs ends.offs here.tail ends.tail (h1 ∙ sym e1) (h2 ∙ e2) (h3 ∙ e3)

pub taken_ends : (leb : List ℕ) (lnum : ℕ) (old new : List HeadAt) (seen : Seen) (here : LogEnd) (h : IsTaken leb lnum old new seen) → here.lnum ≡ lnum → here.offs ≡ seen.offs → here.tail ≡ seen.tail → here ≡ h.text.ends
taken_ends leb lnum old new seen here h h1 h2 h3 = same_end lnum seen here h.text.ends h1 h2 h3 h.is_text.here h.offs h.tail

pub so_far_next : (contents : ℕ → List ℕ) (geo : RawGeometry) (from number lnum next : ℕ) (first : ReadTo) (old now new : List HeadAt) (last here : LogEnd) (read past : ReadTo) (seen : Seen)
    → IsReadSoFar contents geo from number first old now lnum last read → lnum ≢ from → IsTaken (contents lnum) lnum now new seen → is_later number seen.begins ≡ true
    → here.lnum ≡ lnum → here.offs ≡ seen.offs → here.tail ≡ seen.tail → past.end ≡ (if seen.alone then last else here) → past.sqnum ≡ max read.sqnum seen.sqnum → next ≡ next_leb geo lnum
    → IsReadSoFar contents geo from number first old new next here past
so_far_next contents geo from number lnum next first old now new last here read past seen h ne taken later h1 h2 h3 past_is sqnum_is next_is =
    let text = taken.text in
    let here_is : here ≡ text.ends = taken_ends (contents lnum) lnum now new seen here taken h1 h2 h3 in
    let is_it : is_later number (begins_with text.nodes) ≡ true = ap (is_later number) (sym taken.begins) ∙ later in
    let P : ℕ → Type 0 = λ n. Run contents geo from number (next_leb geo from) (h.more ++ text ∷ []) n in
    record {
      more = h.more ++ text ∷ [];
      run = subst P (sym next_is) (run_then contents geo from number (next_leb geo from) lnum h.more text h.run ne taken.is_text is_it);
      named_are = taken.named_are ∙ ap (λ (x : List HeadAt). fold named_also x text.references) h.named_are ∙ sym (fold-append named_also old (references_of h.more) text.references) ∙ ap (fold named_also old) (sym (references_then h.more text));
      sqnum_is = sqnum_is ∙ ap (λ (n : ℕ). max n seen.sqnum) h.sqnum_is ∙ ap (max (greatest_of first.sqnum h.more)) taken.sqnum
          ∙ sym (fold-append (λ n (t : LogText). max n (greatest_found t.nodes)) first.sqnum h.more (text ∷ []));
      last_is = here_is ∙ sym (last_then first.end h.more text);
      end_is = past_is ∙ ap (λ (b : Bool). if b then last else here) taken.alone ∙ ap (λ (e : LogEnd). if is_start_alone text.nodes then last else e) here_is
          ∙ ap (λ (e : LogEnd). if is_start_alone text.nodes then e else text.ends) h.last_is ∙ sym (end_then first.end h.more text);
    }

-- at the first LEB again, or at one that isn't read
pub read_round : (contents : ℕ → List ℕ) (geo : RawGeometry) (from number lnum : ℕ) (first : ReadTo) (old new : List HeadAt) (last : LogEnd) (read : ReadTo) → IsReadSoFar contents geo from number first old new lnum last read → lnum ≡ from
    → IsReadOn contents geo from number first old new read
read_round contents geo from number lnum first old new last read h e = record { more = h.more; past = lnum; run = h.run; stops = inl e; named_are = h.named_are; sqnum_is = h.sqnum_is; end_is = h.end_is }

pub read_passed : (contents : ℕ → List ℕ) (geo : RawGeometry) (from number lnum : ℕ) (first : ReadTo) (old now new : List HeadAt) (last : LogEnd) (read : ReadTo) → IsReadSoFar contents geo from number first old now lnum last read
    → IsPassed (contents lnum) lnum number → new ≡ now → IsReadOn contents geo from number first old new read
read_passed contents geo from number lnum first old now new last read h passed e = record {
  more = h.more;
  past = lnum;
  run = h.run;
  stops = inr (passed.text, passed.is_text, passed.not_later);
  named_are = e ∙ h.named_are;
  sqnum_is = h.sqnum_is;
  end_is = h.end_is;
}

-- one text was seen and named
pub text_taken_of : OneLebText → (leb : List ℕ) (lnum : ℕ) (old new : List HeadAt) (seen : Seen) → IsBytes leb → IsSeen leb seen → AreNamed leb old new → IsTaken leb lnum old new seen
text_taken_of one leb lnum old new seen fits s n =
    let same = one leb 0 n.offs seen.offs n.items s.items n.tail seen.tail fits n.is_text s.is_text in
    let P : List Item → Type 0 = λ items. Refer leb (nodes_of items) n.references in
    record {
      text = record { nodes = nodes_of s.items; references = n.references; ends = record { lnum = lnum; offs = seen.offs; tail = seen.tail } };
      is_text = record { items = s.items; is_text = s.is_text; here = refl; nodes = refl; refer = subst P same.0 n.refer };
      begins = s.begins;
      alone = s.alone;
      sqnum = s.sqnum;
      offs = refl;
      tail = refl;
      named_are = n.named_are;
    }

-- the whole log
pub log_alone : (contents : ℕ → List ℕ) (geo : RawGeometry) (from : ℕ) (commit : Option ℕ) (seen : Seen) (new : List HeadAt) (end : LogEnd) → BeginsCommit (contents from) seen.begins commit → IsTaken (contents from) from [] new seen → start_of seen.begins ≡ None
    → end.lnum ≡ from → end.offs ≡ seen.offs → end.tail ≡ seen.tail → IsLog contents geo from (record { commit = commit; buds = new; sqnum = seen.sqnum; ends = end })
log_alone contents geo from commit seen new end begins h none e1 e2 e3 =
    let P : Option ℕ → Type 0 = λ o. AreFurther contents geo from o [] in
    let Q : Option Found → Type 0 = λ o. BeginsCommit (contents from) o commit in
    record {
      first = h.text;
      more = [];
      is_first = h.is_text;
      commit = subst Q h.begins begins;
      are_further = subst P (sym (ap start_of (sym h.begins) ∙ none)) refl;
      buds = h.named_are ∙ ap (fold named_also []) (sym (append-nil h.text.references));
      sqnum = h.sqnum ∙ sym (zero-max (greatest_found h.text.nodes));
      ends = taken_ends (contents from) from [] new seen end h e1 e2 e3;
    }

pub log_further : (contents : ℕ → List ℕ) (geo : RawGeometry) (from number : ℕ) (commit : Option ℕ) (seen : Seen) (now new : List HeadAt) (first read : ReadTo) → BeginsCommit (contents from) seen.begins commit → IsTaken (contents from) from [] now seen → start_of seen.begins ≡ Some number
    → first.end.lnum ≡ from → first.end.offs ≡ seen.offs → first.end.tail ≡ seen.tail → first.sqnum ≡ seen.sqnum → IsReadOn contents geo from number first now new read → IsLog contents geo from (record { commit = commit; buds = new; sqnum = read.sqnum; ends = read.end })
log_further contents geo from number commit seen now new first read begins h some e1 e2 e3 e4 k =
    let P : Option ℕ → Type 0 = λ o. AreFurther contents geo from o k.more in
    let Q : Option Found → Type 0 = λ o. BeginsCommit (contents from) o commit in
    record {
      first = h.text;
      more = k.more;
      is_first = h.is_text;
      commit = subst Q h.begins begins;
      are_further = subst P (sym (ap start_of (sym h.begins) ∙ some)) (k.past, k.run, k.stops);
      buds = k.named_are ∙ ap (λ (x : List HeadAt). fold named_also x (references_of k.more)) h.named_are ∙ sym (fold-append named_also [] h.text.references (references_of k.more));
      sqnum = k.sqnum_is ∙ ap (λ (n : ℕ). greatest_of n k.more) (e4 ∙ h.sqnum ∙ sym (zero-max (greatest_found h.text.nodes)));
      ends = k.end_is ∙ ap (λ (e : LogEnd). log_end_of e k.more) (taken_ends (contents from) from [] now seen first.end h e1 e2 e3);
    }

-- one text was seen, and isn't read
pub passed_of : (leb : List ℕ) (lnum number : ℕ) (seen : Seen) (later : Bool) → IsSeen leb seen → later ≡ is_later number seen.begins → later ≡ false → IsPassed leb lnum number
passed_of leb lnum number seen later s e not_later =
    let some = some_references leb s.items 0 seen.offs s.is_text.stand in
    record {
      text = record { nodes = nodes_of s.items; references = some.0; ends = record { lnum = lnum; offs = seen.offs; tail = seen.tail } };
      is_text = record { items = s.items; is_text = s.is_text; here = refl; nodes = refl; refer = some.1 };
      not_later = ap (is_later number) (sym s.begins) ∙ sym e ∙ not_later;
    }

-- contents that are alike, LEB by LEB
run_moved : (c d : ℕ → List ℕ) (geo : RawGeometry) (from number lnum past : ℕ) (texts : List LogText) → ((k : ℕ) → c k ≡ d k) → Run c geo from number lnum texts past → Run d geo from number lnum texts past
run_moved c d geo from number lnum past [] same h = h
run_moved c d geo from number lnum past (text ∷ texts) same h =
    let P : List ℕ → Type 0 = λ leb. IsLogTextOf leb lnum text in
    (h.0, subst P (same lnum) h.1, h.2, run_moved c d geo from number (next_leb geo lnum) past texts same h.3)

stops_moved : (c d : ℕ → List ℕ) (from number past : ℕ) → ((k : ℕ) → c k ≡ d k) → Stops c from number past → Stops d from number past
stops_moved c d from number past same (inl e) = inl e
stops_moved c d from number past same (inr (text, is, not_later)) = let P : List ℕ → Type 0 = λ leb. IsLogTextOf leb past text in inr (text, subst P (same past) is, not_later)

pub read_moved : (c d : ℕ → List ℕ) (geo : RawGeometry) (from number : ℕ) (first : ReadTo) (old new : List HeadAt) (read : ReadTo) → ((k : ℕ) → c k ≡ d k) → IsReadOn c geo from number first old new read → IsReadOn d geo from number first old new read
read_moved c d geo from number first old new read same h = record {
  more = h.more;
  past = h.past;
  run = run_moved c d geo from number (next_leb geo from) h.past h.more same h.run;
  stops = stops_moved c d from number h.past same h.stops;
  named_are = h.named_are;
  sqnum_is = h.sqnum_is;
  end_is = h.end_is;
}
