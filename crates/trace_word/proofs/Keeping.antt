-- The rule after a change of the recorder's, of one guest, or of how many there are.
use Rattle.std.proofs.Common.{◌≡◌, ℕ, ◌+◌, ◌<◌, ◌≤◌, ltb, Bool, true, false, cond, List, [], ◌∷◌, ◌++◌, length, length-append, set, refl, ap, sym, ◌∙◌, arith, eq-eqb, ne_eqb}
use Rattle.std.proofs.lemmas.List.Sums.{sum_by-cons, sum_by-append}
use Rattle.std.proofs.lemmas.List.Elements.{All-set, All-append, All-cons, All-nil, All-weaker, All-contains, All-push}
use mathlib.Core.List.{IsPrefix}
use mathlib.Core.Logic.{dite}
use mathlib.Core.Option.{some}
use native.Mathlib.Decide.{ℕ_discrete}
use lib.ListN.{get_elem?}
use Rattle.fs_model.specs.declared.trace.TraceLine.{TraceLine}
use Rattle.trace_word.specs.Knowledge.{lines_of}
use Rattle.trace_word.specs.declared.view.Known.{Known}
use Rattle.trace_word.specs.declared.view.RecorderView.{RecorderView}
use Rattle.trace_word.specs.declared.view.GuestView.{GuestView}
use Rattle.trace_word.specs.Knowledge.{none_known, known_joined, known_told, with_line, note_of, claim_note, MayAppend}
use Rattle.trace_word.specs.Rule.{passes_of, claims_of, FitsTrace, IsTraceKept}
use Rattle.trace_word.proofs.Prefixes.{prefix_self, prefix_push, prefix_trans}
use Rattle.trace_word.proofs.Counting.{one, is_for, claim_for, of_line, sum_there, lines_push}

-- what fits still fits where the trace is longer and more is claimed
pub fit_grows : (trace more : List TraceLine) (guests later : List GuestView) (k : Known) → FitsTrace trace guests k → IsPrefix trace more → ((c : ℕ) → claims_of c guests ≤ claims_of c later) → FitsTrace more later k
fit_grows trace more guests later k fit pre up = record {
  begins = prefix_trans k.seen trace more fit.begins pre;
  began = All-weaker (λ (e : List TraceLine). IsPrefix e trace) (λ (e : List TraceLine). IsPrefix e more) (λ e p. prefix_trans e trace more p pre) k.earlier fit.began;
  fair = All-weaker (λ (s : ℕ × ℕ). s.1 ≤ claims_of s.0 guests) (λ (s : ℕ × ℕ). s.1 ≤ claims_of s.0 later) (λ s le. let u = up s.0 in omega arith) k.shown fit.fair;
}

one_of : (P : List TraceLine → Type 0) (xs ys : List TraceLine) → P xs → P ys → (b : Bool) → P (cond b xs ys)
one_of P xs ys p q true = p
one_of P xs ys p q false = q

pub fit_joined : (trace : List TraceLine) (guests : List GuestView) (k n : Known) → FitsTrace trace guests k → FitsTrace trace guests n → FitsTrace trace guests (known_joined k n)
fit_joined trace guests k n f g = let P : List TraceLine → Type 0 = λ e. IsPrefix e trace in record {
  begins = one_of P k.seen n.seen f.begins g.begins (ltb (length n.seen) (length k.seen));
  began = All-append P k.earlier (k.seen ∷ n.seen ∷ []) f.began (All-cons P k.seen (n.seen ∷ []) f.begins (All-cons P n.seen [] g.begins (All-nil P)));
  fair = All-append (λ (s : ℕ × ℕ). s.1 ≤ claims_of s.0 guests) k.shown n.shown f.fair g.fair;
}

-- who knows nothing fits
pub fit_none : (trace : List TraceLine) (guests : List GuestView) → FitsTrace trace guests none_known
fit_none trace guests = record {
  begins = (trace, refl);
  began = All-nil (λ (e : List TraceLine). IsPrefix e trace);
  fair = All-nil (λ (s : ℕ × ℕ). s.1 ≤ claims_of s.0 guests);
}

pub fit_note : (trace : List TraceLine) (guests : List GuestView) (k : Known) → FitsTrace trace guests k → FitsTrace trace guests (note_of k)
fit_note trace guests k f = record { begins = f.begins; began = All-nil (λ (e : List TraceLine). IsPrefix e trace); fair = f.fair }

pub fit_claim : (trace : List TraceLine) (guests : List GuestView) (k : Known) (caller claim : ℕ) → FitsTrace trace guests k → claim ≤ claims_of caller guests → FitsTrace trace guests (claim_note caller claim k)
fit_claim trace guests k caller claim f le = record {
  begins = f.begins;
  began = All-nil (λ (e : List TraceLine). IsPrefix e trace);
  fair = All-cons (λ (s : ℕ × ℕ). s.1 ≤ claims_of s.0 guests) (caller, claim) [] le (All-nil (λ (s : ℕ × ℕ). s.1 ≤ claims_of s.0 guests));
}

-- one guest knows other things, or has claimed more
pub guest_moved : (word : ℕ) (m : RecorderView) (guests : List GuestView) (k : ℕ) (g h : GuestView) → IsTraceKept word m guests → get_elem? guests k ≡ some g
    → ((c : ℕ) → is_for c h ≡ is_for c g) → ((c : ℕ) → claim_for c g ≤ claim_for c h) → FitsTrace m.known.seen guests h.known → IsTraceKept word m (set guests k h)
guest_moved word m guests k g h kept at same more fit =
    let later : List GuestView = set guests k h in
    let up : (c : ℕ) → claims_of c guests ≤ claims_of c later = λ c. let s = sum_there (claim_for c) guests k g h at in let u = more c in omega arith in
    let grows : (n : Known) → FitsTrace m.known.seen guests n → FitsTrace m.known.seen later n = λ n f. fit_grows m.known.seen m.known.seen guests later n f (prefix_self m.known.seen) up in
    let passes : (c : ℕ) → passes_of c later ≡ passes_of c guests = λ c.
    let s = sum_there (λ (x : GuestView). one (is_for c x)) guests k g h at in let e = ap one (same c) in omega arith in
    record {
      counted = kept.counted;
      recorder_fits = grows m.known kept.recorder_fits;
      guests_fit = All-set (λ (x : GuestView). FitsTrace m.known.seen later x.known) guests k h (grows h.known fit)
          (All-weaker (λ (x : GuestView). FitsTrace m.known.seen guests x.known) (λ (x : GuestView). FitsTrace m.known.seen later x.known) (λ x f. grows x.known f) guests kept.guests_fit);
      different = λ c. let e = passes c in let d = kept.different c in omega arith;
      later = λ c lt. passes c ∙ kept.later c lt;
      claimed = λ c. let u = up c in let d = kept.claimed c in omega arith;
    }

-- at most one pass more, of a caller who comes later
one_more : (p q c n : ℕ) (b : Bool) → (b ≡ true → (p < c) × (c ≤ q)) → n ≤ 1 → (p < c → n ≡ 0) → n + one b ≤ 1
one_more p q c n true now few none = let z = none (now refl).0 in omega arith
one_more p q c n false now few none = omega arith

none_more : (p q c n : ℕ) (b : Bool) → (b ≡ true → (p < c) × (c ≤ q)) → (p < c → n ≡ 0) → p ≤ q → q < c → n + one b ≡ 0
none_more p q c n true now none le lt = absurd (let z = (now refl).1 in omega arith)
none_more p q c n false now none le lt = let z = none (omega arith) in omega arith

-- a guest comes: a note, or the pass of a caller who had none
pub guest_came : (word : ℕ) (known : Known) (p q : ℕ) (guests : List GuestView) (h : GuestView) → IsTraceKept word (record { known = known; passes = p }) guests → p ≤ q
    → ((c : ℕ) → is_for c h ≡ true → (p < c) × (c ≤ q)) → FitsTrace known.seen guests h.known → IsTraceKept word (record { known = known; passes = q }) (guests ++ h ∷ [])
guest_came word known p q guests h kept le now fit =
    let later : List GuestView = guests ++ h ∷ [] in
    let up : (c : ℕ) → claims_of c guests ≤ claims_of c later = λ c. let s = sum_by-append (claim_for c) guests (h ∷ []) in omega arith in
    let grows : (n : Known) → FitsTrace known.seen guests n → FitsTrace known.seen later n = λ n f. fit_grows known.seen known.seen guests later n f (prefix_self known.seen) up in
    let passes : (c : ℕ) → passes_of c later ≡ passes_of c guests + one (is_for c h) = λ c.
    let f : GuestView → ℕ = λ x. one (is_for c x) in let s = sum_by-append f guests (h ∷ []) in let t = sum_by-cons f h [] in omega arith in
    record {
      counted = kept.counted;
      recorder_fits = grows known kept.recorder_fits;
      guests_fit = All-push (λ (x : GuestView). FitsTrace known.seen later x.known) guests h
          (All-weaker (λ (x : GuestView). FitsTrace known.seen guests x.known) (λ (x : GuestView). FitsTrace known.seen later x.known) (λ x f. grows x.known f) guests kept.guests_fit)
          (grows h.known fit);
      different = λ c. let e = passes c in let d = one_more p q c (passes_of c guests) (is_for c h) (now c) (kept.different c) (kept.later c) in omega arith;
      later = λ c lt. passes c ∙ none_more p q c (passes_of c guests) (is_for c h) (now c) (kept.later c) le lt;
      claimed = λ c. let u = up c in let d = kept.claimed c in omega arith;
    }

-- the recorder takes over what a note says
pub recorder_told : (word : ℕ) (m : RecorderView) (guests : List GuestView) (n : Known) → IsTraceKept word m guests → FitsTrace m.known.seen guests n → IsTraceKept word (record { known = known_told m.known n; passes = m.passes }) guests
recorder_told word m guests n kept fit =
    let P : List TraceLine → Type 0 = λ e. IsPrefix e m.known.seen in
    let mine = kept.recorder_fits in
    record {
      counted = kept.counted;
      recorder_fits = record {
        begins = mine.begins;
        began = All-push P m.known.earlier n.seen mine.began fit.begins;
        fair = All-append (λ (s : ℕ × ℕ). s.1 ≤ claims_of s.0 guests) m.known.shown n.shown mine.fair fit.fair;
      };
      guests_fit = kept.guests_fit;
      different = kept.different;
      later = kept.later;
      claimed = kept.claimed;
    }

-- the recorder adds a line that its caller may add
pub line_added : (word : ℕ) (m : RecorderView) (guests : List GuestView) (l : TraceLine) → IsTraceKept word m guests → MayAppend l.caller m.known
    → IsTraceKept (length m.known.seen + 1) (record { known = with_line l m.known; passes = m.passes }) guests
line_added word m guests l kept may =
    let old : List TraceLine = m.known.seen in
    let new : List TraceLine = old ++ l ∷ [] in
    let pre : IsPrefix old new = prefix_push old l in
    let grows : (n : Known) → FitsTrace old guests n → FitsTrace new guests n = λ n f. fit_grows old new guests guests n f pre (λ c. omega arith) in
    let f = grows m.known kept.recorder_fits in
    let fair : may.0 ≤ claims_of l.caller guests = All-contains (λ (s : ℕ × ℕ). s.1 ≤ claims_of s.0 guests) m.known.shown (l.caller, may.0) kept.recorder_fits.fair may.1 in
    record {
      counted = sym (length-append old (l ∷ []));
      recorder_fits = record { begins = prefix_self new; began = f.began; fair = f.fair };
      guests_fit = All-weaker (λ (x : GuestView). FitsTrace old guests x.known) (λ (x : GuestView). FitsTrace new guests x.known) (λ x g. grows x.known g) guests kept.guests_fit;
      different = kept.different;
      later = kept.later;
      claimed = λ c. dite (ℕ_discrete l.caller c)
          (λ is. let p = lines_push c old l in let o : of_line c l ≡ 1 = ap one (eq-eqb l.caller c is) in let lt = may.2 in
          let u : claims_of l.caller guests ≡ claims_of c guests = ap (λ (x : ℕ). claims_of x guests) is in let v : lines_of l.caller old ≡ lines_of c old = ap (λ (x : ℕ). lines_of x old) is in omega arith)
          (λ other. let p = lines_push c old l in let o : of_line c l ≡ 0 = ap one (ne_eqb l.caller c other) in let d = kept.claimed c in omega arith);
    }
