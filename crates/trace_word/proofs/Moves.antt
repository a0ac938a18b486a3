-- Each kind of step keeps the rule.
use Rattle.std.proofs.Common.{◌≡◌, ◌≢◌, ℕ, zero, suc, ◌+◌, ◌<◌, ◌≤◌, ◌==◌, ◌&&◌, Bool, true, false, cond, List, [], ◌∷◌, ◌++◌, length, set, map, refl, ap, sym, ◌∙◌, subst, arith, eq-eqb, ⊎_elim, slice_index}
use Rattle.std.proofs.lemmas.List.Elements.{All-weaker}
use mathlib.Core.List.{IsPrefix, map-append}
use mathlib.Core.Option.{none, some, some-ne-none}
use lib.ListN.{get_elem?}
use lib.Seq.{map-set}
use prog.Atomic.{either}
use Rattle.atomic_table.specs.Table.{State, Me, step, keeps, stepped, Allows, Splits, Joins}
use Rattle.atomic_table.proofs.Lists.{set_again, at_set}
use Rattle.fs_model.specs.declared.trace.TraceLine.{TraceLine}
use Rattle.trace_word.specs.Knowledge.{lines_of}
use Rattle.trace_word.specs.declared.view.RecorderView.{RecorderView}
use Rattle.trace_word.specs.declared.view.GuestView.{GuestView}
use Rattle.trace_word.specs.declared.view.TraceView.{TraceView}
use Rattle.trace_word.specs.declared.view.TraceView.TheVariants.{Recorder, Guest}
use Rattle.trace_word.specs.Knowledge.{none_known, known_joined, known_told, with_line, note_of, claim_note, MayAppend}
use Rattle.trace_word.specs.Rule.{FitsTrace, IsTraceKept, KeepsTrace}
use Rattle.trace_word.specs.Steps.{Appends, Claims, TellsOfLists, LooksAtTrace, new_note, with_pass_out, new_pass, with_note, spent_note}
use Rattle.trace_word.specs.Tokens.{of_recorder, of_guest}
use Rattle.trace_word.proofs.Counting.{is_for, claim_for, of_all, fewer_lines, none_claimed, own_claim, claim_there}
use Rattle.trace_word.proofs.Keeping.{fit_joined, fit_none, fit_note, fit_claim, guest_moved, guest_came, recorder_told, line_added}

abbrev Knows : Type 0
Knows = Me TraceLine TraceView

abbrev Table : Type 0
Table = State TraceLine TraceView

-- where a guest's view stands, if it stands behind the recorder's
among : (guests : List GuestView) (k : ℕ) (v : GuestView) → get_elem? (map Guest guests) k ≡ some (Guest v) → get_elem? guests k ≡ some v
among [] k v e = absurd (some-ne-none (Guest v) (sym e))
among (x ∷ xs) zero v e = cc
among (x ∷ xs) (suc k) v e = among xs k v e

behind : (m : RecorderView) (guests : List GuestView) (id : ℕ) (v : GuestView) → get_elem? (Recorder m ∷ map Guest guests) id ≡ some (Guest v) → (k : ℕ) × (id ≡ suc k) × (get_elem? guests k ≡ some v)
behind m guests zero v e = absurd (cc e)
behind m guests (suc k) v e = (k, refl, among guests k v e)

-- no guest knows what the recorder knows
not_among : (guests : List GuestView) (k : ℕ) (m : RecorderView) → get_elem? (map Guest guests) k ≡ some (Recorder m) → ⊥
not_among [] k m e = some-ne-none (Recorder m) (sym e)
not_among (x ∷ xs) zero m e = absurd (cc e)
not_among (x ∷ xs) (suc k) m e = not_among xs k m e

before : (n : RecorderView) (guests : List GuestView) (id : ℕ) (m : RecorderView) → get_elem? (Recorder n ∷ map Guest guests) id ≡ some (Recorder m) → (id ≡ 0) × (n ≡ m)
before n guests zero m e = (refl, cc e)
before n guests (suc k) m e = absurd (not_among guests k m e)

module _ (t : Table) (kept : KeepsTrace t) where
  abbrev len : ℕ
  len = slice_index t.words 0

  abbrev len_is : len ≡ kept.0
  len_is = ap (λ (ws : List ℕ). slice_index ws 0) kept.3

  -- the rule, at the word as a step finds it
  pub rule : IsTraceKept len kept.1 kept.2
  rule = subst (λ (n : ℕ). IsTraceKept n kept.1 kept.2) (sym len_is) kept.5

  pub guest_at : (id : ℕ) (v : GuestView) → get_elem? t.views id ≡ some (Guest v) → (k : ℕ) × (id ≡ suc k) × (get_elem? kept.2 k ≡ some v)
  guest_at id v e = behind kept.1 kept.2 id v (subst (λ (vs : List TraceView). get_elem? vs id ≡ some (Guest v)) kept.4 e)

  pub recorder_at : (id : ℕ) (m : RecorderView) → get_elem? t.views id ≡ some (Recorder m) → (id ≡ 0) × (kept.1 ≡ m)
  recorder_at id m e = before kept.1 kept.2 id m (subst (λ (vs : List TraceView). get_elem? vs id ≡ some (Recorder m)) kept.4 e)

  -- the rule, at what the recorder knows
  pub recorder_rule : (id : ℕ) (m : RecorderView) → get_elem? t.views id ≡ some (Recorder m) → IsTraceKept len m kept.2
  recorder_rule id m at = subst (λ (n : RecorderView). IsTraceKept len n kept.2) (recorder_at id m at).1 rule

  pub recorder_views : (id : ℕ) (m n : RecorderView) → get_elem? t.views id ≡ some (Recorder m) → set t.views id (Recorder n) ≡ Recorder n ∷ map Guest kept.2
  recorder_views id m n at =
      ap (λ (vs : List TraceView). set vs id (Recorder n)) kept.4 ∙ ap (λ (i : ℕ). set (Recorder kept.1 ∷ map Guest kept.2) i (Recorder n)) (recorder_at id m at).0

  -- the recorder's step on the word
  pub recorder_steps : (id new : ℕ) (m n : RecorderView) → get_elem? t.views id ≡ some (Recorder m) → IsTraceKept new n kept.2 → KeepsTrace (stepped t 0 new id [] (Recorder n) keeps)
  recorder_steps id new m n at rule = (new, n, kept.2, ap (λ (ws : List ℕ). set ws 0 new) kept.3, recorder_views id m n at, rule)

  -- a guest's step, which leaves the word
  pub guest_steps : (id : ℕ) (v w : GuestView) → get_elem? t.views id ≡ some (Guest v) → ((k : ℕ) → get_elem? kept.2 k ≡ some v → IsTraceKept len kept.1 (set kept.2 k w)) → KeepsTrace (stepped t 0 len id [] (Guest w) keeps)
  guest_steps id v w at rule =
      let p = guest_at id v at in let k = p.0 in (
        len,
        kept.1,
        set kept.2 k w,
        ap (λ (ws : List ℕ). set ws 0 len) kept.3,
        ap (λ (vs : List TraceView). set vs id (Guest w)) kept.4 ∙ (ap (λ (i : ℕ). set (Recorder kept.1 ∷ map Guest kept.2) i (Guest w)) p.1 ∙ ap (λ (vs : List TraceView). Recorder kept.1 ∷ vs) (sym (map-set Guest kept.2 k w))),
        rule k p.2,
      )

  -- what a guest knows fits
  pub guest_fits : (id : ℕ) (v : GuestView) → get_elem? t.views id ≡ some (Guest v) → FitsTrace kept.1.known.seen kept.2 v.known
  guest_fits id v at = let p = guest_at id v at in of_all (λ (x : GuestView). FitsTrace kept.1.known.seen kept.2 x.known) kept.2 p.0 v p.2 rule.guests_fit

-- append
appends_at : (slots id k : ℕ) (m : RecorderView) (l : TraceLine) → k ≡ length m.known.seen → MayAppend l.caller m.known
    → Allows KeepsTrace slots id (Recorder m, []) 0 (λ n. either (n == k) (k + 1) n) (Appends (step slots 0 k (k + 1) (some l)) (Recorder m, []))
appends_at slots id k m l is may t kept _ at _ =
    let n : ℕ = len t kept in
    let r = recorder_rule t kept id m at in
    let w : RecorderView = record { known = with_line l m.known; passes = m.passes } in
    let found : (n == k) ≡ true = eq-eqb n k (r.counted ∙ sym is) in
    let word : either (n == k) (k + 1) n ≡ length m.known.seen + 1 = ap (λ (b : Bool). either b (k + 1) n) found ∙ ap (λ (j : ℕ). j + 1) is in
    (Recorder w, keeps, tt, recorder_steps t kept id (either (n == k) (k + 1) n) m w at (subst (λ (j : ℕ). IsTraceKept j w kept.2) (sym word) (line_added n m kept.2 l r may)), refl)

pub appends : (slots id k : ℕ) (me : Knows) (m : RecorderView) (l : TraceLine) → me ≡ (Recorder m, []) → k ≡ length m.known.seen → MayAppend l.caller m.known
    → Allows KeepsTrace slots id me 0 (λ n. either (n == k) (k + 1) n) (Appends (step slots 0 k (k + 1) (some l)) me)
appends slots id k me m l is length_is may =
    subst (λ (x : Knows). Allows KeepsTrace slots id x 0 (λ n. either (n == k) (k + 1) n) (Appends (step slots 0 k (k + 1) (some l)) x)) (sym is) (appends_at slots id k m l length_is may)

-- claim
more_claimed : (b : Bool) (n : ℕ) → cond b n 0 ≤ cond b (n + 1) 0
more_claimed true n = omega arith
more_claimed false n = omega arith

claims_at : (slots id : ℕ) (v : GuestView) → Allows KeepsTrace slots id (Guest v, []) 0 (λ n. n) (Claims (step slots 0 0 0 none) (Guest v, []))
claims_at slots id v t kept _ at _ =
    let w : GuestView = record { known = v.known; is_pass = v.is_pass; caller = v.caller; claim = v.claim + 1 } in
    (Guest w, keeps, tt, guest_steps t kept id v w at (λ k there. guest_moved (len t kept) kept.1 kept.2 k v w (rule t kept) there (λ c. refl) (λ c. more_claimed (is_for c v) v.claim) (guest_fits t kept id v at)), refl)

pub claims : (slots id : ℕ) (me : Knows) (v : GuestView) → me ≡ (Guest v, []) → Allows KeepsTrace slots id me 0 (λ n. n) (Claims (step slots 0 0 0 none) me)
claims slots id me v is = subst (λ (x : Knows). Allows KeepsTrace slots id x 0 (λ n. n) (Claims (step slots 0 0 0 none) x)) (sym is) (claims_at slots id v)

-- look, of the recorder
recorder_looks_at : (slots id : ℕ) (m : RecorderView) → Allows KeepsTrace slots id (Recorder m, []) 0 (λ n. n) (LooksAtTrace (step slots 0 0 0 none) (Recorder m, []))
recorder_looks_at slots id m t kept _ at _ =
    let r = recorder_rule t kept id m at in
    (Recorder m, keeps, tt, recorder_steps t kept id (len t kept) m m at r, (refl, (r.recorder_fits.began, λ c lt. let d = r.claimed c in let z = none_claimed c kept.2 (r.later c lt) in omega arith)))

pub recorder_looks : (slots id : ℕ) (me : Knows) (m : RecorderView) → me ≡ (Recorder m, []) → Allows KeepsTrace slots id me 0 (λ n. n) (LooksAtTrace (step slots 0 0 0 none) me)
recorder_looks slots id me m is = subst (λ (x : Knows). Allows KeepsTrace slots id x 0 (λ n. n) (LooksAtTrace (step slots 0 0 0 none) x)) (sym is) (recorder_looks_at slots id m)

-- look, of a pass
pass_told : (t : Table) (kept : KeepsTrace t) (id : ℕ) (v : GuestView) → get_elem? t.views id ≡ some (Guest v) → TellsOfLists (Guest v)
pass_told t kept id v at pass =
    let p = guest_at t kept id v at in
    let r = rule t kept in
    let f = guest_fits t kept id v at in
    let mine : is_for v.caller v ≡ true = ap (λ (b : Bool). b && v.caller == v.caller) pass ∙ eq-eqb v.caller v.caller refl in
    let all = own_claim v.caller kept.2 p.0 v p.2 mine (r.different v.caller) in
    let d = r.claimed v.caller in
    let few : (e : List TraceLine) → IsPrefix e kept.1.known.seen → lines_of v.caller e ≤ v.claim = λ e pre. let u = fewer_lines v.caller e kept.1.known.seen pre in omega arith in
    (few v.known.seen f.begins, All-weaker (λ (e : List TraceLine). IsPrefix e kept.1.known.seen) (λ (e : List TraceLine). lines_of v.caller e ≤ v.claim) few v.known.earlier f.began)

same_claim : (b : Bool) (n : ℕ) → cond b n 0 ≤ cond b n 0
same_claim b n = omega arith

pass_looks_at : (slots id : ℕ) (v : GuestView) → Allows KeepsTrace slots id (Guest v, []) 0 (λ n. n) (LooksAtTrace (step slots 0 0 0 none) (Guest v, []))
pass_looks_at slots id v t kept _ at _ =
    (Guest v, keeps, tt, guest_steps t kept id v v at (λ k there. guest_moved (len t kept) kept.1 kept.2 k v v (rule t kept) there (λ c. refl) (λ c. same_claim (is_for c v) v.claim) (guest_fits t kept id v at)), (refl, pass_told t kept id v at))

pub pass_looks : (slots id : ℕ) (me : Knows) (v : GuestView) → me ≡ (Guest v, []) → Allows KeepsTrace slots id me 0 (λ n. n) (LooksAtTrace (step slots 0 0 0 none) me)
pass_looks slots id me v is = subst (λ (x : Knows). Allows KeepsTrace slots id x 0 (λ n. n) (LooksAtTrace (step slots 0 0 0 none) x)) (sym is) (pass_looks_at slots id v)

-- what the recorder, or a pass, was told
pub recorder_told_as : (v : TraceView) → v ≡ Recorder (of_recorder v) → TellsOfLists v → TellsOfLists (Recorder (of_recorder v))
recorder_told_as v is known_told = subst TellsOfLists is known_told

pub pass_told_as : (v : TraceView) → v ≡ Guest (of_guest v) → TellsOfLists v → TellsOfLists (Guest (of_guest v))
pass_told_as v is known_told = subst TellsOfLists is known_told

-- split, by the recorder: a guest comes, and as many passes as it brings
recorder_splits : (id : ℕ) (m : RecorderView) (q : ℕ) (h : GuestView) → m.passes ≤ q → ((c : ℕ) → is_for c h ≡ true → (m.passes < c) × (c ≤ q))
    → ((trace : List TraceLine) (guests : List GuestView) → FitsTrace trace guests m.known → FitsTrace trace guests h.known)
    → Splits KeepsTrace id (Recorder m) (Recorder (record { known = m.known; passes = q })) (Guest h)
recorder_splits id m q h le now fit t kept at =
    let r = recorder_rule t kept id m at in
    let n : RecorderView = record { known = m.known; passes = q } in (
      kept.0,
      n,
      kept.2 ++ h ∷ [],
      kept.3,
      ap (λ (vs : List TraceView). vs ++ Guest h ∷ []) (recorder_views t kept id m n at) ∙ ap (λ (vs : List TraceView). Recorder n ∷ vs) (sym (map-append Guest kept.2 (h ∷ []))),
      subst (λ (k : ℕ). IsTraceKept k n (kept.2 ++ h ∷ [])) (len_is t kept) (guest_came (len t kept) m.known m.passes q kept.2 h r le now (fit m.known.seen kept.2 r.recorder_fits)),
    )

pub notes_of_recorder : (id : ℕ) (v : TraceView) (m : RecorderView) → v ≡ Recorder m → Splits KeepsTrace id v v (new_note v)
notes_of_recorder id v m is = subst (λ (x : TraceView). Splits KeepsTrace id x x (new_note x)) (sym is)
    (recorder_splits id m m.passes (record { known = note_of m.known; is_pass = false; caller = 0; claim = 0 }) (omega arith) (λ c e. absurd cc) (λ trace guests f. fit_note trace guests m.known f))

next_only : (p c : ℕ) → ((p + 1) == c) ≡ true → (p < c) × (c ≤ p + 1)
next_only p c e = grind arith

pub passes_out : (id : ℕ) (v : TraceView) (m : RecorderView) → v ≡ Recorder m → Splits KeepsTrace id v (with_pass_out v) (new_pass v)
passes_out id v m is = subst (λ (x : TraceView). Splits KeepsTrace id x (with_pass_out x) (new_pass x)) (sym is)
    (recorder_splits id m (m.passes + 1) (record { known = none_known; is_pass = true; caller = m.passes + 1; claim = 0 }) (omega arith) (λ c e. next_only m.passes c e) (λ trace guests f. fit_none trace guests))

-- split, by a pass
notes_of_pass_at : (id : ℕ) (v : GuestView) → v.is_pass ≡ true → Splits KeepsTrace id (Guest v) (Guest v) (new_note (Guest v))
notes_of_pass_at id v pass t kept at =
    let p = guest_at t kept id v at in
    let h : GuestView = record { known = claim_note v.caller v.claim v.known; is_pass = false; caller = 0; claim = 0 } in
    let mine : is_for v.caller v ≡ true = ap (λ (b : Bool). b && v.caller == v.caller) pass ∙ eq-eqb v.caller v.caller refl in
    let fit = fit_claim kept.1.known.seen kept.2 v.known v.caller v.claim (guest_fits t kept id v at) (claim_there v.caller kept.2 p.0 v p.2 mine) in (
      kept.0,
      kept.1,
      kept.2 ++ h ∷ [],
      kept.3,
      ap (λ (vs : List TraceView). vs ++ Guest h ∷ []) (set_again t.views id (Guest v) at ∙ kept.4) ∙ ap (λ (vs : List TraceView). Recorder kept.1 ∷ vs) (sym (map-append Guest kept.2 (h ∷ []))),
      guest_came kept.0 kept.1.known kept.1.passes kept.1.passes kept.2 h kept.5 (omega arith) (λ c e. absurd cc) fit,
    )

pub notes_of_pass : (id : ℕ) (v : TraceView) (g : GuestView) → v ≡ Guest g → g.is_pass ≡ true → Splits KeepsTrace id v v (new_note v)
notes_of_pass id v g is pass = subst (λ (x : TraceView). Splits KeepsTrace id x x (new_note x)) (sym is) (notes_of_pass_at id g pass)

-- a note is for note caller
nothing_for : (c : ℕ) (v w : GuestView) → v.is_pass ≡ false → claim_for c v ≤ claim_for c w
nothing_for c v w note = let e : claim_for c v ≡ 0 = ap (λ (b : Bool). cond (b && v.caller == c) v.claim 0) note in omega arith

not_for : (c : ℕ) (v : GuestView) → v.is_pass ≡ false → false ≡ is_for c v
not_for c v note = sym (ap (λ (b : Bool). b && v.caller == c) note)

abbrev spent : GuestView
spent = record { known = none_known; is_pass = false; caller = 0; claim = 0 }

-- a note is spent
note_spent : (word : ℕ) (m : RecorderView) (guests : List GuestView) (k : ℕ) (v : GuestView) → IsTraceKept word m guests → get_elem? guests k ≡ some v → v.is_pass ≡ false → IsTraceKept word m (set guests k spent)
note_spent word m guests k v kept at note = guest_moved word m guests k v spent kept at (λ c. not_for c v note) (λ c. nothing_for c v spent note) (fit_none m.known.seen guests)

-- join, by the recorder
tells_recorder_at : (id : ℕ) (m : RecorderView) (other : ℕ) (v : GuestView) → v.is_pass ≡ false → Joins KeepsTrace id (Recorder m) other (Guest v) (with_note (Recorder m) (Guest v)) spent_note
tells_recorder_at id m other v note t kept at apart there =
    let r = recorder_rule t kept id m at in
    let n : RecorderView = record { known = known_told m.known v.known; passes = m.passes } in
    let views = recorder_views t kept id m n at in
    let p = behind n kept.2 other v (subst (λ (vs : List TraceView). get_elem? vs other ≡ some (Guest v)) views there) in
    let k = p.0 in
    let fit : FitsTrace m.known.seen kept.2 v.known = of_all (λ (x : GuestView). FitsTrace m.known.seen kept.2 x.known) kept.2 k v p.2 r.guests_fit in
    let after : IsTraceKept kept.0 n kept.2 = subst (λ (j : ℕ). IsTraceKept j n kept.2) (len_is t kept) (recorder_told (len t kept) m kept.2 v.known r fit) in (
      kept.0,
      n,
      set kept.2 k spent,
      kept.3,
      ap (λ (vs : List TraceView). set vs other (Guest spent)) views
          ∙ (ap (λ (i : ℕ). set (Recorder n ∷ map Guest kept.2) i (Guest spent)) p.1 ∙ ap (λ (vs : List TraceView). Recorder n ∷ vs) (sym (map-set Guest kept.2 k spent))),
      note_spent kept.0 n kept.2 k v after p.2 note,
    )

pub tells_recorder : (id : ℕ) (u : TraceView) (m : RecorderView) (other : ℕ) (w : TraceView) (v : GuestView) → u ≡ Recorder m → w ≡ Guest v → v.is_pass ≡ false → Joins KeepsTrace id u other w (with_note u w) spent_note
tells_recorder id u m other w v is it note =
    subst (λ (x : TraceView × TraceView). Joins KeepsTrace id x.0 other x.1 (with_note x.0 x.1) spent_note) (λ i. (sym is i, sym it i)) (tells_recorder_at id m other v note)

-- join, by a pass
tells_pass_at : (id : ℕ) (g : GuestView) (other : ℕ) (v : GuestView) → v.is_pass ≡ false → Joins KeepsTrace id (Guest g) other (Guest v) (with_note (Guest g) (Guest v)) spent_note
tells_pass_at id g other v note t kept at apart there =
    let h : GuestView = record { known = known_joined g.known v.known; is_pass = g.is_pass; caller = g.caller; claim = g.claim } in
    let p = guest_at t kept id g at in
    let guests : List GuestView = set kept.2 p.0 h in
    let views : set t.views id (Guest h) ≡ Recorder kept.1 ∷ map Guest guests =
    ap (λ (vs : List TraceView). set vs id (Guest h)) kept.4 ∙ (ap (λ (i : ℕ). set (Recorder kept.1 ∷ map Guest kept.2) i (Guest h)) p.1 ∙ ap (λ (vs : List TraceView). Recorder kept.1 ∷ vs) (sym (map-set Guest kept.2 p.0 h))) in
    let q = behind kept.1 guests other v (subst (λ (vs : List TraceView). get_elem? vs other ≡ some (Guest v)) views there) in
    let k = q.0 in
    let away : get_elem? kept.2 k ≡ some v = ⊎_elim
    (λ (e : (k ≡ p.0) × (h ≡ v)). absurd (apart (q.1 ∙ (ap suc e.0 ∙ sym p.1))))
    (λ (e : (k ≢ p.0) × (get_elem? kept.2 k ≡ some v)). e.1)
    (at_set kept.2 p.0 k h v q.2) in
    let fit : FitsTrace kept.1.known.seen kept.2 v.known = of_all (λ (x : GuestView). FitsTrace kept.1.known.seen kept.2 x.known) kept.2 k v away kept.5.guests_fit in
    let both : FitsTrace kept.1.known.seen kept.2 h.known = fit_joined kept.1.known.seen kept.2 g.known v.known (guest_fits t kept id g at) fit in
    let known_told : IsTraceKept kept.0 kept.1 guests = guest_moved kept.0 kept.1 kept.2 p.0 g h kept.5 p.2 (λ c. refl) (λ c. same_claim (is_for c g) g.claim) both in (
      kept.0,
      kept.1,
      set guests k spent,
      kept.3,
      ap (λ (vs : List TraceView). set vs other (Guest spent)) views
          ∙ (ap (λ (i : ℕ). set (Recorder kept.1 ∷ map Guest guests) i (Guest spent)) q.1 ∙ ap (λ (vs : List TraceView). Recorder kept.1 ∷ vs) (sym (map-set Guest guests k spent))),
      note_spent kept.0 kept.1 guests k v known_told q.2 note,
    )

pub tells_pass : (id : ℕ) (u : TraceView) (g : GuestView) (other : ℕ) (w : TraceView) (v : GuestView) → u ≡ Guest g → w ≡ Guest v → v.is_pass ≡ false → Joins KeepsTrace id u other w (with_note u w) spent_note
tells_pass id u g other w v is it note =
    subst (λ (x : TraceView × TraceView). Joins KeepsTrace id x.0 other x.1 (with_note x.0 x.1) spent_note) (λ i. (sym is i, sym it i)) (tells_pass_at id g other v note)
