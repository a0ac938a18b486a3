-- LEBs of the log that aren't read, one more at a time.
use Rattle.std.proofs.Common.{◌≡◌, ◌⊎◌, inl, inr, ℕ, ◌+◌, ◌<◌, ◌≤◌, nat_lt, true, false, List, [], ◌∷◌, map, Option, Some, None, refl, ap, sym, ◌∙◌, subst, arith}
use Rattle.std.specs.Prelude.{◌==◌, IsFalse}
use Rattle.std.specs.List.{list_any}
use Rattle.std.proofs.lemmas.Bool.{cases_Bool, eq-eqb, eqb-true, ltb-false, ltb-true}
use Rattle.ubifs_base.specs.Areas.{lpt_first}
use Rattle.ubifs_base.specs.NodeLaws.{IsBytes}
use Rattle.ubifs_base.specs.declared.raw_geometry.RawGeometry.{RawGeometry}
use Rattle.leb_scan.specs.Text.{nodes_of}
use Rattle.leb_scan.specs.declared.found.Found.{Found}
use Rattle.bud_log.specs.Log.{IsLogLeb}
use Rattle.bud_log.specs.LogText.{IsLogTextOf, LogText, begins_with}
use Rattle.bud_log.specs.OneTextLaws.{one_log_text}
use Rattle.bud_log.specs.References.{OneSystemNode}
use Rattle.bud_log.specs.RingRuns.{OneLebText}
use Rattle.bud_log.specs.Writing.{IsAmong}
use Rattle.bud_log.specs.Seen.{IsSeen}
use Rattle.bud_log.specs.declared.seen.Seen.{Seen}
use Rattle.sound_image.specs.LogBreaches.{LooksNewer}
use Rattle.sound_image.specs.Wrong.{Misfit, Wrong, differs}
use Rattle.image_check.specs.WrongValues.{IsFirstOf, sooner_of}
use Rattle.journal_check.specs.LogChecks.{IsFirstNewer, newer_at}
use Rattle.image_check.specs.declared.wrong_value.WrongValue.{WrongValue}
use Rattle.image_check.specs.FirstLaws.{first_alone, first_of_both, first_same}
use Rattle.journal_check.proofs.OneText.{text_seen}

-- the numbers of the LEBs of texts
abbrev pub lnums_of : List LogText → List ℕ
lnums_of texts = map (λ (text : LogText). text.ends.lnum) texts

pub any_among : (lnum : ℕ) (texts : List LogText) → IsAmong lnum texts → list_any (λ k. k == lnum) (lnums_of texts) ≡ true
any_among lnum [] h = absurd h
any_among lnum (text ∷ texts) (inl e) = rw (eq-eqb text.ends.lnum lnum (sym e)) refl
any_among lnum (text ∷ texts) (inr more) = elim (cases_Bool (text.ends.lnum == lnum)) [ inl here ↦ rw here refl | inr other ↦ rw other (any_among lnum texts more) ]

pub among_any : (lnum : ℕ) (texts : List LogText) → list_any (λ k. k == lnum) (lnums_of texts) ≡ true → IsAmong lnum texts
among_any lnum [] h = absurd cc
among_any lnum (text ∷ texts) h = elim (cases_Bool (text.ends.lnum == lnum)) [
  | inl here ↦ inl (sym (eqb-true text.ends.lnum lnum here))
  | inr other ↦ inr (among_any lnum texts (let k = rw other at h in k))
]

-- of the LEBs below this one
abbrev pub IsNewerBelow : (ℕ → List ℕ) → RawGeometry → ℕ → List LogText → ℕ → Wrong → Type 0
IsNewerBelow contents geo number texts lnum at = LooksNewer contents geo number texts at × (at.lnum < lnum)

-- what is kept while the LEBs are gone over: those below this one were seen, or are among these, and this is the first
pub record IsNewerSoFar (contents : ℕ → List ℕ) (geo : RawGeometry) (number : ℕ) (lnums : List ℕ) (lnum : ℕ) (first : Option WrongValue) : Type 0 where
  pub least : (texts : List LogText) → lnums ≡ lnums_of texts → IsFirstOf (IsNewerBelow contents geo number texts lnum) first
  pub seen : (k : ℕ) → IsLogLeb geo k → k < lnum → IsFalse (list_any (λ j. j == k) lnums) → (seen : Seen) × IsSeen (contents k) seen

pub newer_none : (contents : ℕ → List ℕ) (geo : RawGeometry) (number : ℕ) (lnums : List ℕ) → IsNewerSoFar contents geo number lnums 3 None
newer_none contents geo number lnums = record {
  least = λ texts e at w. (let low = w.0.in_log.low in let high = w.1 in omega (arith, low, high));
  seen = λ k is less not. absurd (let low = is.low in omega (arith, low, less));
}

-- a LEB that was read
pub newer_skip : (contents : ℕ → List ℕ) (geo : RawGeometry) (number : ℕ) (lnums : List ℕ) (lnum : ℕ) (first : Option WrongValue) → list_any (λ k. k == lnum) lnums ≡ true → IsNewerSoFar contents geo number lnums lnum first
    → IsNewerSoFar contents geo number lnums (lnum + 1) first
newer_skip contents geo number lnums lnum first is h = record {
  least = λ texts e.
      (first_same (IsNewerBelow contents geo number texts lnum) (IsNewerBelow contents geo number texts (lnum + 1)) first (λ at w. (w.0, (let less = w.1 in omega (arith, less))))
      (λ at w. (w.0, below texts e at w)) (h.least texts e));
  seen = λ k in_log less not. elim (below_or_here k less) [ inl more ↦ h.seen k in_log more not | inr here ↦ absurd (let P : ℕ → Type 0 = λ n. list_any (λ j. j == n) lnums ≡ false in let e = sym is ∙ subst P here not in absurd cc) ];
}
  where
    below_or_here : (k : ℕ) → k < lnum + 1 → (k < lnum) ⊎ (k ≡ lnum)
    below_or_here k less = elim (cases_Bool (nat_lt k lnum)) [ inl more ↦ inl (ltb-true k lnum more) | inr not ↦ inr (let l = ltb-false k lnum not in omega (arith, less, l)) ]

    below : (texts : List LogText) → lnums ≡ lnums_of texts → (at : Wrong) → IsNewerBelow contents geo number texts (lnum + 1) at → at.lnum < lnum
    below texts e at w = elim (below_or_here at.lnum w.1) [
      | inl more ↦ more
      | inr here ↦
          let P : ℕ → Type 0 = λ n. IsAmong n texts in
          let Q : List ℕ → Type 0 = λ xs. list_any (λ k. k == lnum) xs ≡ true in
          absurd (w.0.other (subst P (sym here) (among_any lnum texts (subst Q e is))))
    ]

found_same : (m n : Found) → Some m ≡ Some n → m ≡ n
found_same m n h = cc

wrong_same : (l m o p : ℕ) (x y : Misfit) → l ≡ m → o ≡ p → x ≡ y
    → let a : Wrong = record { lnum = l; offs = o; misfit = x } in
    let b : Wrong = record { lnum = m; offs = p; misfit = y } in
    a ≡ b
wrong_same l m o p x y e f g = rw (e, f, g) refl

-- in one LEB
one_newer : OneSystemNode → OneLebText → (contents : ℕ → List ℕ) (geo : RawGeometry) (number : ℕ) (texts : List LogText) (lnum : ℕ) (seen : Seen) → IsBytes (contents lnum) → IsLogLeb geo lnum → (IsAmong lnum texts → ⊥) → IsSeen (contents lnum) seen
    → IsFirstOf (λ at. LooksNewer contents geo number texts at × (at.lnum ≡ lnum)) (newer_at number lnum seen.begins)
one_newer one unique contents geo number texts lnum seen fits in_log not_among is = by seen.begins refl
  where
    text : (t : LogText) × IsLogTextOf (contents lnum) lnum t × (t.nodes ≡ nodes_of is.items)
    text = text_seen (contents lnum) lnum seen is

    begins_is : seen.begins ≡ begins_with text.0.nodes
    begins_is = is.begins ∙ ap begins_with (sym text.2)

    same_begins : (at : Wrong) (w : LooksNewer contents geo number texts at) → at.lnum ≡ lnum → seen.begins ≡ Some w.found
    same_begins at w e =
        let P : ℕ → Type 0 = λ n. IsLogTextOf (contents n) n w.text in
        begins_is ∙ ap (λ (t : LogText). begins_with t.nodes) (one_log_text one unique (contents lnum) lnum text.0 w.text fits text.1 (subst P e w.is_text)) ∙ w.begins

    by : (begins : Option Found) → seen.begins ≡ begins → IsFirstOf (λ at. LooksNewer contents geo number texts at × (at.lnum ≡ lnum)) (newer_at number lnum begins)
    by None e = λ at w. (let k = sym e ∙ same_begins at w.0 w.1 in absurd cc)
    by (Some found) e =
        let F : Option WrongValue → Type 0 = λ o. IsFirstOf (λ at. LooksNewer contents geo number texts at × (at.lnum ≡ lnum)) o in
        let d : WrongValue = record { lnum = lnum; offs = 0; wanted = number; found = found.sqnum } in
        elim (cases_Bool (nat_lt number found.sqnum)) [
          | inl newer ↦
              rw newer (first_alone (λ at. LooksNewer contents geo number texts at × (at.lnum ≡ lnum)) d
              (record { in_log = in_log; other = not_among; text = text.0; is_text = text.1; found = found; begins = sym begins_is ∙ e; newer = ltb-true number found.sqnum newer; offs = refl; values = refl }, refl)
              (λ at w.
              let f = found_same w.0.found found (sym (same_begins at w.0 w.1) ∙ e) in
              wrong_same at.lnum lnum at.offs 0 at.misfit (differs number found.sqnum) w.1 w.0.offs (w.0.values ∙ ap (λ (x : Found). differs number x.sqnum) f)))
          | inr not ↦
              rw not (λ at w.
              let f = found_same w.0.found found (sym (same_begins at w.0 w.1) ∙ e) in
              let P : Found → Type 0 = λ x. number < x.sqnum in
              let less = subst P f w.0.newer in
              let most = ltb-false number found.sqnum not in
              omega (arith, less, most))
        ]

-- a LEB that wasn't read
pub newer_next : OneSystemNode → OneLebText → (contents : ℕ → List ℕ) (geo : RawGeometry) (number : ℕ) (lnums : List ℕ) (lnum : ℕ) (first newer next : Option WrongValue) (seen : Seen) → IsBytes (contents lnum) → IsLogLeb geo lnum → list_any (λ k. k == lnum) lnums ≡ false
    → IsSeen (contents lnum) seen → newer ≡ newer_at number lnum seen.begins → next ≡ sooner_of first newer → IsNewerSoFar contents geo number lnums lnum first → IsNewerSoFar contents geo number lnums (lnum + 1) next
newer_next one unique contents geo number lnums lnum first newer next seen fits in_log not is newer_is next_is h = record {
  least = λ texts e.
      (let Q : List ℕ → Type 0 = λ xs. list_any (λ k. k == lnum) xs ≡ false in
      let not_among : IsAmong lnum texts → ⊥ = λ among. (let k = sym (any_among lnum texts among) ∙ subst Q e not in absurd cc) in
      let own = one_newer one unique contents geo number texts lnum seen fits in_log not_among is in
      let F : Option WrongValue → Type 0 = λ o. IsFirstOf (λ at. LooksNewer contents geo number texts at × (at.lnum ≡ lnum)) o in
      let G : Option WrongValue → Type 0 = λ o. IsFirstOf (IsNewerBelow contents geo number texts (lnum + 1)) o in
      subst G (sym next_is)
      (first_same (λ at. IsNewerBelow contents geo number texts lnum at ⊎ (LooksNewer contents geo number texts at × (at.lnum ≡ lnum))) (IsNewerBelow contents geo number texts (lnum + 1)) (sooner_of first newer)
      (λ at w. elim w [ inl low ↦ (low.0, (let less = low.1 in omega (arith, less))) | inr here ↦ (here.0, (let same = here.1 in omega (arith, same))) ])
      (λ at w. elim (below_or_here at.lnum w.1) [ inl low ↦ inl (w.0, low) | inr here ↦ inr (w.0, here) ])
      (first_of_both (IsNewerBelow contents geo number texts lnum) (λ at. LooksNewer contents geo number texts at × (at.lnum ≡ lnum)) first newer (h.least texts e) (subst F (sym newer_is) own))));
  seen = λ k in_log less none. elim (below_or_here k less) [ inl more ↦ h.seen k in_log more none | inr here ↦ (let P : ℕ → Type 0 = λ n. (s : Seen) × IsSeen (contents n) s in subst P (sym here) (seen, is)) ];
}
  where
    below_or_here : (k : ℕ) → k < lnum + 1 → (k < lnum) ⊎ (k ≡ lnum)
    below_or_here k less = elim (cases_Bool (nat_lt k lnum)) [ inl more ↦ inl (ltb-true k lnum more) | inr not ↦ inr (let l = ltb-false k lnum not in omega (arith, less, l)) ]

-- at the end of the ring
pub newer_all : (contents : ℕ → List ℕ) (geo : RawGeometry) (number : ℕ) (lnums : List ℕ) (lnum : ℕ) (first : Option WrongValue) → lpt_first geo ≤ lnum → IsNewerSoFar contents geo number lnums lnum first → IsFirstNewer contents geo number lnums first
newer_all contents geo number lnums lnum first past h = record {
  least = λ texts e.
      (first_same (IsNewerBelow contents geo number texts lnum) (LooksNewer contents geo number texts) first (λ at w. w.0) (λ at w. (w, (let high = w.in_log.high in omega (arith, high, past)))) (h.least texts e));
  seen = λ k in_log none. h.seen k in_log (let high = in_log.high in omega (arith, high, past)) none;
}
