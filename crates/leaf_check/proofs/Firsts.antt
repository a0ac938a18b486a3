-- What is told first of leaves at one place, and of leaves at several.
use Rattle.std.proofs.Common.{◌≡◌, ◌⊎◌, ℕ, false, drop, List, [], ◌∷◌, ◌++◌, Option, Some, None, IfSome, refl, ap, sym, ◌∙◌, subst, inl, inr, arith}
use Rattle.std.proofs.lemmas.Bool.{cases_lt}
use Rattle.ubifs_base.specs.NodeLaws.{IsBytes}
use Rattle.media_sys.specs.declared.feature.Feature.{Feature}
use Rattle.index_tree.specs.declared.leaf.Leaf.{Leaf}
use Rattle.sound_image.specs.LeafBreaches.{IsLeafMisfit}
use Rattle.sound_image.specs.Wrong.{IsFirstWrong, IsOneOf, Misfit, Wrong, comes_before, differs, needs}
use Rattle.sound_image.specs.WrongLaws.{one_of_none, front_of_two, one_of_two}
use Rattle.sound_image.specs.declared.breach.Breach.{Breach}
use Rattle.sound_image.specs.declared.breach.Breach.TheVariants.{Super as InSuper, Feature as NeedsOne, NoMaster, Damaged}
use Rattle.sound_image.specs.declared.rule.Rule.{Rule}
use Rattle.sound_image.specs.declared.rule.Rule.TheVariants as rules
use Rattle.image_check.specs.FirstLaws.{first_alone, first_of_both, first_same, not_before_place}
use Rattle.image_check.specs.Told.{IsBreachOf}
use Rattle.image_check.specs.WrongValues.{IsFirstOf, sooner_of, wrong_at}
use Rattle.image_check.specs.declared.wrong_value.WrongValue.{WrongValue}
use Rattle.leaf_check.specs.Overlaps.{StandsBefore}
use Rattle.leaf_check.specs.Standings.{IsFirstPlaced, IsPlacedWrong, TellsStanding, IsStandingWrong, known_misfit, standing_misfit}
use Rattle.leaf_check.specs.declared.standing.Standing.{Standing}
use Rattle.leaf_check.proofs.Standings.{misfit_is, misfit_known, misfit_needs, misfit_only}
use Rattle.leaf_check.proofs.Sweeps.{the_one}

wrong_same : (l m o p : ℕ) (x y : Misfit) → l ≡ m → o ≡ p → x ≡ y
    → let a : Wrong = record { lnum = l; offs = o; misfit = x } in
    let b : Wrong = record { lnum = m; offs = p; misfit = y } in
    a ≡ b
wrong_same l m o p x y e f g = rw (e, f, g) refl

-- ---- at one place
standing_front : (s : Standing) (here x : Leaf) (done : List Leaf) (at : Wrong) → IsStandingWrong s here done at → IsStandingWrong s here (done ++ (x ∷ [])) at
standing_front s here x done at h = record { one = h.one; is_one = front_of_two h.one done (x ∷ []) h.is_one; lnum = h.lnum; offs = h.offs; at_lnum = h.at_lnum; at_offs = h.at_offs; misfit = h.misfit }

-- a leaf that has its place elsewhere
pub with_other : (s : Standing) (here x : Leaf) (done : List Leaf) (o : Option WrongValue) → (x.lnum ≡ here.lnum → x.offs ≡ here.offs → ⊥) → IsFirstOf (IsStandingWrong s here done) o → IsFirstOf (IsStandingWrong s here (done ++ (x ∷ []))) o
with_other s here x done o other h = first_same (IsStandingWrong s here done) (IsStandingWrong s here (done ++ (x ∷ []))) o (standing_front s here x done) (λ at w. elim (one_of_two w.one done (x ∷ []) w.is_one) [
  | inl one ↦ record { one = w.one; is_one = one; lnum = w.lnum; offs = w.offs; at_lnum = w.at_lnum; at_offs = w.at_offs; misfit = w.misfit }
  | inr own ↦ let e = the_one w.one x own in absurd (other (ap (λ (y : Leaf). y.lnum) (sym e) ∙ w.lnum) (ap (λ (y : Leaf). y.offs) (sym e) ∙ w.offs))
]) h

-- this is told of a leaf there alone
record IsAlone (s : Standing) (here x : Leaf) (at : Wrong) : Type 0 where
  at_lnum : at.lnum ≡ here.lnum
  at_offs : at.offs ≡ here.offs
  misfit : at.misfit ≡ standing_misfit s x

-- one that has it there
pub with_here : (s : Standing) (here x : Leaf) (done : List Leaf) (first r : Option WrongValue) (v : WrongValue) → s.feature ≡ None → x.lnum ≡ here.lnum → x.offs ≡ here.offs → v.lnum ≡ x.lnum → v.offs ≡ x.offs → differs v.wanted v.found ≡ known_misfit s x → r ≡ sooner_of first (Some v)
    → IsFirstOf (IsStandingWrong s here done) first → IsFirstOf (IsStandingWrong s here (done ++ (x ∷ []))) r
with_here s here x done first r v none l o vl vo values is h =
    let P = IsStandingWrong s here done in
    let Q = IsAlone s here x in
    let R : Option WrongValue → Type 0 = λ k. IsFirstOf (IsStandingWrong s here (done ++ (x ∷ []))) k in
    let own : IsAlone s here x (wrong_at v) = record { at_lnum = vl ∙ l; at_offs = vo ∙ o; misfit = values ∙ sym (misfit_known s x none) } in
    let alone = first_alone Q v own (λ at a. wrong_same at.lnum v.lnum at.offs v.offs at.misfit (differs v.wanted v.found) (a.at_lnum ∙ sym l ∙ sym vl) (a.at_offs ∙ sym o ∙ sym vo) (a.misfit ∙ misfit_known s x none ∙ sym values)) in
    let to : (at : Wrong) → P at ⊎ Q at → IsStandingWrong s here (done ++ (x ∷ [])) at = λ at w. elim w [
      | inl p ↦ standing_front s here x done at p
      | inr q ↦ record { one = x; is_one = (done, [], refl); lnum = l; offs = o; at_lnum = q.at_lnum; at_offs = q.at_offs; misfit = q.misfit }
    ] in
    let from : (at : Wrong) → IsStandingWrong s here (done ++ (x ∷ [])) at → P at ⊎ Q at = λ at w. elim (one_of_two w.one done (x ∷ []) w.is_one) [
      | inl one ↦ inl (record { one = w.one; is_one = one; lnum = w.lnum; offs = w.offs; at_lnum = w.at_lnum; at_offs = w.at_offs; misfit = w.misfit })
      | inr one ↦ inr (record { at_lnum = w.at_lnum; at_offs = w.at_offs; misfit = w.misfit ∙ ap (standing_misfit s) (the_one w.one x one) })
    ] in
    subst R (sym is) (first_same (λ at. P at ⊎ Q at) (IsStandingWrong s here (done ++ (x ∷ []))) (sooner_of first (Some v)) to from (first_of_both P Q first (Some v) h alone))

pub none_first : (s : Standing) (here : Leaf) → IsFirstOf (IsStandingWrong s here []) None
none_first s here = λ at w. one_of_none w.one w.is_one

-- of this leaf something is told
own_wrong : (s : Standing) (here : Leaf) (wrong : List Leaf) → IsOneOf here wrong → IsStandingWrong s here wrong (record { lnum = here.lnum; offs = here.offs; misfit = standing_misfit s here })
own_wrong s here wrong one = record { one = here; is_one = one; lnum = refl; offs = refl; at_lnum = refl; at_offs = refl; misfit = refl }

-- a feature is told first, whatever leaf is meant
pub feature_first : (s : Standing) (here : Leaf) (wrong : List Leaf) (what : Feature) → s.feature ≡ Some what → IsOneOf here wrong → IsFirstWrong (IsStandingWrong s here wrong) (record { lnum = here.lnum; offs = here.offs; misfit = needs what })
feature_first s here wrong what e one =
    let first : Wrong = record { lnum = here.lnum; offs = here.offs; misfit = needs what } in
    record {
      wrong = record { one = here; is_one = one; lnum = refl; offs = refl; at_lnum = refl; at_offs = refl; misfit = sym (misfit_needs s here what e) };
      least = λ other w. (
          let l = w.at_lnum in
          let o = w.at_offs in
          not_before_place other first (omega (arith, l)) (λ same. omega (arith, o)) (λ same here. w.misfit ∙ misfit_needs s w.one what e)
          );
    }

pub value_none : (s : Standing) (here : Leaf) (wrong : List Leaf) (o : Option WrongValue) → o ≡ None → IsOneOf here wrong → IsFirstOf (IsStandingWrong s here wrong) o → ⊥
value_none s here wrong o e one h =
    let P : Option WrongValue → Type 0 = λ k. IsFirstOf (IsStandingWrong s here wrong) k in
    subst P e h (record { lnum = here.lnum; offs = here.offs; misfit = standing_misfit s here }) (own_wrong s here wrong one)

pub value_some : (s : Standing) (here : Leaf) (wrong : List Leaf) (o : Option WrongValue) (v : WrongValue) → o ≡ Some v → IsFirstOf (IsStandingWrong s here wrong) o → IsFirstWrong (IsStandingWrong s here wrong) (wrong_at v)
value_some s here wrong o v e h = let P : Option WrongValue → Type 0 = λ k. IsFirstOf (IsStandingWrong s here wrong) k in subst P e h

-- ---- at several places
place_not : (y here : Leaf) (other at : Wrong) → other.lnum ≡ y.lnum → other.offs ≡ y.offs → at.lnum ≡ here.lnum → at.offs ≡ here.offs → (StandsBefore y here → ⊥) → (y.lnum ≡ here.lnum → y.offs ≡ here.offs → comes_before other at ≡ false) → comes_before other at ≡ false
place_not y here other at ol oo al ao not same =
    elim (cases_lt y.lnum here.lnum) [
      | inl less ↦ absurd (not (inl less))
      | inr high ↦ elim (cases_lt here.lnum y.lnum) [
        | inl more ↦ not_before_place other at (omega (arith, ol, al, more)) (λ e. absurd (omega (arith, e, ol, al, more))) (λ e f. absurd (omega (arith, e, ol, al, more)))
        | inr low ↦
            let l : y.lnum ≡ here.lnum = omega (arith, high, low) in
            elim (cases_lt y.offs here.offs) [
              | inl less ↦ absurd (not (inr (l, less)))
              | inr far ↦ elim (cases_lt here.offs y.offs) [
                | inl more ↦ not_before_place other at (omega (arith, ol, al, l)) (λ e. omega (arith, oo, ao, more)) (λ e f. absurd (omega (arith, f, oo, ao, more)))
                | inr near ↦ same l (omega (arith, far, near))
              ]
            ]
      ]
    ]

-- what is told first at the least place is told first of all
pub first_placed : (contents : ℕ → List ℕ) (s : Standing) (here : Leaf) (wrong : List Leaf) (at : Wrong) → ((k : ℕ) → IsBytes (contents k)) → TellsStanding (drop here.offs (contents here.lnum)) s → ((other : Leaf) → IsOneOf other wrong → StandsBefore other here → ⊥)
    → IsFirstWrong (IsStandingWrong s here wrong) at → IsFirstPlaced contents wrong at
first_placed contents s here wrong at fits is least first = record {
  first = first_there;
  low = λ other one h. least other one (elim h [ inl less ↦ inl (let e = first.wrong.at_lnum in omega (arith, less, e)) | inr (same, less) ↦ inr (same ∙ first.wrong.at_lnum, (let e = first.wrong.at_offs in omega (arith, less, e))) ]);
}
  where
    there : (y : Leaf) → y.lnum ≡ here.lnum → y.offs ≡ here.offs → TellsStanding (drop y.offs (contents y.lnum)) s
    there y l o =
        let P : ℕ → Type 0 = λ k. TellsStanding (drop here.offs (contents k)) s in
        let Q : ℕ → Type 0 = λ k. TellsStanding (drop k (contents y.lnum)) s in
        subst Q (sym o) (subst P (sym l) is)

    first_there : IsFirstWrong (IsPlacedWrong contents wrong) at
    first_there = record {
      wrong = record { one = first.wrong.one; is_one = first.wrong.is_one; lnum = first.wrong.at_lnum ∙ sym first.wrong.lnum; offs = first.wrong.at_offs ∙ sym first.wrong.offs; misfit = (let M : Misfit → Type 0 = λ m. IsLeafMisfit contents first.wrong.one m in subst M (sym first.wrong.misfit) (misfit_is contents first.wrong.one s (fits first.wrong.one.lnum) (there first.wrong.one first.wrong.lnum first.wrong.offs))) };
      least = λ other p. place_not p.one here other at p.lnum p.offs first.wrong.at_lnum first.wrong.at_offs (least p.one p.is_one) (λ l o. first.least other (record {
        one = p.one;
        is_one = p.is_one;
        lnum = l;
        offs = o;
        at_lnum = p.lnum ∙ l;
        at_offs = p.offs ∙ o;
        misfit = misfit_only contents p.one s (fits p.one.lnum) (there p.one l o) other.misfit p.misfit;
      }));
    }

-- what is wrong so is wrong in another way
pub breach_then : (rule : Rule) (P Q : Wrong → Type 0) → ((at : Wrong) → P at → Q at) → (breach : Breach) → IsBreachOf rule P breach → IsBreachOf rule Q breach
breach_then rule P Q f (InSuper field) h = h
breach_then rule P Q f (NeedsOne what lnum offs) h = (h.0, f (record { lnum = lnum; offs = offs; misfit = needs what }) h.1)
breach_then rule P Q f NoMaster h = h
breach_then rule P Q f (Damaged broken lnum offs wanted found) h = (h.0, f (record { lnum = lnum; offs = offs; misfit = differs wanted found }) h.1)

pub some_breach : (P Q : Wrong → Type 0) (o : Option Breach) → ((at : Wrong) → P at → Q at) → IfSome o (IsBreachOf rules.Leaves P) → IfSome o (IsBreachOf rules.Leaves Q)
some_breach P Q (Some breach) f h = breach_then rules.Leaves P Q f breach h
some_breach P Q None f h = tt

-- ---- the least place
-- none of these leaves stands before this one of them
pub record IsLeastOf (least : Leaf) (leaves : List Leaf) : Type 0 where
  pub one : IsOneOf least leaves
  pub none : (other : Leaf) → IsOneOf other leaves → StandsBefore other least → ⊥

not_itself : (x : Leaf) → StandsBefore x x → ⊥
not_itself x (inl h) = absurd (omega (arith, h))
not_itself x (inr (e, h)) = absurd (omega (arith, h))

before_then : (a b c : Leaf) → StandsBefore a b → StandsBefore b c → StandsBefore a c
before_then a b c (inl h) (inl k) = inl (omega (arith, h, k))
before_then a b c (inl h) (inr (e, k)) = inl (omega (arith, h, e))
before_then a b c (inr (e, h)) (inl k) = inl (omega (arith, e, k))
before_then a b c (inr (e, h)) (inr (f, k)) = inr (e ∙ f, omega (arith, h, k))

pub least_first : (x : Leaf) → IsLeastOf x (x ∷ [])
least_first x = record { one = ([], [], refl); none = λ other one h. (let P : Leaf → Type 0 = λ y. StandsBefore y x in not_itself x (subst P (the_one other x one) h)) }

-- one leaf more, before which the least stands or not
pub least_more : (least x now : Leaf) (done : List Leaf) → (StandsBefore x least × (now ≡ x)) ⊎ ((StandsBefore x least → ⊥) × (now ≡ least)) → IsLeastOf least done → IsLeastOf now (done ++ (x ∷ []))
least_more least x now done (inl (lower, e)) h =
    let P : Leaf → Type 0 = λ y. IsLeastOf y (done ++ (x ∷ [])) in
    subst P (sym e) (record {
      one = (done, [], refl);
      none = λ other one k. elim (one_of_two other done (x ∷ []) one) [
        | inl seen ↦ h.none other seen (before_then other x least k lower)
        | inr own ↦ (let Q : Leaf → Type 0 = λ y. StandsBefore y x in not_itself x (subst Q (the_one other x own) k))
      ];
    })
least_more least x now done (inr (not, e)) h =
    let P : Leaf → Type 0 = λ y. IsLeastOf y (done ++ (x ∷ [])) in
    subst P (sym e) (record {
      one = front_of_two least done (x ∷ []) h.one;
      none = λ other one k. elim (one_of_two other done (x ∷ []) one) [
        | inl seen ↦ h.none other seen k
        | inr own ↦ (let Q : Leaf → Type 0 = λ y. StandsBefore y least in not (subst Q (the_one other x own) k))
      ];
    })

-- along the option that was answered
pub some_placed : (contents : ℕ → List ℕ) (s : Standing) (here : Leaf) (wrong : List Leaf) (o : Option Breach) → ((k : ℕ) → IsBytes (contents k)) → TellsStanding (drop here.offs (contents here.lnum)) s → ((other : Leaf) → IsOneOf other wrong → StandsBefore other here → ⊥)
    → IfSome o (IsBreachOf rules.Leaves (IsFirstWrong (IsStandingWrong s here wrong))) → IfSome o (IsBreachOf rules.Leaves (IsFirstPlaced contents wrong))
some_placed contents s here wrong o fits is least h = some_breach (IsFirstWrong (IsStandingWrong s here wrong)) (IsFirstPlaced contents wrong) o (λ at first. first_placed contents s here wrong at fits is least first) h
