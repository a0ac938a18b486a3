-- Buds in which nothing is wrong, and what is wrong in those of contents.
use Rattle.std.proofs.Common.{◌≡◌, ℕ, ◌<◌, ◌≤◌, List, [], ◌∷◌, length, map, refl, ap, sym, subst, ◌∙◌, inl, inr, arith}
use Rattle.std.specs.Prelude.{◌^◌, All, IfErr, IfOk, Result, Ok, Err}
use Rattle.std.specs.List.{AllByRecursion}
use Rattle.std.proofs.lemmas.Bool.{cases_Bool}
use Rattle.std.proofs.lemmas.List.Elements.{All-nil, All-cons}
use Rattle.std.proofs.lemmas.List.{map-append}
use Rattle.ubifs_base.specs.NodeType.{type_number}
use Rattle.ubifs_base.specs.declared.raw_geometry.RawGeometry.{RawGeometry}
use Rattle.leb_scan.specs.Text.{nodes_of}
use Rattle.leb_scan.specs.declared.found.Found.{Found}
use Rattle.bud_log.specs.declared.head_at.HeadAt.{HeadAt}
use Rattle.journal_scan.specs.Journal.{BudRead, IsBudRead, IsReadable}
use Rattle.journal_scan.specs.declared.bud_text.BudText.{BudText}
use Rattle.sound_image.specs.Breaches.{IsWrongInBuds}
use Rattle.sound_image.specs.Buds.{IsSoundBud, MayStandInBud, bud_text}
use Rattle.sound_image.specs.Frames.{IsKnownAt}
use Rattle.sound_image.specs.Wrong.{IsFirstWrong, IsOneOf, Wrong, differs, needs}
use Rattle.sound_image.specs.WrongLaws.{first_or_behind, first_of_equal, one_behind, one_first, one_of_none}
use Rattle.sound_image.specs.declared.breach.Breach.{Breach}
use Rattle.sound_image.specs.declared.breach.Breach.TheVariants.{Super as InSuper, Feature as NeedsOne, NoMaster, Damaged}
use Rattle.sound_image.specs.declared.rule.Rule.TheVariants as rules
use Rattle.image_check.specs.Told.{HasCheckCause, IsBreachOf, IsNoVolumeFault, TellsBreach}
use Rattle.image_check.specs.declared.fault.CheckFault.{CheckFault}
use Rattle.image_check.specs.declared.fault.CheckFault.TheVariants.{Memory, Volume, Unsound}
use Rattle.bud_check.specs.Findings.{IsBudPlace, IsInVolume, IsWrongText, IsWrongTexts, breach_told, may_stand, misfit_told, wrong_told}
use Rattle.bud_check.specs.Found.{AreFoundBuds, IsFoundInTexts}
use Rattle.bud_check.specs.declared.buds_found.BudsFound.{BudsFound}
use Rattle.bud_check.specs.declared.bud_wrong.BudMisfit.{BudMisfit}
use Rattle.bud_check.specs.declared.bud_wrong.BudMisfit.TheVariants.{Needs, Unwanted}
use Rattle.bud_check.specs.declared.bud_wrong.BudWrong.{BudWrong}
use Rattle.bud_check.proofs.TextFirsts.{allowed, not_allowed}

-- ---- where nothing is wrong, a bud that was read is sound
all_from : (P : Found → Type 0) (xs : List Found) → ((x : Found) → IsOneOf x xs → P x) → All P xs
all_from P [] h = All-nil P
all_from P (x ∷ xs) h = All-cons P x xs (h x (one_first x x xs refl)) (all_from P xs (λ y one. h y (one_behind y x xs one)))

read_sound : (read : BudRead) → IsBudRead read → ((at : Wrong) → IsWrongText read.bud at → ⊥) → IsSoundBud read
read_sound read h none = record {
  is_read = h;
  kinds = all_from (λ (found : Found). MayStandInBud found.kind) (nodes_of h.items) (λ found one. elim (cases_Bool (may_stand found.kind)) [
    | inl may ↦ allowed found.kind may
    | inr not ↦ absurd (none (record { lnum = read.bud.lnum; offs = found.offs; misfit = differs 1 (type_number found.kind) }) (record { items = h.items; end = h.end; tail = read.tail; is_text = h.text; lnum = refl; wrong = inl (found, one, not_allowed found.kind not, refl, refl) }))
  ]);
  known = all_from (λ (found : Found). IsKnownAt read.bud.bytes found.offs) (nodes_of h.items) (λ found one what needed.
      none (record { lnum = read.bud.lnum; offs = found.offs; misfit = needs what }) (record { items = h.items; end = h.end; tail = read.tail; is_text = h.text; lnum = refl; wrong = inr (what, needed, inr (found, one, refl), refl) }));
  tail = λ what needed. none (record { lnum = read.bud.lnum; offs = h.end; misfit = needs what }) (record { items = h.items; end = h.end; tail = read.tail; is_text = h.text; lnum = refl; wrong = inr (what, needed, inl refl, refl) });
}

pub all_sound : (texts : List BudText) (reads : List BudRead) → map (λ x. x.bud) reads ≡ texts → AllByRecursion IsBudRead reads → ((at : Wrong) → IsWrongTexts texts at → ⊥) → AllByRecursion IsSoundBud reads
all_sound texts [] e h none = tt
all_sound [] (read ∷ reads) e h none = absurd cc
all_sound (text ∷ texts) (read ∷ reads) e h none =
    let parts = first_of_equal read.bud text (map (λ x. x.bud) reads) texts e in (
      read_sound read h.0 (λ at w. none at (read.bud, one_first read.bud text texts parts.0, w)),
      all_sound texts reads parts.1 h.1 (λ at w. none at (w.0, one_behind w.0 text texts w.1, w.2)),
    )

-- ---- what is wrong in the texts of contents is wrong in their buds
mapped : (contents : ℕ → List ℕ) (buds : List HeadAt) (bud : HeadAt) → IsOneOf bud buds → IsOneOf (bud_text contents bud) (map (bud_text contents) buds)
mapped contents buds bud (before, behind, e) = (map (bud_text contents) before, map (bud_text contents) behind, ap (map (bud_text contents)) e ∙ map-append (bud_text contents) before (bud ∷ behind))

unmapped : (contents : ℕ → List ℕ) (buds : List HeadAt) (text : BudText) → IsOneOf text (map (bud_text contents) buds) → (bud : HeadAt) × IsOneOf bud buds × (text ≡ bud_text contents bud)
unmapped contents [] text one = absurd (one_of_none text one)
unmapped contents (b ∷ buds) text one = elim (first_or_behind text (bud_text contents b) (map (bud_text contents) buds) one) [
  | inl e ↦ (b, one_first b b buds refl, e)
  | inr more ↦ let there = unmapped contents buds text more in (there.0, one_behind there.0 b buds there.1, there.2)
]

pub to_buds : (contents : ℕ → List ℕ) (buds : List HeadAt) (at : Wrong) → IsWrongTexts (map (bud_text contents) buds) at → IsWrongInBuds contents buds at
to_buds contents buds at (text, one, w) =
    let there = unmapped contents buds text one in
    let P : BudText → Type 0 = λ t. IsWrongText t at in
    let own = subst P there.2 w in
    (there.0, there.1, record { items = own.items; end = own.end; tail = own.tail; is_text = own.is_text; lnum = own.lnum; wrong = own.wrong })

pub from_buds : (contents : ℕ → List ℕ) (buds : List HeadAt) (at : Wrong) → IsWrongInBuds contents buds at → IsWrongTexts (map (bud_text contents) buds) at
from_buds contents buds at (bud, one, own) = (bud_text contents bud, mapped contents buds bud one, record { items = own.items; end = own.end; tail = own.tail; is_text = own.is_text; lnum = own.lnum; wrong = own.wrong })

pub first_in_buds : (contents : ℕ → List ℕ) (buds : List HeadAt) (at : Wrong) → IsFirstWrong (IsWrongTexts (map (bud_text contents) buds)) at → IsFirstWrong (IsWrongInBuds contents buds) at
first_in_buds contents buds at h = record { wrong = to_buds contents buds at h.wrong; least = λ other w. h.least other (from_buds contents buds other w) }

-- ---- what is told
-- what is wrong, as a breach of the rule on buds
told_by : (Is : Wrong → Type 0) (lnum offs : ℕ) (m : BudMisfit) → Is (record { lnum = lnum; offs = offs; misfit = misfit_told m }) → IsBreachOf rules.Buds Is (breach_told (record { lnum = lnum; offs = offs; misfit = m }))
told_by Is lnum offs (Needs what) h = (refl, h)
told_by Is lnum offs (Unwanted kind) h = (refl, h)

pub told_breach : (Is : Wrong → Type 0) (wrong : BudWrong) (breach : Breach) → breach ≡ breach_told wrong → Is (wrong_told wrong) → IsBreachOf rules.Buds Is breach
told_breach Is wrong breach e h = let P : Breach → Type 0 = λ b. IsBreachOf rules.Buds Is b in subst P (sym e) (told_by Is wrong.lnum wrong.offs wrong.misfit h)

-- what is wrong so is wrong in another way
breach_then : (P Q : Wrong → Type 0) → ((at : Wrong) → P at → Q at) → (breach : Breach) → IsBreachOf rules.Buds P breach → IsBreachOf rules.Buds Q breach
breach_then P Q f (InSuper field) h = h
breach_then P Q f (NeedsOne what lnum offs) h = (h.0, f (record { lnum = lnum; offs = offs; misfit = needs what }) h.1)
breach_then P Q f NoMaster h = h
breach_then P Q f (Damaged rule lnum offs wanted found) h = (h.0, f (record { lnum = lnum; offs = offs; misfit = differs wanted found }) h.1)

pub tells_then : {T : Type 0} (P Q : Wrong → Type 0) (r : Result T CheckFault) → ((at : Wrong) → P at → Q at) → IfErr r (TellsBreach (IsBreachOf rules.Buds P)) → IfErr r (TellsBreach (IsBreachOf rules.Buds Q))
tells_then P Q (Ok x) f h = tt
tells_then P Q (Err Memory) f h = tt
tells_then P Q (Err (Volume count)) f h = tt
tells_then P Q (Err (Unsound breach)) f h = breach_then P Q f breach h

-- what a check answers that reads no volume
pub judged_cause : {T : Type 0} (before now : ℕ) (r : Result T CheckFault) → IsNoVolumeFault r → before ≤ now → HasCheckCause before now r
judged_cause before now (Ok x) h k = k
judged_cause before now (Err Memory) h k = k
judged_cause before now (Err (Unsound breach)) h k = k
judged_cause before now (Err (Volume count)) h k = absurd h

pub readable : (geo : RawGeometry) (contents : ℕ → List ℕ) (buds : List HeadAt) → ((lnum : ℕ) → lnum < geo.leb_cnt → length (contents lnum) ≡ geo.leb_size) → geo.leb_size < 2 ^ 32 → AllByRecursion (IsBudPlace geo) buds → AllByRecursion IsReadable (map (bud_text contents) buds)
readable geo contents [] full small h = tt
readable geo contents (bud ∷ buds) full small h =
    let at = h.0 in
    let len = full bud.lnum at.high in
    let inside = at.inside in
    (record { multiple = at.even; place = omega (arith, inside, len); len = omega (arith, len, small) }, readable geo contents buds full small h.1)

pub in_volume : (geo : RawGeometry) (leb_cnt : ℕ) (buds : List HeadAt) → geo.leb_cnt ≤ leb_cnt → AllByRecursion (IsBudPlace geo) buds → AllByRecursion (IsInVolume leb_cnt) buds
in_volume geo leb_cnt [] more h = tt
in_volume geo leb_cnt (bud ∷ buds) more h = let high = h.0.high in (omega (arith, high, more), in_volume geo leb_cnt buds more h.1)

-- ---- what is judged of texts is judged of buds
met_by : (contents : ℕ → List ℕ) (buds : List HeadAt) (r : Result BudsFound CheckFault) → IfOk r (IsFoundInTexts (map (bud_text contents) buds)) → IfOk r (AreFoundBuds contents buds)
met_by contents buds (Ok found) h = record { journal = h.journal; rule = record { of_buds = h.journal.of_buds; sound = h.sound }; clean = h.clean }
met_by contents buds (Err fault) h = tt

pub buds_met : (contents : ℕ → List ℕ) (buds : List HeadAt) (texts : List BudText) (r : Result BudsFound CheckFault) → texts ≡ map (bud_text contents) buds → IfOk r (IsFoundInTexts texts) → IfOk r (AreFoundBuds contents buds)
buds_met contents buds texts r e h =
    let P : List BudText → Type 0 = λ ts. IfOk r (IsFoundInTexts ts) in
    met_by contents buds r (subst P e h)

pub buds_broken : {T : Type 0} (contents : ℕ → List ℕ) (buds : List HeadAt) (texts : List BudText) (r : Result T CheckFault) → texts ≡ map (bud_text contents) buds
    → IfErr r (TellsBreach (IsBreachOf rules.Buds (IsFirstWrong (IsWrongTexts texts)))) → IfErr r (TellsBreach (IsBreachOf rules.Buds (IsFirstWrong (IsWrongInBuds contents buds))))
buds_broken contents buds texts r e h =
    let P : List BudText → Type 0 = λ ts. IfErr r (TellsBreach (IsBreachOf rules.Buds (IsFirstWrong (IsWrongTexts ts)))) in
    tells_then (IsFirstWrong (IsWrongTexts (map (bud_text contents) buds))) (IsFirstWrong (IsWrongInBuds contents buds)) r (first_in_buds contents buds) (subst P e h)
