-- The free ends of main LEBs, one after another.
use Rattle.std.proofs.Common.{◌≡◌, ℕ, zero, suc, ◌+◌, ◌-◌, ◌<◌, ◌≤◌, nat_lt, Bool, true, false, List, [], ◌∷◌, Option, Some, None, length, drop, get_or, get_or-drop, slice_get, slice_range, ap, sym, subst, ◌∙◌, inl, inr, arith, refl}
use Rattle.std.specs.Prelude.{◌≢◌, ◌==◌, ◌&&◌, IfNone, IfSome, not}
use Rattle.std.proofs.lemmas.List.{length-drop, take_all}
use Rattle.std.proofs.lemmas.Bool.{and_from, and_parts, cases_lt, eq-eqb, lt-ltb, ltb-true, ne_eqb}
use Rattle.ubifs_base.specs.Areas.{main_first}
use Rattle.ubifs_base.specs.declared.raw_geometry.RawGeometry.{RawGeometry}
use Rattle.ubi_volume.specs.Volume.{VolumeState}
use Rattle.leb_scan.specs.Text.{is_blank}
use Rattle.media_lpt.specs.declared.lprop.Lprop.{Lprop}
use Rattle.media_sys.specs.declared.master.Master.{Master}
use Rattle.bud_log.specs.Log.{references_of}
use Rattle.bud_log.specs.LogText.{LogText}
use Rattle.sound_image.specs.Breaches.{IsWrittenEnd}
use Rattle.sound_image.specs.Properties.{prop_of}
use Rattle.sound_image.specs.Space.{HasErasedEnds}
use Rattle.sound_image.specs.Wrong.{IsFirstWrong, differs}
use Rattle.sound_image.specs.declared.rule.Rule.TheVariants as rules
use Rattle.sound_image.specs.declared.breach.Breach.TheVariants.{Damaged}
use Rattle.image_check.specs.Told.{IsBreachOf}
use Rattle.space_check.specs.Ends.{IsFirstIn, IsFirstWritten, IsUnwrittenFrom, has_free_end}
use Rattle.space_check.specs.declared.written_byte.WrittenByte.{WrittenByte}
use Rattle.image_check.specs.FirstLaws.{first_of_lebs}
use Rattle.image_check.specs.KeptLaws.{IsKept}
use Rattle.space_check.proofs.Places.{in_main, of_main, one_prop, some_inside}

-- ---- one LEB
-- the bytes that were read are those from an offset to the end
pub end_bytes : (leb : List ℕ) (from to : ℕ) → length leb ≤ to → slice_range leb from to ≡ drop from leb
end_bytes leb from to all = take_all (to - from) (drop from leb) (let e = length-drop from leb in omega (arith, e, all))

-- what is first among the bytes that were read is first in the LEB
pub first_in_leb : (leb end : List ℕ) (from : ℕ) (at : WrittenByte) → end ≡ drop from leb → IsFirstIn end from at → IsFirstWritten leb from at
first_in_leb leb end from at e first =
    let offs = first.offs in
    let same : (k : ℕ) → get_or end k 255 ≡ get_or leb (from + k) 255 = λ k. ap (λ (xs : List ℕ). get_or xs k 255) e ∙ get_or-drop from leb k 255 in
    let here : get_or end first.place 255 ≡ get_or leb at.offs 255 = same first.place ∙ ap (λ (n : ℕ). get_or leb n 255) (sym offs) in
    record {
      behind = omega (arith, offs);
      byte = first.byte ∙ here;
      written = λ k. first.written (here ∙ k);
      before = λ k low less.
          let back : from + (k - from) ≡ k = omega (arith, low) in
          ap (λ (n : ℕ). get_or leb n 255) (sym back) ∙ sym (same (k - from)) ∙ first.before (k - from) (omega (arith, offs, low, less));
    }

pub unwritten_in_leb : (leb end : List ℕ) (from : ℕ) → end ≡ drop from leb → ((k : ℕ) → get_or end k 255 ≡ 255) → IsUnwrittenFrom leb from
unwritten_in_leb leb end from e all k low =
    let back : from + (k - from) ≡ k = omega (arith, low) in
    ap (λ (n : ℕ). get_or leb n 255) (sym back) ∙ sym (get_or-drop from leb (k - from) 255) ∙ ap (λ (xs : List ℕ). get_or xs (k - from) 255) (sym e) ∙ all (k - from)

-- bytes that are all unwritten
unwritten : (bytes : List ℕ) → ((k : ℕ) → get_or bytes k 255 ≡ 255) → is_blank bytes ≡ true
unwritten [] h = refl
unwritten (b ∷ bytes) h = and_from (b == 255) (is_blank bytes) (eq-eqb b 255 (h 0)) (unwritten bytes (λ k. h (suc k)))

blank_from : (leb : List ℕ) (from : ℕ) → IsUnwrittenFrom leb from → is_blank (drop from leb) ≡ true
blank_from leb from h = unwritten (drop from leb) (λ k. get_or-drop from leb k 255 ∙ h (from + k) (omega arith))

-- ---- which LEBs have a free end
free_end : (geo : RawGeometry) (master : Master) (lnum : ℕ) (prop : Lprop) → 0 < prop.free → prop.free < geo.leb_size → lnum ≢ master.ihead_lnum → has_free_end geo master lnum prop ≡ true
free_end geo master lnum prop some less other =
    and_from (nat_lt 0 prop.free) (nat_lt prop.free geo.leb_size && not (lnum == master.ihead_lnum)) (lt-ltb 0 prop.free some)
    (and_from (nat_lt prop.free geo.leb_size) (not (lnum == master.ihead_lnum)) (lt-ltb prop.free geo.leb_size less) (ap not (ne_eqb lnum master.ihead_lnum other)))

not_true : (b : Bool) → not b ≡ true → b ≡ false
not_true true h = absurd cc
not_true false h = refl

pub free_end_parts : (geo : RawGeometry) (master : Master) (lnum : ℕ) (prop : Lprop) → has_free_end geo master lnum prop ≡ true → (0 < prop.free) × (prop.free < geo.leb_size) × (lnum ≢ master.ihead_lnum)
free_end_parts geo master lnum prop h =
    let first = and_parts (nat_lt 0 prop.free) (nat_lt prop.free geo.leb_size && not (lnum == master.ihead_lnum)) h in
    let second = and_parts (nat_lt prop.free geo.leb_size) (not (lnum == master.ihead_lnum)) first.1 in
    (ltb-true 0 prop.free first.0, ltb-true prop.free geo.leb_size second.0, λ e. let k = sym (eq-eqb lnum master.ihead_lnum e) ∙ not_true (lnum == master.ihead_lnum) second.1 in absurd cc)

-- ---- LEB by LEB
-- the end of a LEB is unwritten, if it has to be
abbrev pub IsErasedEnd : (ℕ → List ℕ) → RawGeometry → Master → ℕ → Lprop → Type 0
IsErasedEnd holds geo master lnum prop = has_free_end geo master lnum prop ≡ true → IsUnwrittenFrom (holds lnum) (geo.leb_size - prop.free)

-- the first LEBs meet the rule
abbrev pub EndsTo : (ℕ → List ℕ) → RawGeometry → Master → List Lprop → ℕ → Type 0
EndsTo holds geo master props to = (at : ℕ) (prop : Lprop) → at < to → slice_get props at ≡ Some prop → IsErasedEnd holds geo master (main_first geo + at) prop

pub record EndsSoFar (geo : RawGeometry) (master : Master) (props : List Lprop) (old now : VolumeState) (to : ℕ) (buffer : List ℕ) : Type 0 where
  pub ends : EndsTo old.holds geo master props to
  pub kept : IsKept old now
  pub len : length buffer ≡ old.leb_size

pub ends_none : (holds : ℕ → List ℕ) (geo : RawGeometry) (master : Master) (props : List Lprop) → EndsTo holds geo master props 0
ends_none holds geo master props at prop high = absurd (omega (arith, high))

-- one more
pub ends_next : (holds : ℕ → List ℕ) (geo : RawGeometry) (master : Master) (props : List Lprop) (to : ℕ) (prop : Lprop) → EndsTo holds geo master props to → slice_get props to ≡ Some prop → IsErasedEnd holds geo master (main_first geo + to) prop
    → EndsTo holds geo master props (to + 1)
ends_next holds geo master props to prop before has own at p high there = elim (cases_lt at to) [
  | inl less ↦ before at p less there
  | inr more ↦
      let same : to ≡ at = omega (arith, high, more) in
      let H : ℕ → Type 0 = λ n. slice_get props n ≡ Some prop in
      let it = one_prop prop p (slice_get props at) (subst H same has) there in
      let A : ℕ → Type 0 = λ n. IsErasedEnd holds geo master (main_first geo + n) prop in
      let C : Lprop → Type 0 = λ x. IsErasedEnd holds geo master (main_first geo + at) x in
      subst C it (subst A same own)
]

-- where all LEBs meet the rule, the contents do
pub ends_met : (holds : ℕ → List ℕ) (geo : RawGeometry) (master : Master) (props : List Lprop) (to : ℕ) → length props ≤ to → EndsTo holds geo master props to → (log : List LogText) → HasErasedEnds holds geo master props log
ends_met holds geo master props to all h log none lnum prop has some less other =
    let main = in_main geo props lnum prop has in
    let low = main.0 in
    let same : main_first geo + (lnum - main_first geo) ≡ lnum = omega (arith, low) in
    let inside = some_inside props (lnum - main_first geo) prop main.1 in
    let A : ℕ → Type 0 = λ n. IsErasedEnd holds geo master n prop in
    blank_from (holds lnum) (geo.leb_size - prop.free) (subst A same (h (lnum - main_first geo) prop (omega (arith, inside, all)) main.1) (free_end geo master lnum prop some less other))

-- the first written byte of the first LEB that doesn't meet the rule is what is wrong first
first_end : (holds : ℕ → List ℕ) (geo : RawGeometry) (master : Master) (props : List Lprop) (log : List LogText) (to : ℕ) (at : WrittenByte) (prop : Lprop) → references_of log ≡ [] → EndsTo holds geo master props to → slice_get props to ≡ Some prop
    → has_free_end geo master (main_first geo + to) prop ≡ true → IsFirstWritten (holds (main_first geo + to)) (geo.leb_size - prop.free) at
    → IsFirstWrong (IsWrittenEnd holds geo master props log) (record { lnum = main_first geo + to; offs = at.offs; misfit = differs 255 at.byte })
first_end holds geo master props log to at prop none before has free first =
    let lnum = main_first geo + to in
    let parts = free_end_parts geo master lnum prop free in
    let own = of_main geo props to prop has in
    first_of_lebs (IsWrittenEnd holds geo master props log) (record { lnum = lnum; offs = at.offs; misfit = differs 255 at.byte })
    (record { no_bud = none; prop = prop; has = own; some = parts.0; not_all = parts.1; elsewhere = parts.2; behind = first.behind; byte = first.written; values = ap (differs 255) first.byte })
    (λ other w less.
    let main = in_main geo props other.lnum w.prop w.has in
    let low = main.0 in
    let same : main_first geo + (other.lnum - main_first geo) ≡ other.lnum = omega (arith, low) in
    let A : ℕ → Type 0 = λ n. IsErasedEnd holds geo master n w.prop in
    w.byte (subst A same (before (other.lnum - main_first geo) w.prop (omega (arith, less, low)) main.1) (free_end geo master other.lnum w.prop w.some w.not_all w.elsewhere) other.offs w.behind))
    (λ other w same.
    let H : ℕ → Type 0 = λ n. prop_of geo props n ≡ Some w.prop in
    let it = one_prop w.prop prop (prop_of geo props lnum) (subst H same w.has) own in
    let B : ℕ → Type 0 = λ n. get_or (holds n) other.offs 255 ≢ 255 in
    let byte : get_or (holds lnum) other.offs 255 ≢ 255 = subst B same w.byte in
    let F : Lprop → Type 0 = λ x. geo.leb_size - x.free ≤ other.offs in
    let behind : geo.leb_size - prop.free ≤ other.offs = subst F it w.behind in
    let later : at.offs ≤ other.offs = elim (cases_lt other.offs at.offs) [ inl less ↦ absurd (byte (first.before other.offs behind less)) | inr high ↦ high ] in
    (later, λ s. w.values ∙ ap (λ (n : ℕ). differs 255 (get_or (holds n) other.offs 255)) same ∙ ap (λ (n : ℕ). differs 255 (get_or (holds lnum) n 255)) s ∙ ap (differs 255) (sym first.byte)))

pub end_broken : (holds : ℕ → List ℕ) (geo : RawGeometry) (master : Master) (props : List Lprop) (to lnum : ℕ) (at : WrittenByte) (prop : Lprop) → lnum ≡ main_first geo + to → EndsTo holds geo master props to → slice_get props to ≡ Some prop
    → has_free_end geo master lnum prop ≡ true → IsFirstWritten (holds lnum) (geo.leb_size - prop.free) at
    → (log : List LogText) → references_of log ≡ [] → IsBreachOf rules.Ends (IsFirstWrong (IsWrittenEnd holds geo master props log)) (Damaged rules.Ends lnum at.offs 255 at.byte)
end_broken holds geo master props to lnum at prop e before has free first log none =
    let F : ℕ → Type 0 = λ n. has_free_end geo master n prop ≡ true in
    let W : ℕ → Type 0 = λ n. IsFirstWritten (holds n) (geo.leb_size - prop.free) at in
    let P : ℕ → Type 0 = λ n. IsFirstWrong (IsWrittenEnd holds geo master props log) (record { lnum = n; offs = at.offs; misfit = differs 255 at.byte }) in
    (refl, subst P (sym e) (first_end holds geo master props log to at prop none before has (subst F e free) (subst W e first)))

-- ---- what is told of an answer
pub none_then : {T P Q : Type 0} (r : Option T) → (P → Q) → IfNone r P → IfNone r Q
none_then (Some x) f h = tt
none_then None f h = f h

pub some_then : {T : Type 0} (P Q : T → Type 0) (r : Option T) → ((x : T) → P x → Q x) → IfSome r P → IfSome r Q
some_then P Q (Some x) f h = f x h
some_then P Q None f h = tt

-- ---- one step of the reading
has_at : (props : List Lprop) (at : ℕ) (d : Lprop) → at < length props → slice_get props at ≡ Some (get_or props at d)
has_at [] at d h = absurd (omega (arith, h))
has_at (p ∷ props) zero d h = refl
has_at (p ∷ props) (suc at) d h = has_at props at d (omega (arith, h))

-- the LEB at this place has an end that has to be unwritten, and isn't
pub broken_here : (old now : VolumeState) (geo : RawGeometry) (master : Master) (props : List Lprop) (to lnum : ℕ) (d : Lprop) (at : WrittenByte) → lnum ≡ main_first geo + to → to < length props → EndsTo old.holds geo master props to → IsKept old now
    → has_free_end geo master lnum (get_or props to d) ≡ true → IsFirstWritten (now.holds lnum) (geo.leb_size - (get_or props to d).free) at
    → (log : List LogText) → references_of log ≡ [] → IsBreachOf rules.Ends (IsFirstWrong (IsWrittenEnd old.holds geo master props log)) (Damaged rules.Ends lnum at.offs 255 at.byte)
broken_here old now geo master props to lnum d at e inside before kept free first =
    let prop = get_or props to d in
    let W : List ℕ → Type 0 = λ leb. IsFirstWritten leb (geo.leb_size - prop.free) at in
    end_broken old.holds geo master props to lnum at prop e before (has_at props to d inside) free (subst W (kept.keeps.holds lnum) first)

-- or has none such, or it is unwritten
pub met_here : (old now : VolumeState) (geo : RawGeometry) (master : Master) (props : List Lprop) (to lnum : ℕ) (d : Lprop) → lnum ≡ main_first geo + to → to < length props → EndsTo old.holds geo master props to → IsKept old now
    → (has_free_end geo master lnum (get_or props to d) ≡ true → IsUnwrittenFrom (now.holds lnum) (geo.leb_size - (get_or props to d).free)) → EndsTo old.holds geo master props (to + 1)
met_here old now geo master props to lnum d e inside before kept here =
    let prop = get_or props to d in
    let W : List ℕ → Type 0 = λ leb. IsUnwrittenFrom leb (geo.leb_size - prop.free) in
    let A : ℕ → Type 0 = λ n. IsErasedEnd old.holds geo master n prop in
    ends_next old.holds geo master props to prop before (has_at props to d inside) (subst A e (λ free. subst W (kept.keeps.holds lnum) (here free)))
