-- The sections before the present one are unmapped.
use Rattle.std.proofs.Common.{◌≡◌, inl, inr, ℕ, ◌<◌, ◌≤◌, List, [], ◌∷◌, refl, ap, sym, ◌∙◌, subst, arith}
use Rattle.std.specs.Prelude.{◌≢◌}
use Rattle.std.proofs.lemmas.Bool.{cases_eq}
use Rattle.ubifs_base.specs.declared.raw_geometry.RawGeometry.{RawGeometry}
use Rattle.ubi_volume.specs.Volume.{VolumeState, Each, filled, WorksOn, IsUnmapped, SameShape, Leaves, ChangeUnderWay}
use Rattle.ubi_volume.specs.VolumeLaws.{Leaves-more}
use Rattle.ubi_volume.specs.Frame.{Works}
use Rattle.ubi_volume.specs.FrameLaws.{Works-none, Works-then, Works-may, Works-one, left-may}
use Rattle.bud_log.specs.Log.{IsLogLeb, next_leb}
use Rattle.bud_log.specs.LogAt.{LogAt, IsBetween, IsOfEarlierSection, steps_to}
use Rattle.bud_log.specs.LogCalls.{UnmapUnderWay, EndUnderWay}
use Rattle.bud_log.specs.Writing.{IsAmong, IsOlder, IsLogReady}
use Rattle.bud_log.specs.AfterCut.{IsLeftReady, lebs_to}
use Rattle.bud_log.specs.declared.head_at.HeadAt.{HeadAt}
use Rattle.bud_log.specs.LogLaws.{chain_alike, next_in}
use Rattle.bud_log.proofs.Appended.{IsQuiet, quiet_ready}
use Rattle.bud_log.specs.Chains.{past_other}
use Rattle.bud_log.specs.HeldLaws.{IsReady-past}
use Rattle.bud_log.proofs.Opened.{blank_older}
use Rattle.bud_log.specs.RingRuns.{lebs_left_of}
use Rattle.bud_log.proofs.Steps.{steps_next, steps_none, steps_small, same_steps, before_left}

-- the LEBs up to this one are unmapped
pub record IsUnmappedTo (old now : VolumeState) (geo : RawGeometry) (from to lnum : ℕ) : Type 0 where
  pub here : IsLogLeb geo lnum
  pub way : steps_to geo from lnum ≤ steps_to geo from to
  pub works : Works old now (IsBetween geo from to) (Each (UnmapUnderWay old geo from to))
  pub each : (k : ℕ) (x : List ℕ) → now.left_now k x → UnmapUnderWay old geo from to k x
  pub unwritten : (k : ℕ) → IsLogLeb geo k → steps_to geo from k < steps_to geo from lnum → (now.holds k ≡ filled old.leb_size []) × (now.written k ≡ 0)
  pub leb_size : now.leb_size ≡ old.leb_size

pub unmapped_none : (a : VolumeState) (geo : RawGeometry) (from to : ℕ) → IsLogLeb geo from → IsUnmappedTo a a geo from to from
unmapped_none a geo from to f =
    let none = steps_none geo from in
    record {
      here = f;
      way = omega (arith, none);
      works = Works-none a (IsBetween geo from to) (Each (UnmapUnderWay a geo from to)) (λ x now k. inl (now k));
      each = λ k x now. inl now;
      unwritten = λ k is less. absurd (omega (arith, none, less));
      leb_size = refl;
    }

-- a LEB on the way is before the last
pub is_between : (geo : RawGeometry) (from to lnum : ℕ) → IsLogLeb geo from → IsLogLeb geo to → IsLogLeb geo lnum → steps_to geo from lnum ≤ steps_to geo from to → lnum ≢ to → IsBetween geo from to lnum
is_between geo from to lnum f t l way ne = elim (cases_eq (steps_to geo from lnum) (steps_to geo from to)) [
  | inl same ↦ absurd (ne (same_steps geo from lnum to f l t same))
  | inr other ↦ record { in_log = l; before = omega (arith, way, other) }
]

-- a call that unmaps the next of them leaves of that one
more_unmapped : (a b : VolumeState) (geo : RawGeometry) (from to lnum : ℕ) → IsUnmappedTo a b geo from to lnum → IsBetween geo from to lnum → (x : List ℕ) → ChangeUnderWay b lnum [] x → UnmapUnderWay a geo from to lnum x
more_unmapped a b geo from to lnum h is x (inl now) = h.each lnum x now
more_unmapped a b geo from to lnum h is x (inr e) = inr (is, e ∙ ap (λ (size : ℕ). filled size []) h.leb_size)

-- whatever it answers
pub unmapped_works : (a b c : VolumeState) (geo : RawGeometry) (from to lnum : ℕ) → IsUnmappedTo a b geo from to lnum → IsBetween geo from to lnum → WorksOn b c lnum (ChangeUnderWay b lnum []) → Works a c (IsBetween geo from to) (Each (UnmapUnderWay a geo from to))
unmapped_works a b c geo from to lnum h is w =
    let T = IsBetween geo from to in
    let D = UnmapUnderWay a geo from to in
    Works-then a b c T T T (Each D) (Each D) (Each D) (λ k t. t) (λ k t. t) (λ x d. d) (λ x d. d) h.works (Works-may b c lnum (ChangeUnderWay b lnum []) T D is h.each (more_unmapped a b geo from to lnum h is) w)

pub unmapped_next : (a b c : VolumeState) (geo : RawGeometry) (from to lnum next : ℕ) → IsLogLeb geo from → IsLogLeb geo to → IsUnmappedTo a b geo from to lnum → lnum ≢ to → WorksOn b c lnum (ChangeUnderWay b lnum []) → IsUnmapped b c lnum → SameShape b c
    → next ≡ next_leb geo lnum → IsUnmappedTo a c geo from to next
unmapped_next a b c geo from to lnum next f t h ne w done shape e =
    let is = is_between geo from to lnum f t h.here h.way ne in
    let before = is.before in
    let small = steps_small geo from to f t in
    let step = steps_next geo from lnum f h.here (omega (arith, before, small)) in
    let N : ℕ → Type 0 = λ n. IsUnmappedTo a c geo from to n in
    subst N (sym e) (record {
      here = next_in geo lnum h.here;
      way = omega (arith, step, before);
      works = unmapped_works a b c geo from to lnum h is w;
      each = left-may b c lnum (ChangeUnderWay b lnum []) (UnmapUnderWay a geo from to) h.each (more_unmapped a b geo from to lnum h is) w;
      unwritten = λ k in_log less. elim (cases_eq k lnum) [
        | inl same ↦
            let P : ℕ → Type 0 = λ n. (c.holds n ≡ filled a.leb_size []) × (c.written n ≡ 0) in
            subst P (sym same) (done.holds ∙ ap (λ (size : ℕ). filled size []) h.leb_size, done.written)
        | inr other ↦ elim (cases_eq (steps_to geo from k) (steps_to geo from lnum)) [
          | inl same ↦ absurd (other (same_steps geo from k lnum f in_log h.here same))
          | inr apart ↦
              let before = h.unwritten k in_log (omega (arith, less, step, apart)) in
              (w.others k other ∙ before.0, w.others_written k other ∙ before.1)
        ]
      ];
      leb_size = shape.leb_size ∙ h.leb_size;
    })

pub unmapped_all : (a b : VolumeState) (geo : RawGeometry) (from to lnum : ℕ) → IsUnmappedTo a b geo from to lnum → lnum ≡ to → (k : ℕ) → IsBetween geo from to k → (b.holds k ≡ filled a.leb_size []) × (b.written k ≡ 0)
unmapped_all a b geo from to lnum h e k is =
    let P : ℕ → Type 0 = λ n. steps_to geo from k < steps_to geo from n in
    h.unwritten k is.in_log (subst P (sym e) is.before)

-- a LEB of a section before isn't read from the present one on
ended_aside : (a : VolumeState) (at : LogAt) (number k : ℕ) (buds : List HeadAt) (h : IsLogReady a at.geo at.section at.lnum at.offs number buds) → IsLogLeb at.geo at.first → IsLogLeb at.geo at.section → IsLogLeb at.geo at.lnum
    → steps_to at.geo at.first at.section ≤ steps_to at.geo at.first at.lnum → IsOfEarlierSection at k → IsAmong k (h.first ∷ h.more) → ⊥
ended_aside a at number k buds h f s l way is (inl same) =
    let P : ℕ → Type 0 = λ n. steps_to at.geo at.first n < steps_to at.geo at.first at.section in
    let less = subst P (same ∙ h.chain.is_first.here) is.before in
    absurd (omega (arith, less))
ended_aside a at number k buds h f s l way is (inr there) =
    let less = past_other a.holds at.geo at.section h.start (next_leb at.geo at.section) h.past k h.more s h.chain.run (next_in at.geo at.section s) there in
    let P : ℕ → Type 0 = λ n. lebs_left_of at.geo at.section n < lebs_left_of at.geo at.section k in
    let again = subst P (IsReady-past a at.geo at.section at.lnum at.offs number buds h) less in
    let other = before_left at.geo at.first at.section at.lnum k f s l is.in_log is.before way in
    absurd (omega (arith, again, other))

ended_quiet : (a : VolumeState) (at : LogAt) (number : ℕ) (buds : List HeadAt) (h : IsLogReady a at.geo at.section at.lnum at.offs number buds) (x : ℕ → List ℕ) → IsLogLeb at.geo at.first → IsLogLeb at.geo at.section → IsLogLeb at.geo at.lnum
    → steps_to at.geo at.first at.section ≤ steps_to at.geo at.first at.lnum → EndUnderWay a at x → IsQuiet a at.geo h.start number h.past (h.first ∷ h.more) x
ended_quiet a at number buds h x f s l way each = record {
  read = λ k there. elim (each k) [ inl now ↦ h.settled k there (x k) now | inr (is, e) ↦ absurd (ended_aside a at number k buds h f s l way is there) ];
  not_read = λ k is none. elim (each k) [ inl now ↦ h.spare k (x k) is none now | inr (ended, e) ↦ let P : List ℕ → Type 0 = λ leb. IsOlder h.start k leb in inl (subst P (sym e) (blank_older h.start k a.leb_size)) ];
}

-- at every moment the log reads as before
pub ended_moment : (a b : VolumeState) (at : LogAt) (number : ℕ) (buds : List HeadAt) → IsLogReady a at.geo at.section at.lnum at.offs number buds → IsLogLeb at.geo at.first → IsLogLeb at.geo at.section → IsLogLeb at.geo at.lnum
    → steps_to at.geo at.first at.section ≤ steps_to at.geo at.first at.lnum → Leaves a b (EndUnderWay a at) → Leaves a b (λ left. IsLeftReady left at.geo at.section (lebs_to at.geo at.section at.lnum) number buds)
ended_moment a b at number buds h f s l way time =
    Leaves-more a b (EndUnderWay a at) (λ left. IsLeftReady left at.geo at.section (lebs_to at.geo at.section at.lnum) number buds)
    (λ x each. quiet_ready a at.geo at.section at.lnum at.offs number buds h x s (ended_quiet a at number buds h x f s l way each)) time

-- what a cut leaves of each LEB afterwards
pub ended_each : (a b : VolumeState) (at : LogAt) → ((k : ℕ) → b.left_now k (b.holds k)) → Works a b (IsOfEarlierSection at) (EndUnderWay a at) → (k : ℕ) (x : List ℕ) → b.left_now k x → UnmapUnderWay a at.geo at.first at.section k x
ended_each a b at held w k x left =
    let one = Works-one a b (IsOfEarlierSection at) (EndUnderWay a at) held w k x left in
    let P : List ℕ → Type 0 = λ y. UnmapUnderWay a at.geo at.first at.section k y in
    subst P one.1 (one.2 k)

-- and the volume stays ready
pub ended_ready : (a b : VolumeState) (at : LogAt) (number : ℕ) (buds : List HeadAt) → IsLogReady a at.geo at.section at.lnum at.offs number buds → IsLogLeb at.geo at.first → IsLogLeb at.geo at.section → IsLogLeb at.geo at.lnum
    → steps_to at.geo at.first at.section ≤ steps_to at.geo at.first at.lnum → ((k : ℕ) → b.left_now k (b.holds k)) → Works a b (IsOfEarlierSection at) (EndUnderWay a at) → IsLogReady b at.geo at.section at.lnum at.offs number buds
ended_ready a b at number buds h f s l way held w =
    let each = ended_each a b at held w in
    let all = h.first ∷ h.more in
    let aside : (k : ℕ) → IsAmong k all → IsOfEarlierSection at k → ⊥ = λ k there is. ended_aside a at number k buds h f s l way is there in
    record {
      start = h.start;
      first = h.first;
      more = h.more;
      past = h.past;
      chain = chain_alike a.holds b.holds at.geo at.section h.start h.past h.first h.more (λ k there. sym (w.others k (aside k there)).holds) h.chain;
      low = h.low;
      below = h.below;
      buds_are = h.buds_are;
      last = h.last;
      settled = λ k there c left. elim (each k c left) [ inl now ↦ h.settled k there c now ∙ sym (w.others k (aside k there)).holds | inr (is, e) ↦ absurd (aside k there is) ];
      spare = λ k leb is none left. elim (each k leb left) [ inl now ↦ h.spare k leb is none now | inr (ended, e) ↦ let P : List ℕ → Type 0 = λ bytes. IsOlder h.start k bytes in inl (subst P (sym e) (blank_older h.start k a.leb_size)) ];
    }
