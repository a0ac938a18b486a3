-- Laws of logs, and of volumes that are ready for the next node of one.
use Rattle.std.specs.Prelude.{◌≡◌, ◌⊎◌, ℕ, ◌+◌, ◌-◌, ◌*◌, ◌/◌, ◌≤◌, true, false, Option, Some, None, List, [], ◌∷◌}
use Rattle.std.proofs.Common.{inl, inr, refl, sym, subst, ◌∙◌, arith}
use Rattle.std.proofs.Math.Nat.{mul-le-mul_right, div-mul-le_self}
use Rattle.std.proofs.lemmas.Bool.{cases_eq, cases_lt, lt-ltb, le-ltb, ltb-false}
use Rattle.std.proofs.lemmas.Nat.{div-add-mod'}
use Rattle.ubifs_base.specs.Areas.{lpt_first}
use Rattle.ubifs_base.specs.Geometry.{IsGeometry}
use Rattle.ubifs_base.specs.declared.raw_geometry.RawGeometry.{RawGeometry}
use Rattle.ubi_volume.specs.Volume.{VolumeState}
use Rattle.ubi_volume.specs.Frame.{IsSameLeb, Works}
use Rattle.leb_scan.specs.Text.{is_blank}
use Rattle.leb_scan.specs.declared.tail.Tail.TheVariants.{Clean}
use Rattle.leb_scan.specs.declared.found.Found.{Found}
use Rattle.bud_log.specs.Log.{IsLogLeb, next_leb, Run, Stops, AreFurther, Log, IsLog}
use Rattle.bud_log.specs.LogAt.{padded_room_of}
use Rattle.bud_log.specs.LogText.{LogText, IsLogTextOf, begins_with, start_of, BeginsCommit, is_later}
use Rattle.bud_log.specs.Writing.{IsAmong, IsOlder, AreBelow, AreOthersOlder, IsPassedOver, IsChain, IsLogReady}
use Rattle.bud_log.specs.declared.head_at.HeadAt.{HeadAt}

-- the next LEB is one of the log
pub next_in : (geo : RawGeometry) (lnum : ℕ) → IsLogLeb geo lnum → IsLogLeb geo (next_leb geo lnum)
next_in geo lnum l =
    let low = l.low in
    let high = l.high in
    elim (cases_lt (lnum + 1) (lpt_first geo)) [
      | inl here ↦
          let e : next_leb geo lnum ≡ lnum + 1 = rw (lt-ltb (lnum + 1) (lpt_first geo) here) refl in
          let P : ℕ → Type 0 = λ n. IsLogLeb geo n in
          subst P (sym e) (record { low = omega (arith, low); high = here })
      | inr round ↦
          let e : next_leb geo lnum ≡ 3 = rw (le-ltb (lnum + 1) (lpt_first geo) round) refl in
          let P : ℕ → Type 0 = λ n. IsLogLeb geo n in
          subst P (sym e) (record { low = omega arith; high = omega (arith, low, high) })
    ]

run_log : (c : ℕ → List ℕ) (geo : RawGeometry) (from number l past k : ℕ) (texts : List LogText) → Run c geo from number l texts past → IsLogLeb geo l → IsAmong k texts → IsLogLeb geo k
run_log c geo from number l past k [] h is there = absurd there
run_log c geo from number l past k (text ∷ texts) h is (inl same) = let P : ℕ → Type 0 = λ n. IsLogLeb geo n in subst P (sym (same ∙ h.1.here)) is
run_log c geo from number l past k (text ∷ texts) h is (inr there) = run_log c geo from number (next_leb geo l) past k texts h.3 (next_in geo l is) there

-- each LEB that is read is one of the log
pub among_log : (c : ℕ → List ℕ) (geo : RawGeometry) (from start past k : ℕ) (first : LogText) (more : List LogText) → IsLogLeb geo from → IsChain c geo from start first more past → IsAmong k (first ∷ more) → IsLogLeb geo k
among_log c geo from start past k first more f h (inl same) = let P : ℕ → Type 0 = λ n. IsLogLeb geo n in subst P (sym (same ∙ h.is_first.here)) f
among_log c geo from start past k first more f h (inr there) = run_log c geo from start (next_leb geo from) past k more h.run (next_in geo from f) there

run_alike : (c d : ℕ → List ℕ) (geo : RawGeometry) (from number lnum past : ℕ) (texts : List LogText) → ((k : ℕ) → IsAmong k texts → c k ≡ d k) → Run c geo from number lnum texts past → Run d geo from number lnum texts past
run_alike c d geo from number lnum past [] same h = h
run_alike c d geo from number lnum past (text ∷ texts) same h =
    let P : List ℕ → Type 0 = λ leb. IsLogTextOf leb lnum text in
    (h.0, subst P (same lnum (inl (sym h.1.here))) h.1, h.2, run_alike c d geo from number (next_leb geo lnum) past texts (λ k there. same k (inr there)) h.3)

-- contents that are alike where texts are read
pub chain_alike : (c d : ℕ → List ℕ) (geo : RawGeometry) (from start past : ℕ) (first : LogText) (more : List LogText) → ((k : ℕ) → IsAmong k (first ∷ more) → c k ≡ d k) → IsChain c geo from start first more past → IsChain d geo from start first more past
chain_alike c d geo from start past first more same h =
    let P : List ℕ → Type 0 = λ leb. IsLogTextOf leb from first in
    record {
      is_first = subst P (same from (inl (sym h.is_first.here))) h.is_first;
      starts = h.starts;
      run = run_alike c d geo from start (next_leb geo from) past more (λ k there. same k (inr there)) h.run;
    }

later_more : (a b : ℕ) (found : Option Found) → a ≤ b → is_later a found ≡ false → is_later b found ≡ false
later_more a b None less h = refl
later_more a b (Some found) less h = let low = ltb-false a found.sqnum h in le-ltb b found.sqnum (omega (arith, low, less))

pub older_more : (a b lnum : ℕ) (leb : List ℕ) → a ≤ b → IsOlder a lnum leb → IsOlder b lnum leb
older_more a b lnum leb less h = (h.0, h.1, later_more a b (begins_with h.0.nodes) less h.2)

pub below_more : (a b : ℕ) (texts : List LogText) → a ≤ b → AreBelow a texts → AreBelow b texts
below_more a b [] less h = h
below_more a b (text ∷ texts) less h = (later_more a b (begins_with text.nodes) less h.0, below_more a b texts less h.1)

-- one LEB is read or not
pub among_or : (k : ℕ) (texts : List LogText) → IsAmong k texts ⊎ (IsAmong k texts → ⊥)
among_or k [] = inr (λ h. h)
among_or k (text ∷ texts) = elim (cases_eq k text.ends.lnum) [
  | inl same ↦ inl (inl same)
  | inr other ↦ elim (among_or k texts) [ inl there ↦ inl (inr there) | inr none ↦ inr (λ h. elim h [ inl same ↦ other same | inr there ↦ none there ]) ]
]

run_older : (c : ℕ → List ℕ) (geo : RawGeometry) (from start lnum past number k : ℕ) (texts : List LogText) → Run c geo from start lnum texts past → AreBelow number texts → IsAmong k texts → IsOlder number k (c k)
run_older c geo from start lnum past number k [] h below there = absurd there
run_older c geo from start lnum past number k (text ∷ texts) h below (inl same) =
    let P : ℕ → Type 0 = λ n. IsOlder number n (c n) in
    subst P (sym (same ∙ h.1.here)) (text, h.1, below.0)
run_older c geo from start lnum past number k (text ∷ texts) h below (inr there) = run_older c geo from start (next_leb geo lnum) past number k texts h.3 below.1 there

chain_older : (c : ℕ → List ℕ) (geo : RawGeometry) (from start past number k : ℕ) (first : LogText) (more : List LogText) → IsChain c geo from start first more past → AreBelow number (first ∷ more) → IsAmong k (first ∷ more) → IsOlder number k (c k)
chain_older c geo from start past number k first more h below (inl same) =
    let P : ℕ → Type 0 = λ n. IsOlder number n (c n) in
    subst P (sym (same ∙ h.is_first.here)) (first, h.is_first, below.0)
chain_older c geo from start past number k first more h below (inr there) = run_older c geo from start (next_leb geo from) past number k more h.run below.1 there

-- What `start_section` asks of the other LEBs: they begin with no number above the one given.

-- whatever a cut leaves of a log that is ready for its next node
pub IsReady-older : (a : VolumeState) (geo : RawGeometry) (from lnum offs number there : ℕ) (buds : List HeadAt) → IsLogReady a geo from lnum offs number buds → AreOthersOlder a geo there number
IsReady-older a geo from lnum offs number there buds h = λ k leb is ne left. elim (among_or k (h.first ∷ h.more)) [
  | inl among ↦
      let P : List ℕ → Type 0 = λ bytes. IsOlder number k bytes in
      subst P (sym (h.settled k among leb left)) (chain_older a.holds geo from h.start h.past number k h.first h.more h.chain h.below among)
  | inr none ↦ elim (h.spare k leb is none left) [ inl older ↦ older_more h.start number k leb h.low older | inr (here, text, is_text, alone, below) ↦ (text, is_text, below) ]
]

-- a LEB to which nothing is written begins with no node
pub blank-older : (number lnum : ℕ) (leb : List ℕ) → is_blank leb ≡ true → IsOlder number lnum leb
blank-older number lnum leb blank = (
  record { nodes = []; references = []; ends = record { lnum = lnum; offs = 0; tail = Clean } },
  record { items = []; is_text = record { stand = refl; ends = blank }; here = refl; nodes = refl; refer = refl },
  refl,
)

-- and of a log to which nothing was written yet, as where a volume is formatted
pub others-blank : (a : VolumeState) (geo : RawGeometry) (there number : ℕ) → ((k : ℕ) (leb : List ℕ) → IsLogLeb geo k → a.left_now k leb → is_blank leb ≡ true) → AreOthersOlder a geo there number
others-blank a geo there number blank = λ k leb is ne left. blank-older number k leb (blank k leb is left)

-- The log reads the same in any contents that agree on its LEBs.

run_same : (c d : ℕ → List ℕ) (geo : RawGeometry) (from number lnum past : ℕ) (texts : List LogText) → IsLogLeb geo lnum → ((k : ℕ) → IsLogLeb geo k → c k ≡ d k) → Run c geo from number lnum texts past
    → Run d geo from number lnum texts past × IsLogLeb geo past
run_same c d geo from number lnum past [] l same h = let P : ℕ → Type 0 = λ n. IsLogLeb geo n in (h, subst P h l)
run_same c d geo from number lnum past (text ∷ texts) l same h =
    let P : List ℕ → Type 0 = λ leb. IsLogTextOf leb lnum text in
    let rest = run_same c d geo from number (next_leb geo lnum) past texts (next_in geo lnum l) same h.3 in
    ((h.0, subst P (same lnum l) h.1, h.2, rest.0), rest.1)

stops_same : (c d : ℕ → List ℕ) (from number past : ℕ) → c past ≡ d past → Stops c from number past → Stops d from number past
stops_same c d from number past same (inl e) = inl e
stops_same c d from number past same (inr (text, is, not_later)) = let P : List ℕ → Type 0 = λ leb. IsLogTextOf leb past text in inr (text, subst P same is, not_later)

pub further_same : (c d : ℕ → List ℕ) (geo : RawGeometry) (from : ℕ) (start : Option ℕ) (more : List LogText) → IsLogLeb geo from → ((k : ℕ) → IsLogLeb geo k → c k ≡ d k) → AreFurther c geo from start more → AreFurther d geo from start more
further_same c d geo from None more f same h = h
further_same c d geo from (Some number) more f same (past, run, stops) =
    let rest = run_same c d geo from number (next_leb geo from) past more (next_in geo from f) same run in
    (past, rest.0, stops_same c d from number past (same past rest.1) stops)

pub IsLog-same : (c d : ℕ → List ℕ) (geo : RawGeometry) (from : ℕ) (log : Log) → IsLogLeb geo from → ((k : ℕ) → IsLogLeb geo k → c k ≡ d k) → IsLog c geo from log → IsLog d geo from log
IsLog-same c d geo from log f same h =
    let P : List ℕ → Type 0 = λ leb. IsLogTextOf leb from h.first in
    let Q : List ℕ → Type 0 = λ leb. BeginsCommit leb (begins_with h.first.nodes) log.commit in
    record {
      first = h.first;
      more = h.more;
      commit = subst Q (same from f) h.commit;
      is_first = subst P (same from f) h.is_first;
      are_further = further_same c d geo from (start_of (begins_with h.first.nodes)) h.more f same h.are_further;
      buds = h.buds;
      sqnum = h.sqnum;
      ends = h.ends;
    }

-- what is passed over still is when sequence numbers rise
pub passed-later : (start number next past k : ℕ) (leb : List ℕ) → number ≤ next → IsPassedOver start number past k leb → IsPassedOver start next past k leb
passed-later start number next past k leb later (inl older) = inl older
passed-later start number next past k leb later (inr (here, text, is, alone, below)) = inr (here, text, is, alone, later_more number next (begins_with text.nodes) later below)

-- A volume stays ready.

-- when sequence numbers rise
pub IsReady-later : (a : VolumeState) (geo : RawGeometry) (from lnum offs number next : ℕ) (buds : List HeadAt) → number ≤ next → IsLogReady a geo from lnum offs number buds → IsLogReady a geo from lnum offs next buds
IsReady-later a geo from lnum offs number next buds later h =
    let low = h.low in
    record {
      start = h.start;
      first = h.first;
      more = h.more;
      past = h.past;
      chain = h.chain;
      low = omega (arith, low, later);
      below = below_more number next (h.first ∷ h.more) later h.below;
      buds_are = h.buds_are;
      last = h.last;
      settled = h.settled;
      spare = λ k leb is none left. passed-later h.start number next h.past k leb later (h.spare k leb is none left);
    }

-- where the LEBs of its log are as they were
pub IsReady-same : (a b : VolumeState) (geo : RawGeometry) (from lnum offs number : ℕ) (buds : List HeadAt) → IsLogLeb geo from → ((k : ℕ) → IsLogLeb geo k → IsSameLeb a b k) → IsLogReady a geo from lnum offs number buds → IsLogReady b geo from lnum offs number buds
IsReady-same a b geo from lnum offs number buds f same h =
    let in_log : (k : ℕ) → IsAmong k (h.first ∷ h.more) → IsLogLeb geo k = λ k there. among_log a.holds geo from h.start h.past k h.first h.more f h.chain there in
    record {
      start = h.start;
      first = h.first;
      more = h.more;
      past = h.past;
      chain = chain_alike a.holds b.holds geo from h.start h.past h.first h.more (λ k there. sym (same k (in_log k there)).holds) h.chain;
      low = h.low;
      below = h.below;
      buds_are = h.buds_are;
      last = h.last;
      settled = λ k there c left. (let one = same k (in_log k there) in h.settled k there c (one.left c left) ∙ sym one.holds);
      spare = λ k leb is none left. h.spare k leb is none ((same k is).left leb left);
    }

-- while calls touch other LEBs alone
pub IsReady-elsewhere : (a b : VolumeState) (geo : RawGeometry) (from lnum offs number : ℕ) (buds : List HeadAt) (Touched : ℕ → Type 0) (Left : (ℕ → List ℕ) → Type 0) → IsLogLeb geo from → ((k : ℕ) → IsLogLeb geo k → Touched k → ⊥) → Works a b Touched Left
    → IsLogReady a geo from lnum offs number buds → IsLogReady b geo from lnum offs number buds
IsReady-elsewhere a b geo from lnum offs number buds Touched Left f apart works h = IsReady-same a b geo from lnum offs number buds f (λ k is. works.others k (apart k is)) h

-- A section has room.

-- what is no longer than a unit takes one
room-one : (unit n : ℕ) → n ≤ unit → padded_room_of unit n ≤ unit
room-one unit n fits =
    let q = (n + (unit - 1)) / unit in
    elim (cases_lt q 2) [
      | inl few ↦ let most : q * unit ≤ 1 * unit = mul-le-mul_right unit (omega (arith, few)) in omega (arith, most)
      | inr many ↦
          let low : 2 * unit ≤ q * unit = mul-le-mul_right unit many in
          let high : q * unit ≤ n + (unit - 1) = div-mul-le_self (n + (unit - 1)) unit in
          omega (arith, low, high, fits)
    ]

-- a commit start with the references of all heads, and two more references, each padded to the unit, fit a LEB
pub section-room : (geo : RawGeometry) (heads : ℕ) → IsGeometry geo → heads ≤ 3 → padded_room_of geo.min_io (32 + 64 * heads) + 2 * padded_room_of geo.min_io 64 ≤ geo.leb_size
section-room geo heads h three =
    let unit = geo.min_io in
    let size = geo.leb_size in
    let len : ℕ = 32 + 64 * heads in
    let low = h.leb_size.0 in
    let reserve = h.leb_size.3 in
    elim (cases_lt unit 224) [
      | inl small ↦
          let a : padded_room_of unit len ≤ len + (unit - 1) = div-mul-le_self (len + (unit - 1)) unit in
          let b : padded_room_of unit 64 ≤ 64 + (unit - 1) = div-mul-le_self (64 + (unit - 1)) unit in
          omega (arith, small, low, a, b, three)
      | inr large ↦
          let a = room-one unit len (omega (arith, large, three)) in
          let b = room-one unit 64 (omega (arith, large)) in
          let q = size / unit in
          let whole : q * unit ≡ size = omega (arith, div-add-mod' size unit, h.leb_size.2) in
          let fits : 3 * unit ≤ size = elim (cases_lt q 3) [
            | inl few ↦ let most : q * unit ≤ 2 * unit = mul-le-mul_right unit (omega (arith, few)) in absurd (omega (arith, most, whole, reserve))
            | inr more ↦ let least : 3 * unit ≤ q * unit = mul-le-mul_right unit more in omega (arith, least, whole)
          ] in
          omega (arith, a, b, fits)
    ]
