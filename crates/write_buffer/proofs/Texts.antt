-- What is appended to a buffer's text, one piece after another.
use Rattle.std.proofs.Common.{◌≡◌, ℕ, ◌+◌, ◌-◌, ◌<◌, ◌≤◌, List, [], ◌∷◌, ◌++◌, length, take, drop, replicate, Result, refl, ap, sym, subst, ◌∙◌, arith, append_assoc, append-nil, length-append, length-take}
use Rattle.std.proofs.Math.Seq.{take-append-add}
use Rattle.std.proofs.lemmas.List.{drop-drop, drop-replicate, take-append-drop, take_all}
use Rattle.std.specs.Prelude.{OnOk, OnErr}
use Rattle.ubifs_base.specs.Gap.{gap_of}
use Rattle.ubi_volume.specs.Volume.{VolumeState, Only, filled, SameShape, Torn, WorksOn}
use Rattle.ubi_volume.specs.VolumeLaws.{WorksOn-more, WorksOn-then}
use Rattle.ubi_volume.specs.TornLaws.{Torn-none, Torn-then}
use Rattle.write_buffer.specs.Buffer.{Buffered, IsOpenFor, IsAppended, IsSynced, Stands, padding_of, text_of}
use Rattle.write_buffer.specs.Units.{IsPut, IsFilled}
use Rattle.write_buffer.proofs.Results.{in_both}

-- Bytes of the text that were put are written now, and the rest waits.
pub put_appended : (a b : VolumeState) (x y : Buffered) (lnum : ℕ) (bytes front : List ℕ) → SameShape a b → IsOpenFor a x lnum → IsPut a b lnum x.place front
    → y.unit ≡ x.unit → y.leb ≡ x.leb → y.place ≡ x.place + length front → front ++ y.tail ≡ x.tail ++ bytes → y.place + length y.tail ≤ a.leb_size → IsAppended a b x y lnum bytes
put_appended a b x y lnum bytes front shape open_before put same_unit same_leb place split fits =
    let count = shape.leb_cnt in
    let size = shape.leb_size in
    let inside = open_before.inside in
    let behind = put.written in
    let one = length-append front y.tail in
    let two = length-append x.tail bytes in
    let sum : length (front ++ y.tail) ≡ length (x.tail ++ bytes) = ap length split in
    let P : ℕ → Type 0 = λ n. take n (b.holds lnum) ≡ take x.place (a.holds lnum) ++ front in
    let written : take y.place (b.holds lnum) ≡ take x.place (a.holds lnum) ++ front = subst P (sym place) put.text in
    record {
      text = ap (λ (bs : List ℕ). bs ++ y.tail) written ∙ append_assoc (take x.place (a.holds lnum)) front y.tail
          ∙ ap (λ (bs : List ℕ). take x.place (a.holds lnum) ++ bs) split ∙ sym (append_assoc (take x.place (a.holds lnum)) x.tail bytes);
      end = omega (arith, place, sum, one, two);
      later = omega (arith, place);
      open_after = record {
        leb = same_leb ∙ open_before.leb;
        inside = omega (arith, count, inside);
        unit = same_unit ∙ open_before.unit ∙ sym shape.min_io;
        units = rw (shape.leb_size, shape.min_io) open_before.units;
        open_there = omega (arith, behind, place);
        fits = omega (arith, fits, size);
        settled = put.settled;
      };
    }

-- the waiting unit was written
pub filled_appended : (a b : VolumeState) (x y : Buffered) (lnum : ℕ) (bytes : List ℕ) → SameShape a b → IsOpenFor a x lnum → length x.tail + length bytes ≡ x.unit
    → x.place + x.unit ≤ a.leb_size → IsFilled a b x y lnum bytes → IsAppended a b x y lnum bytes
filled_appended a b x y lnum bytes shape open_before full fits filled =
    let long = length-append x.tail bytes in
    let is = filled.is in
    let place : y.place ≡ x.place + length (x.tail ++ bytes) = ap (λ (z : Buffered). z.place) is ∙ omega (arith, long, full) in
    let none : y.tail ≡ [] = ap (λ (z : Buffered). z.tail) is in
    let short : length y.tail ≡ 0 = ap length none in
    put_appended a b x y lnum bytes (x.tail ++ bytes) shape open_before filled.put_there (ap (λ (z : Buffered). z.unit) is) (ap (λ (z : Buffered). z.leb) is) place
    (ap (λ (t : List ℕ). x.tail ++ bytes ++ t) none ∙ append-nil (x.tail ++ bytes)) (omega (arith, place, short, long, full, fits))

-- what was appended stands
pub appended_stands : (a b : VolumeState) (x y : Buffered) (lnum : ℕ) (bytes : List ℕ) → SameShape a b → IsOpenFor a x lnum → IsAppended a b x y lnum bytes → Stands a b x y lnum bytes
appended_stands a b x y lnum bytes shape open_before appended = record {
  leb = appended.open_after.leb ∙ sym open_before.leb;
  unit = appended.open_after.unit ∙ shape.min_io ∙ sym open_before.unit;
  later = appended.later;
  taken = length bytes;
  text = appended.text ∙ ap (λ (bs : List ℕ). text_of a x lnum ++ bs) (sym (take_all (length bytes) bytes (omega arith)));
}

-- a buffer that is as before, when the LEB was torn behind its place
pub torn_stands : (a b : VolumeState) (x y : Buffered) (lnum n : ℕ) (bytes : List ℕ) → y ≡ x → Torn x.place n (a.holds lnum) (b.holds lnum) → Stands a b x y lnum bytes
torn_stands a b x y lnum n bytes same torn =
    let P : Buffered → Type 0 = λ z. Stands a b x z lnum bytes in
    subst P (sym same) (record {
      leb = refl;
      unit = refl;
      later = omega arith;
      taken = 0;
      text = ap (λ (bs : List ℕ). bs ++ x.tail) torn.front ∙ sym (append-nil (text_of a x lnum));
    })

-- whatever the call answered
pub call_stands : {T E : Type 0} (r : Result T E) (a b : VolumeState) (x y : Buffered) (lnum n : ℕ) (bytes : List ℕ) → SameShape a b → IsOpenFor a x lnum
    → OnOk r (IsAppended a b x y lnum bytes) → OnErr r (y ≡ x) → Torn x.place n (a.holds lnum) (b.holds lnum) → Stands a b x y lnum bytes
call_stands r a b x y lnum n bytes shape open_before done failed torn =
    in_both r (IsAppended a b x y lnum bytes) (y ≡ x) (Stands a b x y lnum bytes) (appended_stands a b x y lnum bytes shape open_before) (λ same. torn_stands a b x y lnum n bytes same torn) done failed

-- one piece after another
pub appended_then : (a b c : VolumeState) (x y z : Buffered) (lnum : ℕ) (front rest : List ℕ) → IsAppended a b x y lnum front → IsAppended b c y z lnum rest → IsAppended a c x z lnum (front ++ rest)
appended_then a b c x y z lnum front rest ab bc =
    let sum = length-append front rest in
    let first = ab.end in
    let second = bc.end in
    let one = ab.later in
    let two = bc.later in
    record {
      text = bc.text ∙ ap (λ (bs : List ℕ). bs ++ rest) ab.text ∙ append_assoc (text_of a x lnum) front rest;
      end = omega (arith, sum, first, second);
      later = omega (arith, one, two);
      open_after = bc.open_after;
    }

pub stands_then : (a b c : VolumeState) (x y z : Buffered) (lnum : ℕ) (front rest : List ℕ) → y.leb ≡ x.leb → y.unit ≡ x.unit → IsAppended a b x y lnum front → Stands b c y z lnum rest → Stands a c x z lnum (front ++ rest)
stands_then a b c x y z lnum front rest leb unit ab bc =
    let one = ab.later in
    let two = bc.later in
    record {
      later = omega (arith, one, two);
      leb = bc.leb ∙ leb;
      unit = bc.unit ∙ unit;
      taken = length front + bc.taken;
      text = bc.text ∙ ap (λ (bs : List ℕ). bs ++ take bc.taken rest) ab.text ∙ append_assoc (text_of a x lnum) front (take bc.taken rest)
          ∙ ap (λ (bs : List ℕ). text_of a x lnum ++ bs) (sym (take-append-add front rest bc.taken));
    }

-- what a cut leaves while the second piece is written behind the first
pub torn_then : (a b c : VolumeState) (lnum place n m k : ℕ) → n + m ≡ k → Torn place n (a.holds lnum) (b.holds lnum) → WorksOn a b lnum (Torn place n (a.holds lnum)) → WorksOn b c lnum (Torn (place + n) m (b.holds lnum))
    → WorksOn a c lnum (Torn place k (a.holds lnum))
torn_then a b c lnum place n m k sum torn first second =
    let P : ℕ → Type 0 = λ w. WorksOn a c lnum (Torn place w (a.holds lnum)) in
    subst P sum (WorksOn-then a b c lnum (Torn place n (a.holds lnum)) (Torn (place + n) m (b.holds lnum)) (Torn place (n + m) (a.holds lnum))
    (λ x h. Torn-then place n m (a.holds lnum) x x h (Torn-none (place + n) m x x refl)) (λ x h. Torn-then place n m (a.holds lnum) (b.holds lnum) x torn h) first second)

-- where less is written than may be
pub torn_wider : (a b : VolumeState) (lnum place n m k : ℕ) → n + m ≡ k → WorksOn a b lnum (Torn place n (a.holds lnum)) → WorksOn a b lnum (Torn place k (a.holds lnum))
torn_wider a b lnum place n m k sum works =
    let P : ℕ → Type 0 = λ w. WorksOn a b lnum (Torn place w (a.holds lnum)) in
    subst P sum (WorksOn-more a b lnum (Torn place n (a.holds lnum)) (Torn place (n + m) (a.holds lnum)) (λ x h. Torn-then place n m (a.holds lnum) x x h (Torn-none (place + n) m x x refl)) works)

-- a LEB that is written up to a place is filled by what stands in front of it
written_front : (written place size : ℕ) (leb : List ℕ) → written ≤ place → place ≤ size → length leb ≡ size → drop written leb ≡ replicate (size - written) 255 → filled size (take place leb) ≡ leb
written_front written place size leb behind inside long blank =
    let e : written + (place - written) ≡ place = omega (arith, behind) in
    let less : (size - written) - (place - written) ≡ size - place = omega (arith, behind, inside) in
    let front : length (take place leb) ≡ place = rw length-take (omega (arith, inside, long)) in
    let P : ℕ → Type 0 = λ n. drop n leb ≡ replicate (size - place) 255 in
    let back : drop place leb ≡ replicate (size - place) 255 =
    subst P e (sym (drop-drop (place - written) written leb) ∙ ap (drop (place - written)) blank ∙ drop-replicate (place - written) (size - written) 255 ∙ ap (λ (n : ℕ). replicate n 255) less) in
    ap (λ (n : ℕ). take place leb ++ replicate (size - n) 255) front ∙ ap (λ (bs : List ℕ). take place leb ++ bs) (sym back) ∙ take-append-drop place leb

-- a cut leaves the text alone, where nothing waits
pub text_left : (state : VolumeState) (x : Buffered) (lnum : ℕ) → IsOpenFor state x lnum → x.tail ≡ [] → length (state.holds lnum) ≡ state.leb_size
    → drop (state.written lnum) (state.holds lnum) ≡ replicate (state.leb_size - state.written lnum) 255 → Only (filled state.leb_size (text_of state x lnum)) (state.left_now lnum)
text_left state x lnum is none long blank =
    let fits = is.fits in
    let all : text_of state x lnum ≡ take x.place (state.holds lnum) = ap (λ (t : List ℕ). take x.place (state.holds lnum) ++ t) none ∙ append-nil (take x.place (state.holds lnum)) in
    λ c left. is.settled c left ∙ sym (ap (filled state.leb_size) all ∙ written_front (state.written lnum) x.place state.leb_size (state.holds lnum) is.open_there (omega (arith, fits)) long blank)

-- where something waits, a sync pads it
pub padding_some : (unit : ℕ) (tail : List ℕ) → (tail ≡ [] → ⊥) → padding_of unit tail ≡ gap_of (unit - length tail)
padding_some unit [] some = absurd (some refl)
padding_some unit (byte ∷ bytes) some = refl

pub padding_none : (unit : ℕ) (tail : List ℕ) → tail ≡ [] → padding_of unit tail ≡ []
padding_none unit tail none = ap (padding_of unit) none

pub some_waits : (tail : List ℕ) → (tail ≡ [] → ⊥) → 0 < length tail
some_waits [] some = absurd (some refl)
some_waits (byte ∷ bytes) some = omega arith

-- nothing waited
pub none_synced : (state : VolumeState) (x : Buffered) (lnum : ℕ) → IsOpenFor state x lnum → x.tail ≡ [] → length (state.holds lnum) ≡ state.leb_size
    → drop (state.written lnum) (state.holds lnum) ≡ replicate (state.leb_size - state.written lnum) 255 → IsSynced state state x x lnum
none_synced state x lnum is none long blank =
    let nothing : length (padding_of x.unit x.tail) ≡ 0 = ap length (padding_none x.unit x.tail none) in
    let short : length x.tail ≡ 0 = ap length none in
    record {
      end = omega (arith, nothing, short);
      text = sym (ap (λ (bs : List ℕ). text_of state x lnum ++ bs) (padding_none x.unit x.tail none) ∙ append-nil (text_of state x lnum));
      open_after = is;
      none = none;
      left = text_left state x lnum is none long blank;
    }

-- the padded unit was written
pub appended_synced : (a b : VolumeState) (x y : Buffered) (lnum : ℕ) → IsAppended a b x y lnum (padding_of x.unit x.tail) → y.tail ≡ [] → length (b.holds lnum) ≡ b.leb_size
    → drop (b.written lnum) (b.holds lnum) ≡ replicate (b.leb_size - b.written lnum) 255 → IsSynced a b x y lnum
appended_synced a b x y lnum appended none long blank =
    let end = appended.end in
    let short : length y.tail ≡ 0 = ap length none in
    record {
      text = appended.text;
      end = omega (arith, end, short);
      open_after = appended.open_after;
      none = none;
      left = text_left b y lnum appended.open_after none long blank;
    }
