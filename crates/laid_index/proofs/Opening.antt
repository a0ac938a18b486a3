-- The open LEB: a node is put into it, and it is closed.
use Rattle.std.proofs.Common.{◌≡◌, ◌≢◌, ℕ, ◌+◌, ◌-◌, ◌%◌, ◌<◌, ◌≤◌, true, List, [], ◌∷◌, ◌++◌, length, get_or, take, drop, replicate, refl, ap, sym, ◌∙◌, subst, arith, append_assoc, length-append, inl, inr}
use Rattle.std.proofs.lemmas.Bool.{cases_lt}
use Rattle.std.proofs.lemmas.List.{get_or_append_left, get_or_push, length_push, take_at, drop_at, take-take, length-take, take-append-drop}
use Rattle.std.proofs.lemmas.List.Elements.{All-push}
use Rattle.std.proofs.lemmas.Nat.Gcd.{dvd_of_mod-eq-zero, dvd_trans, mod-eq-zero_of_dvd}
use Rattle.ubifs_base.specs.Gap.{gap_of}
use Rattle.ubifs_base.specs.Geometry.{IsGeometry}
use Rattle.ubifs_base.specs.GeometryLaws.{min_io-mod}
use Rattle.ubifs_base.specs.declared.raw_geometry.RawGeometry.{RawGeometry}
use Rattle.ubi_volume.specs.Volume.{filled}
use Rattle.leb_scan.specs.Text.{is_blank}
use Rattle.leb_scan.specs.TextLaws.{blank_replicate}
use Rattle.lpt_area.specs.Written.{in_units}
use Rattle.media_sys.specs.Index.{Index}
use Rattle.media_sys.specs.SystemNode.{index, IsSystemNode, written}
use Rattle.media_sys.specs.declared.branch.Branch.{Branch}
use Rattle.index_media.specs.PlacedRow.{node_end}
use Rattle.index_media.specs.Stored.{IsIndexNodeAt}
use Rattle.laid_main.specs.Filling.{AreFilled, TakesOfLebs}
use Rattle.laid_index.specs.Opened.{GoesOnInLeb, IsNodeAppended, IsClosed, IsLebOpen, Lays, MakesRoom, node_text, open_lnum, bytes_taken_of}
use Rattle.laid_index.specs.Packing.{len_over, packed}
use Rattle.laid_index.specs.declared.open_leb.OpenLeb.{OpenLeb}
use Rattle.laid_index.proofs.Packs.{packed_fits, packed_next}
use Rattle.laid_index.proofs.Takes.{takes_append, takes_close}

-- a LEB is whole words
pub leb_words : (geo : RawGeometry) → IsGeometry geo → geo.leb_size % 8 ≡ 0
leb_words geo h = mod-eq-zero_of_dvd 8 (dvd_trans 8 (dvd_of_mod-eq-zero 8 (min_io-mod geo h)) (dvd_of_mod-eq-zero geo.min_io h.leb_size.2))

-- a node that fits a LEB behind whole words fits with the gap behind it
words_fit : (taken len size : ℕ) → taken % 8 ≡ 0 → size % 8 ≡ 0 → taken + len ≤ size → taken + node_end len ≤ size
words_fit taken len size a b le = omega (arith, a, b, le)

words_stay : (taken len : ℕ) → taken % 8 ≡ 0 → (taken + node_end len) % 8 ≡ 0
words_stay taken len a = omega (arith, a)

-- A node that fits is put into the buffer.
pub node_laid : (geo : RawGeometry) (said : Index) (b : Branch) (old new : OpenLeb) (was : ℕ → List ℕ) → IsGeometry geo → IsLebOpen geo old was
    → length old.bytes.items + len_over (length said.branches) ≤ geo.leb_size → IsNodeAppended said old new
    → b.lnum ≡ open_lnum old → b.offs ≡ length old.bytes.items → b.len ≡ len_over (length said.branches)
    → Lays geo (len_over (length said.branches) ∷ []) (b ∷ []) old was new was
node_laid geo said b old new was g o fits put lnum offs len =
    let n = len_over (length said.branches) in
    let long : length new.bytes.items ≡ length old.bytes.items + node_end n = ap length put.bytes ∙ length-append old.bytes.items (node_text old.sqnum said) ∙ ap (λ (m : ℕ). length old.bytes.items + m) put.text in
    let place : open_lnum new ≡ open_lnum old = ap (λ (m : ℕ). m + length new.used.items) put.first ∙ ap (λ (l : List ℕ). old.first + length l) put.used in
    record {
      is_open = record {
        filled = filled_same geo was old.first new.first old.used.items new.used.items put.first put.used o.filled;
        words = ap (λ (m : ℕ). m % 8) long ∙ words_stay (length old.bytes.items) n o.words;
        fits = let w = words_fit (length old.bytes.items) n geo.leb_size o.words (leb_words geo g) fits in omega (arith, w, long);
      };
      first = put.first;
      goes_on = λ contents c. record {
        closed = λ k lt. c.closed k (omega (arith, lt, place));
        front = front_before old.bytes.items (node_text old.sqnum said) (contents (open_lnum old))
            (let P : ℕ → Type 0 = λ l. take (length new.bytes.items) (contents l) ≡ new.bytes.items in
            let Q : List ℕ → Type 0 = λ bytes. take (length bytes) (contents (open_lnum old)) ≡ bytes in
            subst Q put.bytes (subst P place c.front));
      };
      takes = λ before h.
          let t = takes_append old.first old.used.items (length old.bytes.items) before b lnum h in
          let T : ℕ → Type 0 = λ f. TakesOfLebs f (bytes_taken_of new) (before ++ b ∷ []) in
          let U : List ℕ → Type 0 = λ used. TakesOfLebs old.first used (before ++ b ∷ []) in
          let e : length old.bytes.items + node_end b.len ≡ length new.bytes.items = ap (λ (m : ℕ). length old.bytes.items + node_end m) len ∙ sym long in
          let same : old.used.items ++ (length old.bytes.items + node_end b.len) ∷ [] ≡ bytes_taken_of new = ap (λ (m : ℕ). old.used.items ++ m ∷ []) e ∙ ap (λ (l : List ℕ). l ++ length new.bytes.items ∷ []) (sym put.used) in
          subst T (sym put.first) (subst U same t);
      after = λ lens.
          ap (λ (l : List ℕ). l ++ packed geo.leb_size (length new.bytes.items) lens) put.used
          ∙ ap (λ (m : ℕ). old.used.items ++ packed geo.leb_size m lens) long
          ∙ ap (λ (l : List ℕ). old.used.items ++ l) (sym (packed_fits geo.leb_size (length old.bytes.items) n lens fits));
      number = put.number;
      many = refl;
    }
  where
    filled_same : (geo : RawGeometry) (holds : ℕ → List ℕ) (f g : ℕ) (xs ys : List ℕ) → g ≡ f → ys ≡ xs → AreFilled geo holds f xs → AreFilled geo holds g ys
    filled_same geo holds f g xs ys a b h =
        let P : ℕ → Type 0 = λ n. AreFilled geo holds n ys in
        let Q : List ℕ → Type 0 = λ l. AreFilled geo holds f l in
        subst P (sym a) (subst Q (sym b) h)

    front_before : (xs ys leb : List ℕ) → take (length (xs ++ ys)) leb ≡ xs ++ ys → take (length xs) leb ≡ xs
    front_before xs ys leb h =
        let le : length xs ≤ length (xs ++ ys) = let a = length-append xs ys in omega (arith, a) in
        sym (take-take (length xs) (length (xs ++ ys)) leb le) ∙ ap (take (length xs)) h ∙ take_at xs ys (length xs) refl

-- it stands there
pub node_stands : (said : Index) (b : Branch) (old new : OpenLeb) (now contents : ℕ → List ℕ) → IsNodeAppended said old new
    → b.lnum ≡ open_lnum old → b.offs ≡ length old.bytes.items → b.len ≡ len_over (length said.branches) → GoesOnInLeb new now contents → IsIndexNodeAt contents b said
node_stands said b old new now contents put lnum offs len c =
    let n = len_over (length said.branches) in
    let node = written old.sqnum 0 (index said) in
    let gap = gap_of (node_end n - n) in
    let place : open_lnum new ≡ open_lnum old = ap (λ (m : ℕ). m + length new.used.items) put.first ∙ ap (λ (l : List ℕ). old.first + length l) put.used in
    let leb = contents b.lnum in
    let P : ℕ → Type 0 = λ l. take (length new.bytes.items) (contents l) ≡ new.bytes.items in
    let Q : List ℕ → Type 0 = λ bytes. take (length bytes) leb ≡ bytes in
    let front : take (length (old.bytes.items ++ (node ++ gap))) leb ≡ old.bytes.items ++ (node ++ gap) = subst Q put.bytes (subst P (place ∙ sym lnum) c.front) in
    let S : List ℕ → Type 0 = λ bytes. IsSystemNode bytes old.sqnum 0 (index said) in
    record {
      sqnum = old.sqnum;
      group = 0;
      room = let r = room_of old.bytes.items node gap leb front in omega (arith, r, offs, len, put.long);
      is = subst S (sym (ap (λ (m : ℕ). take m (drop b.offs leb)) (len ∙ sym put.long) ∙ ap (λ (m : ℕ). take (length node) (drop m leb)) offs ∙ taken_back old.bytes.items node gap leb front)) put.node;
    }
  where
    whole : (xs ys leb : List ℕ) → take (length xs) leb ≡ xs → leb ≡ xs ++ drop (length xs) leb
    whole xs ys leb h = sym (take-append-drop (length xs) leb) ∙ ap (λ (l : List ℕ). l ++ drop (length xs) leb) h

    room_of : (xs ys zs leb : List ℕ) → take (length (xs ++ (ys ++ zs))) leb ≡ xs ++ (ys ++ zs) → length xs + length ys ≤ length leb
    room_of xs ys zs leb h =
        let e = ap length h in
        let a = length-append xs (ys ++ zs) in
        let b = length-append ys zs in
        let t = length-take (length (xs ++ (ys ++ zs))) leb in
        omega (arith, e, a, b, t)

    taken_back : (xs ys zs leb : List ℕ) → take (length (xs ++ (ys ++ zs))) leb ≡ xs ++ (ys ++ zs) → take (length ys) (drop (length xs) leb) ≡ ys
    taken_back xs ys zs leb h =
        let rest = drop (length (xs ++ (ys ++ zs))) leb in
        let e : leb ≡ xs ++ (ys ++ (zs ++ rest)) = whole (xs ++ (ys ++ zs)) [] leb h ∙ append_assoc xs (ys ++ zs) rest ∙ ap (λ (l : List ℕ). xs ++ l) (append_assoc ys zs rest) in
        ap (λ (l : List ℕ). take (length ys) (drop (length xs) l)) e ∙ ap (take (length ys)) (drop_at xs (ys ++ (zs ++ rest)) (length xs) refl) ∙ take_at ys (zs ++ rest) (length ys) refl

-- A LEB is closed, and the next one is open.
pub closed_open : (geo : RawGeometry) (old new : OpenLeb) (was now : ℕ → List ℕ) → IsLebOpen geo old was → 0 < length old.bytes.items → IsClosed geo old new now
    → ((k : ℕ) → k ≢ open_lnum old → now k ≡ was k) → IsLebOpen geo new now
closed_open geo old new was now o some shut same =
    let A : ℕ → Type 0 = λ f. AreFilled geo now f new.used.items in
    let B : List ℕ → Type 0 = λ used. AreFilled geo now old.first used in
    let none : length new.bytes.items ≡ 0 = ap length shut.bytes in
    record {
      filled = subst A (sym shut.first) (subst B (sym shut.used) (record {
        some = All-push (λ (n : ℕ). (0 < n) × (n % 8 ≡ 0) × (n ≤ geo.leb_size)) old.used.items (length old.bytes.items) o.filled.some (some, o.words, o.fits);
        ends = λ k few.
            let D : ℕ → List ℕ → Type 0 = λ n leb. is_blank (drop (in_units geo.min_io n) leb) ≡ true in
            elim (cases_lt k (length old.used.items)) [
              | inl lt ↦
                  let e = get_or_append_left old.used.items (length old.bytes.items ∷ []) 0 k lt in
                  let ne : old.first + k ≢ open_lnum old = λ is. absurd (omega (arith, is, lt)) in
                  let P : ℕ → Type 0 = λ n. D n (now (old.first + k)) in
                  let Q : List ℕ → Type 0 = λ leb. D (get_or old.used.items k 0) leb in
                  subst P (sym e) (subst Q (sym (same (old.first + k) ne)) (o.filled.ends k lt))
              | inr ge ↦
                  let size = length_push old.used.items (length old.bytes.items) in
                  let at : length old.used.items ≡ k = omega (arith, few, size, ge) in
                  let e = get_or_push old.used.items (length old.bytes.items) 0 k at in
                  let P : ℕ → Type 0 = λ n. D n (now (old.first + k)) in
                  let Q : ℕ → Type 0 = λ i. D (length old.bytes.items) (now (old.first + i)) in
                  subst P (sym e) (subst Q at (blank_behind geo old now shut.long shut.holds))
            ];
      }));
      words = ap (λ (n : ℕ). n % 8) none;
      fits = omega (arith, none);
    }
  where
    blank_behind : (geo : RawGeometry) (old : OpenLeb) (now : ℕ → List ℕ)
        → length (old.bytes.items ++ gap_of (in_units geo.min_io (length old.bytes.items) - length old.bytes.items)) ≡ in_units geo.min_io (length old.bytes.items)
        → now (open_lnum old) ≡ filled geo.leb_size (old.bytes.items ++ gap_of (in_units geo.min_io (length old.bytes.items) - length old.bytes.items))
        → is_blank (drop (in_units geo.min_io (length old.bytes.items)) (now (open_lnum old))) ≡ true
    blank_behind geo old now long holds =
        let end = in_units geo.min_io (length old.bytes.items) in
        let text = old.bytes.items ++ gap_of (end - length old.bytes.items) in
        let rest = replicate (geo.leb_size - length text) 255 in
        let P : List ℕ → Type 0 = λ leb. is_blank leb ≡ true in
        subst P (sym (ap (drop end) holds ∙ drop_at text rest end long)) (blank_replicate (geo.leb_size - length text))

pub closed_goes_on : (geo : RawGeometry) (old new : OpenLeb) (was now contents : ℕ → List ℕ) → IsClosed geo old new now
    → ((k : ℕ) → k ≢ open_lnum old → now k ≡ was k) → GoesOnInLeb new now contents → GoesOnInLeb old was contents
closed_goes_on geo old new was now contents shut same c =
    let place : open_lnum new ≡ open_lnum old + 1 =
    let e = ap length shut.used in
    let size = length_push old.used.items (length old.bytes.items) in
    let f = shut.first in
    omega (arith, e, size, f) in
    let end = in_units geo.min_io (length old.bytes.items) in
    let gap = gap_of (end - length old.bytes.items) in
    let text = old.bytes.items ++ gap in
    record {
      closed = λ k lt. c.closed k (omega (arith, lt, place)) ∙ same k (λ is. absurd (omega (arith, is, lt)));
      front = ap (take (length old.bytes.items)) (c.closed (open_lnum old) (omega (arith, place)) ∙ shut.holds ∙ append_assoc old.bytes.items gap (replicate (geo.leb_size - length text) 255))
          ∙ take_at old.bytes.items (gap ++ replicate (geo.leb_size - length text) 255) (length old.bytes.items) refl;
    }

pub closed_taken : (geo : RawGeometry) (old new : OpenLeb) (now : ℕ → List ℕ) → IsClosed geo old new now → bytes_taken_of new ≡ bytes_taken_of old ++ 0 ∷ []
closed_taken geo old new now shut =
    ap (λ (l : List ℕ). l ++ length new.bytes.items ∷ []) shut.used ∙ ap (λ (n : ℕ). bytes_taken_of old ++ n ∷ []) (ap length shut.bytes)

-- There is room for a node already.
pub room_already : (geo : RawGeometry) (len : ℕ) (leb : OpenLeb) (was : ℕ → List ℕ) → IsLebOpen geo leb was → length leb.bytes.items + len ≤ geo.leb_size → open_lnum leb < geo.leb_cnt
    → MakesRoom geo len leb was leb was
room_already geo len leb was o fits lnum = record {
  is_open = o;
  first = refl;
  number = refl;
  fits = fits;
  lnum = lnum;
  goes_on = λ contents c. c;
  takes = λ before h. h;
  after = λ lens. refl;
}

-- There is room in the next LEB.
pub room_next : (geo : RawGeometry) (len : ℕ) (old new : OpenLeb) (was now : ℕ → List ℕ) → IsLebOpen geo old was → 0 < length old.bytes.items → IsClosed geo old new now
    → ((k : ℕ) → k ≢ open_lnum old → now k ≡ was k) → geo.leb_size < length old.bytes.items + len → len ≤ geo.leb_size → open_lnum old + 1 < geo.leb_cnt
    → MakesRoom geo len old was new now
room_next geo len old new was now o some shut same over fits lnum =
    let none : length new.bytes.items ≡ 0 = ap length shut.bytes in
    let place : open_lnum new ≡ open_lnum old + 1 =
    let e = ap length shut.used in
    let size = length_push old.used.items (length old.bytes.items) in
    let f = shut.first in
    omega (arith, e, size, f) in
    record {
      is_open = closed_open geo old new was now o some shut same;
      first = shut.first;
      number = shut.number;
      fits = omega (arith, none, fits);
      lnum = omega (arith, lnum, place);
      goes_on = λ contents c. closed_goes_on geo old new was now contents shut same c;
      takes = λ before h.
          let T : ℕ → Type 0 = λ f. TakesOfLebs f (bytes_taken_of new) before in
          let U : List ℕ → Type 0 = λ used. TakesOfLebs old.first used before in
          subst T (sym shut.first) (subst U (sym (closed_taken geo old new now shut)) (takes_close old.first (bytes_taken_of old) before h));
      after = λ lens.
          ap (λ (l : List ℕ). l ++ packed geo.leb_size (length new.bytes.items) (len ∷ lens)) shut.used
          ∙ ap (λ (n : ℕ). old.used.items ++ length old.bytes.items ∷ [] ++ packed geo.leb_size n (len ∷ lens)) none
          ∙ append_assoc old.used.items (length old.bytes.items ∷ []) (packed geo.leb_size 0 (len ∷ lens))
          ∙ ap (λ (l : List ℕ). old.used.items ++ l) (sym (packed_next geo.leb_size (length old.bytes.items) len lens over fits));
    }

-- Room is made, and the node is put there.
pub then_laid : (geo : RawGeometry) (said : Index) (b : Branch) (old mid new : OpenLeb) (was now : ℕ → List ℕ) → IsGeometry geo
    → MakesRoom geo (len_over (length said.branches)) old was mid now → IsNodeAppended said mid new
    → b.lnum ≡ open_lnum mid → b.offs ≡ length mid.bytes.items → b.len ≡ len_over (length said.branches)
    → Lays geo (len_over (length said.branches) ∷ []) (b ∷ []) old was new now
then_laid geo said b old mid new was now g room put lnum offs len =
    let l = node_laid geo said b mid new now g room.is_open room.fits put lnum offs len in
    record {
      is_open = l.is_open;
      first = l.first ∙ room.first;
      goes_on = λ contents c. room.goes_on contents (l.goes_on contents c);
      takes = λ before h. l.takes before (room.takes before h);
      after = λ lens. l.after lens ∙ room.after lens;
      number = l.number ∙ ap (λ (n : ℕ). n + 1) room.number;
      many = refl;
    }
