-- What the premise on checksums gives: the text that a cut left is a first part of the items that were meant.
use Rattle.std.proofs.Common.{◌≡◌, ◌⊎◌, inl, inr, ℕ, ◌+◌, ◌<◌, ◌≤◌, true, List, [], ◌∷◌, ◌++◌, length, take, drop, refl, ap, sym, ◌∙◌, subst, arith}
use Rattle.std.specs.Prelude.{bytes_eq}
use Rattle.std.proofs.lemmas.Bool.{cases_Bool, cases_lt}
use Rattle.std.proofs.lemmas.Slice.Eq.{bytes_eq-Decides}
use Rattle.leb_scan.specs.Fronts.{same_part, own_before, not_before, begins_alike, behind_alike}
use Rattle.leb_scan.specs.Meant.{own_len, IsUntorn, IsTorn, NothingBegins, IsMeant, AreUntorn, ShowsFirst}
use Rattle.leb_scan.specs.Text.{Begins, behind, Stand}
use Rattle.leb_scan.specs.TextLaws.{ends, same_parts}
use Rattle.leb_scan.specs.declared.item.Item.{Item}

-- items that end where the bytes are as they were meant are untorn
pub AreUntorn-front : (meant left : List ℕ) (from end : ℕ) (items : List Item) → take end left ≡ take end meant → Stand meant from items end → AreUntorn meant from items left
AreUntorn-front meant left from end [] same h = tt
AreUntorn-front meant left from end (item ∷ items) same h =
    let own = own_before meant from item h.0 in
    let rest = not_before meant (behind meant from item) end items h.1 in
    (same_part left meant end from (own_len item) same (omega (arith, own, rest)), AreUntorn-front meant left (behind meant from item) end items same h.1)

-- items behind items
pub IsMeant-then : (meant left : List ℕ) (from place : ℕ) (items more : List Item) → Stand meant from items place → IsMeant meant from items left → IsMeant meant place more left → IsMeant meant from (items ++ more) left
IsMeant-then meant left from place [] more h first second = let P : ℕ → Type 0 = λ p. IsMeant meant p more left in subst P (sym h) second
IsMeant-then meant left from place (item ∷ items) more h first second = (first.0, IsMeant-then meant left (behind meant from item) place items more h.1 first.1 second)

pub IsMeant-before : (meant left : List ℕ) (from : ℕ) (items more : List Item) → IsMeant meant from (items ++ more) left → IsMeant meant from items left
IsMeant-before meant left from [] more m = tt
IsMeant-before meant left from (item ∷ items) more m = (m.0, IsMeant-before meant left (behind meant from item) items more m.1)

pub IsMeant-behind : (meant left : List ℕ) (from place : ℕ) (items more : List Item) → Stand meant from items place → IsMeant meant from (items ++ more) left → IsMeant meant place more left
IsMeant-behind meant left from place [] more h m = let P : ℕ → Type 0 = λ p. IsMeant meant p more left in subst P h m
IsMeant-behind meant left from place (item ∷ items) more h m = IsMeant-behind meant left (behind meant from item) place items more h.1 m.1

alike_or_not : (xs ys : List ℕ) → (xs ≡ ys) ⊎ (xs ≡ ys → ⊥)
alike_or_not xs ys = elim (cases_Bool (bytes_eq xs ys)) [
  | inl same ↦ inl ((bytes_eq-Decides xs ys).0 same)
  | inr other ↦ inr (λ e. let same : bytes_eq xs ys ≡ true = (bytes_eq-Decides xs ys).1 e in absurd cc)
]

-- where an item is torn, nothing begins
pub nothing_begins : (meant left : List ℕ) (place : ℕ) (item : Item) (more : List Item) → IsMeant meant place (item ∷ more) left → IsTorn meant place item left → NothingBegins left place
nothing_begins meant left place item more m torn = search (m.0)

-- if any item begins at the place of a meant item, that one is untorn
pub untorn_where_begins : (meant left : List ℕ) (place : ℕ) (item other : Item) (more : List Item) → IsMeant meant place (item ∷ more) left → Begins left place other → IsUntorn meant place item left
untorn_where_begins meant left place item other more m begins =
    elim (alike_or_not (take (own_len item) (drop place left)) (take (own_len item) (drop place meant))) [ inl untorn ↦ untorn | inr torn ↦ absurd ((nothing_begins meant left place item more m (record { differs = torn })).none other begins) ]

torn_first : (meant left : List ℕ) (from end n : ℕ) (item : Item) (items : List Item) → take n left ≡ take n meant → IsMeant meant from (item ∷ items) left → IsTorn meant from item left → ShowsFirst meant from end (item ∷ items) n left
torn_first meant left from end n item items same m torn =
    let P : Item → Type 0 = λ i. n < from + own_len i in
    let far : n < from + own_len item = elim (cases_lt n (from + own_len item)) [ inl less ↦ less | inr reached ↦ absurd (torn.differs (same_part left meant n from (own_len item) same reached)) ] in
    record {
      first = [];
      rest = item ∷ items;
      place = from;
      split = refl;
      meant_so = refl;
      stand = refl;
      untorn = tt;
      ends = inr (record { stand = refl; ends = ends left from (nothing_begins meant left from item items m torn).none });
      reaches = λ other more e. let same_item : item ≡ other = cc in subst P same_item far;
    }

untorn_first : (meant left : List ℕ) (from end n : ℕ) (item : Item) (items : List Item) → length left ≡ length meant → Begins meant from item → IsUntorn meant from item left → ShowsFirst meant (behind meant from item) end items n left
    → ShowsFirst meant from end (item ∷ items) n left
untorn_first meant left from end n item items long begins untorn r =
    let P : ℕ → Type 0 = λ next. Stand left next r.first r.place in
    let stand : Stand left from (item ∷ r.first) r.place = (begins_alike meant left from item (sym long) (sym untorn) begins, subst P (behind_alike meant left from item (sym long)) r.stand) in
    record {
      first = item ∷ r.first;
      rest = r.rest;
      place = r.place;
      split = ap (λ (i : List Item). item ∷ i) r.split;
      meant_so = (begins, r.meant_so);
      stand = stand;
      untorn = (untorn, r.untorn);
      ends = elim r.ends [ inl all ↦ inl all | inr text ↦ inr (record { stand = stand; ends = text.ends }) ];
      reaches = r.reaches;
    }

-- Of items that were meant, what a cut left shows a first part, with all that end where its bytes are still as they were meant.
pub first_items : (meant left : List ℕ) (from end n : ℕ) (items : List Item) → length left ≡ length meant → take n left ≡ take n meant → Stand meant from items end → IsMeant meant from items left → ShowsFirst meant from end items n left
first_items meant left from end n [] long same h m = record { first = []; rest = []; place = from; split = refl; meant_so = refl; stand = refl; untorn = tt; ends = inl (refl, h); reaches = λ item more e. absurd cc }
first_items meant left from end n (item ∷ items) long same h m =
    elim (alike_or_not (take (own_len item) (drop from left)) (take (own_len item) (drop from meant))) [
      | inl untorn ↦ untorn_first meant left from end n item items long h.0 untorn (first_items meant left (behind meant from item) end n items long same h.1 m.1)
      | inr torn ↦ torn_first meant left from end n item items same m (record { differs = torn })
    ]

begins_with : (meant : List ℕ) (from n q place : ℕ) (before more first rest : List Item) → Stand meant from before q → q ≤ n → first ++ rest ≡ before ++ more → Stand meant from first place
    → ((item : Item) (others : List Item) → rest ≡ item ∷ others → n < place + own_len item) → (extra : List Item) × (first ≡ before ++ extra)
begins_with meant from n q place [] more first rest h room e stand reaches = (first, refl)
begins_with meant from n q place (item ∷ before) more [] rest h room e stand reaches =
    let far = reaches item (before ++ more) e in
    let own = own_before meant from item h.0 in
    let later = not_before meant (behind meant from item) q before h.1 in
    absurd (omega (arith, far, own, later, room, stand))
begins_with meant from n q place (item ∷ before) more (one ∷ first) rest h room e stand reaches =
    let same = same_parts one item (first ++ rest) (before ++ more) e in
    let P : Item → Type 0 = λ i. Stand meant (behind meant from i) first place in
    let deeper = begins_with meant (behind meant from item) n q place before more first rest h.1 room same.1 (subst P same.0 stand.1) reaches in
    (deeper.0, ap (λ (i : Item). i ∷ first) same.0 ∙ ap (λ (i : List Item). item ∷ i) deeper.1)

-- so with all that end within as many bytes
pub first_items-within : (meant left : List ℕ) (from end n q : ℕ) (items before more : List Item) (h : ShowsFirst meant from end items n left) → Stand meant from before q → q ≤ n → items ≡ before ++ more → (extra : List Item) × (h.first ≡ before ++ extra)
first_items-within meant left from end n q items before more h stand room split = begins_with meant from n q h.place before more h.first h.rest stand room (sym h.split ∙ split) h.meant_so h.reaches
