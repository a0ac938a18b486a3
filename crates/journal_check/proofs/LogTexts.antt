-- Texts of the log, one more at a time.
use Rattle.std.proofs.Common.{◌≡◌, ◌⊎◌, inl, inr, ℕ, true, false, List, [], ◌∷◌, ◌++◌, map, Option, Some, None, refl, ap, sym, ◌∙◌, subst, append_assoc}
use Rattle.std.proofs.lemmas.List.{map-append}
use Rattle.std.specs.Prelude.{◌≢◌, IsTrue}
use Rattle.ubifs_base.specs.declared.raw_geometry.RawGeometry.{RawGeometry}
use Rattle.media_sys.specs.declared.ref_node.RefNode.{RefNode}
use Rattle.leb_scan.specs.declared.tail.Tail.{Tail}
use Rattle.leb_scan.specs.declared.tail.Tail.TheVariants.{Clean, Torn}
use Rattle.bud_log.specs.Log.{Stops, next_leb}
use Rattle.bud_log.specs.LogText.{IsReferenceAt, LogText, begins_with, is_later, is_start_alone, start_of}
use Rattle.bud_log.specs.RingRuns.{references_then, run_then}
use Rattle.bud_log.specs.declared.seen.Seen.{Seen}
use Rattle.sound_image.specs.Log.{ends_in_start}
use Rattle.sound_image.specs.LogBreaches.{IsTornWithin, NamesNoMain}
use Rattle.sound_image.specs.Wrong.{IsOneOf, Wrong, differs, type_byte}
use Rattle.sound_image.specs.WrongLaws.{first_or_behind, first_of_equal, back_of_two, one_of_two, front_of_two, one_of_none}
use Rattle.image_check.specs.WrongValues.{IsFirstOf, sooner_of}
use Rattle.journal_check.specs.LogChecks.{IsAddedTo, IsFresh, IsMisnamedAmong, IsReadAs, IsReadUpTo, IsReadWhole, last_lnum, last_tail, torn_behind}
use Rattle.image_check.specs.declared.wrong_value.WrongValue.{WrongValue}
use Rattle.journal_check.specs.declared.read_lebs.ReadLebs.{ReadLebs}
use Rattle.image_check.specs.FirstLaws.{first_alone, first_of_both, first_same}

-- the last text is the one that came last
pub lnum_then : (texts : List LogText) (text : LogText) → last_lnum (texts ++ text ∷ []) ≡ text.ends.lnum
lnum_then [] text = refl
lnum_then (other ∷ []) text = refl
lnum_then (other ∷ (next ∷ more)) text = lnum_then (next ∷ more) text

tail_then : (texts : List LogText) (text : LogText) → last_tail (texts ++ text ∷ []) ≡ text.ends.tail
tail_then [] text = refl
tail_then (other ∷ []) text = refl
tail_then (other ∷ (next ∷ more)) text = tail_then (next ∷ more) text

start_then : (more : List LogText) (text : LogText) → ends_in_start (more ++ text ∷ []) ≡ is_start_alone text.nodes
start_then [] text = refl
start_then (other ∷ []) text = refl
start_then (other ∷ (next ∷ more)) text = start_then (next ∷ more) text

pub last_of_some : (first : LogText) (more : List LogText) → (before : List LogText) × (last : LogText) × (first ∷ more ≡ before ++ last ∷ [])
last_of_some first [] = ([], first, refl)
last_of_some first (next ∷ more) = let rest = last_of_some next more in (first ∷ rest.0, rest.1, ap (λ (x : List LogText). first ∷ x) rest.2)

-- ---- references
names_either : (contents : ℕ → List ℕ) (geo : RawGeometry) (lnum : ℕ) (texts : List LogText) (text : LogText) (at : Wrong) → text.ends.lnum ≡ lnum → NamesNoMain contents geo texts at ⊎ IsMisnamedAmong geo (contents lnum) lnum text.nodes at
    → NamesNoMain contents geo (texts ++ text ∷ []) at
names_either contents geo lnum texts text at here (inl w) = record { text = w.text; one = front_of_two w.text texts (text ∷ []) w.one; found = w.found; stands = w.stands; kind = w.kind; node = w.node; is = w.is; wanted = w.wanted; there = w.there; past = w.past; at_is = w.at_is }
names_either contents geo lnum texts text at here (inr w) =
    let P : ℕ → Type 0 = λ n. IsReferenceAt (contents n) w.found w.node in
    let Q : ℕ → Wrong = λ n. record { lnum = n; offs = w.found.offs; misfit = differs w.wanted w.there } in
    record { text = text; one = back_of_two text texts (text ∷ []) ([], [], refl); found = w.found; stands = w.stands; kind = w.kind; node = w.node; is = subst P (sym here) w.is; wanted = w.wanted; there = w.there; past = w.past; at_is = w.at_is ∙ ap Q (sym here) }

names_parts : (contents : ℕ → List ℕ) (geo : RawGeometry) (lnum : ℕ) (texts : List LogText) (text : LogText) (at : Wrong) → text.ends.lnum ≡ lnum → NamesNoMain contents geo (texts ++ text ∷ []) at
    → NamesNoMain contents geo texts at ⊎ IsMisnamedAmong geo (contents lnum) lnum text.nodes at
names_parts contents geo lnum texts text at here w = elim (one_of_two w.text texts (text ∷ []) w.one) [
  | inl before ↦ inl (record { text = w.text; one = before; found = w.found; stands = w.stands; kind = w.kind; node = w.node; is = w.is; wanted = w.wanted; there = w.there; past = w.past; at_is = w.at_is })
  | inr own ↦ elim (first_or_behind w.text text [] own) [
    | inr more ↦ absurd (one_of_none w.text more)
    | inl e ↦
        let lnum_is : w.text.ends.lnum ≡ lnum = ap (λ (t : LogText). t.ends.lnum) e ∙ here in
        let P : ℕ → Type 0 = λ n. IsReferenceAt (contents n) w.found w.node in
        let Q : ℕ → Wrong = λ n. record { lnum = n; offs = w.found.offs; misfit = differs w.wanted w.there } in
        let R : LogText → Type 0 = λ t. IsOneOf w.found t.nodes in
        inr (record { found = w.found; stands = subst R e w.stands; kind = w.kind; node = w.node; is = subst P lnum_is w.is; wanted = w.wanted; there = w.there; past = w.past; at_is = w.at_is ∙ ap Q lnum_is })
  ]
]

-- ---- torn tails
-- what is wrong with the text behind others
pub record IsTornLast (contents : ℕ → List ℕ) (texts : List LogText) (text : LogText) (at : Wrong) : Type 0 where
  pub torn : last_tail texts ≡ Torn
  pub none : start_of (begins_with text.nodes) ≡ None
  pub at_is : at ≡ record { lnum = text.ends.lnum; offs = 0; misfit = differs 10 (type_byte (contents text.ends.lnum) 0) }

last_torn : (texts : List LogText) → last_tail texts ≡ Torn → (before : List LogText) × (last : LogText) × (texts ≡ before ++ last ∷ []) × (last.ends.tail ≡ Torn)
last_torn [] h = absurd cc
last_torn (first ∷ more) h =
    let some = last_of_some first more in
    (some.0, some.1, some.2, sym (tail_then some.0 some.1) ∙ ap last_tail (sym some.2) ∙ h)

none_is_some : (x : LogText) (before behind : List LogText) → [] ≡ before ++ (x ∷ behind) → ⊥
none_is_some x [] behind h = absurd cc
none_is_some x (y ∷ before) behind h = absurd cc

split_last : (texts : List LogText) (text : LogText) (before : List LogText) (a b : LogText) (behind : List LogText) → texts ++ text ∷ [] ≡ before ++ (a ∷ (b ∷ behind))
    → ((rest : List LogText) × (texts ≡ before ++ (a ∷ (b ∷ rest)))) ⊎ ((texts ≡ before ++ a ∷ []) × (b ≡ text))
split_last [] text [] a b behind h = absurd (none_is_some b [] behind (first_of_equal text a [] (b ∷ behind) h).1)
split_last [] text (z ∷ before) a b behind h = absurd (none_is_some a before (b ∷ behind) (first_of_equal text z [] (before ++ (a ∷ (b ∷ behind))) h).1)
split_last (x ∷ []) text [] a b behind h =
    let parts = first_of_equal x a (text ∷ []) (b ∷ behind) h in
    inr (ap (λ (z : LogText). z ∷ []) parts.0, sym (first_of_equal text b [] behind parts.1).0)
split_last (x ∷ (y ∷ more)) text [] a b behind h =
    let parts = first_of_equal x a (y ∷ (more ++ text ∷ [])) (b ∷ behind) h in
    inl (more, ap (λ (z : LogText). z ∷ (y ∷ more)) parts.0 ∙ ap (λ (z : LogText). a ∷ (z ∷ more)) (first_of_equal y b (more ++ text ∷ []) behind parts.1).0)
split_last (x ∷ texts) text (z ∷ before) a b behind h =
    let parts = first_of_equal x z (texts ++ text ∷ []) (before ++ (a ∷ (b ∷ behind))) h in
    elim (split_last texts text before a b behind parts.1) [
      | inl (rest, e) ↦ inl (rest, ap (λ (w : LogText). w ∷ texts) parts.0 ∙ ap (λ (w : List LogText). z ∷ w) e)
      | inr (e, same) ↦ inr (ap (λ (w : LogText). w ∷ texts) parts.0 ∙ ap (λ (w : List LogText). z ∷ w) e, same)
    ]

torn_either : (contents : ℕ → List ℕ) (texts : List LogText) (text : LogText) (at : Wrong) → IsTornWithin contents texts at ⊎ IsTornLast contents texts text at → IsTornWithin contents (texts ++ text ∷ []) at
torn_either contents texts text at (inl w) = record {
  before = w.before;
  text = w.text;
  next = w.next;
  behind = w.behind ++ text ∷ [];
  parts = ap (λ (x : List LogText). x ++ text ∷ []) w.parts ∙ append_assoc w.before (w.text ∷ (w.next ∷ w.behind)) (text ∷ []);
  torn = w.torn;
  none = w.none;
  at_is = w.at_is;
}
torn_either contents texts text at (inr w) =
    let last = last_torn texts w.torn in
    record {
      before = last.0;
      text = last.1;
      next = text;
      behind = [];
      parts = ap (λ (x : List LogText). x ++ text ∷ []) last.2 ∙ append_assoc last.0 (last.1 ∷ []) (text ∷ []);
      torn = last.3;
      none = w.none;
      at_is = w.at_is;
    }

torn_parts : (contents : ℕ → List ℕ) (texts : List LogText) (text : LogText) (at : Wrong) → IsTornWithin contents (texts ++ text ∷ []) at → IsTornWithin contents texts at ⊎ IsTornLast contents texts text at
torn_parts contents texts text at w = elim (split_last texts text w.before w.text w.next w.behind w.parts) [
  | inl (rest, e) ↦ inl (record { before = w.before; text = w.text; next = w.next; behind = rest; parts = e; torn = w.torn; none = w.none; at_is = w.at_is })
  | inr (e, same) ↦
      let Q : LogText → Wrong = λ t. record { lnum = t.ends.lnum; offs = 0; misfit = differs 10 (type_byte (contents t.ends.lnum) 0) } in
      inr (record {
        torn = ap last_tail e ∙ tail_then w.before w.text ∙ w.torn;
        none = ap (λ (t : LogText). start_of (begins_with t.nodes)) (sym same) ∙ w.none;
        at_is = w.at_is ∙ ap Q same;
      })
]

one_torn : (contents : ℕ → List ℕ) (texts : List LogText) (text : LogText) (lnum : ℕ) (tail : Tail) (start : Option ℕ) → text.ends.lnum ≡ lnum → tail ≡ last_tail texts → start ≡ start_of (begins_with text.nodes)
    → IsFirstOf (IsTornLast contents texts text) (torn_behind tail lnum (contents lnum) start)
one_torn contents texts text lnum Clean start here tail_is start_is = λ at w. (let e = tail_is ∙ w.torn in absurd cc)
one_torn contents texts text lnum Torn (Some number) here tail_is start_is = λ at w. (let e = start_is ∙ w.none in absurd cc)
one_torn contents texts text lnum Torn None here tail_is start_is =
    let Q : ℕ → Wrong = λ n. record { lnum = n; offs = 0; misfit = differs 10 (type_byte (contents n) 0) } in
    first_alone (IsTornLast contents texts text) (record { lnum = lnum; offs = 0; wanted = 10; found = type_byte (contents lnum) 0 })
    (record { torn = sym tail_is; none = sym start_is; at_is = ap Q (sym here) })
    (λ at w. w.at_is ∙ ap Q here)

-- ---- a text more
pub read_added : (contents : ℕ → List ℕ) (geo : RawGeometry) (texts : List LogText) (lnum : ℕ) (seen : Seen) (old new : ReadLebs) → IsReadAs contents geo texts old → (a : IsAddedTo geo (contents lnum) lnum seen old new) → IsReadAs contents geo (texts ++ a.text ∷ []) new
read_added contents geo texts lnum seen old new h a =
    let text = a.text in
    let here = a.is_text.here in
    let lnum_of : LogText → ℕ = λ t. t.ends.lnum in
    let F : Option WrongValue → Type 0 = λ o. IsFirstOf (NamesNoMain contents geo (texts ++ text ∷ [])) o in
    let G : Option WrongValue → Type 0 = λ o. IsFirstOf (IsTornWithin contents (texts ++ text ∷ [])) o in
    let torn = torn_behind old.tail lnum (contents lnum) (start_of (begins_with text.nodes)) in
    record {
      lnums = a.lnums ∙ ap (λ (x : List ℕ). x ++ lnum ∷ []) h.lnums ∙ ap (λ (n : ℕ). map lnum_of texts ++ n ∷ []) (sym here) ∙ sym (map-append lnum_of texts (text ∷ []));
      references = a.references ∙ ap (λ (x : List RefNode). x ++ text.references) h.references ∙ sym (references_then texts text);
      misnamed = subst F (sym a.misnamed_is)
          (first_same (λ at. NamesNoMain contents geo texts at ⊎ IsMisnamedAmong geo (contents lnum) lnum text.nodes at) (NamesNoMain contents geo (texts ++ text ∷ [])) (sooner_of old.misnamed a.misnamed)
          (λ at w. names_either contents geo lnum texts text at here w) (λ at w. names_parts contents geo lnum texts text at here w)
          (first_of_both (NamesNoMain contents geo texts) (IsMisnamedAmong geo (contents lnum) lnum text.nodes) old.misnamed a.misnamed h.misnamed a.is_misnamed));
      torn = subst G (sym a.torn_is)
          (first_same (λ at. IsTornWithin contents texts at ⊎ IsTornLast contents texts text at) (IsTornWithin contents (texts ++ text ∷ [])) (sooner_of old.torn torn)
          (λ at w. torn_either contents texts text at w) (λ at w. torn_parts contents texts text at w)
          (first_of_both (IsTornWithin contents texts) (IsTornLast contents texts text) old.torn torn h.torn (one_torn contents texts text lnum old.tail (start_of (begins_with text.nodes)) here h.tail refl)));
      last = a.last_is ∙ sym here ∙ sym (lnum_then texts text);
      tail = a.tail_is ∙ sym (tail_then texts text);
    }

no_text : (x : LogText) → IsOneOf x [] → ⊥
no_text x h = one_of_none x h

-- nothing was read
fresh_as : (contents : ℕ → List ℕ) (geo : RawGeometry) (read : ReadLebs) → IsFresh read → IsReadAs contents geo [] read
fresh_as contents geo read h =
    let F : Option WrongValue → Type 0 = λ o. IsFirstOf (NamesNoMain contents geo []) o in
    let G : Option WrongValue → Type 0 = λ o. IsFirstOf (IsTornWithin contents []) o in
    record {
      lnums = h.lnums;
      references = h.references;
      misnamed = subst F (sym h.misnamed) (λ at w. no_text w.text w.one);
      torn = subst G (sym h.torn) (λ at w. none_is_some w.text w.before (w.next ∷ w.behind) w.parts);
      last = h.last;
      tail = h.tail;
    }

-- the first LEB was read
pub first_read : (contents : ℕ → List ℕ) (geo : RawGeometry) (from number : ℕ) (seen : Seen) (fresh read now : ReadLebs) → IsFresh fresh → (a : IsAddedTo geo (contents from) from seen fresh read) → start_of seen.begins ≡ Some number
    → now ≡ record read { alone = false } → IsReadUpTo contents geo from number (next_leb geo from) now
first_read contents geo from number seen fresh read now h a start now_is =
    let P : ReadLebs → Type 0 = λ r. IsReadUpTo contents geo from number (next_leb geo from) r in
    let told = read_added contents geo [] from seen fresh read (fresh_as contents geo fresh h) a in
    subst P (sym now_is) (record {
      first = a.text;
      more = [];
      chain = record { is_first = a.is_text; starts = ap start_of (sym a.begins) ∙ start; run = refl };
      are = record { lnums = told.lnums; references = told.references; misnamed = told.misnamed; torn = told.torn; last = told.last; tail = told.tail };
      alone = refl;
    })

-- and a LEB more
pub next_read : (contents : ℕ → List ℕ) (geo : RawGeometry) (from number lnum next : ℕ) (seen : Seen) (old new : ReadLebs) → IsReadUpTo contents geo from number lnum old → lnum ≢ from → IsAddedTo geo (contents lnum) lnum seen old new → IsTrue (is_later number seen.begins)
    → next ≡ next_leb geo lnum → IsReadUpTo contents geo from number next new
next_read contents geo from number lnum next seen old new h ne a later next_is =
    let P : ℕ → Type 0 = λ n. IsReadUpTo contents geo from number n new in
    let is_it : is_later number (begins_with a.text.nodes) ≡ true = ap (is_later number) (sym a.begins) ∙ later in
    subst P (sym next_is) (record {
      first = h.first;
      more = h.more ++ a.text ∷ [];
      chain = record { is_first = h.chain.is_first; starts = h.chain.starts; run = run_then contents geo from number (next_leb geo from) lnum h.more a.text h.chain.run ne a.is_text is_it };
      are = read_added contents geo (h.first ∷ h.more) lnum seen old new h.are a;
      alone = a.alone_is ∙ sym (start_then h.more a.text);
    })

-- up to a LEB that isn't read
pub all_read : (contents : ℕ → List ℕ) (geo : RawGeometry) (from number lnum : ℕ) (read : ReadLebs) → IsReadUpTo contents geo from number lnum read → Stops contents from number lnum → IsReadWhole contents geo from number read
all_read contents geo from number lnum read h stops = record { first = h.first; more = h.more; past = lnum; chain = h.chain; stops = stops; are = h.are; alone = h.alone }
