-- The leaves of a LEB that no bud is stand at their copies if each of them has one.
use Rattle.std.proofs.Common.{◌≡◌, ℕ, Bool, true, false, cond, not, ◌&&◌, ◌||◌, List, [], ◌∷◌, map, refl, sym, ap, subst, ◌∙◌, Option, Some, None, inl, inr}
use Rattle.std.specs.Prelude.{◌==◌, filter, fold, is_some, MatchOption}
use Rattle.std.specs.BTreeMap.{is_at}
use Rattle.std.specs.List.{AllByRecursion, list_all, list_any}
use Rattle.std.specs.Option.{option_map}
use Rattle.std.specs.Ordering.{nat_cmp}
use Rattle.std.proofs.lemmas.Bool.{false≢true, and_parts, eq-eqb, eqb-true}
use Rattle.std.proofs.lemmas.Map.Keys.{IsDistinct-cons, IsDistinct-head, IsDistinct-tail}
use Rattle.ubifs_base.specs.declared.key.Key.{Key}
use Rattle.index_tree.specs.declared.leaf.Leaf.{Leaf}
use Rattle.index_tree.specs.Distinct.{AreDistinct}
use Rattle.index_tree.specs.Removal.{holds, same_leaf}
use Rattle.leaf_map.specs.Kept.{Kept, Placed, kept_at, shown, shown_by}
use Rattle.leaf_map.specs.LeafMap.{IsKeyed, shows_same}
use Rattle.leaf_map.specs.Parts.{Parts, is_named}
use Rattle.leaf_map.specs.Recovered.{at_copy, copy_of_leaf, is_copied, moved_to_its_copy}
use Rattle.journal_scan.specs.Places.{HasNamedPlace}
use Rattle.log_replay.specs.declared.application.Place.{Place}
use Rattle.log_replay.specs.declared.candidate.Candidate.{Candidate}
use Rattle.log_replay.specs.Moving.{candidate_at, moved_all, moved_one, outside, stays_in}
use Rattle.log_replay.specs.Placing.{is_key}
use Rattle.log_replay.specs.Settling.{copy_at}
use Rattle.log_replay.specs.Told.{IsSetting}
use Rattle.log_replay.specs.Standing.{leaf_of_key, leaves}
use Rattle.log_replay.proofs.Carried.{IsAmong, IsCarried, bud_named}
use Rattle.log_replay.proofs.Distinct.{same_turned}
use Rattle.log_replay.proofs.Founds.{fits}
use Rattle.log_replay.proofs.Noted.{number_at}
use Rattle.log_replay.proofs.FromLast.{itself}
use Rattle.log_replay.proofs.Owning.{is_one}
use Rattle.log_replay.proofs.Ranked.{find_all, key_is, one_key}
use Rattle.log_replay.proofs.Sending.{GoesIn, Sent, all_go, goes_to, if_sent, is_outside, one_sent, outside_distinct, stays}
use Rattle.log_replay.proofs.Telling.{has_key}
use Rattle.log_replay.proofs.Tests.{number_same}

-- ---- a copy's leaf
copy_found : (copies : List Placed) (x : Kept) (c : Placed) → copy_of_leaf copies x ≡ Some c → shows_same (shown_by x) (shown c.node) ≡ true
copy_found [] x c f = absurd cc
copy_found (d ∷ copies) x c f = by ((d.sqnum == x.sqnum) && shows_same (shown_by x) (shown d.node)) refl f (copy_found copies x c)
  where
    by : (b : Bool) → ((d.sqnum == x.sqnum) && shows_same (shown_by x) (shown d.node)) ≡ b → cond b (Some d) (copy_of_leaf copies x) ≡ Some c → (copy_of_leaf copies x ≡ Some c → shows_same (shown_by x) (shown c.node) ≡ true) → shows_same (shown_by x) (shown c.node) ≡ true
    by true e g more = let same : d ≡ c = cc in subst (λ (z : Placed). shows_same (shown_by x) (shown z.node) ≡ true) same (and_parts (d.sqnum == x.sqnum) (shows_same (shown_by x) (shown d.node)) e).1
    by false e g more = more g

copy_leaf : (copies : List Placed) (x : Kept) (c : Placed) → IsKeyed x → AllByRecursion (λ d. IsSetting d.node) copies → copy_of_leaf copies x ≡ Some c → leaf_of_key x.leaf.key (record { lnum = c.lnum; offs = c.offs; len = c.len }) ≡ (kept_at c).leaf
copy_leaf copies x c k all f =
    let is = find_all (λ d. IsSetting d.node) (λ d. (d.sqnum == x.sqnum) && shows_same (shown_by x) (shown d.node)) copies c all f in
    ap (λ (key : Key). leaf_of_key key (record { lnum = c.lnum; offs = c.offs; len = c.len }))
    (sym (one_key x.leaf (kept_at c).leaf (shown_by x) (shown c.node) (key_is x.leaf (shown_by x) k) (key_is (kept_at c).leaf (shown c.node) (has_key c is)) (copy_found copies x c f)))

-- ---- leaves among others
record Witness (p : Kept → Bool) (ys : List Kept) : Type 0 where
  y : Kept
  among : IsAmong y ys
  holds : p y ≡ true

any_among : (p : Kept → Bool) (ys : List Kept) → list_any p ys ≡ true → Witness p ys
any_among p [] h = absurd (false≢true h)
any_among p (y ∷ ys) h = by (any_among p ys) (p y) refl h
  where
    by : (list_any p ys ≡ true → Witness p ys) → (b : Bool) → p y ≡ b → (b || list_any p ys) ≡ true → Witness p (y ∷ ys)
    by more true e g = record { y = y; among = inl refl; holds = e }
    by more false e g = let w = more g in record { y = w.y; among = inr w.among; holds = w.holds }

among_any : (p : Kept → Bool) (x : Kept) (ys : List Kept) → IsAmong x ys → p x ≡ true → list_any p ys ≡ true
among_any p x [] a h = absurd a
among_any p x (y ∷ ys) (inl e) h = rw (ap p (sym e) ∙ h) refl
among_any p x (y ∷ ys) (inr a) h = by (among_any p x ys a h) (p y)
  where
    by : list_any p ys ≡ true → (b : Bool) → (b || list_any p ys) ≡ true
    by more true = refl
    by more false = more

among_all : (Q : Kept → Type 0) (x : Kept) (ys : List Kept) → AllByRecursion Q ys → IsAmong x ys → Q x
among_all Q x [] all a = absurd a
among_all Q x (y ∷ ys) all (inl e) = subst Q (sym e) all.0
among_all Q x (y ∷ ys) all (inr a) = among_all Q x ys all.1 a

among_left : (p : Kept → Bool) (x : Kept) (ys : List Kept) → IsAmong x ys → p x ≡ true → IsAmong x (filter p ys)
among_left p x [] a h = absurd a
among_left p x (y ∷ ys) (inl e) h = rw (ap p (sym e) ∙ h) (inl e)
among_left p x (y ∷ ys) (inr a) h = by (among_left p x ys a h) (p y)
  where
    by : IsAmong x (filter p ys) → (b : Bool) → IsAmong x (cond b (y ∷ filter p ys) (filter p ys))
    by more true = inr more
    by more false = more

among_more : (p : Kept → Bool) (x : Kept) (ys : List Kept) → IsAmong x (filter p ys) → IsAmong x ys
among_more p x [] a = a
among_more p x (y ∷ ys) a = by (among_more p x ys) (p y) a
  where
    by : (IsAmong x (filter p ys) → IsAmong x ys) → (b : Bool) → IsAmong x (cond b (y ∷ filter p ys) (filter p ys)) → IsAmong x (y ∷ ys)
    by more true (inl e) = inl e
    by more true (inr f) = inr (more f)
    by more false f = inr (more f)

left_all : (Q : Kept → Type 0) (p : Kept → Bool) (ys : List Kept) → AllByRecursion Q ys → AllByRecursion Q (filter p ys)
left_all Q p [] all = tt
left_all Q p (y ∷ ys) all = by (left_all Q p ys all.1) (p y)
  where
    by : AllByRecursion Q (filter p ys) → (b : Bool) → AllByRecursion Q (cond b (y ∷ filter p ys) (filter p ys))
    by more true = (all.0, more)
    by more false = more

apart_among : (l : Leaf) (y : Kept) (ys : List Kept) → AllByRecursion (λ m. same_leaf l m ≡ false) (leaves ys) → IsAmong y ys → same_leaf l y.leaf ≡ false
apart_among l y [] all a = absurd a
apart_among l y (z ∷ ys) all (inl e) = ap (λ (k : Kept). same_leaf l k.leaf) e ∙ all.0
apart_among l y (z ∷ ys) all (inr a) = apart_among l y ys all.1 a

among_one : (x y : Kept) (ys : List Kept) → AreDistinct (leaves ys) → IsAmong x ys → IsAmong y ys → same_leaf x.leaf y.leaf ≡ true → x ≡ y
among_one x y [] d a b s = absurd a
among_one x y (z ∷ ys) d (inl e) (inl f) s = e ∙ sym f
among_one x y (z ∷ ys) d (inl e) (inr b) s = absurd (false≢true (sym (apart_among z.leaf y ys (IsDistinct-head same_leaf z.leaf (leaves ys) d) b) ∙ ap (λ (k : Kept). same_leaf k.leaf y.leaf) (sym e) ∙ s))
among_one x y (z ∷ ys) d (inr a) (inl f) s =
    absurd (false≢true (sym (apart_among z.leaf x ys (IsDistinct-head same_leaf z.leaf (leaves ys) d) a) ∙ same_turned z.leaf x.leaf ∙ ap (λ (k : Kept). same_leaf x.leaf k.leaf) (sym f) ∙ s))
among_one x y (z ∷ ys) d (inr a) (inr b) s = among_one x y ys (IsDistinct-tail same_leaf z.leaf (leaves ys) d) a b s

distinct_left : (p : Kept → Bool) (ys : List Kept) → AreDistinct (leaves ys) → AreDistinct (leaves (filter p ys))
distinct_left p [] d = d
distinct_left p (y ∷ ys) d = by (distinct_left p ys (IsDistinct-tail same_leaf y.leaf (leaves ys) d)) (p y)
  where
    rest : (zs : List Kept) → AllByRecursion (λ m. same_leaf y.leaf m ≡ false) (leaves zs) → AllByRecursion (λ m. same_leaf y.leaf m ≡ false) (leaves (filter p zs))
    rest [] a = tt
    rest (z ∷ zs) a = test (rest zs a.1) (p z)
      where
        test : AllByRecursion (λ m. same_leaf y.leaf m ≡ false) (leaves (filter p zs)) → (b : Bool) → AllByRecursion (λ m. same_leaf y.leaf m ≡ false) (leaves (cond b (z ∷ filter p zs) (filter p zs)))
        test more true = (a.0, more)
        test more false = more

    by : AreDistinct (leaves (filter p ys)) → (b : Bool) → AreDistinct (leaves (cond b (y ∷ filter p ys) (filter p ys)))
    by more true = IsDistinct-cons same_leaf y.leaf (leaves (filter p ys)) (rest ys (IsDistinct-head same_leaf y.leaf (leaves ys) d)) more
    by more false = more

holds_any : (l : Leaf) (ys : List Kept) → holds l (leaves ys) ≡ list_any (λ x. same_leaf x.leaf l) ys
holds_any l [] = refl
holds_any l (y ∷ ys) = by (same_leaf y.leaf l) (holds_any l ys)
  where
    by : (b : Bool) → holds l (leaves ys) ≡ list_any (λ x. same_leaf x.leaf l) ys → cond b true (holds l (leaves ys)) ≡ (b || list_any (λ x. same_leaf x.leaf l) ys)
    by true more = refl
    by false more = more

any_map : (p : Candidate → Bool) (f : Kept → Candidate) (ys : List Kept) → list_any p (map f ys) ≡ list_any (λ y. p (f y)) ys
any_map p f [] = refl
any_map p f (y ∷ ys) = ap (λ (b : Bool). p (f y) || b) (any_map p f ys)

not_all : (p : Kept → Bool) (ys : List Kept) → not (list_all p ys) ≡ list_any (λ y. not (p y)) ys
not_all p [] = refl
not_all p (y ∷ ys) = by (p y) (not_all p ys)
  where
    by : (b : Bool) → not (list_all p ys) ≡ list_any (λ y. not (p y)) ys → not (b && list_all p ys) ≡ (not b || list_any (λ y. not (p y)) ys)
    by true more = more
    by false more = refl

one_bool : (a b : Bool) → (a ≡ true → b ≡ true) → (b ≡ true → a ≡ true) → a ≡ b
one_bool true b f g = sym (f refl)
one_bool false true f g = g refl
one_bool false false f g = refl

-- ---- where each is sent
module _ (parts : Parts) (found left : List Kept) where
  abbrev pub xs : List Leaf
  xs = leaves left

  abbrev pub candidates : List Candidate
  candidates = map (candidate_at parts.copies) (outside parts.named found)

  abbrev pub stay : ℕ → Bool
  stay lnum = list_any (stays_in xs lnum) candidates

  abbrev pub sent_to : Kept → Option Leaf
  sent_to x = cond (stay x.leaf.lnum) None (option_map (λ c. (kept_at c).leaf) (copy_of_leaf parts.copies x))

  abbrev pub sent : Kept → Sent
  sent x = record { leaf = x.leaf; new = sent_to x }

  step_is : (ys : List Leaf) (x : Kept) → IsKeyed x → AllByRecursion (λ d. IsSetting d.node) parts.copies → moved_one stay ys (candidate_at parts.copies x) ≡ one_sent ys (sent x)
  step_is ys x k all = by (stay x.leaf.lnum) (copy_of_leaf parts.copies x) refl
    where
      by : (b : Bool) (c : Option Placed) → copy_of_leaf parts.copies x ≡ c
          → moved_one (λ lnum. b) ys (record { leaf = x.leaf; copy = option_map (λ (d : Placed). record { lnum = d.lnum; offs = d.offs; len = d.len }) c }) ≡ one_sent ys (record { leaf = x.leaf; new = cond b None (option_map (λ (d : Placed). (kept_at d).leaf) c) })
      by true c e = refl
      by false None e = refl
      by false (Some c) e = rw (fits x.leaf (shown_by x) k, copy_leaf parts.copies x c k all e) refl

  steps_are : (ys : List Leaf) (fs : List Kept) → AllByRecursion IsKeyed fs → AllByRecursion (λ d. IsSetting d.node) parts.copies → fold (moved_one stay) ys (map (candidate_at parts.copies) fs) ≡ fold one_sent ys (map sent fs)
  steps_are ys [] k all = refl
  steps_are ys (x ∷ fs) k all = ap (λ z. fold (moved_one stay) z (map (candidate_at parts.copies) fs)) (step_is ys x k.0 all) ∙ steps_are (one_sent ys (sent x)) fs k.1 all

  -- ---- which LEBs stay
  abbrev has_none : ℕ → Kept → Bool
  has_none lnum x = not (not (x.leaf.lnum == lnum) || is_some (copy_of_leaf parts.copies x))

  record HasNone (lnum : ℕ) (x : Kept) : Type 0 where
    number : x.leaf.lnum ≡ lnum
    none : is_some (copy_of_leaf parts.copies x) ≡ false

  from_none : (lnum : ℕ) (x : Kept) → has_none lnum x ≡ true → HasNone lnum x
  from_none lnum x h = by (x.leaf.lnum == lnum) refl (is_some (copy_of_leaf parts.copies x)) refl h
    where
      by : (a : Bool) → (x.leaf.lnum == lnum) ≡ a → (b : Bool) → is_some (copy_of_leaf parts.copies x) ≡ b → not (not a || b) ≡ true → HasNone lnum x
      by true e false f g = record { number = eqb-true x.leaf.lnum lnum e; none = f }
      by true e true f g = absurd (false≢true g)
      by false e b f g = absurd (false≢true g)

  to_none : (lnum : ℕ) (x : Kept) → HasNone lnum x → has_none lnum x ≡ true
  to_none lnum x h = rw (eq-eqb x.leaf.lnum lnum h.number, h.none) refl

  some_at : (x : Kept) → is_some (copy_at parts.copies x) ≡ is_some (copy_of_leaf parts.copies x)
  some_at x = by (copy_of_leaf parts.copies x)
    where
      by : (c : Option Placed) → is_some {T = Place} (option_map (λ (d : Placed). record { lnum = d.lnum; offs = d.offs; len = d.len }) c) ≡ is_some c
      by None = refl
      by (Some c) = refl

  record StaysIn (lnum : ℕ) (y : Kept) : Type 0 where
    number : y.leaf.lnum ≡ lnum
    none : is_some (copy_of_leaf parts.copies y) ≡ false
    there : list_any (λ x. same_leaf x.leaf y.leaf) left ≡ true

  from_stay : (lnum : ℕ) (y : Kept) → stays_in xs lnum (candidate_at parts.copies y) ≡ true → StaysIn lnum y
  from_stay lnum y h =
      by (is_at (nat_cmp y.leaf.lnum) lnum) refl (is_some (copy_at parts.copies y)) refl (is_key y.leaf.key) h
    where
      by : (a : Bool) → is_at (nat_cmp y.leaf.lnum) lnum ≡ a → (b : Bool) → is_some (copy_at parts.copies y) ≡ b → (k : Bool) → (((a && not b) && k) && holds y.leaf xs) ≡ true → StaysIn lnum y
      by true e false f true g = record { number = number_same y.leaf.lnum lnum e; none = sym (some_at y) ∙ f; there = sym (holds_any y.leaf left) ∙ g }
      by true e false f false g = absurd (false≢true g)
      by true e true f k g = absurd (false≢true g)
      by false e b f k g = absurd (false≢true g)

  to_stay : (lnum : ℕ) (y : Kept) → StaysIn lnum y → IsKeyed y → stays_in xs lnum (candidate_at parts.copies y) ≡ true
  to_stay lnum y s k =
      rw (sym (number_at y.leaf.lnum lnum) ∙ eq-eqb y.leaf.lnum lnum s.number, some_at y ∙ s.none, fits y.leaf (shown_by y) k, holds_any y.leaf left ∙ s.there) refl

  module _ (keyed : AllByRecursion IsKeyed left) (keyed_found : AllByRecursion IsKeyed found) (carried : AllByRecursion (IsCarried parts.named found) left) (distinct : AreDistinct (leaves found)) where
    among_outside : (x : Kept) → IsAmong x left → is_named parts.named x.leaf.lnum ≡ false → IsAmong x (outside parts.named found)
    among_outside x a h = among_left (λ y. is_outside parts.named y.leaf) x found (among_all (IsCarried parts.named found) x left carried a h) (ap not h)

    lebs_stay : (lnum : ℕ) → is_named parts.named lnum ≡ false → stay lnum ≡ not (is_copied parts.copies left lnum)
    lebs_stay lnum h = any_map (stays_in xs lnum) (candidate_at parts.copies) (outside parts.named found)
        ∙ one_bool (list_any (λ y. stays_in xs lnum (candidate_at parts.copies y)) (outside parts.named found)) (list_any (has_none lnum) left) there back
        ∙ sym (not_all (λ x. not (x.leaf.lnum == lnum) || is_some (copy_of_leaf parts.copies x)) left)
      where
        there : list_any (λ y. stays_in xs lnum (candidate_at parts.copies y)) (outside parts.named found) ≡ true → list_any (has_none lnum) left ≡ true
        there e =
            let w = any_among (λ y. stays_in xs lnum (candidate_at parts.copies y)) (outside parts.named found) e in
            let s = from_stay lnum w.y w.holds in
            let v = any_among (λ x. same_leaf x.leaf w.y.leaf) left s.there in
            let number : v.y.leaf.lnum ≡ lnum = (is_one v.y.leaf w.y.leaf v.holds).lnum ∙ s.number in
            let free : is_named parts.named v.y.leaf.lnum ≡ false = ap (is_named parts.named) number ∙ h in
            let same : v.y ≡ w.y = among_one v.y w.y found distinct (among_all (IsCarried parts.named found) v.y left carried v.among free) (among_more (λ y. is_outside parts.named y.leaf) w.y found w.among) v.holds in
            among_any (has_none lnum) v.y left v.among (to_none lnum v.y (record { number = number; none = ap (λ (k : Kept). is_some (copy_of_leaf parts.copies k)) same ∙ s.none }))

        back : list_any (has_none lnum) left ≡ true → list_any (λ y. stays_in xs lnum (candidate_at parts.copies y)) (outside parts.named found) ≡ true
        back e =
            let w = any_among (has_none lnum) left e in
            let n = from_none lnum w.y w.holds in
            let free : is_named parts.named w.y.leaf.lnum ≡ false = ap (is_named parts.named) n.number ∙ h in
            among_any (λ y. stays_in xs lnum (candidate_at parts.copies y)) w.y (outside parts.named found) (among_outside w.y w.among free)
            (to_stay lnum w.y (record { number = n.number; none = n.none; there = among_any (λ x. same_leaf x.leaf w.y.leaf) w.y left w.among (itself w.y.leaf) }) (among_all IsKeyed w.y left keyed w.among))

    -- ---- where one leaf goes
    none_same : (l : Leaf) (fs : List Kept) → AllByRecursion (λ m. same_leaf l m ≡ false) (leaves fs) → goes_to (map sent fs) l ≡ l
    none_same l [] a = refl
    none_same l (f ∷ fs) a = rw a.0 (none_same l fs a.1)

    goes_one : (x : Kept) (fs : List Kept) → AreDistinct (leaves fs) → IsAmong x fs → goes_to (map sent fs) x.leaf ≡ if_sent (sent_to x) x.leaf
    goes_one x [] d a = absurd a
    goes_one x (f ∷ fs) d (inl e) = subst (λ (z : Kept). goes_to (map sent (f ∷ fs)) z.leaf ≡ if_sent (sent_to z) z.leaf) (sym e) (rw (itself f.leaf) (by (sent_to f)))
      where
        by : (o : Option Leaf) → if_sent o (goes_to (map sent fs) f.leaf) ≡ if_sent o f.leaf
        by (Some new) = refl
        by None = none_same f.leaf fs (IsDistinct-head same_leaf f.leaf (leaves fs) d)
    goes_one x (f ∷ fs) d (inr a) =
        rw (same_turned x.leaf f.leaf ∙ apart_among f.leaf x fs (IsDistinct-head same_leaf f.leaf (leaves fs) d) a) (goes_one x fs (IsDistinct-tail same_leaf f.leaf (leaves fs) d) a)

    module _ (setting : AllByRecursion (λ d. IsSetting d.node) parts.copies) (named_copies : AllByRecursion (HasNamedPlace parts.named) parts.copies) (apart_left : AreDistinct (leaves left)) where
      abbrev pub sents : List Sent
      sents = map sent (outside parts.named found)

      goes_in : (ys : List Kept) → AllByRecursion (GoesIn parts.named) (map sent (outside parts.named ys))
      goes_in [] = tt
      goes_in (y ∷ ys) = by (goes_in ys) (is_outside parts.named y.leaf) refl
        where
          new : (b : Bool) (c : Option Placed) → copy_of_leaf parts.copies y ≡ c → MatchOption (cond b None (option_map (λ (d : Placed). (kept_at d).leaf) c)) (Unit {0}) (λ new. is_outside parts.named new ≡ false)
          new true c e = tt
          new false None e = tt
          new false (Some c) e =
              ap not (bud_named parts.named (kept_at c).leaf (find_all (HasNamedPlace parts.named) (λ d. (d.sqnum == y.sqnum) && shows_same (shown_by y) (shown d.node)) parts.copies c named_copies e))

          by : AllByRecursion (GoesIn parts.named) (map sent (outside parts.named ys)) → (b : Bool) → is_outside parts.named y.leaf ≡ b → AllByRecursion (GoesIn parts.named) (map sent (cond b (y ∷ outside parts.named ys) (outside parts.named ys)))
          by more true e = ((e, new (stay y.leaf.lnum) (copy_of_leaf parts.copies y) refl), more)
          by more false e = more

      goes : (x : Kept) → IsAmong x left → goes_to sents x.leaf ≡ (moved_to_its_copy parts left x).leaf
      goes x a = by (is_named parts.named x.leaf.lnum) refl
        where
          copied : (b s : Bool) → s ≡ not b → (c : Option Placed) → copy_of_leaf parts.copies x ≡ c → if_sent (cond s None (option_map (λ (d : Placed). (kept_at d).leaf) c)) x.leaf ≡ (cond b (at_copy parts.copies x) x).leaf
          copied true s e None f = rw (e, f) refl
          copied true s e (Some c) f = rw (e, f) refl
          copied false s e c f = rw e refl

          by : (b : Bool) → is_named parts.named x.leaf.lnum ≡ b → goes_to sents x.leaf ≡ (moved_to_its_copy parts left x).leaf
          by true e = stays parts.named sents x.leaf (goes_in found) (ap not e) ∙ rw e refl
          by false e =
              goes_one x (outside parts.named found) (distinct_left (λ y. is_outside parts.named y.leaf) found distinct) (among_outside x a e)
              ∙ copied (is_copied parts.copies left x.leaf.lnum) (stay x.leaf.lnum) (lebs_stay x.leaf.lnum e) (copy_of_leaf parts.copies x) refl ∙ rw e refl

      all_goes : (ys : List Kept) → ((x : Kept) → IsAmong x ys → IsAmong x left) → map (goes_to sents) (leaves ys) ≡ leaves (map (moved_to_its_copy parts left) ys)
      all_goes [] h = refl
      all_goes (y ∷ ys) h = rw (goes y (h y (inl refl)), all_goes ys (λ x a. h x (inr a))) refl

      pub all_moved : moved_all candidates xs ≡ leaves (map (moved_to_its_copy parts left) left)
      all_moved =
          steps_are xs (outside parts.named found) (left_all IsKeyed (λ y. is_outside parts.named y.leaf) found keyed_found) setting
          ∙ all_go parts.named sents xs (goes_in found) (outside_distinct parts.named xs apart_left)
          ∙ all_goes left (λ x a. a)
