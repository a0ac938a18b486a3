-- Pages in the order of their places, after a page was set, added or taken out, and after places were taken away.
use Rattle.std.proofs.Common.{◌≡◌, ℕ, ◌<◌, ◌==◌, Bool, true, false, cond, not, List, [], ◌∷◌, ◌++◌, filter, is_some, Option, Some, None, refl, sym, ap, subst, ◌∙◌, arith}
use Rattle.std.specs.List.{AllByRecursion, IsDistinct}
use Rattle.std.specs.Map.{keys_of, lookup, remove_entry, set_value}
use Rattle.std.specs.Option.{option_map_or}
use Rattle.std.proofs.lemmas.Bool.{eq-eqb, eqb-true, false≢true}
use Rattle.std.proofs.lemmas.Map.Keys.{IsDistinct-head, IsDistinct-tail}
use Rattle.page_cache.specs.declared.dirty_page.DirtyPage.{DirtyPage}
use Rattle.page_cache.specs.declared.place.Place.{Place}
use Rattle.page_cache.specs.declared.place.Placed.{Placed}
use Rattle.page_cache.specs.Queue.{page_placed, pages_by_place, ArePlacesBelow, IsChangedAt}
use Rattle.page_cache.specs.PageLaws.{is_page_same}
use Rattle.page_cache.specs.Pages.{is_page, is_cut, cut_list}
use Rattle.page_cache.proofs.Apart.{removed_absent}
use Rattle.page_cache.proofs.Lists.{set_absent}
use Rattle.page_cache.proofs.Names.{is_page_laws}

-- dirty pages by name
abbrev pub ByName : Type 0
ByName = List ((ℕ × ℕ) × Placed)

-- what a place shows of a page that is found under its name
abbrev shown : Place → Option Placed → Option DirtyPage
shown p o = option_map_or (λ (placed : Placed). cond (placed.place == p.number) (Some placed.page) None) o None

-- the order from a place on
abbrev step : Place → Option DirtyPage → List ((ℕ × ℕ) × DirtyPage) → List ((ℕ × ℕ) × DirtyPage)
step p o rest = option_map_or (λ page. (p.name, page) ∷ rest) o rest

none_of : {X : Type 0} (o : Option X) → is_some o ≡ false → o ≡ None
none_of None h = refl
none_of (Some x) h = absurd (false≢true (sym h))

-- the first page of distinct ones isn't among the others
none_later : {V : Type 0} (name : ℕ × ℕ) (es : List ((ℕ × ℕ) × V)) → AllByRecursion (λ k. is_page name k ≡ false) (keys_of es) → lookup (is_page name) es ≡ None
none_later name [] all = refl
none_later name (e ∷ es) all = rw all.0 (none_later name es all.1)

none_named : {V : Type 0} (name other : ℕ × ℕ) (es : List ((ℕ × ℕ) × V)) → is_page name other ≡ true → AllByRecursion (λ k. is_page other k ≡ false) (keys_of es) → lookup (is_page name) es ≡ None
none_named name other es same all = subst (λ n. lookup (is_page n) es ≡ None) (sym (is_page_same name other same)) (none_later other es all)

module _ (a b : ByName) (name : ℕ × ℕ) where
  other_same : (value : Option Placed) (p : Place) → IsChangedAt name value a b → is_page name p.name ≡ false → page_placed b p ≡ page_placed a p
  other_same value p changes t = ap (shown p) (changes p.name ∙ ap (λ c. cond c value (lookup (is_page p.name) a)) t)

  own_value : (value : Option Placed) (p : Place) → IsChangedAt name value a b → is_page name p.name ≡ true → page_placed b p ≡ shown p value
  own_value value p changes t = ap (shown p) (changes p.name ∙ ap (λ c. cond c value (lookup (is_page p.name) a)) t)

  -- after a page was taken out
  pub order_without : IsChangedAt name None a b → (places : List Place) → IsDistinct is_page (keys_of (pages_by_place a places)) → pages_by_place b places ≡ remove_entry (is_page name) (pages_by_place a places)
  order_without changes [] once = refl
  order_without changes (p ∷ ps) once = by (is_page name p.name) refl (page_placed a p) refl (order_without changes ps) once
    where
      by : (t : Bool) → is_page name p.name ≡ t → (o : Option DirtyPage) → page_placed a p ≡ o
          → (IsDistinct is_page (keys_of (pages_by_place a ps)) → pages_by_place b ps ≡ remove_entry (is_page name) (pages_by_place a ps))
          → IsDistinct is_page (keys_of (step p o (pages_by_place a ps)))
          → step p (page_placed b p) (pages_by_place b ps) ≡ remove_entry (is_page name) (step p o (pages_by_place a ps))
      by true t None at rest once = ap (λ o. step p o (pages_by_place b ps)) (own_value None p changes t) ∙ rest once
      by true t (Some page) at rest once =
          let tail = IsDistinct-tail is_page p.name (keys_of (pages_by_place a ps)) once in
          let none = none_named name p.name (pages_by_place a ps) t (IsDistinct-head is_page p.name (keys_of (pages_by_place a ps)) once) in
          ap (λ o. step p o (pages_by_place b ps)) (own_value None p changes t)
          ∙ (rest tail ∙ (removed_absent (is_page name) (pages_by_place a ps) (ap is_some none) ∙ rw t refl))
      by false t None at rest once = ap (λ o. step p o (pages_by_place b ps)) (other_same None p changes t ∙ at) ∙ rest once
      by false t (Some page) at rest once =
          let tail = IsDistinct-tail is_page p.name (keys_of (pages_by_place a ps)) once in
          ap (λ o. step p o (pages_by_place b ps)) (other_same None p changes t ∙ at)
          ∙ (ap (λ l. (p.name, page) ∷ l) (rest tail) ∙ rw t refl)

  -- after a page was set at its place
  pub order_set : (placed : Placed) (page : DirtyPage) → lookup (is_page name) a ≡ Some placed → IsChangedAt name (Some (record { page = page; place = placed.place })) a b
      → (places : List Place) → IsDistinct is_page (keys_of (pages_by_place a places)) → pages_by_place b places ≡ set_value (is_page name) (pages_by_place a places) page
  order_set placed page there changes [] once = refl
  order_set placed page there changes (p ∷ ps) once = by (is_page name p.name) refl (page_placed a p) refl (order_set placed page there changes ps) once
    where
      new : Placed
      new = record { page = page; place = placed.place }

      old_value : is_page name p.name ≡ true → page_placed a p ≡ shown p (Some placed)
      old_value t = ap (shown p) (subst (λ n. lookup (is_page n) a ≡ Some placed) (is_page_same name p.name t) there)

      at_place : (here : Bool) → (o : Option DirtyPage) → cond here (Some placed.page) None ≡ o → is_page name p.name ≡ true
          → (IsDistinct is_page (keys_of (pages_by_place a ps)) → pages_by_place b ps ≡ set_value (is_page name) (pages_by_place a ps) page)
          → IsDistinct is_page (keys_of (step p o (pages_by_place a ps)))
          → step p (cond here (Some page) None) (pages_by_place b ps) ≡ set_value (is_page name) (step p o (pages_by_place a ps)) page
      at_place true None is t rest once = absurd cc
      at_place false (Some q) is t rest once = absurd cc
      at_place false None is t rest once = rest once
      at_place true (Some q) is t rest once =
          let tail = IsDistinct-tail is_page p.name (keys_of (pages_by_place a ps)) once in
          let none = none_named name p.name (pages_by_place a ps) t (IsDistinct-head is_page p.name (keys_of (pages_by_place a ps)) once) in
          ap (λ l. (p.name, page) ∷ l) (rest tail ∙ set_absent (is_page name) (pages_by_place a ps) page none) ∙ rw t refl

      by : (t : Bool) → is_page name p.name ≡ t → (o : Option DirtyPage) → page_placed a p ≡ o
          → (IsDistinct is_page (keys_of (pages_by_place a ps)) → pages_by_place b ps ≡ set_value (is_page name) (pages_by_place a ps) page)
          → IsDistinct is_page (keys_of (step p o (pages_by_place a ps)))
          → step p (page_placed b p) (pages_by_place b ps) ≡ set_value (is_page name) (step p o (pages_by_place a ps)) page
      by true t o at rest once =
          ap (λ v. step p v (pages_by_place b ps)) (own_value (Some new) p changes t)
          ∙ at_place (placed.place == p.number) o (sym (old_value t) ∙ at) t rest once
      by false t None at rest once = ap (λ o. step p o (pages_by_place b ps)) (other_same (Some new) p changes t ∙ at) ∙ rest once
      by false t (Some q) at rest once =
          let tail = IsDistinct-tail is_page p.name (keys_of (pages_by_place a ps)) once in
          ap (λ o. step p o (pages_by_place b ps)) (other_same (Some new) p changes t ∙ at)
          ∙ (ap (λ l. (p.name, q) ∷ l) (rest tail) ∙ rw t refl)

-- a page that was taken out left its place
pub left_place : (a b : ByName) (p : Place) → IsChangedAt p.name None a b → page_placed b p ≡ None
left_place a b p changes = own_value a b p.name None p changes (is_page_laws.refl p.name)

differ : (n m : ℕ) → m < n → (n == m) ≡ false
differ n m less = (elim (n == m) as (λ b. (n == m) ≡ b → b ≡ false) [
  | true ↦ λ t. absurd (omega (arith, eqb-true n m t, less))
  | false ↦ λ t. refl
]) refl

-- after a page was added at a new place
module _ (a b : ByName) (place : Place) (page : DirtyPage) (new : lookup (is_page place.name) a ≡ None) (changes : IsChangedAt place.name (Some (record { page = page; place = place.number })) a b) where
  abbrev value : Option Placed
  value = Some (record { page = page; place = place.number })

  pub order_added : (places : List Place) → ArePlacesBelow place.number places → pages_by_place b (places ++ place ∷ []) ≡ pages_by_place a places ++ (place.name, page) ∷ []
  order_added [] below =
      ap (λ o. step place o []) (own_value a b place.name value place changes (is_page_laws.refl place.name)
      ∙ ap (λ c. cond c (Some page) None) (eq-eqb place.number place.number refl))
  order_added (p ∷ ps) below = by (is_page place.name p.name) refl (page_placed a p) refl (order_added ps below.1)
    where
      by : (t : Bool) → is_page place.name p.name ≡ t → (o : Option DirtyPage) → page_placed a p ≡ o
          → pages_by_place b (ps ++ place ∷ []) ≡ pages_by_place a ps ++ (place.name, page) ∷ []
          → step p (page_placed b p) (pages_by_place b (ps ++ place ∷ [])) ≡ step p o (pages_by_place a ps) ++ (place.name, page) ∷ []
      by true t o at rest =
          let none : page_placed a p ≡ None = ap (shown p) (subst (λ n. lookup (is_page n) a ≡ None) (is_page_same place.name p.name t) new) in
          let gone : page_placed b p ≡ None = own_value a b place.name value p changes t ∙ ap (λ c. cond c (Some page) None) (differ place.number p.number below.0) in
          ap (λ v. step p v (pages_by_place b (ps ++ place ∷ []))) gone ∙ (rest ∙ ap (λ v. step p v (pages_by_place a ps) ++ (place.name, page) ∷ []) (sym none ∙ at))
      by false t None at rest = ap (λ o. step p o (pages_by_place b (ps ++ place ∷ []))) (other_same a b place.name value p changes t ∙ at) ∙ rest
      by false t (Some q) at rest =
          ap (λ o. step p o (pages_by_place b (ps ++ place ∷ []))) (other_same a b place.name value p changes t ∙ at) ∙ ap (λ l. (p.name, q) ∷ l) rest

module _ (pages : ByName) where
  -- without a place at the front that was left
  pub order_trimmed : (p : Place) (places : List Place) → is_some (page_placed pages p) ≡ false → pages_by_place pages (p ∷ places) ≡ pages_by_place pages places
  order_trimmed p places left = ap (λ o. step p o (pages_by_place pages places)) (none_of (page_placed pages p) left)

  -- without all places that were left
  pub order_swept : (places : List Place) → pages_by_place pages (filter (λ p. is_some (page_placed pages p)) places) ≡ pages_by_place pages places
  order_swept [] = refl
  order_swept (p ∷ ps) = by (page_placed pages p) refl (order_swept ps)
    where
      by : (o : Option DirtyPage) → page_placed pages p ≡ o → pages_by_place pages (filter (λ p. is_some (page_placed pages p)) ps) ≡ pages_by_place pages ps
          → pages_by_place pages (cond (is_some o) (p ∷ filter (λ p. is_some (page_placed pages p)) ps) (filter (λ p. is_some (page_placed pages p)) ps)) ≡ step p o (pages_by_place pages ps)
      by None at rest = rest
      by (Some page) at rest = ap (λ o. step p o (pages_by_place pages (filter (λ p. is_some (page_placed pages p)) ps))) at ∙ ap (λ l. (p.name, page) ∷ l) rest

  -- the last place
  pub order_last : (places : List Place) (p : Place) → pages_by_place pages (places ++ p ∷ []) ≡ pages_by_place pages places ++ step p (page_placed pages p) []
  order_last [] p = refl
  order_last (f ∷ fs) p =
      ap (step f (page_placed pages f)) (order_last fs p)
      ∙ (elim (page_placed pages f) as (λ o. step f o (pages_by_place pages fs ++ step p (page_placed pages p) []) ≡ step f o (pages_by_place pages fs) ++ step p (page_placed pages p) []) [
        | None ↦ refl
        | Some page ↦ refl
      ])

-- after a cut of the pages and of the places
module _ (a b : ByName) (ino from : ℕ) (changes : (q : ℕ × ℕ) → lookup (is_page q) b ≡ cond (not (is_cut ino from q)) (lookup (is_page q) a) None) where
  keep : Place → Bool
  keep p = not (is_cut ino from p.name)

  pub order_cut : (places : List Place) → pages_by_place b (filter (λ p. not (is_cut ino from p.name)) places) ≡ cut_list (pages_by_place a places) ino from
  order_cut [] = refl
  order_cut (p ∷ ps) = by (is_cut ino from p.name) refl (page_placed a p) refl (order_cut ps)
    where
      by : (c : Bool) → is_cut ino from p.name ≡ c → (o : Option DirtyPage) → page_placed a p ≡ o
          → pages_by_place b (filter (λ p. not (is_cut ino from p.name)) ps) ≡ cut_list (pages_by_place a ps) ino from
          → pages_by_place b (cond (not c) (p ∷ filter (λ p. not (is_cut ino from p.name)) ps) (filter (λ p. not (is_cut ino from p.name)) ps)) ≡ cut_list (step p o (pages_by_place a ps)) ino from
      by true c None at rest = rest
      by true c (Some page) at rest = rest ∙ rw c refl
      by false c None at rest =
          ap (λ o. step p o (pages_by_place b (filter (λ p. not (is_cut ino from p.name)) ps))) (ap (shown p) (changes p.name ∙ rw c refl) ∙ at) ∙ rest
      by false c (Some page) at rest =
          ap (λ o. step p o (pages_by_place b (filter (λ p. not (is_cut ino from p.name)) ps))) (ap (shown p) (changes p.name ∙ rw c refl) ∙ at)
          ∙ (ap (λ l. (p.name, page) ∷ l) rest ∙ rw c refl)
