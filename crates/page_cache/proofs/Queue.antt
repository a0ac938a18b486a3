-- What holds of pages and places holds after each change of them.
use Rattle.std.proofs.Common.{◌≡◌, ℕ, ◌+◌, ◌*◌, ◌<◌, ◌≤◌, ◌||◌, ◌==◌, Bool, true, false, cond, not, List, [], ◌∷◌, ◌++◌, filter, length, take, drop, map, is_some, IsSome, IsNone, IfSome, Option, Some, None, refl, sym, ap, subst, ◌∙◌, arith, append-nil, length-append}
use Rattle.std.specs.List.{AllByRecursion, IsDistinct, list_any}
use Rattle.std.specs.Map.{keys_of, lookup, remove_entry, set_value}
use Rattle.std.specs.Option.{option_map, option_map_or}
use Rattle.std.specs.HashMap.{HashMap}
use Rattle.std.proofs.lemmas.Bool.{eqb-true, false≢true}
use Rattle.std.proofs.lemmas.List.{map-append, take-append-le}
use Rattle.std.proofs.lemmas.Map.{keys-set_value, length-set_value, lookup-set_value, lookup-remove_entry}
use Rattle.std.proofs.lemmas.Map.Entries.{lookup-filter-keys, length-keys_of}
use Rattle.std.proofs.lemmas.Map.Keys.{IsDistinct-head, IsDistinct-tail, IsDistinct-cons, IsDistinct-push}
use Rattle.std.proofs.lemmas.Map.Lookups.{hash_map_len_from_get}
use Rattle.std.proofs.lemmas.Map.Made.{is_some-lookup, lookup-map_values, keys_of-map_values, IsDistinct-keys_filter}
use Rattle.std.proofs.lemmas.Map.Steps.{set_value_same}
use Rattle.indexmap.specs.Layout.{hash_map}
use Rattle.page_cache.specs.declared.dirty_page.DirtyPage.{DirtyPage}
use Rattle.page_cache.specs.declared.place.Place.{Place}
use Rattle.page_cache.specs.declared.place.Placed.{Placed}
use Rattle.page_cache.specs.Queue.{page_placed, pages_by_place, ArePlacesBelow, IsChangedAt, IsOrdered, IsQueue}
use Rattle.page_cache.specs.PageLaws.{is_page_same}
use Rattle.page_cache.specs.Pages.{is_page, is_cut, cut_list, cut_count}
use Rattle.page_cache.proofs.Lists.{last_found, set_absent}
use Rattle.page_cache.proofs.Names.{is_page_laws, is_page_test}
use Rattle.page_cache.proofs.Order.{ByName, order_without, order_set, order_added, order_trimmed, order_swept, order_last, order_cut, left_place}

abbrev page_in : Placed → DirtyPage
page_in placed = placed.page

mapped : (t : Bool) (v o : Option Placed) (w r : Option DirtyPage) → w ≡ option_map page_in v → r ≡ option_map page_in o → cond t w r ≡ option_map page_in (cond t v o)
mapped true v o w r h k = h
mapped false v o w r h k = k

all_removed : {V : Type 0} (P : ℕ × ℕ → Type 0) (test : ℕ × ℕ → Bool) (es : List ((ℕ × ℕ) × V)) → AllByRecursion P (keys_of es) → AllByRecursion P (keys_of (remove_entry test es))
all_removed P test [] all = all
all_removed P test (e ∷ es) all =
    let rest = all_removed P test es all.1 in
    elim (test e.0) as (λ b. AllByRecursion P (keys_of (cond b es (e ∷ remove_entry test es)))) [
      | true ↦ all.1
      | false ↦ (all.0, rest)
    ]

once_removed : {V : Type 0} (test : ℕ × ℕ → Bool) (es : List ((ℕ × ℕ) × V)) → IsDistinct is_page (keys_of es) → IsDistinct is_page (keys_of (remove_entry test es))
once_removed test [] once = once
once_removed test (e ∷ es) once =
    let head = IsDistinct-head is_page e.0 (keys_of es) once in
    let tail = IsDistinct-tail is_page e.0 (keys_of es) once in
    let rest = once_removed test es tail in
    elim (test e.0) as (λ b. IsDistinct is_page (keys_of (cond b es (e ∷ remove_entry test es)))) [
      | true ↦ tail
      | false ↦ IsDistinct-cons is_page e.0 (keys_of (remove_entry test es)) (all_removed (λ k. is_page e.0 k ≡ false) test es head) rest
    ]

below_filtered : (next : ℕ) (p : Place → Bool) (places : List Place) → ArePlacesBelow next places → ArePlacesBelow next (filter p places)
below_filtered next p [] all = all
below_filtered next p (x ∷ xs) all =
    let rest = below_filtered next p xs all.1 in
    elim (p x) as (λ b. ArePlacesBelow next (cond b (x ∷ filter p xs) (filter p xs))) [
      | true ↦ (all.0, rest)
      | false ↦ rest
    ]

below_pushed : (next : ℕ) (places : List Place) (p : Place) → ArePlacesBelow next places → p.number ≡ next → ArePlacesBelow (next + 1) (places ++ p ∷ [])
below_pushed next [] p all is = (omega (arith, is), tt)
below_pushed next (x ∷ xs) p all is = (omega (arith, all.0), below_pushed next xs p all.1 is)

below_front : (next : ℕ) (places more : List Place) → ArePlacesBelow next (places ++ more) → ArePlacesBelow next places
below_front next [] more all = tt
below_front next (x ∷ xs) more all = (all.0, below_front next xs more all.1)

-- what a look-up finds behind a list where it finds nothing
found_pushed : {V : Type 0} (q name : ℕ × ℕ) (es : List ((ℕ × ℕ) × V)) (v : V) → lookup (is_page name) es ≡ None → lookup (is_page q) (es ++ (name, v) ∷ []) ≡ cond (is_page name q) (Some v) (lookup (is_page q) es)
found_pushed {V} q name es v none = (elim (is_page name q) as (λ b. is_page name q ≡ b → lookup (is_page q) (es ++ (name, v) ∷ []) ≡ cond b (Some v) (lookup (is_page q) es)) [
  | true ↦ λ t. behind (is_page q) es (subst (λ n. lookup (is_page n) es ≡ None) (is_page_same name q t) none) ∙ ap (λ c. cond c (Some v) None) (is_page_laws.symm q name ∙ t)
  | false ↦ λ t. same (is_page q) (is_page_laws.symm q name ∙ t) es
]) refl
  where
    behind : (test : ℕ × ℕ → Bool) (es : List ((ℕ × ℕ) × V)) → lookup test es ≡ None → lookup test (es ++ (name, v) ∷ []) ≡ cond (test name) (Some v) None
    behind test [] h = refl
    behind test (e ∷ es) h = (elim (test e.0) as (λ b. test e.0 ≡ b → lookup test ((e ∷ es) ++ (name, v) ∷ []) ≡ cond (test name) (Some v) None) [
      | true ↦ λ t. let h' = rw t at h in absurd cc
      | false ↦ λ t. rw t (behind test es (rw t at h))
    ]) refl

    same : (test : ℕ × ℕ → Bool) → test name ≡ false → (es : List ((ℕ × ℕ) × V)) → lookup test (es ++ (name, v) ∷ []) ≡ lookup test es
    same test t [] = ap (λ c. cond c (Some v) None) t
    same test t (e ∷ es) = ap (λ o. cond (test e.0) (Some e.1) o) (same test t es)

pub none_of : {X : Type 0} (o : Option X) → is_some o ≡ false → o ≡ None
none_of None h = refl
none_of (Some x) h = absurd (false≢true (sym h))

none_mapped : (o : Option Placed) (r : Option DirtyPage) → r ≡ option_map page_in o → r ≡ None → o ≡ None
none_mapped None r is none = refl
none_mapped (Some x) r is none = absurd cc

-- what a cut leaves and what it takes is all
pub cut_counted : {V : Type 0} (es : List ((ℕ × ℕ) × V)) (ino from : ℕ) → length (cut_list es ino from) + cut_count es ino from ≡ length es
cut_counted [] ino from = refl
cut_counted {V} (e ∷ es) ino from = by (is_cut ino from e.0) (cut_counted es ino from)
  where
    by : (b : Bool) → length (cut_list es ino from) + cut_count es ino from ≡ length es
        → length (cond (not b) (e ∷ cut_list es ino from) (cut_list es ino from)) + length (cond b (e ∷ filter (λ f. is_cut ino from f.0) es) (filter (λ f. is_cut ino from f.0) es)) ≡ length (e ∷ es)
    by true rest = omega (arith, rest)
    by false rest = omega (arith, rest)

-- of a name whose page was taken out there is none
pub gone_now : (pages now : ByName) (name : ℕ × ℕ) → IsChangedAt name None pages now → IsNone (lookup (is_page name) now)
gone_now pages now name changes = ap is_some (changes name ∙ ap (λ b. cond b None (lookup (is_page name) pages)) (is_page_laws.refl name))

-- as many pages stand in the order as there are
pub as_many : (pages : ByName) (places : List Place) (next : ℕ) → IsOrdered pages places next → IsDistinct is_page (keys_of pages) → length pages ≡ length (pages_by_place pages places)
as_many pages places next queue unique =
    let left : HashMap (ℕ × ℕ) DirtyPage (Unit {0}) = hash_map (map (λ (e : (ℕ × ℕ) × Placed). (e.0, e.1.page)) pages) tt 0 in
    let right : HashMap (ℕ × ℕ) DirtyPage (Unit {0}) = hash_map (pages_by_place pages places) tt 0 in
    let apart = subst (IsDistinct is_page) (sym (keys_of-map_values page_in pages)) unique in
    let same = hash_map_len_from_get is_page_laws left right apart queue.once (λ q. lookup-map_values page_in (is_page q) pages ∙ sym (queue.placed q)) in
    sym (length-keys_of pages) ∙ (sym (ap length (keys_of-map_values page_in pages)) ∙ (length-keys_of (map (λ (e : (ℕ × ℕ) × Placed). (e.0, e.1.page)) pages) ∙ same))

-- where a cut takes none, all stay
pub cut_none : {V : Type 0} (es : List ((ℕ × ℕ) × V)) (ino from : ℕ) → list_any (λ e. is_cut ino from e.0) es ≡ false → cut_list es ino from ≡ es
cut_none [] ino from none = refl
cut_none {V} (e ∷ es) ino from none = by (is_cut ino from e.0) (cut_none es ino from) none
  where
    by : (b : Bool) → (list_any (λ e. is_cut ino from e.0) es ≡ false → cut_list es ino from ≡ es) → (b || list_any (λ e. is_cut ino from e.0) es) ≡ false
        → cond (not b) (e ∷ cut_list es ino from) (cut_list es ino from) ≡ e ∷ es
    by true rest none = absurd (false≢true (sym none))
    by false rest none = ap (λ l. e ∷ l) (rest none)

pub none_counted : {V : Type 0} (es : List ((ℕ × ℕ) × V)) (ino from : ℕ) → list_any (λ e. is_cut ino from e.0) es ≡ false → 0 ≡ cut_count es ino from
none_counted es ino from none = omega (arith, cut_counted es ino from, ap length (cut_none es ino from none))

-- where no place is cut, no page is
pub none_by_place : (pages : ByName) (places : List Place) (ino from : ℕ) → list_any (λ place. is_cut ino from place.name) places ≡ false → list_any (λ e. is_cut ino from e.0) (pages_by_place pages places) ≡ false
none_by_place pages [] ino from none = refl
none_by_place pages (p ∷ ps) ino from none = by (is_cut ino from p.name) refl (page_placed pages p) (none_by_place pages ps ino from) none
  where
    by : (b : Bool) → is_cut ino from p.name ≡ b → (o : Option DirtyPage)
        → (list_any (λ place. is_cut ino from place.name) ps ≡ false → list_any (λ e. is_cut ino from e.0) (pages_by_place pages ps) ≡ false)
        → (b || list_any (λ place. is_cut ino from place.name) ps) ≡ false
        → list_any (λ e. is_cut ino from e.0) (option_map_or (λ page. (p.name, page) ∷ pages_by_place pages ps) o (pages_by_place pages ps)) ≡ false
    by true is o rest none = absurd (false≢true (sym none))
    by false is None rest none = rest none
    by false is (Some page) rest none = rw is (rest none)

module _ (pages : ByName) (places : List Place) (next : ℕ) (queue : IsOrdered pages places next) where
  -- with places that give the same order
  pub queue_tidied : (fewer : List Place) → pages_by_place pages fewer ≡ pages_by_place pages places → ArePlacesBelow next fewer → IsOrdered pages fewer next
  queue_tidied fewer same below = record {
    placed = λ name. ap (lookup (is_page name)) same ∙ queue.placed name;
    once = subst (λ l. IsDistinct is_page (keys_of l)) (sym same) queue.once;
    below = below;
  }

  -- without a page
  pub queue_without : (name : ℕ × ℕ) (now : ByName) → IsChangedAt name None pages now → IsOrdered now places next
  queue_without name now changes =
      let order = order_without pages now name changes places queue.once in
      record {
        placed = λ q. ap (lookup (is_page q)) order
            ∙ (lookup-remove_entry is_page_laws (is_page name) (is_page_test name) q (pages_by_place pages places) queue.once
            ∙ (mapped (is_page name q) None (lookup (is_page q) pages) None (lookup (is_page q) (pages_by_place pages places)) refl (queue.placed q)
            ∙ ap (option_map page_in) (sym (changes q))));
        once = subst (λ l. IsDistinct is_page (keys_of l)) (sym order) (once_removed (is_page name) (pages_by_place pages places) queue.once);
        below = queue.below;
      }

  -- with another page at a place
  pub queue_set : (name : ℕ × ℕ) (placed : Placed) (page : DirtyPage) (now : ByName) → lookup (is_page name) pages ≡ Some placed
      → IsChangedAt name (Some (record { page = page; place = placed.place })) pages now → IsOrdered now places next
  queue_set name placed page now there changes =
      let order = order_set pages now name placed page there changes places queue.once in
      let found : IsSome (lookup (is_page name) (pages_by_place pages places)) = ap is_some (queue.placed name ∙ ap (option_map page_in) there) in
      record {
        placed = λ q. ap (lookup (is_page q)) order
            ∙ (lookup-set_value is_page_laws (is_page name) (is_page_test name) q page (pages_by_place pages places) found
            ∙ (mapped (is_page name q) (Some (record { page = page; place = placed.place })) (lookup (is_page q) pages) (Some page) (lookup (is_page q) (pages_by_place pages places)) refl (queue.placed q)
            ∙ ap (option_map page_in) (sym (changes q))));
        once = subst (λ l. IsDistinct is_page (keys_of l)) (sym order) (subst (IsDistinct is_page) (sym (keys-set_value (is_page name) (pages_by_place pages places) page)) queue.once);
        below = queue.below;
      }

  -- a page was set at its place, or is new and was given back
  pub set_or_back : (name : ℕ × ℕ) (page : DirtyPage) (now : ByName) (result : Option DirtyPage)
      → ((placed : Placed) → lookup (is_page name) pages ≡ Some placed → IsChangedAt name (Some (record { page = page; place = placed.place })) pages now)
      → is_some result ≡ not (is_some (lookup (is_page name) pages)) → IfSome result (λ back. (back ≡ page) × (now ≡ pages))
      → IsOrdered now places next × (pages_by_place now places ≡ set_value (is_page name) (pages_by_place pages places) page)
  set_or_back name page now result changes found back = by (lookup (is_page name) pages) refl result found back
    where
      by : (o : Option Placed) → lookup (is_page name) pages ≡ o → (r : Option DirtyPage) → is_some r ≡ not (is_some o) → IfSome r (λ back. (back ≡ page) × (now ≡ pages))
          → IsOrdered now places next × (pages_by_place now places ≡ set_value (is_page name) (pages_by_place pages places) page)
      by (Some placed) at r found back =
          (queue_set name placed page now at (changes placed at), order_set pages now name placed page at (changes placed at) places queue.once)
      by None at None found back = absurd (false≢true found)
      by None at (Some r) found back =
          let none : lookup (is_page name) (pages_by_place pages places) ≡ None = queue.placed name ∙ ap (option_map page_in) at in
          (subst (λ ps. IsOrdered ps places next) (sym back.1) queue, ap (λ ps. pages_by_place ps places) back.1 ∙ sym (set_absent (is_page name) (pages_by_place pages places) page none))

  -- a page was given other bytes, if it has this version
  module _ (name : ℕ × ℕ) (version : ℕ) (bytes : List ℕ) (now : ByName)
      (set : (placed : Placed) → lookup (is_page name) pages ≡ Some placed → placed.page.version ≡ version → IsChangedAt name (Some (record { page = record { bytes = bytes; version = version }; place = placed.place })) pages now)
      (kept : (placed : Placed) → lookup (is_page name) pages ≡ Some placed → (placed.page.version == version) ≡ false → IsChangedAt name (Some placed) pages now)
      (none : IsNone (lookup (is_page name) pages) → now ≡ pages) where
    abbrev new_page : DirtyPage
    new_page = record { bytes = bytes; version = version }

    abbrev order : List ((ℕ × ℕ) × DirtyPage)
    order = pages_by_place pages places

    abbrev is_at_version : Option DirtyPage → Bool
    is_at_version o = option_map_or (λ (page : DirtyPage). page.version == version) o false

    pub record Exchanged : Type 0 where
      pub ordered : IsOrdered now places next
      pub made : pages_by_place now places ≡ cond (is_at_version (lookup (is_page name) order)) (set_value (is_page name) order new_page) order
      pub long : length (pages_by_place now places) ≡ length order

    by_version : (placed : Placed) → lookup (is_page name) pages ≡ Some placed → (b : Bool) → (placed.page.version == version) ≡ b → Exchanged
    by_version placed at true t =
        let changes = set placed at (eqb-true placed.page.version version t) in
        let there : lookup (is_page name) order ≡ Some placed.page = queue.placed name ∙ ap (option_map page_in) at in
        let is = order_set pages now name placed new_page at changes places queue.once in
        record {
          ordered = queue_set name placed new_page now at changes;
          made = is ∙ sym (ap (λ o. cond (is_at_version o) (set_value (is_page name) order new_page) order) there ∙ ap (λ b. cond b (set_value (is_page name) order new_page) order) t);
          long = ap length is ∙ length-set_value (is_page name) order new_page;
        }
    by_version placed at false t =
        let changes = kept placed at t in
        let there : lookup (is_page name) order ≡ Some placed.page = queue.placed name ∙ ap (option_map page_in) at in
        let is = order_set pages now name placed placed.page at changes places queue.once ∙ set_value_same (is_page name) order placed.page there in
        record {
          ordered = queue_set name placed placed.page now at changes;
          made = is ∙ sym (ap (λ o. cond (is_at_version o) (set_value (is_page name) order new_page) order) there ∙ ap (λ b. cond b (set_value (is_page name) order new_page) order) t);
          long = ap length is;
        }

    by_name : (o : Option Placed) → lookup (is_page name) pages ≡ o → Exchanged
    by_name (Some placed) at = by_version placed at (placed.page.version == version) refl
    by_name None at =
        let same = none (ap is_some at) in
        let there : lookup (is_page name) order ≡ None = queue.placed name ∙ ap (option_map page_in) at in
        let is = ap (λ ps. pages_by_place ps places) same in
        record {
          ordered = subst (λ ps. IsOrdered ps places next) (sym same) queue;
          made = is ∙ sym (ap (λ o. cond (is_at_version o) (set_value (is_page name) order new_page) order) there);
          long = ap length is;
        }

    pub exchanged : Exchanged
    exchanged = by_name (lookup (is_page name) pages) refl

  -- with a new page at a new place
  module _ (place : Place) (page : DirtyPage) (now : ByName) (is : place.number ≡ next) (none : lookup (is_page place.name) (pages_by_place pages places) ≡ None)
      (changes : IsChangedAt place.name (Some (record { page = page; place = place.number })) pages now) where
    pub with_added : pages_by_place now (places ++ place ∷ []) ≡ pages_by_place pages places ++ (place.name, page) ∷ []
    with_added = order_added pages now place page (none_mapped (lookup (is_page place.name) pages) _ (queue.placed place.name) none) changes places (subst (λ n. ArePlacesBelow n places) (sym is) queue.below)

    pub queue_added : IsOrdered now (places ++ place ∷ []) (next + 1)
    queue_added = record {
      placed = λ q. ap (lookup (is_page q)) with_added
          ∙ (found_pushed q place.name (pages_by_place pages places) page none
          ∙ (mapped (is_page place.name q) (Some (record { page = page; place = place.number })) (lookup (is_page q) pages) (Some page) (lookup (is_page q) (pages_by_place pages places)) refl (queue.placed q)
          ∙ ap (option_map page_in) (sym (changes q))));
      once = subst (λ l. IsDistinct is_page (keys_of l)) (sym with_added)
          (subst (IsDistinct is_page) (sym (map-append (λ (e : (ℕ × ℕ) × DirtyPage). e.0) (pages_by_place pages places) ((place.name, page) ∷ [])))
          (IsDistinct-push is_page_laws (keys_of (pages_by_place pages places)) place.name queue.once (sym (is_some-lookup (is_page place.name) (pages_by_place pages places)) ∙ ap is_some none)));
      below = below_pushed next places place queue.below is;
    }

  -- after a cut
  module _ (ino from : ℕ) where
    cut_off : (q k : ℕ × ℕ) → is_page q k ≡ true → not (is_cut ino from k) ≡ not (is_cut ino from q)
    cut_off q k same = ap (λ n. not (is_cut ino from n)) (sym (is_page_same q k same))

    found_cut : {V : Type 0} (es : List ((ℕ × ℕ) × V)) (q : ℕ × ℕ) → lookup (is_page q) (cut_list es ino from) ≡ cond (not (is_cut ino from q)) (lookup (is_page q) es) None
    found_cut es q = lookup-filter-keys (is_page q) (λ k. not (is_cut ino from k)) (not (is_cut ino from q)) (cut_off q) es

    pub cut_by_place : pages_by_place (cut_list pages ino from) (filter (λ p. not (is_cut ino from p.name)) places) ≡ cut_list (pages_by_place pages places) ino from
    cut_by_place = order_cut pages (cut_list pages ino from) ino from (found_cut pages) places

    pub queue_cut : IsOrdered (cut_list pages ino from) (filter (λ p. not (is_cut ino from p.name)) places) next
    queue_cut = record {
      placed = λ q. ap (lookup (is_page q)) cut_by_place
          ∙ (found_cut (pages_by_place pages places) q
          ∙ (mapped (not (is_cut ino from q)) (lookup (is_page q) pages) None (lookup (is_page q) (pages_by_place pages places)) None (queue.placed q) refl
          ∙ ap (option_map page_in) (sym (found_cut pages q))));
      once = subst (λ l. IsDistinct is_page (keys_of l)) (sym cut_by_place) (IsDistinct-keys_filter is_page (λ e. not (is_cut ino from e.0)) (pages_by_place pages places) queue.once);
      below = below_filtered next (λ p. not (is_cut ino from p.name)) places queue.below;
    }

    -- the pages that a cut takes are as many as it takes of the order
    pub cut_many : IsDistinct is_page (keys_of pages) → length (cut_list pages ino from) + cut_count (pages_by_place pages places) ino from ≡ length pages
    cut_many unique =
        let before = as_many pages places next queue unique in
        let after = as_many (cut_list pages ino from) (filter (λ p. not (is_cut ino from p.name)) places) next queue_cut (IsDistinct-keys_filter is_page (λ e. not (is_cut ino from e.0)) pages unique) in
        omega (arith, before, after, ap length cut_by_place, cut_counted (pages_by_place pages places) ino from)

-- places that were taken away from the front, which changed nothing
pub record TrimmedSoFar (pages : ByName) (old places : List Place) : Type 0 where
  pub order : pages_by_place pages places ≡ pages_by_place pages old
  pub below : (next : ℕ) → ArePlacesBelow next old → ArePlacesBelow next places

pub trimmed_more : (pages : ByName) (old places new : List Place) → TrimmedSoFar pages old places → 0 < length places → new ≡ drop 1 places
    → ((first : Place) (rest : List Place) → places ≡ first ∷ rest → is_some (page_placed pages first) ≡ false) → TrimmedSoFar pages old new
trimmed_more pages old [] new so some is left = absurd (omega (arith, some))
trimmed_more pages old (p ∷ ps) new so some is left = record {
  order = ap (pages_by_place pages) is ∙ (sym (order_trimmed pages p ps (left p ps refl)) ∙ so.order);
  below = λ next all. subst (ArePlacesBelow next) (sym is) (so.below next all).1;
}

pub trimmed_shorter : (places new : List Place) → 0 < length places → new ≡ drop 1 places → length new < length places
trimmed_shorter [] new some is = absurd (omega (arith, some))
trimmed_shorter (p ∷ ps) new some is = omega (arith, ap length is)

-- so many places have a page as pages stand in the order
filled_many : (pages : ByName) (places : List Place) → length (filter (λ p. is_some (page_placed pages p)) places) ≡ length (pages_by_place pages places)
filled_many pages [] = refl
filled_many pages (p ∷ ps) = by (page_placed pages p) (filled_many pages ps)
  where
    by : (o : Option DirtyPage) → length (filter (λ q. is_some (page_placed pages q)) ps) ≡ length (pages_by_place pages ps)
        → length (cond (is_some o) (p ∷ filter (λ q. is_some (page_placed pages q)) ps) (filter (λ q. is_some (page_placed pages q)) ps))
        ≡ length (option_map_or (λ page. (p.name, page) ∷ pages_by_place pages ps) o (pages_by_place pages ps))
    by None rest = rest
    by (Some page) rest = omega (arith, rest)

-- once places that were left went
module _ (pages : ByName) (old trimmed : List Place) (so : TrimmedSoFar pages old trimmed) (next : ℕ) (was : IsOrdered pages old next) where
  ordered_trimmed : IsOrdered pages trimmed next
  ordered_trimmed = queue_tidied pages old next was trimmed so.order (so.below next was.below)

  -- they were few
  pub queue_trimmed : IsDistinct is_page (keys_of pages) → length trimmed ≤ 2 * length pages + 1 → IsQueue pages trimmed next
  queue_trimmed unique few = record {
    ordered = ordered_trimmed;
    few = omega (arith, few, as_many pages trimmed next ordered_trimmed unique);
  }

  -- all of them went
  pub queue_swept : (swept : List Place) → swept ≡ filter (λ p. is_some (page_placed pages p)) trimmed → IsQueue pages swept next
  queue_swept swept is =
      let same : pages_by_place pages swept ≡ pages_by_place pages trimmed = ap (pages_by_place pages) is ∙ order_swept pages trimmed in
      let below = subst (ArePlacesBelow next) (sym is) (below_filtered next (λ p. is_some (page_placed pages p)) trimmed ordered_trimmed.below) in
      record {
        ordered = queue_tidied pages trimmed next ordered_trimmed swept same below;
        few = omega (arith, ap length is, filled_many pages trimmed, ap length same);
      }

-- pages that were taken away from the end, none of the first
pub record KeptSoFar (old : List ((ℕ × ℕ) × DirtyPage)) (len : ℕ) (pages : ByName) (places : List Place) (next : ℕ) : Type 0 where
  pub ordered : IsOrdered pages places next
  pub front : take len (pages_by_place pages places) ≡ take len old

module _ (old : List ((ℕ × ℕ) × DirtyPage)) (len : ℕ) (pages : ByName) (places fewer : List Place) (next : ℕ) (p : Place) (kept : KeptSoFar old len pages places next) (is : places ≡ fewer ++ p ∷ []) where
  at_end : pages_by_place pages places ≡ pages_by_place pages fewer ++ option_map_or (λ page. (p.name, page) ∷ []) (page_placed pages p) []
  at_end = ap (pages_by_place pages) is ∙ order_last pages fewer p

  below_fewer : ArePlacesBelow next fewer
  below_fewer = below_front next fewer (p ∷ []) (subst (ArePlacesBelow next) is kept.ordered.below)

  -- the last place was left
  pub kept_without_place : is_some (page_placed pages p) ≡ false → KeptSoFar old len pages fewer next
  kept_without_place left =
      let same : pages_by_place pages fewer ≡ pages_by_place pages places = sym (at_end ∙ (ap (λ o. pages_by_place pages fewer ++ option_map_or (λ page. (p.name, page) ∷ []) o []) (none_of (page_placed pages p) left) ∙ append-nil (pages_by_place pages fewer))) in
      record {
        ordered = queue_tidied pages places next kept.ordered fewer same below_fewer;
        front = ap (take len) same ∙ kept.front;
      }

  -- the page at the last place was taken out
  pub kept_without_page : is_some (page_placed pages p) ≡ true → (now : ByName) → IsChangedAt p.name None pages now → IsDistinct is_page (keys_of pages) → len < length pages → KeptSoFar old len now fewer next
  kept_without_page there now changes unique more = by (page_placed pages p) refl there
    where
      by : (o : Option DirtyPage) → page_placed pages p ≡ o → is_some o ≡ true → KeptSoFar old len now fewer next
      by None at some = absurd (false≢true some)
      by (Some page) at some =
          let front = pages_by_place pages fewer in
          let end : pages_by_place pages places ≡ front ++ (p.name, page) ∷ [] = at_end ∙ ap (λ o. front ++ option_map_or (λ page. (p.name, page) ∷ []) o []) at in
          let without : pages_by_place now places ≡ remove_entry (is_page p.name) (pages_by_place pages places) = order_without pages now p.name changes places kept.ordered.once in
          let last = last_found is_page is_page_laws front (p.name, page) (subst (λ l. IsDistinct is_page (keys_of l)) end kept.ordered.once) in
          let gone : page_placed now p ≡ None = left_place pages now p changes in
          let shorter : pages_by_place now places ≡ pages_by_place now fewer = ap (pages_by_place now) is ∙ (order_last now fewer p ∙ (ap (λ o. pages_by_place now fewer ++ option_map_or (λ page. (p.name, page) ∷ []) o []) gone ∙ append-nil (pages_by_place now fewer))) in
          let order : pages_by_place now fewer ≡ front = sym shorter ∙ (without ∙ (ap (remove_entry (is_page p.name)) end ∙ last.1)) in
          let long : len ≤ length front = omega (arith, more, as_many pages places next kept.ordered unique, ap length end, length-append front ((p.name, page) ∷ [])) in
          record {
            ordered = queue_tidied now places next (queue_without pages places next kept.ordered p.name now changes) fewer (sym shorter) below_fewer;
            front = ap (take len) order ∙ (sym (take-append-le len front ((p.name, page) ∷ []) long) ∙ (ap (take len) (sym end) ∙ kept.front));
          }
