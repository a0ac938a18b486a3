-- The dirty pages and the clean ones: none is in both lists.
use Rattle.std.proofs.Common.{◌≡◌, ℕ, zero, suc, ◌-◌, Bool, true, false, cond, not, List, [], ◌∷◌, ◌++◌, take, is_some, IsSome, IsNone, Option, Some, None, refl, sym, ap, subst, ◌∙◌}
use Rattle.std.specs.Prelude.{filter}
use Rattle.std.specs.List.{IsDistinct, list_any}
use Rattle.std.specs.Option.{option_map_or}
use Rattle.std.specs.Map.{keys_of, lookup, lookup_entry, remove_entry, set_value}
use Rattle.std.proofs.lemmas.Bool.{false≢true}
use Rattle.std.proofs.lemmas.Map.{keys-set_value, lookup-remove_entry}
use Rattle.std.proofs.lemmas.Map.Made.{is_some-lookup}
use Rattle.lru.specs.LruCache.{lru_cache, promoted, put_entries}
use Rattle.page_cache.specs.declared.dirty_page.DirtyPage.{DirtyPage}
use Rattle.page_cache.specs.Pages.{is_page, is_cut, put_last, cut_list, AreApart}
use Rattle.page_cache.specs.PageLaws.{is_page_same}
use Rattle.page_cache.proofs.Names.{is_page_laws, is_page_test}

-- what is true now was true before, if what was false before is false now
pub before_now : (before now : Bool) → (before ≡ false → now ≡ false) → now ≡ true → before ≡ true
before_now true now h is = refl
before_now false now h is = absurd (false≢true (sym (h refl) ∙ is))

pub was_there : (b : Bool) → false ≡ not b → b ≡ true
was_there true h = refl
was_there false h = h

module _ {K V : Type 0} (q : K → Bool) where
  head_tail : (e : K × V) (es : List (K × V)) → IsNone (lookup q (e ∷ es)) → (q e.0 ≡ false) × IsNone (lookup q es)
  head_tail e es h = (elim (q e.0) as (λ b. q e.0 ≡ b → (q e.0 ≡ false) × IsNone (lookup q es)) [
    | true ↦ λ t. absurd (false≢true (sym (rw t at h)))
    | false ↦ λ t. (t, rw t at h)
  ]) refl

  put_head : (e : K × V) (es : List (K × V)) → q e.0 ≡ false → IsNone (lookup q es) → IsNone (lookup q (e ∷ es))
  put_head e es t h = rw t h

  -- what isn't found isn't found without an entry
  pub absent_without : (test : K → Bool) (es : List (K × V)) → IsNone (lookup q es) → IsNone (lookup q (remove_entry test es))
  absent_without test [] h = h
  absent_without test (e ∷ es) h =
      let r = head_tail e es h in
      elim (test e.0) as (λ b. IsNone (lookup q (cond b es (e ∷ remove_entry test es)))) [
        | true ↦ r.1
        | false ↦ put_head e (remove_entry test es) r.0 (absent_without test es r.1)
      ]

  -- nor among some of the entries
  pub absent_filtered : (p : K × V → Bool) (es : List (K × V)) → IsNone (lookup q es) → IsNone (lookup q (filter p es))
  absent_filtered p [] h = h
  absent_filtered p (e ∷ es) h =
      let r = head_tail e es h in
      elim (p e) as (λ b. IsNone (lookup q (cond b (e ∷ filter p es) (filter p es)))) [
        | true ↦ put_head e (filter p es) r.0 (absent_filtered p es r.1)
        | false ↦ absent_filtered p es r.1
      ]

  pub absent_front : (n : ℕ) (es : List (K × V)) → IsNone (lookup q es) → IsNone (lookup q (take n es))
  absent_front zero es h = refl
  absent_front (suc n) [] h = h
  absent_front (suc n) (e ∷ es) h = let r = head_tail e es h in put_head e (take n es) r.0 (absent_front n es r.1)

  -- nor where another one is added
  absent_added : (es : List (K × V)) (e : K × V) → q e.0 ≡ false → IsNone (lookup q es) → IsNone (lookup q (es ++ e ∷ []))
  absent_added [] e t h = put_head e [] t refl
  absent_added (f ∷ es) e t h = let r = head_tail f es h in put_head f (es ++ e ∷ []) r.0 (absent_added es e t r.1)

  absent_set : (test : K → Bool) (es : List (K × V)) (w : V) → IsNone (lookup q es) → IsNone (lookup q (set_value test es w))
  absent_set test es w h = is_some-lookup q (set_value test es w) ∙ (ap (list_any q) (keys-set_value test es w) ∙ (sym (is_some-lookup q es) ∙ h))

  -- an entry that is there isn't the one that is absent
  other_key : (test : K → Bool) (es : List (K × V)) (e : K × V) → lookup_entry test es ≡ Some e → IsNone (lookup q es) → q e.0 ≡ false
  other_key test [] e is h = absurd cc
  other_key test (f ∷ es) e is h =
      let r = head_tail f es h in
      (elim (test f.0) as (λ b. test f.0 ≡ b → q e.0 ≡ false) [
        | true ↦ λ t. let is' = rw t at is in let same : f ≡ e = cc in subst (λ g. q g.0 ≡ false) same r.0
        | false ↦ λ t. other_key test es e (rw t at is) r.1
      ]) refl

  moved : (test : K → Bool) (es : List (K × V)) (o : Option (K × V)) → lookup_entry test es ≡ o → IsNone (lookup q es) → IsNone (lookup q (option_map_or (λ e. e ∷ remove_entry test es) o es))
  moved test es None is h = h
  moved test es (Some e) is h = put_head e (remove_entry test es) (other_key test es e is h) (absent_without test es h)

  -- nor where one was moved to the front
  pub absent_promoted : (test : K → Bool) (es : List (K × V)) → IsNone (lookup q es) → IsNone (lookup q (promoted test es))
  absent_promoted test es h = moved test es (lookup_entry test es) refl h

  placed : (test : K → Bool) (es : List (K × V)) (n : ℕ) (k : K) (v : V) (o : Option (K × V)) → lookup_entry test es ≡ o → q k ≡ false → IsNone (lookup q es)
      → IsNone (lookup q (option_map_or (λ e. (e.0, v) ∷ remove_entry test es) o ((k, v) ∷ take n es)))
  placed test es n k v None is t h = put_head (k, v) (take n es) t (absent_front n es h)
  placed test es n k v (Some e) is t h = put_head (e.0, v) (remove_entry test es) (other_key test es e is h) (absent_without test es h)

-- nothing is taken out where there is no such page
pub removed_absent : {K V : Type 0} (test : K → Bool) (es : List (K × V)) → IsNone (lookup test es) → remove_entry test es ≡ es
removed_absent test [] h = refl
removed_absent test (e ∷ es) h = let r = head_tail test e es h in rw r.0 (ap (λ l. e ∷ l) (removed_absent test es r.1))

-- a page that was taken out isn't there
pub absent_removed : {V : Type 0} (name : ℕ × ℕ) (es : List ((ℕ × ℕ) × V)) → IsDistinct is_page (keys_of es) → IsNone (lookup (is_page name) (remove_entry (is_page name) es))
absent_removed name es once =
    ap is_some (lookup-remove_entry is_page_laws (is_page name) (is_page_test name) name es once)
    ∙ ap (λ b. is_some (cond b None (lookup (is_page name) es))) (is_page_laws.refl name)

module _ (dirty : List ((ℕ × ℕ) × DirtyPage)) (clean : List ((ℕ × ℕ) × List ℕ)) (apart : AreApart dirty clean) where
  -- a page stays what it was where only another one was changed
  put_other : (q name : ℕ × ℕ) (page : DirtyPage) → is_page q name ≡ false → IsNone (lookup (is_page q) dirty) → IsNone (lookup (is_page q) (put_last dirty name page))
  put_other q name page t h =
      elim (is_some (lookup (is_page name) dirty)) as (λ b. IsNone (lookup (is_page q) (cond b (set_value (is_page name) dirty page) (dirty ++ (name, page) ∷ [])))) [
        | true ↦ absent_set (is_page q) (is_page name) dirty page h
        | false ↦ absent_added (is_page q) dirty (name, page) t h
      ]

  -- after a page was put as dirty
  pub apart_dirty : (name : ℕ × ℕ) (page : DirtyPage) (rest : List ((ℕ × ℕ) × List ℕ)) → rest ≡ remove_entry (is_page name) clean
      → IsNone (lookup (is_page name) rest) → AreApart (put_last dirty name page) rest
  apart_dirty name page rest left gone ino block is =
      let q : ℕ × ℕ = (ino, block) in
      (elim (is_page q name) as (λ b. is_page q name ≡ b → IsNone (lookup (is_page q) rest)) [
        | true ↦ λ t. subst (λ m. IsNone (lookup (is_page m) rest)) (sym (is_page_same q name t)) gone
        | false ↦ λ t.
            let was = before_now (is_some (lookup (is_page q) dirty)) (is_some (lookup (is_page q) (put_last dirty name page))) (put_other q name page t) is in
            subst (λ es. IsNone (lookup (is_page q) es)) (sym left) (absent_without (is_page q) (is_page name) clean (apart ino block was))
      ]) refl

  -- after a page that isn't dirty was put as clean
  pub apart_clean : (name : ℕ × ℕ) (most : ℕ) (bytes : List ℕ) → IsNone (lookup (is_page name) dirty) → AreApart dirty (put_entries is_page (lru_cache clean most) name bytes)
  apart_clean name most bytes none ino block is =
      let q : ℕ × ℕ = (ino, block) in
      (elim (is_page q name) as (λ b. is_page q name ≡ b → IsNone (lookup (is_page q) (put_entries is_page (lru_cache clean most) name bytes))) [
        | true ↦ λ t. absurd (false≢true (sym none ∙ subst (λ m. IsSome (lookup (is_page m) dirty)) (is_page_same q name t) is))
        | false ↦ λ t. placed (is_page q) (is_page name) clean (most - 1) name bytes (lookup_entry (is_page name) clean) refl t (apart ino block is)
      ]) refl

  -- after a clean page was used
  pub apart_used : (name : ℕ × ℕ) → AreApart dirty (promoted (is_page name) clean)
  apart_used name ino block is = absent_promoted (is_page (ino, block)) (is_page name) clean (apart ino block is)

  -- after a page was given another value
  pub apart_set : (name : ℕ × ℕ) (page : DirtyPage) → AreApart (set_value (is_page name) dirty page) clean
  apart_set name page ino block is =
      let q : ℕ × ℕ = (ino, block) in
      apart ino block (before_now (is_some (lookup (is_page q) dirty)) (is_some (lookup (is_page q) (set_value (is_page name) dirty page))) (absent_set (is_page q) (is_page name) dirty page) is)

  -- after a page is dirty no longer
  pub apart_without : (name : ℕ × ℕ) → AreApart (remove_entry (is_page name) dirty) clean
  apart_without name ino block is =
      apart ino block (before_now (is_some (lookup (is_page (ino, block)) dirty)) (is_some (lookup (is_page (ino, block)) (remove_entry (is_page name) dirty))) (absent_without (is_page (ino, block)) (is_page name) dirty) is)

  -- after a cut of both
  pub apart_cut : (ino from : ℕ) → AreApart (cut_list dirty ino from) (cut_list clean ino from)
  apart_cut of from ino block is =
      let q : ℕ × ℕ = (ino, block) in
      absent_filtered (is_page q) (λ e. not (is_cut of from e.0)) clean
      (apart ino block (before_now (is_some (lookup (is_page q) dirty)) (is_some (lookup (is_page q) (cut_list dirty of from))) (absent_filtered (is_page q) (λ e. not (is_cut of from e.0)) dirty) is))
