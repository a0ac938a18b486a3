-- What is read of a page: where it is dirty, and where a clean one was used last.
use Rattle.std.proofs.Common.{◌≡◌, ℕ, Bool, true, false, cond, List, [], ◌∷◌, slice_get, is_some, Option, Some, None, refl, sym, ◌∙◌}
use Rattle.std.specs.Option.{option_map, option_map_or}
use Rattle.std.specs.Map.{lookup, lookup_entry, remove_entry}
use Rattle.std.proofs.lemmas.Bool.{false≢true}
use Rattle.lru.specs.LruCache.{promoted}
use Rattle.page_cache.specs.declared.dirty_page.DirtyPage.{DirtyPage}
use Rattle.page_cache.proofs.Lists.{found_promoted, value_of}

no_value : {X : Type 0} (o : Option X) → is_some o ≡ false → o ≡ None
no_value None h = refl
no_value (Some x) h = absurd (false≢true (sym h))

-- what is read of a dirty page
pub read_dirty : (dirty : Option DirtyPage) (clean : Option (List ℕ)) → is_some dirty ≡ true
    → option_map_or (λ (page : DirtyPage). Some page.bytes) dirty clean ≡ option_map (λ (page : DirtyPage). page.bytes) dirty
read_dirty (Some page) clean is = refl
read_dirty None clean is = absurd (false≢true is)

module _ {K V : Type 0} (test : K → Bool) where
  no_entry : (es : List (K × V)) → lookup_entry test es ≡ None → is_some (lookup test es) ≡ false
  no_entry [] h = refl
  no_entry (e ∷ es) h = (elim (test e.0) as (λ b. test e.0 ≡ b → is_some (lookup test (e ∷ es)) ≡ false) [
    | true ↦ λ t. let h' = rw t at h in absurd cc
    | false ↦ λ t. rw t (no_entry es (rw t at h))
  ]) refl

  by_entry : (es : List (K × V)) (o : Option (K × V)) → lookup_entry test es ≡ o → is_some (lookup test es) ≡ true
      → lookup test (option_map_or (λ e. e ∷ remove_entry test es) o es) ≡ option_map (λ (e : K × V). e.1) (slice_get (option_map_or (λ e. e ∷ remove_entry test es) o es) 0)
  by_entry es None none is = absurd (false≢true (sym (no_entry es none) ∙ is))
  by_entry es (Some e) found is = rw (value_of test es e found).0 refl

-- what is read of a page that isn't dirty: a clean one that was used is the first
pub read_clean : {K : Type 0} (test : K → Bool) (es : List (K × List ℕ)) (dirty : Option DirtyPage) → is_some dirty ≡ false
    → option_map_or (λ (page : DirtyPage). Some page.bytes) dirty (lookup test (promoted test es))
    ≡ cond (is_some (lookup test es)) (option_map (λ (e : K × List ℕ). e.1) (slice_get (promoted test es) 0)) (option_map (λ (page : DirtyPage). page.bytes) dirty)
read_clean test es (Some page) none = absurd (false≢true (sym none))
read_clean {K} test es None none = by (is_some (lookup test es)) refl
  where
    by : (b : Bool) → is_some (lookup test es) ≡ b → lookup test (promoted test es) ≡ cond b (option_map (λ (e : K × List ℕ). e.1) (slice_get (promoted test es) 0)) None
    by true is = by_entry test es (lookup_entry test es) refl is
    by false is = found_promoted test es ∙ no_value (lookup test es) is
