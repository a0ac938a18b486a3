-- The versions of dirty pages are counted.
use Rattle.std.proofs.Common.{ℕ, ◌≤◌, Bool, true, false, cond, not, List, [], ◌∷◌, ◌++◌, is_some, Some, ◌≡◌, arith}
use Rattle.std.specs.Prelude.{All, filter, ◌==◌}
use Rattle.std.specs.Option.{option_map_or}
use Rattle.std.specs.Map.{values_of, lookup, remove_entry, set_value}
use Rattle.std.proofs.lemmas.Bool.{eqb-true, false≢true}
use Rattle.std.proofs.lemmas.List.Elements.{All-nil, All-cons, All-head, All-tail, All-weaker}
use Rattle.std.proofs.lemmas.Map.Views.{All-values-set_value, All-map-remove_entry}
use Rattle.page_cache.specs.declared.dirty_page.DirtyPage.{DirtyPage}
use Rattle.page_cache.specs.Pages.{is_page, is_cut, put_last, cut_list, AreCounted}

module _ (P : DirtyPage → Type 0) where
  all_added : (es : List ((ℕ × ℕ) × DirtyPage)) (e : (ℕ × ℕ) × DirtyPage) → All P (values_of es) → P e.1 → All P (values_of (es ++ e ∷ []))
  all_added [] e all one = All-cons P e.1 [] one (All-nil P)
  all_added (f ∷ es) e all one = All-cons P f.1 (values_of (es ++ e ∷ [])) (All-head P f.1 (values_of es) all) (all_added es e (All-tail P f.1 (values_of es) all) one)

  all_filtered : (p : (ℕ × ℕ) × DirtyPage → Bool) (es : List ((ℕ × ℕ) × DirtyPage)) → All P (values_of es) → All P (values_of (filter p es))
  all_filtered p [] all = all
  all_filtered p (e ∷ es) all =
      let rest = all_filtered p es (All-tail P e.1 (values_of es) all) in
      elim (p e) as (λ b. All P (values_of (cond b (e ∷ filter p es) (filter p es)))) [
        | true ↦ All-cons P e.1 (values_of (filter p es)) (All-head P e.1 (values_of es) all) rest
        | false ↦ rest
      ]

-- the version of a page is one of those that are counted
version_counted : (es : List ((ℕ × ℕ) × DirtyPage)) (calls : ℕ) (name : ℕ × ℕ) (version : ℕ) → AreCounted calls es
    → option_map_or (λ (page : DirtyPage). page.version == version) (lookup (is_page name) es) false ≡ true → version ≤ calls
version_counted [] calls name version all is = absurd (false≢true is)
version_counted (e ∷ es) calls name version all is =
    let P : DirtyPage → Type 0 = λ page. page.version ≤ calls in
    by (is_page name e.0) (version_counted es calls name version (All-tail P e.1 (values_of es) all)) (All-head P e.1 (values_of es) all) is
  where
    by : (b : Bool) → (option_map_or (λ (page : DirtyPage). page.version == version) (lookup (is_page name) es) false ≡ true → version ≤ calls) → e.1.version ≤ calls
        → option_map_or (λ (page : DirtyPage). page.version == version) (cond b (Some e.1) (lookup (is_page name) es)) false ≡ true → version ≤ calls
    by true rest one is = omega (arith, one, eqb-true e.1.version version is)
    by false rest one is = rest is

module _ (dirty : List ((ℕ × ℕ) × DirtyPage)) (calls : ℕ) (all : AreCounted calls dirty) where
  -- after a page was put as dirty
  pub counted_dirty : (name : ℕ × ℕ) (page : DirtyPage) (more : ℕ) → calls ≤ more → page.version ≤ more → AreCounted more (put_last dirty name page)
  counted_dirty name page more grows one =
      let P : DirtyPage → Type 0 = λ q. q.version ≤ more in
      let was : All P (values_of dirty) = All-weaker (λ (q : DirtyPage). q.version ≤ calls) P (λ q h. omega (arith, h, grows)) (values_of dirty) all in
      elim (is_some (lookup (is_page name) dirty)) as (λ b. All P (values_of (cond b (set_value (is_page name) dirty page) (dirty ++ (name, page) ∷ [])))) [
        | true ↦ All-values-set_value (is_page name) P dirty page was one
        | false ↦ all_added P dirty (name, page) was one
      ]

  -- after a page was given other bytes
  pub counted_exchanged : (name : ℕ × ℕ) (page : DirtyPage) → option_map_or (λ (old : DirtyPage). old.version == page.version) (lookup (is_page name) dirty) false ≡ true
      → AreCounted calls (set_value (is_page name) dirty page)
  counted_exchanged name page is = All-values-set_value (is_page name) (λ (q : DirtyPage). q.version ≤ calls) dirty page all (version_counted dirty calls name page.version all is)

  -- after a page is dirty no longer
  pub counted_without : (name : ℕ × ℕ) → AreCounted calls (remove_entry (is_page name) dirty)
  counted_without name = All-map-remove_entry (is_page name) (λ e. e.1) (λ page. page.version ≤ calls) dirty all

  -- after a cut
  pub counted_cut : (ino from : ℕ) → AreCounted calls (cut_list dirty ino from)
  counted_cut ino from = all_filtered (λ page. page.version ≤ calls) (λ e. not (is_cut ino from e.0)) dirty all
