-- How many pages are dirty, and which files have some, once pages were put.
use Rattle.std.proofs.Common.{◌≡◌, ℕ, zero, suc, ◌+◌, ◌≤◌, ◌⊎◌, inl, inr, Bool, true, false, cond, not, List, [], ◌∷◌, ◌++◌, length, length-append, map, is_some, Some, refl, sym, ap, subst, ◌∙◌, arith}
use Rattle.std.specs.Prelude.{◌==◌, ◌||◌, filter}
use Rattle.std.specs.List.{list_any, range_with_len}
use Rattle.std.specs.Map.{lookup, set_value}
use Rattle.std.proofs.lemmas.Bool.{false≢true}
use Rattle.std.proofs.lemmas.Bool.Decides.{eqb_tells}
use Rattle.std.proofs.lemmas.Map.{keys-set_value}
use Rattle.std.proofs.lemmas.Map.Made.{is_some-lookup}
use Rattle.page_cache.specs.declared.dirty_page.DirtyPage.{DirtyPage}
use Rattle.page_cache.specs.Pages.{Pages, is_page, dirty_at, put_last, with_dirty, with_all_dirty, new_pages, old_pages}
use Rattle.buffered_files.specs.Present.{DirtyPages, has_dirty}
use Rattle.buffered_files.proofs.Covers.{page_cases}
use Rattle.buffered_files.proofs.Overlays.{numbered, filter_numbered}

length_set : (dirty : DirtyPages) (test : ℕ × ℕ → Bool) (page : DirtyPage) → length (set_value test dirty page) ≡ length dirty
length_set [] test page = refl
length_set (e ∷ dirty) test page = by (test e.0) (length_set dirty test page)
  where
    by : (b : Bool) → length (set_value test dirty page) ≡ length dirty → length (cond b ((e.0, page) ∷ dirty) (e ∷ set_value test dirty page)) ≡ length (e ∷ dirty)
    by true more = refl
    by false more = ap suc more

-- a page that is put is one more where it wasn't dirty
put_counts : (dirty : DirtyPages) (k : ℕ × ℕ) (page : DirtyPage) (b : Bool) → is_some (lookup (is_page k) dirty) ≡ b → length (put_last dirty k page) ≡ cond b 0 1 + length dirty
put_counts dirty k page true e = rw e (length_set dirty (is_page k) page ∙ omega arith)
put_counts dirty k page false e = rw e (length-append dirty ((k, page) ∷ []) ∙ omega arith)

found_added : (dirty : DirtyPages) (q k : ℕ × ℕ) (page : DirtyPage) → is_page q k ≡ false → is_some (lookup (is_page q) (dirty ++ (k, page) ∷ [])) ≡ is_some (lookup (is_page q) dirty)
found_added [] q k page other = rw other refl
found_added (e ∷ dirty) q k page other = by (is_page q e.0) (found_added dirty q k page other)
  where
    by : (b : Bool) → is_some (lookup (is_page q) (dirty ++ (k, page) ∷ [])) ≡ is_some (lookup (is_page q) dirty)
        → is_some (cond b (Some e.1) (lookup (is_page q) (dirty ++ (k, page) ∷ []))) ≡ is_some (cond b (Some e.1) (lookup (is_page q) dirty))
    by true more = refl
    by false more = more

same_set : (dirty : DirtyPages) (q k : ℕ × ℕ) (page : DirtyPage) → is_some (lookup (is_page q) (set_value (is_page k) dirty page)) ≡ is_some (lookup (is_page q) dirty)
same_set dirty q k page = is_some-lookup (is_page q) (set_value (is_page k) dirty page) ∙ (ap (list_any (is_page q)) (keys-set_value (is_page k) dirty page) ∙ sym (is_some-lookup (is_page q) dirty))

-- a page of another name is dirty as before
put_other : (dirty : DirtyPages) (q k : ℕ × ℕ) (page : DirtyPage) → is_page q k ≡ false → is_some (lookup (is_page q) (put_last dirty k page)) ≡ is_some (lookup (is_page q) dirty)
put_other dirty q k page other = by (is_some (lookup (is_page k) dirty))
  where
    by : (b : Bool) → is_some (lookup (is_page q) (cond b (set_value (is_page k) dirty page) (dirty ++ (k, page) ∷ []))) ≡ is_some (lookup (is_page q) dirty)
    by true = same_set dirty q k page
    by false = found_added dirty q k page other

-- and one that is dirty stays so
found_more : (dirty : DirtyPages) (q : ℕ × ℕ) (e : (ℕ × ℕ) × DirtyPage) → is_some (lookup (is_page q) dirty) ≡ true → is_some (lookup (is_page q) (dirty ++ e ∷ [])) ≡ true
found_more [] q e h = absurd (false≢true h)
found_more (f ∷ dirty) q e h = by (is_page q f.0) (found_more dirty q e) h
  where
    by : (b : Bool) → (is_some (lookup (is_page q) dirty) ≡ true → is_some (lookup (is_page q) (dirty ++ e ∷ [])) ≡ true) → is_some (cond b (Some f.1) (lookup (is_page q) dirty)) ≡ true → is_some (cond b (Some f.1) (lookup (is_page q) (dirty ++ e ∷ []))) ≡ true
    by true more g = refl
    by false more g = more g

put_stays : (dirty : DirtyPages) (q k : ℕ × ℕ) (page : DirtyPage) → is_some (lookup (is_page q) dirty) ≡ true → is_some (lookup (is_page q) (put_last dirty k page)) ≡ true
put_stays dirty q k page h = by (is_some (lookup (is_page k) dirty))
  where
    by : (b : Bool) → is_some (lookup (is_page q) (cond b (set_value (is_page k) dirty page) (dirty ++ (k, page) ∷ []))) ≡ true
    by true = same_set dirty q k page ∙ h
    by false = found_more dirty q (k, page) h

apart_pages : (p q : ℕ × ℕ) → (p ≡ q → ⊥) → is_page p q ≡ false
apart_pages p q h = by (page_cases p q)
  where
    by : ((p ≡ q) × (is_page p q ≡ true)) ⊎ ((p ≡ q → ⊥) × (is_page p q ≡ false)) → is_page p q ≡ false
    by (inl s) = absurd (h s.0)
    by (inr o) = o.1

other_block : (ino a b : ℕ) → (a ≡ b → ⊥) → is_page (ino, a) (ino, b) ≡ false
other_block ino a b h = apart_pages (ino, a) (ino, b) (λ e. h (ap (λ (k : ℕ × ℕ). k.1) e))

module _ (ino : ℕ) (f : ℕ → List ℕ) (before : Pages) where
  abbrev is_old : ℕ → Bool
  is_old p = is_some (dirty_at before ino p)

  -- each of the new pages is one more
  new_count : (now : Pages) (first count : ℕ) → ((q : ℕ) → first ≤ q → is_some (dirty_at now ino q) ≡ is_old q)
      → length (with_all_dirty now ino (map (numbered ino f) (filter (λ p. not (is_old p)) (range_with_len first count)))).dirty ≡ length now.dirty + length (filter (λ p. not (is_old p)) (range_with_len first count))
  new_count now first zero alike = omega arith
  new_count now first (suc count) alike = by (is_old first) refl (λ next h. new_count next (first + 1) count h)
    where
      rest : List ℕ
      rest = filter (λ p. not (is_old p)) (range_with_len (first + 1) count)

      by : (b : Bool) → is_old first ≡ b
          → ((next : Pages) → ((q : ℕ) → first + 1 ≤ q → is_some (dirty_at next ino q) ≡ is_old q) → length (with_all_dirty next ino (map (numbered ino f) rest)).dirty ≡ length next.dirty + length rest)
          → length (with_all_dirty now ino (map (numbered ino f) (cond (not b) (first ∷ rest) rest))).dirty ≡ length now.dirty + length (cond (not b) (first ∷ rest) rest)
      by true e more = more now (λ q h. alike q (omega (arith, h)))
      by false e more =
          let page : DirtyPage = record { bytes = f first; version = (with_dirty now ino first (f first)).calls } in
          let one = put_counts now.dirty (ino, first) page false (alike first (omega arith) ∙ e) in
          let all = more (with_dirty now ino first (f first)) (λ q h. put_other now.dirty (ino, q) (ino, first) page (other_block ino q first (λ s. absurd (omega (arith, s, h)))) ∙ alike q (omega (arith, h))) in
          omega (arith, one, all)

  -- and of the others none
  old_count : (now : Pages) (ps : List ℕ) → ((q : ℕ) → is_old q ≡ true → is_some (dirty_at now ino q) ≡ true)
      → length (with_all_dirty now ino (map (numbered ino f) (filter is_old ps))).dirty ≡ length now.dirty
  old_count now [] alike = refl
  old_count now (p ∷ ps) alike = by (is_old p) refl (λ next h. old_count next ps h)
    where
      by : (b : Bool) → is_old p ≡ b
          → ((next : Pages) → ((q : ℕ) → is_old q ≡ true → is_some (dirty_at next ino q) ≡ true) → length (with_all_dirty next ino (map (numbered ino f) (filter is_old ps))).dirty ≡ length next.dirty)
          → length (with_all_dirty now ino (map (numbered ino f) (cond b (p ∷ filter is_old ps) (filter is_old ps)))).dirty ≡ length now.dirty
      by true e more =
          let page : DirtyPage = record { bytes = f p; version = (with_dirty now ino p (f p)).calls } in
          let one = put_counts now.dirty (ino, p) page true (alike p e) in
          more (with_dirty now ino p (f p)) (λ q h. put_stays now.dirty (ino, q) (ino, p) page (alike q h)) ∙ (one ∙ omega arith)
      by false e more = more now alike

  all_stay : (put : List (ℕ × List ℕ)) (now : Pages) → ((q : ℕ) → is_old q ≡ true → is_some (dirty_at now ino q) ≡ true) → (q : ℕ) → is_old q ≡ true → is_some (dirty_at (with_all_dirty now ino put) ino q) ≡ true
  all_stay [] now alike = alike
  all_stay (p ∷ put) now alike =
      let page : DirtyPage = record { bytes = p.1; version = (with_dirty now ino p.0 p.1).calls } in
      all_stay put (with_dirty now ino p.0 p.1) (λ q h. put_stays now.dirty (ino, q) (ino, p.0) page (alike q h))

  -- how many pages are dirty once numbered pages were put
  pub parts_count : (first count : ℕ)
      → length (with_all_dirty (with_all_dirty before ino (new_pages before ino (map (numbered ino f) (range_with_len first count)))) ino (old_pages before ino (map (numbered ino f) (range_with_len first count)))).dirty
      ≡ length before.dirty + length (filter (λ p. not (is_old p)) (range_with_len first count))
  parts_count first count =
      let ps = range_with_len first count in
      let new = new_pages before ino (map (numbered ino f) ps) in
      ap (λ l. length (with_all_dirty (with_all_dirty before ino new) ino l).dirty) (filter_numbered ino f is_old ps)
      ∙ old_count (with_all_dirty before ino new) ps (all_stay new before (λ q h. h))
      ∙ ap (λ l. length (with_all_dirty before ino l).dirty) (filter_numbered ino f (λ p. not (is_old p)) ps)
      ∙ new_count before first count (λ q h. refl)

has_of : (dirty : DirtyPages) (k : ℕ × ℕ) → is_some (lookup (is_page k) dirty) ≡ true → has_dirty dirty k.0 ≡ true
has_of [] k found = absurd (false≢true found)
has_of (e ∷ dirty) k found = by (page_cases k e.0) (has_of dirty k) (eqb_tells e.0.0 k.0)
  where
    by : ((k ≡ e.0) × (is_page k e.0 ≡ true)) ⊎ ((k ≡ e.0 → ⊥) × (is_page k e.0 ≡ false)) → (is_some (lookup (is_page k) dirty) ≡ true → has_dirty dirty k.0 ≡ true)
        → (((e.0.0 == k.0) ≡ true) × (e.0.0 ≡ k.0)) ⊎ (((e.0.0 == k.0) ≡ false) × (e.0.0 ≡ k.0 → ⊥)) → has_dirty (e ∷ dirty) k.0 ≡ true
    by p more (inl t) = rw t.0 refl
    by (inl same) more (inr t) = absurd (t.1 (ap (λ q. q.0) (sym same.0)))
    by (inr other) more (inr t) = rw t.0 (more (rw other.1 at found))

has_none_behind : (dirty : DirtyPages) (k : ℕ × ℕ) (page : DirtyPage) (i : ℕ) → has_dirty (dirty ++ (k, page) ∷ []) i ≡ false → (has_dirty dirty i ≡ false) × (k.0 ≡ i → ⊥)
has_none_behind [] k page i h = by (eqb_tells k.0 i)
  where
    by : (((k.0 == i) ≡ true) × (k.0 ≡ i)) ⊎ (((k.0 == i) ≡ false) × (k.0 ≡ i → ⊥)) → (has_dirty [] i ≡ false) × (k.0 ≡ i → ⊥)
    by (inl t) = absurd (false≢true (sym (rw t.0 at h)))
    by (inr t) = (refl, t.1)
has_none_behind (e ∷ dirty) k page i h = by (e.0.0 == i) (has_none_behind dirty k page i) h
  where
    by : (b : Bool) → (has_dirty (dirty ++ (k, page) ∷ []) i ≡ false → (has_dirty dirty i ≡ false) × (k.0 ≡ i → ⊥)) → (b || has_dirty (dirty ++ (k, page) ∷ []) i) ≡ false → ((b || has_dirty dirty i) ≡ false) × (k.0 ≡ i → ⊥)
    by true more g = absurd (false≢true (sym g))
    by false more g = more g

-- a file without a dirty page had none before, and none of its pages was put
pub has_none : (dirty : DirtyPages) (k : ℕ × ℕ) (page : DirtyPage) (i : ℕ) → has_dirty (put_last dirty k page) i ≡ false → (has_dirty dirty i ≡ false) × (k.0 ≡ i → ⊥)
has_none dirty k page i none = by (is_some (lookup (is_page k) dirty)) refl none
  where
    same_names : (es : DirtyPages) → has_dirty (set_value (is_page k) es page) i ≡ has_dirty es i
    same_names [] = refl
    same_names (e ∷ es) = one (is_page k e.0) (same_names es)
      where
        one : (b : Bool) → has_dirty (set_value (is_page k) es page) i ≡ has_dirty es i → has_dirty (cond b ((e.0, page) ∷ es) (e ∷ set_value (is_page k) es page)) i ≡ has_dirty (e ∷ es) i
        one true more = refl
        one false more = ap (λ b. (e.0.0 == i) || b) more

    by : (b : Bool) → is_some (lookup (is_page k) dirty) ≡ b → has_dirty (cond b (set_value (is_page k) dirty page) (dirty ++ (k, page) ∷ [])) i ≡ false → (has_dirty dirty i ≡ false) × (k.0 ≡ i → ⊥)
    by true e h = let none_there = sym (same_names dirty) ∙ h in (none_there, λ same. false≢true (sym none_there ∙ subst (λ j. has_dirty dirty j ≡ true) same (has_of dirty k e)))
    by false e h = has_none_behind dirty k page i h

-- nor where several pages of an inode were put
pub all_none : (put : List (ℕ × List ℕ)) (pages : Pages) (ino i : ℕ) → has_dirty (with_all_dirty pages ino put).dirty i ≡ false → (has_dirty pages.dirty i ≡ false) × (ino ≡ i → put ≡ [])
all_none [] pages ino i none = (none, λ same. refl)
all_none (p ∷ put) pages ino i none =
    let page : DirtyPage = record { bytes = p.1; version = (with_dirty pages ino p.0 p.1).calls } in
    let later = all_none put (with_dirty pages ino p.0 p.1) ino i none in
    let now = has_none pages.dirty (ino, p.0) page i later.0 in
    (now.0, λ same. absurd (now.1 same))

-- where there are numbered pages at all, some are put
pub some_put : (ino : ℕ) (f : ℕ → List ℕ) (pages : Pages) (p : ℕ) (ps : List ℕ) → new_pages pages ino (map (numbered ino f) (p ∷ ps)) ≡ [] → old_pages pages ino (map (numbered ino f) (p ∷ ps)) ≡ [] → ⊥
some_put ino f pages p ps new old = by (is_some (dirty_at pages ino p)) new old
  where
    by : (b : Bool) → cond (not b) ((p, f p) ∷ new_pages pages ino (map (numbered ino f) ps)) (new_pages pages ino (map (numbered ino f) ps)) ≡ [] → cond b ((p, f p) ∷ old_pages pages ino (map (numbered ino f) ps)) (old_pages pages ino (map (numbered ino f) ps)) ≡ [] → ⊥
    by true n o = absurd cc
    by false n o = absurd cc
