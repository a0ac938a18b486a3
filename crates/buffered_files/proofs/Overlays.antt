-- Pages that are put as dirty, and the blocks that callers then see.
use Rattle.std.proofs.Common.{◌≡◌, ℕ, zero, suc, ◌+◌, ◌-◌, ◌*◌, min, ◌≤◌, ◌⊎◌, inl, inr, Bool, true, false, cond, not, List, [], ◌∷◌, ◌++◌, map, is_some, Some, refl, sym, ap, subst, ◌∙◌, arith}
use Rattle.std.specs.Prelude.{filter, fold, unwrap_or}
use Rattle.std.specs.List.{AllByRecursion, IsDistinct, range_with_len}
use Rattle.std.specs.Map.{lookup, keys_of, set_value}
use Rattle.std.specs.BTreeMap.{insert_entry}
use Rattle.std.proofs.lemmas.Bool.{false≢true}
use Rattle.std.proofs.lemmas.Bool.Decides.{eqb_tells}
use Rattle.std.proofs.lemmas.Map.{keys-set_value}
use Rattle.std.proofs.lemmas.Map.Keys.{IsDistinct-head, IsDistinct-tail}
use Rattle.fs_model.specs.Files.{Blocks, pair_cmp, block_at, with_block, page_written, overlaid, with_page as write_page}
use Rattle.page_cache.specs.declared.dirty_page.DirtyPage.{DirtyPage}
use Rattle.page_cache.specs.Pages.{Pages, is_page, dirty_at, put_last, with_dirty, with_all_dirty, new_pages, old_pages}
use Rattle.buffered_files.specs.Present.{DirtyPages, with_page}
use Rattle.buffered_files.proofs.Covers.{page_cases}
use Rattle.fs_laws.specs.Insertions.{insert_twice, insert_swap}
use Rattle.fs_laws.specs.Maps.{set_other}
use Rattle.fs_laws.specs.Orders.{pairs}

pub other_page : (a b : ℕ × ℕ) → is_page a b ≡ false → a ≡ b → ⊥
other_page a b h same = by (page_cases a b)
  where
    by : ((a ≡ b) × (is_page a b ≡ true)) ⊎ ((a ≡ b → ⊥) × (is_page a b ≡ false)) → ⊥
    by (inl s) = absurd (false≢true (sym h ∙ s.1))
    by (inr o) = o.0 same

pub same_page : (a : ℕ × ℕ) → is_page a a ≡ true
same_page a = by (page_cases a a)
  where
    by : ((a ≡ a) × (is_page a a ≡ true)) ⊎ ((a ≡ a → ⊥) × (is_page a a ≡ false)) → is_page a a ≡ true
    by (inl s) = s.1
    by (inr o) = absurd (o.0 refl)

-- a page of another name can be set before or after
pub insert_late : (dirty : DirtyPages) (blocks : Blocks) (k : ℕ × ℕ) (bytes : List ℕ) → AllByRecursion (λ y. is_page k y ≡ false) (keys_of dirty) → fold with_page (insert_entry pair_cmp blocks k bytes) dirty ≡ insert_entry pair_cmp (fold with_page blocks dirty) k bytes
insert_late [] blocks k bytes all = refl
insert_late (e ∷ dirty) blocks k bytes all =
    ap (λ b. fold with_page b dirty) (insert_swap pair_cmp pairs blocks k e.0 bytes e.1.bytes (other_page k e.0 all.0)) ∙ insert_late dirty (with_page blocks e) k bytes all.1

set_covers : (dirty : DirtyPages) (blocks : Blocks) (k : ℕ × ℕ) (page : DirtyPage) → IsDistinct is_page (keys_of dirty) → is_some (lookup (is_page k) dirty) ≡ true
    → fold with_page blocks (set_value (is_page k) dirty page) ≡ insert_entry pair_cmp (fold with_page blocks dirty) k page.bytes
set_covers [] blocks k page once found = absurd (false≢true found)
set_covers (e ∷ dirty) blocks k page once found = by (page_cases k e.0) (λ f. set_covers dirty (with_page blocks e) k page (IsDistinct-tail is_page e.0 (keys_of dirty) once) f)
  where
    apart : AllByRecursion (λ y. is_page e.0 y ≡ false) (keys_of dirty)
    apart = IsDistinct-head is_page e.0 (keys_of dirty) once

    here : fold with_page (insert_entry pair_cmp blocks e.0 page.bytes) dirty ≡ insert_entry pair_cmp (fold with_page (with_page blocks e) dirty) e.0 page.bytes
    here =
        insert_late dirty blocks e.0 page.bytes apart
        ∙ sym (insert_twice pair_cmp pairs (fold with_page blocks dirty) e.0 e.1.bytes page.bytes)
        ∙ ap (λ b. insert_entry pair_cmp b e.0 page.bytes) (sym (insert_late dirty blocks e.0 e.1.bytes apart))

    by : ((k ≡ e.0) × (is_page k e.0 ≡ true)) ⊎ ((k ≡ e.0 → ⊥) × (is_page k e.0 ≡ false))
        → (is_some (lookup (is_page k) dirty) ≡ true → fold with_page (with_page blocks e) (set_value (is_page k) dirty page) ≡ insert_entry pair_cmp (fold with_page (with_page blocks e) dirty) k page.bytes)
        → fold with_page blocks (set_value (is_page k) (e ∷ dirty) page) ≡ insert_entry pair_cmp (fold with_page blocks (e ∷ dirty)) k page.bytes
    by (inl same) more = rw same.1 (here ∙ ap (λ q. insert_entry pair_cmp (fold with_page (with_page blocks e) dirty) q page.bytes) (sym same.0))
    by (inr other) more = rw other.1 (more (rw other.1 at found))

fold_added : {A B : Type 0} (f : B → A → B) (b : B) (xs : List A) (y : A) → fold f b (xs ++ y ∷ []) ≡ f (fold f b xs) y
fold_added f b [] y = refl
fold_added f b (x ∷ xs) y = fold_added f (f b x) xs y

-- a page that is put sets its block
put_covers : (dirty : DirtyPages) (blocks : Blocks) (k : ℕ × ℕ) (page : DirtyPage) → IsDistinct is_page (keys_of dirty) → fold with_page blocks (put_last dirty k page) ≡ insert_entry pair_cmp (fold with_page blocks dirty) k page.bytes
put_covers dirty blocks k page once = by (is_some (lookup (is_page k) dirty)) refl
  where
    by : (b : Bool) → is_some (lookup (is_page k) dirty) ≡ b → fold with_page blocks (cond b (set_value (is_page k) dirty page) (dirty ++ (k, page) ∷ [])) ≡ insert_entry pair_cmp (fold with_page blocks dirty) k page.bytes
    by true e = set_covers dirty blocks k page once e
    by false e = fold_added with_page blocks dirty (k, page)

-- no name stands twice after a page was put
apart_added : (k q : ℕ × ℕ) (page : DirtyPage) (dirty : DirtyPages) → AllByRecursion (λ y. is_page q y ≡ false) (keys_of dirty) → is_page q k ≡ false → AllByRecursion (λ y. is_page q y ≡ false) (keys_of (dirty ++ (k, page) ∷ []))
apart_added k q page [] all differs = (differs, tt)
apart_added k q page (e ∷ dirty) all differs = (all.0, apart_added k q page dirty all.1 differs)

turned : (a b : ℕ × ℕ) → is_page a b ≡ false → is_page b a ≡ false
turned a b h = by (page_cases b a)
  where
    by : ((b ≡ a) × (is_page b a ≡ true)) ⊎ ((b ≡ a → ⊥) × (is_page b a ≡ false)) → is_page b a ≡ false
    by (inl s) = absurd (other_page a b h (sym s.0))
    by (inr o) = o.1

added_distinct : (dirty : DirtyPages) (k : ℕ × ℕ) (page : DirtyPage) → IsDistinct is_page (keys_of dirty) → is_some (lookup (is_page k) dirty) ≡ false → IsDistinct is_page (keys_of (dirty ++ (k, page) ∷ []))
unfolding IsDistinct
added_distinct [] k page once none = (tt, tt)
added_distinct (e ∷ dirty) k page once none = by (is_page k e.0) refl none (added_distinct dirty k page once.1)
  where
    by : (b : Bool) → is_page k e.0 ≡ b → is_some (cond b (Some e.1) (lookup (is_page k) dirty)) ≡ false → (is_some (lookup (is_page k) dirty) ≡ false → IsDistinct is_page (keys_of (dirty ++ (k, page) ∷ []))) → IsDistinct is_page (keys_of ((e ∷ dirty) ++ (k, page) ∷ []))
    by true t n more = absurd (false≢true (sym n))
    by false t n more = (apart_added k e.0 page dirty once.0 (turned k e.0 t), more n)

pub put_distinct : (dirty : DirtyPages) (k : ℕ × ℕ) (page : DirtyPage) → IsDistinct is_page (keys_of dirty) → IsDistinct is_page (keys_of (put_last dirty k page))
put_distinct dirty k page once = by (is_some (lookup (is_page k) dirty)) refl
  where
    by : (b : Bool) → is_some (lookup (is_page k) dirty) ≡ b → IsDistinct is_page (keys_of (cond b (set_value (is_page k) dirty page) (dirty ++ (k, page) ∷ [])))
    by true e = subst (λ ks. IsDistinct is_page ks) (sym (keys-set_value (is_page k) dirty page)) once
    by false e = added_distinct dirty k page once e

-- an inode's blocks that are set one after another
abbrev pub set_block : ℕ → Blocks → ℕ × List ℕ → Blocks
set_block ino blocks p = with_block blocks ino p.0 p.1

pub all_covers : (put : List (ℕ × List ℕ)) (pages : Pages) (ino : ℕ) (blocks : Blocks) → IsDistinct is_page (keys_of pages.dirty) → fold with_page blocks (with_all_dirty pages ino put).dirty ≡ fold (set_block ino) (fold with_page blocks pages.dirty) put
all_covers [] pages ino blocks once = refl
all_covers (p ∷ put) pages ino blocks once =
    let page : DirtyPage = record { bytes = p.1; version = (with_dirty pages ino p.0 p.1).calls } in
    all_covers put (with_dirty pages ino p.0 p.1) ino blocks (put_distinct pages.dirty (ino, p.0) page once)
    ∙ ap (λ b. fold (set_block ino) b put) (put_covers pages.dirty blocks (ino, p.0) page once)

pub all_distinct : (put : List (ℕ × List ℕ)) (pages : Pages) (ino : ℕ) → IsDistinct is_page (keys_of pages.dirty) → IsDistinct is_page (keys_of (with_all_dirty pages ino put).dirty)
all_distinct [] pages ino once = once
all_distinct (p ∷ put) pages ino once =
    let page : DirtyPage = record { bytes = p.1; version = (with_dirty pages ino p.0 p.1).calls } in
    all_distinct put (with_dirty pages ino p.0 p.1) ino (put_distinct pages.dirty (ino, p.0) page once)

module _ (ino : ℕ) (f : ℕ → List ℕ) where
  -- a page by its number
  abbrev pub numbered : ℕ → ℕ × List ℕ
  numbered p = (p, f p)

  abbrev pub step : Blocks → ℕ → Blocks
  step blocks p = with_block blocks ino p (f p)

  swap : (blocks : Blocks) (p q : ℕ) → step (step blocks p) q ≡ step (step blocks q) p
  swap blocks p q = elim (eqb_tells p q) [
    | inl same ↦ subst (λ r. step (step blocks p) r ≡ step (step blocks r) p) same.1 refl
    | inr other ↦ insert_swap pair_cmp pairs blocks (ino, p) (ino, q) (f p) (f q) (λ e. other.1 (ap (λ k. k.1) e))
  ]

  sooner : (xs ys : List ℕ) (p : ℕ) (blocks : Blocks) → fold step blocks (xs ++ p ∷ ys) ≡ fold step (step blocks p) (xs ++ ys)
  sooner [] ys p blocks = refl
  sooner (x ∷ xs) ys p blocks = sooner xs ys p (step blocks x) ∙ ap (λ b. fold step b (xs ++ ys)) (swap blocks x p)

  -- pages that are set in two parts are set as they stand
  in_parts : (test : ℕ → Bool) (ps : List ℕ) (blocks : Blocks) → fold step blocks (filter (λ p. not (test p)) ps ++ filter test ps) ≡ fold step blocks ps
  in_parts test [] blocks = refl
  in_parts test (p ∷ ps) blocks = by (test p) (in_parts test ps (step blocks p))
    where
      by : (b : Bool) → fold step (step blocks p) (filter (λ q. not (test q)) ps ++ filter test ps) ≡ fold step (step blocks p) ps
          → fold step blocks (cond (not b) (p ∷ filter (λ q. not (test q)) ps) (filter (λ q. not (test q)) ps) ++ cond b (p ∷ filter test ps) (filter test ps)) ≡ fold step (step blocks p) ps
      by true more = sooner (filter (λ q. not (test q)) ps) (filter test ps) p blocks ∙ more
      by false more = more

  fold_joined : (xs ys : List ℕ) (blocks : Blocks) → fold step blocks (xs ++ ys) ≡ fold step (fold step blocks xs) ys
  fold_joined [] ys blocks = refl
  fold_joined (x ∷ xs) ys blocks = fold_joined xs ys (step blocks x)

  fold_numbered : (ps : List ℕ) (blocks : Blocks) → fold (set_block ino) blocks (map numbered ps) ≡ fold step blocks ps
  fold_numbered [] blocks = refl
  fold_numbered (p ∷ ps) blocks = fold_numbered ps (step blocks p)

  pub filter_numbered : (test : ℕ → Bool) (ps : List ℕ) → filter (λ page. test page.0) (map numbered ps) ≡ map numbered (filter test ps)
  filter_numbered test [] = refl
  filter_numbered test (p ∷ ps) = by (test p) (filter_numbered test ps)
    where
      by : (b : Bool) → filter (λ page. test page.0) (map numbered ps) ≡ map numbered (filter test ps)
          → cond b ((p, f p) ∷ filter (λ page. test page.0) (map numbered ps)) (filter (λ page. test page.0) (map numbered ps)) ≡ map numbered (cond b (p ∷ filter test ps) (filter test ps))
      by true more = ap (λ l. (p, f p) ∷ l) more
      by false more = more

  -- what is seen once numbered pages were put, the new ones first
  pub parts_cover : (pages : Pages) (blocks : Blocks) (ps : List ℕ) → IsDistinct is_page (keys_of pages.dirty)
      → fold with_page blocks (with_all_dirty (with_all_dirty pages ino (new_pages pages ino (map numbered ps))) ino (old_pages pages ino (map numbered ps))).dirty ≡ fold step (fold with_page blocks pages.dirty) ps
  parts_cover pages blocks ps once =
      let test : ℕ → Bool = λ p. is_some (dirty_at pages ino p) in
      let seen = fold with_page blocks pages.dirty in
      let new = new_pages pages ino (map numbered ps) in
      let old = old_pages pages ino (map numbered ps) in
      all_covers old (with_all_dirty pages ino new) ino blocks (all_distinct new pages ino once)
      ∙ ap (λ b. fold (set_block ino) b old) (all_covers new pages ino blocks once)
      ∙ ap (λ l. fold (set_block ino) (fold (set_block ino) seen l) old) (filter_numbered (λ p. not (test p)) ps)
      ∙ ap (λ l. fold (set_block ino) (fold (set_block ino) seen (map numbered (filter (λ p. not (test p)) ps))) l) (filter_numbered test ps)
      ∙ ap (λ b. fold (set_block ino) b (map numbered (filter test ps))) (fold_numbered (filter (λ p. not (test p)) ps) seen)
      ∙ fold_numbered (filter test ps) (fold step seen (filter (λ p. not (test p)) ps))
      ∙ sym (fold_joined (filter (λ p. not (test p)) ps) (filter test ps) seen)
      ∙ in_parts test ps seen

-- pages that are written as they stood before are written one after another
pub same_steps : (ino place n byte : ℕ) (before now : Blocks) (first count : ℕ) → ((q : ℕ) → first ≤ q → block_at now ino q ≡ block_at before ino q)
    → fold (step ino (page_written before ino place n byte)) now (range_with_len first count) ≡ fold (write_page ino place n byte) now (range_with_len first count)
same_steps ino place n byte before now first zero alike = refl
same_steps ino place n byte before now first (suc count) alike =
    let written = page_written before ino place n byte first in
    let head : with_block now ino first written ≡ write_page ino place n byte now first = ap (λ old. with_block now ino first (overlaid old (place - 4096 * first) (min (place + n - 4096 * first) 4096) byte)) (sym (alike first (omega arith))) in
    same_steps ino place n byte before (with_block now ino first written) (first + 1) count
    (λ q h. ap (λ o. unwrap_or o []) (set_other pair_cmp pairs now (ino, first) written (ino, q) (λ e. let same : q ≡ first = ap (λ k. k.1) e in absurd (omega (arith, same, h)))) ∙ alike q (omega (arith, h)))
    ∙ ap (λ b. fold (write_page ino place n byte) b (range_with_len (first + 1) count)) head
