-- Clean pages have the bytes of the tree's blocks, after each change of either.
use Rattle.std.proofs.Common.{◌≡◌, ℕ, zero, suc, ◌⊎◌, inl, inr, Bool, true, false, cond, not, List, [], ◌∷◌, take, ◌-◌, is_some, Option, Some, None, refl, sym, ap, subst, ◌∙◌, arith}
use Rattle.std.proofs.lemmas.List.{take_all, take-append-le}
use Rattle.std.specs.Prelude.{◌==◌, ◌≤◌, ◌++◌, Result, Ok, Err, OnOk, OnErr, min, length, replicate, filter, unwrap_or}
use Rattle.std.specs.List.{AllByRecursion}
use Rattle.std.specs.Option.{option_map_or}
use Rattle.std.specs.BTreeMap.{insert_entry, is_at}
use Rattle.std.specs.Ordering.{is_eq}
use Rattle.std.specs.Map.{lookup, lookup_entry, remove_entry}
use Rattle.std.proofs.lemmas.Bool.Decides.{nat_tests}
use Rattle.fs_model.specs.Files.{Tree, Blocks, block_at, pair_cmp}
use Rattle.page_cache.specs.PageLaws.{is_page_same}
use Rattle.page_cache.specs.Pages.{Pages, is_page, dirty_at, is_cut, cut_list, lru_cache, promoted, put_entries, with_dirty, with_all_dirty, with_clean, with_used}
use Rattle.buffered_files.specs.declared.kept.Kept.{Kept}
use Rattle.buffered_files.specs.Present.{IsKept, FitsClean, IsSameButClean}
use Rattle.buffered_files.proofs.Covers.{page_cases}
use Rattle.fs_laws.specs.Maps.{apart, key_cases, set_other}
use Rattle.fs_laws.specs.Orders.{pairs}

-- a clean page has the bytes of a list of blocks
abbrev pub CleanPages : Type 0
CleanPages = List ((ℕ × ℕ) × List ℕ)

module _ {V : Type 0} (P : (ℕ × ℕ) × V → Type 0) where
  -- what holds of each page holds of those that are left
  pub all_removed : (test : ℕ × ℕ → Bool) (es : List ((ℕ × ℕ) × V)) → AllByRecursion P es → AllByRecursion P (remove_entry test es)
  all_removed test [] all = tt
  all_removed test (e ∷ es) all = by (all_removed test es all.1) (test e.0)
    where
      by : AllByRecursion P (remove_entry test es) → (b : Bool) → AllByRecursion P (cond b es (e ∷ remove_entry test es))
      by more true = all.1
      by more false = (all.0, more)

  all_taken : (n : ℕ) (es : List ((ℕ × ℕ) × V)) → AllByRecursion P es → AllByRecursion P (take n es)
  all_taken zero es all = tt
  all_taken (suc n) [] all = tt
  all_taken (suc n) (e ∷ es) all = (all.0, all_taken n es all.1)

  -- it holds of the one that is found
  pub all_found : (k : ℕ × ℕ) (v : V) (es : List ((ℕ × ℕ) × V)) → AllByRecursion P es → lookup (is_page k) es ≡ Some v → P (k, v)
  all_found k v [] all found = absurd cc
  all_found k v (e ∷ es) all found = by (λ there. all_found k v es all.1 there) (page_cases k e.0)
    where
      by : (lookup (is_page k) es ≡ Some v → P (k, v)) → ((k ≡ e.0) × (is_page k e.0 ≡ true)) ⊎ ((k ≡ e.0 → ⊥) × (is_page k e.0 ≡ false)) → P (k, v)
      by more (inl same) =
          let one : Some e.1 ≡ Some v = rw same.1 at found in
          let value : e.1 ≡ v = cc one in
          subst (λ q. P (q, v)) (sym same.0) (subst (λ w. P (e.0, w)) value all.0)
      by more (inr other) = more (rw other.1 at found)

  all_first : (test : ℕ × ℕ → Bool) (es : List ((ℕ × ℕ) × V)) (e : (ℕ × ℕ) × V) → AllByRecursion P es → lookup_entry test es ≡ Some e → (test e.0 ≡ true) × P e
  all_first test [] e all found = absurd cc
  all_first test (f ∷ es) e all found = by (λ there. all_first test es e all.1 there) (test f.0) refl
    where
      by : (lookup_entry test es ≡ Some e → (test e.0 ≡ true) × P e) → (b : Bool) → test f.0 ≡ b → (test e.0 ≡ true) × P e
      by more true t =
          let one : Some f ≡ Some e = rw t at found in
          let same : f ≡ e = cc one in
          (subst (λ (g : (ℕ × ℕ) × V). test g.0 ≡ true) same t, subst P same all.0)
      by more false t = more (rw t at found)

  -- of the pages after one was used
  pub all_used : (test : ℕ × ℕ → Bool) (es : List ((ℕ × ℕ) × V)) → AllByRecursion P es → AllByRecursion P (promoted test es)
  all_used test es all = by (lookup_entry test es) refl
    where
      by : (o : Option ((ℕ × ℕ) × V)) → lookup_entry test es ≡ o → AllByRecursion P (option_map_or (λ e. e ∷ remove_entry test es) o es)
      by None h = all
      by (Some e) h = ((all_first test es e all h).1, all_removed test es all)

  -- and after one was put
  pub all_put : (es : List ((ℕ × ℕ) × V)) (most : ℕ) (k : ℕ × ℕ) (v : V) → AllByRecursion P es → P (k, v) → AllByRecursion P (put_entries is_page (lru_cache es most) k v)
  all_put es most k v all one = by (lookup_entry (is_page k) es) refl
    where
      by : (o : Option ((ℕ × ℕ) × V)) → lookup_entry (is_page k) es ≡ o → AllByRecursion P (option_map_or (λ e. (e.0, v) ∷ remove_entry (is_page k) es) o ((k, v) ∷ take (most - 1) es))
      by None h = (one, all_taken (most - 1) es all)
      by (Some e) h =
          let same = is_page_same k e.0 (all_first (is_page k) es e all h).0 in
          (subst (λ q. P (q, v)) same one, all_removed (is_page k) es all)

-- pages that become dirty leave the clean ones
pub all_dirtied : (P : (ℕ × ℕ) × List ℕ → Type 0) (put : List (ℕ × List ℕ)) (pages : Pages) (ino : ℕ) → AllByRecursion P pages.clean → AllByRecursion P (with_all_dirty pages ino put).clean
all_dirtied P [] pages ino all = all
all_dirtied P (p ∷ put) pages ino all = all_dirtied P put (with_dirty pages ino p.0 p.1) ino (all_removed P (is_page (ino, p.0)) pages.clean all)

-- a block that isn't clean is set
pub clean_put : (blocks : Blocks) (k : ℕ × ℕ) (bytes : List ℕ) (clean : CleanPages) → lookup (is_page k) clean ≡ None → AllByRecursion (FitsClean blocks) clean → AllByRecursion (FitsClean (insert_entry pair_cmp blocks k bytes)) clean
clean_put blocks k bytes [] none all = tt
clean_put blocks k bytes (e ∷ clean) none all = by (λ absent. clean_put blocks k bytes clean absent all.1) (page_cases k e.0)
  where
    by : (lookup (is_page k) clean ≡ None → AllByRecursion (FitsClean (insert_entry pair_cmp blocks k bytes)) clean) → ((k ≡ e.0) × (is_page k e.0 ≡ true)) ⊎ ((k ≡ e.0 → ⊥) × (is_page k e.0 ≡ false)) → AllByRecursion (FitsClean (insert_entry pair_cmp blocks k bytes)) (e ∷ clean)
    by more (inl same) = let some : Some e.1 ≡ None = rw same.1 at none in absurd cc
    by more (inr other) = (
      all.0 ∙ ap (λ o. unwrap_or o []) (sym (set_other pair_cmp pairs blocks k bytes e.0 (λ same. other.0 (sym same)))),
      more (rw other.1 at none),
    )

-- a block that stays is found as before
pub stays_found : (test : ℕ × ℕ → Bool) (blocks : Blocks) (k : ℕ × ℕ) → test k ≡ true → lookup (is_at (pair_cmp k)) (filter (λ b. test b.0) blocks) ≡ lookup (is_at (pair_cmp k)) blocks
stays_found test [] k stays = refl
stays_found test (b ∷ blocks) k stays = by (stays_found test blocks k stays) (key_cases pair_cmp pairs k b.0)
  where
    More : Type 0
    More = lookup (is_at (pair_cmp k)) (filter (λ c. test c.0) blocks) ≡ lookup (is_at (pair_cmp k)) blocks

    past : More → is_at (pair_cmp k) b.0 ≡ false → (t : Bool) → lookup (is_at (pair_cmp k)) (cond t (b ∷ filter (λ c. test c.0) blocks) (filter (λ c. test c.0) blocks)) ≡ lookup (is_at (pair_cmp k)) (b ∷ blocks)
    past more other true = rw other more
    past more other false = rw other more

    by : More → (k ≡ b.0) ⊎ (k ≡ b.0 → ⊥) → lookup (is_at (pair_cmp k)) (filter (λ c. test c.0) (b ∷ blocks)) ≡ lookup (is_at (pair_cmp k)) (b ∷ blocks)
    by more (inl same) =
        let there : test b.0 ≡ true = subst (λ q. test q ≡ true) same stays in
        let here : is_at (pair_cmp k) b.0 ≡ true = subst (λ q. is_at (pair_cmp k) q ≡ true) same (ap is_eq (pairs.same k)) in
        rw (there, here) refl
    by more (inr other) = past more (apart pair_cmp pairs k b.0 other) (test b.0)

-- the blocks of an inode go, and its clean pages with them
pub clean_cut : (blocks : Blocks) (ino : ℕ) (clean : CleanPages) → AllByRecursion (FitsClean blocks) clean → AllByRecursion (FitsClean (filter (λ b. not (b.0.0 == ino)) blocks)) (cut_list clean ino 0)
clean_cut blocks ino [] all = tt
clean_cut blocks ino (e ∷ clean) all = by (clean_cut blocks ino clean all.1) (is_cut ino 0 e.0) refl
  where
    Rest : CleanPages → Type 0
    Rest es = AllByRecursion (FitsClean (filter (λ b. not (b.0.0 == ino)) blocks)) es

    other : is_cut ino 0 e.0 ≡ false → not (e.0.0 == ino) ≡ true
    other t = grind (arith, nat_tests)

    by : Rest (cut_list clean ino 0) → (b : Bool) → is_cut ino 0 e.0 ≡ b → Rest (cond (not b) (e ∷ cut_list clean ino 0) (cut_list clean ino 0))
    by more true t = more
    by more false t = (all.0 ∙ ap (λ o. unwrap_or o []) (sym (stays_found (λ k. not (k.0 == ino)) blocks e.0 (other t))), more)

-- what is kept with other clean pages
pub with_clean_pages : (tree : Tree) (kept : Kept) (clean : CleanPages) → IsKept tree kept → AllByRecursion (FitsClean tree.blocks) clean → IsKept tree (record kept { pages = record kept.pages { clean = clean } })
with_clean_pages tree kept clean is all = record { proper = is.proper; ascends = is.ascends; inodes = is.inodes; ends = is.ends; pages = is.pages; settled = is.settled; clean = all; covers = is.covers }

-- a page was used
pub used_fits : (tree : Tree) (kept : Kept) (ino block : ℕ) → IsKept tree kept → IsKept tree (record kept { pages = with_used kept.pages ino block })
used_fits tree kept ino block is = by (is_some (dirty_at kept.pages ino block))
  where
    by : (b : Bool) → IsKept tree (record kept { pages = cond b kept.pages (record kept.pages { clean = promoted (is_page (ino, block)) kept.pages.clean }) })
    by true = is
    by false = with_clean_pages tree kept (promoted (is_page (ino, block)) kept.pages.clean) is (all_used (FitsClean tree.blocks) (is_page (ino, block)) kept.pages.clean is.clean)

pub used_same : (kept : Kept) (ino block : ℕ) → IsSameButClean kept (record kept { pages = with_used kept.pages ino block })
used_same kept ino block = by (is_some (dirty_at kept.pages ino block))
  where
    by : (b : Bool) → IsSameButClean kept (record kept { pages = cond b kept.pages (record kept.pages { clean = promoted (is_page (ino, block)) kept.pages.clean }) })
    by true = refl
    by false = refl

-- a page that was read was put
pub put_fits : (tree : Tree) (kept : Kept) (ino block : ℕ) (bytes : List ℕ) → bytes ≡ block_at tree.blocks ino block → IsKept tree kept → IsKept tree (record kept { pages = with_clean kept.pages ino block bytes })
put_fits tree kept ino block bytes read is = by (is_some (dirty_at kept.pages ino block))
  where
    by : (b : Bool) → IsKept tree (record kept { pages = cond b kept.pages (record kept.pages { clean = put_entries is_page (lru_cache kept.pages.clean kept.pages.most) (ino, block) bytes }) })
    by true = is
    by false = with_clean_pages tree kept (put_entries is_page (lru_cache kept.pages.clean kept.pages.most) (ino, block) bytes) is (all_put (FitsClean tree.blocks) kept.pages.clean kept.pages.most (ino, block) bytes is.clean read)

pub put_same : (kept : Kept) (ino block : ℕ) (bytes : List ℕ) → IsSameButClean kept (record kept { pages = with_clean kept.pages ino block bytes })
put_same kept ino block bytes = by (is_some (dirty_at kept.pages ino block))
  where
    by : (b : Bool) → IsSameButClean kept (record kept { pages = cond b kept.pages (record kept.pages { clean = put_entries is_page (lru_cache kept.pages.clean kept.pages.most) (ino, block) bytes }) })
    by true = refl
    by false = refl

-- one call after another
pub Same-then : (a b c : Kept) → IsSameButClean a b → IsSameButClean b c → IsSameButClean a c
Same-then a b c first second =
    let again : Kept → Kept = λ kept. record kept { pages = record kept.pages { clean = c.pages.clean } } in
    second ∙ ap again first

-- what a backing reads of a block is the block
pub read_back : (block page : List ℕ) (stored : ℕ) → length block ≤ 4096 → (stored ≡ min (length block) 4096) × (page ≡ take 4096 block ++ replicate (4096 - stored) 0) → take stored page ≡ block
read_back block page stored short told =
    let n : stored ≡ length block = let s = told.0 in omega (arith, s, short) in
    ap (take stored) told.1 ∙ ap (λ k. take k (take 4096 block ++ replicate (4096 - stored) 0)) n ∙ ap (λ xs. take (length block) (xs ++ replicate (4096 - stored) 0)) (take_all 4096 block short)
    ∙ take-append-le (length block) block (replicate (4096 - stored) 0) (omega arith) ∙ take_all (length block) block (omega arith)

-- and it is kept, or nothing is
pub kept_read : {E : Type 0} (r : Result Unit E) (tree : Tree) (kept new : Kept) (ino block : ℕ) (bytes : List ℕ) → bytes ≡ block_at tree.blocks ino block → IsKept tree kept → OnOk r (new ≡ record kept { pages = with_clean kept.pages ino block bytes }) → OnErr r (new ≡ kept) → IsKept tree new
kept_read (Ok done) tree kept new ino block bytes read is ok err = subst (λ k. IsKept tree k) (sym ok) (put_fits tree kept ino block bytes read is)
kept_read (Err e) tree kept new ino block bytes read is ok err = subst (λ k. IsKept tree k) (sym err) is

pub kept_read_below : {E : Type 0} (r : Result Unit E) (tree now : Tree) (kept new : Kept) (ino block : ℕ) (bytes : List ℕ) → bytes ≡ block_at tree.blocks ino block → now ≡ tree → IsKept tree kept → OnOk r (new ≡ record kept { pages = with_clean kept.pages ino block bytes }) → OnErr r (new ≡ kept) → IsKept now new
kept_read_below r tree now kept new ino block bytes read same is ok err = subst (λ t. IsKept t new) (sym same) (kept_read r tree kept new ino block bytes read is ok err)
