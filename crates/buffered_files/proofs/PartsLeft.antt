-- Of pages and blocks some are left, those whose name passes a test.
use Rattle.std.proofs.Common.{◌≡◌, ℕ, ◌+◌, ◌*◌, ◌≤◌, ◌⊎◌, inl, inr, Bool, true, false, cond, not, ◌&&◌, ◌||◌, List, [], ◌∷◌, length, Some, None, refl, sym, ap, subst, ◌∙◌, arith}
use Rattle.std.specs.Prelude.{◌==◌, filter, nat_le}
use Rattle.std.specs.List.{list_all, AllByRecursion, IsDistinct}
use Rattle.std.specs.Map.{lookup, keys_of}
use Rattle.std.specs.BTreeMap.{is_at}
use Rattle.std.proofs.lemmas.Bool.{false≢true, and_parts}
use Rattle.std.proofs.lemmas.Bool.Decides.{nat_tests, eqb_tells}
use Rattle.std.proofs.lemmas.Map.Keys.{IsDistinct-head, IsDistinct-tail}
use Rattle.fs_model.specs.Files.{Blocks, blocks_end, pair_cmp}
use Rattle.fs_model.specs.Proper.{ascends}
use Rattle.page_cache.specs.Pages.{is_page}
use Rattle.buffered_files.specs.Present.{DirtyPages, has_dirty}
use Rattle.buffered_files.proofs.Covers.{page_cases}
use Rattle.buffered_files.proofs.Overlays.{same_page}
use Rattle.fs_laws.specs.Maps.{apart, all_from, key_cases}
use Rattle.fs_laws.specs.Orders.{pairs}

module _ {V : Type 0} where
  nowhere : (name : ℕ × ℕ) (es : List ((ℕ × ℕ) × V)) → AllByRecursion (λ k. is_page name k ≡ false) (keys_of es) → lookup (is_page name) es ≡ None
  nowhere name [] all = refl
  nowhere name (e ∷ es) all = rw all.0 (nowhere name es all.1)

  -- of pages of which none stands twice each is found by its name
  pub all_each : (P : (ℕ × ℕ) × V → Type 0) (es : List ((ℕ × ℕ) × V)) → IsDistinct is_page (keys_of es) → ((e : (ℕ × ℕ) × V) → lookup (is_page e.0) es ≡ Some e.1 → P e) → AllByRecursion P es
  all_each P [] once each = tt
  all_each P (e ∷ es) once each = (each e (rw (same_page e.0) refl), all_each P es (IsDistinct-tail is_page e.0 (keys_of es) once) (λ f found. each f (later f found (page_cases f.0 e.0))))
    where
      later : (f : (ℕ × ℕ) × V) → lookup (is_page f.0) es ≡ Some f.1 → ((f.0 ≡ e.0) × (is_page f.0 e.0 ≡ true)) ⊎ ((f.0 ≡ e.0 → ⊥) × (is_page f.0 e.0 ≡ false)) → lookup (is_page f.0) (e ∷ es) ≡ Some f.1
      later f found (inl same) =
          let none = nowhere e.0 es (IsDistinct-head is_page e.0 (keys_of es) once) in
          let some = subst (λ k. lookup (is_page k) es ≡ Some f.1) same.0 found in
          absurd cc
      later f found (inr two) = rw two.1 found

  -- what follows for the pages that are left
  pub all_left : (P Q : (ℕ × ℕ) × V → Type 0) (test : ℕ × ℕ → Bool) → ((e : (ℕ × ℕ) × V) → P e → test e.0 ≡ true → Q e) → (es : List ((ℕ × ℕ) × V)) → AllByRecursion P es → AllByRecursion Q (filter (λ e. test e.0) es)
  all_left P Q test each [] all = tt
  all_left P Q test each (e ∷ es) all = by (all_left P Q test each es all.1) (test e.0) refl
    where
      by : AllByRecursion Q (filter (λ f. test f.0) es) → (b : Bool) → test e.0 ≡ b → AllByRecursion Q (cond b (e ∷ filter (λ f. test f.0) es) (filter (λ f. test f.0) es))
      by more true t = (each e all.0 t, more)
      by more false t = more

  -- tests that say the same leave the same
  pub same_left : (f g : ℕ × ℕ → Bool) → ((q : ℕ × ℕ) → f q ≡ g q) → (es : List ((ℕ × ℕ) × V)) → filter (λ e. f e.0) es ≡ filter (λ e. g e.0) es
  same_left f g same [] = refl
  same_left f g same (e ∷ es) = ap (λ b. cond b (e ∷ filter (λ d. f d.0) es) (filter (λ d. f d.0) es)) (same e.0) ∙ ap (λ rest. cond (g e.0) (e ∷ rest) rest) (same_left f g same es)

  -- one that all pass leaves all
  pub all_stay : (es : List ((ℕ × ℕ) × V)) → filter (λ e. true) es ≡ es
  all_stay [] = refl
  all_stay (e ∷ es) = ap (λ rest. e ∷ rest) (all_stay es)

-- an inode whose pages all pass has as many
pub has_left : (test : ℕ × ℕ → Bool) (q : ℕ) → ((k : ℕ × ℕ) → k.0 ≡ q → test k ≡ true) → (dirty : DirtyPages) → has_dirty (filter (λ e. test e.0) dirty) q ≡ has_dirty dirty q
has_left test q each [] = refl
has_left test q each (e ∷ dirty) = by (has_left test q each dirty) (test e.0) refl
  where
    by : has_dirty (filter (λ f. test f.0) dirty) q ≡ has_dirty dirty q → (b : Bool) → test e.0 ≡ b → has_dirty (cond b (e ∷ filter (λ f. test f.0) dirty) (filter (λ f. test f.0) dirty)) q ≡ ((e.0.0 == q) || has_dirty dirty q)
    by more true t = ap (λ b. (e.0.0 == q) || b) more
    by more false t = other (eqb_tells e.0.0 q)
      where
        other : (((e.0.0 == q) ≡ true) × (e.0.0 ≡ q)) ⊎ (((e.0.0 == q) ≡ false) × (e.0.0 ≡ q → ⊥)) → has_dirty (filter (λ f. test f.0) dirty) q ≡ ((e.0.0 == q) || has_dirty dirty q)
        other (inl same) = absurd (false≢true (sym t ∙ each e.0 same.1))
        other (inr two) = rw two.0 more

-- where all of a file's blocks end within it, so does the last
pub ends_by : (blocks : Blocks) (ino most : ℕ) → ascends pair_cmp (keys_of blocks) ≡ true → ((n : ℕ) (bytes : List ℕ) → lookup (is_at (pair_cmp (ino, n))) blocks ≡ Some bytes → 4096 * n + length bytes ≤ most) → blocks_end blocks ino ≤ most
ends_by blocks ino most up each = by blocks (all_from pair_cmp pairs test blocks up (λ k bytes found. passes k bytes found (eqb_tells k.0 ino)))
  where
    test : (ℕ × ℕ) × List ℕ → Bool
    test e = not (e.0.0 == ino) || nat_le (4096 * e.0.1 + length e.1) most

    passes : (k : ℕ × ℕ) (bytes : List ℕ) → lookup (is_at (pair_cmp k)) blocks ≡ Some bytes → (((k.0 == ino) ≡ true) × (k.0 ≡ ino)) ⊎ (((k.0 == ino) ≡ false) × (k.0 ≡ ino → ⊥)) → test (k, bytes) ≡ true
    passes k bytes found (inl same) =
        let P : ℕ → Type 0 = λ i. lookup (is_at (pair_cmp (i, k.1))) blocks ≡ Some bytes in
        let within = each k.1 bytes (subst P same.1 found) in
        let le : nat_le (4096 * k.1 + length bytes) most ≡ true = grind (arith, nat_tests) in
        rw (same.0, le) refl
    passes k bytes found (inr two) = rw two.0 refl

    by : (es : Blocks) → list_all test es ≡ true → blocks_end es ino ≤ most
    by [] all = omega arith
    by (e ∷ es) all = let parts = and_parts (test e) (list_all test es) all in one (by es parts.1) (e.0.0 == ino) refl parts.0
      where
        one : blocks_end es ino ≤ most → (b : Bool) → (e.0.0 == ino) ≡ b → test e ≡ true → blocks_end (e ∷ es) ino ≤ most
        one rest true t passed =
            let le : nat_le (4096 * e.0.1 + length e.1) most ≡ true = rw t at passed in
            let within : 4096 * e.0.1 + length e.1 ≤ most = grind (arith, nat_tests) in
            rw t (omega (arith, rest, within))
        one rest false t passed = rw t rest

-- a block that doesn't stay isn't found
pub gone_found : (test : ℕ × ℕ → Bool) (blocks : Blocks) (k : ℕ × ℕ) (bytes : List ℕ) → lookup (is_at (pair_cmp k)) (filter (λ b. test b.0) blocks) ≡ Some bytes → test k ≡ true
gone_found test [] k bytes found = absurd cc
gone_found test (b ∷ blocks) k bytes found = by (λ there. gone_found test blocks k bytes there) (test b.0) refl found
  where
    by : (lookup (is_at (pair_cmp k)) (filter (λ c. test c.0) blocks) ≡ Some bytes → test k ≡ true) → (t : Bool) → test b.0 ≡ t → lookup (is_at (pair_cmp k)) (cond t (b ∷ filter (λ c. test c.0) blocks) (filter (λ c. test c.0) blocks)) ≡ Some bytes → test k ≡ true
    by more true t found = at (key_cases pair_cmp pairs k b.0)
      where
        at : (k ≡ b.0) ⊎ (k ≡ b.0 → ⊥) → test k ≡ true
        at (inl same) = subst (λ q. test q ≡ true) (sym same) t
        at (inr two) = more (rw (apart pair_cmp pairs k b.0 two) at found)
    by more false t found = more found

-- of what passes two tests
pub both_left : {V : Type 0} (f g h : ℕ × ℕ → Bool) → ((q : ℕ × ℕ) → h q ≡ (g q && f q)) → (es : List ((ℕ × ℕ) × V)) → filter (λ e. f e.0) (filter (λ e. g e.0) es) ≡ filter (λ e. h e.0) es
both_left f g h both [] = refl
both_left {V} f g h both (e ∷ es) = by (both_left f g h both es) (g e.0) refl
  where
    More : Type 0
    More = filter (λ d. f d.0) (filter (λ d. g d.0) es) ≡ filter (λ d. h d.0) es

    by : More → (b : Bool) → g e.0 ≡ b → filter (λ d. f d.0) (cond b (e ∷ filter (λ d. g d.0) es) (filter (λ d. g d.0) es)) ≡ filter (λ d. h d.0) (e ∷ es)
    by more true t = rw (both e.0, t) (ap (λ rest. cond (f e.0) (e ∷ rest) rest) more)
    by more false t = rw (both e.0, t) more

-- a page of another name passes
pub apart_left : (k : ℕ × ℕ) (test : ℕ × ℕ → Bool) → test k ≡ false → (dirty : DirtyPages) → AllByRecursion (λ y. is_page k y ≡ false) (keys_of (filter (λ e. test e.0) dirty))
apart_left k test gone [] = tt
apart_left k test gone (e ∷ dirty) = by (apart_left k test gone dirty) (test e.0) refl
  where
    by : AllByRecursion (λ y. is_page k y ≡ false) (keys_of (filter (λ d. test d.0) dirty)) → (b : Bool) → test e.0 ≡ b → AllByRecursion (λ y. is_page k y ≡ false) (keys_of (cond b (e ∷ filter (λ d. test d.0) dirty) (filter (λ d. test d.0) dirty)))
    by more true t = (other (page_cases k e.0), more)
      where
        other : ((k ≡ e.0) × (is_page k e.0 ≡ true)) ⊎ ((k ≡ e.0 → ⊥) × (is_page k e.0 ≡ false)) → is_page k e.0 ≡ false
        other (inl same) = absurd (false≢true (sym gone ∙ ap test same.0 ∙ t))
        other (inr two) = two.1
    by more false t = more
