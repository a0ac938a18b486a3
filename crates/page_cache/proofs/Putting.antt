-- Pages that are put together.
use Rattle.std.proofs.Common.{◌≡◌, ℕ, ◌≤◌, Bool, true, false, cond, not, List, [], ◌∷◌, ◌++◌, length, take, zero, suc, is_some, IsSome, IsNone, Some, refl, sym, ap, ◌∙◌, arith, append_assoc, append-nil, take_all}
use Rattle.std.specs.Prelude.{Result, Ok, Err, IsOk, OnOk}
use Rattle.std.specs.List.{AllByRecursion, list_any}
use Rattle.std.specs.Map.{values_of, lookup, set_value}
use Rattle.std.proofs.lemmas.Bool.{false≢true}
use Rattle.std.proofs.lemmas.List.{take-append-le}
use Rattle.std.proofs.lemmas.Map.{keys-set_value}
use Rattle.std.proofs.lemmas.Map.Made.{is_some-lookup}
use Rattle.std.proofs.lemmas.List.Elements.{All-nil, All-cons, All-head, All-tail}
use Rattle.page_cache.specs.declared.dirty_page.DirtyPage.{DirtyPage}
use Rattle.page_cache.specs.Pages.{Pages, is_page, dirty_at, put_last, with_dirty, with_all_dirty, new_pages, old_pages, AreApart, AreCounted}
use Rattle.page_cache.proofs.Apart.{before_now, absent_front}

found_added : {K V : Type 0} (q : K → Bool) (es : List (K × V)) (e : K × V) → IsSome (lookup q es) → IsSome (lookup q (es ++ e ∷ []))
found_added q [] e h = absurd (false≢true h)
found_added q (f ∷ es) e h = by (q f.0) (found_added q es e) h
  where
    by : (b : Bool) → (IsSome (lookup q es) → IsSome (lookup q (es ++ e ∷ []))) → IsSome (cond b (Some f.1) (lookup q es)) → IsSome (cond b (Some f.1) (lookup q (es ++ e ∷ [])))
    by true more g = refl
    by false more g = more g

-- what is there stays there when a page is put
still_there : (dirty : List ((ℕ × ℕ) × DirtyPage)) (q name : ℕ × ℕ) (page : DirtyPage) → IsSome (lookup (is_page q) dirty) → IsSome (lookup (is_page q) (put_last dirty name page))
still_there dirty q name page h =
    elim (is_some (lookup (is_page name) dirty)) as (λ b. IsSome (lookup (is_page q) (cond b (set_value (is_page name) dirty page) (dirty ++ (name, page) ∷ [])))) [
      | true ↦ is_some-lookup (is_page q) (set_value (is_page name) dirty page) ∙ (ap (list_any (is_page q)) (keys-set_value (is_page name) dirty page) ∙ (sym (is_some-lookup (is_page q) dirty) ∙ h))
      | false ↦ found_added (is_page q) dirty (name, page) h
    ]

-- pages of an inode that are all dirty
abbrev pub AreDirty : Pages → ℕ → List (ℕ × List ℕ) → Type 0
AreDirty pages ino put = AllByRecursion (λ page. IsSome (dirty_at pages ino page.0)) put

-- or none is
abbrev pub AreNew : Pages → ℕ → List (ℕ × List ℕ) → Type 0
AreNew pages ino put = AllByRecursion (λ page. IsNone (dirty_at pages ino page.0)) put

pub still_dirty : (pages : Pages) (ino block : ℕ) (bytes : List ℕ) (put : List (ℕ × List ℕ)) → AreDirty pages ino put → AreDirty (with_dirty pages ino block bytes) ino put
still_dirty pages ino block bytes [] all = tt
still_dirty pages ino block bytes (p ∷ put) all = (still_there pages.dirty (ino, p.0) (ino, block) _ all.0, still_dirty pages ino block bytes put all.1)

pub dirty_after : (new : List (ℕ × List ℕ)) (pages : Pages) (ino : ℕ) (put : List (ℕ × List ℕ)) → AreDirty pages ino put → AreDirty (with_all_dirty pages ino new) ino put
dirty_after [] pages ino put all = all
dirty_after (p ∷ new) pages ino put all = dirty_after new (with_dirty pages ino p.0 p.1) ino put (still_dirty pages ino p.0 p.1 put all)

-- the parts of a list of pages
pub old_are_dirty : (pages : Pages) (ino : ℕ) (put : List (ℕ × List ℕ)) → AreDirty pages ino (old_pages pages ino put)
old_are_dirty pages ino [] = tt
old_are_dirty pages ino (p ∷ put) = by (is_some (dirty_at pages ino p.0)) refl (old_are_dirty pages ino put)
  where
    by : (b : Bool) → is_some (dirty_at pages ino p.0) ≡ b → AreDirty pages ino (old_pages pages ino put) → AreDirty pages ino (cond b (p ∷ old_pages pages ino put) (old_pages pages ino put))
    by true e more = (e, more)
    by false e more = more

pub new_are_new : (pages : Pages) (ino : ℕ) (put : List (ℕ × List ℕ)) → AreNew pages ino (new_pages pages ino put)
new_are_new pages ino [] = tt
new_are_new pages ino (p ∷ put) = by (is_some (dirty_at pages ino p.0)) refl (new_are_new pages ino put)
  where
    by : (b : Bool) → is_some (dirty_at pages ino p.0) ≡ b → AreNew pages ino (new_pages pages ino put) → AreNew pages ino (cond (not b) (p ∷ new_pages pages ino put) (new_pages pages ino put))
    by true e more = more
    by false e more = (e, more)

-- pages that were added behind those that were dirty
pub record Added (old now : Pages) : Type 0 where
  pub more : List ((ℕ × ℕ) × DirtyPage)
  pub is : now.dirty ≡ old.dirty ++ more

set_behind : {K V : Type 0} (test : K → Bool) (es more : List (K × V)) (v : V) → IsNone (lookup test es) → set_value test (es ++ more) v ≡ es ++ set_value test more v
set_behind test [] more v h = refl
set_behind {K} {V} test (e ∷ es) more v h = by (test e.0) (set_behind test es more v) h
  where
    by : (b : Bool) → (IsNone (lookup test es) → set_value test (es ++ more) v ≡ es ++ set_value test more v) → IsNone (cond b (Some e.1) (lookup test es))
        → cond b ((e.0, v) ∷ (es ++ more)) (e ∷ set_value test (es ++ more) v) ≡ e ∷ (es ++ set_value test more v)
    by true rest g = absurd (false≢true (sym g))
    by false rest g = ap (λ l. e ∷ l) (rest g)

pub added_more : (old now : Pages) (ino block : ℕ) (bytes : List ℕ) → Added old now → IsNone (dirty_at old ino block) → Added old (with_dirty now ino block bytes)
added_more old now ino block bytes so none = by (is_some (lookup (is_page (ino, block)) now.dirty)) refl
  where
    page : DirtyPage
    page = record { bytes = bytes; version = (with_dirty now ino block bytes).calls }

    by : (b : Bool) → is_some (lookup (is_page (ino, block)) now.dirty) ≡ b → Added old (with_dirty now ino block bytes)
    by true e = record {
      more = set_value (is_page (ino, block)) so.more page;
      is = rw e (ap (λ l. set_value (is_page (ino, block)) l page) so.is ∙ set_behind (is_page (ino, block)) old.dirty so.more page none);
    }
    by false e = record {
      more = so.more ++ ((ino, block), page) ∷ [];
      is = rw e (ap (λ l. l ++ ((ino, block), page) ∷ []) so.is ∙ append_assoc old.dirty so.more (((ino, block), page) ∷ []));
    }

pub added_none : (old : Pages) → Added old old
added_none old = record { more = []; is = sym (append-nil old.dirty) }

pub kept_front : (old now : Pages) (n : ℕ) → Added old now → n ≡ length old.dirty → take n now.dirty ≡ old.dirty
kept_front old now n so e = rw (e, so.is) (take-append-le (length old.dirty) old.dirty so.more (omega arith) ∙ take_all (length old.dirty) old.dirty (omega arith))

-- some from the front of a cache's pages
pub apart_front : (dirty : List ((ℕ × ℕ) × DirtyPage)) (clean : List ((ℕ × ℕ) × List ℕ)) (n : ℕ) → AreApart dirty clean → AreApart (take n dirty) clean
apart_front dirty clean n apart ino block is =
    apart ino block (before_now (is_some (lookup (is_page (ino, block)) dirty)) (is_some (lookup (is_page (ino, block)) (take n dirty))) (absent_front (is_page (ino, block)) n dirty) is)

pub counted_front : (dirty : List ((ℕ × ℕ) × DirtyPage)) (calls n : ℕ) → AreCounted calls dirty → AreCounted calls (take n dirty)
counted_front dirty calls zero all = All-nil (λ (page : DirtyPage). page.version ≤ calls)
counted_front [] calls (suc n) all = all
counted_front (e ∷ dirty) calls (suc n) all =
    let P : DirtyPage → Type 0 = λ page. page.version ≤ calls in
    All-cons P e.1 (values_of (take n dirty)) (All-head P e.1 (values_of dirty) all) (counted_front dirty calls n (All-tail P e.1 (values_of dirty) all))

-- a part of a list of pages, and what is left
pub record Parted (pages : Pages) (ino : ℕ) (put rest new old : List (ℕ × List ℕ)) : Type 0 where
  pub new_so_far : new ++ new_pages pages ino rest ≡ new_pages pages ino put
  pub old_so_far : old ++ old_pages pages ino rest ≡ old_pages pages ino put

pub take_within : {X : Type 0} (n m : ℕ) (xs : List X) → n ≤ m → take n (take m xs) ≡ take n xs
take_within zero m xs h = refl
take_within (suc n) zero xs h = absurd (omega (arith, h))
take_within (suc n) (suc m) [] h = refl
take_within (suc n) (suc m) (x ∷ xs) h = ap (λ l. x ∷ l) (take_within n m xs (omega (arith, h)))

-- pages that are dirty already are set one after another
pub record Setting (old now : Pages) (ino : ℕ) (rest put : List (ℕ × List ℕ)) : Type 0 where
  pub dirty : AreDirty now ino rest
  pub whole : with_all_dirty now ino rest ≡ with_all_dirty old ino put

pub setting_more : (old now : Pages) (ino block : ℕ) (bytes : List ℕ) (rest put : List (ℕ × List ℕ)) → Setting old now ino ((block, bytes) ∷ rest) put → Setting old (with_dirty now ino block bytes) ino rest put
setting_more old now ino block bytes rest put so = record { dirty = still_dirty now ino block bytes rest so.dirty.1; whole = so.whole }

-- pages that become dirty are added one after another
pub record Adding (old now : Pages) (ino : ℕ) (rest put : List (ℕ × List ℕ)) : Type 0 where
  pub added : Added old now
  pub new : AreNew old ino rest
  pub first : List (ℕ × List ℕ)
  pub split : first ++ rest ≡ put
  pub made : now ≡ with_all_dirty old ino first
  pub whole : with_all_dirty now ino rest ≡ with_all_dirty old ino put

all_dirty-append : (old : Pages) (ino : ℕ) (first rest : List (ℕ × List ℕ)) → with_all_dirty old ino (first ++ rest) ≡ with_all_dirty (with_all_dirty old ino first) ino rest
all_dirty-append old ino [] rest = refl
all_dirty-append old ino (p ∷ first) rest = all_dirty-append (with_dirty old ino p.0 p.1) ino first rest

pub adding_more : (old now : Pages) (ino block : ℕ) (bytes : List ℕ) (rest put : List (ℕ × List ℕ)) → Adding old now ino ((block, bytes) ∷ rest) put → Adding old (with_dirty now ino block bytes) ino rest put
adding_more old now ino block bytes rest put so = record {
  added = added_more old now ino block bytes so.added so.new.0;
  new = so.new.1;
  first = so.first ++ (block, bytes) ∷ [];
  split = append_assoc so.first ((block, bytes) ∷ []) rest ∙ so.split;
  made = ap (λ held. with_dirty held ino block bytes) so.made ∙ sym (all_dirty-append old ino so.first ((block, bytes) ∷ []));
  whole = so.whole;
}

-- one page more is told apart
pub parted_new : (pages : Pages) (ino block : ℕ) (bytes : List ℕ) (put rest new old : List (ℕ × List ℕ)) → Parted pages ino put ((block, bytes) ∷ rest) new old → is_some (dirty_at pages ino block) ≡ false → Parted pages ino put rest (new ++ (block, bytes) ∷ []) old
parted_new pages ino block bytes put rest new old so none =
    let a = rw none at so.new_so_far in
    let b = rw none at so.old_so_far in
    record { new_so_far = append_assoc new ((block, bytes) ∷ []) (new_pages pages ino rest) ∙ a; old_so_far = b }

pub parted_old : (pages : Pages) (ino block : ℕ) (bytes : List ℕ) (put rest new old : List (ℕ × List ℕ)) → Parted pages ino put ((block, bytes) ∷ rest) new old → is_some (dirty_at pages ino block) ≡ true → Parted pages ino put rest new (old ++ (block, bytes) ∷ [])
parted_old pages ino block bytes put rest new old so some =
    let a = rw some at so.new_so_far in
    let b = rw some at so.old_so_far in
    record { new_so_far = a; old_so_far = append_assoc old ((block, bytes) ∷ []) (old_pages pages ino rest) ∙ b }

-- what holds of a call that is done
pub when_ok : {T E : Type 0} (r : Result T E) (P : Type 0) → IsOk r → OnOk r P → P
when_ok (Ok t) P is told = told
when_ok (Err e) P is told = absurd (false≢true is)

-- and so they are where those behind the old ones are taken out
pub kept_first : (old now put new : Pages) (ino len : ℕ) (rest pages : List (ℕ × List ℕ)) → Adding old now ino rest pages → len ≡ length old.dirty → put ≡ now → new ≡ record put { dirty = take len put.dirty }
    → (first rest : List (ℕ × List ℕ)) × (first ++ rest ≡ pages) × (new ≡ record (with_all_dirty old ino first) { dirty = old.dirty })
kept_first old now put new ino len rest pages so n same is =
    let dirty : take len put.dirty ≡ old.dirty = ap (λ (held : Pages). take len held.dirty) same ∙ kept_front old now len so.added n in
    (so.first, rest, so.split, is ∙ ap (λ d. record put { dirty = d }) dirty ∙ ap (λ (held : Pages). record held { dirty = old.dirty }) (same ∙ so.made))
