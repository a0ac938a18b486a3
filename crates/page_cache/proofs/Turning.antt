-- A list of pages that is turned round once, while some of them are taken out.
use Rattle.std.proofs.Common.{◌≡◌, ℕ, ◌+◌, ◌-◌, ◌^◌, ◌<◌, Bool, true, false, cond, not, List, [], ◌∷◌, ◌++◌, length, take, slice_get, Some, None, refl, sym, ap, ◌∙◌, arith, append_assoc, append-nil, length-append}
use Rattle.std.specs.List.{IsDistinct}
use Rattle.std.specs.Map.{keys_of}
use Rattle.std.specs.Option.{option_map}
use Rattle.std.specs.Prelude.{filter}
use Rattle.lru.specs.LruCache.{LruCache, lru_cache, last_entry, promoted}
use Rattle.lru.proofs.Pairs.{slice_get-cut}
use Rattle.page_cache.specs.Pages.{is_page, is_cut, cut_list, cut_count}
use Rattle.page_cache.proofs.Lists.{last_of, turned}
use Rattle.page_cache.proofs.Names.{is_page_laws}

-- the pages at the end are still to be looked at; of the others those that aren't cut stand in front
pub record TurnedSoFar {V : Type 0} (old list : LruCache (ℕ × ℕ) V) (ino from n k : ℕ) : Type 0 where
  pub ahead : List ((ℕ × ℕ) × V)
  pub seen : List ((ℕ × ℕ) × V)
  pub whole : old.entries ≡ ahead ++ seen
  pub here : list.entries ≡ cut_list seen ino from ++ ahead
  pub room : list.cap ≡ old.cap
  pub left : length ahead ≡ n
  pub gone : k ≡ cut_count seen ino from
  pub small : k + n < 2 ^ 63

stays_small : (n k a : ℕ) (b : Bool) → a ≡ cond b 1 0 → 0 < n → k + n < 2 ^ 63 → (k + a) + (n - 1) < 2 ^ 63
stays_small n k a true is some few = omega (arith, is, some, few)
stays_small n k a false is some few = omega (arith, is, some, few)

module _ {V : Type 0} where
  pub begins : (old : LruCache (ℕ × ℕ) V) (ino from n : ℕ) → n ≡ length old.entries → n < 2 ^ 63 → TurnedSoFar old old ino from n 0
  begins old ino from n is few = record {
    ahead = old.entries;
    seen = [];
    whole = sym (append-nil old.entries);
    here = refl;
    room = refl;
    left = sym is;
    gone = refl;
    small = omega (arith, few);
  }

  placed : (xs ahead : List ((ℕ × ℕ) × V)) (e : (ℕ × ℕ) × V) (b : Bool) → cond b (xs ++ ahead) (e ∷ xs ++ ahead) ≡ cond (not b) (e ∷ xs) xs ++ ahead
  placed xs ahead e true = refl
  placed xs ahead e false = refl

  one_more : (k a : ℕ) (xs : List ((ℕ × ℕ) × V)) (e : (ℕ × ℕ) × V) (b : Bool) → k ≡ length xs → a ≡ cond b 1 0 → k + a ≡ length (cond b (e ∷ xs) xs)
  one_more k a xs e true h is = omega (arith, h, is)
  one_more k a xs e false h is = omega (arith, h, is)

  -- one more page is looked at
  pub goes_on : (old list new : LruCache (ℕ × ℕ) V) (ino from n k a : ℕ) → TurnedSoFar old list ino from n k → 0 < n
      → ((e : (ℕ × ℕ) × V) (es : List ((ℕ × ℕ) × V)) → list.entries ≡ es ++ e ∷ [] → (a ≡ cond (is_cut ino from e.0) 1 0) × (new ≡ lru_cache (cond (is_cut ino from e.0) es (e ∷ es)) list.cap))
      → TurnedSoFar old new ino from (n - 1) (k + a)
  goes_on old list new ino from n k a s some turn =
      let split = last_of s.ahead (omega (arith, s.left, some)) in
      let xs = cut_list s.seen ino from in
      let ahead = split.0 in
      let e = split.1 in
      let is : list.entries ≡ (xs ++ ahead) ++ e ∷ [] = s.here ∙ (ap (λ l. xs ++ l) split.2 ∙ sym (append_assoc xs ahead (e ∷ []))) in
      let t = turn e (xs ++ ahead) is in
      let long : length s.ahead ≡ length ahead + 1 = omega (arith, ap length split.2, length-append ahead (e ∷ [])) in
      record {
        ahead = ahead;
        seen = e ∷ s.seen;
        whole = s.whole ∙ (ap (λ l. l ++ s.seen) split.2 ∙ append_assoc ahead (e ∷ []) s.seen);
        here = ap (λ l. l.entries) t.1 ∙ placed xs ahead e (is_cut ino from e.0);
        room = ap (λ l. l.cap) t.1 ∙ s.room;
        left = omega (arith, long, s.left);
        gone = one_more k a (filter (λ f. is_cut ino from f.0) s.seen) e (is_cut ino from e.0) s.gone t.0;
        small = stays_small n k a (is_cut ino from e.0) t.0 some s.small;
      }

  no_more : (xs : List ((ℕ × ℕ) × V)) → length xs ≡ 0 → xs ≡ []
  no_more [] h = refl
  no_more (x ∷ xs) h = absurd (omega (arith, h))

  -- all were looked at
  pub ends : (old list : LruCache (ℕ × ℕ) V) (ino from n k : ℕ) → TurnedSoFar old list ino from n k → n ≡ 0 → (list ≡ lru_cache (cut_list old.entries ino from) old.cap) × (k ≡ cut_count old.entries ino from)
  ends old list ino from n k s none =
      let nil = no_more s.ahead (s.left ∙ none) in
      let whole : old.entries ≡ s.seen = s.whole ∙ ap (λ l. l ++ s.seen) nil in
      let here : list.entries ≡ cut_list old.entries ino from = s.here ∙ (ap (λ l. cut_list s.seen ino from ++ l) nil ∙ (append-nil (cut_list s.seen ino from) ∙ ap (λ l. cut_list l ino from) (sym whole))) in
      (λ i. lru_cache (here i) (s.room i), s.gone ∙ ap (λ l. cut_count l ino from) (sym whole))

  -- what is done with the last page, where its name is known
  pub turned_by_name : (list new : LruCache (ℕ × ℕ) V) (name : ℕ × ℕ) (ino from a : ℕ) → IsDistinct is_page (keys_of list.entries) → option_map (λ (f : (ℕ × ℕ) × V). f.0) (last_entry list.entries) ≡ Some name
      → a ≡ cond (is_cut ino from name) 1 0
      → new ≡ lru_cache (cond (is_cut ino from name) (take (length list.entries - 1) list.entries) (promoted (is_page name) list.entries)) list.cap
      → (e : (ℕ × ℕ) × V) (es : List ((ℕ × ℕ) × V)) → list.entries ≡ es ++ e ∷ [] → (a ≡ cond (is_cut ino from e.0) 1 0) × (new ≡ lru_cache (cond (is_cut ino from e.0) es (e ∷ es)) list.cap)
  turned_by_name list new name ino from a distinct last told moved e es is =
      let t = turned is_page is_page_laws list.entries es e is distinct in
      let found : Some e.0 ≡ Some name = sym (ap (option_map (λ (f : (ℕ × ℕ) × V). f.0)) t.0) ∙ last in
      let same : name ≡ e.0 = cc in (
        told ∙ ap (λ m. cond (is_cut ino from m) 1 0) same,
        moved ∙ (ap (λ m. lru_cache (cond (is_cut ino from m) (take (length list.entries - 1) list.entries) (promoted (is_page m) list.entries)) list.cap) same ∙ (λ i. lru_cache (cond (is_cut ino from e.0) (t.1 i) (t.2 i)) list.cap)),
      )

  -- a list with an entry at its end has a last one
  pub last_there : (xs es : List ((ℕ × ℕ) × V)) (e : (ℕ × ℕ) × V) → xs ≡ es ++ e ∷ [] → option_map (λ (f : (ℕ × ℕ) × V). f.0) (last_entry xs) ≡ None → ⊥
  last_there xs es e is none =
      let n : length xs - 1 ≡ length es = omega (arith, ap length is, length-append es (e ∷ [])) in
      let seen : last_entry xs ≡ Some e = ap (λ k. slice_get xs k) n ∙ (ap (λ l. slice_get l (length es)) is ∙ slice_get-cut es e []) in
      let found : Some e.0 ≡ None = sym (ap (option_map (λ (f : (ℕ × ℕ) × V). f.0)) seen) ∙ none in
      absurd cc
