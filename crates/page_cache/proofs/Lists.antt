-- Lists of entries, of which one is looked for by its key.
use Rattle.std.proofs.Common.{◌≡◌, ◌-◌, ◌<◌, ◌≤◌, Bool, true, false, List, [], ◌∷◌, ◌++◌, length, take, slice_get, is_some, Option, Some, None, refl, sym, ap, subst, ◌∙◌, arith, length-append}
use Rattle.std.specs.Cmp.{IsEquivalence}
use Rattle.std.specs.List.{AllByRecursion, IsDistinct}
use Rattle.std.specs.Option.{option_map_or}
use Rattle.std.specs.Map.{keys_of, lookup, lookup_key, lookup_entry, remove_entry, set_value}
use Rattle.std.proofs.lemmas.Bool.{false≢true}
use Rattle.std.proofs.lemmas.List.{take_all, take-append-le}
use Rattle.std.proofs.lemmas.Map.Keys.{IsDistinct-head, IsDistinct-tail}
use Rattle.lru.specs.LruCache.{LruCache, last_entry, promoted, demoted, put_entries}
use Rattle.lru.proofs.Pairs.{slice_get-cut}

-- a list with an entry has a last one
pub last_of : {X : Type 0} (xs : List X) → 0 < length xs → (ys : List X) × (y : X) × (xs ≡ ys ++ y ∷ [])
last_of [] h = absurd (omega (arith, h))
last_of (x ∷ []) h = ([], x, refl)
last_of (x ∷ z ∷ zs) h = let r = last_of (z ∷ zs) (omega arith) in (x ∷ r.0, r.1, ap (λ l. x ∷ l) r.2)

module _ {K V : Type 0} (test : K → Bool) where
  -- a key that is found passes the test
  pub key_passes : (es : List (K × V)) (k : K) → lookup_key test es ≡ Some k → test k ≡ true
  key_passes [] k h = absurd cc
  key_passes (e ∷ es) k h = (elim (test e.0) as (λ b. test e.0 ≡ b → test k ≡ true) [
    | true ↦ λ t. let h' = rw t at h in let same : e.0 ≡ k = cc in subst (λ n. test n ≡ true) same t
    | false ↦ λ t. key_passes es k (rw t at h)
  ]) refl

  -- a key that isn't there has no entry
  pub none_found : (es : List (K × V)) → is_some (lookup test es) ≡ false → lookup_entry test es ≡ None
  none_found [] h = refl
  none_found (e ∷ es) h = (elim (test e.0) as (λ b. test e.0 ≡ b → lookup_entry test (e ∷ es) ≡ None) [
    | true ↦ λ t. absurd (false≢true (sym (rw t at h)))
    | false ↦ λ t. rw t (none_found es (rw t at h))
  ]) refl

  -- a key that isn't there is set to nothing
  pub set_absent : (es : List (K × V)) (w : V) → lookup test es ≡ None → set_value test es w ≡ es
  set_absent [] w h = refl
  set_absent (e ∷ es) w h = (elim (test e.0) as (λ b. test e.0 ≡ b → set_value test (e ∷ es) w ≡ e ∷ es) [
    | true ↦ λ t. let h' = rw t at h in absurd cc
    | false ↦ λ t. rw t (ap (λ l. e ∷ l) (set_absent es w (rw t at h)))
  ]) refl

  -- what a key's entry is, the look-up finds
  pub value_of : (es : List (K × V)) (e : K × V) → lookup_entry test es ≡ Some e → (test e.0 ≡ true) × (lookup test es ≡ Some e.1)
  value_of [] e h = absurd cc
  value_of (f ∷ es) e h = (elim (test f.0) as (λ b. test f.0 ≡ b → (test e.0 ≡ true) × (lookup test (f ∷ es) ≡ Some e.1)) [
    | true ↦ λ t. let h' = rw t at h in let same : f ≡ e = cc in (subst (λ g. test g.0 ≡ true) same t, rw t (ap (λ g. Some g.1) same))
    | false ↦ λ t. let r = value_of es e (rw t at h) in (r.0, rw t r.1)
  ]) refl

  moved_to : (es : List (K × V)) (o : Option (K × V)) → lookup_entry test es ≡ o → lookup test (option_map_or (λ e. e ∷ remove_entry test es) o es) ≡ lookup test es
  moved_to es None h = refl
  moved_to es (Some e) h = let r = value_of es e h in rw r.0 (sym r.1)

  -- a look-up finds the same after what it finds has moved to the front
  pub found_promoted : (es : List (K × V)) → lookup test (promoted test es) ≡ lookup test es
  found_promoted es = moved_to es (lookup_entry test es) refl

module _ {K V : Type 0} (eq : K → K → Bool) (laws : IsEquivalence eq) where
  last_key : (P : K → Type 0) (es : List (K × V)) (e : K × V) → AllByRecursion P (keys_of (es ++ e ∷ [])) → P e.0
  last_key P [] e h = h.0
  last_key P (f ∷ es) e h = last_key P es e h.1

  pub last_found : (es : List (K × V)) (e : K × V) → IsDistinct eq (keys_of (es ++ e ∷ [])) → (lookup_entry (eq e.0) (es ++ e ∷ []) ≡ Some e) × (remove_entry (eq e.0) (es ++ e ∷ []) ≡ es)
  last_found [] e h = (rw (laws.refl e.0) refl, rw (laws.refl e.0) refl)
  last_found (f ∷ es) e h =
      let other : eq e.0 f.0 ≡ false = laws.symm e.0 f.0 ∙ last_key (λ y. eq f.0 y ≡ false) es e (IsDistinct-head eq f.0 (keys_of (es ++ e ∷ [])) h) in
      let rest = last_found es e (IsDistinct-tail eq f.0 (keys_of (es ++ e ∷ [])) h) in
      (rw other rest.0, rw other (ap (λ l. f ∷ l) rest.1))

  -- the last entry: what is seen of it, what is left without it, and what is there once it has moved to the front
  pub turned : (xs es : List (K × V)) (e : K × V) → xs ≡ es ++ e ∷ [] → IsDistinct eq (keys_of xs) → (last_entry xs ≡ Some e) × (take (length xs - 1) xs ≡ es) × (promoted (eq e.0) xs ≡ e ∷ es)
  turned xs es e is distinct =
      let n : length xs - 1 ≡ length es = omega (arith, ap length is, length-append es (e ∷ [])) in
      let found = last_found es e (subst (λ l. IsDistinct eq (keys_of l)) is distinct) in
      let seen : last_entry xs ≡ Some e = ap (λ k. slice_get xs k) n ∙ (ap (λ l. slice_get l (length es)) is ∙ slice_get-cut es e []) in
      let left : take (length xs - 1) xs ≡ es = ap (λ k. take k xs) n ∙ (ap (λ l. take (length es) l) is ∙ (take-append-le (length es) es (e ∷ []) (omega arith) ∙ take_all (length es) es (omega arith))) in
      let front : promoted (eq e.0) xs ≡ e ∷ es = ap (λ l. promoted (eq e.0) l) is ∙ (ap (λ o. option_map_or (λ f. f ∷ remove_entry (eq e.0) (es ++ e ∷ [])) o (es ++ e ∷ [])) found.0 ∙ ap (λ l. e ∷ l) found.1) in
      (seen, left, front)

  -- a new entry that was put to the front of a list with room, and moved to the end
  pub added_last : (l : LruCache K V) (k : K) (v : V) → is_some (lookup (eq k) l.entries) ≡ false → length l.entries ≤ l.cap - 1 → demoted (eq k) (put_entries eq l k v) ≡ l.entries ++ (k, v) ∷ []
  added_last l k v none few =
      let first : put_entries eq l k v ≡ (k, v) ∷ l.entries = ap (λ o. option_map_or (λ e. (e.0, v) ∷ remove_entry (eq k) l.entries) o ((k, v) ∷ take (l.cap - 1) l.entries)) (none_found (eq k) l.entries none) ∙ ap (λ es. (k, v) ∷ es) (take_all (l.cap - 1) l.entries few) in
      ap (λ es. demoted (eq k) es) first ∙ at_end l.entries
    where
      at_end : (es : List (K × V)) → demoted (eq k) ((k, v) ∷ es) ≡ es ++ (k, v) ∷ []
      at_end es = rw (laws.refl k) refl
