-- What is seen of cells that are made, put, emptied and taken out.
use Rattle.std.proofs.Common.{◌≡◌, Bool, true, false, cond, not, ◌||◌, List, [], ◌∷◌, Option, Some, None, refl, sym, ap, ◌∙◌}
use Rattle.std.specs.Prelude.{is_some, filter, unwrap_or}
use Rattle.std.specs.Option.{option_map}
use Rattle.std.specs.List.{AllByRecursion, cons_option, list_any}
use Rattle.std.specs.List.Sorted.{IsStrictlySortedBy}
use Rattle.std.specs.Map.{lookup, remove_entry, set_value, keys_of}
use Rattle.std.specs.BTreeMap.{is_at, insert_entry}
use Rattle.std.specs.Cmp.{IsTotalOrder}
use Rattle.std.specs.Ordering.{is_eq, match_ordering}
use Rattle.std.specs.declared.cmp.Ordering.{Ordering}
use Rattle.std.specs.declared.cmp.Ordering.TheVariants.{Less, Equal, Greater}
use Rattle.std.proofs.lemmas.Bool.{false≢true}
use Rattle.std.proofs.lemmas.Map.Lookups.{CmpEqualImpliesEq}
use Rattle.std.proofs.lemmas.Map.Keys.{sorted_head, sorted_tail}
use Rattle.plain_backing.specs.Cells.{seen_cells, has_cell, is_empty_cell, cleared}

-- each key is past k
abbrev pub Above : {K : Type 0} → (K → K → Ordering) → K → List K → Type 0
Above cmp k keys = AllByRecursion (λ y. cmp k y ≡ Less) keys

pub above-less : {K : Type 0} {cmp : K → K → Ordering} → IsTotalOrder cmp → (k e : K) (ys : List K) → cmp k e ≡ Less → Above cmp e ys → Above cmp k ys
above-less o k e [] l h = tt
above-less o k e (y ∷ ys) l h = (o.trans k e y l h.0, above-less o k e ys l h.1)

pub above-same : {K : Type 0} {cmp : K → K → Ordering} → IsTotalOrder cmp → (k e : K) (ys : List K) → cmp k e ≡ Equal → Above cmp e ys → Above cmp k ys
above-same o k e [] l h = tt
above-same o k e (y ∷ ys) l h = (o.congr k e y l ∙ h.0, above-same o k e ys l h.1)

-- nothing stands at k before all keys
pub lookup-above : {K X : Type 0} (cmp : K → K → Ordering) (k : K) (es : List (K × X)) → Above cmp k (keys_of es) → lookup (is_at (cmp k)) es ≡ None
lookup-above cmp k [] h = refl
lookup-above cmp k (e ∷ es) h = rw h.0 (lookup-above cmp k es h.1)

insert-above : {K X : Type 0} (cmp : K → K → Ordering) (k : K) (v : X) (es : List (K × X)) → Above cmp k (keys_of es) → insert_entry cmp es k v ≡ (k, v) ∷ es
insert-above cmp k v [] h = refl
insert-above cmp k v (e ∷ es) h = rw h.0 refl

remove-above : {K X : Type 0} (cmp : K → K → Ordering) (k : K) (es : List (K × X)) → Above cmp k (keys_of es) → remove_entry (is_at (cmp k)) es ≡ es
remove-above cmp k [] h = refl
remove-above cmp k (e ∷ es) h = rw h.0 (ap (λ xs. e ∷ xs) (remove-above cmp k es h.1))

-- the keys that are seen are among the cells'
pub all-seen : {K V : Type 0} (P : K → Type 0) (cells : List (K × Option V)) → AllByRecursion P (keys_of cells) → AllByRecursion P (keys_of (seen_cells cells))
all-seen P [] h = tt
all-seen {K} {V} P (c ∷ cells) h = by (all-seen P cells h.1) c.1
  where
    by : AllByRecursion P (keys_of (seen_cells cells)) → (o : Option V) → AllByRecursion P (keys_of (cons_option (option_map (λ w. (c.0, w)) o) (seen_cells cells)))
    by more None = more
    by more (Some w) = (h.0, more)

pub sorted-seen : {K V : Type 0} (cmp : K → K → Ordering) (cells : List (K × Option V)) → IsStrictlySortedBy cmp (keys_of cells) → IsStrictlySortedBy cmp (keys_of (seen_cells cells))
unfolding IsStrictlySortedBy
sorted-seen cmp [] s = tt
sorted-seen {K} {V} cmp (c ∷ cells) s = by (all-seen (λ y. cmp c.0 y ≡ Less) cells s.0) (sorted-seen cmp cells s.1) c.1
  where
    by : AllByRecursion (λ y. cmp c.0 y ≡ Less) (keys_of (seen_cells cells)) → IsStrictlySortedBy cmp (keys_of (seen_cells cells)) → (o : Option V) → IsStrictlySortedBy cmp (keys_of (cons_option (option_map (λ w. (c.0, w)) o) (seen_cells cells)))
    by above more None = more
    by above more (Some w) = (above, more)

-- an empty cell that is taken out wasn't seen
pub seen-remove_entry : {K V : Type 0} (test : K → Bool) (cells : List (K × Option V)) → lookup test cells ≡ Some None → seen_cells (remove_entry test cells) ≡ seen_cells cells
seen-remove_entry test [] h = refl
seen-remove_entry {K} {V} test (c ∷ cells) h = by (seen-remove_entry test cells) (test c.0) c.1 h
  where
    by : (lookup test cells ≡ Some None → seen_cells (remove_entry test cells) ≡ seen_cells cells) → (b : Bool) (o : Option V) → cond b (Some o) (lookup test cells) ≡ Some None
        → seen_cells (cond b cells ((c.0, o) ∷ remove_entry test cells)) ≡ cons_option (option_map (λ w. (c.0, w)) o) (seen_cells cells)
    by more true None h = refl
    by more true (Some w) h = absurd cc
    by more false o h = ap (cons_option (option_map (λ w. (c.0, w)) o)) (more h)

-- an empty cell that is made isn't seen
pub seen-insert_empty : {K V : Type 0} (cmp : K → K → Ordering) (cells : List (K × Option V)) (k : K) → lookup (is_at (cmp k)) cells ≡ None → seen_cells (insert_entry cmp cells k None) ≡ seen_cells cells
seen-insert_empty cmp [] k h = refl
seen-insert_empty {K} {V} cmp (c ∷ cells) k h = by (seen-insert_empty cmp cells k) (cmp k c.0) h
  where
    by : (lookup (is_at (cmp k)) cells ≡ None → seen_cells (insert_entry cmp cells k None) ≡ seen_cells cells) → (o : Ordering) → cond (is_eq o) (Some c.1) (lookup (is_at (cmp k)) cells) ≡ None
        → seen_cells (match_ordering o ((k, None) ∷ c ∷ cells) ((c.0, None) ∷ cells) (c ∷ insert_entry cmp cells k None)) ≡ seen_cells (c ∷ cells)
    by more Less h = refl
    by more Equal h = absurd cc
    by more Greater h = ap (cons_option (option_map (λ w. (c.0, w)) c.1)) (more h)

-- what is seen at a key is what its cell holds
pub lookup-seen : {K V : Type 0} {cmp : K → K → Ordering} → IsTotalOrder cmp → (cells : List (K × Option V)) (k : K) → IsStrictlySortedBy cmp (keys_of cells) → lookup (is_at (cmp k)) (seen_cells cells) ≡ unwrap_or (lookup (is_at (cmp k)) cells) None
lookup-seen o [] k s = refl
lookup-seen {K} {V} {cmp} o (c ∷ cells) k s =
    by (lookup-seen o cells k (sorted_tail cmp c.0 (keys_of cells) s)) (λ e. lookup-above cmp k (seen_cells cells) (all-seen (λ y. cmp k y ≡ Less) cells (above-same o k c.0 (keys_of cells) e (sorted_head cmp c.0 (keys_of cells) s)))) (cmp k c.0) refl c.1
  where
    by : lookup (is_at (cmp k)) (seen_cells cells) ≡ unwrap_or (lookup (is_at (cmp k)) cells) None → (cmp k c.0 ≡ Equal → lookup (is_at (cmp k)) (seen_cells cells) ≡ None) → (p : Ordering) → cmp k c.0 ≡ p → (x : Option V)
        → lookup (is_at (cmp k)) (cons_option (option_map (λ w. (c.0, w)) x) (seen_cells cells)) ≡ unwrap_or (cond (is_eq p) (Some x) (lookup (is_at (cmp k)) cells)) None
    by more none Less e None = more
    by more none Less e (Some w) = rw e more
    by more none Equal e None = none e
    by more none Equal e (Some w) = rw e refl
    by more none Greater e None = more
    by more none Greater e (Some w) = rw e more

-- a value that is put into a cell is inserted
pub seen-put : {K V : Type 0} {cmp : K → K → Ordering} → IsTotalOrder cmp → CmpEqualImpliesEq cmp → (cells : List (K × Option V)) (k : K) (v : V) → IsStrictlySortedBy cmp (keys_of cells) → has_cell cmp cells k ≡ true
    → seen_cells (set_value (is_at (cmp k)) cells (Some v)) ≡ insert_entry cmp (seen_cells cells) k v
seen-put o exact [] k v s h = absurd (false≢true h)
seen-put {K} {V} {cmp} o exact (c ∷ cells) k v s h =
    by (seen-put o exact cells k v (sorted_tail cmp c.0 (keys_of cells) s)) (sorted_head cmp c.0 (keys_of cells) s) (cmp k c.0) refl c.1 h
  where
    by : (has_cell cmp cells k ≡ true → seen_cells (set_value (is_at (cmp k)) cells (Some v)) ≡ insert_entry cmp (seen_cells cells) k v) → Above cmp c.0 (keys_of cells) → (p : Ordering) → cmp k c.0 ≡ p → (x : Option V)
        → is_some (cond (is_eq p) (Some x) (lookup (is_at (cmp k)) cells)) ≡ true
        → seen_cells (cond (is_eq p) ((c.0, Some v) ∷ cells) ((c.0, x) ∷ set_value (is_at (cmp k)) cells (Some v))) ≡ insert_entry cmp (cons_option (option_map (λ w. (c.0, w)) x) (seen_cells cells)) k v
    by more above Less e x h = absurd (false≢true (sym (ap is_some (lookup-above cmp k cells (above-less o k c.0 (keys_of cells) e above))) ∙ h))
    by more above Equal e None h =
        ap (λ (z : K). (z, v) ∷ seen_cells cells) (sym (exact k c.0 e)) ∙ sym (insert-above cmp k v (seen_cells cells) (all-seen (λ y. cmp k y ≡ Less) cells (above-same o k c.0 (keys_of cells) e above)))
    by more above Equal e (Some w) h = rw e refl
    by more above Greater e None h = more h
    by more above Greater e (Some w) h = rw e (ap (λ xs. (c.0, w) ∷ xs) (more h))

-- a value that is inserted with its cell is inserted
pub seen-inserted : {K V : Type 0} {cmp : K → K → Ordering} → IsTotalOrder cmp → CmpEqualImpliesEq cmp → (cells : List (K × Option V)) (k : K) (v : V) → IsStrictlySortedBy cmp (keys_of cells)
    → seen_cells (insert_entry cmp cells k (Some v)) ≡ insert_entry cmp (seen_cells cells) k v
seen-inserted o exact [] k v s = refl
seen-inserted {K} {V} {cmp} o exact (c ∷ cells) k v s =
    by (seen-inserted o exact cells k v (sorted_tail cmp c.0 (keys_of cells) s)) (sorted_head cmp c.0 (keys_of cells) s) (cmp k c.0) refl c.1
  where
    by : seen_cells (insert_entry cmp cells k (Some v)) ≡ insert_entry cmp (seen_cells cells) k v → Above cmp c.0 (keys_of cells) → (p : Ordering) → cmp k c.0 ≡ p → (x : Option V)
        → seen_cells (match_ordering p ((k, Some v) ∷ (c.0, x) ∷ cells) ((c.0, Some v) ∷ cells) ((c.0, x) ∷ insert_entry cmp cells k (Some v))) ≡ insert_entry cmp (cons_option (option_map (λ w. (c.0, w)) x) (seen_cells cells)) k v
    by more above Less e None = sym (insert-above cmp k v (seen_cells cells) (all-seen (λ y. cmp k y ≡ Less) cells (above-less o k c.0 (keys_of cells) e above)))
    by more above Less e (Some w) = rw e refl
    by more above Equal e None =
        ap (λ (z : K). (z, v) ∷ seen_cells cells) (sym (exact k c.0 e)) ∙ sym (insert-above cmp k v (seen_cells cells) (all-seen (λ y. cmp k y ≡ Less) cells (above-same o k c.0 (keys_of cells) e above)))
    by more above Equal e (Some w) = rw e refl
    by more above Greater e None = more
    by more above Greater e (Some w) = rw e (ap (λ xs. (c.0, w) ∷ xs) more)

-- a cell that is emptied is removed
pub seen-emptied : {K V : Type 0} {cmp : K → K → Ordering} → IsTotalOrder cmp → (cells : List (K × Option V)) (k : K) → IsStrictlySortedBy cmp (keys_of cells) → seen_cells (set_value (is_at (cmp k)) cells None) ≡ remove_entry (is_at (cmp k)) (seen_cells cells)
seen-emptied o [] k s = refl
seen-emptied {K} {V} {cmp} o (c ∷ cells) k s =
    by (seen-emptied o cells k (sorted_tail cmp c.0 (keys_of cells) s)) (sorted_head cmp c.0 (keys_of cells) s) (cmp k c.0) refl c.1
  where
    by : seen_cells (set_value (is_at (cmp k)) cells None) ≡ remove_entry (is_at (cmp k)) (seen_cells cells) → Above cmp c.0 (keys_of cells) → (p : Ordering) → cmp k c.0 ≡ p → (x : Option V)
        → seen_cells (cond (is_eq p) ((c.0, None) ∷ cells) ((c.0, x) ∷ set_value (is_at (cmp k)) cells None)) ≡ remove_entry (is_at (cmp k)) (cons_option (option_map (λ w. (c.0, w)) x) (seen_cells cells))
    by more above Less e None = more
    by more above Less e (Some w) = rw e (ap (λ xs. (c.0, w) ∷ xs) more)
    by more above Equal e None = sym (remove-above cmp k (seen_cells cells) (all-seen (λ y. cmp k y ≡ Less) cells (above-same o k c.0 (keys_of cells) e above)))
    by more above Equal e (Some w) = rw e refl
    by more above Greater e None = more
    by more above Greater e (Some w) = rw e (ap (λ xs. (c.0, w) ∷ xs) more)

-- whether a key has a cell shows in the keys
has-keys : {K X : Type 0} (test : K → Bool) (es : List (K × X)) → is_some (lookup test es) ≡ list_any test (keys_of es)
has-keys test [] = refl
has-keys test (e ∷ es) = by (test e.0) (has-keys test es)
  where
    by : (b : Bool) → is_some (lookup test es) ≡ list_any test (keys_of es) → is_some (cond b (Some e.1) (lookup test es)) ≡ (b || list_any test (keys_of es))
    by true more = refl
    by false more = more

pub has-same : {K X Y : Type 0} (test : K → Bool) (es : List (K × X)) (fs : List (K × Y)) → keys_of fs ≡ keys_of es → is_some (lookup test fs) ≡ is_some (lookup test es)
has-same test es fs e = has-keys test fs ∙ ap (list_any test) e ∙ sym (has-keys test es)

-- a key has a cell still where another one was made
pub has-made : {V : Type 0} (b : Bool) (w : V) (o n : Option V) → n ≡ cond b (Some w) o → is_some o ≡ true → is_some n ≡ true
has-made true w o n e h = ap is_some e
has-made false w o n e h = ap is_some e ∙ h

-- cells that are emptied by a test of their keys are filtered
pub seen-cleared : {K V : Type 0} (p : K → Bool) (cells : List (K × Option V)) → seen_cells (cleared p cells) ≡ filter (λ e. not (p e.0)) (seen_cells cells)
seen-cleared p [] = refl
seen-cleared {K} {V} p (c ∷ cells) = by (seen-cleared p cells) (p c.0) refl c.1
  where
    by : seen_cells (cleared p cells) ≡ filter (λ e. not (p e.0)) (seen_cells cells) → (b : Bool) → p c.0 ≡ b → (x : Option V)
        → cons_option (option_map (λ w. (c.0, w)) (cond b None x)) (seen_cells (cleared p cells)) ≡ filter (λ e. not (p e.0)) (cons_option (option_map (λ w. (c.0, w)) x) (seen_cells cells))
    by more true e None = more
    by more true e (Some w) = rw e more
    by more false e None = more
    by more false e (Some w) = rw e (ap (λ xs. (c.0, w) ∷ xs) more)

pub keys-cleared : {K V : Type 0} (p : K → Bool) (cells : List (K × Option V)) → keys_of (cleared p cells) ≡ keys_of cells
keys-cleared p [] = refl
keys-cleared p (c ∷ cells) = ap (λ ks. c.0 ∷ ks) (keys-cleared p cells)

pub cleared-none : {K V : Type 0} (p : K → Bool) (cells : List (K × Option V)) → AllByRecursion (λ k. p k ≡ false) (keys_of cells) → cleared p cells ≡ cells
cleared-none p [] h = refl
cleared-none p (c ∷ cells) h = rw h.0 (ap (λ xs. c ∷ xs) (cleared-none p cells h.1))

pub none_from : {X : Type 0} (o : Option X) → is_some o ≡ false → o ≡ None
none_from None h = refl
none_from (Some x) h = absurd cc

-- where a key has no cell, nothing is put
pub put-absent : {K X : Type 0} (test : K → Bool) (es : List (K × X)) (w : X) → lookup test es ≡ None → set_value test es w ≡ es
put-absent test [] w h = refl
put-absent test (e ∷ es) w h = by (put-absent test es w) (test e.0) h
  where
    by : (lookup test es ≡ None → set_value test es w ≡ es) → (b : Bool) → cond b (Some e.1) (lookup test es) ≡ None → cond b ((e.0, w) ∷ es) (e ∷ set_value test es w) ≡ e ∷ es
    by more true h = absurd cc
    by more false h = ap (λ xs. e ∷ xs) (more h)

pub empty_from : {V : Type 0} (o : Option (Option V)) → is_empty_cell o ≡ true → o ≡ Some None
empty_from None h = absurd cc
empty_from (Some None) h = refl
empty_from (Some (Some v)) h = absurd cc
