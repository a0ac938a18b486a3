-- What is read of a range of cells is what is read of all.
use Rattle.std.proofs.Common.{◌≡◌, ℕ, ◌+◌, ◌<◌, ◌≤◌, Bool, true, false, cond, not, ◌&&◌, List, [], ◌∷◌, ◌++◌, length, Option, Some, None, refl, sym, ap, subst, ◌∙◌, arith, inl, inr, max, append_assoc, length-append}
use Rattle.std.specs.Prelude.{◌==◌, filter, unwrap_or, is_some}
use Rattle.std.specs.Option.{option_map}
use Rattle.std.specs.List.{AllByRecursion, cons_option}
use Rattle.std.specs.List.Sorted.{IsStrictlySortedBy}
use Rattle.std.specs.Map.{keys_of}
use Rattle.std.specs.BTreeMap.Range.{range_contains, is_from_start, is_past_end, IsLeBy}
use Rattle.std.specs.Bool.{⊤}
use Rattle.std.specs.Bound.{MatchBound}
use Rattle.std.specs.Cmp.{nat_cmp_is, IsTotalOrder}
use Rattle.std.specs.Cmp.Lexicographic.{slice_cmp}
use Rattle.std.specs.Ordering.{nat_cmp, is_le, is_lt, is_gt, ordering_then, ordering_reverse}
use Rattle.std.specs.declared.cmp.Ordering.{Ordering}
use Rattle.std.specs.declared.cmp.Ordering.TheVariants.{Less, Equal, Greater}
use Rattle.std.specs.declared.ops.Bound.{Bound}
use Rattle.std.specs.declared.ops.Bound.TheVariants.{Included, Excluded, Unbounded}
use Rattle.std.proofs.lemmas.Bool.{false≢true}
use Rattle.std.proofs.lemmas.Bool.Decides.{eqb_tells, nat_tests}
use Rattle.std.proofs.lemmas.List.Elements.{filter_map-append}
use Rattle.fs_model.specs.declared.inode.Entry.{Entry}
use Rattle.plain_backing.specs.declared.tree_cells.Named.{Named}
use Rattle.plain_backing.specs.Cells.{seen_cells}
use Rattle.fs_model.specs.Files.{Blocks, pair_cmp, name_cmp}
use Rattle.plain_backing.specs.TreeCells.{entry_of, in_directory}
use Rattle.fs_model.specs.Files.{last_block_of}
use Rattle.plain_backing.proofs.Seen.{all-seen}
use Rattle.plain_backing.proofs.Walk.{le_from, pair_le}

-- the end of what begins with one number is past all of it
pub past_next : {X : Type 0} (compare : X → X → Ordering) (first : X) (n : ℕ) (k : ℕ × X) → k.0 ≡ n → is_le (ordering_then (nat_cmp (n + 1) k.0) (compare first k.1)) ≡ false
past_next compare first n k same =
    let g : nat_cmp (n + 1) k.0 ≡ Greater = sym (nat_cmp_is (n + 1) k.0 Greater (omega arith)) in
    rw g refl

name_from : (dir : ℕ) (k : ℕ × List ℕ) → k.0 ≡ dir → is_from_start name_cmp (Included (dir, [])) k ≡ true
name_from dir k same =
    let a : nat_cmp dir k.0 ≡ Equal = sym (nat_cmp_is dir k.0 Equal (sym same)) in
    rw a (by k.1)
  where
    by : (name : List ℕ) → is_le (slice_cmp nat_cmp [] name) ≡ true
    by [] = refl
    by (x ∷ xs) = refl

in_range : (a b : Bool) → a ≡ true → b ≡ false → (a && not b) ≡ true
in_range a b p q = rw (p, q) refl

names_in : (dir : ℕ) (end : Bound (ℕ × List ℕ)) → ((k : ℕ × List ℕ) → k.0 ≡ dir → is_past_end name_cmp end k ≡ false) → (k : ℕ × List ℕ) → k.0 ≡ dir → range_contains name_cmp (Included (dir, [])) end k ≡ true
names_in dir end past k same = in_range _ _ (name_from dir k same) (past k same)

pub blocks_in : (ino : ℕ) (end : Bound (ℕ × ℕ)) → ((k : ℕ × ℕ) → k.0 ≡ ino → is_past_end pair_cmp end k ≡ false) → (k : ℕ × ℕ) → k.0 ≡ ino → range_contains pair_cmp (Included (ino, 0)) end k ≡ true
blocks_in ino end past k same = in_range _ _ (le_from ino 0 k same (omega arith)) (past k same)

-- a range ends where it begins or later
pub forward : {K : Type 0} {cmp : K → K → Ordering} → IsTotalOrder cmp → (a : K) (end : Bound K) → is_past_end cmp end a ≡ false → MatchBound end (IsLeBy cmp a) (IsLeBy cmp a) ⊤
forward {cmp = cmp} o a (Included b) h = rw (o.antisymm a b) (by (cmp b a) h)
  where
    by : (p : Ordering) → is_lt p ≡ false → is_gt (ordering_reverse p) ≡ false
    by Less e = absurd cc
    by Equal e = refl
    by Greater e = refl
forward {cmp = cmp} o a (Excluded b) h = rw (o.antisymm a b) (by (cmp b a) h)
  where
    by : (p : Ordering) → is_le p ≡ false → is_gt (ordering_reverse p) ≡ false
    by Less e = absurd cc
    by Equal e = absurd cc
    by Greater e = refl
forward o a Unbounded h = tt

pub and_none : (b : Bool) (o : Option (List ℕ)) → is_some o ≡ false → (b && is_some o) ≡ false
and_none true o h = h
and_none false o h = refl

pub and_other : (a b : ℕ) (c : Bool) → (a ≡ b → ⊥) → ((a == b) && c) ≡ false
and_other a b c h = elim (eqb_tells a b) [ inl same ↦ absurd (h same.1) | inr other ↦ rw other.0 refl ]

-- ---- the entries of a directory
in_directory-cons : (dir : ℕ) (c : (ℕ × List ℕ) × Option Named) (cells : List ((ℕ × List ℕ) × Option Named)) → in_directory dir (c ∷ cells) ≡ in_directory dir (c ∷ []) ++ in_directory dir cells
in_directory-cons dir c cells = by c.1
  where
    of : (named : Named) (b : Bool) → cond b (entry_of c.0 named ∷ in_directory dir cells) (in_directory dir cells) ≡ cond b (entry_of c.0 named ∷ []) [] ++ in_directory dir cells
    of named true = refl
    of named false = refl

    by : (o : Option Named) → in_directory dir ((c.0, o) ∷ cells) ≡ in_directory dir ((c.0, o) ∷ []) ++ in_directory dir cells
    by None = refl
    by (Some named) = of named (c.0.0 == dir)

pub names_between : (dir : ℕ) (test : ℕ × List ℕ → Bool) → ((k : ℕ × List ℕ) → k.0 ≡ dir → test k ≡ true) → (cells : List ((ℕ × List ℕ) × Option Named)) → in_directory dir (filter (λ c. test c.0) cells) ≡ in_directory dir cells
names_between dir test inside [] = refl
names_between dir test inside (c ∷ cells) = by (names_between dir test inside cells) (test c.0) refl
  where
    other : test c.0 ≡ false → (c.0.0 == dir) ≡ false
    other h = elim (eqb_tells c.0.0 dir) [ inl same ↦ absurd (false≢true (sym h ∙ inside c.0 same.1)) | inr apart ↦ apart.0 ]

    gone : (c.0.0 == dir) ≡ false → (o : Option Named) → in_directory dir cells ≡ in_directory dir ((c.0, o) ∷ cells)
    gone e None = refl
    gone e (Some named) = rw e refl

    by : in_directory dir (filter (λ c. test c.0) cells) ≡ in_directory dir cells → (b : Bool) → test c.0 ≡ b → in_directory dir (cond b (c ∷ filter (λ c. test c.0) cells) (filter (λ c. test c.0) cells)) ≡ in_directory dir (c ∷ cells)
    by more true h = in_directory-cons dir c (filter (λ c. test c.0) cells) ∙ ap (λ xs. in_directory dir (c ∷ []) ++ xs) more ∙ sym (in_directory-cons dir c cells)
    by more false h = more ∙ gone (other h) c.1

-- what is in a directory's range is all of it
pub names_begin : (dir : ℕ) (first : List ℕ) (end : Bound (ℕ × List ℕ)) (cells left : List ((ℕ × List ℕ) × Option Named)) (out : List Entry) → first ≡ [] → ((k : ℕ × List ℕ) → k.0 ≡ dir → is_past_end name_cmp end k ≡ false)
    → left ≡ filter (λ c. range_contains name_cmp (Included (dir, first)) end c.0) cells → out ≡ [] → out ++ in_directory dir left ≡ in_directory dir cells
names_begin dir first end cells left out none past is empty =
    rw empty (ap (in_directory dir) is ∙ ap (λ z. in_directory dir (filter (λ c. range_contains name_cmp (Included (dir, z)) end c.0) cells)) none ∙ names_between dir (range_contains name_cmp (Included (dir, [])) end) (names_in dir end past) cells)

-- one cell more
pub listed_more : (dir : ℕ) (out new : List Entry) (cells left rest : List ((ℕ × List ℕ) × Option Named)) (c : (ℕ × List ℕ) × Option Named) → out ++ in_directory dir left ≡ in_directory dir cells → left ≡ c ∷ rest
    → new ≡ out ++ in_directory dir (c ∷ []) → new ++ in_directory dir rest ≡ in_directory dir cells
listed_more dir out new cells left rest c so is told =
    ap (λ xs. xs ++ in_directory dir rest) told ∙ append_assoc out (in_directory dir (c ∷ [])) (in_directory dir rest) ∙ ap (λ xs. out ++ xs) (sym (in_directory-cons dir c rest)) ∙ ap (λ l. out ++ in_directory dir l) (sym is) ∙ so

-- ---- the last block
pub blocks_between : (ino : ℕ) (test : ℕ × ℕ → Bool) → ((k : ℕ × ℕ) → k.0 ≡ ino → test k ≡ true) → (cells : List ((ℕ × ℕ) × Option (List ℕ))) → last_block_of (seen_cells (filter (λ c. test c.0) cells)) ino ≡ last_block_of (seen_cells cells) ino
blocks_between ino test inside [] = refl
blocks_between ino test inside (c ∷ cells) = by (blocks_between ino test inside cells) (test c.0) refl c.1
  where
    other : test c.0 ≡ false → (c.0.0 == ino) ≡ false
    other h = elim (eqb_tells c.0.0 ino) [ inl same ↦ absurd (false≢true (sym h ∙ inside c.0 same.1)) | inr apart ↦ apart.0 ]

    by : last_block_of (seen_cells (filter (λ c. test c.0) cells)) ino ≡ last_block_of (seen_cells cells) ino → (b : Bool) → test c.0 ≡ b → (o : Option (List ℕ))
        → last_block_of (seen_cells (cond b ((c.0, o) ∷ filter (λ c. test c.0) cells) (filter (λ c. test c.0) cells))) ino ≡ last_block_of (seen_cells ((c.0, o) ∷ cells)) ino
    by more true h None = more
    by more true h (Some bytes) = ap (λ r. cond (c.0.0 == ino) (Some (max c.0.1 (unwrap_or r 0))) r) more
    by more false h None = more
    by more false h (Some bytes) = rw (other h) more

-- a last block of another inode
last_other : (bs : Blocks) (k : ℕ × ℕ) (bytes : List ℕ) (ino : ℕ) → (k.0 == ino) ≡ false → last_block_of (bs ++ (k, bytes) ∷ []) ino ≡ last_block_of bs ino
last_other [] k bytes ino h = rw h refl
last_other (b ∷ bs) k bytes ino h = ap (λ r. cond (b.0.0 == ino) (Some (max b.0.1 (unwrap_or r 0))) r) (last_other bs k bytes ino h)

less_within : (a k : ℕ × ℕ) (ino : ℕ) → pair_cmp a k ≡ Less → a.0 ≡ ino → k.0 ≡ ino → a.1 ≤ k.1
less_within a k ino l p q = let le = pair_le a k (rw l refl) in le.1 (p ∙ sym q)

-- a last block of this one
last_this : (bs : Blocks) (k : ℕ × ℕ) (bytes : List ℕ) (ino : ℕ) → k.0 ≡ ino → AllByRecursion (λ q. pair_cmp q k ≡ Less) (keys_of bs) → last_block_of (bs ++ (k, bytes) ∷ []) ino ≡ Some k.1
last_this [] k bytes ino h below =
    let e : (k.0 == ino) ≡ true = grind (arith, nat_tests) in
    let m : max k.1 0 ≡ k.1 = omega arith in
    rw e (ap (λ n. Some n) m)
last_this (b ∷ bs) k bytes ino h below = elim (eqb_tells b.0.0 ino) [
  | inl same ↦
      let le = less_within b.0 k ino below.0 same.1 h in
      let m : max b.0.1 k.1 ≡ k.1 = omega arith in
      rw (same.0, last_this bs k bytes ino h below.1) (ap (λ n. Some n) m)
  | inr other ↦ rw other.0 (last_this bs k bytes ino h below.1)
]

all_front : {K : Type 0} (P : K → Type 0) (xs ys : List K) → AllByRecursion P (xs ++ ys) → AllByRecursion P xs
all_front P [] ys h = tt
all_front P (x ∷ xs) ys h = (h.0, all_front P xs ys h.1)

sorted_front : {K : Type 0} (cmp : K → K → Ordering) (xs ys : List K) → IsStrictlySortedBy cmp (xs ++ ys) → IsStrictlySortedBy cmp xs
unfolding IsStrictlySortedBy
sorted_front cmp [] ys h = tt
sorted_front cmp (x ∷ xs) ys h = (all_front (λ y. cmp x y ≡ Less) xs ys h.0, sorted_front cmp xs ys h.1)

all_last : {K : Type 0} (P : K → Type 0) (xs : List K) (k : K) → AllByRecursion P (xs ++ k ∷ []) → P k
all_last P [] k h = h.0
all_last P (x ∷ xs) k h = all_last P xs k h.1

below_last : {K : Type 0} (cmp : K → K → Ordering) (xs : List K) (k : K) → IsStrictlySortedBy cmp (xs ++ k ∷ []) → AllByRecursion (λ q. cmp q k ≡ Less) xs
unfolding IsStrictlySortedBy
below_last cmp [] k h = tt
below_last cmp (x ∷ xs) k h = (all_last (λ y. cmp x y ≡ Less) xs k h.0, below_last cmp xs k h.1)

all_filter : {K X : Type 0} (P : K → Type 0) (test : K → Bool) (es : List (K × X)) → AllByRecursion P (keys_of es) → AllByRecursion P (keys_of (filter (λ e. test e.0) es))
all_filter P test [] h = tt
all_filter P test (e ∷ es) h = by (all_filter P test es h.1) (test e.0)
  where
    by : AllByRecursion P (keys_of (filter (λ e. test e.0) es)) → (b : Bool) → AllByRecursion P (keys_of (cond b (e ∷ filter (λ e. test e.0) es) (filter (λ e. test e.0) es)))
    by more true = (h.0, more)
    by more false = more

sorted_filter : {K X : Type 0} (cmp : K → K → Ordering) (test : K → Bool) (es : List (K × X)) → IsStrictlySortedBy cmp (keys_of es) → IsStrictlySortedBy cmp (keys_of (filter (λ e. test e.0) es))
unfolding IsStrictlySortedBy
sorted_filter cmp test [] h = tt
sorted_filter cmp test (e ∷ es) h = by (all_filter (λ y. cmp e.0 y ≡ Less) test es h.0) (sorted_filter cmp test es h.1) (test e.0)
  where
    by : AllByRecursion (λ y. cmp e.0 y ≡ Less) (keys_of (filter (λ e. test e.0) es)) → IsStrictlySortedBy cmp (keys_of (filter (λ e. test e.0) es)) → (b : Bool)
        → IsStrictlySortedBy cmp (keys_of (cond b (e ∷ filter (λ e. test e.0) es) (filter (λ e. test e.0) es)))
    by all more true = (all, more)
    by all more false = more

keys_append : {K X : Type 0} (es fs : List (K × X)) → keys_of (es ++ fs) ≡ keys_of es ++ keys_of fs
keys_append [] fs = refl
keys_append (e ∷ es) fs = ap (λ ks. e.0 ∷ ks) (keys_append es fs)

-- the cells that are left say which block is the last
pub record LastLeft (cells left : List ((ℕ × ℕ) × Option (List ℕ))) (ino : ℕ) : Type 0 where
  pub last : last_block_of (seen_cells left) ino ≡ last_block_of (seen_cells cells) ino
  pub order : IsStrictlySortedBy pair_cmp (keys_of left)

pub last_begins : (ino : ℕ) (end : Bound (ℕ × ℕ)) (cells left : List ((ℕ × ℕ) × Option (List ℕ))) → ((k : ℕ × ℕ) → k.0 ≡ ino → is_past_end pair_cmp end k ≡ false) → IsStrictlySortedBy pair_cmp (keys_of cells)
    → left ≡ filter (λ c. range_contains pair_cmp (Included (ino, 0)) end c.0) cells → LastLeft cells left ino
last_begins ino end cells left past sorted is =
    let test : ℕ × ℕ → Bool = range_contains pair_cmp (Included (ino, 0)) end in
    let P : List ((ℕ × ℕ) × Option (List ℕ)) → Type 0 = λ z. IsStrictlySortedBy pair_cmp (keys_of z) in
    record {
      last = ap (λ z. last_block_of (seen_cells z) ino) is ∙ blocks_between ino test (blocks_in ino end past) cells;
      order = subst P (sym is) (sorted_filter pair_cmp test cells sorted);
    }

seen_push : (t : List ((ℕ × ℕ) × Option (List ℕ))) (k : ℕ × ℕ) (o : Option (List ℕ)) → seen_cells (t ++ (k, o) ∷ []) ≡ seen_cells t ++ cons_option (option_map (λ w. (k, w)) o) []
seen_push t k o = filter_map-append (λ c. option_map (λ w. (c.0, w)) c.1) t ((k, o) ∷ [])

front_order : (left t : List ((ℕ × ℕ) × Option (List ℕ))) (k : ℕ × ℕ) (o : Option (List ℕ)) → IsStrictlySortedBy pair_cmp (keys_of left) → left ≡ t ++ (k, o) ∷ [] → IsStrictlySortedBy pair_cmp (keys_of t ++ k ∷ [])
front_order left t k o s is = subst (IsStrictlySortedBy pair_cmp) (ap keys_of is ∙ keys_append t ((k, o) ∷ [])) s

-- a cell of another inode, or an empty one, is passed
pub last_passed : (cells left t : List ((ℕ × ℕ) × Option (List ℕ))) (ino : ℕ) (k : ℕ × ℕ) (o : Option (List ℕ)) → LastLeft cells left ino → left ≡ t ++ (k, o) ∷ [] → ((k.0 == ino) && is_some o) ≡ false → LastLeft cells t ino
last_passed cells left t ino k o so is h = record {
  last = sym (by o h) ∙ sym (ap (λ z. last_block_of z ino) (seen_push t k o)) ∙ ap (λ z. last_block_of (seen_cells z) ino) (sym is) ∙ so.last;
  order = sorted_front pair_cmp (keys_of t) (k ∷ []) (front_order left t k o so.order is);
}
  where
    nothing : (xs : Blocks) → last_block_of (xs ++ []) ino ≡ last_block_of xs ino
    nothing [] = refl
    nothing (x ∷ xs) = ap (λ r. cond (x.0.0 == ino) (Some (max x.0.1 (unwrap_or r 0))) r) (nothing xs)

    both : (b : Bool) → (b && true) ≡ false → b ≡ false
    both true e = absurd cc
    both false e = refl

    by : (p : Option (List ℕ)) → ((k.0 == ino) && is_some p) ≡ false → last_block_of (seen_cells t ++ cons_option (option_map (λ w. (k, w)) p) []) ino ≡ last_block_of (seen_cells t) ino
    by None e = nothing (seen_cells t)
    by (Some bytes) e = last_other (seen_cells t) k bytes ino (both (k.0 == ino) e)

-- one of the inode is the last
pub last_found : (cells left t : List ((ℕ × ℕ) × Option (List ℕ))) (ino : ℕ) (k : ℕ × ℕ) (o : Option (List ℕ)) → LastLeft cells left ino → left ≡ t ++ (k, o) ∷ [] → k.0 ≡ ino → is_some o ≡ true → Some k.1 ≡ last_block_of (seen_cells cells) ino
last_found cells left t ino k o so is same h =
    sym (by o h) ∙ sym (ap (λ z. last_block_of z ino) (seen_push t k o)) ∙ ap (λ z. last_block_of (seen_cells z) ino) (sym is) ∙ so.last
  where
    by : (p : Option (List ℕ)) → is_some p ≡ true → last_block_of (seen_cells t ++ cons_option (option_map (λ w. (k, w)) p) []) ino ≡ Some k.1
    by None e = absurd (false≢true e)
    by (Some bytes) e = last_this (seen_cells t) k bytes ino same (all-seen (λ q. pair_cmp q k ≡ Less) t (below_last pair_cmp (keys_of t) k (front_order left t k o so.order is)))

pub last_ends : (cells left : List ((ℕ × ℕ) × Option (List ℕ))) (ino : ℕ) → LastLeft cells left ino → left ≡ [] → None ≡ last_block_of (seen_cells cells) ino
last_ends cells left ino so is = ap (λ z. last_block_of (seen_cells z) ino) (sym is) ∙ so.last

pub shorter : {X : Type 0} (left t : List X) (e : X) → left ≡ t ++ e ∷ [] → length t < length left
shorter left t e is = omega (arith, ap length is, length-append t (e ∷ []))
