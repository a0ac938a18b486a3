-- One walk over a range of a map empties its cells.
use Rattle.std.proofs.Common.{◌≡◌, ℕ, suc, ◌+◌, ◌*◌, ◌/◌, ◌≤◌, ◌<◌, ◌^◌, take, drop, length, Bool, true, false, cond, not, List, [], ◌∷◌, ◌++◌, Option, Some, None, refl, sym, ap, subst, ◌∙◌, arith, inl, inr}
use Rattle.std.specs.Prelude.{filter, sum_by, nat_le, is_some, unwrap_or, MatchBool, IfSome}
use Rattle.std.specs.Option.{option_map, option_to_list}
use Rattle.std.specs.List.{AllByRecursion, cons_option}
use Rattle.std.specs.List.Retain.{ExtractsNext}
use Rattle.std.specs.Map.{keys_of, values_of}
use Rattle.std.specs.BTreeMap.{BTreeMap}
use Rattle.std.specs.BTreeMap.Range.{is_past_end, range_contains}
use Rattle.std.specs.declared.cmp.Ordering.{Ordering}
use Rattle.std.specs.declared.cmp.Ordering.TheVariants.{Less, Equal, Greater}
use Rattle.std.specs.declared.ops.Bound.{Bound}
use Rattle.std.specs.declared.ops.Bound.TheVariants.{Included}
use Rattle.std_collections.specs.Btree.Order.{until}
use Rattle.std_collections.specs.Layout.Retain.{CallAtEntry}
use Rattle.std_collections.specs.Layout.BTreeMap.{index_at}
use Rattle.std_collections.specs.Layout.BTreeMapExtract.{ExtractsUp, extract_rest}
use Rattle.std_collections.specs.declared.btree_map.extract.Cursor.{Cursor}
use Rattle.std.proofs.lemmas.Bool.{false≢true}
use Rattle.std.proofs.lemmas.Bool.Decides.{eqb_tells, nat_tests}
use Rattle.std.proofs.lemmas.List.{length-map, map-append, take-append-drop, drop-drop}
use Rattle.std.proofs.lemmas.List.Elements.{filter-append, filter_map-append}
use Rattle.std.proofs.lemmas.List.Sums.{sum_by-cons}
use Rattle.plain_backing.specs.BlockWalk.{is_block_cut}
use Rattle.plain_backing.specs.Cells.{seen_cells, cleared}
use Rattle.fs_model.specs.Change.{cut_blocks}
use Rattle.fs_model.specs.Cover.{block_bytes}
use Rattle.fs_model.specs.Files.{pair_cmp}
use Rattle.plain_backing.proofs.Seen.{cleared-none}
use Rattle.plain_backing.proofs.Walk.{le_from}

-- what is within a range stands in front
until_front : {K V : Type 0} (t : K → Ordering) (ys : List (K × V)) → until t ys ++ drop (length (until t ys)) ys ≡ ys
unfolding until
until_front t [] = refl
until_front {K} {V} t (y ∷ ys) = by (until_front t ys) (t y.0) refl
  where
    by : until t ys ++ drop (length (until t ys)) ys ≡ ys → (o : Ordering) → t y.0 ≡ o → until t (y ∷ ys) ++ drop (length (until t (y ∷ ys))) (y ∷ ys) ≡ y ∷ ys
    by more Less e = rw e refl
    by more Equal e = rw e refl
    by more Greater e = rw e (ap (λ zs. y ∷ zs) more)

pair_same : {K X : Type 0} (p q : K × X) → p.0 ≡ q.0 → p.1 ≡ q.1 → p ≡ q
pair_same (k, x) (l, y) a b = cc

-- what a closure leaves that picks nothing and empties the cells of a test
pub kept_cleared : {F K V : Type 0} (T : F → K → Option V → Bool → Option V → F → Type 0) (test : K → Bool) (f : F) → ((k : K) (v : Option V) (b : Bool) (w : Option V) (g : F) → T f k v b w g → (b ≡ false) × (w ≡ cond (test k) None v) × (g ≡ f))
    → (xs : List (K × Option V)) (r : Option (K × Option V)) (g : F) (kept ys : List (K × Option V)) → ExtractsNext (CallAtEntry T) f xs r g kept ys → (r ≡ None) × (kept ≡ cleared test xs)
kept_cleared T test f told [] r g kept ys e = (e.0, e.2)
kept_cleared {F} {K} {V} T test f told (x ∷ xs) r g kept ys e = by (kept_cleared T test f told xs) e
  where
    by : ((r : Option (K × Option V)) (g : F) (kept ys : List (K × Option V)) → ExtractsNext (CallAtEntry T) f xs r g kept ys → (r ≡ None) × (kept ≡ cleared test xs)) → ExtractsNext (CallAtEntry T) f (x ∷ xs) r g kept ys
        → (r ≡ None) × (kept ≡ (x.0, cond (test x.0) None x.1) ∷ cleared test xs)
    by more (b, u, y, call, next) =
        let is = told x.0 x.1 b y.1 u call.1 in
        let P : Bool → Type 0 = λ z. MatchBool z ((r ≡ Some y) × (g ≡ u) × (kept ≡ []) × (ys ≡ xs)) ((ks : List (K × Option V)) × ExtractsNext (CallAtEntry T) u xs r g ks ys × (kept ≡ y ∷ ks)) in
        let here = subst P is.0 next in
        let Q : F → Type 0 = λ z. ExtractsNext (CallAtEntry T) z xs r g here.0 ys in
        let rest = more r g here.0 ys (subst Q is.2 here.1) in
        (rest.0, here.2 ∙ ap (λ z. z ∷ here.0) (pair_same y (x.0, cond (test x.0) None x.1) call.0 is.1) ∙ ap (λ zs. (x.0, cond (test x.0) None x.1) ∷ zs) rest.1)

filter_twice : {X : Type 0} (p : X → Bool) (xs : List X) → filter p (filter p xs) ≡ filter p xs
filter_twice p [] = refl
filter_twice {X} p (x ∷ xs) = by (filter_twice p xs) (p x) refl
  where
    by : filter p (filter p xs) ≡ filter p xs → (b : Bool) → p x ≡ b → filter p (cond b (x ∷ filter p xs) (filter p xs)) ≡ cond b (x ∷ filter p xs) (filter p xs)
    by more true e = rw e (ap (λ zs. x ∷ zs) more)
    by more false e = more

length_of_append : {X : Type 0} (xs ys : List X) → length (xs ++ ys) ≡ length xs + length ys
length_of_append [] ys = omega arith
length_of_append (x ∷ xs) ys = let more = length_of_append xs ys in let e : suc (length xs + length ys) ≡ suc (length xs) + length ys = omega arith in ap suc more ∙ e

-- where a part of a list is all that passes, nothing else does
none_else : {X : Type 0} (p : X → Bool) (front xs back : List X) → xs ≡ filter p (front ++ (xs ++ back)) → (length (filter p front) ≡ 0) × (length (filter p back) ≡ 0)
none_else p front xs back e =
    let twice : filter p xs ≡ xs = ap (filter p) e ∙ filter_twice p (front ++ (xs ++ back)) ∙ sym e in
    let split : xs ≡ filter p front ++ (filter p xs ++ filter p back) = e ∙ filter-append p front (xs ++ back) ∙ ap (λ zs. filter p front ++ zs) (filter-append p xs back) in
    let count : length xs ≡ length (filter p front) + (length (filter p xs) + length (filter p back)) =
    ap length split ∙ length_of_append (filter p front) (filter p xs ++ filter p back) ∙ ap (λ n. length (filter p front) + n) (length_of_append (filter p xs) (filter p back)) in
    let same : length (filter p xs) ≡ length xs = ap length twice in
    (omega (arith, count, same), omega (arith, count, same))

-- and there nothing is emptied
cleared_beside : {K V : Type 0} (test c : K → Bool) → ((k : K) → test k ≡ true → c k ≡ true) → (es : List (K × Option V)) → length (filter (λ e. c e.0) es) ≡ 0 → cleared test es ≡ es
cleared_beside {K} {V} test c within es none = cleared-none test es (by es none)
  where
    of : (k : K) → c k ≡ false → (b : Bool) → test k ≡ b → b ≡ false
    of k e true t = absurd (false≢true (sym e ∙ within k t))
    of k e false t = refl

    at : (e : K × Option V) (es : List (K × Option V)) (b : Bool) → c e.0 ≡ b → length (cond b (e ∷ filter (λ e. c e.0) es) (filter (λ e. c e.0) es)) ≡ 0 → (c e.0 ≡ false) × (length (filter (λ e. c e.0) es) ≡ 0)
    at e es true t h = absurd (omega (arith, h))
    at e es false t h = (t, h)

    by : (es : List (K × Option V)) → length (filter (λ e. c e.0) es) ≡ 0 → AllByRecursion (λ k. test k ≡ false) (keys_of es)
    by [] h = tt
    by (e ∷ es) h = let here = at e es (c e.0) refl h in (of e.0 here.0 (test e.0) refl, by es here.1)

-- a walk over a range empties all that is to be emptied, where the range has it
pub walk_cleared : {K V : Type 0} (test c : K → Bool) → ((k : K) → test k ≡ true → c k ≡ true) → (t : K → Ordering) (es xs kept fs : List (K × Option V)) (r : Option (K × Option V)) (i : ℕ) → xs ≡ until t (drop i es) → xs ≡ filter (λ e. c e.0) es
    → r ≡ None → kept ≡ cleared test xs → fs ≡ take i es ++ (kept ++ drop (i + length kept + length (option_to_list r)) es) → fs ≡ cleared test es
walk_cleared {K} {V} test c within t es xs kept fs r i is all none cut told =
    let n : length kept ≡ length xs = ap length cut ∙ length-map xs (λ e. (e.0, cond (test e.0) None e.1)) in
    let parts : xs ++ drop (length xs) (drop i es) ≡ drop i es = rw is (until_front t (drop i es)) in
    let far : drop (length xs) (drop i es) ≡ drop (i + length xs) es = drop-drop (length xs) i es in
    let back = drop (i + length xs) es in
    let whole : es ≡ take i es ++ (xs ++ back) = sym (take-append-drop i es) ∙ ap (λ zs. take i es ++ zs) (sym parts ∙ ap (λ zs. xs ++ zs) far) in
    let apart = none_else (λ e. c e.0) (take i es) xs back (all ∙ ap (filter (λ e. c e.0)) whole) in
    let F : Option (K × Option V) → Type 0 = λ o. fs ≡ take i es ++ (kept ++ drop (i + length kept + length (option_to_list o)) es) in
    let shown : fs ≡ take i es ++ (kept ++ drop (i + length kept + 0) es) = subst F none told in
    let place : i + length kept + 0 ≡ i + length xs = omega (arith, n) in
    let split : cleared test es ≡ cleared test (take i es) ++ (cleared test xs ++ cleared test back) =
    ap (cleared test) whole ∙ map-append (λ e. (e.0, cond (test e.0) None e.1)) (take i es) (xs ++ back) ∙ ap (λ zs. cleared test (take i es) ++ zs) (map-append (λ e. (e.0, cond (test e.0) None e.1)) xs back) in
    shown ∙ ap (λ m. take i es ++ (kept ++ drop m es)) place ∙ ap (λ zs. take i es ++ (zs ++ back)) cut
    ∙ ap (λ zs. zs ++ (cleared test xs ++ back)) (sym (cleared_beside test c within (take i es) apart.0))
    ∙ ap (λ zs. cleared test (take i es) ++ (cleared test xs ++ zs)) (sym (cleared_beside test c within back apart.1))
    ∙ sym split

-- where the range has nothing, there is nothing to be emptied
pub walk_nothing : {K V : Type 0} (test c : K → Bool) → ((k : K) → test k ≡ true → c k ≡ true) → (es fs : List (K × Option V)) → [] ≡ filter (λ e. c e.0) es → fs ≡ es → fs ≡ cleared test es
walk_nothing test c within es fs none same = same ∙ sym (cleared_beside test c within es (sym (ap length none)))

-- the one step of a walk whose closure picks nothing
pub walk_empties : {F R K V : Type 0} (T : F → K → Option V → Bool → Option V → F → Type 0) (known : R → Type 0) (end : R → K → Ordering) (test c : K → Bool) → ((k : K) → test k ≡ true → c k ≡ true)
    → (f : F) → ((k : K) (v : Option V) (b : Bool) (w : Option V) (g : F) → T f k v b w g → (b ≡ false) × (w ≡ cond (test k) None v) × (g ≡ f)) → (range : R) → known range
    → (old m n : BTreeMap K (Option V)) (from left : Option (Cursor R F)) (r : Option (K × Option V)) → m ≡ old → IfSome from (λ s. (s.within.test ≡ f) × (s.within.range ≡ range)) → extract_rest end m from ≡ filter (λ e. c e.0) old.entries
    → ExtractsUp T known end m from r n left → n.entries ≡ cleared test old.entries
walk_empties {F} {R} {K} {V} T known end test c within f told range knows old m n None left r same holds rest up = walk_nothing test c within old.entries n.entries rest (up.1 ∙ ap (λ z. z.entries) same)
walk_empties {F} {R} {K} {V} T known end test c within f told range knows old m n (Some s) left r same holds rest up =
    let step = up (subst known (sym holds.1) knows) in
    let at = step.1 in
    let P : F → Type 0 = λ z. ExtractsNext (CallAtEntry T) z (extract_rest end m (Some s)) r step.0 at.0 (extract_rest end n left) in
    let kept = kept_cleared T test f told (extract_rest end m (Some s)) r step.0 at.0 (extract_rest end n left) (subst P holds.0 at.1) in
    walk_cleared test c within (end s.within.range) m.entries (extract_rest end m (Some s)) at.0 n.entries r (index_at m s.spot) refl (rest ∙ ap (λ z. filter (λ e. c e.0) z.entries) (sym same)) kept.0 kept.1 at.2 ∙ ap (λ z. cleared test z.entries) same

drop_front : {X : Type 0} (xs ys : List X) → drop (length xs) (xs ++ ys) ≡ ys
drop_front [] ys = refl
drop_front (x ∷ xs) ys = drop_front xs ys

append_three : {X : Type 0} (xs ys zs : List X) → (xs ++ ys) ++ zs ≡ xs ++ (ys ++ zs)
append_three [] ys zs = refl
append_three (x ∷ xs) ys zs = ap (λ ws. x ∷ ws) (append_three xs ys zs)

-- what a closure leaves that picks empty cells and changes none
swept_next : {F K V : Type 0} (T : F → K → Option V → Bool → Option V → F → Type 0) → ((f : F) (k : K) (v : Option V) (b : Bool) (w : Option V) (g : F) → T f k v b w g → (b ≡ not (is_some v)) × (w ≡ v)) → (xs : List (K × Option V)) (f : F) (r : Option (K × Option V)) (g : F) (kept ys : List (K × Option V))
    → ExtractsNext (CallAtEntry T) f xs r g kept ys → (xs ≡ kept ++ (option_to_list r ++ ys)) × (seen_cells (option_to_list r) ≡ [])
swept_next {F} {K} {V} T told [] f r g kept ys e = rw (e.0, e.2, e.3) (refl, refl)
swept_next {F} {K} {V} T told (x ∷ xs) f r g kept ys e = by (swept_next T told xs) e
  where
    empty : (p : K × Option V) → true ≡ not (is_some p.1) → seen_cells (p ∷ []) ≡ []
    empty (k, None) e = refl
    empty (k, Some v) e = absurd (false≢true (sym e))

    one : (y : K × Option V) → y ≡ x → (b : Bool) → b ≡ not (is_some y.1) → (u : F) → MatchBool b ((r ≡ Some y) × (g ≡ u) × (kept ≡ []) × (ys ≡ xs)) ((ks : List (K × Option V)) × ExtractsNext (CallAtEntry T) u xs r g ks ys × (kept ≡ y ∷ ks))
        → ((f : F) (r : Option (K × Option V)) (g : F) (kept ys : List (K × Option V)) → ExtractsNext (CallAtEntry T) f xs r g kept ys → (xs ≡ kept ++ (option_to_list r ++ ys)) × (seen_cells (option_to_list r) ≡ []))
        → (x ∷ xs ≡ kept ++ (option_to_list r ++ ys)) × (seen_cells (option_to_list r) ≡ [])
    one y same true picks u next more = rw (next.0, next.2, next.3) (ap (λ z. z ∷ xs) (sym same), empty y picks)
    one y same false picks u next more = let rest = more u r g next.0 ys next.1 in (ap (λ z. z ∷ xs) (sym same) ∙ ap (λ zs. y ∷ zs) rest.0 ∙ ap (λ zs. zs ++ (option_to_list r ++ ys)) (sym next.2), rest.1)

    by : ((f : F) (r : Option (K × Option V)) (g : F) (kept ys : List (K × Option V)) → ExtractsNext (CallAtEntry T) f xs r g kept ys → (xs ≡ kept ++ (option_to_list r ++ ys)) × (seen_cells (option_to_list r) ≡ [])) → ExtractsNext (CallAtEntry T) f (x ∷ xs) r g kept ys
        → (x ∷ xs ≡ kept ++ (option_to_list r ++ ys)) × (seen_cells (option_to_list r) ≡ [])
    by more (b, u, y, call, next) =
        let is = told f x.0 x.1 b y.1 u call.1 in
        one y (pair_same y x call.0 is.1) b (is.0 ∙ ap (λ o. not (is_some o)) (sym is.1)) u next more

seen_append : {K V : Type 0} (xs ys : List (K × Option V)) → seen_cells (xs ++ ys) ≡ seen_cells xs ++ seen_cells ys
seen_append xs ys = filter_map-append (λ c. option_map (λ v. (c.0, v)) c.1) xs ys

-- an empty cell less in the midst of a list
one_less : {K V : Type 0} (es xs kept gone ys fs : List (K × Option V)) (t : K → Ordering) (i : ℕ) → xs ≡ until t (drop i es) → xs ≡ kept ++ (gone ++ ys) → seen_cells gone ≡ [] → fs ≡ take i es ++ (kept ++ drop (i + length kept + length gone) es) → seen_cells fs ≡ seen_cells es
one_less {K} {V} es xs kept gone ys fs t i is parts none told =
    let back = drop (length xs) (drop i es) in
    let rest : drop i es ≡ kept ++ (gone ++ (ys ++ back)) =
    sym (until_front t (drop i es)) ∙ ap (λ zs. zs ++ drop (length zs) (drop i es)) (sym is) ∙ ap (λ zs. zs ++ back) parts ∙ append_three kept (gone ++ ys) back ∙ ap (λ zs. kept ++ zs) (append_three gone ys back) in
    let far : drop (i + length kept + length gone) es ≡ ys ++ back =
    sym (drop-drop (length gone) (i + length kept) es) ∙ ap (drop (length gone)) (sym (drop-drop (length kept) i es) ∙ ap (drop (length kept)) rest ∙ drop_front kept (gone ++ (ys ++ back))) ∙ drop_front gone (ys ++ back) in
    let middle : seen_cells (kept ++ (gone ++ (ys ++ back))) ≡ seen_cells (kept ++ (ys ++ back)) =
    seen_append kept (gone ++ (ys ++ back)) ∙ ap (λ zs. seen_cells kept ++ zs) (seen_append gone (ys ++ back) ∙ ap (λ zs. zs ++ seen_cells (ys ++ back)) none) ∙ sym (seen_append kept (ys ++ back)) in
    ap seen_cells (told ∙ ap (λ zs. take i es ++ (kept ++ zs)) far) ∙ seen_append (take i es) (kept ++ (ys ++ back)) ∙ ap (λ zs. seen_cells (take i es) ++ zs) (sym middle ∙ ap seen_cells (sym rest))
    ∙ sym (seen_append (take i es) (drop i es)) ∙ ap seen_cells (take-append-drop i es)

-- a step of a walk whose closure picks empty cells
pub walk_sweeps : {F R K V : Type 0} (T : F → K → Option V → Bool → Option V → F → Type 0) (known : R → Type 0) (end : R → K → Ordering) → ((f : F) (k : K) (v : Option V) (b : Bool) (w : Option V) (g : F) → T f k v b w g → (b ≡ not (is_some v)) × (w ≡ v)) → ((range : R) → known range)
    → (m n : BTreeMap K (Option V)) (from left : Option (Cursor R F)) (r : Option (K × Option V)) → ExtractsUp T known end m from r n left → seen_cells n.entries ≡ seen_cells m.entries
walk_sweeps {F} {R} {K} {V} T known end told knows m n None left r up = ap seen_cells up.1
walk_sweeps {F} {R} {K} {V} T known end told knows m n (Some s) left r up =
    let step = up (knows s.within.range) in
    let at = step.1 in
    let next = swept_next T told (extract_rest end m (Some s)) s.within.test r step.0 at.0 (extract_rest end n left) at.1 in
    one_less m.entries (extract_rest end m (Some s)) at.0 (option_to_list r) (extract_rest end n left) n.entries (end s.within.range) (index_at m s.spot) refl next.0 next.1 at.2

-- what is cut is within the range from this block on
pub cut_within : (ino size first : ℕ) (end : Bound (ℕ × ℕ)) → first ≤ size / 4096 → ((k : ℕ × ℕ) → k.0 ≡ ino → is_past_end pair_cmp end k ≡ false) → (k : ℕ × ℕ) → is_block_cut ino size k ≡ true → range_contains pair_cmp (Included (ino, first)) end k ≡ true
cut_within ino size first end low ends k cut = elim (eqb_tells k.0 ino) [
  | inr other ↦ absurd (false≢true (rw other.0 at cut))
  | inl same ↦
      let past : nat_le size (4096 * k.1) ≡ true = rw same.0 at cut in
      let le : size ≤ 4096 * k.1 = grind (arith, nat_tests) in
      let high : first ≤ k.1 = omega (arith, low, le) in
      rw (le_from ino first k same.1 high, ends k same.1) refl
]

-- the bytes of the cells that are cut
abbrev pub cell_cut : ℕ → ℕ → (ℕ × ℕ) × Option (List ℕ) → ℕ
cell_cut ino size e = cond (is_block_cut ino size e.0) (unwrap_or (option_map block_bytes e.1) 0) 0

abbrev pub cut_sum : ℕ → ℕ → List ((ℕ × ℕ) × Option (List ℕ)) → ℕ
cut_sum ino size [] = 0
cut_sum ino size (e ∷ es) = cell_cut ino size e + cut_sum ino size es

-- with those that stay they are all
pub cut_and_kept : (es : List ((ℕ × ℕ) × Option (List ℕ))) (ino size : ℕ) → sum_by block_bytes (values_of (cut_blocks (seen_cells es) ino size)) + cut_sum ino size es ≡ sum_by block_bytes (values_of (seen_cells es))
cut_and_kept [] ino size = omega arith
cut_and_kept (e ∷ es) ino size = by (cut_and_kept es ino size) (is_block_cut ino size e.0) refl e.1
  where
    by : sum_by block_bytes (values_of (cut_blocks (seen_cells es) ino size)) + cut_sum ino size es ≡ sum_by block_bytes (values_of (seen_cells es)) → (b : Bool) → is_block_cut ino size e.0 ≡ b → (o : Option (List ℕ))
        → sum_by block_bytes (values_of (cut_blocks (cons_option (option_map (λ w. (e.0, w)) o) (seen_cells es)) ino size)) + (cond b (unwrap_or (option_map block_bytes o) 0) 0 + cut_sum ino size es) ≡ sum_by block_bytes (values_of (cons_option (option_map (λ w. (e.0, w)) o) (seen_cells es)))
    by more true c None = omega (arith, more)
    by more false c None = omega (arith, more)
    by more true c (Some w) = let all = sum_by-cons block_bytes w (values_of (seen_cells es)) in rw c (omega (arith, more, all))
    by more false c (Some w) =
        let all = sum_by-cons block_bytes w (values_of (seen_cells es)) in
        let here = sum_by-cons block_bytes w (values_of (cut_blocks (seen_cells es) ino size)) in
        rw c (omega (arith, more, all, here))

-- a range that has all that is cut
pub cut_in_range : (ino size : ℕ) (c : ℕ × ℕ → Bool) → ((k : ℕ × ℕ) → is_block_cut ino size k ≡ true → c k ≡ true) → (es : List ((ℕ × ℕ) × Option (List ℕ))) → cut_sum ino size (filter (λ e. c e.0) es) ≡ cut_sum ino size es
cut_in_range ino size c within [] = refl
cut_in_range ino size c within (e ∷ es) = by (cut_in_range ino size c within es) (c e.0) refl (is_block_cut ino size e.0) refl
  where
    by : cut_sum ino size (filter (λ e. c e.0) es) ≡ cut_sum ino size es → (b : Bool) → c e.0 ≡ b → (d : Bool) → is_block_cut ino size e.0 ≡ d
        → cut_sum ino size (cond b (e ∷ filter (λ e. c e.0) es) (filter (λ e. c e.0) es)) ≡ cond d (unwrap_or (option_map block_bytes e.1) 0) 0 + cut_sum ino size es
    by more true t d u = rw u (ap (λ n. cond d (unwrap_or (option_map block_bytes e.1) 0) 0 + n) more)
    by more false t true u = absurd (false≢true (sym t ∙ within e.0 u))
    by more false t false u = omega (arith, more)

-- what is cut next has room in the sum
pub cut_fits : (es left rest : List ((ℕ × ℕ) × Option (List ℕ))) (ino size total got : ℕ) (key : ℕ × ℕ) (cell : Option (List ℕ)) (is : Bool) → total + cut_sum ino size left ≡ cut_sum ino size es → left ≡ (key, cell) ∷ rest
    → is ≡ is_block_cut ino size key → is ≡ true → got ≡ unwrap_or (option_map block_bytes cell) 0 → sum_by block_bytes (values_of (seen_cells es)) < 2 ^ 64 → total + got < 2 ^ 64
cut_fits es left rest ino size total got key cell is so first told cut bytes few =
    let here : cut_sum ino size left ≡ cond (is_block_cut ino size key) (unwrap_or (option_map block_bytes cell) 0) 0 + cut_sum ino size rest = ap (cut_sum ino size) first in
    let this : is_block_cut ino size key ≡ true = sym told ∙ cut in
    let shown : cut_sum ino size left ≡ unwrap_or (option_map block_bytes cell) 0 + cut_sum ino size rest = here ∙ ap (λ b. cond b (unwrap_or (option_map block_bytes cell) 0) 0 + cut_sum ino size rest) this in
    let all = cut_and_kept es ino size in
    omega (arith, so, shown, bytes, few, all)
