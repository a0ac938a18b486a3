-- What the properties of main LEBs say where nodes were laid.
use Rattle.std.proofs.Common.{◌≡◌, ℕ, zero, suc, ◌+◌, ◌-◌, ◌%◌, ◌<◌, ◌≤◌, ◌==◌, Bool, true, false, List, [], ◌∷◌, ◌++◌, Some, inl, inr, length, drop, replicate, get_or, refl, ap, ◌∙◌, subst, arith, length-append}
use Rattle.std.specs.Prelude.{◌⊎◌, All, filter, map, slice_get}
use Rattle.std.proofs.lemmas.Bool.{ne_eqb}
use Rattle.std.proofs.lemmas.List.Elements.{All-nil, All-cons, All-head, All-tail, filter-append}
use Rattle.ubifs_base.specs.Areas.{main_first, main_lebs}
use Rattle.ubifs_base.specs.Geometry.{IsGeometry}
use Rattle.ubifs_base.specs.GeometryLaws.{leb_size-mod, min_io-mod}
use Rattle.ubifs_base.specs.declared.raw_geometry.RawGeometry.{RawGeometry}
use Rattle.media_lpt.specs.declared.lprop.Lprop.{Lprop}
use Rattle.media_sys.specs.declared.branch.Branch.{Branch}
use Rattle.index_media.specs.PlacedRow.{bytes_taken}
use Rattle.leb_scan.specs.Text.{is_blank}
use Rattle.lpt_area.specs.Tree.{empty_leb}
use Rattle.lpt_area.specs.Written.{AreProps, IsLprop, in_units}
use Rattle.laid_main.specs.Filling.{AreFilled, TakesOfLebs}
use Rattle.laid_main.specs.Props.{AreBytesTaken, laid_props, prop_behind}
use Rattle.laid_main.proofs.Units.{units_fit, units_more, units_words, words_left}

-- ---- which properties an index leads to
by_parts : {X : Type 0} (xs ys : List X) (i : ℕ) (x : X) → slice_get (xs ++ ys) i ≡ Some x
    → ((i < length xs) × (slice_get xs i ≡ Some x)) ⊎ ((k : ℕ) × (i ≡ length xs + k) × (slice_get ys k ≡ Some x))
by_parts [] ys i x has = inr (i, omega arith, has)
by_parts (y ∷ xs) ys zero x has = inl (omega arith, has)
by_parts (y ∷ xs) ys (suc i) x has = by (by_parts xs ys i x has)
  where
    by : ((i < length xs) × (slice_get xs i ≡ Some x)) ⊎ ((k : ℕ) × (i ≡ length xs + k) × (slice_get ys k ≡ Some x))
        → ((suc i < length (y ∷ xs)) × (slice_get (y ∷ xs) (suc i) ≡ Some x)) ⊎ ((k : ℕ) × (suc i ≡ length (y ∷ xs) + k) × (slice_get ys k ≡ Some x))
    by (inl (lt, here)) = inl (omega (arith, lt), here)
    by (inr (k, e, here)) = inr (k, omega (arith, e), here)

same_prop : (a b : Lprop) → Some a ≡ Some b → b ≡ a
same_prop a b e = cc

mapped : (f : ℕ → Lprop) (xs : List ℕ) (i : ℕ) (prop : Lprop) → slice_get (map f xs) i ≡ Some prop → (i < length xs) × (prop ≡ f (get_or xs i 0))
mapped f [] i prop has = absurd cc
mapped f (x ∷ xs) zero prop has = (omega arith, same_prop (f x) prop has)
mapped f (x ∷ xs) (suc i) prop has = let h = mapped f xs i prop has in let lt = h.0 in (omega (arith, lt), h.1)

all_same : (n i : ℕ) (one prop : Lprop) → slice_get (replicate n one) i ≡ Some prop → prop ≡ one
all_same zero i one prop has = absurd cc
all_same (suc n) zero one prop has = same_prop one prop has
all_same (suc n) (suc i) one prop has = all_same n i one prop has

mapped_length : (f : ℕ → Lprop) (xs : List ℕ) → length (map f xs) ≡ length xs
mapped_length f [] = refl
mapped_length f (x ∷ xs) = ap (λ (n : ℕ). suc n) (mapped_length f xs)

many : (n : ℕ) (prop : Lprop) → length (replicate n prop) ≡ n
many zero prop = refl
many (suc n) prop = ap (λ (n : ℕ). suc n) (many n prop)

-- the properties of a LEB with leaves, with index nodes, or with nothing
pub data PropAt (geo : RawGeometry) (leaves index : List ℕ) (i : ℕ) (prop : Lprop) : Type 0 where
  of_leaves : i < length leaves → prop ≡ prop_behind geo (get_or leaves i 0) false → PropAt geo leaves index i prop
  of_index : (k : ℕ) → i ≡ length leaves + k → k < length index → prop ≡ prop_behind geo (get_or index k 0) true → PropAt geo leaves index i prop
  of_none : length leaves + length index ≤ i → prop ≡ empty_leb geo → PropAt geo leaves index i prop

pub prop_at : (geo : RawGeometry) (leaves index : List ℕ) (i : ℕ) (prop : Lprop) → slice_get (laid_props geo leaves index) i ≡ Some prop → PropAt geo leaves index i prop
prop_at geo leaves index i prop has = by (by_parts (map of_leaf leaves) (map of_node index ++ rest) i prop has)
  where
    of_leaf : ℕ → Lprop
    of_leaf bytes = prop_behind geo bytes false

    of_node : ℕ → Lprop
    of_node bytes = prop_behind geo bytes true

    rest : List Lprop
    rest = replicate (main_lebs geo - (length leaves + length index)) (empty_leb geo)

    past : (k : ℕ) → i ≡ length (map of_leaf leaves) + k → ((k < length (map of_node index)) × (slice_get (map of_node index) k ≡ Some prop)) ⊎ ((n : ℕ) × (k ≡ length (map of_node index) + n) × (slice_get rest n ≡ Some prop))
        → PropAt geo leaves index i prop
    past k e (inl (lt, here)) =
        let same = mapped_length of_leaf leaves in
        let h = mapped of_node index k prop here in
        of_index k (omega (arith, e, same)) h.0 h.1
    past k e (inr (n, f, here)) =
        let same = mapped_length of_leaf leaves in
        let also = mapped_length of_node index in
        of_none (omega (arith, e, f, same, also)) (all_same (main_lebs geo - (length leaves + length index)) n (empty_leb geo) prop here)

    by : ((i < length (map of_leaf leaves)) × (slice_get (map of_leaf leaves) i ≡ Some prop)) ⊎ ((k : ℕ) × (i ≡ length (map of_leaf leaves) + k) × (slice_get (map of_node index ++ rest) k ≡ Some prop))
        → PropAt geo leaves index i prop
    by (inl (lt, here)) = let h = mapped of_leaf leaves i prop here in of_leaves h.0 h.1
    by (inr (k, e, here)) = past k e (by_parts (map of_node index) rest k prop here)

-- ---- each has its kind
pub of_its_kind : (f : ℕ → Lprop) (xs : List ℕ) (ys : List Lprop) (i : ℕ) → i < length xs → slice_get (map f xs ++ ys) i ≡ Some (f (get_or xs i 0))
of_its_kind f [] ys i lt = absurd (omega (arith, lt))
of_its_kind f (x ∷ xs) ys zero lt = refl
of_its_kind f (x ∷ xs) ys (suc i) lt = of_its_kind f xs ys i (omega (arith, lt))

pub behind_those : (f : ℕ → Lprop) (xs : List ℕ) (ys : List Lprop) (k : ℕ) → slice_get (map f xs ++ ys) (length xs + k) ≡ slice_get ys k
behind_those f [] ys k = let e : 0 + k ≡ k = omega arith in ap (λ (n : ℕ). slice_get ys n) e
behind_those f (x ∷ xs) ys k =
    let e : length (x ∷ xs) + k ≡ suc (length xs + k) = omega arith in
    ap (λ (n : ℕ). slice_get (f x ∷ (map f xs ++ ys)) n) e ∙ behind_those f xs ys k

module _ (geo : RawGeometry) (g : IsGeometry geo) where
  unit_some : 0 < geo.min_io
  unit_some = let low = g.min_io.1 in omega (arith, low)

  more : (len : ℕ) → len ≤ in_units geo.min_io len
  more len = units_more geo.min_io len unit_some

  fits : (len : ℕ) → len ≤ geo.leb_size → in_units geo.min_io len ≤ geo.leb_size
  fits len low = units_fit geo.min_io geo.leb_size len unit_some g.leb_size.2 low

  -- ---- they are possible
  possible_behind : (len : ℕ) (kind : Bool) → len % 8 ≡ 0 → len ≤ geo.leb_size → IsLprop geo (prop_behind geo len kind)
  possible_behind len kind words low =
      let a = more len in
      let b = fits len low in
      let whole = units_words geo.min_io len (min_io-mod geo g) in
      record {
        free = words_left geo.leb_size (in_units geo.min_io len) (leb_size-mod geo g) whole;
        dirty = words_left (in_units geo.min_io len) len whole words;
        room = omega (arith, a, b);
      }

  each_behind : (kind : Bool) (used : List ℕ) (rest : List Lprop) → AreBytesTaken geo used → All (IsLprop geo) rest → All (IsLprop geo) (map (λ bytes. prop_behind geo bytes kind) used ++ rest)
  each_behind kind [] rest taken others = others
  each_behind kind (x ∷ used) rest taken others =
      let P : ℕ → Type 0 = λ bytes. (0 < bytes) × (bytes % 8 ≡ 0) × (bytes ≤ geo.leb_size) in
      let h = All-head P x used taken in
      All-cons (IsLprop geo) (prop_behind geo x kind) (map (λ bytes. prop_behind geo bytes kind) used ++ rest) (possible_behind x kind h.1 h.2)
      (each_behind kind used rest (All-tail P x used taken) others)

  each_empty : (n : ℕ) → All (IsLprop geo) (replicate n (empty_leb geo))
  each_empty zero = All-nil (IsLprop geo)
  each_empty (suc n) = All-cons (IsLprop geo) (empty_leb geo) (replicate n (empty_leb geo)) (record { free = leb_size-mod geo g; dirty = refl; room = omega arith }) (each_empty n)

  pub are_possible : (leaves index : List ℕ) → AreBytesTaken geo leaves → AreBytesTaken geo index → length leaves + length index ≤ main_lebs geo → AreProps geo (laid_props geo leaves index)
  are_possible leaves index taken also few =
      let n = main_lebs geo - (length leaves + length index) in
      let rest : List Lprop = replicate n (empty_leb geo) in
      let nodes : List Lprop = map (λ bytes. prop_behind geo bytes true) index in
      let a = length-append (map (λ bytes. prop_behind geo bytes false) leaves) (nodes ++ rest) in
      let b = length-append nodes rest in
      let c = mapped_length (λ bytes. prop_behind geo bytes false) leaves in
      let d = mapped_length (λ bytes. prop_behind geo bytes true) index in
      let e = many n (empty_leb geo) in
      record {
        count = omega (arith, a, b, c, d, e, few);
        each = each_behind false leaves (nodes ++ rest) taken (each_behind true index rest also (each_empty n));
      }

  -- ---- they add up
  taken_append : (xs ys : List Branch) → bytes_taken (xs ++ ys) ≡ bytes_taken xs + bytes_taken ys
  taken_append [] ys = omega arith
  taken_append (x ∷ xs) ys = let rest = taken_append xs ys in omega (arith, rest)

  taken_here : (lnum : ℕ) (xs ys : List Branch) → bytes_taken (filter (λ (branch : Branch). branch.lnum == lnum) (xs ++ ys))
      ≡ bytes_taken (filter (λ (branch : Branch). branch.lnum == lnum) xs) + bytes_taken (filter (λ (branch : Branch). branch.lnum == lnum) ys)
  taken_here lnum xs ys = ap bytes_taken (filter-append (λ (branch : Branch). branch.lnum == lnum) xs ys)
      ∙ taken_append (filter (λ (branch : Branch). branch.lnum == lnum) xs) (filter (λ (branch : Branch). branch.lnum == lnum) ys)

  none_there : (low high lnum : ℕ) (xs : List Branch) → All (λ (branch : Branch). (low ≤ branch.lnum) × (branch.lnum < high)) xs → (lnum < low) ⊎ (high ≤ lnum)
      → bytes_taken (filter (λ (branch : Branch). branch.lnum == lnum) xs) ≡ 0
  none_there low high lnum [] within out = refl
  none_there low high lnum (x ∷ xs) within out =
      let P : Branch → Type 0 = λ branch. (low ≤ branch.lnum) × (branch.lnum < high) in
      let h = All-head P x xs within in
      let left = h.0 in
      let right = h.1 in
      let other : (x.lnum ≡ lnum) → ⊥ = λ e. elim out [ inl before ↦ omega (arith, e, left, before) | inr behind ↦ omega (arith, e, right, behind) ] in
      rw (ne_eqb x.lnum lnum other) (none_there low high lnum xs (All-tail P x xs within) out)

  behind_sum : (prop : Lprop) (len taken : ℕ) (kind : Bool) → prop ≡ prop_behind geo len kind → len ≤ geo.leb_size → taken ≡ len → prop.free + prop.dirty + taken ≡ geo.leb_size
  behind_sum prop len taken kind is low same =
      let free : prop.free ≡ geo.leb_size - in_units geo.min_io len = ap (λ (p : Lprop). p.free) is in
      let dirty : prop.dirty ≡ in_units geo.min_io len - len = ap (λ (p : Lprop). p.dirty) is in
      let a = more len in
      let b = fits len low in
      omega (arith, free, dirty, a, b, same)

  module _ (leaves index : List ℕ) (nodes below : List Branch) (taken : AreBytesTaken geo leaves) (also : AreBytesTaken geo index)
      (takes : TakesOfLebs (main_first geo) leaves below) (above : TakesOfLebs (main_first geo + length leaves) index nodes) where
    abbrev pub here : ℕ → List Branch → ℕ
    here i branches = bytes_taken (filter (λ (branch : Branch). branch.lnum == main_first geo + i) branches)

    pub sums : (i : ℕ) (prop : Lprop) → slice_get (laid_props geo leaves index) i ≡ Some prop → prop.free + prop.dirty + here i (nodes ++ below) ≡ geo.leb_size
    sums i prop has = by (prop_at geo leaves index i prop has)
      where
        all : here i (nodes ++ below) ≡ here i nodes + here i below
        all = taken_here (main_first geo + i) nodes below

        by : PropAt geo leaves index i prop → prop.free + prop.dirty + here i (nodes ++ below) ≡ geo.leb_size
        by (of_leaves lt is) =
            let none : here i nodes ≡ 0 = none_there (main_first geo + length leaves) (main_first geo + length leaves + length index) (main_first geo + i) nodes above.within (inl (omega (arith, lt))) in
            let some : here i below ≡ get_or leaves i 0 = takes.bytes i lt in
            behind_sum prop (get_or leaves i 0) (here i (nodes ++ below)) false is (taken i 0 lt).2 (omega (arith, all, none, some))
        by (of_index k e lt is) =
            let none : here i below ≡ 0 = none_there (main_first geo) (main_first geo + length leaves) (main_first geo + i) below takes.within (inr (omega (arith, e))) in
            let f : main_first geo + length leaves + k ≡ main_first geo + i = omega (arith, e) in
            let P : ℕ → Type 0 = λ lnum. bytes_taken (filter (λ (branch : Branch). branch.lnum == lnum) nodes) ≡ get_or index k 0 in
            let some : here i nodes ≡ get_or index k 0 = subst P f (above.bytes k lt) in
            behind_sum prop (get_or index k 0) (here i (nodes ++ below)) true is (also k 0 lt).2 (omega (arith, all, none, some))
        by (of_none low is) =
            let free : prop.free ≡ geo.leb_size = ap (λ (p : Lprop). p.free) is in
            let dirty : prop.dirty ≡ 0 = ap (λ (p : Lprop). p.dirty) is in
            let a : here i nodes ≡ 0 = none_there (main_first geo + length leaves) (main_first geo + length leaves + length index) (main_first geo + i) nodes above.within (inr (omega (arith, low))) in
            let b : here i below ≡ 0 = none_there (main_first geo) (main_first geo + length leaves) (main_first geo + i) below takes.within (inr (omega (arith, low))) in
            omega (arith, free, dirty, all, a, b)

  -- ---- nothing is written behind the free bytes
  module _ (contents : ℕ → List ℕ) (leaves index : List ℕ) (filled : AreFilled geo contents (main_first geo) leaves) (also : AreFilled geo contents (main_first geo + length leaves) index) where
    behind_free : (prop : Lprop) (len lnum at : ℕ) (kind : Bool) → prop ≡ prop_behind geo len kind → len ≤ geo.leb_size → lnum ≡ at → is_blank (drop (in_units geo.min_io len) (contents lnum)) ≡ true
        → is_blank (drop (geo.leb_size - prop.free) (contents at)) ≡ true
    behind_free prop len lnum at kind is low same blank =
        let free : prop.free ≡ geo.leb_size - in_units geo.min_io len = ap (λ (p : Lprop). p.free) is in
        let b = fits len low in
        let e : in_units geo.min_io len ≡ geo.leb_size - prop.free = omega (arith, free, b) in
        let P : ℕ → Type 0 = λ n. is_blank (drop n (contents at)) ≡ true in
        let Q : ℕ → Type 0 = λ n. is_blank (drop (in_units geo.min_io len) (contents n)) ≡ true in
        subst P e (subst Q same blank)

    pub ends : (i : ℕ) (prop : Lprop) → slice_get (laid_props geo leaves index) i ≡ Some prop → prop.free < geo.leb_size → is_blank (drop (geo.leb_size - prop.free) (contents (main_first geo + i))) ≡ true
    ends i prop has not_all = by (prop_at geo leaves index i prop has)
      where
        by : PropAt geo leaves index i prop → is_blank (drop (geo.leb_size - prop.free) (contents (main_first geo + i))) ≡ true
        by (of_leaves lt is) = behind_free prop (get_or leaves i 0) (main_first geo + i) (main_first geo + i) false is (filled.some i 0 lt).2 refl (filled.ends i lt)
        by (of_index k e lt is) =
            behind_free prop (get_or index k 0) (main_first geo + length leaves + k) (main_first geo + i) true is (also.some k 0 lt).2 (omega (arith, e)) (also.ends k lt)
        by (of_none low is) = let free : prop.free ≡ geo.leb_size = ap (λ (p : Lprop). p.free) is in absurd (omega (arith, free, not_all))
