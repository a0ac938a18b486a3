-- From a row to the row above it, and to the root.
use Rattle.std.proofs.Common.{◌≡◌, ℕ, ◌+◌, ◌-◌, ◌*◌, ◌^◌, ◌<◌, ◌≤◌, Bool, true, List, [], ◌∷◌, ◌++◌, length, refl, ap, sym, ◌∙◌, subst, arith, inl, inr}
use Rattle.std.specs.Prelude.{map, Option, Some, None, nat_lt, nat_le, ◌==◌, ◌&&◌, ◌||◌, ⊤}
use Rattle.std.specs.List.{AllByRecursion}
use Rattle.std.proofs.lemmas.Bool.{and_parts, and_from, lt-ltb, le-leb, ltb-true, eqb-true, or_cases}
use Rattle.std.proofs.lemmas.List.{drop_all, take_all}
use Rattle.ubifs_base.specs.Key.{IsKey, key_words}
use Rattle.ubifs_base.specs.declared.key.Key.{Key}
use Rattle.ubifs_base.specs.declared.key.Key.TheVariants.{Ino, Block, Dent, Xent}
use Rattle.ubifs_base.specs.declared.raw_geometry.RawGeometry.{RawGeometry}
use Rattle.media_sys.specs.Index.{in_order, is_entry, may_follow}
use Rattle.media_sys.specs.declared.branch.Branch.{Branch}
use Rattle.index_tree.specs.Order.{key_rank, leaf_rank}
use Rattle.index_tree.specs.Shape.{contents as leaves_in, count, fits, shape_weight}
use Rattle.index_tree.specs.declared.leaf.Leaf.{Leaf}
use Rattle.index_media.specs.KeyedBounds.{AreAtMost}
use Rattle.index_media.specs.Keys.{AreBounded, IsAtMost, bound_before, branch_rank}
use Rattle.index_media.specs.PlacedRow.{PlacedRow, ended, leaf_at, node_at, all_nodes, branch_to, branches_of, plain}
use Rattle.index_media.specs.Stored.{AreStored, IsIndexNodeAt, IsStoredIndex}
use Rattle.laid_index.specs.Crowned.{IsCrowned, IsRowLaid}
use Rattle.laid_index.specs.Opened.{GoesOnInLeb, Lays, taken_after, bytes_taken_of}
use Rattle.laid_index.specs.Packing.{level_lens}
use Rattle.laid_index.specs.Rows.{AreOver, HasFirstKey, IsGrown, StandOver, parents, row_front}
use Rattle.laid_index.specs.declared.open_leb.OpenLeb.{OpenLeb}
use Rattle.laid_index.proofs.Growing.{parents_all, parents_branches, parents_count, parents_grown, parents_leaves, parents_nodes}
use Rattle.laid_index.proofs.Takes.{takes_among}
use Rattle.laid_index.proofs.Weights.{count_is, levels_weigh, row_weighs, some_children}

-- A level is laid over a row.
pub row_grows : (geo : RawGeometry) (sqnum levels : ℕ) (leaves : List Leaf) (row : PlacedRow) (lens : List ℕ) (made : List Branch) (old new : OpenLeb) (was now : ℕ → List ℕ)
    → 1 ≤ geo.fanout → IsRowLaid geo sqnum levels leaves row old was → Lays geo lens made old was new now → AreOver geo.fanout (branches_of row) made []
    → ((contents : ℕ → List ℕ) → GoesOnInLeb new now contents → StandOver contents geo.fanout levels (branches_of row) made)
    → IsRowLaid geo sqnum (levels + 1) leaves (parents geo.fanout made row) new now
row_grows geo sqnum levels leaves row lens made old new was now one laid lays over stand = record {
  grown = λ contents c. parents_grown contents geo.fanout levels made [] row one over (stand contents c) (laid.grown contents (lays.goes_on contents c));
  takes = takes_among new.first (bytes_taken_of new) (all_nodes row ++ made) (all_nodes (parents geo.fanout made row)) (λ k. parents_nodes geo.fanout k made row over)
      (λ P. parents_all P geo.fanout made row) (lays.takes (all_nodes row) laid.takes);
  number = let a = lays.number in let b = laid.number in let c = parents_count geo.fanout made row over in omega (arith, a, b, c);
  holds_leaves = parents_leaves geo.fanout made row over ∙ laid.holds_leaves;
}

-- A root is laid over a row.
pub row_roots : (geo : RawGeometry) (levels : ℕ) (siblings : List Branch) (lens : List ℕ) (root : Branch) (old new : OpenLeb) (was now : ℕ → List ℕ)
    → 1 ≤ geo.fanout → length siblings ≤ geo.fanout → Lays geo lens (root ∷ []) old was new now → HasFirstKey root siblings
    → ((contents : ℕ → List ℕ) → GoesOnInLeb new now contents → IsIndexNodeAt contents root (record { level = levels; branches = siblings }))
    → bytes_taken_of new ≡ taken_after geo old lens → level_lens geo.fanout (length siblings) ≡ lens
    → IsCrowned geo levels siblings lens old was root new now
row_roots geo levels siblings lens root old new was now one few lays key stand after lens_are = record {
  is_open = lays.is_open;
  first = lays.first;
  after = after;
  row = λ sqnum leaves row e laid.
      let P : List Branch → Type 0 = λ l. AreOver geo.fanout l (root ∷ []) [] in
      let Q : List Branch → Type 0 = λ l. (contents : ℕ → List ℕ) → GoesOnInLeb new now contents → StandOver contents geo.fanout levels l (root ∷ []) in (
        levels + 1,
        (
          row_front geo.fanout row,
          row_grows geo sqnum levels leaves row lens (root ∷ []) old new was now one laid lays
              (subst P (sym e) (key, drop_all geo.fanout siblings few))
              (subst Q (sym e) (λ contents c. (subst (λ (l : List Branch). IsIndexNodeAt contents root (record { level = levels; branches = l })) (sym (take_all geo.fanout siblings few)) (stand contents c), tt))),
          row_weighs geo.fanout siblings (root ∷ []) lens row one e lens_are (subst P (sym e) (key, drop_all geo.fanout siblings few)),
        ),
      );
}

-- A level is laid, and above it a root.
pub row_rises : (geo : RawGeometry) (levels : ℕ) (siblings made : List Branch) (lens above : List ℕ) (root : Branch) (old mid new : OpenLeb) (was then' now : ℕ → List ℕ)
    → 1 ≤ geo.fanout → Lays geo lens made old was mid then' → AreOver geo.fanout siblings made []
    → ((contents : ℕ → List ℕ) → GoesOnInLeb mid then' contents → StandOver contents geo.fanout levels siblings made)
    → IsCrowned geo (levels + 1) made above mid then' root new now → level_lens geo.fanout (length siblings) ≡ lens
    → IsCrowned geo levels siblings (lens ++ above) old was root new now
row_rises geo levels siblings made lens above root old mid new was then' now one lays over stand crowned lens_are = record {
  is_open = crowned.is_open;
  first = crowned.first ∙ lays.first;
  after = crowned.after ∙ lays.after above;
  row = λ sqnum leaves row e laid.
      let P : List Branch → Type 0 = λ l. AreOver geo.fanout l made [] in
      let Q : List Branch → Type 0 = λ l. (contents : ℕ → List ℕ) → GoesOnInLeb mid then' contents → StandOver contents geo.fanout levels l made in
      let top = crowned.row sqnum leaves (parents geo.fanout made row) (parents_branches geo.fanout made row)
      (row_grows geo sqnum levels leaves row lens made old mid was then' one laid lays (subst P (sym e) over) (subst Q (sym e) stand)) in
      let own = row_weighs geo.fanout siblings made lens row one e lens_are (subst P (sym e) over) in (
        top.0,
        (
          top.1.0,
          top.1.1,
          levels_weigh geo.fanout lens above (shape_weight geo.fanout (plain (node_at root top.1.0 ended))) (shape_weight geo.fanout (plain (parents geo.fanout made row))) (shape_weight geo.fanout (plain row)) top.1.2 own,
        ),
      );
}

-- What is grown stands,
pub grown_stored : (contents : ℕ → List ℕ) (f levels : ℕ) (row : PlacedRow) → IsGrown contents f levels row → AreStored contents levels row
unfolding AreStored
grown_stored contents f levels ended h = tt
grown_stored contents f levels (leaf_at x rest) h = (h.0, grown_stored contents f levels rest h.1)
grown_stored contents f levels (node_at b c rest) h = (h.0, h.1, grown_stored contents f (levels - 1) c h.4, grown_stored contents f levels rest h.5)

-- each node has a child, and at most as many as it may,
pub grown_fits : (contents : ℕ → List ℕ) (f levels : ℕ) (row : PlacedRow) → IsGrown contents f levels row → fits f (plain row) ≡ true
grown_fits contents f levels ended h = refl
grown_fits contents f levels (leaf_at x rest) h = grown_fits contents f levels rest h.1
grown_fits contents f levels (node_at b c rest) h =
    let e = count_is c in
    let some = some_children b (branches_of c) h.2 in
    let most = h.3 in
    and_from (nat_lt 0 (count (plain c)) && nat_le (count (plain c)) f && fits f (plain c)) (fits f (plain rest))
    (and_from (nat_lt 0 (count (plain c)) && nat_le (count (plain c)) f) (fits f (plain c))
    (and_from (nat_lt 0 (count (plain c))) (nat_le (count (plain c)) f) (lt-ltb 0 (count (plain c)) (omega (arith, e, some))) (le-leb (count (plain c)) f (omega (arith, e, most))))
    (grown_fits contents f (levels - 1) c h.4))
    (grown_fits contents f levels rest h.5)

-- the leaves' keys never fall
abbrev pub Ascend : ℕ → List Leaf → Type 0
Ascend low [] = ⊤
Ascend low (x ∷ xs) = (low ≤ leaf_rank x) × Ascend (leaf_rank x) xs

-- the first leaf has this rank
abbrev pub BeginsWith : ℕ → List Leaf → Type 0
BeginsWith rank [] = ⊥
BeginsWith rank (x ∷ xs) = leaf_rank x ≡ rank

begins_append : (rank : ℕ) (xs ys : List Leaf) → BeginsWith rank xs → BeginsWith rank (xs ++ ys)
begins_append rank [] ys h = absurd h
begins_append rank (x ∷ xs) ys h = h

first_key : (a b : Key) → a ∷ [] ≡ b ∷ [] → a ≡ b
first_key a b e = cc

grown_begins : (contents : ℕ → List ℕ) (f levels : ℕ) (b : Branch) (row : PlacedRow) → IsGrown contents f levels row → HasFirstKey b (branches_of row) → BeginsWith (branch_rank b) (leaves_in (plain row))
grown_begins contents f levels b ended h key = absurd cc
grown_begins contents f levels b (leaf_at x rest) h key = ap key_rank (first_key x.key b.key key)
grown_begins contents f levels b (node_at d c rest) h key =
    let P : Key → Type 0 = λ k. BeginsWith (key_rank k) (leaves_in (plain c)) in
    begins_append (branch_rank b) (leaves_in (plain c)) (leaves_in (plain rest)) (subst P (first_key d.key b.key key) (grown_begins contents f (levels - 1) d c h.4 h.2))

ascend_lower : (low high : ℕ) (xs : List Leaf) → low ≤ high → Ascend high xs → Ascend low xs
ascend_lower low high [] le h = tt
ascend_lower low high (x ∷ xs) le h = let a = h.0 in (omega (arith, a, le), h.1)

ascend_front : (low : ℕ) (xs ys : List Leaf) → Ascend low (xs ++ ys) → Ascend low xs
ascend_front low [] ys h = tt
ascend_front low (x ∷ xs) ys h = (h.0, ascend_front (leaf_rank x) xs ys h.1)

ascend_back : (low : ℕ) (xs ys : List Leaf) → Ascend low (xs ++ ys) → Ascend low ys
ascend_back low [] ys h = h
ascend_back low (x ∷ xs) ys h = ascend_lower low (leaf_rank x) ys h.0 (ascend_back (leaf_rank x) xs ys h.1)

-- leaves ascend from the first one's rank on
ascend_first : (low rank : ℕ) (xs : List Leaf) → BeginsWith rank xs → Ascend low xs → (low ≤ rank) × Ascend rank xs
ascend_first low rank [] b h = absurd b
ascend_first low rank (x ∷ xs) b h = let a = h.0 in (omega (arith, a, b), (omega (arith, b), h.1))

-- none is above one behind it
ascend_most : (low rank : ℕ) (xs ys : List Leaf) → BeginsWith rank ys → Ascend low (xs ++ ys) → (low ≤ rank) × AreAtMost (Some rank) xs
ascend_most low rank [] ys b h = ((ascend_first low rank ys b h).0, tt)
ascend_most low rank (x ∷ xs) ys b h =
    let more = ascend_most (leaf_rank x) rank xs ys b h.1 in
    let a = h.0 in
    let c = more.0 in
    (omega (arith, a, c), (more.0, more.1))

at_most_front : (most : Option ℕ) (xs ys : List Leaf) → AreAtMost most (xs ++ ys) → AreAtMost most xs
at_most_front most [] ys h = tt
at_most_front most (x ∷ xs) ys h = (h.0, at_most_front most xs ys h.1)

at_most_back : (most : Option ℕ) (xs ys : List Leaf) → AreAtMost most (xs ++ ys) → AreAtMost most ys
at_most_back most [] ys h = h
at_most_back most (x ∷ xs) ys h = at_most_back most xs ys h.1

at_most_first : (most : Option ℕ) (rank : ℕ) (xs : List Leaf) → BeginsWith rank xs → AreAtMost most xs → IsAtMost rank most
at_most_first most rank [] b h = absurd b
at_most_first most rank (x ∷ xs) b h = let P : ℕ → Type 0 = λ n. IsAtMost n most in subst P b h.0

pub at_most_none : (xs : List Leaf) → AreAtMost None xs
at_most_none [] = tt
at_most_none (x ∷ xs) = (tt, at_most_none xs)

-- what bounds those before a row is what bounds all, or the row's first leaf's rank
before_rest : (contents : ℕ → List ℕ) (f levels low : ℕ) (most : Option ℕ) (xs : List Leaf) (rest : PlacedRow) → IsGrown contents f levels rest → Ascend low (xs ++ leaves_in (plain rest))
    → AreAtMost most (xs ++ leaves_in (plain rest)) → AreAtMost (bound_before rest most) xs
before_rest contents f levels low most xs ended g h m = at_most_front most xs [] m
before_rest contents f levels low most xs (leaf_at x rest) g h m = (ascend_most low (leaf_rank x) xs (x ∷ leaves_in (plain rest)) refl h).1
before_rest contents f levels low most xs (node_at b c rest) g h m =
    (ascend_most low (branch_rank b) xs (leaves_in (plain c) ++ leaves_in (plain rest))
    (begins_append (branch_rank b) (leaves_in (plain c)) (leaves_in (plain rest)) (grown_begins contents f (levels - 1) b c g.4 g.2)) h).1

-- and keys lie between those of branches.
pub grown_bounded : (contents : ℕ → List ℕ) (f levels least : ℕ) (most : Option ℕ) (row : PlacedRow) → IsGrown contents f levels row → Ascend least (leaves_in (plain row)) → AreAtMost most (leaves_in (plain row))
    → AreBounded least most row
grown_bounded contents f levels least most ended g h m = tt
grown_bounded contents f levels least most (leaf_at x rest) g h m = (h.0, m.0, grown_bounded contents f levels (leaf_rank x) most rest g.1 h.1 m.1)
grown_bounded contents f levels least most (node_at b c rest) g h m =
    let xs = leaves_in (plain c) in
    let ys = leaves_in (plain rest) in
    let own = grown_begins contents f (levels - 1) b c g.4 g.2 in
    let begins = begins_append (branch_rank b) xs ys own in
    let from = ascend_first least (branch_rank b) (xs ++ ys) begins h in (
      from.0,
      at_most_first most (branch_rank b) (xs ++ ys) begins m,
      grown_bounded contents f (levels - 1) (branch_rank b) (bound_before rest most) c g.4 (ascend_front (branch_rank b) xs ys from.1) (before_rest contents f levels (branch_rank b) most xs rest g.5 from.1 m),
      grown_bounded contents f levels (branch_rank b) most rest g.5 (ascend_back (branch_rank b) xs ys from.1) (at_most_back most xs ys m),
    )

-- So it is an index.
abbrev pub grown_index : (contents : ℕ → List ℕ) (f levels : ℕ) (root : Branch) (children : PlacedRow) → IsGrown contents f levels (node_at root children ended)
    → Ascend 0 (leaves_in (plain (node_at root children ended))) → IsStoredIndex contents f root (node_at root children ended)
grown_index contents f levels root children g h = record {
  children = children;
  whole = refl;
  levels = levels;
  stored = grown_stored contents f levels (node_at root children ended) g;
  fits = grown_fits contents f levels (node_at root children ended) g;
  bounded = grown_bounded contents f levels 0 None (node_at root children ended) g h (at_most_none (leaves_in (plain (node_at root children ended))));
}

-- Keys that may follow one another ascend.

second_below : (k : Key) → IsKey k → (key_words k).1 < 2 ^ 33
second_below (Ino ino) h = omega arith
second_below (Block ino block) h = let a = h.1 in omega (arith, a)
second_below (Dent dir hash) h = let a = h.1 in omega (arith, a)
second_below (Xent ino hash) h = let a = h.1 in omega (arith, a)

ranks : (a0 a1 b0 b1 : ℕ) (e : Bool) → a1 < 2 ^ 33 → (nat_lt a0 b0 || (a0 == b0 && (nat_lt a1 b1 || (a1 == b1 && e)))) ≡ true → a0 * 2 ^ 33 + a1 ≤ b0 * 2 ^ 33 + b1
ranks a0 a1 b0 b1 e below h = elim (or_cases (nat_lt a0 b0) (a0 == b0 && (nat_lt a1 b1 || (a1 == b1 && e))) h) [
  | inl lt ↦ let l = ltb-true a0 b0 lt in omega (arith, l, below)
  | inr both ↦
      let parts = and_parts (a0 == b0) (nat_lt a1 b1 || (a1 == b1 && e)) both in
      let same = eqb-true a0 b0 parts.0 in
      elim (or_cases (nat_lt a1 b1) (a1 == b1 && e) parts.1) [
        | inl lt ↦ let l = ltb-true a1 b1 lt in omega (arith, l, same)
        | inr eq ↦ let s = eqb-true a1 b1 (and_parts (a1 == b1) e eq).0 in omega (arith, s, same)
      ]
]

follows_rank : (a b : Key) → IsKey a → may_follow (Some a) b ≡ true → key_rank a ≤ key_rank b
unfolding key_rank
follows_rank a b h f = ranks (key_words a).0 (key_words a).1 (key_words b).0 (key_words b).1 (is_entry b) (second_below a h) f

ascend_behind : (k : Key) (xs : List Leaf) → IsKey k → AllByRecursion (λ (x : Leaf). IsKey x.key) xs → in_order (Some k) (map branch_to xs) ≡ true → Ascend (key_rank k) xs
ascend_behind k [] h keys order = tt
ascend_behind k (x ∷ xs) h keys order =
    let parts = and_parts (may_follow (Some k) x.key) (in_order (Some x.key) (map branch_to xs)) order in
    (follows_rank k x.key h parts.0, ascend_behind x.key xs keys.0 keys.1 parts.1)

pub leaves_ascend : (xs : List Leaf) → AllByRecursion (λ (x : Leaf). IsKey x.key) xs → in_order None (map branch_to xs) ≡ true → Ascend 0 xs
leaves_ascend [] keys order = tt
leaves_ascend (x ∷ xs) keys order = (omega arith, ascend_behind x.key xs keys.0 keys.1 (and_parts true (in_order (Some x.key) (map branch_to xs)) order).1)
