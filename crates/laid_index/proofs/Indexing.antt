-- From no node to the whole index.
use Rattle.std.proofs.Common.{◌≡◌, ◌≢◌, ℕ, ◌+◌, ◌^◌, ◌%◌, ◌<◌, ◌≤◌, true, List, [], ◌∷◌, ◌++◌, length, take, ap, sym, ◌∙◌, subst, refl, arith}
use Rattle.std.specs.Prelude.{map, None}
use Rattle.std.specs.List.{AllByRecursion}
use Rattle.std.proofs.lemmas.List.Elements.{All-nil, recursion_from_All}
use Rattle.ubifs_base.specs.Geometry.{IsGeometry}
use Rattle.ubifs_base.specs.Key.{IsKey}
use Rattle.ubifs_base.specs.declared.raw_geometry.RawGeometry.{RawGeometry}
use Rattle.media_sys.specs.Index.{in_order}
use Rattle.media_sys.specs.declared.branch.Branch.{Branch}
use Rattle.index_tree.specs.Keyed.{HaveKeys}
use Rattle.index_tree.specs.Shape.{contents as leaves_in, shape_weight}
use Rattle.index_tree.specs.declared.leaf.Leaf.{Leaf}
use Rattle.index_media.specs.PlacedRow.{PlacedRow, ended, leaf_at, node_at, all_nodes, branch_to, branches_of, plain}
use Rattle.laid_main.specs.Filling.{AreFilled, TakesOfLebs}
use Rattle.laid_index.specs.Crowned.{IsCrowned, IsRowLaid}
use Rattle.laid_index.specs.Indexed.{IsLaidIndex}
use Rattle.laid_index.specs.Opened.{GoesOnInLeb, IsClosed, AreNodesReady, open_lnum, taken_after, bytes_taken_of}
use Rattle.laid_index.specs.Packing.{index_lens, index_used, index_weight, lens_above, packed}
use Rattle.laid_index.specs.Rows.{AreInOrder, IsGrown}
use Rattle.laid_index.specs.declared.laid_index.LaidIndex.{LaidIndex}
use Rattle.laid_index.specs.declared.open_leb.OpenLeb.{OpenLeb}
use Rattle.laid_index.proofs.Crowning.{Ascend, grown_index, leaves_ascend}
use Rattle.laid_index.proofs.Opening.{closed_goes_on, closed_open}
use Rattle.laid_index.proofs.Packs.{lens_count}
use Rattle.laid_index.proofs.Takes.{takes_none}

-- a LEB that took nothing, in front of which none is closed
pub record IsFresh (first sqnum : ℕ) (leb : OpenLeb) : Type 0 where
  pub begins : leb.first ≡ first
  pub used : leb.used.items ≡ []
  pub bytes : leb.bytes.items ≡ []
  pub number : leb.sqnum ≡ sqnum

pub fresh_taken : (geo : RawGeometry) (first sqnum : ℕ) (leb : OpenLeb) (lens : List ℕ) → IsFresh first sqnum leb → taken_after geo leb lens ≡ packed geo.leb_size 0 lens
fresh_taken geo first sqnum leb lens f =
    ap (λ (l : List ℕ). l ++ packed geo.leb_size (length leb.bytes.items) lens) f.used ∙ ap (λ (l : List ℕ). packed geo.leb_size (length l) lens) f.bytes

pub fresh_ready : (geo : RawGeometry) (first sqnum n : ℕ) (leb : OpenLeb) (was : ℕ → List ℕ) → IsGeometry geo → IsFresh first sqnum leb → 0 < n → first + length (index_used geo n) ≤ geo.leb_cnt → sqnum + n < 2 ^ 64
    → AreNodesReady geo (lens_above n geo.fanout n) leb was
fresh_ready geo first sqnum n leb was g f some room number =
    let A : List ℕ → Type 0 = λ l. AreFilled geo was leb.first l in
    let none : length leb.bytes.items ≡ 0 = ap length f.bytes in
    let taken = ap length (fresh_taken geo first sqnum leb (lens_above n geo.fanout n) f) in
    let at = f.begins in
    let from = f.number in
    let count = lens_count n geo.fanout n g.fanout.0 some in
    record {
      is_open = record {
        filled = subst A (sym f.used) (record { some = All-nil (λ (m : ℕ). (0 < m) × (m % 8 ≡ 0) × (m ≤ geo.leb_size)); ends = λ k few. absurd (omega (arith, few)) });
        words = ap (λ (m : ℕ). m % 8) none;
        fits = omega (arith, none);
      };
      room = omega (arith, taken, room, at);
      number = omega (arith, from, count, number);
    }

keys_map : (xs : List Leaf) → AllByRecursion (λ (x : Leaf). IsKey x.key) xs → AllByRecursion (λ (b : Branch). IsKey b.key) (map branch_to xs)
keys_map [] h = tt
keys_map (x ∷ xs) h = (h.0, keys_map xs h.1)

pub leaves_keyed : (xs : List Leaf) → HaveKeys xs → AllByRecursion (λ (x : Leaf). IsKey x.key) xs
leaves_keyed xs h = recursion_from_All (λ (x : Leaf). IsKey x.key) xs h

pub leaves_in_order : (xs : List Leaf) → HaveKeys xs → in_order None (map branch_to xs) ≡ true → AreInOrder (map branch_to xs)
leaves_in_order xs keys order = record { keys = keys_map xs (leaves_keyed xs keys); order = order }

-- a row of leaves
abbrev row_of : List Leaf → PlacedRow
row_of [] = ended
row_of (x ∷ xs) = leaf_at x (row_of xs)

row_branches : (xs : List Leaf) → branches_of (row_of xs) ≡ map branch_to xs
row_branches [] = refl
row_branches (x ∷ xs) = ap (λ (l : List Branch). branch_to x ∷ l) (row_branches xs)

row_leaves : (xs : List Leaf) → leaves_in (plain (row_of xs)) ≡ xs
row_leaves [] = refl
row_leaves (x ∷ xs) = ap (λ (l : List Leaf). x ∷ l) (row_leaves xs)

-- which weighs nothing
row_weight : (f : ℕ) (xs : List Leaf) → shape_weight f (plain (row_of xs)) ≡ 0
row_weight f [] = refl
row_weight f (x ∷ xs) = row_weight f xs

nothing_more : (a b : ℕ) → a ≡ 0 → a + b ≡ b
nothing_more a b none = omega (arith, none)

row_nodes : (xs : List Leaf) → all_nodes (row_of xs) ≡ []
row_nodes [] = refl
row_nodes (x ∷ xs) = row_nodes xs

row_grown : (contents : ℕ → List ℕ) (f : ℕ) (xs : List Leaf) → IsGrown contents f 0 (row_of xs)
row_grown contents f [] = tt
row_grown contents f (x ∷ xs) = (refl, row_grown contents f xs)

fresh_row : (geo : RawGeometry) (first sqnum : ℕ) (xs : List Leaf) (leb : OpenLeb) (was : ℕ → List ℕ) → IsFresh first sqnum leb → IsRowLaid geo sqnum 0 xs (row_of xs) leb was
fresh_row geo first sqnum xs leb was f =
    let T : List Branch → Type 0 = λ l. TakesOfLebs leb.first (bytes_taken_of leb) l in
    let U : List ℕ → Type 0 = λ l. TakesOfLebs leb.first l [] in
    let none : length leb.bytes.items ≡ 0 = ap length f.bytes in
    let same : bytes_taken_of leb ≡ length leb.bytes.items ∷ [] = ap (λ (l : List ℕ). l ++ length leb.bytes.items ∷ []) f.used in
    let count = ap length (row_nodes xs) in
    let number = f.number in
    record {
      grown = λ contents c. row_grown contents geo.fanout xs;
      takes = subst T (sym (row_nodes xs)) (subst U (sym same) (takes_none leb.first (length leb.bytes.items) none));
      number = omega (arith, count, number);
      holds_leaves = row_leaves xs;
    }

-- The last LEB is closed, and the index stands.
pub index_laid : (geo : RawGeometry) (xs : List Leaf) (first sqnum : ℕ) (root : Branch) (made : LaidIndex) (start leb shut : OpenLeb) (old was now : ℕ → List ℕ)
    → HaveKeys xs → in_order None (map branch_to xs) ≡ true → IsFresh first sqnum start
    → IsCrowned geo 0 (map branch_to xs) (index_lens geo.fanout (length xs)) start old root leb was
    → 0 < length leb.bytes.items → IsClosed geo leb shut now → ((k : ℕ) → k ≢ open_lnum leb → now k ≡ was k)
    → made.root ≡ root → made.used.items ≡ shut.used.items → made.sqnum ≡ shut.sqnum
    → IsLaidIndex geo now xs first sqnum made
index_laid geo xs first sqnum root made start leb shut old was now keys order fresh crowned some closed same is_root is_used is_number =
    let top = crowned.row sqnum xs (row_of xs) (row_branches xs) (fresh_row geo first sqnum xs start old fresh) in
    let high = top.0 in
    let children = top.1.0 in
    let laid = top.1.1 in
    let placed = node_at root children ended in
    let on : GoesOnInLeb shut now now = record { closed = λ k lt. refl; front = (let P : List ℕ → Type 0 = λ l. take (length l) (now (open_lnum shut)) ≡ l in subst P (sym closed.bytes) refl) } in
    let grown = laid.grown now (closed_goes_on geo leb shut was now now closed same on) in
    let A : List Leaf → Type 0 = λ l. Ascend 0 l in
    let ascend = subst A (sym laid.holds_leaves) (leaves_ascend xs (leaves_keyed xs keys) order) in
    let I : Branch → Type 0 = λ b. IsLaidIndex geo now xs first sqnum (record made { root = b }) in
    let used : made.used.items ≡ bytes_taken_of leb = is_used ∙ closed.used in
    let from : leb.first ≡ first = crowned.first ∙ fresh.begins in
    let T : List ℕ → Type 0 = λ l. TakesOfLebs first l (all_nodes placed) in
    let F : ℕ → Type 0 = λ n. TakesOfLebs n (bytes_taken_of leb) (all_nodes placed) in
    let G : List ℕ → Type 0 = λ l. AreFilled geo now first l in
    let H : ℕ → Type 0 = λ n. AreFilled geo now n shut.used.items in
    let whole : IsLaidIndex geo now xs first sqnum (record made { root = root }) = record {
      placed = placed;
      index = grown_index now geo.fanout high root children grown ascend;
      key = grown.2;
      holds = laid.holds_leaves;
      takes = subst T (sym used) (subst F from laid.takes);
      filled = subst G (sym is_used) (subst H (closed.first ∙ from) (closed_open geo leb shut was now crowned.is_open some closed same).filled);
      used = used ∙ crowned.after ∙ fresh_taken geo first sqnum start (index_lens geo.fanout (length xs)) fresh;
      weight = top.1.2 ∙ nothing_more (shape_weight geo.fanout (plain (row_of xs))) (index_weight geo.fanout (length xs)) (row_weight geo.fanout xs);
      number = is_number ∙ closed.number ∙ laid.number;
    } in
    subst I (sym is_root) whole
