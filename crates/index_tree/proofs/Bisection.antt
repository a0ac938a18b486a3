-- What a walk loses nothing by passing over.
use Rattle.std.specs.Prelude.{◌≡◌, ℕ, ◌+◌, ◌-◌, ◌<◌, ◌≤◌, ◌==◌, nat_le, true, List, [], ◌∷◌, ◌++◌, length, drop, None}
use Rattle.std.specs.List.{last_or}
use Rattle.std.proofs.Common.{refl, ap, sym, subst, ◌∙◌, arith, zero, suc, get_or, append_assoc, drop-cons}
use Rattle.std.proofs.lemmas.Bool.Decides.{nat_tests}
use Rattle.std.proofs.lemmas.List.Elements.{filter-append}
use Rattle.index_tree.specs.declared.leaf.Leaf.{Leaf}
use Rattle.index_tree.specs.declared.node.Node.{Node}
use Rattle.index_tree.specs.declared.node.Node.TheViews.{out-Node}
use Rattle.index_tree.specs.LastBlock.{up_to}
use Rattle.index_tree.specs.Order.{key_rank, leaf_rank, ordered_from, starts_within, first_after, of_rank}
use Rattle.index_tree.specs.Places.{leaf_place, node_place}
use Rattle.index_tree.specs.Shape.{contents, filled, begins_within}
use Rattle.index_tree.specs.Tree.{below, kept, row, kept_all}
use Rattle.index_tree.proofs.Following.{none_after_before, after_right}
use Rattle.index_tree.proofs.LastBlockLaws.{last-right, up_to-some}
use Rattle.index_tree.proofs.OrderLaws.{ordered_head, ordered-weaken, ordered-left, ordered-right, low_before, none_before}
use Rattle.index_tree.proofs.PlaceLaws.{kept-drop, filled-drop}
use Rattle.index_tree.proofs.SearchLaws.{begins-starts}
use Rattle.index_tree.proofs.TreeLaws.{cells, below-cells, below-contents, below-filled, kept_cons, kept_node, row-begins}

-- a list from a place on begins with what stands there
pub leaf_here : (at : ℕ) (xs : List Leaf) (i : ℕ) (x : Leaf) → i < length xs → x ≡ get_or xs i x → starts_within at (drop i xs) ≡ nat_le (leaf_rank x) at
leaf_here at xs i x h is = ap (λ v. starts_within at v) (drop-cons xs i x h) ∙ ap (λ v. nat_le (leaf_rank v) at) (sym is)

pub node_here : (at : ℕ) (ns : List Node) (i : ℕ) (one : Node) → i < length ns → one ≡ get_or ns i one → kept_all ns ≡ true → filled (row ns) ≡ true →
    begins_within at (row (drop i ns)) ≡ nat_le (key_rank (out-Node one).first) at
node_here at ns i one h is k f =
    let here : drop i ns ≡ one ∷ drop (suc i) ns = drop-cons ns i one h ∙ ap (λ v. v ∷ drop (suc i) ns) (sym is) in
    let K : List Node → Type 0 = λ v. kept_all v ≡ true in
    let F : List Node → Type 0 = λ v. filled (row v) ≡ true in
    let keeps = (kept_cons one (drop (suc i) ns) (subst K here (kept-drop i ns k))).head in
    ap (λ v. begins_within at (row v)) here ∙ row-begins at one (drop (suc i) ns) keeps (subst F here (filled-drop i ns f))

-- what stands in front of a place
before : (n : ℕ) (xs : List Leaf) → (front : List Leaf) × (xs ≡ front ++ drop n xs)
before zero xs = ([], refl)
before (suc n) [] = ([], refl)
before (suc n) (x ∷ xs) = let p = before n xs in (x ∷ p.0, ap (λ v. x ∷ v) p.1)

row_before : (n : ℕ) (ns : List Node) → (front : List Leaf) × (contents (row ns) ≡ front ++ contents (row (drop n ns)))
row_before zero ns = ([], refl)
row_before (suc n) [] = ([], refl)
row_before (suc n) (m ∷ ms) =
    let p = row_before n ms in
    (contents (below m) ++ p.0, ap (λ v. contents (below m) ++ v) p.1 ∙ sym (append_assoc (contents (below m)) p.0 (contents (row (drop n ms)))))

-- what is known of the leaves behind those that are passed over
pub record Behind (xs ys : List Leaf) (at : ℕ) : Type 0 where
  pub ordered : ordered_from 0 ys ≡ true
  pub after : first_after at xs ≡ first_after at ys
  pub of_higher : (k : ℕ) → at < k → of_rank k xs ≡ of_rank k ys
  pub last : last_or None (up_to at xs) ≡ last_or None (up_to at ys)

behind : (at : ℕ) (xs front ys : List Leaf) → xs ≡ front ++ ys → ordered_from 0 xs ≡ true → starts_within at ys ≡ true → Behind xs ys at
behind at xs front ys is o s =
    let P : List Leaf → Type 0 = λ v. ordered_from 0 v ≡ true in
    let both : ordered_from 0 (front ++ ys) ≡ true = subst P is o in
    record {
      ordered = ordered-right 0 front ys both;
      after = ap (λ v. first_after at v) is ∙ after_right at front ys (none_after_before 0 at front ys both s);
      of_higher = λ k h. ap (λ v. of_rank k v) is ∙ filter-append (λ x. leaf_rank x == k) front ys ∙ ap (λ v. v ++ of_rank k ys) (none_before 0 at k front ys h both s);
      last = ap (λ v. last_or None (up_to at v)) is ∙ ap (λ v. last_or None v) (filter-append (λ x. nat_le (leaf_rank x) at) front ys) ∙ last-right None None (up_to at front) (up_to at ys) (up_to-some at ys s);
    }

pub leaves_behind : (at n : ℕ) (xs : List Leaf) → ordered_from 0 xs ≡ true → (0 < n → starts_within at (drop n xs) ≡ true) → Behind xs (drop n xs) at
leaves_behind at zero xs o s = record { ordered = o; after = refl; of_higher = λ k h. refl; last = refl }
leaves_behind at (suc n) xs o s = let p = before (suc n) xs in behind at xs p.0 (drop (suc n) xs) p.1 o (s (omega arith))

pub nodes_behind : (at n : ℕ) (ns : List Node) → filled (row ns) ≡ true → ordered_from 0 (contents (row ns)) ≡ true → (0 < n → begins_within at (row (drop n ns)) ≡ true) →
    Behind (contents (row ns)) (contents (row (drop n ns))) at
nodes_behind at zero ns f o b = record { ordered = o; after = refl; of_higher = λ k h. refl; last = refl }
nodes_behind at (suc n) ns f o b =
    let p = row_before (suc n) ns in
    let starts = sym (begins-starts at (row (drop (suc n) ns)) (filled-drop (suc n) ns f)) ∙ b (omega arith) in
    behind at (contents (row ns)) p.0 (contents (row (drop (suc n) ns))) p.1 o starts

-- the leaves of a rank, where only lower ones are passed over
pub leaves_of_rank : (k n : ℕ) (xs : List Leaf) → ordered_from 0 xs ≡ true → (0 < n → 0 < k) → (0 < n → starts_within (k - 1) (drop n xs) ≡ true) → of_rank k xs ≡ of_rank k (drop n xs)
leaves_of_rank k zero xs o p s = refl
leaves_of_rank k (suc n) xs o p s = let above = p (omega arith) in (leaves_behind (k - 1) (suc n) xs o s).of_higher k (omega arith)

pub nodes_of_rank : (k n : ℕ) (ns : List Node) → filled (row ns) ≡ true → ordered_from 0 (contents (row ns)) ≡ true → (0 < n → 0 < k) → (0 < n → begins_within (k - 1) (row (drop n ns)) ≡ true) →
    of_rank k (contents (row ns)) ≡ of_rank k (contents (row (drop n ns)))
nodes_of_rank k zero ns f o p b = refl
nodes_of_rank k (suc n) ns f o p b = let above = p (omega arith) in (nodes_behind (k - 1) (suc n) ns f o b).of_higher k (omega arith)

pub cells-drop : (n : ℕ) (ns : List Node) → cells (row (drop n ns)) ≤ cells (row ns)
cells-drop zero ns = omega arith
cells-drop (suc n) [] = omega arith
cells-drop (suc n) (m ∷ ms) = omega (arith, cells-drop n ms)

-- what is known of the nodes of a node from a place on
pub record Tail (i : ℕ) (n : Node) : Type 0 where
  pub keeps : kept_all (drop i (out-Node n).nodes.items) ≡ true
  pub sound : filled (row (drop i (out-Node n).nodes.items)) ≡ true
  pub ordered : ordered_from 0 (contents (row (drop i (out-Node n).nodes.items))) ≡ true
  pub small : cells (row (drop i (out-Node n).nodes.items)) ≤ cells (below n)

-- and of its children
pub record Parts (n : Node) : Type 0 where
  pub keeps : kept_all (out-Node n).nodes.items ≡ true
  pub sound : filled (row (out-Node n).nodes.items) ≡ true
  pub ordered : ordered_from 0 (contents (row (out-Node n).nodes.items)) ≡ true
  pub own : ordered_from 0 (out-Node n).leaves.items ≡ true

pub parts_of : (n : Node) → kept n ≡ true → filled (below n) ≡ true → ordered_from 0 (contents (below n)) ≡ true → Parts n
parts_of n k f o =
    let both : ordered_from 0 ((out-Node n).leaves.items ++ contents (row (out-Node n).nodes.items)) ≡ true = rw (below-contents n) at o in
    record {
      keeps = (kept_node n k).inside;
      sound = sym (below-filled n) ∙ f;
      ordered = ordered-right 0 (out-Node n).leaves.items (contents (row (out-Node n).nodes.items)) both;
      own = ordered-left 0 (out-Node n).leaves.items (contents (row (out-Node n).nodes.items)) both;
    }

pub tail_of : (i : ℕ) (n : Node) → kept n ≡ true → filled (below n) ≡ true → ordered_from 0 (contents (below n)) ≡ true → Tail i n
tail_of i n k f o =
    let p = parts_of n k f o in
    let q = row_before i (out-Node n).nodes.items in
    let P : List Leaf → Type 0 = λ v. ordered_from 0 v ≡ true in
    record {
      keeps = kept-drop i (out-Node n).nodes.items p.keeps;
      sound = filled-drop i (out-Node n).nodes.items p.sound;
      ordered = ordered-right 0 q.0 (contents (row (drop i (out-Node n).nodes.items))) (subst P q.1 p.ordered);
      small = omega (arith, cells-drop i (out-Node n).nodes.items, below-cells n);
    }

-- a list in order begins within what a later part of it begins within
starts_earlier : (at : ℕ) (front ys : List Leaf) → ordered_from 0 (front ++ ys) ≡ true → starts_within at ys ≡ true → starts_within at (front ++ ys) ≡ true
starts_earlier at [] ys o s = s
starts_earlier at (x ∷ xs) ys o s =
    let p = ordered_head 0 x (xs ++ ys) o in
    let within = low_before (leaf_rank x) at xs ys p.others s in
    grind (arith, nat_tests, within)

begins_earlier : (at n : ℕ) (ns : List Node) → filled (row ns) ≡ true → ordered_from 0 (contents (row ns)) ≡ true → begins_within at (row (drop n ns)) ≡ true → begins_within at (row ns) ≡ true
begins_earlier at n ns f o b =
    let p = row_before n ns in
    let P : List Leaf → Type 0 = λ v. ordered_from 0 v ≡ true in
    let starts = sym (begins-starts at (row (drop n ns)) (filled-drop n ns f)) ∙ b in
    begins-starts at (row ns) f ∙ ap (λ v. starts_within at v) p.1 ∙ starts_earlier at p.0 (contents (row (drop n ns))) (subst P p.1 o) starts

some_begin : (at : ℕ) (ns : List Node) → begins_within at (row ns) ≡ true → 0 < length ns
some_begin at [] b = absurd cc
some_begin at (m ∷ ms) b = omega arith

-- a walk to a place may begin behind the nodes that are passed over
pub record NodesPassed (at n : ℕ) (ns : List Node) : Type 0 where
  pub place : node_place at (row ns) ≡ n + node_place at (row (drop n ns))
  pub bound : n < length ns

pub place_behind : (at n : ℕ) (ns : List Node) → 0 < length ns → filled (row ns) ≡ true → ordered_from 0 (contents (row ns)) ≡ true → (0 < n → begins_within at (row (drop n ns)) ≡ true) → NodesPassed at n ns
place_behind at zero ns some f o b = record { place = omega arith; bound = some }
place_behind at (suc n) [] some f o b = absurd (omega arith)
place_behind at (suc n) (m ∷ ms) some f o b =
    let others = filled-drop 1 (m ∷ ms) f in
    let ordered = ordered-right 0 (contents (below m)) (contents (row ms)) o in
    let here = b (omega arith) in
    let next = begins_earlier at n ms others ordered here in
    let q = place_behind at n ms (some_begin at ms next) others ordered (λ h. here) in
    record { place = rw next (omega (arith, q.place)); bound = omega (arith, q.bound) }

pub leaves_place : (at n : ℕ) (xs : List Leaf) → ordered_from 0 xs ≡ true → (0 < n → starts_within at (drop n xs) ≡ true) → leaf_place at xs ≡ n + leaf_place at (drop n xs)
leaves_place at zero xs o s = omega arith
leaves_place at (suc n) [] o s = absurd (let none = s (omega arith) in cc)
leaves_place at (suc n) (x ∷ xs) o s =
    let p = ordered_head 0 x xs o in
    let q = before n xs in
    let P : List Leaf → Type 0 = λ v. ordered_from (leaf_rank x) v ≡ true in
    let within = low_before (leaf_rank x) at q.0 (drop n xs) (subst P q.1 p.others) (s (omega arith)) in
    let e : nat_le (leaf_rank x) at ≡ true = grind (arith, nat_tests, within) in
    let rest = leaves_place at n xs (ordered-weaken 0 (leaf_rank x) xs (omega arith) p.others) (λ h. s (omega arith)) in
    rw e (omega (arith, rest))
