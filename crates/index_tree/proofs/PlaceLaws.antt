-- What the places of leaves and the halves of a node say of its row of children.
use Rattle.std.specs.Prelude.{◌≡◌, ℕ, ◌+◌, ◌-◌, ◌<◌, ◌≤◌, ◌==◌, nat_le, true, false, ◌⊎◌, if◌then◌else◌, List, [], ◌∷◌, ◌++◌, length, take, drop}
use Rattle.std.proofs.Common.{refl, ap, sym, ◌∙◌, subst, arith, inl, inr, zero, suc, get_or, add-one, drop-cons}
use Rattle.std.proofs.lemmas.Bool.{cases_Bool}
use Rattle.std.proofs.lemmas.Bool.Decides.{nat_tests}
use Rattle.index_tree.specs.declared.leaf.Leaf.{Leaf}
use Rattle.index_tree.specs.declared.node.Node.{Node}
use Rattle.index_tree.specs.declared.node.Node.TheOpen.{Node-F}
use Rattle.index_tree.specs.declared.node.Node.TheViews.{out-Node, roll-Node}
use Rattle.index_tree.specs.Order.{key_rank, leaf_rank}
use Rattle.index_tree.specs.Places.{leaf_place, node_place, joined_rows}
use Rattle.index_tree.specs.Shape.{Shape, done, leaf, node, count, filled, begins_within, front, back, parted, inserted}
use Rattle.index_tree.proofs.SearchLaws.{node_filled}
use Rattle.index_tree.specs.Tree.{leaves_before, below, row, kept_all}
use Rattle.index_tree.proofs.TreeLaws.{below_is, below_made, kept_made, kept_cons, row-begins, leaves-count, row-count, below-count}

front-none : (s : Shape) → front 0 s ≡ done
front-none done = refl
front-none (leaf x rest) = refl
front-none (node c rest) = refl

back-none : (s : Shape) → back 0 s ≡ s
back-none done = refl
back-none (leaf x rest) = refl
back-none (node c rest) = refl

not_none : (n : ℕ) → (suc n == 0) ≡ false
not_none n = grind (arith, nat_tests)

less_one : (n : ℕ) → suc n - 1 ≡ n
less_one n = omega arith

pub front-leaves : (n : ℕ) (xs : List Leaf) (s : Shape) → front n (leaves_before xs s) ≡ leaves_before (take n xs) (front (n - length xs) s)
front-leaves zero [] s = ap (λ k. front k s) (omega arith)
front-leaves (suc n) [] s = ap (λ k. front k s) (omega arith)
front-leaves zero (x ∷ xs) s =
    let k : 0 - length (x ∷ xs) ≡ 0 = omega arith in
    sym (ap (λ j. front j s) k ∙ front-none s)
front-leaves (suc n) (x ∷ xs) s =
    let k : n - length xs ≡ suc n - length (x ∷ xs) = omega arith in
    rw not_none (ap (λ v. leaf x v) (ap (λ j. front j (leaves_before xs s)) (less_one n) ∙ front-leaves n xs s ∙ ap (λ j. leaves_before (take n xs) (front j s)) k))

pub back-leaves : (n : ℕ) (xs : List Leaf) (s : Shape) → back n (leaves_before xs s) ≡ leaves_before (drop n xs) (back (n - length xs) s)
back-leaves zero [] s = ap (λ k. back k s) (omega arith)
back-leaves (suc n) [] s = ap (λ k. back k s) (omega arith)
back-leaves zero (x ∷ xs) s =
    let k : 0 - length (x ∷ xs) ≡ 0 = omega arith in
    sym (ap (λ j. leaf x (leaves_before xs (back j s))) k ∙ ap (λ v. leaf x (leaves_before xs v)) (back-none s))
back-leaves (suc n) (x ∷ xs) s =
    let k : n - length xs ≡ suc n - length (x ∷ xs) = omega arith in
    rw not_none (ap (λ j. back j (leaves_before xs s)) (less_one n) ∙ back-leaves n xs s ∙ ap (λ j. leaves_before (drop n xs) (back j s)) k)

pub front-row : (n : ℕ) (ns : List Node) → front n (row ns) ≡ row (take n ns)
front-row zero [] = refl
front-row (suc n) [] = refl
front-row zero (m ∷ ms) = refl
front-row (suc n) (m ∷ ms) = rw not_none (ap (λ v. node (below m) v) (ap (λ j. front j (row ms)) (less_one n) ∙ front-row n ms))

pub back-row : (n : ℕ) (ns : List Node) → back n (row ns) ≡ row (drop n ns)
back-row zero [] = refl
back-row (suc n) [] = refl
back-row zero (m ∷ ms) = refl
back-row (suc n) (m ∷ ms) = rw not_none (ap (λ j. back j (row ms)) (less_one n) ∙ back-row n ms)

pub kept-take : (n : ℕ) (ns : List Node) → kept_all ns ≡ true → kept_all (take n ns) ≡ true
kept-take zero ns h = refl
kept-take (suc n) [] h = refl
kept-take (suc n) (m ∷ ms) h = let p = kept_cons m ms h in rw (p.head, kept-take n ms p.tail) refl

pub kept-drop : (n : ℕ) (ns : List Node) → kept_all ns ≡ true → kept_all (drop n ns) ≡ true
kept-drop zero ns h = h
kept-drop (suc n) [] h = refl
kept-drop (suc n) (m ∷ ms) h = kept-drop n ms (kept_cons m ms h).tail

pub kept-append : (ms ns : List Node) → kept_all ms ≡ true → kept_all ns ≡ true → kept_all (ms ++ ns) ≡ true
kept-append [] ns h k = k
kept-append (m ∷ ms) ns h k = let p = kept_cons m ms h in rw (p.head, kept-append ms ns p.tail k) refl

pub filled-drop : (n : ℕ) (ns : List Node) → filled (row ns) ≡ true → filled (row (drop n ns)) ≡ true
filled-drop zero ns h = h
filled-drop (suc n) [] h = refl
filled-drop (suc n) (m ∷ ms) h = filled-drop n ms (node_filled (below m) (row ms) h).others

-- a leaf goes to its place among the leaves, where a greater one stands there or nothing is behind them
pub placed_leaf : (f : ℕ) (x : Leaf) (xs : List Leaf) (s : Shape) (i : ℕ) → i ≡ leaf_place (leaf_rank x) xs → (i < length xs) ⊎ (s ≡ done) →
    inserted f x (leaves_before xs s) ≡ leaves_before (take i xs ++ (x ∷ drop i xs)) s
placed_leaf f x [] s zero e (inl h) = absurd (omega arith)
placed_leaf f x [] s zero e (inr h) = let P : Shape → Type 0 = λ v. inserted f x v ≡ leaf x v in subst P (sym h) refl
placed_leaf f x [] s (suc i) e h = absurd (omega arith)
placed_leaf f x (y ∷ ys) s zero e h = elim (cases_Bool (nat_le (leaf_rank y) (leaf_rank x))) [
  | inl t ↦ let none = rw t at e in absurd (omega arith)
  | inr t ↦ rw t refl
]
placed_leaf f x (y ∷ ys) s (suc i) e h = elim (cases_Bool (nat_le (leaf_rank y) (leaf_rank x))) [
  | inl t ↦
      let one = rw t at e in
      let same : i ≡ leaf_place (leaf_rank x) ys = omega arith in
      let place : (i < length ys) ⊎ (s ≡ done) = elim h [ inl a ↦ inl (omega arith) | inr b ↦ inr b ] in
      rw t (ap (λ v. leaf y v) (placed_leaf f x ys s i same place))
  | inr t ↦ let none = rw t at e in absurd (omega arith)
]

-- behind all leaves a leaf goes into what follows them
pub passed_leaves : (f : ℕ) (x : Leaf) (xs : List Leaf) (s : Shape) → length xs ≤ leaf_place (leaf_rank x) xs → inserted f x (leaves_before xs s) ≡ leaves_before xs (inserted f x s)
passed_leaves f x [] s h = refl
passed_leaves f x (y ∷ ys) s h = elim (cases_Bool (nat_le (leaf_rank y) (leaf_rank x))) [
  | inl t ↦ let more = rw t at h in rw t (ap (λ v. leaf y v) (passed_leaves f x ys s (omega arith)))
  | inr t ↦ let none = rw t at h in absurd (omega arith)
]

row-append : (ms ns : List Node) → row (ms ++ ns) ≡ joined_rows (row ms) (row ns)
row-append [] ns = refl
row-append (m ∷ ms) ns = ap (λ v. node (below m) v) (row-append ms ns)

parted-before : (f : ℕ) (d t : Shape) → parted f d t ≡ joined_rows (parted f d done) t
unfolding parted
parted-before f d t = elim (cases_Bool (nat_le (f + 1) (count d))) [
  | inl e ↦ rw e refl
  | inr e ↦ rw e refl
]

into_node : (f : ℕ) (x : Leaf) (ns : List Node) (i : ℕ) (n : Node) → i ≡ node_place (leaf_rank x) (row ns) → i < length ns →
    inserted f x (row ns) ≡ joined_rows (row (take i ns)) (parted f (inserted f x (below (get_or ns i n))) (row (drop (suc i) ns)))
into_node f x [] i n e h = absurd (omega arith)
into_node f x (m ∷ ms) zero n e h = elim (cases_Bool (begins_within (leaf_rank x) (row ms))) [
  | inl t ↦ let none = rw t at e in absurd (omega arith)
  | inr t ↦ rw t refl
]
into_node f x (m ∷ ms) (suc i) n e h = elim (cases_Bool (begins_within (leaf_rank x) (row ms))) [
  | inl t ↦
      let one = rw t at e in
      let same : i ≡ node_place (leaf_rank x) (row ms) = omega arith in
      rw t (ap (λ v. node (below m) v) (into_node f x ms i n same (omega arith)))
  | inr t ↦ let none = rw t at e in absurd (omega arith)
]

-- a leaf goes into the node at its place, of which these nodes are made
pub placed_below : (f : ℕ) (x : Leaf) (ns ms : List Node) (i : ℕ) (n : Node) → i ≡ node_place (leaf_rank x) (row ns) → i < length ns →
    row ms ≡ parted f (inserted f x (below (get_or ns i n))) done → inserted f x (row ns) ≡ row (take i ns ++ (ms ++ drop (suc i) ns))
placed_below f x ns ms i n e h is =
    let d = inserted f x (below (get_or ns i n)) in
    into_node f x ns i n e h
    ∙ ap (λ v. joined_rows (row (take i ns)) v) (parted-before f d (row (drop (suc i) ns)) ∙ ap (λ v. joined_rows v (row (drop (suc i) ns))) (sym is) ∙ sym (row-append ms (drop (suc i) ns)))
    ∙ sym (row-append (take i ns) (ms ++ drop (suc i) ns))

-- one more node is passed where the next one begins within the rank
pub next_place : (at : ℕ) (ns : List Node) (i : ℕ) (one : Node) → i + 1 < length ns → one ≡ get_or ns (i + 1) one → kept_all ns ≡ true → filled (row ns) ≡ true →
    node_place at (row (drop i ns)) ≡ (if nat_le (key_rank (out-Node one).first) at then node_place at (row (drop (i + 1) ns)) + 1 else 0)
next_place at ns i one h is k f =
    let here : drop i ns ≡ get_or ns i one ∷ drop (i + 1) ns = drop-cons ns i one (omega arith) ∙ ap (λ j. get_or ns i one ∷ drop j ns) (sym (add-one i)) in
    let next : drop (i + 1) ns ≡ one ∷ drop (suc (i + 1)) ns = drop-cons ns (i + 1) one h ∙ ap (λ v. v ∷ drop (suc (i + 1)) ns) (sym is) in
    let K : List Node → Type 0 = λ v. kept_all v ≡ true in
    let F : List Node → Type 0 = λ v. filled (row v) ≡ true in
    let keeps = (kept_cons one (drop (suc (i + 1)) ns) (subst K next (kept-drop (i + 1) ns k))).head in
    let sound = subst F next (filled-drop (i + 1) ns f) in
    let begins : begins_within at (row (drop (i + 1) ns)) ≡ nat_le (key_rank (out-Node one).first) at = ap (λ v. begins_within at (row v)) next ∙ row-begins at one (drop (suc (i + 1)) ns) keeps sound in
    ap (λ v. node_place at (row v)) here ∙ ap (λ b. if b then node_place at (row (drop (i + 1) ns)) + 1 else 0) begins

pub last_place : (at : ℕ) (ns : List Node) (i : ℕ) → i < length ns → length ns ≤ i + 1 → node_place at (row (drop i ns)) ≡ 0
last_place at [] i h m = absurd (omega arith)
last_place at (n ∷ []) zero h m = refl
last_place at (n ∷ (k ∷ ns)) zero h m = absurd (omega arith)
last_place at (n ∷ ns) (suc i) h m = last_place at ns i (omega arith) (omega arith)

-- the left part of a node that is cut, and the right part
pub cut_left : (n : ℕ) (one : Node) (x : Node-F Node) → x.leaves.items ≡ take n (out-Node one).leaves.items → x.nodes.items ≡ take (n - length (out-Node one).leaves.items) (out-Node one).nodes.items → below (roll-Node x) ≡ front n (below one)
cut_left n one x l m =
    let xs = (out-Node one).leaves.items in
    let ns = (out-Node one).nodes.items in
    below_made x ∙ ap (λ v. leaves_before v (row x.nodes.items)) l ∙ ap (λ v. leaves_before (take n xs) (row v)) m
    ∙ sym (ap (λ v. front n v) (below_is one) ∙ front-leaves n xs (row ns) ∙ ap (λ v. leaves_before (take n xs) v) (front-row (n - length xs) ns))

pub cut_right : (n : ℕ) (one : Node) (x : Node-F Node) → x.leaves.items ≡ drop n (out-Node one).leaves.items → x.nodes.items ≡ drop (n - length (out-Node one).leaves.items) (out-Node one).nodes.items → below (roll-Node x) ≡ back n (below one)
cut_right n one x l m =
    let xs = (out-Node one).leaves.items in
    let ns = (out-Node one).nodes.items in
    below_made x ∙ ap (λ v. leaves_before v (row x.nodes.items)) l ∙ ap (λ v. leaves_before (drop n xs) (row v)) m
    ∙ sym (ap (λ v. back n v) (below_is one) ∙ back-leaves n xs (row ns) ∙ ap (λ v. leaves_before (drop n xs) v) (back-row (n - length xs) ns))

pub ruleset halving = (nat_tests, below_is, below_made, below-count, front-leaves, back-leaves, front-row, back-row, kept-take, kept-drop)
