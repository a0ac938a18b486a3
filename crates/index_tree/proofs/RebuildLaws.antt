-- A shape is made again of its list of nodes.
use Rattle.std.specs.Prelude.{◌≡◌, ℕ, ◌+◌, ◌-◌, ◌<◌, ◌==◌, true, false, if◌then◌else◌, List, [], ◌∷◌, ◌++◌, take, drop, length}
use Rattle.std.proofs.Common.{refl, ap, sym, subst, ◌∙◌, arith, inl, inr, zero, suc, add-one, append_assoc, append-nil}
use Rattle.std.proofs.lemmas.Bool.{cases_Bool}
use Rattle.std.proofs.lemmas.Bool.Decides.{nat_tests}
use Rattle.std.proofs.Math.Seq.{take-append_seam, drop-append_seam}
use Rattle.index_tree.proofs.InsertLaws.{fits-filled}
use Rattle.index_tree.specs.Levels.{levelled, is_levelled}
use Rattle.index_tree.proofs.LevelLaws.{level_node, level_leaf}
use Rattle.index_tree.specs.Listing.{ListedNode, height, row_leaves, level_nodes, levels_below, listed}
use Rattle.index_tree.proofs.RangeSkips.{tidied-filled}
use Rattle.index_tree.specs.Rebuild.{IsIndex, leaf_row, joined, waiting, waiting_after}
use Rattle.index_tree.specs.Removal.{tidied}
use Rattle.index_tree.proofs.RemovalLaws.{empty}
use Rattle.index_tree.proofs.SearchLaws.{node_filled}
use Rattle.index_tree.specs.Shape.{Shape, done, leaf, node, count, filled, is_whole}

pub waiting_after-append : (parts : List Shape) (xs ys : List ListedNode) → waiting_after parts (xs ++ ys) ≡ waiting_after (waiting_after parts xs) ys
waiting_after-append parts [] ys = refl
waiting_after-append parts (x ∷ xs) ys = waiting_after-append (waiting parts x) xs ys

-- the rows of children of the nodes of a level
abbrev level_rows : ℕ → ℕ → Shape → List Shape
level_rows level high done = []
level_rows level high (leaf x rest) = []
level_rows level high (node children rest) =
    (if high - 1 == level then children ∷ [] else level_rows level (high - 1) children) ++ level_rows level high rest

lowest : (h : ℕ) → (h == 0) ≡ true → h ≡ 0
lowest h e = grind (arith, nat_tests)

not_lowest : (h : ℕ) → (h == 0) ≡ false → 0 < h
not_lowest h e = grind (arith, nat_tests)

leaf_row-is : (c : Shape) → levelled 0 c ≡ true → leaf_row (row_leaves c) ≡ c
leaf_row-is done l = refl
leaf_row-is (leaf x rest) l = ap (λ v. leaf x v) (leaf_row-is rest (level_leaf 0 x rest l).others)
leaf_row-is (node c rest) l = absurd (omega (arith, (level_node 0 c rest l).above))

-- the nodes of the lowest level bring their leaves
leaves_wait : (h : ℕ) (s : Shape) (parts : List Shape) → levelled h s ≡ true → waiting_after parts (level_nodes 0 h s) ≡ parts ++ level_rows 0 h s
leaves_wait h done parts l = sym (append-nil parts)
leaves_wait h (leaf x rest) parts l = sym (append-nil parts)
leaves_wait h (node c rest) parts l =
    let q = level_node h c rest l in
    elim (cases_Bool (h - 1 == 0)) [
      | inl e ↦
          let low = lowest (h - 1) e in
          let P : ℕ → Type 0 = λ k. levelled k c ≡ true in
          let row = leaf_row-is c (subst P low q.children) in
          rw e (ap (λ v. waiting_after (parts ++ (v ∷ [])) (level_nodes 0 h rest)) row ∙ leaves_wait h rest (parts ++ (c ∷ [])) q.others ∙ append_assoc parts (c ∷ []) (level_rows 0 h rest))
      | inr e ↦
          rw e (waiting_after-append parts (level_nodes 0 (h - 1) c) (level_nodes 0 h rest)
          ∙ ap (λ v. waiting_after v (level_nodes 0 h rest)) (leaves_wait (h - 1) c parts q.children)
          ∙ leaves_wait h rest (parts ++ level_rows 0 (h - 1) c) q.others
          ∙ append_assoc parts (level_rows 0 (h - 1) c) (level_rows 0 h rest))
    ]

same_number : (n : ℕ) → (n == n) ≡ true
same_number n = grind (arith, nat_tests)

-- the rows of children in a row of nodes make it again
pub record AllRows (h : ℕ) (c : Shape) : Type 0 where
  pub as_many : length (level_rows h (h + 1) c) ≡ count c
  pub again : joined (level_rows h (h + 1) c) ≡ c

all_rows : (h : ℕ) (c : Shape) → filled c ≡ true → levelled (h + 1) c ≡ true → AllRows h c
all_rows h done f l = record { as_many = refl; again = refl }
all_rows h (leaf x rest) f l = absurd (omega (arith, lowest (h + 1) (level_leaf (h + 1) x rest l).lowest))
all_rows h (node c rest) f l =
    let p = node_filled c rest f in
    let q = level_node (h + 1) c rest l in
    let g = all_rows h rest p.others q.others in
    let this : (h + 1 - 1 == h) ≡ true = grind (arith, nat_tests) in
    record {
      as_many = rw this (omega (arith, g.as_many));
      again = rw this (ap (λ v. tidied (node c v)) g.again ∙ tidied-filled c rest p.least);
    }

at_level : (n h : ℕ) → (h - 1 == n + 1) ≡ true → h - 1 ≡ n + 1
at_level n h e = grind (arith, nat_tests)

above_level : (n h : ℕ) → n + 1 < h → (h - 1 == n + 1) ≡ false → n + 1 < h - 1
above_level n h l e = grind (arith, nat_tests)

not_level : (n h : ℕ) → n + 1 < h → (h - 1 == n) ≡ false
not_level n h l = grind (arith, nat_tests)

not_low : (n : ℕ) → (n + 1 == 0) ≡ false
not_low n = grind (arith, nat_tests)

-- the nodes of a higher level take the rows of the level below
nodes_take : (n h : ℕ) (s : Shape) (others : List Shape) → n + 1 < h → filled s ≡ true → levelled h s ≡ true → waiting_after (level_rows n h s ++ others) (level_nodes (n + 1) h s) ≡ others ++ level_rows (n + 1) h s
nodes_take n h done others b f l = sym (append-nil others)
nodes_take n h (leaf x rest) others b f l = sym (append-nil others)
nodes_take n h (node c rest) others b f l =
    let p = node_filled c rest f in
    let q = level_node h c rest l in
    let deeper = not_level n h b in
    elim (cases_Bool (h - 1 == n + 1)) [
      | inl e ↦
          let here = at_level n h e in
          let P : ℕ → Type 0 = λ k. levelled k c ≡ true in
          let g = all_rows n c p.children (subst P here q.children) in
          let low = not_low n in
          let rows = level_rows n (h - 1) c in
          let behind = level_rows n h rest in
          let again : joined rows ≡ c = ap (λ k. joined (level_rows n k c)) here ∙ g.again in
          let many : count c ≡ length rows = sym (ap (λ k. length (level_rows n k c)) here ∙ g.as_many) in
          let apart : (rows ++ behind) ++ others ≡ rows ++ (behind ++ others) = append_assoc rows behind others in
          let left : drop (count c) ((rows ++ behind) ++ others) ≡ behind ++ others = ap (λ v. drop (count c) v) apart ∙ ap (λ k. drop k (rows ++ (behind ++ others))) many ∙ drop-append_seam rows (behind ++ others) in
          let taken : joined (take (count c) ((rows ++ behind) ++ others)) ≡ c = ap (λ v. joined (take (count c) v)) apart ∙ ap (λ k. joined (take k (rows ++ (behind ++ others)))) many ∙ ap joined (take-append_seam rows (behind ++ others)) ∙ again in
          let next : drop (count c) ((rows ++ behind) ++ others) ++ (joined (take (count c) ((rows ++ behind) ++ others)) ∷ []) ≡ behind ++ (others ++ (c ∷ [])) = ap (λ v. v ++ (joined (take (count c) ((rows ++ behind) ++ others)) ∷ [])) left ∙ ap (λ v. (behind ++ others) ++ (v ∷ [])) taken ∙ append_assoc behind others (c ∷ []) in
          rw (deeper, e, low) (ap (λ v. waiting_after v (level_nodes (n + 1) h rest)) next ∙ nodes_take n h rest (others ++ (c ∷ [])) b p.others q.others ∙ append_assoc others (c ∷ []) (level_rows (n + 1) h rest))
      | inr e ↦
          let rows = level_rows n (h - 1) c in
          let behind = level_rows n h rest in
          rw (deeper, e) (waiting_after-append ((rows ++ behind) ++ others) (level_nodes (n + 1) (h - 1) c) (level_nodes (n + 1) h rest)
          ∙ ap (λ v. waiting_after (waiting_after v (level_nodes (n + 1) (h - 1) c)) (level_nodes (n + 1) h rest)) (append_assoc rows behind others)
          ∙ ap (λ v. waiting_after v (level_nodes (n + 1) h rest)) (nodes_take n (h - 1) c (behind ++ others) (above_level n h b e) p.children q.children)
          ∙ ap (λ v. waiting_after v (level_nodes (n + 1) h rest)) (append_assoc behind others (level_rows (n + 1) (h - 1) c))
          ∙ nodes_take n h rest (others ++ level_rows (n + 1) (h - 1) c) b p.others q.others
          ∙ append_assoc others (level_rows (n + 1) (h - 1) c) (level_rows (n + 1) h rest))
    ]

-- after the n + 1 lowest levels the rows of the highest of these wait
levels_wait : (n : ℕ) (s : Shape) → n < height s → filled s ≡ true → is_levelled s ≡ true → waiting_after [] (levels_below (suc n) s) ≡ level_rows n (height s) s
levels_wait zero s b f l = leaves_wait (height s) s [] l
levels_wait (suc n) s b f l =
    let below = levels_wait n s (omega arith) f l in
    let P : ℕ → Type 0 = λ k. waiting_after (level_rows n (height s) s ++ []) (level_nodes k (height s) s) ≡ level_rows k (height s) s in
    let taken = subst P (add-one n) (nodes_take n (height s) s [] (omega arith) f l) in
    waiting_after-append [] (levels_below (suc n) s) (level_nodes (suc n) (height s) s)
    ∙ ap (λ v. waiting_after v (level_nodes (suc n) (height s) s)) (below ∙ sym (append-nil (level_rows n (height s) s)))
    ∙ taken

-- a whole shape is made again of its list
-- the shape of a list of nodes: its root has the row of children that waits at the end
abbrev pub rebuilt : List ListedNode → Shape
rebuilt nodes = joined (take 1 (waiting_after [] nodes))

pub rebuilt-listed : (s : Shape) → is_whole s ≡ true → filled s ≡ true → is_levelled s ≡ true → rebuilt (listed s) ≡ s
rebuilt-listed done w f l = refl
rebuilt-listed (leaf x rest) w f l = absurd cc
rebuilt-listed (node c rest) w f l =
    let p = node_filled c rest f in
    let whole : node c rest ≡ node c done = ap (λ v. node c v) (empty rest w) in
    let h = height c in
    let all : waiting_after [] (listed (node c rest)) ≡ level_rows h (h + 1) (node c rest) = ap (λ n. waiting_after [] (levels_below n (node c rest))) (add-one h) ∙ levels_wait h (node c rest) (omega arith) f l in
    let this : (h + 1 - 1 == h) ≡ true = grind (arith, nat_tests) in
    let root : take 1 (level_rows h (h + 1) (node c rest)) ≡ c ∷ [] = rw this refl in
    ap (λ v. joined (take 1 v)) all ∙ ap joined root ∙ tidied-filled c done p.least ∙ sym whole

pub rebuilt-index : (f : ℕ) (s : Shape) → IsIndex f s → rebuilt (listed s) ≡ s
rebuilt-index f s i = rebuilt-listed s i.whole (fits-filled f s i.sound) i.levels
