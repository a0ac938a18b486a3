-- The steps that make an index of its list of nodes.
use Rattle.std.specs.Prelude.{◌≡◌, ◌==◌, ℕ, true, false, ◌++◌, List, [], ◌∷◌, map, take}
use Rattle.std.proofs.Common.{◌+◌, ◌-◌, ◌<◌, zero, suc, length, get_or, refl, ap, sym, ◌∙◌, arith}
use Rattle.std.proofs.lemmas.List.{map-append, take_more}
use Rattle.index_tree.specs.declared.index_node.IndexNode.{IndexNode}
use Rattle.index_tree.specs.declared.leaf.Leaf.{Leaf}
use Rattle.index_tree.specs.declared.node.Node.{Node}
use Rattle.index_tree.specs.Places.{joined_rows}
use Rattle.std.proofs.lemmas.Bool.Decides.{nat_tests}
use Rattle.index_tree.specs.Listing.{ListedNode, listed_node, listed}
use Rattle.index_tree.specs.Rebuild.{IsIndex, leaf_row, joined, waiting, waiting_after}
use Rattle.index_tree.proofs.RebuildLaws.{rebuilt, waiting_after-append, rebuilt-index}
use Rattle.index_tree.specs.Shape.{Shape, done, leaf, node, count}
use Rattle.index_tree.specs.Tree.{below, row, leaves_before}

-- the root that is made is that of the index whose nodes were given
pub root_is : (f : ℕ) (s root : Shape) (ones : List ListedNode) (parts : List Shape) → IsIndex f s → ones ≡ listed s → parts ≡ waiting_after [] ones → root ≡ joined (take 1 parts) → root ≡ s
root_is f s root ones parts i e w r =
    r ∙ ap (λ v. joined (take 1 v)) w ∙ ap (λ v. rebuilt v) e ∙ rebuilt-index f s i

leaves-done : (xs : List Leaf) → leaves_before xs done ≡ leaf_row xs
leaves-done [] = refl
leaves-done (x ∷ xs) = ap (λ v. leaf x v) (leaves-done xs)

-- a node of leaves alone
pub leaves_alone : (xs ys : List Leaf) (ns : List Node) → ns ≡ [] → xs ≡ ys → leaves_before xs (row ns) ≡ leaf_row ys
leaves_alone xs ys ns none same = ap (λ v. leaves_before xs (row v)) none ∙ leaves-done xs ∙ ap leaf_row same

rows-behind : (s : Shape) (c t : Shape) → joined_rows (joined_rows s (node c done)) t ≡ joined_rows s (node c t)
rows-behind done c t = refl
rows-behind (leaf x rest) c t = ap (λ v. leaf x v) (rows-behind rest c t)
rows-behind (node d rest) c t = ap (λ v. node d v) (rows-behind rest c t)

row-push : (ns : List Node) (n : Node) → row (ns ++ (n ∷ [])) ≡ joined_rows (row ns) (node (below n) done)
row-push [] n = refl
row-push (m ∷ ms) n = ap (λ v. node (below m) v) (row-push ms n)

pub rows-none : (s : Shape) → joined_rows s done ≡ s
rows-none done = refl
rows-none (leaf x rest) = ap (λ v. leaf x v) (rows-none rest)
rows-none (node d rest) = ap (λ v. node d v) (rows-none rest)

one_less : (n : ℕ) (c : Shape) (cs : List Shape) → 0 < n → take n (c ∷ cs) ≡ c ∷ take (n - 1) cs
one_less zero c cs h = absurd (omega arith)
one_less (suc m) c cs h = let less : suc m - 1 ≡ m = omega arith in ap (λ k. c ∷ take k cs) (sym less)

-- the first node is put behind the others
pub join_step : (n : ℕ) (c : Node) (old new : List Node) (ns ms all : List Node) → 0 < n → old ≡ c ∷ new → (count (below c) == 0) ≡ false → ms ≡ ns ++ (c ∷ []) →
    row all ≡ joined_rows (row ms) (joined (take (n - 1) (map below new))) → row all ≡ joined_rows (row ns) (joined (take n (map below old)))
join_step n c old new ns ms all h is some put e =
    let rest = joined (take (n - 1) (map below new)) in
    let front : joined (take n (map below old)) ≡ node (below c) rest = ap (λ v. joined (take n (map below v))) is ∙ ap joined (one_less n (below c) (map below new) h) ∙ rw some refl in
    e ∙ ap (λ v. joined_rows (row v) rest) put ∙ ap (λ v. joined_rows v rest) (row-push ns c) ∙ rows-behind (row ns) (below c) rest ∙ ap (λ v. joined_rows (row ns) v) (sym front)

take-none : (n : ℕ) → joined (take n []) ≡ done
take-none zero = refl
take-none (suc n) = refl

-- no node waits
pub join_none : (n : ℕ) (old : List Node) → old ≡ [] → joined (take n (map below old)) ≡ done
join_none n old is = ap (λ v. joined (take n (map below v))) is ∙ take-none n

-- an empty one isn't
pub join_past : (n : ℕ) (c : Node) (old new : List Node) (ns all : List Node) → 0 < n → old ≡ c ∷ new → (count (below c) == 0) ≡ true →
    row all ≡ joined_rows (row ns) (joined (take (n - 1) (map below new))) → row all ≡ joined_rows (row ns) (joined (take n (map below old)))
join_past n c old new ns all h is none e =
    let rest = joined (take (n - 1) (map below new)) in
    let front : joined (take n (map below old)) ≡ rest = ap (λ v. joined (take n (map below v))) is ∙ ap joined (one_less n (below c) (map below new) h) ∙ rw none refl in
    e ∙ ap (λ v. joined_rows (row ns) v) (sym front)

-- one more node takes its children
pub one_more : (xs : List IndexNode) (i : ℕ) (x : IndexNode) → i < length xs → x ≡ get_or xs i x → waiting (waiting_after [] (map listed_node (take i xs))) (listed_node x) ≡ waiting_after [] (map listed_node (take (i + 1) xs))
one_more xs i x h is =
    let more : take (i + 1) xs ≡ take i xs ++ (x ∷ []) = take_more xs i x h ∙ ap (λ v. take i xs ++ (v ∷ [])) (sym is) in
    sym (ap (λ v. waiting_after [] (map listed_node v)) more
    ∙ ap (λ v. waiting_after [] v) (map-append listed_node (take i xs) (x ∷ []))
    ∙ waiting_after-append [] (map listed_node (take i xs)) (listed_node x ∷ []))

pub ruleset rebuilding = (nat_tests, root_is)
