-- A root's branch leads to one index.
use Rattle.std.proofs.Common.{◌≡◌, ℕ, zero, suc, ◌+◌, ◌-◌, ◌<◌, List, [], ◌∷◌, take, drop, get_or, get_or-drop, refl, ap, sym, ◌∙◌, subst, arith}
use Rattle.ubifs_base.specs.NodeLaws.{IsBytes}
use Rattle.index_tree.specs.declared.leaf.Leaf.{Leaf}
use Rattle.media_sys.specs.Index.{Index}
use Rattle.media_sys.specs.SystemNode.{SystemNode, index, IsSystemNode}
use Rattle.media_sys.specs.declared.branch.Branch.{Branch}
use Rattle.index_media.specs.PlacedRow.{PlacedRow, ended, leaf_at, node_at, branch_to, leaf_of, branches_of}
use Rattle.index_media.specs.Stored.{IsIndexNodeAt, AreStored, IsStoredIndex}

-- bytes are one system node at most
abbrev pub OneNode : Type 0
OneNode = (bytes : List ℕ) (s1 g1 s2 g2 : ℕ) (n1 n2 : SystemNode) → IsBytes bytes → IsSystemNode bytes s1 g1 n1 → IsSystemNode bytes s2 g2 n2 → (s1 ≡ s2) × (g1 ≡ g2) × (n1 ≡ n2)

bytes_drop : (n : ℕ) (bytes : List ℕ) → IsBytes bytes → IsBytes (drop n bytes)
bytes_drop n bytes fits = λ i. rw get_or-drop (fits (n + i))

bytes_cons : (x : ℕ) (bytes : List ℕ) → x < 256 → IsBytes bytes → (i : ℕ) → get_or (x ∷ bytes) i 0 < 256
bytes_cons x bytes first rest zero = first
bytes_cons x bytes first rest (suc i) = rest i

bytes_take : (n : ℕ) (bytes : List ℕ) → IsBytes bytes → IsBytes (take n bytes)
bytes_take zero bytes fits = λ i. omega arith
bytes_take (suc n) [] fits = fits
bytes_take (suc n) (x ∷ bytes) fits = bytes_cons x (take n bytes) (fits 0) (bytes_take n bytes (λ i. fits (suc i)))

same_index : (a b : Index) → index a ≡ index b → a ≡ b
same_index a b e = cc

one_said : OneNode → (media : ℕ → List ℕ) → ((k : ℕ) → IsBytes (media k)) → (branch : Branch) (a b : Index) → IsIndexNodeAt media branch a → IsIndexNodeAt media branch b → a ≡ b
one_said one media fits branch a b ha hb =
    let leb = media branch.lnum in
    let part = bytes_take branch.len (drop branch.offs leb) (bytes_drop branch.offs leb (fits branch.lnum)) in
    same_index a b (one (take branch.len (drop branch.offs leb)) ha.sqnum ha.group hb.sqnum hb.group (index a) (index b) part ha.is hb.is).2

same_leaves : (x y : Leaf) (p q : PlacedRow) → branch_to x ≡ branch_to y → p ≡ q → leaf_at x p ≡ leaf_at y q
same_leaves x y p q first rest =
    let same : x ≡ y = ap leaf_of first in
    cc (same, rest)

same_nodes : (a b : Branch) (c d p q : PlacedRow) → a ≡ b → c ≡ d → p ≡ q → node_at a c p ≡ node_at b d q
same_nodes a b c d p q first children rest = cc (first, children, rest)

heads : (a b : Branch) (xs ys : List Branch) → a ∷ xs ≡ b ∷ ys → (a ≡ b) × (xs ≡ ys)
heads a b xs ys e = (cc, cc)

one_row : OneNode → (media : ℕ → List ℕ) → ((k : ℕ) → IsBytes (media k)) → (levels : ℕ) (a b : PlacedRow) → AreStored media levels a → AreStored media levels b → branches_of a ≡ branches_of b → a ≡ b
unfolding AreStored
one_row one media fits levels ended ended ha hb e = refl
one_row one media fits levels ended (leaf_at y q) ha hb e = absurd cc
one_row one media fits levels ended (node_at b d q) ha hb e = absurd cc
one_row one media fits levels (leaf_at x p) ended ha hb e = absurd cc
one_row one media fits levels (leaf_at x p) (leaf_at y q) ha hb e =
    let parts = heads (branch_to x) (branch_to y) (branches_of p) (branches_of q) e in
    same_leaves x y p q parts.0 (one_row one media fits levels p q ha.1 hb.1 parts.1)
one_row one media fits levels (leaf_at x p) (node_at b d q) ha hb e = absurd (omega (arith, ha.0, hb.0))
one_row one media fits levels (node_at a c p) ended ha hb e = absurd cc
one_row one media fits levels (node_at a c p) (leaf_at y q) ha hb e = absurd (omega (arith, ha.0, hb.0))
one_row one media fits levels (node_at a c p) (node_at b d q) ha hb e =
    let parts = heads a b (branches_of p) (branches_of q) e in
    let P : Branch → Type 0 = λ z. IsIndexNodeAt media z (record { level = levels - 1; branches = branches_of d }) in
    let said = one_said one media fits a (record { level = levels - 1; branches = branches_of c }) (record { level = levels - 1; branches = branches_of d }) ha.1 (subst P (sym parts.0) hb.1) in
    let children = one_row one media fits (levels - 1) c d ha.2 hb.2 (ap (λ (s : Index). s.branches) said) in
    same_nodes a b c d p q parts.0 children (one_row one media fits levels p q ha.3 hb.3 parts.1)

one_root : OneNode → (media : ℕ → List ℕ) → ((k : ℕ) → IsBytes (media k)) → (m n : ℕ) (root : Branch) (c d : PlacedRow) → AreStored media m (node_at root c ended) → AreStored media n (node_at root d ended) → node_at root c ended ≡ node_at root d ended
unfolding AreStored
one_root one media fits m n root c d hc hd =
    let said = one_said one media fits root (record { level = m - 1; branches = branches_of c }) (record { level = n - 1; branches = branches_of d }) hc.1 hd.1 in
    let level : m - 1 ≡ n - 1 = ap (λ (s : Index). s.level) said in
    let some_m : 0 < m = hc.0 in
    let some_n : 0 < n = hd.0 in
    let e : n ≡ m = omega (arith, level, some_m, some_n) in
    let P : ℕ → Type 0 = λ k. AreStored media k (node_at root d ended) in
    one_row one media fits m (node_at root c ended) (node_at root d ended) hc (subst P e hd) refl

pub one_index : OneNode → (media : ℕ → List ℕ) (fanout other : ℕ) (root : Branch) (a b : PlacedRow) → ((k : ℕ) → IsBytes (media k)) → IsStoredIndex media fanout root a → IsStoredIndex media other root b → a ≡ b
one_index one media fanout other root a b fits ha hb =
    let P : PlacedRow → Type 0 = λ row. AreStored media ha.levels row in
    let Q : PlacedRow → Type 0 = λ row. AreStored media hb.levels row in
    ha.whole ∙ one_root one media fits ha.levels hb.levels root ha.children hb.children (subst P ha.whole ha.stored) (subst Q hb.whole hb.stored) ∙ sym hb.whole
