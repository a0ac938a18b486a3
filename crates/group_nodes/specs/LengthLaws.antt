-- How many bytes a leaf node has, and how many of a LEB are read.
use Rattle.std.proofs.Common.{◌≡◌, ℕ, ◌+◌, ◌-◌, ◌≤◌, List, [], ◌∷◌, ◌++◌, length, take, drop, min, ap, sym, ◌∙◌, arith, length-drop}
use Rattle.std.proofs.Math.Nat.{min-le_right}
use Rattle.std.proofs.Math.Seq.{take-append_seam}
use Rattle.std.proofs.lemmas.List.{length-append, length-take, take_min}
use Rattle.ubifs_base.specs.Node.{node_bytes}
use Rattle.node_fields.specs.Fields.{Field, Spells, total_width}
use Rattle.node_fields.specs.FieldLaws.{reads_back, length-read}
use Rattle.media_leaf.specs.Entry.{entry_tail}
use Rattle.media_leaf.specs.LeafNode.{IsLeaf, IsLeafNode, LeafNode, inode, block, entry, truncation, fields_of, tail_of, type_of}

-- a header has 24 bytes
node_length : (sqnum kind group : ℕ) (pad body : List ℕ) → length pad ≡ 2 → length (node_bytes sqnum kind group pad body) ≡ 24 + length body
unfolding node_bytes
node_length sqnum kind group [] body two = absurd (omega (arith, two))
node_length sqnum kind group (a ∷ []) body two = absurd (omega (arith, two))
node_length sqnum kind group (a ∷ b ∷ []) body two = omega arith
node_length sqnum kind group (a ∷ b ∷ x ∷ pad) body two = absurd (omega (arith, two))

-- what follows it
body_length : (fields : List Field) (tail body : List ℕ) → Spells fields tail body → length body ≡ total_width fields + length tail
body_length fields tail body h = length-read fields tail body (reads_back 0 fields tail body (omega arith) h)

most_behind : (node : LeafNode) → IsLeaf node → total_width (fields_of node) + length (tail_of node) ≤ 4232
most_behind (inode node) leaf = let most = leaf.most in omega (arith, most)
most_behind (block node) leaf = let most = leaf.most in omega (arith, most)
most_behind (entry node) leaf =
    let most = leaf.most in
    let tail : length (entry_tail node) ≡ length node.name + 1 = length-append node.name (0 ∷ []) in
    omega (arith, most, tail)
most_behind (truncation node) leaf = omega arith

-- a header at least, and no more than an inode and as many bytes as a target or a block can have
pub leaf_length : (bytes : List ℕ) (sqnum group : ℕ) (node : LeafNode) → IsLeafNode bytes sqnum group node → (24 ≤ length bytes) × (length bytes ≤ 4256)
leaf_length bytes sqnum group node h =
    let whole = ap length h.framed.spelled ∙ node_length sqnum (type_of node) group h.framed.padding h.body h.framed.two in
    let behind = body_length (fields_of node) (tail_of node) h.body h.spelled in
    let most = most_behind node h.is in
    (omega (arith, whole), omega (arith, whole, behind, most))

-- what is taken is no longer than the whole
pub length_most : (n : ℕ) (xs : List ℕ) → length (take n xs) ≤ length xs
length_most n xs = let e = length-take n xs in let most = min-le_right n (length xs) in omega (arith, e, most)

-- as many bytes as there are
pub bytes_there : (leb : List ℕ) (offs len count size n : ℕ) → length leb ≡ size → count ≡ min len (size - offs) → n ≡ count → take (offs + n - offs) (drop offs leb) ≡ take len (drop offs leb)
bytes_there leb offs len count size n long is same =
    let far : n ≡ min len (length (drop offs leb)) = same ∙ is ∙ ap (min len) (sym (length-drop offs leb ∙ ap (λ k. k - offs) long)) in
    ap (λ k. take k (drop offs leb)) (by n ∙ far) ∙ take_min len (drop offs leb)
  where
    by : (n : ℕ) → offs + n - offs ≡ n
    by n = omega arith

pub written_back : (xs ys : List ℕ) (n : ℕ) → n ≡ length xs → take n (xs ++ ys) ≡ xs
written_back xs ys n e = ap (λ k. take k (xs ++ ys)) e ∙ take-append_seam xs ys
