-- Leaf nodes that were read: which node bytes are, and whether two are the same.
use Rattle.std.proofs.Common.{◌≡◌, ℕ, zero, suc, ◌+◌, ◌<◌, List, [], ◌∷◌, Option, Some, None, IfNone, IfOk, Result, Ok, Err, take, drop, ap, subst, arith, get_or-drop}
use Rattle.std.specs.Prelude.{get_or}
use Rattle.std.specs.Option.{option_map}
use Rattle.ubifs_base.specs.NodeLaws.{IsBytes}
use Rattle.media_leaf.specs.LeafNode.{IsLeafNode, LeafNode, inode, block, entry, truncation}
use Rattle.media_leaf.specs.declared.data_node.DataNode.{DataNode}
use Rattle.media_leaf.specs.declared.dent_node.DentNode.{DentNode}
use Rattle.media_leaf.specs.declared.ino_node.InoNode.{InoNode}
use Rattle.media_leaf.specs.declared.trun_node.TrunNode.{TrunNode}
use Rattle.shown_leaves.specs.Stored.{IsStoredIn, leaf_node}
use Rattle.shown_leaves.specs.declared.stored_node.StoredNode.{StoredNode}

-- ---- which node
-- of no kind
pub none_of_four : (bytes : List ℕ) → ((s g : ℕ) (n : DataNode) → IsLeafNode bytes s g (block n) → ⊥) → ((s g : ℕ) (n : InoNode) → IsLeafNode bytes s g (inode n) → ⊥)
    → ((s g : ℕ) (n : DentNode) → IsLeafNode bytes s g (entry n) → ⊥) → ((s g : ℕ) (n : TrunNode) → IsLeafNode bytes s g (truncation n) → ⊥) → IsStoredIn bytes None
none_of_four bytes b i e t s g (inode n) h = i s g n h
none_of_four bytes b i e t s g (block n) h = b s g n h
none_of_four bytes b i e t s g (entry n) h = e s g n h
none_of_four bytes b i e t s g (truncation n) h = t s g n h

-- bytes are at most one node
abbrev pub IsOneNode : Type 0
IsOneNode = (bytes : List ℕ) (s1 g1 s2 g2 : ℕ) (n1 n2 : LeafNode) → IsBytes bytes → IsLeafNode bytes s1 g1 n1 → IsLeafNode bytes s2 g2 n2 → (s1 ≡ s2) × (g1 ≡ g2) × (n1 ≡ n2)

bytes_behind : (n : ℕ) (bytes : List ℕ) → IsBytes bytes → IsBytes (drop n bytes)
bytes_behind n bytes fits i = rw get_or-drop (fits (n + i))

taken_byte : (n : ℕ) (bytes : List ℕ) → IsBytes bytes → (i : ℕ) → get_or (take n bytes) i 0 < 256
taken_byte zero bytes fits i = omega arith
taken_byte (suc n) [] fits i = omega arith
taken_byte (suc n) (x ∷ xs) fits zero = fits 0
taken_byte (suc n) (x ∷ xs) fits (suc i) = taken_byte n xs (λ k. fits (suc k)) i

pub part_bytes : (offs len : ℕ) (leb : List ℕ) → IsBytes leb → IsBytes (take len (drop offs leb))
part_bytes offs len leb fits = taken_byte len (drop offs leb) (bytes_behind offs leb fits)

-- where a node stands, it is what is read
pub read_is : IsOneNode → (bytes : List ℕ) (s g : ℕ) (node : LeafNode) (found : Option StoredNode) → IsBytes bytes → IsLeafNode bytes s g node → IsStoredIn bytes found → option_map leaf_node found ≡ Some node
read_is one bytes s g node None fits h read = absurd (read s g node h)
read_is one bytes s g node (Some there) fits h (t, k, is) = ap (λ (n : LeafNode). Some n) (one bytes t k s g (leaf_node there) node fits is h).2

-- what isn't there is none
pub none_is : {X : Type 0} (o : Option X) (P : Type 0) → o ≡ None → IfNone o P → P
none_is {X} o P is h = let Q : Option X → Type 0 = λ r. IfNone r P in subst Q is h

pub ok_map : {X E : Type 0} (r : Result X E) (P Q : X → Type 0) → ((x : X) → P x → Q x) → IfOk r P → IfOk r Q
ok_map (Ok x) P Q f h = f x h
ok_map (Err e) P Q f h = tt
