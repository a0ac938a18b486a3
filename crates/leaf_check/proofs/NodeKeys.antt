-- The key that stands in a leaf node.
use Rattle.std.proofs.Common.{◌≡◌, ℕ, ◌+◌, ◌*◌, ◌%◌, ◌^◌, ◌<◌, ◌≤◌, Bool, true, false, List, length, drop, length-drop, drop-drop, Option, Some, refl, sym, ◌∙◌, ap, inl, inr, arith}
use Rattle.std.specs.Prelude.{if◌then◌else◌, nat_le}
use Rattle.std.proofs.lemmas.Bool.{cases_Bool, leb-true}
use Rattle.byteorder.specs.Endian.{little_number}
use Rattle.ubifs_base.specs.NodeLaws.{IsBytes}
use Rattle.ubifs_base.specs.R5.{r5_of, r5_from}
use Rattle.ubifs_base.specs.declared.key.Key.{Key}
use Rattle.ubifs_base.specs.declared.key.Key.TheVariants.{Ino, Block, Dent, Xent}
use Rattle.ubifs_base.specs.declared.node_type.NodeType.{NodeType}
use Rattle.ubifs_base.specs.declared.node_type.NodeType.TheVariants as types
use Rattle.node_fields.specs.FieldLaws.{IsRead, reads_back}
use Rattle.node_fields.specs.Fields.{Reads, total_width}
use Rattle.node_fields.specs.FormLaws.{body_in}
use Rattle.media_leaf.specs.Entry.{entry_fields}
use Rattle.media_leaf.specs.LeafNode.{LeafNode, IsLeafNode, block, entry, fields_of, inode, leaf_form, tail_of, truncation}
use Rattle.media_leaf.specs.declared.dent_node.DentNode.{DentNode}
use Rattle.leb_scan.specs.Text.{leaf_type}
use Rattle.group_nodes.specs.Nodes.{leaf_key}
use Rattle.leaf_check.specs.NodeKeys.{key_by}

-- a hash has 29 bits
above_two : (masked : ℕ) → masked < 2 ^ 29 → (if nat_le masked 2 then masked + 3 else masked) < 2 ^ 29
above_two masked h = elim (cases_Bool (nat_le masked 2)) [
  | inl e ↦ rw e (let few = leb-true masked 2 e in omega (arith, few))
  | inr e ↦ rw e h
]

hash_bits : (name : List ℕ) → r5_of name < 2 ^ 29
unfolding r5_of
hash_bits name = above_two (r5_from 0 name % 2 ^ 29) (omega arith)

value_of : (n kind value : ℕ) → n ≡ kind * 2 ^ 29 + value → value < 2 ^ 29 → n % 2 ^ 29 ≡ value
value_of n kind value e h = omega (arith, e, h)

-- what the fields of a leaf node say
fields_read : (bytes : List ℕ) (sqnum group : ℕ) (node : LeafNode) → IsBytes bytes → IsLeafNode bytes sqnum group node → IsRead 0 (fields_of node) (tail_of node) (drop 24 bytes)
fields_read bytes sqnum group node fits h = reads_back 0 (fields_of node) (tail_of node) (drop 24 bytes) (omega arith) (body_in leaf_form bytes sqnum group node fits h).spelled

key_two : (a b : Option Key) (c : Option Key) → a ≡ b → b ≡ c → a ≡ c
key_two a b c e f = e ∙ f

entry_told : (attribute : Bool) (dir hash first second : ℕ) → first ≡ dir → second ≡ hash → key_by (if attribute then types.Attribute else types.Entry) first second ≡ Some (if attribute then Xent dir hash else Dent dir hash)
entry_told true dir hash first second e f = ap (λ (k : ℕ). Some (Xent k second)) e ∙ ap (λ (k : ℕ). Some (Xent dir k)) f
entry_told false dir hash first second e f = ap (λ (k : ℕ). Some (Dent k second)) e ∙ ap (λ (k : ℕ). Some (Dent dir k)) f

-- the words of an entry's key
record AreEntryWords (node : DentNode) (first second : ℕ) : Type 0 where
  first_is : first ≡ node.dir
  value_is : second % 2 ^ 29 ≡ r5_of node.name

entry_by : (attribute : Bool) (dir inum kind : ℕ) (name : List ℕ) (body : List ℕ)
    → let node : DentNode = record { dir = dir; inum = inum; kind = kind; name = name; attribute = attribute } in
    Reads 0 (entry_fields node) body → AreEntryWords node (little_number 4 body) (little_number 4 (drop 4 body))
entry_by true dir inum kind name body r = record { first_is = r.0; value_is = value_of (little_number 4 (drop 4 body)) 3 (r5_of name) r.1.0 (hash_bits name) }
entry_by false dir inum kind name body r = record { first_is = r.0; value_is = value_of (little_number 4 (drop 4 body)) 2 (r5_of name) r.1.0 (hash_bits name) }

-- the key is told by the type and both words
pub key_there : (bytes : List ℕ) (sqnum group : ℕ) (node : LeafNode) → IsBytes bytes → IsLeafNode bytes sqnum group node → key_by (leaf_type node) (little_number 4 (drop 24 bytes)) (little_number 4 (drop 28 bytes) % 2 ^ 29) ≡ leaf_key node
key_there bytes sqnum group (inode node) fits h = ap (λ (k : ℕ). Some (Ino k)) (fields_read bytes sqnum group (inode node) fits h).numbers.0
key_there bytes sqnum group (block node) fits h =
    let read = (fields_read bytes sqnum group (block node) fits h).numbers in
    let second : little_number 4 (drop 28 bytes) ≡ 1 * 2 ^ 29 + node.block = ap (little_number 4) (sym (drop-drop 4 24 bytes)) ∙ read.1.0 in
    ap (λ (k : ℕ). Some (Block k (little_number 4 (drop 28 bytes) % 2 ^ 29))) read.0 ∙ ap (λ (k : ℕ). Some (Block node.ino k)) (value_of (little_number 4 (drop 28 bytes)) 1 node.block second h.is.block_fits)
key_there bytes sqnum group (entry node) fits h =
    let words = entry_by node.attribute node.dir node.inum node.kind node.name (drop 24 bytes) (fields_read bytes sqnum group (entry node) fits h).numbers in
    let second : little_number 4 (drop 28 bytes) ≡ little_number 4 (drop 4 (drop 24 bytes)) = ap (little_number 4) (sym (drop-drop 4 24 bytes)) in
    entry_told node.attribute node.dir (r5_of node.name) (little_number 4 (drop 24 bytes)) (little_number 4 (drop 28 bytes) % 2 ^ 29) words.first_is (ap (λ (k : ℕ). k % 2 ^ 29) second ∙ words.value_is)
key_there bytes sqnum group (truncation node) fits h = refl

-- a leaf node has room for a key
wide : (node : LeafNode) → 8 ≤ total_width (fields_of node)
wide (inode node) = omega arith
wide (block node) = omega arith
wide (entry node) = omega arith
wide (truncation node) = omega arith

pub key_room : (bytes : List ℕ) (sqnum group : ℕ) (node : LeafNode) → IsBytes bytes → IsLeafNode bytes sqnum group node → 32 ≤ length bytes
key_room bytes sqnum group node fits h =
    let read = fields_read bytes sqnum group node fits h in
    let long = read.long in
    let width = wide node in
    let cut = length-drop 24 bytes in
    omega (arith, long, width, cut)

-- along what calls answer
pub key_told : (bytes : List ℕ) (sqnum group : ℕ) (node : LeafNode) (kind : NodeType) (first second : ℕ) (o : Option Key) → IsBytes bytes → IsLeafNode bytes sqnum group node → kind ≡ leaf_type node
    → first ≡ little_number 4 (drop 24 bytes) → second ≡ little_number 4 (drop 28 bytes) → o ≡ key_by kind first (second % 2 ^ 29) → o ≡ leaf_key node
key_told bytes sqnum group node kind first second o fits h k e f is =
    is ∙ ap (λ (t : NodeType). key_by t first (second % 2 ^ 29)) k ∙ ap (λ (n : ℕ). key_by (leaf_type node) n (second % 2 ^ 29)) e ∙ ap (λ (n : ℕ). key_by (leaf_type node) (little_number 4 (drop 24 bytes)) (n % 2 ^ 29)) f ∙ key_there bytes sqnum group node fits h
