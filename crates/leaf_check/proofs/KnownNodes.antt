-- Which leaf nodes need a feature that isn't known here.
use Rattle.std.proofs.Common.{◌≡◌, ℕ, ◌<◌, ◌≤◌, Bool, true, false, List, inl, inr, length, drop, length-drop, drop-drop, refl, ap, sym, ◌∙◌, subst, arith, take_all, bit_and}
use Rattle.std.specs.Prelude.{◌≢◌, if◌then◌else◌}
use Rattle.byteorder.specs.Endian.{little_number}
use Rattle.ubifs_base.specs.Node.{IsNode}
use Rattle.ubifs_base.specs.NodeLaws.{IsBytes, has_head}
use Rattle.ubifs_base.specs.NodeType.{type_number}
use Rattle.ubifs_base.specs.declared.node_type.NodeType.{NodeType}
use Rattle.ubifs_base.specs.declared.node_type.NodeType.TheVariants as types
use Rattle.node_fields.specs.FieldLaws.{reads_back}
use Rattle.node_fields.specs.FormLaws.{body_in}
use Rattle.media_leaf.specs.LeafNode.{LeafNode, IsLeafNode, block, entry, fields_of, inode, leaf_form, tail_of, truncation, type_of}
use Rattle.leb_scan.specs.Text.{leaf_type}
use Rattle.media_sys.specs.declared.feature.Feature.TheVariants.{Attributes}
use Rattle.sound_image.specs.Frames.{HasAttributes, HasFrameAt, IsKnownAt}
use Rattle.leaf_check.proofs.SoundLeaves.{front_len}
use Rattle.leaf_check.proofs.WholeLeaves.{leaf_numbered}

module _ (bytes : List ℕ) (fits : IsBytes bytes) (sqnum group : ℕ) (node : LeafNode) (is : IsLeafNode bytes sqnum group node) where
  -- a frame with which the bytes begin is the node's
  frame_is : (type : NodeType) (body : List ℕ) → HasFrameAt bytes 0 type body → (type_number type ≡ type_of node) × (drop 24 bytes ≡ body)
  frame_is type body h =
      let room = h.room in
      let P : List ℕ → Type 0 = λ b. IsNode b sqnum (type_of node) group is.body in
      let own : length bytes ≡ little_number 4 (drop 16 bytes) = front_len bytes (length bytes) sqnum (type_of node) group is.body fits (omega arith) (subst P (sym (take_all (length bytes) bytes (omega arith))) is.framed) in
      let same : h.len ≡ length bytes = front_len bytes h.len h.sqnum (type_number type) h.group body fits (omega (arith, room)) h.framed ∙ sym own in
      let Q : List ℕ → Type 0 = λ b. IsNode b h.sqnum (type_number type) h.group body in
      let whole = subst Q (take_all h.len bytes (omega (arith, same))) h.framed in
      let there = has_head bytes body h.sqnum (type_number type) h.group fits whole in
      let head = has_head bytes is.body sqnum (type_of node) group fits is.framed in
      (there.0.kind ∙ sym head.0.kind, there.1)

  -- no frame of another type does
  not_framed : (type : NodeType) (body : List ℕ) → (type_number type ≡ type_of node → ⊥) → HasFrameAt bytes 0 type body → ⊥
  not_framed type body other h = other (frame_is type body h).0

  -- a node of a type that has no features, and of which no data is compressed
  plain : (type_of node ≡ 0 → ⊥) → (type_of node ≡ 3 → ⊥) → (type_of node ≡ 1 → little_number 2 (drop 20 (drop 24 bytes)) ≡ 0) → IsKnownAt bytes 0
  plain no_inode no_attribute stored what (inl (e, body, frame, compressed)) =
      let there = frame_is types.Data body frame in
      let zero = sym (ap (λ (b : List ℕ). little_number 2 (drop 20 b)) there.1) ∙ stored (sym there.0) in
      let some = compressed.kind in
      absurd (omega (arith, zero, some))
  plain no_inode no_attribute stored what (inr (e, body, inl frame)) = not_framed types.Attribute body (λ same. no_attribute (sym same)) frame
  plain no_inode no_attribute stored what (inr (e, body, inr (frame, has))) = not_framed types.Inode body (λ same. no_inode (sym same)) frame

  -- an inode, of which its body tells it
  inode_plain : type_of node ≡ 0 → (HasAttributes (drop 24 bytes) → ⊥) → IsKnownAt bytes 0
  inode_plain number none what (inl (e, body, frame, compressed)) = not_framed types.Data body (λ same. omega (arith, number, same)) frame
  inode_plain number none what (inr (e, body, inl frame)) = not_framed types.Attribute body (λ same. omega (arith, number, same)) frame
  inode_plain number none what (inr (e, body, inr (frame, has))) = let P : List ℕ → Type 0 = λ b. HasAttributes b in none (subst P (sym (frame_is types.Inode body frame).1) has)

  inode_unknown : type_of node ≡ 0 → HasAttributes (drop 24 bytes) → IsKnownAt bytes 0 → ⊥
  inode_unknown number has known =
      let head = has_head bytes is.body sqnum (type_of node) group fits is.framed in
      let P : ℕ → Type 0 = λ type. IsNode bytes sqnum type group is.body in
      let Q : List ℕ → Type 0 = λ body. IsNode bytes sqnum 0 group body in
      let R : List ℕ → Type 0 = λ b. IsNode b sqnum 0 group (drop 24 bytes) in
      let framed = subst R (sym (take_all (length bytes) bytes (omega arith))) (subst Q (sym head.1) (subst P number is.framed)) in
      known Attributes (inr (refl, drop 24 bytes, inr (record { len = length bytes; sqnum = sqnum; group = group; room = omega arith; framed = framed }, has)))

-- an entry is no block
no_data : (b : Bool) → type_number types.Data ≡ type_number (if b then types.Attribute else types.Entry) → ⊥
no_data true f = absurd (omega (arith, f))
no_data false f = absurd (omega (arith, f))

-- the data of a block isn't compressed
pub block_known : (bytes : List ℕ) (sqnum group : ℕ) (node : LeafNode) → IsBytes bytes → IsLeafNode bytes sqnum group node → types.Data ≡ leaf_type node → IsKnownAt bytes 0
block_known bytes sqnum group node fits h type =
    let number : type_of node ≡ 1 = leaf_numbered node ∙ ap type_number (sym type) in
    plain bytes fits sqnum group node h (λ e. absurd (omega (arith, e, number))) (λ e. absurd (omega (arith, e, number))) (stored node h type)
  where
    stored : (node : LeafNode) → IsLeafNode bytes sqnum group node → types.Data ≡ leaf_type node → type_of node ≡ 1 → little_number 2 (drop 20 (drop 24 bytes)) ≡ 0
    stored (inode n) h e number = absurd (omega (arith, number))
    stored (block n) h e number = (reads_back 0 (fields_of (block n)) (tail_of (block n)) (drop 24 bytes) (omega arith) (body_in leaf_form bytes sqnum group (block n) fits h).spelled).numbers.1.1.1.0
    stored (entry n) h e number = absurd (no_data n.attribute (ap type_number e))
    stored (truncation n) h e number = absurd (omega (arith, number))

-- a name needs none
pub entry_known : (bytes : List ℕ) (sqnum group : ℕ) (node : LeafNode) → IsBytes bytes → IsLeafNode bytes sqnum group node → types.Entry ≡ leaf_type node → IsKnownAt bytes 0
entry_known bytes sqnum group node fits h type =
    let number : type_of node ≡ 2 = leaf_numbered node ∙ ap type_number (sym type) in
    plain bytes fits sqnum group node h (λ e. absurd (omega (arith, e, number))) (λ e. absurd (omega (arith, e, number))) (λ e. absurd (omega (arith, e, number)))

-- an inode needs one if its body says that it has attributes
pub inode_known : (bytes : List ℕ) (sqnum group : ℕ) (node : LeafNode) → IsBytes bytes → IsLeafNode bytes sqnum group node → types.Inode ≡ leaf_type node → (HasAttributes (drop 24 bytes) → ⊥) → IsKnownAt bytes 0
inode_known bytes sqnum group node fits h type none = inode_plain bytes fits sqnum group node h (leaf_numbered node ∙ ap type_number (sym type)) none

pub inode_needed : (bytes : List ℕ) (sqnum group : ℕ) (node : LeafNode) → IsBytes bytes → IsLeafNode bytes sqnum group node → types.Inode ≡ leaf_type node → HasAttributes (drop 24 bytes) → IsKnownAt bytes 0 → ⊥
inode_needed bytes sqnum group node fits h type has = inode_unknown bytes fits sqnum group node h (leaf_numbered node ∙ ap type_number (sym type)) has

-- ---- what an inode's numbers tell
body_long : (bytes : List ℕ) → 160 ≤ length bytes → 136 ≤ length (drop 24 bytes)
body_long bytes long = let less = length-drop 24 bytes in omega (arith, long, less)

pub too_short : (bytes : List ℕ) → length bytes < 160 → HasAttributes (drop 24 bytes) → ⊥
too_short bytes short has = let long = has.long in let less = length-drop 24 bytes in omega (arith, long, less, short)

module _ (bytes : List ℕ) (flags number : ℕ) (f : flags ≡ little_number 4 (drop 108 bytes)) (n : number ≡ little_number 4 (drop 116 bytes)) where
  flags_there : flags ≡ little_number 4 (drop 84 (drop 24 bytes))
  flags_there = f ∙ ap (little_number 4) (sym (drop-drop 84 24 bytes))

  number_there : number ≡ little_number 4 (drop 92 (drop 24 bytes))
  number_there = n ∙ ap (little_number 4) (sym (drop-drop 92 24 bytes))

  pub is_attribute : 160 ≤ length bytes → bit_and flags 0x20 ≢ 0 → HasAttributes (drop 24 bytes)
  is_attribute long set = let P : ℕ → Type 0 = λ k. bit_and k 0x20 ≢ 0 in record { long = body_long bytes long; some = inl (subst P flags_there set) }

  pub has_some : 160 ≤ length bytes → 0 < number → HasAttributes (drop 24 bytes)
  has_some long more = let P : ℕ → Type 0 = λ k. 0 < k in record { long = body_long bytes long; some = inr (subst P number_there more) }

  pub has_none : bit_and flags 0x20 ≡ 0 → number ≡ 0 → HasAttributes (drop 24 bytes) → ⊥
  has_none clear none has = elim has.some [
    | inl set ↦ set (ap (λ (k : ℕ). bit_and k 0x20) (sym flags_there) ∙ clear)
    | inr more ↦ let zero = sym number_there ∙ none in omega (arith, zero, more)
  ]
