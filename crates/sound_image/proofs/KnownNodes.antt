-- Where no unknown feature is needed: where nothing is written, and at plain leaves.
use Rattle.std.proofs.Common.{◌≡◌, ℕ, zero, suc, ◌+◌, ◌≤◌, bit_and, Bool, true, false, List, [], ◌∷◌, ◌++◌, length, take, drop, get_or, get_or-drop, ap, sym, ◌∙◌, subst, inl, inr, arith, take-append-drop}
use Rattle.std.specs.Prelude.{Option, Some, if◌then◌else◌}
use Rattle.std.proofs.lemmas.Bool.{cases_lt}
use Rattle.std.proofs.lemmas.List.{take-take, take_all, length-take}
use Rattle.ubifs_base.specs.Node.{IsNode, node_bytes}
use Rattle.ubifs_base.specs.NodeLaws.{IsBytes, node-prefix}
use Rattle.ubifs_base.specs.NodeType.{type_number}
use Rattle.ubifs_base.specs.declared.node_type.NodeType.{NodeType}
use Rattle.ubifs_base.specs.declared.node_type.NodeType.TheVariants as types
use Rattle.node_fields.specs.FieldLaws.{reads_back}
use Rattle.node_fields.specs.Fields.{Spells}
use Rattle.node_fields.specs.FormLaws.{node-opened, some_same}
use Rattle.media_leaf.specs.Data.{data_fields}
use Rattle.media_leaf.specs.Inode.{inode_fields}
use Rattle.media_leaf.specs.LeafNode.{LeafNode, inode, block, entry, truncation, fields_of, tail_of, type_of}
use Rattle.small_areas.specs.MasterLaws.{take_bytes}
use Rattle.leb_scan.specs.Text.{is_blank}
use Rattle.leaf_map.specs.Kept.{Placed}
use Rattle.sound_image.specs.Frames.{HasAttributes, HasFrameAt, IsCompressed, IsKnownAt}
use Rattle.sound_image.specs.Laid.{IsPlainLeaf}
use Rattle.sound_image.specs.Leaves.{IsPlacedIn}

-- ---- where nothing is written
no_magic : (bytes : List ℕ) (len : ℕ) → is_blank bytes ≡ true → get_or (take len bytes) 0 0 ≡ 49 → ⊥
no_magic bytes zero blank e = absurd cc
no_magic [] (suc len) blank e = absurd cc
no_magic (b ∷ bytes) (suc len) blank e =
    let P : ℕ → Type 0 = λ k. is_blank (k ∷ bytes) ≡ true in
    let bad : is_blank (49 ∷ bytes) ≡ true = subst P e blank in
    absurd cc

pub no_node : (leb body : List ℕ) (place len sqnum kind group : ℕ) → is_blank (drop place leb) ≡ true → IsNode (take len (drop place leb)) sqnum kind group body → ⊥
unfolding node_bytes
no_node leb body place len sqnum kind group blank h = no_magic (drop place leb) len blank (ap (λ (b : List ℕ). get_or b 0 0) h.spelled)

no_frame : (leb body : List ℕ) (place : ℕ) (type : NodeType) → is_blank (drop place leb) ≡ true → HasFrameAt leb place type body → ⊥
no_frame leb body place type blank h = no_node leb body place h.len h.sqnum (type_number type) h.group blank h.framed

pub blank_known : (leb : List ℕ) (place : ℕ) → is_blank (drop place leb) ≡ true → IsKnownAt leb place
blank_known leb place blank what (inl (is, body, frame, c)) = no_frame leb body place types.Data blank frame
blank_known leb place blank what (inr (is, body, inl frame)) = no_frame leb body place types.Attribute blank frame
blank_known leb place blank what (inr (is, body, inr (frame, a))) = no_frame leb body place types.Inode blank frame

-- ---- at one place one frame begins
pub bytes_drop : (n : ℕ) (bytes : List ℕ) → IsBytes bytes → IsBytes (drop n bytes)
bytes_drop n bytes fits = λ i. rw get_or-drop (fits (n + i))

-- two nodes from one place on, of which the first is no longer, have the same bytes
pub same_front : (bytes a b : List ℕ) (n m k1 k2 s1 s2 g1 g2 : ℕ) → IsBytes bytes → n ≤ m → IsNode (take n bytes) s1 k1 g1 a → IsNode (take m bytes) s2 k2 g2 b → take n bytes ≡ take m bytes
same_front bytes a b n m k1 k2 s1 s2 g1 g2 fits less ha hb =
    let whole = take m bytes in
    let front : take n whole ≡ take n bytes = take-take n m bytes less in
    let joined : take n bytes ++ drop n whole ≡ whole = ap (λ (f : List ℕ). f ++ drop n whole) (sym front) ∙ take-append-drop n whole in
    let long : length (take n bytes) ≡ length whole = node-prefix (take n bytes) (drop n whole) whole a b s1 k1 g1 s2 k2 g2 (take_bytes n bytes fits) (take_bytes m bytes fits) ha hb joined in
    let short = length-take n bytes in
    sym front ∙ take_all n whole (omega (arith, long, short))

pair_same : (k1 k2 : ℕ) (a b : List ℕ) → ◌≡◌ {A = Option (ℕ × List ℕ)} (Some (k1, a)) (Some (k2, b)) → (k1 ≡ k2) × (a ≡ b)
pair_same k1 k2 a b e =
    let same : ◌≡◌ {A = ℕ × List ℕ} (k1, a) (k2, b) = some_same (k1, a) (k2, b) e in
    (ap (λ (p : ℕ × List ℕ). p.0) same, ap (λ (p : ℕ × List ℕ). p.1) same)

one_body : (bytes a b : List ℕ) (s1 s2 k1 k2 g1 g2 : ℕ) → IsBytes bytes → IsNode bytes s1 k1 g1 a → IsNode bytes s2 k2 g2 b → (k1 ≡ k2) × (a ≡ b)
one_body bytes a b s1 s2 k1 k2 g1 g2 fits ha hb = pair_same k1 k2 a b (sym (node-opened bytes a s1 k1 g1 fits ha) ∙ node-opened bytes b s2 k2 g2 fits hb)

pub one_frame : (bytes a b : List ℕ) (n m s1 s2 k1 k2 g1 g2 : ℕ) → IsBytes bytes → IsNode (take n bytes) s1 k1 g1 a → IsNode (take m bytes) s2 k2 g2 b → (k1 ≡ k2) × (a ≡ b)
one_frame bytes a b n m s1 s2 k1 k2 g1 g2 fits ha hb = elim (cases_lt n m) [
  | inl less ↦
      let P : List ℕ → Type 0 = λ x. IsNode x s1 k1 g1 a in
      one_body (take m bytes) a b s1 s2 k1 k2 g1 g2 (take_bytes m bytes fits) (subst P (same_front bytes a b n m k1 k2 s1 s2 g1 g2 fits (omega (arith, less)) ha hb) ha) hb
  | inr less ↦
      let P : List ℕ → Type 0 = λ x. IsNode x s2 k2 g2 b in
      one_body (take n bytes) a b s1 s2 k1 k2 g1 g2 (take_bytes n bytes fits) ha (subst P (same_front bytes b a m n k2 k1 s2 s1 g2 g1 fits less hb ha) hb)
]

-- the frame that begins where a leaf stands is its own
frame_of : (contents : ℕ → List ℕ) (x : Placed) (h : IsPlacedIn contents x) (type : NodeType) (body : List ℕ) → IsBytes (contents x.lnum) → HasFrameAt (contents x.lnum) x.offs type body → (type_of x.node ≡ type_number type) × (h.is.body ≡ body)
frame_of contents x h type body fits frame =
    one_frame (drop x.offs (contents x.lnum)) h.is.body body x.len frame.len x.sqnum frame.sqnum (type_of x.node) (type_number type) x.group frame.group
    (bytes_drop x.offs (contents x.lnum) fits) h.is.framed frame.framed

-- ---- plain leaves
one_or_two : (attribute : Bool) → ◌≡◌ {A = ℕ} (if attribute then 3 else 2) 1 → ⊥
one_or_two true e = absurd cc
one_or_two false e = absurd cc

none_or_two : (attribute : Bool) → ◌≡◌ {A = ℕ} (if attribute then 3 else 2) 0 → ⊥
none_or_two true e = absurd cc
none_or_two false e = absurd cc

not_three : (attribute : Bool) → attribute ≡ false → ◌≡◌ {A = ℕ} (if attribute then 3 else 2) 3 → ⊥
not_three true plain e = absurd cc
not_three false plain e = absurd cc

not_compressed : (node : LeafNode) (body : List ℕ) → Spells (fields_of node) (tail_of node) body → type_of node ≡ 1 → IsCompressed body → ⊥
not_compressed (inode node) body h k c = absurd cc
not_compressed (block node) body h k c =
    let reads = reads_back 0 (data_fields node) node.bytes body (omega arith) h in
    let none = reads.numbers.1.1.1.0 in
    let some = c.kind in
    omega (arith, none, some)
not_compressed (entry node) body h k c = one_or_two node.attribute k
not_compressed (truncation node) body h k c = absurd cc

not_attribute : (node : LeafNode) → IsPlainLeaf node → type_of node ≡ 3 → ⊥
not_attribute (inode node) plain k = absurd cc
not_attribute (block node) plain k = absurd cc
not_attribute (entry node) plain k = not_three node.attribute plain k
not_attribute (truncation node) plain k = absurd cc

no_attributes : (node : LeafNode) (body : List ℕ) → Spells (fields_of node) (tail_of node) body → IsPlainLeaf node → type_of node ≡ 0 → HasAttributes body → ⊥
no_attributes (inode node) body h plain k a =
    let reads = reads_back 0 (inode_fields node) node.bytes body (omega arith) h in
    elim a.some [
      | inl flags ↦ flags (ap (λ (n : ℕ). bit_and n 0x20) reads.numbers.1.1.1.1.1.1.1.1.1.1.0 ∙ plain.0)
      | inr some ↦ let count = reads.numbers.1.1.1.1.1.1.1.1.1.1.1.1.0 in let none = plain.1 in omega (arith, count, none, some)
    ]
no_attributes (block node) body h plain k a = absurd cc
no_attributes (entry node) body h plain k a = none_or_two node.attribute k
no_attributes (truncation node) body h plain k a = absurd cc

pub plain_known : (contents : ℕ → List ℕ) (x : Placed) → IsBytes (contents x.lnum) → IsPlacedIn contents x → IsPlainLeaf x.node → IsKnownAt (contents x.lnum) x.offs
plain_known contents x fits h plain what (inl (is, body, frame, c)) =
    let own = frame_of contents x h types.Data body fits frame in
    let P : List ℕ → Type 0 = λ b. IsCompressed b in
    not_compressed x.node h.is.body h.is.spelled own.0 (subst P (sym own.1) c)
plain_known contents x fits h plain what (inr (is, body, inl frame)) =
    let own = frame_of contents x h types.Attribute body fits frame in
    not_attribute x.node plain own.0
plain_known contents x fits h plain what (inr (is, body, inr (frame, a))) =
    let own = frame_of contents x h types.Inode body fits frame in
    let P : List ℕ → Type 0 = λ b. HasAttributes b in
    no_attributes x.node h.is.body h.is.spelled plain own.0 (subst P (sym own.1) a)
