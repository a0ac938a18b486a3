-- What the bytes of a leaf node say.
use Rattle.std.proofs.Common.{◌≡◌, ℕ, ◌+◌, ◌*◌, ◌%◌, ◌^◌, ◌<◌, ◌≤◌, Bool, true, false, refl, List, [], ◌∷◌, ◌++◌, length, take, drop, length-drop, length-append, drop-drop, slice_index, Option, Some, None, IfSome, IfNone, Result, Ok, Err, IfOk, sym, ◌∙◌, ap, subst, arith}
use Rattle.std.specs.Prelude.{◌==◌, if◌then◌else◌, is_some, not}
use Rattle.std.proofs.Math.Seq.{take-append_seam}
use Rattle.byteorder.specs.Endian.{little_number}
use Rattle.ubifs_base.specs.Key.{key_words}
use Rattle.ubifs_base.specs.NodeLaws.{IsBytes}
use Rattle.ubifs_base.specs.R5.{r5_of}
use Rattle.ubifs_base.specs.declared.key.Key.TheVariants.{Dent, Ino, Xent}
use Rattle.ubifs_base.specs.declared.node_type.NodeType.{NodeType}
use Rattle.ubifs_base.specs.declared.node_type.NodeType.TheVariants as types
use Rattle.node_fields.specs.FieldLaws.{IsRead, reads_back}
use Rattle.node_fields.specs.Form.{IsBody}
use Rattle.node_fields.specs.FormLaws.{body_in}
use Rattle.media_leaf.specs.Data.{data_fields}
use Rattle.media_leaf.specs.Entry.{entry_fields, entry_tail}
use Rattle.media_leaf.specs.Inode.{inode_fields}
use Rattle.media_leaf.specs.LeafNode.{LeafNode, inode, block, entry, truncation, leaf_form, IsLeafNode}
use Rattle.media_leaf.specs.declared.data_node.DataNode.{DataNode}
use Rattle.media_leaf.specs.declared.dent_node.DentNode.{DentNode}
use Rattle.media_leaf.specs.declared.ino_node.InoNode.{InoNode}
use Rattle.media_leaf.specs.declared.trun_node.TrunNode.{TrunNode}
use Rattle.leb_scan.specs.Text.{leaf_type}
use Rattle.leaf_map.specs.Kept.{bits_of, kind_of_bits}
use Rattle.journal_scan.specs.Content.{node_content_of}
use Rattle.journal_scan.specs.declared.node_content.NodeContent.{NodeContent}
use Rattle.journal_scan.specs.declared.node_content.NodeContent.TheVariants.{Block, Entry, Inode, Unknown}

-- bytes are at most one node
abbrev pub OneNode : Type 0
OneNode = (bytes : List ℕ) (s1 g1 s2 g2 : ℕ) (n1 n2 : LeafNode) → IsBytes bytes → IsLeafNode bytes s1 g1 n1 → IsLeafNode bytes s2 g2 n2 → (s1 ≡ s2) × (g1 ≡ g2) × (n1 ≡ n2)

-- the bytes are this node
abbrev pub Are : List ℕ → LeafNode → Type 0
Are bytes node = (sqnum : ℕ) × (group : ℕ) × IsLeafNode bytes sqnum group node

pub some_is : {X : Type 0} (o : Option X) (x : X) (P : X → Type 0) → o ≡ Some x → IfSome o P → P x
some_is {X} o x P is h = let Q : Option X → Type 0 = λ r. IfSome r P in subst Q is h

pub none_is : {X : Type 0} (o : Option X) (P : Type 0) → o ≡ None → IfNone o P → P
none_is {X} o P is h = let Q : Option X → Type 0 = λ r. IfNone r P in subst Q is h

pub ok_map : {X E : Type 0} (r : Result X E) (P Q : X → Type 0) → ((x : X) → P x → Q x) → IfOk r P → IfOk r Q
ok_map (Ok x) P Q f h = f x h
ok_map (Err e) P Q f h = tt

-- what is told of the node that was read is told of the one that stands there
pub told_one : OneNode → (bytes : List ℕ) (content : NodeContent) (read : LeafNode) → IsBytes bytes → Are bytes read → content ≡ node_content_of read
    → (sqnum group : ℕ) (node : LeafNode) → IsLeafNode bytes sqnum group node → content ≡ node_content_of node
told_one law bytes content read fits h is sqnum group node there = is ∙ ap node_content_of (law bytes h.0 h.1 sqnum group read node fits h.2 there).2

-- ---- a block's key
second_word : (n number : ℕ) → n ≡ 1 * 2 ^ 29 + number → number < 2 ^ 29 → n % 2 ^ 29 ≡ number
second_word n number e h = omega (arith, e, h)

module _ (bytes : List ℕ) (fits : IsBytes bytes) (sqnum group : ℕ) (node : DataNode) (h : IsLeafNode bytes sqnum group (block node)) where
  body : IsBody leaf_form (slice_index bytes 20) (drop 24 bytes) (block node)
  body = body_in leaf_form bytes sqnum group (block node) fits h

  fields : IsRead 0 (data_fields node) node.bytes (drop 24 bytes)
  fields = reads_back 0 (data_fields node) node.bytes (drop 24 bytes) (omega arith) body.spelled

  pub block_long : 32 ≤ length bytes
  block_long =
      let long = fields.long in
      let less = length-drop 24 bytes in
      omega (arith, long, less)

  pub block_told : (ino second : ℕ) → ino ≡ little_number 4 (drop 24 bytes) → second ≡ little_number 4 (drop 28 bytes) → Block ino (second % 2 ^ 29) ≡ node_content_of (block node)
  block_told ino second i s =
      let first : ino ≡ node.ino = i ∙ fields.numbers.0 in
      let other : second ≡ 1 * 2 ^ 29 + node.block = s ∙ ap (little_number 4) (sym (drop-drop 4 24 bytes)) ∙ fields.numbers.1.0 in
      ap (λ a. Block a (second % 2 ^ 29)) first ∙ ap (Block node.ino) (second_word second node.block other body.is.block_fits)

-- ---- what is told of an inode
told_by : (node : InoNode) (ino nlink mode : ℕ) → node.ino ≡ ino → node.nlink ≡ nlink → node.mode ≡ mode
    → (if is_some (kind_of_bits (bits_of mode)) then Inode ino (not (nlink == 0)) else Unknown (Ino ino) (not (nlink == 0))) ≡ node_content_of (inode node)
told_by node ino nlink mode i n m =
    ap (λ (z : ℕ). if is_some (kind_of_bits (bits_of mode)) then Inode z (not (nlink == 0)) else Unknown (Ino z) (not (nlink == 0))) (sym i)
    ∙ ap (λ (z : ℕ). if is_some (kind_of_bits (bits_of mode)) then Inode node.ino (not (z == 0)) else Unknown (Ino node.ino) (not (z == 0))) (sym n)
    ∙ ap (λ (z : ℕ). if is_some (kind_of_bits (bits_of z)) then Inode node.ino (not (node.nlink == 0)) else Unknown (Ino node.ino) (not (node.nlink == 0))) (sym m)

pub kind_told : (node : InoNode) (ino nlink mode : ℕ) (some linked : Bool) → some ≡ is_some (kind_of_bits (bits_of mode)) → linked ≡ not (nlink == 0) → node.ino ≡ ino → node.nlink ≡ nlink → node.mode ≡ mode
    → (if some then Inode ino linked else Unknown (Ino ino) linked) ≡ node_content_of (inode node)
kind_told node ino nlink mode some linked s l i n m =
    ap (λ (b : Bool). if b then Inode ino linked else Unknown (Ino ino) linked) s
    ∙ ap (λ (b : Bool). if is_some (kind_of_bits (bits_of mode)) then Inode ino b else Unknown (Ino ino) b) l
    ∙ told_by node ino nlink mode i n m

module _ (bytes : List ℕ) (fits : IsBytes bytes) (sqnum group : ℕ) (node : InoNode) (h : IsLeafNode bytes sqnum group (inode node)) where
  inode_read : IsRead 0 (inode_fields node) node.bytes (drop 24 bytes)
  inode_read = reads_back 0 (inode_fields node) node.bytes (drop 24 bytes) (omega arith) (body_in leaf_form bytes sqnum group (inode node) fits h).spelled

  pub inode_long : 160 ≤ length bytes
  inode_long =
      let long = inode_read.long in
      let less = length-drop 24 bytes in
      omega (arith, long, less)

  pub ino_at : node.ino ≡ little_number 4 (drop 24 bytes)
  ino_at = sym inode_read.numbers.0

  pub links_at : node.nlink ≡ little_number 4 (drop 92 bytes)
  links_at = sym inode_read.numbers.1.1.1.1.1.1.0 ∙ ap (little_number 4) (drop-drop 68 24 bytes)

  pub mode_at : node.mode ≡ little_number 4 (drop 104 bytes)
  mode_at = sym inode_read.numbers.1.1.1.1.1.1.1.1.1.0 ∙ ap (little_number 4) (drop-drop 80 24 bytes)

-- ---- what is told of a name
dir_in : (b : Bool) (dir hash : ℕ) → b ≡ false → (key_words (if b then Xent dir hash else Dent dir hash)).0 ≡ dir
dir_in true dir hash h = absurd cc
dir_in false dir hash h = refl

plain_told : (node : DentNode) (b : Bool) → b ≡ false → Entry node.dir node.name (not (node.inum == 0)) ≡ (if b then Unknown (Xent node.dir (r5_of node.name)) true else Entry node.dir node.name (not (node.inum == 0)))
plain_told node true h = absurd cc
plain_told node false h = refl

module _ (bytes : List ℕ) (fits : IsBytes bytes) (sqnum group : ℕ) (node : DentNode) (plain : node.attribute ≡ false) (h : IsLeafNode bytes sqnum group (entry node)) where
  entry_read : IsRead 0 (entry_fields node) (entry_tail node) (drop 24 bytes)
  entry_read = reads_back 0 (entry_fields node) (entry_tail node) (drop 24 bytes) (omega arith) (body_in leaf_form bytes sqnum group (entry node) fits h).spelled

  pub entry_long : 56 ≤ length bytes
  entry_long =
      let long = entry_read.long in
      let less = length-drop 24 bytes in
      omega (arith, long, less)

  name_behind : drop 56 bytes ≡ node.name ++ (0 ∷ [])
  name_behind = sym (drop-drop 32 24 bytes) ∙ entry_read.rest

  size_is : (size : ℕ) → size ≡ little_number 2 (drop 50 bytes) → size ≡ length node.name
  size_is size s = s ∙ ap (little_number 2) (sym (drop-drop 26 24 bytes)) ∙ entry_read.numbers.1.1.1.1.0

  pub name_fits : (size : ℕ) → size ≡ little_number 2 (drop 50 bytes) → length (drop 56 bytes) < size → ⊥
  name_fits size s less =
      let long = ap length name_behind ∙ length-append node.name (0 ∷ []) in
      let own = size_is size s in
      omega (arith, long, own, less)

  pub entry_told : (dir size : ℕ) (name : List ℕ) (linked : Bool) → dir ≡ little_number 4 (drop 24 bytes) → size ≡ little_number 2 (drop 50 bytes) → name ≡ take size (drop 56 bytes)
      → linked ≡ not (little_number 8 (drop 40 bytes) == 0) → Entry dir name linked ≡ node_content_of (entry node)
  entry_told dir size name linked d s n l =
      let first : dir ≡ node.dir = d ∙ entry_read.numbers.0 ∙ dir_in node.attribute node.dir (r5_of node.name) plain in
      let named : name ≡ node.name = n ∙ ap (λ (k : ℕ). take k (drop 56 bytes)) (size_is size s) ∙ ap (take (length node.name)) name_behind ∙ take-append_seam node.name (0 ∷ []) in
      let inum : little_number 8 (drop 40 bytes) ≡ node.inum = ap (little_number 8) (sym (drop-drop 16 24 bytes)) ∙ entry_read.numbers.1.1.0 in
      ap (λ (z : ℕ). Entry z name linked) first
      ∙ ap (λ (z : List ℕ). Entry node.dir z linked) named
      ∙ ap (Entry node.dir node.name) (l ∙ ap (λ (z : ℕ). not (z == 0)) inum)
      ∙ plain_told node node.attribute plain

-- ---- the kind of a node
no_entry : (attribute : Bool) (type : NodeType) → (type ≡ types.Entry → ⊥) → (type ≡ types.Attribute → ⊥) → type ≡ (if attribute then types.Attribute else types.Entry) → ⊥
no_entry true type e a is = a is
no_entry false type e a is = e is

-- where only nodes of one kind are told, those of another aren't asked for
pub of_inode : (bytes : List ℕ) (content : NodeContent) → ((sqnum group : ℕ) (node : InoNode) → IsLeafNode bytes sqnum group (inode node) → content ≡ node_content_of (inode node))
    → (sqnum group : ℕ) (node : LeafNode) → IsLeafNode bytes sqnum group node → types.Inode ≡ leaf_type node → content ≡ node_content_of node
of_inode bytes content f sqnum group (inode node) h k = f sqnum group node h
of_inode bytes content f sqnum group (block node) h k = absurd cc
of_inode bytes content f sqnum group (entry node) h k = absurd (no_entry node.attribute types.Inode (λ e. absurd cc) (λ e. absurd cc) k)
of_inode bytes content f sqnum group (truncation node) h k = absurd cc

pub of_block : (bytes : List ℕ) (content : NodeContent) → ((sqnum group : ℕ) (node : DataNode) → IsLeafNode bytes sqnum group (block node) → content ≡ node_content_of (block node))
    → (sqnum group : ℕ) (node : LeafNode) → IsLeafNode bytes sqnum group node → types.Data ≡ leaf_type node → content ≡ node_content_of node
of_block bytes content f sqnum group (inode node) h k = absurd cc
of_block bytes content f sqnum group (block node) h k = f sqnum group node h
of_block bytes content f sqnum group (entry node) h k = absurd (no_entry node.attribute types.Data (λ e. absurd cc) (λ e. absurd cc) k)
of_block bytes content f sqnum group (truncation node) h k = absurd cc

plain_of : (b : Bool) → types.Entry ≡ (if b then types.Attribute else types.Entry) → b ≡ false
plain_of false e = refl
plain_of true e = absurd cc

pub of_entry : (bytes : List ℕ) (content : NodeContent) → ((sqnum group : ℕ) (node : DentNode) → node.attribute ≡ false → IsLeafNode bytes sqnum group (entry node) → content ≡ node_content_of (entry node))
    → (sqnum group : ℕ) (node : LeafNode) → IsLeafNode bytes sqnum group node → types.Entry ≡ leaf_type node → content ≡ node_content_of node
of_entry bytes content f sqnum group (inode node) h k = absurd cc
of_entry bytes content f sqnum group (block node) h k = absurd cc
of_entry bytes content f sqnum group (entry node) h k = f sqnum group node (plain_of node.attribute k) h
of_entry bytes content f sqnum group (truncation node) h k = absurd cc

pub of_attribute : (bytes : List ℕ) (content : NodeContent) → ((sqnum group : ℕ) (node : DentNode) → IsLeafNode bytes sqnum group (entry node) → content ≡ node_content_of (entry node))
    → (sqnum group : ℕ) (node : LeafNode) → IsLeafNode bytes sqnum group node → types.Attribute ≡ leaf_type node → content ≡ node_content_of node
of_attribute bytes content f sqnum group (inode node) h k = absurd cc
of_attribute bytes content f sqnum group (block node) h k = absurd cc
of_attribute bytes content f sqnum group (entry node) h k = f sqnum group node h
of_attribute bytes content f sqnum group (truncation node) h k = absurd cc

pub of_truncation : (bytes : List ℕ) (content : NodeContent) → ((sqnum group : ℕ) (node : TrunNode) → IsLeafNode bytes sqnum group (truncation node) → content ≡ node_content_of (truncation node))
    → (sqnum group : ℕ) (node : LeafNode) → IsLeafNode bytes sqnum group node → types.Truncation ≡ leaf_type node → content ≡ node_content_of node
of_truncation bytes content f sqnum group (inode node) h k = absurd cc
of_truncation bytes content f sqnum group (block node) h k = absurd cc
of_truncation bytes content f sqnum group (entry node) h k = absurd (no_entry node.attribute types.Truncation (λ e. absurd cc) (λ e. absurd cc) k)
of_truncation bytes content f sqnum group (truncation node) h k = f sqnum group node h
