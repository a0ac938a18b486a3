-- What a node shows that is known to stand somewhere.
use Rattle.std.proofs.Common.{◌≡◌, ◌⊎◌, inl, inr, ℕ, ◌+◌, ◌-◌, ◌*◌, ◌^◌, ◌%◌, ◌<◌, ◌≤◌, Bool, true, false, refl, List, [], ◌∷◌, ◌++◌, length, take, drop, length-drop, length-append, drop-drop, get_or-drop, slice_index, Option, Some, None, IfSome, sym, ap, subst, ◌∙◌, arith}
use Rattle.std.specs.Prelude.{◌==◌, if◌then◌else◌}
use Rattle.std.proofs.Math.Seq.{take-append_seam}
use Rattle.std.proofs.lemmas.List.{length-take-le}
use Rattle.byteorder.specs.Endian.{little_number}
use Rattle.ubifs_base.specs.Key.{key_words}
use Rattle.ubifs_base.specs.NodeLaws.{IsBytes}
use Rattle.ubifs_base.specs.R5.{r5_of}
use Rattle.ubifs_base.specs.declared.key.Key.TheVariants.{Dent, Xent}
use Rattle.node_fields.specs.FieldLaws.{IsRead, reads_back}
use Rattle.node_fields.specs.Form.{IsBody}
use Rattle.node_fields.specs.FormLaws.{body_in}
use Rattle.media_leaf.specs.Data.{data_fields}
use Rattle.media_leaf.specs.Entry.{entry_fields, entry_tail}
use Rattle.media_leaf.specs.Inode.{inode_fields}
use Rattle.media_leaf.specs.LeafNode.{LeafNode, inode, block, entry, truncation, leaf_form, type_of, IsLeafNode}
use Rattle.media_leaf.specs.declared.data_node.DataNode.{DataNode}
use Rattle.media_leaf.specs.declared.dent_node.DentNode.{DentNode}
use Rattle.media_leaf.specs.declared.ino_node.InoNode.{InoNode}
use Rattle.media_leaf.specs.declared.trun_node.TrunNode.{TrunNode}
use Rattle.group_nodes.specs.Nodes.{bits_of, kind_of_bits, kind_of_type}
use Rattle.fs_model.specs.declared.inode.Kind.{Kind}
use Rattle.group_nodes.specs.LengthLaws.{leaf_length}
use Rattle.leaf_map.specs.Kept.{Placed, shown}
use Rattle.sound_image.specs.Leaves.{IsPlacedIn}
use Rattle.tree_check.specs.Told.{shown_told}
use Rattle.tree_check.specs.declared.shown_leaf.Shown.{Shown}
use Rattle.tree_check.specs.declared.shown_leaf.Shown.TheVariants as shows
use Rattle.shown_leaves.specs.Judged.{entry_told, inode_told}
use Rattle.shown_leaves.specs.Sources.{IsReadFrom}
use Rattle.shown_leaves.specs.declared.sourced_leaf.Source.{Source}
use Rattle.shown_leaves.proofs.Stored.{IsOneNode}

-- ---- where it can't stand
module _ (contents : ℕ → List ℕ) (source : Source) (node : Placed) (from : IsReadFrom source node) (placed : IsPlacedIn contents node) where
  placed_length : length (take node.len (drop node.offs (contents node.lnum))) ≡ node.len
  placed_length =
      let room = placed.room in
      let cut = length-drop node.offs (contents node.lnum) in
      length-take-le node.len (drop node.offs (contents node.lnum)) (omega (arith, room, cut))

  placed_bounds : (24 ≤ node.len) × (node.len ≤ 4256)
  placed_bounds =
      let long = leaf_length (take node.len (drop node.offs (contents node.lnum))) node.sqnum node.group node.node placed.is in
      let own = placed_length in
      let least = long.0 in
      let most = long.1 in
      (omega (arith, own, least), omega (arith, own, most))

  -- it has room in its LEB
  pub placed_room : source.offs + source.len ≤ length (contents source.lnum)
  placed_room =
      let P : ℕ → Type 0 = λ lnum. node.offs + node.len ≤ length (contents lnum) in
      let room = subst P from.lnum placed.room in
      let offs = from.offs in
      let len = from.len in
      omega (arith, room, offs, len)

  -- and no more bytes than a leaf node can have
  pub placed_most : source.len ≤ 4256
  placed_most =
      let most = placed_bounds.1 in
      let len = from.len in
      omega (arith, most, len)

  -- it has some
  pub nowhere : contents source.lnum ≡ [] → ⊥
  nowhere e =
      let room = placed_room in
      let least = placed_bounds.0 in
      let len = from.len in
      let none = ap length e in
      absurd (omega (arith, room, least, len, none))

-- these are its bytes
pub placed_there : (contents : ℕ → List ℕ) (source : Source) (node : Placed) → IsReadFrom source node → IsPlacedIn contents node → IsLeafNode (take source.len (drop source.offs (contents source.lnum))) node.sqnum node.group node.node
placed_there contents source node from placed =
    let P : ℕ → Type 0 = λ lnum. IsLeafNode (take node.len (drop node.offs (contents lnum))) node.sqnum node.group node.node in
    let Q : ℕ → Type 0 = λ offs. IsLeafNode (take node.len (drop offs (contents source.lnum))) node.sqnum node.group node.node in
    let R : ℕ → Type 0 = λ len. IsLeafNode (take len (drop source.offs (contents source.lnum))) node.sqnum node.group node.node in
    subst R from.len (subst Q from.offs (subst P from.lnum placed.is))

-- ---- the node that was read there
pub some_is : {X : Type 0} (o : Option X) (x : X) (P : X → Type 0) → o ≡ Some x → IfSome o P → P x
some_is {X} o x P is h = let Q : Option X → Type 0 = λ r. IfSome r P in subst Q is h

-- what it shows is what each node there shows
pub shown_one : IsOneNode → (bytes : List ℕ) → IsBytes bytes → (read : LeafNode) (s : Shown) → (t : ℕ) × (k : ℕ) × IsLeafNode bytes t k read → shown_told (shown read) ≡ Some s
    → (sqnum group : ℕ) (node : LeafNode) → IsLeafNode bytes sqnum group node → shown_told (shown node) ≡ Some s
shown_one law bytes fits read s there shows sqnum group node h = ap (λ (n : LeafNode). shown_told (shown n)) (law bytes sqnum group there.0 there.1 node read fits h there.2).2 ∙ shows

-- ---- by its type
abbrev pub Shows : List ℕ → LeafNode → Shown → Type 0
Shows bytes node s = (sqnum group : ℕ) → IsLeafNode bytes sqnum group node → shown_told (shown node) ≡ Some s

type_there : (bytes : List ℕ) → IsBytes bytes → (sqnum group : ℕ) (node : LeafNode) → IsLeafNode bytes sqnum group node → slice_index bytes 20 ≡ type_of node
type_there bytes fits sqnum group node h = (body_in leaf_form bytes sqnum group node fits h).kind_is

entry_type_is : (b : Bool) (k : ℕ) → k ≡ (if b then 3 else 2) → ((b ≡ true) × (k ≡ 3)) ⊎ ((b ≡ false) × (k ≡ 2))
entry_type_is true k e = inl (refl, e)
entry_type_is false k e = inr (refl, e)

other_type : {P : Type 0} (b : Bool) (k : ℕ) → k ≡ (if b then 3 else 2) → (k ≡ 3 → ⊥) → (k ≡ 2 → ⊥) → P
other_type true k e a d = absurd (a e)
other_type false k e a d = absurd (d e)

module _ (bytes : List ℕ) (fits : IsBytes bytes) (type : ℕ) (is : type ≡ slice_index bytes 20) (s : Shown) where
  pub of_inode : type ≡ 0 → ((sqnum group : ℕ) (n : InoNode) → IsLeafNode bytes sqnum group (inode n) → shown_told (shown (inode n)) ≡ Some s)
      → (sqnum group : ℕ) (node : LeafNode) → IsLeafNode bytes sqnum group node → shown_told (shown node) ≡ Some s
  of_inode e f sqnum group (inode n) h = f sqnum group n h
  of_inode e f sqnum group (block n) h = let t = is ∙ type_there bytes fits sqnum group (block n) h in absurd (omega (arith, e, t))
  of_inode e f sqnum group (entry n) h = other_type n.attribute type (is ∙ type_there bytes fits sqnum group (entry n) h) (λ k. omega (arith, e, k)) (λ k. omega (arith, e, k))
  of_inode e f sqnum group (truncation n) h = let t = is ∙ type_there bytes fits sqnum group (truncation n) h in absurd (omega (arith, e, t))

  pub of_block : type ≡ 1 → ((sqnum group : ℕ) (n : DataNode) → IsLeafNode bytes sqnum group (block n) → shown_told (shown (block n)) ≡ Some s)
      → (sqnum group : ℕ) (node : LeafNode) → IsLeafNode bytes sqnum group node → shown_told (shown node) ≡ Some s
  of_block e f sqnum group (inode n) h = let t = is ∙ type_there bytes fits sqnum group (inode n) h in absurd (omega (arith, e, t))
  of_block e f sqnum group (block n) h = f sqnum group n h
  of_block e f sqnum group (entry n) h = other_type n.attribute type (is ∙ type_there bytes fits sqnum group (entry n) h) (λ k. omega (arith, e, k)) (λ k. omega (arith, e, k))
  of_block e f sqnum group (truncation n) h = let t = is ∙ type_there bytes fits sqnum group (truncation n) h in absurd (omega (arith, e, t))

  pub of_entry : type ≡ 2 → ((sqnum group : ℕ) (n : DentNode) → n.attribute ≡ false → IsLeafNode bytes sqnum group (entry n) → shown_told (shown (entry n)) ≡ Some s)
      → (sqnum group : ℕ) (node : LeafNode) → IsLeafNode bytes sqnum group node → shown_told (shown node) ≡ Some s
  of_entry e f sqnum group (inode n) h = let t = is ∙ type_there bytes fits sqnum group (inode n) h in absurd (omega (arith, e, t))
  of_entry e f sqnum group (block n) h = let t = is ∙ type_there bytes fits sqnum group (block n) h in absurd (omega (arith, e, t))
  of_entry e f sqnum group (entry n) h = elim (entry_type_is n.attribute type (is ∙ type_there bytes fits sqnum group (entry n) h)) [
    | inl three ↦ let t = three.1 in absurd (omega (arith, e, t))
    | inr two ↦ f sqnum group n two.0 h
  ]
  of_entry e f sqnum group (truncation n) h = let t = is ∙ type_there bytes fits sqnum group (truncation n) h in absurd (omega (arith, e, t))

  pub of_truncation : type ≡ 4 → ((sqnum group : ℕ) (n : TrunNode) → IsLeafNode bytes sqnum group (truncation n) → shown_told (shown (truncation n)) ≡ Some s)
      → (sqnum group : ℕ) (node : LeafNode) → IsLeafNode bytes sqnum group node → shown_told (shown node) ≡ Some s
  of_truncation e f sqnum group (inode n) h = let t = is ∙ type_there bytes fits sqnum group (inode n) h in absurd (omega (arith, e, t))
  of_truncation e f sqnum group (block n) h = let t = is ∙ type_there bytes fits sqnum group (block n) h in absurd (omega (arith, e, t))
  of_truncation e f sqnum group (entry n) h = other_type n.attribute type (is ∙ type_there bytes fits sqnum group (entry n) h) (λ k. omega (arith, e, k)) (λ k. omega (arith, e, k))
  of_truncation e f sqnum group (truncation n) h = f sqnum group n h

attribute_shown : (n : DentNode) (b : Bool) → b ≡ true → n.attribute ≡ b → shown_told (shown (entry n)) ≡ Some shows.Nothing
attribute_shown n b t e = rw (e ∙ t) refl

-- an attribute shows nothing
pub of_none : (bytes : List ℕ) → IsBytes bytes → (type : ℕ) → type ≡ slice_index bytes 20 → (type ≡ 0 → ⊥) → (type ≡ 1 → ⊥) → (type ≡ 2 → ⊥) → (type ≡ 4 → ⊥)
    → (sqnum group : ℕ) (node : LeafNode) → IsLeafNode bytes sqnum group node → shown_told (shown node) ≡ Some shows.Nothing
of_none bytes fits type is a b c d sqnum group (inode n) h = absurd (a (is ∙ type_there bytes fits sqnum group (inode n) h))
of_none bytes fits type is a b c d sqnum group (block n) h = absurd (b (is ∙ type_there bytes fits sqnum group (block n) h))
of_none bytes fits type is a b c d sqnum group (entry n) h = elim (entry_type_is n.attribute type (is ∙ type_there bytes fits sqnum group (entry n) h)) [
  | inl three ↦ attribute_shown n n.attribute three.0 refl
  | inr two ↦ absurd (c two.1)
]
of_none bytes fits type is a b c d sqnum group (truncation n) h = absurd (d (is ∙ type_there bytes fits sqnum group (truncation n) h))

-- ---- an inode
inode_by : (n : InoNode) → shown_told (shown (inode n)) ≡ Some (inode_told n.ino n.mode n.nlink)
inode_by n = by (kind_of_bits (bits_of n.mode)) refl
  where
    by : (o : Option Kind) → kind_of_bits (bits_of n.mode) ≡ o → shown_told (shown (inode n)) ≡ Some (inode_told n.ino n.mode n.nlink)
    by None e = rw e refl
    by (Some kind) e = rw e refl

module _ (bytes : List ℕ) (fits : IsBytes bytes) (sqnum group : ℕ) (node : InoNode) (h : IsLeafNode bytes sqnum group (inode node)) where
  inode_read : IsRead 0 (inode_fields node) node.bytes (drop 24 bytes)
  inode_read = reads_back 0 (inode_fields node) node.bytes (drop 24 bytes) (omega arith) (body_in leaf_form bytes sqnum group (inode node) fits h).spelled

  pub inode_long : 160 ≤ length bytes
  inode_long =
      let long = inode_read.long in
      let less = length-drop 24 bytes in
      omega (arith, long, less)

  pub inode_is : (ino mode links : ℕ) → ino ≡ little_number 4 (drop 24 bytes) → mode ≡ little_number 4 (drop 104 bytes) → links ≡ little_number 4 (drop 92 bytes)
      → shown_told (shown (inode node)) ≡ Some (inode_told ino mode links)
  inode_is ino mode links i m l =
      let first : ino ≡ node.ino = i ∙ inode_read.numbers.0 in
      let linked : links ≡ node.nlink = l ∙ ap (little_number 4) (sym (drop-drop 68 24 bytes)) ∙ inode_read.numbers.1.1.1.1.1.1.0 in
      let kind : mode ≡ node.mode = m ∙ ap (little_number 4) (sym (drop-drop 80 24 bytes)) ∙ inode_read.numbers.1.1.1.1.1.1.1.1.1.0 in
      inode_by node
      ∙ ap (λ (z : ℕ). Some (inode_told z node.mode node.nlink)) (sym first)
      ∙ ap (λ (z : ℕ). Some (inode_told ino z node.nlink)) (sym kind)
      ∙ ap (λ (z : ℕ). Some (inode_told ino mode z)) (sym linked)

-- ---- a block
second_word : (n number : ℕ) → n ≡ 1 * 2 ^ 29 + number → number < 2 ^ 29 → n % 2 ^ 29 ≡ number
second_word n number e h = omega (arith, e, h)

module _ (bytes : List ℕ) (fits : IsBytes bytes) (sqnum group : ℕ) (node : DataNode) (h : IsLeafNode bytes sqnum group (block node)) where
  block_read : IsRead 0 (data_fields node) node.bytes (drop 24 bytes)
  block_read = reads_back 0 (data_fields node) node.bytes (drop 24 bytes) (omega arith) (body_in leaf_form bytes sqnum group (block node) fits h).spelled

  pub block_long : 32 ≤ length bytes
  block_long =
      let long = block_read.long in
      let less = length-drop 24 bytes in
      omega (arith, long, less)

  pub block_is : (ino second : ℕ) → ino ≡ little_number 4 (drop 24 bytes) → second ≡ little_number 4 (drop 28 bytes) → shown_told (shown (block node)) ≡ Some (shows.Block ino (second % 2 ^ 29))
  block_is ino second i s =
      let first : ino ≡ node.ino = i ∙ block_read.numbers.0 in
      let other : second ≡ 1 * 2 ^ 29 + node.block = s ∙ ap (little_number 4) (sym (drop-drop 4 24 bytes)) ∙ block_read.numbers.1.0 in
      ap (λ (z : ℕ). Some (shows.Block z node.block)) (sym first)
      ∙ ap (λ (z : ℕ). Some (shows.Block ino z)) (sym (second_word second node.block other (body_in leaf_form bytes sqnum group (block node) fits h).is.block_fits))

-- ---- a name
byte_at_place : (place : ℕ) (body : List ℕ) → little_number 1 (drop place body) ≡ slice_index body place
byte_at_place place body =
    let e : slice_index (drop place body) 0 ≡ slice_index body (place + 0) = get_or-drop place body 0 0 in
    let same : place + 0 ≡ place = omega arith in
    let number : little_number 1 (drop place body) ≡ slice_index (drop place body) 0 = omega arith in
    number ∙ e ∙ ap (slice_index body) same

dir_in : (b : Bool) (dir hash : ℕ) → b ≡ false → (key_words (if b then Xent dir hash else Dent dir hash)).0 ≡ dir
dir_in true dir hash h = absurd cc
dir_in false dir hash h = refl

entry_by : (n : DentNode) → n.attribute ≡ false → shown_told (shown (entry n)) ≡ Some (entry_told n.dir n.name n.inum n.kind)
entry_by n plain = by (n.inum == 0) refl (kind_of_type n.kind) refl
  where
    by : (b : Bool) → (n.inum == 0) ≡ b → (o : Option Kind) → kind_of_type n.kind ≡ o → shown_told (shown (entry n)) ≡ Some (entry_told n.dir n.name n.inum n.kind)
    by true e o f = rw plain (rw e refl)
    by false e None f = rw plain (rw e (rw f refl))
    by false e (Some kind) f = rw plain (rw e (rw f refl))

module _ (bytes : List ℕ) (fits : IsBytes bytes) (sqnum group : ℕ) (node : DentNode) (plain : node.attribute ≡ false) (h : IsLeafNode bytes sqnum group (entry node)) where
  entry_body : IsBody leaf_form (slice_index bytes 20) (drop 24 bytes) (entry node)
  entry_body = body_in leaf_form bytes sqnum group (entry node) fits h

  entry_read : IsRead 0 (entry_fields node) (entry_tail node) (drop 24 bytes)
  entry_read = reads_back 0 (entry_fields node) (entry_tail node) (drop 24 bytes) (omega arith) entry_body.spelled

  pub entry_long : 56 ≤ length bytes
  entry_long =
      let long = entry_read.long in
      let less = length-drop 24 bytes in
      omega (arith, long, less)

  name_behind : drop 56 bytes ≡ node.name ++ (0 ∷ [])
  name_behind = sym (drop-drop 32 24 bytes) ∙ entry_read.rest

  size_is : (size : ℕ) → size ≡ little_number 2 (drop 50 bytes) → size ≡ length node.name
  size_is size s = s ∙ ap (little_number 2) (sym (drop-drop 26 24 bytes)) ∙ entry_read.numbers.1.1.1.1.0

  pub name_fits : (size : ℕ) → size ≡ little_number 2 (drop 50 bytes) → length (drop 56 bytes) < size → ⊥
  name_fits size s less =
      let long = ap length name_behind ∙ length-append node.name (0 ∷ []) in
      let own = size_is size s in
      omega (arith, long, own, less)

  inum_is : (ino : ℕ) → ino ≡ little_number 8 (drop 40 bytes) → ino ≡ node.inum
  inum_is ino i = i ∙ ap (little_number 8) (sym (drop-drop 16 24 bytes)) ∙ entry_read.numbers.1.1.0

  pub inum_fits : (ino : ℕ) → ino ≡ little_number 8 (drop 40 bytes) → 4294967295 < ino → ⊥
  inum_fits ino i more =
      let is = inum_is ino i in
      let fits = entry_body.is.inum_fits in
      omega (arith, is, fits, more)

  pub entry_is : (dir size ino code : ℕ) (name : List ℕ) → dir ≡ little_number 4 (drop 24 bytes) → size ≡ little_number 2 (drop 50 bytes) → ino ≡ little_number 8 (drop 40 bytes)
      → code ≡ slice_index bytes 49 → name ≡ take size (drop 56 bytes) → shown_told (shown (entry node)) ≡ Some (entry_told dir name ino code)
  entry_is dir size ino code name d s i k n =
      let first : dir ≡ node.dir = d ∙ entry_read.numbers.0 ∙ dir_in node.attribute node.dir (r5_of node.name) plain in
      let named : name ≡ node.name = n ∙ ap (λ (z : ℕ). take z (drop 56 bytes)) (size_is size s) ∙ ap (take (length node.name)) name_behind ∙ take-append_seam node.name (0 ∷ []) in
      let kind : code ≡ node.kind = k ∙ sym (byte_at_place 49 bytes) ∙ ap (little_number 1) (sym (drop-drop 25 24 bytes)) ∙ entry_read.numbers.1.1.1.0 in
      entry_by node plain
      ∙ ap (λ (z : ℕ). Some (entry_told z node.name node.inum node.kind)) (sym first)
      ∙ ap (λ (z : List ℕ). Some (entry_told dir z node.inum node.kind)) (sym named)
      ∙ ap (λ (z : ℕ). Some (entry_told dir name z node.kind)) (sym (inum_is ino i))
      ∙ ap (λ (z : ℕ). Some (entry_told dir name ino z)) (sym kind)

-- ---- bytes that are read into a part of a buffer
pub bytes_read : (leb : List ℕ) (offs n len : ℕ) → n ≡ len → take (offs + n - offs) (drop offs leb) ≡ take len (drop offs leb)
bytes_read leb offs n len e = let same : offs + n - offs ≡ len = omega (arith, e) in ap (λ k. take k (drop offs leb)) same
