-- What a leaf of a sound image shows can be carried by a node again.
use Rattle.std.proofs.Common.{◌≡◌, ℕ, suc, ◌*◌, ◌/◌, ◌%◌, ◌^◌, ◌<◌, ◌≤◌, nat_le, Bool, true, false, not, List, [], ◌∷◌, ◌++◌, drop, length, Option, Some, None, refl, ap, sym, subst, inl, inr, arith}
use Rattle.std.specs.Prelude.{◌==◌, ◌&&◌, ◌||◌, if◌then◌else◌, max, nat_lt}
use Rattle.std.specs.List.{list_all}
use Rattle.std.specs.Option.{option_map}
use Rattle.std.proofs.Math.Nat.{max-eq_left, max-eq_right}
use Rattle.std.proofs.lemmas.Bool.{cases_lt, eq-eqb, eqb-true, le-leb, lt-ltb, ltb-true, ne_eqb, or_left, or_right}
use Rattle.ubifs_base.specs.Key.{key_words}
use Rattle.ubifs_base.specs.NodeLaws.{IsBytes, has_head}
use Rattle.ubifs_base.specs.R5.{r5_of}
use Rattle.ubifs_base.specs.declared.key.Key.TheVariants.{Dent, Xent}
use Rattle.node_fields.specs.Fields.{AllFit, Field, Spells, ignored, number}
use Rattle.media_leaf.specs.Data.{IsDataNode, data_fields}
use Rattle.media_leaf.specs.Entry.{IsDentNode}
use Rattle.media_leaf.specs.Inode.{IsInoNode, inode_fields, may_hold_data}
use Rattle.media_leaf.specs.LeafNode.{IsLeaf, IsLeafNode, LeafNode, inode, block, entry, truncation, fields_of, tail_of, type_of}
use Rattle.media_leaf.specs.declared.data_node.DataNode.{DataNode}
use Rattle.media_leaf.specs.declared.dent_node.DentNode.{DentNode}
use Rattle.media_leaf.specs.declared.ino_node.InoNode.{InoNode}
use Rattle.bud_log.specs.Bytes.{bytes_drop}
use Rattle.fs_laws.specs.Orders.{bytes_same}
use Rattle.fs_model.specs.declared.change.Change.{Change}
use Rattle.fs_model.specs.declared.change.Change.TheVariants.{SetBlock, SetEntry, SetInode, DropEntry}
use Rattle.fs_model.specs.declared.inode.Kind.{Kind}
use Rattle.fs_model.specs.declared.inode.Kind.TheVariants.{Symlink, Block, Char}
use Rattle.fs_model.specs.Path.{is_dir, is_empty, is_same_name}
use Rattle.fs_model.specs.Proper.{are_bytes, are_long_words, are_words, has_data, is_block_node, is_entry_node, is_inode_node, is_name}
use Rattle.group_nodes.specs.Nodes.{bits_of, inode_of, kind_of_bits, kind_of_type}
use Rattle.leaf_map.specs.Kept.{shown}
use Rattle.sound_image.specs.Summary.{with_a_link}
use Rattle.sound_image.proofs.Lists.{two_true}

both : (a b : Bool) → a ≡ true → b ≡ true → (a && b) ≡ true
both a b e f = rw (e, f) refl

-- ---- fields and bytes
fields_fit : (fields : List Field) (tail bytes : List ℕ) → Spells fields tail bytes → AllFit fields
unfolding Spells
fields_fit [] tail bytes h = tt
fields_fit (number width value ∷ fields) tail bytes h = (h.0, fields_fit fields tail (drop width bytes) h.2)
fields_fit (ignored width ∷ fields) tail bytes h = fields_fit fields tail (drop width bytes) h.1

tail_fits : (fields : List Field) (tail bytes : List ℕ) → IsBytes bytes → Spells fields tail bytes → IsBytes tail
unfolding Spells
tail_fits [] tail bytes fits h = let P : List ℕ → Type 0 = λ b. IsBytes b in subst P h fits
tail_fits (number width value ∷ fields) tail bytes fits h = tail_fits fields tail (drop width bytes) (bytes_drop width bytes fits) h.2
tail_fits (ignored width ∷ fields) tail bytes fits h = tail_fits fields tail (drop width bytes) (bytes_drop width bytes fits) h.1

bytes_test : (bytes : List ℕ) → IsBytes bytes → are_bytes bytes ≡ true
bytes_test [] fits = refl
bytes_test (b ∷ bytes) fits = both (nat_lt b 256) (are_bytes bytes) (lt-ltb b 256 (fits 0)) (bytes_test bytes (λ i. fits (suc i)))

front_test : (xs ys : List ℕ) → are_bytes (xs ++ ys) ≡ true → are_bytes xs ≡ true
front_test [] ys h = refl
front_test (x ∷ xs) ys h =
    let p = two_true (nat_lt x 256) (are_bytes (xs ++ ys)) h in
    both (nat_lt x 256) (are_bytes xs) p.0 (front_test xs ys p.1)

none_there : (xs : List ℕ) → length xs ≡ 0 → is_empty xs ≡ true
none_there [] h = refl
none_there (x ∷ xs) h = absurd cc

some_there : (xs : List ℕ) → 1 ≤ length xs → not (is_empty xs) ≡ true
some_there [] h = absurd (omega (arith, h))
some_there (x ∷ xs) h = refl

-- ---- inodes
-- data stand beside inodes of a kind that may have any
kind_with_data : (type : ℕ) (kind : Kind) → (type == 0o12 || type == 0o06 || type == 0o02) ≡ true → kind_of_bits (type * 0o10000) ≡ Some kind → has_data kind ≡ true
kind_with_data type kind h k = by (type == 0o12) refl (type == 0o06) refl (type == 0o02) refl h
  where
    P : ℕ → Type 0
    P n = kind_of_bits (n * 0o10000) ≡ Some kind

    Q : Kind → Type 0
    Q one = has_data one ≡ true

    by : (a : Bool) → (type == 0o12) ≡ a → (b : Bool) → (type == 0o06) ≡ b → (c : Bool) → (type == 0o02) ≡ c → (a || b || c) ≡ true → has_data kind ≡ true
    by true e b f c g t =
        let is : Some Symlink ≡ Some kind = subst P (eqb-true type 0o12 e) k in
        let same : Symlink ≡ kind = cc in
        subst Q same refl
    by false e true f c g t =
        let is : Some Block ≡ Some kind = subst P (eqb-true type 0o06 f) k in
        let same : Block ≡ kind = cc in
        subst Q same refl
    by false e false f true g t =
        let is : Some Char ≡ Some kind = subst P (eqb-true type 0o02 g) k in
        let same : Char ≡ kind = cc in
        subst Q same refl
    by false e false f false g t = absurd cc

data_allowed : (n : InoNode) (kind : Kind) → IsInoNode n → kind_of_bits (bits_of n.mode) ≡ Some kind → (is_empty n.bytes || has_data kind) ≡ true
data_allowed n kind is k = by (may_hold_data n.mode) refl
  where
    by : (b : Bool) → may_hold_data n.mode ≡ b → (is_empty n.bytes || has_data kind) ≡ true
    by false e = or_left (is_empty n.bytes) (has_data kind) (none_there n.bytes (is.plain e))
    by true e = or_right (is_empty n.bytes) (has_data kind) (kind_with_data (n.mode / 0o10000 % 0o20) kind e k)

not_zero : (n : ℕ) → 1 ≤ n → not (n == 0) ≡ true
not_zero n h = ap not (ne_eqb n 0 (λ e. omega (arith, h, e)))

five_words : (a b c d e : ℕ) → a < 2 ^ 32 → b < 2 ^ 32 → c < 2 ^ 32 → d < 2 ^ 32 → e < 2 ^ 32 → are_words (a ∷ b ∷ c ∷ d ∷ e ∷ []) ≡ true
five_words a b c d e f g h i j = rw (lt-ltb a (2 ^ 32) f, lt-ltb b (2 ^ 32) g, lt-ltb c (2 ^ 32) h, lt-ltb d (2 ^ 32) i, lt-ltb e (2 ^ 32) j) refl

four_long_words : (a b c d : ℕ) → a < 2 ^ 64 → b < 2 ^ 64 → c < 2 ^ 64 → d < 2 ^ 64 → are_long_words (a ∷ b ∷ c ∷ d ∷ []) ≡ true
four_long_words a b c d f g h i = rw (lt-ltb a (2 ^ 64) f, lt-ltb b (2 ^ 64) g, lt-ltb c (2 ^ 64) h, lt-ltb d (2 ^ 64) i) refl

seven : (a b c d e f g : Bool) → a ≡ true → b ≡ true → c ≡ true → d ≡ true → e ≡ true → f ≡ true → g ≡ true → (a && b && c && d && e && f && g) ≡ true
seven a b c d e f g p q r s t u v = rw (p, q, r, s, t, u, v) refl

-- with as many links as one likes
inode_is : (n : InoNode) (kind : Kind) (links : ℕ) → IsInoNode n → AllFit (inode_fields n) → IsBytes n.bytes → kind_of_bits (bits_of n.mode) ≡ Some kind → links < 2 ^ 32 → is_inode_node (n.ino, record (inode_of n kind) { nlink = links }) ≡ true
inode_is n kind links is fit fits k few =
    let owner = fit.1.1.1.1.1.1 in
    seven (not (n.ino == 0)) (nat_lt (n.mode % 0o10000) 4096) (are_words (n.ino ∷ n.uid ∷ n.gid ∷ n.flags ∷ links ∷ [])) (are_long_words (n.size ∷ n.atime ∷ n.ctime ∷ n.mtime ∷ [])) (are_bytes n.bytes) (nat_le (length n.bytes) 4096)
    (is_empty n.bytes || has_data kind) (not_zero n.ino is.numbered) (lt-ltb (n.mode % 0o10000) 4096 (omega arith)) (five_words n.ino n.uid n.gid n.flags links fit.0 owner.1.0 owner.1.1.0 owner.1.1.1.1.0 few)
    (four_long_words n.size n.atime n.ctime n.mtime fit.1.1.0 fit.1.1.1.0 fit.1.1.1.1.0 fit.1.1.1.1.1.0) (bytes_test n.bytes fits) (le-leb (length n.bytes) 4096 is.most) (data_allowed n kind is k)

max_below : (a b c : ℕ) → a < c → b < c → max a b < c
max_below a b c f g = elim (cases_lt a b) [
  | inl less ↦ let le : a ≤ b = omega (arith, less) in subst (λ (n : ℕ). n < c) (sym (max-eq_right {n = a} {m = b} le)) g
  | inr less ↦ subst (λ (n : ℕ). n < c) (sym (max-eq_left {n = a} {m = b} less)) f
]

-- as a mount reads it
linked_is : (n : InoNode) (kind : Kind) → IsInoNode n → AllFit (inode_fields n) → IsBytes n.bytes → kind_of_bits (bits_of n.mode) ≡ Some kind → is_inode_node (n.ino, with_a_link (inode_of n kind)) ≡ true
linked_is n kind is fit fits k = by (is_dir kind)
  where
    few : n.nlink < 2 ^ 32
    few = fit.1.1.1.1.1.1.0

    by : (b : Bool) → is_inode_node (n.ino, if b then record (inode_of n kind) { nlink = max 1 n.nlink } else inode_of n kind) ≡ true
    by true = inode_is n kind (max 1 n.nlink) is fit fits k (max_below 1 n.nlink (2 ^ 32) (ltb-true 1 (2 ^ 32) refl) few)
    by false = inode_is n kind n.nlink is fit fits k few

-- ---- blocks and entries
five : (a b c d e : Bool) → a ≡ true → b ≡ true → c ≡ true → d ≡ true → e ≡ true → (a && b && c && d && e) ≡ true
five a b c d e p q r s t = rw (p, q, r, s, t) refl

block_is : (n : DataNode) → IsDataNode n → AllFit (data_fields n) → IsBytes n.bytes → is_block_node ((n.ino, n.block), n.bytes) ≡ true
block_is n is fit fits =
    five (nat_lt n.ino (2 ^ 32)) (nat_lt n.block (2 ^ 29)) (not (is_empty n.bytes)) (nat_le (length n.bytes) 4096) (are_bytes n.bytes) (lt-ltb n.ino (2 ^ 32) fit.0) (lt-ltb n.block (2 ^ 29) is.block_fits) (some_there n.bytes is.some)
    (le-leb (length n.bytes) 4096 is.most) (bytes_test n.bytes fits)

four : (a b c d : Bool) → a ≡ true → b ≡ true → c ≡ true → d ≡ true → (a && b && c && d) ≡ true
four a b c d p q r s = rw (p, q, r, s) refl

name_is : (n : DentNode) → IsDentNode n → are_bytes n.name ≡ true → is_name n.name ≡ true
name_is n is fits = four (not (is_empty n.name)) (nat_le (length n.name) 255) (are_bytes n.name) (list_all (λ b. not (b == 0) && not (b == 47)) n.name) (some_there n.name is.some) (le-leb (length n.name) 255 is.most) fits is.plain

two_words : (a b : ℕ) → a < 2 ^ 32 → b < 2 ^ 32 → are_words (a ∷ b ∷ []) ≡ true
two_words a b f g = rw (lt-ltb a (2 ^ 32) f, lt-ltb b (2 ^ 32) g) refl

entry_is : (n : DentNode) (kind : Kind) → IsDentNode n → n.dir < 2 ^ 32 → are_bytes n.name ≡ true → is_entry_node ((n.dir, n.name), record { dir = n.dir; name = n.name; ino = n.inum; kind = kind }) ≡ true
entry_is n kind is dir fits =
    four (n.dir == n.dir) (is_same_name n.name n.name) (is_name n.name) (are_words (n.dir ∷ n.inum ∷ [])) (eq-eqb n.dir n.dir refl) (rw (bytes_same n.name) refl) (name_is n is fits) (two_words n.dir n.inum dir is.inum_fits)

dir_fits : (attribute : Bool) (dir hash : ℕ) → (key_words (if attribute then Xent dir hash else Dent dir hash)).0 < 256 ^ 4 → dir < 2 ^ 32
dir_fits true dir hash h = h
dir_fits false dir hash h = h

-- ---- what is shown
-- a proper tree may have this, as a mount reads it
abbrev pub IsShownWell : Option Change → Type 0
IsShownWell (Some (SetInode ino it)) = is_inode_node (ino, with_a_link it) ≡ true
IsShownWell (Some (SetBlock ino n bytes)) = is_block_node ((ino, n), bytes) ≡ true
IsShownWell (Some (SetEntry e)) = is_entry_node ((e.dir, e.name), e) ≡ true
IsShownWell other = Unit {0}

node_shows_well : (node : LeafNode) → IsLeaf node → AllFit (fields_of node) → IsBytes (tail_of node) → IsShownWell (shown node)
node_shows_well (inode n) is fit fits = by (kind_of_bits (bits_of n.mode)) refl
  where
    by : (k : Option Kind) → kind_of_bits (bits_of n.mode) ≡ k → IsShownWell (option_map (λ kind. SetInode n.ino (inode_of n kind)) k)
    by None e = tt
    by (Some kind) e = linked_is n kind is fit fits e
node_shows_well (block n) is fit fits = block_is n is fit fits
node_shows_well (entry n) is fit fits = by n.attribute (n.inum == 0) (kind_of_type n.kind)
  where
    by : (a z : Bool) (k : Option Kind) → IsShownWell (if a then None else if z then Some (DropEntry n.dir n.name) else option_map (λ kind. SetEntry (record { dir = n.dir; name = n.name; ino = n.inum; kind = kind })) k)
    by true z k = tt
    by false true k = tt
    by false false None = tt
    by false false (Some kind) = entry_is n kind is (dir_fits n.attribute n.dir (r5_of n.name) fit.0) (front_test n.name (0 ∷ []) (bytes_test (n.name ++ (0 ∷ [])) fits))
node_shows_well (truncation n) is fit fits = tt

-- what is read of bytes
pub read_shows_well : (bytes : List ℕ) (sqnum group : ℕ) (node : LeafNode) → IsBytes bytes → IsLeafNode bytes sqnum group node → IsShownWell (shown node)
read_shows_well bytes sqnum group node fits h =
    let P : List ℕ → Type 0 = λ b. IsBytes b in
    let body = subst P (has_head bytes h.body sqnum (type_of node) group fits h.framed).1 (bytes_drop 24 bytes fits) in
    node_shows_well node h.is (fields_fit (fields_of node) (tail_of node) h.body h.spelled) (tail_fits (fields_of node) (tail_of node) h.body body h.spelled)
