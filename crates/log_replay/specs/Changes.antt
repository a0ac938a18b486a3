-- What one node makes of an index and its maps.
use Rattle.std.specs.Prelude.{◌≡◌, ℕ, ◌+◌, ◌/◌, ◌^◌, ◌<◌, ◌≤◌, min, cond, not, Bool, true, false, List, Option, Some, None, slice_get}
use Rattle.std.specs.BTreeMap.{get, is_at}
use Rattle.std.specs.Option.{MatchOption}
use Rattle.std.specs.Ordering.{nat_cmp}
use Rattle.ubifs_base.specs.declared.key.Key.{Key}
use Rattle.ubifs_base.specs.declared.key.Key.TheVariants.{Ino, Block, Dent}
use Rattle.ubifs_base.specs.Key.{key_words}
use Rattle.ubifs_base.specs.R5.{r5_of}
use Rattle.index_tree.specs.declared.leaf.Leaf.{Leaf}
use Rattle.index_tree.specs.Order.{key_rank, of_rank, placed}
use Rattle.index_tree.specs.RangeRemoval.{outside_range}
use Rattle.index_tree.specs.Removal.{without}
use Rattle.index_tree.specs.Replacement.{swapped}
use Rattle.index_tree.specs.Shape.{shape_weight}
use Rattle.index_tree.specs.Tree.{shape}
use Rattle.fs_model.specs.Files.{name_cmp}
use Rattle.leaf_map.specs.Follows.{last_block_key}
use Rattle.journal_scan.specs.declared.node_content.NodeContent.{NodeContent}
use Rattle.journal_scan.specs.declared.node_content.NodeContent.TheVariants.{Inode, Block as BlockNode, Entry, Truncation, Unknown}
use Rattle.journal_scan.specs.declared.journal_node.JournalNode.{JournalNode}
use Rattle.log_replay.specs.declared.application.Place.{Place}
use Rattle.log_replay.specs.declared.standing.Standing.{Standing}
use Rattle.log_replay.specs.Standing.{leaf_of_key, leaves_in}

-- the first leaf of a key
abbrev pub first_of_key : Key → List Leaf → Option Leaf
first_of_key key xs = slice_get (of_rank (key_rank key) xs) 0

-- a leaf in the place of an old one, if there is one, and else behind all of no greater key
abbrev pub put_over : Option Leaf → Leaf → List Leaf → List Leaf
put_over None new xs = placed new xs
put_over (Some old) new xs = swapped old new xs

-- the leaves without an old one, if there is one
abbrev pub taken_out : Option Leaf → List Leaf → List Leaf
taken_out None xs = xs
taken_out (Some old) xs = without old xs

-- a leaf, if there is one, has this key
abbrev pub IsOfKey : Key → Option Leaf → Type 0
IsOfKey key None = Unit {0}
IsOfKey key (Some old) = old.key ≡ key

-- the index weighs at most so much more
pub record IsHeavier (n : ℕ) (s t : Standing) : Type 0 where
  pub fanout : t.index.fanout ≡ s.index.fanout
  pub weight : shape_weight s.index.fanout (shape t.index.root) ≤ shape_weight s.index.fanout (shape s.index.root) + n

-- an inode with links is set
pub record StandingSetsInode (ino : ℕ) (leaf : Leaf) (s t : Standing) : Type 0 where
  pub leaves : IsOfKey leaf.key (first_of_key leaf.key (leaves_in s)) → leaves_in t ≡ put_over (first_of_key leaf.key (leaves_in s)) leaf (leaves_in s)
  pub inodes : (q : ℕ) → get nat_cmp t.inodes q ≡ cond (is_at (nat_cmp ino) q) (Some true) (get nat_cmp s.inodes q)
  pub names : t.names ≡ s.names

-- an inode goes with its blocks
pub record StandingDropsInode (ino : ℕ) (s t : Standing) : Type 0 where
  pub leaves : leaves_in t ≡ outside_range (key_rank (Ino ino)) (key_rank (last_block_key ino)) (leaves_in s)
  pub inodes : (q : ℕ) → get nat_cmp t.inodes q ≡ cond (is_at (nat_cmp ino) q) None (get nat_cmp s.inodes q)
  pub names : t.names ≡ s.names

-- a block is set
pub record PutsBlock (leaf : Leaf) (s t : Standing) : Type 0 where
  pub leaves : IsOfKey leaf.key (first_of_key leaf.key (leaves_in s)) → leaves_in t ≡ put_over (first_of_key leaf.key (leaves_in s)) leaf (leaves_in s)
  pub inodes : t.inodes ≡ s.inodes
  pub names : t.names ≡ s.names

-- a block is set if its inode is there
abbrev pub StandingSetsBlock : ℕ → Leaf → Standing → Standing → Type 0
StandingSetsBlock ino leaf s t = MatchOption (get nat_cmp s.inodes ino) (t ≡ s) (λ linked. PutsBlock leaf s t)

-- the blocks of an inode go that have no byte below a size
pub record StandingCutsBlocks (ino size : ℕ) (s t : Standing) : Type 0 where
  pub leaves : leaves_in t ≡ outside_range (key_rank (Block ino (min ((size + 4095) / 4096) (2 ^ 29)))) (key_rank (last_block_key ino)) (leaves_in s)
  pub inodes : t.inodes ≡ s.inodes
  pub names : t.names ≡ s.names

-- a name is set
pub record SetsName (q : ℕ × List ℕ) (leaf : Leaf) (s t : Standing) : Type 0 where
  pub leaves : IsOfKey leaf.key (get name_cmp s.names q) → leaves_in t ≡ put_over (get name_cmp s.names q) leaf (leaves_in s)
  pub inodes : t.inodes ≡ s.inodes
  pub names : (p : ℕ × List ℕ) → get name_cmp t.names p ≡ cond (is_at (name_cmp q) p) (Some leaf) (get name_cmp s.names p)

-- a name goes
pub record DropsName (q : ℕ × List ℕ) (s t : Standing) : Type 0 where
  pub leaves : leaves_in t ≡ taken_out (get name_cmp s.names q) (leaves_in s)
  pub inodes : t.inodes ≡ s.inodes
  pub names : (p : ℕ × List ℕ) → get name_cmp t.names p ≡ cond (is_at (name_cmp q) p) None (get name_cmp s.names p)

-- whether an inode is there and has no links
abbrev pub is_without_links : Option Bool → Bool
is_without_links None = false
is_without_links (Some linked) = not linked

-- an inode goes with its blocks if it has no links
pub record DropsOrphan (ino : ℕ) (s t : Standing) : Type 0 where
  pub bare : is_without_links (get nat_cmp s.inodes ino) ≡ true → StandingDropsInode ino s t
  pub other : is_without_links (get nat_cmp s.inodes ino) ≡ false → t ≡ s

-- the place of a node
abbrev pub place_of_node : JournalNode → Place
place_of_node node = record { lnum = node.lnum; offs = node.offs; len = node.len }

-- what a node of this content makes of them
abbrev pub DoesBy : NodeContent → Place → Standing → Standing → Type 0
DoesBy (Inode ino true) place s t = StandingSetsInode ino (leaf_of_key (Ino ino) place) s t
DoesBy (Inode ino false) place s t = StandingDropsInode ino s t
DoesBy (BlockNode ino number) place s t = StandingSetsBlock ino (leaf_of_key (Block ino number) place) s t
DoesBy (Entry dir name true) place s t = SetsName (dir, name) (leaf_of_key (Dent dir (r5_of name)) place) s t
DoesBy (Entry dir name false) place s t = DropsName (dir, name) s t
DoesBy (Truncation ino size) place s t = StandingCutsBlocks ino size s t
DoesBy (Unknown key true) place s t = t ≡ s
DoesBy (Unknown key false) place s t = StandingDropsInode (key_words key).0 s t

-- what a node makes of them
abbrev pub Does : JournalNode → Standing → Standing → Type 0
Does node s t = DoesBy node.content (place_of_node node) s t

-- a block's number has 29 bits
abbrev pub HasBlockKey : JournalNode → Type 0
HasBlockKey node = by node.content
  where
    by : NodeContent → Type 0
    by (BlockNode ino number) = number < 2 ^ 29
    by (Inode ino linked) = Unit {0}
    by (Entry dir name linked) = Unit {0}
    by (Truncation ino size) = Unit {0}
    by (Unknown key linked) = Unit {0}
