-- What is kept of a leaf that was found.
use Rattle.std.specs.Prelude.{◌≡◌, ℕ, cond, Bool, true, false, List, Some}
use Rattle.std.specs.BTreeMap.{get, is_at}
use Rattle.std.specs.Ordering.{nat_cmp}
use Rattle.ubifs_base.specs.R5.{r5_of}
use Rattle.ubifs_base.specs.declared.key.Key.TheVariants.{Dent}
use Rattle.index_tree.specs.declared.leaf.Leaf.{Leaf}
use Rattle.fs_model.specs.Files.{name_cmp}
use Rattle.leaf_map.specs.Kept.{Kept}
use Rattle.journal_scan.specs.declared.node_content.NodeContent.{NodeContent}
use Rattle.journal_scan.specs.declared.node_content.NodeContent.TheVariants.{Inode, Block, Entry, Truncation, Unknown}
use Rattle.journal_scan.specs.declared.journal_node.JournalNode.{JournalNode}
use Rattle.log_replay.specs.Changes.{place_of_node}
use Rattle.log_replay.specs.declared.application.Place.{Place}
use Rattle.log_replay.specs.declared.standing.Standing.{Standing}
use Rattle.log_replay.specs.Standing.{leaf_of_key, links_among, leaf_of_name}

-- the maps say what these leaves show
pub record Says (kept : List Kept) (s : Standing) : Type 0 where
  pub inodes : (ino : ℕ) → get nat_cmp s.inodes ino ≡ links_among kept ino
  pub names : (q : ℕ × List ℕ) → get name_cmp s.names q ≡ leaf_of_name kept q

-- of an inode it is kept whether it has links
pub record NotesInode (ino : ℕ) (linked : Bool) (s t : Standing) : Type 0 where
  pub inodes : (q : ℕ) → get nat_cmp t.inodes q ≡ cond (is_at (nat_cmp ino) q) (Some linked) (get nat_cmp s.inodes q)
  pub names : t.names ≡ s.names

-- of a name its leaf is kept
pub record NotesName (q : ℕ × List ℕ) (leaf : Leaf) (s t : Standing) : Type 0 where
  pub inodes : t.inodes ≡ s.inodes
  pub names : (p : ℕ × List ℕ) → get name_cmp t.names p ≡ cond (is_at (name_cmp q) p) (Some leaf) (get name_cmp s.names p)

-- what is kept of a leaf of this content
abbrev pub NotesBy : NodeContent → Place → Standing → Standing → Type 0
NotesBy (Inode ino linked) place s t = NotesInode ino linked s t
NotesBy (Entry dir name true) place s t = NotesName (dir, name) (leaf_of_key (Dent dir (r5_of name)) place) s t
NotesBy (Entry dir name false) place s t = t ≡ s
NotesBy (Block ino number) place s t = t ≡ s
NotesBy (Truncation ino size) place s t = t ≡ s
NotesBy (Unknown key linked) place s t = t ≡ s

-- what is kept of a leaf
abbrev pub Notes : JournalNode → Standing → Standing → Type 0
Notes node s t = NotesBy node.content (place_of_node node) s t
