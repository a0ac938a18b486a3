-- What is kept of leaves, for look-ups.
use Rattle.std.specs.Prelude.{ℕ, ◌*◌, ◌==◌, ◌&&◌, ◌||◌, nat_le, is_some, Bool, true, false, List}
use Rattle.std.specs.BTreeMap.{get}
use Rattle.std.specs.List.{list_any}
use Rattle.std.specs.Ordering.{nat_cmp}
use Rattle.fs_model.specs.Files.{name_cmp, pair_cmp}
use Rattle.journal_scan.specs.declared.node_content.NodeContent.{NodeContent}
use Rattle.journal_scan.specs.declared.node_content.NodeContent.TheVariants.{Inode, Block, Entry, Truncation, Unknown}
use Rattle.leaf_recovery.specs.declared.seen.Cut.{Cut}
use Rattle.leaf_recovery.specs.declared.seen.Seen.{Seen}

-- whether a block stands behind one of these sizes
abbrev pub cut_seen : List Cut → ℕ → ℕ → Bool
cut_seen cuts ino number = list_any (λ cut. (ino == cut.ino) && nat_le cut.size (4096 * number)) cuts

-- whether something that is kept is what a node shows
abbrev pub has_seen : Seen → NodeContent → Bool
has_seen seen (Inode ino linked) = is_some (get nat_cmp seen.inodes ino)
has_seen seen (Block ino number) = is_some (get pair_cmp seen.blocks (ino, number)) || cut_seen seen.cuts.items ino number
has_seen seen (Entry dir name true) = is_some (get name_cmp seen.names (dir, name))
has_seen seen (Entry dir name false) = false
has_seen seen (Truncation ino size) = false
has_seen seen (Unknown key linked) = false
