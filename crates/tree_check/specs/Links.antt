-- The entries that leaves show, and what they lead to.
use Rattle.std.specs.Prelude.{ℕ, ◌==◌, List, [], ◌∷◌, ◌++◌, count_by}
use Rattle.std.specs.BTreeMap.{insert_entry}
use Rattle.std.specs.Map.{values_of}
use Rattle.fs_model.specs.Files.{name_cmp}
use Rattle.tree_check.specs.declared.link.Link.{Link}
use Rattle.tree_check.specs.declared.shown_leaf.Shown.{Shown}
use Rattle.tree_check.specs.declared.shown_leaf.Shown.TheVariants.{Entry}
use Rattle.tree_check.specs.declared.shown_leaf.ShownLeaf.{ShownLeaf}

-- what entries lead to, by directory and name
abbrev pub LinkMap : Type 0
LinkMap = List ((ℕ × List ℕ) × Link)

-- the entry that a leaf shows, among others
abbrev pub with_link : Shown → LinkMap → LinkMap
with_link (Entry dir name ino kind) entries = insert_entry name_cmp entries (dir, name) (record { dir = dir; ino = ino })
with_link shown entries = entries

-- the entries of leaves, before these are set
abbrev pub entries_over : List ShownLeaf → LinkMap → LinkMap
entries_over [] entries = entries
entries_over (x ∷ leaves) entries = with_link x.shown (entries_over leaves entries)

abbrev pub entries_shown : List ShownLeaf → LinkMap
entries_shown leaves = entries_over leaves []

-- what they lead to, in order
abbrev pub links_shown : List ShownLeaf → List Link
links_shown leaves = values_of (entries_shown leaves)

-- what the entry leads to that a leaf shows, if it shows one
abbrev pub entry_link : Shown → List Link
entry_link (Entry dir name ino kind) = record { dir = dir; ino = ino } ∷ []
entry_link shown = []

-- what the entries of leaves lead to, leaf by leaf
abbrev pub entry_links : List ShownLeaf → List Link
entry_links [] = []
entry_links (x ∷ leaves) = entry_link x.shown ++ entry_links leaves

-- how many lead to an inode
abbrev pub count_to : List Link → ℕ → ℕ
count_to links ino = count_by (λ link. link.ino == ino) links
