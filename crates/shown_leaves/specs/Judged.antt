-- What is told of a leaf whose node was read.
use Rattle.std.specs.Prelude.{ℕ, List, ◌==◌, ◌&&◌, Bool, true, false, if◌then◌else◌, Option, Some, None}
use Rattle.ubifs_base.specs.Key.{key_words}
use Rattle.image_check.specs.declared.wrong_value.WrongValue.{WrongValue}
use Rattle.shown_leaves.specs.declared.leaves.JudgedLeaf.{JudgedLeaf}
use Rattle.tree_check.specs.Places.{number_shown}
use Rattle.tree_check.specs.declared.shown_leaf.Shown.{Shown}
use Rattle.tree_check.specs.declared.shown_leaf.Shown.TheVariants.{Inode, Entry, Deletion, Block, Nothing}
use Rattle.group_nodes.specs.Nodes.{bits_of, kind_of_bits, kind_of_type}
use Rattle.fs_model.specs.declared.inode.Kind.{Kind}
use Rattle.shown_leaves.specs.declared.sourced_leaf.KnownBlock.{KnownBlock}
use Rattle.shown_leaves.specs.declared.sourced_leaf.Source.{Source}
use Rattle.shown_leaves.specs.declared.sourced_leaf.SourcedLeaf.{SourcedLeaf}

-- whether a leaf may stand for what is shown: an inode, a block or a name
abbrev pub is_shown_told : Shown → Bool
is_shown_told (Inode ino kind links) = true
is_shown_told (Entry dir name ino kind) = true
is_shown_told (Block ino number) = true
is_shown_told other = false

-- what an inode shows that has this number, mode and links
abbrev pub inode_told : ℕ → ℕ → ℕ → Shown
inode_told ino mode links = by (kind_of_bits (bits_of mode))
  where
    by : Option Kind → Shown
    by None = Nothing
    by (Some kind) = Inode ino kind links

-- what an entry of a directory shows that has this name, leads to this inode and names this type
abbrev pub entry_told : ℕ → List ℕ → ℕ → ℕ → Shown
entry_told dir name ino code = if ino == 0 then Deletion dir name else by (kind_of_type code)
  where
    by : Option Kind → Shown
    by None = Nothing
    by (Some kind) = Entry dir name ino kind

-- whether a leaf stands where its node was read
abbrev pub is_at_source : SourcedLeaf → Bool
is_at_source leaf = by leaf.source
  where
    by : Option Source → Bool
    by None = false
    by (Some source) = (source.lnum == leaf.leaf.lnum) && ((source.offs == leaf.leaf.offs) && (source.len == leaf.leaf.len))

-- the block that a leaf is known to be, if it stands where its node was read
abbrev pub known_in_place : SourcedLeaf → Option KnownBlock
known_in_place leaf = if is_at_source leaf then leaf.block else None

-- where a leaf stands, if its node was read there
abbrev pub source_in_place : SourcedLeaf → Option Source
source_in_place leaf = if is_at_source leaf then leaf.source else None

-- what is wrong with a leaf that shows this and stands at its place or doesn't
abbrev pub unlike_told : SourcedLeaf → Shown → Bool → Option WrongValue
unlike_told leaf shown stands =
    if stands && is_shown_told shown then None
    else Some (record { lnum = leaf.leaf.lnum; offs = leaf.leaf.offs; wanted = number_shown (key_words leaf.leaf.key).0 shown; found = 0 })

abbrev pub judged_of : SourcedLeaf → Shown → Bool → JudgedLeaf
judged_of leaf shown stands = record {
  leaf = record { lnum = leaf.leaf.lnum; offs = leaf.leaf.offs; number = (key_words leaf.leaf.key).0; shown = shown };
  unlike = unlike_told leaf shown stands;
}
