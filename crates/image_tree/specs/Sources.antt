-- Leaves after recovery, with where their nodes were read, and what is told of them.
use Rattle.std.specs.Prelude.{Option, Some, None}
use Rattle.index_tree.specs.declared.leaf.Leaf.{Leaf}
use Rattle.leaf_recovery.specs.declared.recovered_leaf.Place.{Place}
use Rattle.leaf_recovery.specs.declared.recovered_leaf.RecoveredLeaf.{RecoveredLeaf}
use Rattle.journal_scan.specs.declared.node_content.NodeContent.{NodeContent}
use Rattle.journal_scan.specs.declared.node_content.NodeContent.TheVariants.{Block}
use Rattle.image_check.specs.declared.wrong_value.WrongValue.{WrongValue}
use Rattle.shown_leaves.specs.declared.sourced_leaf.KnownBlock.{KnownBlock}
use Rattle.shown_leaves.specs.declared.sourced_leaf.Source.{Source}
use Rattle.shown_leaves.specs.declared.sourced_leaf.SourcedLeaf.{SourcedLeaf}

-- where a node was read
abbrev pub source_of : Option Place → Option Source
source_of None = None
source_of (Some place) = Some (record { lnum = place.lnum; offs = place.offs; len = place.len })

-- the block that a node is told to be
abbrev pub block_of : NodeContent → Option KnownBlock
block_of (Block ino number) = Some (record { ino = ino; number = number })
block_of other = None

-- a leaf after recovery, where its node was read, and which block that is
abbrev pub sourced_of : RecoveredLeaf → SourcedLeaf
sourced_of r = record { leaf = r.leaf; source = source_of r.source; block = block_of r.content }

-- what is wrong at a name of inode number 0
abbrev pub empty_at : Leaf → WrongValue
empty_at leaf = record { lnum = leaf.lnum; offs = leaf.offs; wanted = 0; found = 0 }
