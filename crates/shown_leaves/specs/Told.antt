-- What is told of nodes and leaves, and what is wrong by that alone.
use Rattle.std.specs.Prelude.{Bool, true, false, if◌then◌else◌, Option, Some, None}
use Rattle.journal_scan.specs.Content.{number_told}
use Rattle.journal_scan.specs.declared.journal_node.JournalNode.{JournalNode}
use Rattle.journal_scan.specs.declared.node_content.NodeContent.{NodeContent}
use Rattle.journal_scan.specs.declared.node_content.NodeContent.TheVariants.{Unknown}
use Rattle.image_check.specs.declared.wrong_value.WrongValue.{WrongValue}

-- whether a node of which this is told says no change: it has links, or is an attribute, and is of no known kind
abbrev pub is_unchanging : NodeContent → Bool
is_unchanging (Unknown key true) = true
is_unchanging other = false

-- a node's place, where the inode number of its key is wanted
abbrev pub wrong_node_told : JournalNode → WrongValue
wrong_node_told x = record { lnum = x.lnum; offs = x.offs; wanted = number_told x.content; found = 0 }

-- what is wrong with a node if it says no change
abbrev pub unchanging_told : JournalNode → Option WrongValue
unchanging_told x = if is_unchanging x.content then Some (wrong_node_told x) else None
