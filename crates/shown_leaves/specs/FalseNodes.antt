-- What is wrong with nodes of the journal, with copies, and with leaves that are there twice: the parts of the rule on the tree that need no tree.
use Rattle.std.specs.Prelude.{◌≡◌, List, None}
use Rattle.ubifs_base.specs.Key.{key_words}
use Rattle.group_nodes.specs.Nodes.{change_of}
use Rattle.leaf_map.specs.Kept.{Placed, node_key}
use Rattle.leaf_map.specs.Parts.{Parts}
use Rattle.sound_image.specs.Tree.{IsCopy}
use Rattle.sound_image.specs.Wrong.{IsOneOf, Wrong, differs}

-- this is wrong at the place of a node; the inode number of its key is wanted
abbrev pub wrong_node : Placed → Wrong
wrong_node x = record { lnum = x.lnum; offs = x.offs; misfit = differs (key_words (node_key x.node)).0 0 }

-- one of these nodes says no change
abbrev pub IsUnchanging : List Placed → Wrong → Type 0
IsUnchanging nodes at = (x : Placed) × IsOneOf x nodes × (change_of x.node ≡ None) × (at ≡ wrong_node x)

-- one of the collector's nodes is no copy
abbrev pub IsFalseCopy : Parts → Wrong → Type 0
IsFalseCopy parts at = (x : Placed) × IsOneOf x parts.copies × (IsCopy parts x → ⊥) × (at ≡ wrong_node x)
