-- Which places the log names, by its references.
use Rattle.std.specs.Prelude.{ℕ, ◌==◌, ◌&&◌, nat_le, Bool, List}
use Rattle.std.specs.List.{list_any}
use Rattle.ubifs_base.specs.JournalHead.{head_number}
use Rattle.media_sys.specs.declared.ref_node.RefNode.{RefNode}
use Rattle.index_tree.specs.declared.leaf.Leaf.{Leaf}
use Rattle.leaf_map.specs.Parts.{Named}

-- a reference, as recovery takes it
abbrev pub named_by_reference : RefNode → Named
named_by_reference node = record { head = head_number node.head; lnum = node.lnum; from = node.offs }

-- whether a LEB is named
abbrev pub is_named_told : List RefNode → ℕ → Bool
is_named_told references lnum = list_any (λ b. b.lnum == lnum) references

-- whether a leaf's place is one of the journal's
abbrev pub in_bud_told : List RefNode → Leaf → Bool
in_bud_told references leaf = list_any (λ b. (b.lnum == leaf.lnum) && nat_le b.offs leaf.offs) references
