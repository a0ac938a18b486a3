-- Which main LEBs references name: each LEB once, in the order in which it is first named.
use Rattle.std.specs.Prelude.{◌==◌, if◌then◌else◌, min, List, [], ◌∷◌, fold}
use Rattle.media_sys.specs.declared.ref_node.RefNode.{RefNode}
use Rattle.bud_log.specs.declared.head_at.HeadAt.{HeadAt}

-- a reference more: a LEB that is named already keeps its head, and the lesser offset counts; else it comes last
abbrev pub named_also : List HeadAt → RefNode → List HeadAt
named_also [] node = record { head = node.head; lnum = node.lnum; offs = node.offs } ∷ []
named_also (bud ∷ buds) node = if bud.lnum == node.lnum then record { head = bud.head; lnum = bud.lnum; offs = min bud.offs node.offs } ∷ buds else bud ∷ named_also buds node

-- the buds that these references name
abbrev pub buds_of : List RefNode → List HeadAt
buds_of nodes = fold named_also [] nodes
