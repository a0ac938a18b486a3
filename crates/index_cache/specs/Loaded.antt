-- The root of an index that is loaded.
use Rattle.ubifs_base.specs.declared.key.Key.{Key}
use Rattle.media_sys.specs.declared.branch.Branch.{Branch}
use Rattle.table_nodes.specs.declared.node.NodePlace.{NodePlace}

-- the branch to a root that stands at a place, with a key
abbrev pub root_at : NodePlace → Key → Branch
root_at place key = record { lnum = place.lnum; offs = place.offs; len = place.len; key = key }
