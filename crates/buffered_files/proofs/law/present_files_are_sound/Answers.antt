use Rattle.std.proofs.Common.{sym}
use Rattle.buffered_files.specs.Present.{present}
use Rattle.buffered_files.proofs.Alike.{tree_alike, present_nodes}
use Rattle.buffered_files.proofs.law.present_files_are_sound.Goals as goal

pub returns-clause-proper : goal.returns-clause-proper
returns-clause-proper c tree kept is = c.trees_built_alike_are_proper.ensures.proper tree (present tree kept).tree is.proper (tree_alike tree kept is) (present_nodes tree kept is)

pub returns-clause-sound : goal.returns-clause-sound
returns-clause-sound c tree kept is files = record {
  proper = c.trees_built_alike_are_proper.ensures.proper tree (present tree kept).tree is.proper (tree_alike tree kept is) (present_nodes tree kept is);
  handles = c.trees_built_alike_are_proper.ensures.handles tree (present tree kept).tree kept.handles (tree_alike tree kept is) files;
}

pub returns-clause-nameless : goal.returns-clause-nameless
returns-clause-nameless c tree kept is = sym (c.groups_fit_trees_built_alike.ensures.nameless tree (present tree kept).tree (tree_alike tree kept is))
