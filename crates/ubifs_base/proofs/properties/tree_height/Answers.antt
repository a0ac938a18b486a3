use Rattle.std.proofs.Common.{arith, subst, sym}
use Rattle.ubifs_base.specs.PropertiesLaws.{IsHeight, tree_height-least}
use Rattle.ubifs_base.proofs.properties.tree_height.Goals as goal

pub returns-clause-least : goal.returns-clause-least
returns-clause-least c = subst (IsHeight c.args.pnodes) (sym c.height_found.ensures.number) (tree_height-least c.args.pnodes (omega arith))
