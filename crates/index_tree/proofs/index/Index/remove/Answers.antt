use Rattle.index_tree.proofs.SameLeaf.{holds-exactly}
use Rattle.index_tree.specs.Shape.{contents}
use Rattle.index_tree.specs.Tree.{shape}
use Rattle.index_tree.proofs.index.Index.remove.Goals as goal

pub returns-clause-there : goal.returns-clause-there
returns-clause-there c = λ k. holds-exactly c.args.leaf.now (contents (shape c.args.self.now.root)) c.remove_rooted.result c.args.self.now.keyed c.remove_rooted.ensures.answer k
