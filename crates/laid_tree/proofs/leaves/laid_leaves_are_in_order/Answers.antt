use Rattle.laid_tree.proofs.Keys.{leaves_ascend, leaves_have_keys, leaves_in_order, some_nodes}
use Rattle.laid_tree.proofs.leaves.laid_leaves_are_in_order.Goals as goal

pub returns : goal.returns
returns c =
    let law = c.live_nodes_show_their_tree.ensures in
    record {
      keys = λ geo contents tree nodes used h. leaves_have_keys contents nodes h.stand;
      order = λ geo contents tree nodes used p h. leaves_in_order contents nodes h.stand (law.kept tree nodes p h.are);
      ordered = λ tree nodes p are. leaves_ascend nodes (law.kept tree nodes p are);
      some = some_nodes;
    }
