use Rattle.std.proofs.Common.{map, sym, ap, subst, ◌∙◌}
use Rattle.leaf_map.specs.Kept.{kept_at}
use Rattle.leaf_map.specs.Recovered.{highest_key}
use Rattle.leaf_map.specs.Shown.{tree_of}
use Rattle.laid_image.specs.Laid.{ShowTree, leaf_of_placed}
use Rattle.laid_tree.proofs.Plain.{laid_nodes}
use Rattle.laid_tree.proofs.Together.{hangs_together}
use Rattle.laid_tree.proofs.law.live_nodes_are_laid_as_their_tree.Goals as goal

pub returns-clause-tree : goal.returns-clause-tree
returns-clause-tree c tree master nodes p are top =
    let law = c.live_nodes_show_their_tree.ensures in
    ap (λ n. tree_of (map kept_at nodes) (highest_key n (map (λ x. (leaf_of_placed x).key) nodes))) top ∙ ap (tree_of (map kept_at nodes)) (law.highest tree nodes p are) ∙ law.tree tree nodes p are

pub returns-clause-shows : goal.returns-clause-shows
returns-clause-shows c tree master nodes p are top none =
    let law = c.live_nodes_show_their_tree.ensures in
    subst (ShowTree (map kept_at nodes)) (sym (returns-clause-tree c tree master nodes p are top)) (hangs_together tree nodes p none (law.kept tree nodes p are) (law.nodes tree nodes p are))

pub returns-clause-laid : goal.returns-clause-laid
returns-clause-laid c contents geo props tree nodes p are plain stand = laid_nodes contents geo props tree nodes are plain (c.live_nodes_show_their_tree.ensures.nodes tree nodes p are) stand
