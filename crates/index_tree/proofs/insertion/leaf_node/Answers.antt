use Rattle.std.proofs.Common.{◌≡◌, ◌∙◌, ap, refl, [], ◌∷◌, ◌++◌}
use Rattle.index_tree.proofs.TreeLaws.{below_made, node_keeps}
use Rattle.index_tree.proofs.insertion.leaf_node.Goals as goal

pub returns-clause-children : goal.returns-clause-children
returns-clause-children c =
    let items : c.push.new.self.items ≡ c.args.leaf ∷ [] = c.in_ok-push.ensures.items ∙ ap (λ v. v ++ (c.args.leaf ∷ [])) c.new-leaves.ensures.items in
    below_made (record { first = c.args.leaf.key; leaves = c.push.new.self; nodes = c.new.result }) ∙ rw (items, c.new.ensures.items) refl

pub returns-clause-first_keys : goal.returns-clause-first_keys
returns-clause-first_keys c =
    let items : c.push.new.self.items ≡ c.args.leaf ∷ [] = c.in_ok-push.ensures.items ∙ ap (λ v. v ++ (c.args.leaf ∷ [])) c.new-leaves.ensures.items in
    node_keeps (record { first = c.args.leaf.key; leaves = c.push.new.self; nodes = c.new.result }) (rw items refl) (rw c.new.ensures.items refl)
