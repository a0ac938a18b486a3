use Rattle.std.proofs.Common.{◌≡◌, ◌∙◌, ap, refl, [], ◌∷◌, ◌++◌}
use Rattle.index_tree.specs.declared.node.Node.TheViews.{out-Node}
use Rattle.index_tree.proofs.TreeLaws.{below_made, kept_node, node_keeps}
use Rattle.index_tree.proofs.insertion.raise.Goals as goal

pub returns-clause-raised : goal.returns-clause-raised
returns-clause-raised c =
    let top = c.args.top.now in
    let right = c.args.right in
    let items : c.push_reserved-2.new.self.items ≡ top ∷ (right ∷ []) = c.push_reserved-2.ensures.items ∙ ap (λ v. v ++ (right ∷ [])) (c.push_reserved.ensures.items ∙ ap (λ v. v ++ (c.replace-left.result ∷ [])) c.requires.empty) ∙ ap (λ v. v ∷ (right ∷ [])) c.replace-left.ensures.value in
    below_made (record { first = (out-Node top).first; leaves = c.new-2.result; nodes = c.push_reserved-2.new.self }) ∙ rw (c.new-2.ensures.items, items) refl

pub returns-clause-first_keys_kept : goal.returns-clause-first_keys_kept
returns-clause-first_keys_kept c =
    let top = c.args.top.now in
    let right = c.args.right in
    let items : c.push_reserved-2.new.self.items ≡ top ∷ (right ∷ []) = c.push_reserved-2.ensures.items ∙ ap (λ v. v ++ (right ∷ [])) (c.push_reserved.ensures.items ∙ ap (λ v. v ++ (c.replace-left.result ∷ [])) c.requires.empty) ∙ ap (λ v. v ∷ (right ∷ [])) c.replace-left.ensures.value in
    node_keeps (record { first = (out-Node top).first; leaves = c.new-2.result; nodes = c.push_reserved-2.new.self }) (rw (c.new-2.ensures.items, items) (kept_node top c.requires.first_keys).first_is) (rw items (rw (c.requires.first_keys, c.requires.right_first_keys) refl))
