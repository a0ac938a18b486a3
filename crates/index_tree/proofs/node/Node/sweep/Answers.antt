use Rattle.std.proofs.Common.{rules, ◌≡◌, ◌∙◌, ap, sym, arith, length}
use Rattle.std.specs.Prelude.{filter}
use Rattle.std.proofs.lemmas.Fn.{filter_same}
use Rattle.index_tree.specs.declared.node.Node.TheViews.{out-Node, out-roll-Node}
use Rattle.index_tree.specs.Shape.{node_count, shape_weight}
use Rattle.index_tree.specs.Sweep.{swept, has_child}
use Rattle.index_tree.specs.Tree.{below, row, kept_all, leaves_before}
use Rattle.index_tree.proofs.TreeLaws.{below_is, below_made}
use Rattle.index_tree.proofs.Inserting.{below-nodes, below-weight, leaves-nodes, leaves-weight}
use Rattle.index_tree.proofs.Sweeping.{swept-row, swept-leaves, filter-kept, filter-nodes, filter-weight, filter-fewer}
use Rattle.index_tree.proofs.node.Node.sweep.Goals as goal

pub overflow_sub-counts : goal.overflow_sub-counts
overflow_sub-counts c =
    let n = c.args.self.now in
    let f = c.args.fanout in
    let ns = (out-Node n).nodes.items in
    let is : c.retain.new.self.items ≡ filter has_child ns = filter_same _ has_child _ (λ x b f' k. search rules) _ _ c.retain.ensures.filtered in
    let before : c.len-before.result ≡ length ns = c.len-before.ensures ∙ (out-Node n).nodes.ok.0 in
    let after : c.len.result ≡ length (filter has_child ns) = (simp out-roll-Node at c.len.ensures) ∙ c.retain.new.self.ok.0 ∙ ap length is in
    omega (arith, filter-nodes ns, below-nodes n, filter-fewer ns)

pub overflow_sub-counts-2 : goal.overflow_sub-counts-2
overflow_sub-counts-2 c =
    let n = c.args.self.now in
    let f = c.args.fanout in
    let ns = (out-Node n).nodes.items in
    let is : c.retain.new.self.items ≡ filter has_child ns = filter_same _ has_child _ (λ x b f' k. search rules) _ _ c.retain.ensures.filtered in
    let before : c.len-before.result ≡ length ns = c.len-before.ensures ∙ (out-Node n).nodes.ok.0 in
    let after : c.len.result ≡ length (filter has_child ns) = (simp out-roll-Node at c.len.ensures) ∙ c.retain.new.self.ok.0 ∙ ap length is in
    omega (arith, filter-weight f ns c.requires.least, below-weight f n, filter-fewer ns)

pub keep_first-requires : goal.keep_first-requires
keep_first-requires c =
    let n = c.args.self.now in
    let f = c.args.fanout in
    let ns = (out-Node n).nodes.items in
    let is : c.retain.new.self.items ≡ filter has_child ns = filter_same _ has_child _ (λ x b f' k. search rules) _ _ c.retain.ensures.filtered in
    let before : c.len-before.result ≡ length ns = c.len-before.ensures ∙ (out-Node n).nodes.ok.0 in
    let after : c.len.result ≡ length (filter has_child ns) = (simp out-roll-Node at c.len.ensures) ∙ c.retain.new.self.ok.0 ∙ ap length is in
    simp out-roll-Node (ap kept_all is ∙ filter-kept ns c.requires.first_keys)

pub returns-clause-swept : goal.returns-clause-swept
returns-clause-swept c =
    let n = c.args.self.now in
    let f = c.args.fanout in
    let ns = (out-Node n).nodes.items in
    let is : c.retain.new.self.items ≡ filter has_child ns = filter_same _ has_child _ (λ x b f' k. search rules) _ _ c.retain.ensures.filtered in
    let before : c.len-before.result ≡ length ns = c.len-before.ensures ∙ (out-Node n).nodes.ok.0 in
    let after : c.len.result ≡ length (filter has_child ns) = (simp out-roll-Node at c.len.ensures) ∙ c.retain.new.self.ok.0 ∙ ap length is in
    let L = (out-Node n).leaves.items in
    (simp below_made at c.keep_first.ensures.children) ∙ ap (λ v. leaves_before L (row v)) is ∙ ap (λ v. leaves_before L v) (swept-row ns) ∙ sym (ap swept (below_is n) ∙ swept-leaves L (row ns))

pub returns-clause-nodes : goal.returns-clause-nodes
returns-clause-nodes c =
    let n = c.args.self.now in
    let f = c.args.fanout in
    let ns = (out-Node n).nodes.items in
    let is : c.retain.new.self.items ≡ filter has_child ns = filter_same _ has_child _ (λ x b f' k. search rules) _ _ c.retain.ensures.filtered in
    let before : c.len-before.result ≡ length ns = c.len-before.ensures ∙ (out-Node n).nodes.ok.0 in
    let after : c.len.result ≡ length (filter has_child ns) = (simp out-roll-Node at c.len.ensures) ∙ c.retain.new.self.ok.0 ∙ ap length is in
    let L = (out-Node n).leaves.items in
    let size = ap node_count ((simp below_made at c.keep_first.ensures.children) ∙ ap (λ v. leaves_before L (row v)) is) in
    omega (arith, filter-nodes ns, below-nodes n, filter-fewer ns, size, leaves-nodes L (row (filter has_child ns)))

pub returns-clause-weight : goal.returns-clause-weight
returns-clause-weight c =
    let n = c.args.self.now in
    let f = c.args.fanout in
    let ns = (out-Node n).nodes.items in
    let is : c.retain.new.self.items ≡ filter has_child ns = filter_same _ has_child _ (λ x b f' k. search rules) _ _ c.retain.ensures.filtered in
    let before : c.len-before.result ≡ length ns = c.len-before.ensures ∙ (out-Node n).nodes.ok.0 in
    let after : c.len.result ≡ length (filter has_child ns) = (simp out-roll-Node at c.len.ensures) ∙ c.retain.new.self.ok.0 ∙ ap length is in
    let L = (out-Node n).leaves.items in
    let size : shape_weight f (below c.keep_first.new.self) ≡ shape_weight f (leaves_before L (row (filter has_child ns))) = ap (λ v. shape_weight f v) ((simp below_made at c.keep_first.ensures.children) ∙ ap (λ v. leaves_before L (row v)) is) in
    omega (arith, filter-weight f ns c.requires.least, below-weight f n, filter-fewer ns, size, leaves-weight f L (row (filter has_child ns)))
