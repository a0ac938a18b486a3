use Rattle.std.proofs.Common.{◌≡◌, List, ℕ, ◌++◌, length, drop, map, take, ◌∙◌, sym, subst, rules}
use Rattle.index_media.specs.PlacedRow.{branch_to}
use Rattle.space_check.specs.Sums.{AreAdded, AreSums}
use Rattle.space_check.proofs.Added.{take_front}
use Rattle.space_check.proofs.LebSums.{sums_made}
use Rattle.space_check.proofs.adding.sums_of.Goals as goal

pub returns : goal.returns
returns c =
    let start = c.in_ok-sums.sums.items in
    let then = c.add_leaves.new.sums in
    let last = c.add_nodes.new.sums in
    let n = c.in_ok-sums.sums.len in
    let long : length start ≡ n = search rules in
    let S : List ℕ → Type 0 = λ xs. AreAdded c.args.first xs then (map branch_to c.args.leaves.now) in
    let one : AreAdded c.args.first start then (map branch_to c.args.leaves.now) = subst S c.deref_mut.ensures.value c.in_ok-add_leaves.ensures in
    let back : take n (then ++ drop (length then) start) ≡ then = take_front then (drop (length then) start) n (one.len ∙ long) in
    let T : List ℕ → Type 0 = λ xs. AreAdded c.args.first xs last c.args.nodes.now in
    let two : AreAdded c.args.first then last c.args.nodes.now = subst T (c.deref_mut-2.ensures.value ∙ back) c.in_ok-add_nodes.ensures in
    let rest = drop (length last) (take n (then ++ drop (length then) start)) in
    let U : List ℕ → Type 0 = λ xs. AreSums c.args.first c.args.props.now c.args.leaves.now c.args.nodes.now xs in
    subst U (sym (take_front last rest n (two.len ∙ one.len ∙ long))) (sums_made c.args.first c.args.props.now c.args.leaves.now c.args.nodes.now start then last c.in_ok-sums.ensures one two)
