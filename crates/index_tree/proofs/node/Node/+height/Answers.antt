use Rattle.std.proofs.Common.{◌≡◌, ◌<◌, ◌∙◌, ap, sym, arith, length}
use Rattle.std.proofs.lemmas.Bool.Decides.{nat_tests}
use Rattle.index_tree.specs.declared.node.Node.TheViews.{out-Node}
use Rattle.index_tree.specs.Listing.{height}
use Rattle.index_tree.specs.Tree.{row}
use Rattle.index_tree.proofs.TreeLaws.{no_items}
use Rattle.index_tree.proofs.NodeList.{lowest-height, only_nodes}
use Rattle.index_tree.proofs.node.Node.+height.Goals as goal

pub returns-then-not-is_empty : goal.returns-then-not-is_empty
returns-then-not-is_empty t c =
    let n = c.args.self.now in
    let some : 0 < length (out-Node n).leaves.items = grind (arith, nat_tests, c.is_empty.ensures, c.if-not-is_empty.true, (out-Node n).leaves.ok.0) in
    let low = lowest-height n some in
    omega arith

pub returns-in-None : goal.returns-in-None
returns-in-None t c =
    let n = c.args.self.now in
    let none : length (out-Node n).leaves.items ≡ 0 = grind (arith, nat_tests, c.is_empty.ensures, c.if-not-is_empty.false, (out-Node n).leaves.ok.0) in
    let is = ap height (only_nodes n none) in
    let nothing = ap (λ v. height (row v)) (sym c.as_slice.ensures.value ∙ no_items c.as_slice.result.now c.in-None.ensures.cases) in
    omega (arith, is, nothing)

pub returns-in-Some : goal.returns-in-Some
returns-in-Some t c =
    let n = c.args.self.now in
    let none : length (out-Node n).leaves.items ≡ 0 = grind (arith, nat_tests, c.is_empty.ensures, c.if-not-is_empty.false, (out-Node n).leaves.ok.0) in
    let is = ap height (only_nodes n none) in
    let first = ap (λ v. height (row v)) (sym c.as_slice.ensures.value ∙ c.in-Some.ensures.cases.0) in
    omega (arith, is, first, c.height.ensures, c.saturating_add.ensures)
