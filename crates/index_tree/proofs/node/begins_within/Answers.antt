use Rattle.std.proofs.Common.{◌≡◌, true, nat_le, sym, ap, subst, ◌∙◌, List}
use Rattle.index_tree.specs.Shape.{filled, begins_within}
use Rattle.index_tree.specs.Tree.{row, kept_all}
use Rattle.index_tree.proofs.TreeLaws.{kept_cons, row-begins}
use Rattle.index_tree.specs.declared.node.Node.{Node}
use Rattle.index_tree.proofs.node.begins_within.Goals as goal

pub returns-in-Some : goal.returns-in-Some
returns-in-Some c =
    let e = c.in-Some.ensures.cases.0 in
    let one = c.in-Some.one.now in
    let rest = c.in-Some.field-0-1.now in
    let P : List Node → Type 0 = λ v. kept_all v ≡ true in
    let F : List Node → Type 0 = λ v. filled (row v) ≡ true in
    let k = kept_cons one rest (subst P e c.requires.first_keys) in
    ap (λ n. nat_le n c.args.at) c.rank.ensures ∙ sym (row-begins c.args.at one rest k.head (subst F e c.requires.sound)) ∙ sym (ap (λ v. begins_within c.args.at (row v)) e)
