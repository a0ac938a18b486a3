use Rattle.std.proofs.Common.{◌≡◌, true, sym, ap, subst, ◌∙◌, refl, List, [], ◌∷◌, length, arith}
use Rattle.index_tree.specs.Order.{key_rank}
use Rattle.index_tree.specs.Shape.{first_rank}
use Rattle.index_tree.specs.Tree.{row, kept_all}
use Rattle.index_tree.proofs.TreeLaws.{kept_cons, kept_node}
use Rattle.index_tree.specs.declared.node.Node.{Node}
use Rattle.index_tree.proofs.node.first_of.Goals as goal

pub returns-in-Some : goal.returns-in-Some
returns-in-Some c =
    let e = c.in-Some.ensures.cases.0 in
    let P : List Node → Type 0 = λ v. kept_all v ≡ true in
    let k = kept_cons c.in-Some.one.now c.in-Some.field-0-1.now (subst P e c.requires) in
    (kept_node c.in-Some.one.now k.head).first_is ∙ sym (ap (λ v. first_rank (row v)) e)

none : (ns : List Node) → length ns ≡ 0 → 0 ≡ first_rank (row ns)
none [] h = refl
none (n ∷ ns) h = absurd (omega arith)

pub returns-in-None : goal.returns-in-None
unfolding key_rank
returns-in-None c = none c.args.nodes.now c.in-None.ensures.cases
