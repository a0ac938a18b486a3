use Rattle.std.proofs.Common.{◌≡◌, ℕ, ◌-◌, zero, suc, nat_le, nat_lt, true, ◌&&◌, sym, ap, subst, ◌∙◌, List, arith}
use Rattle.std.proofs.lemmas.Bool.Decides.{nat_tests}
use Rattle.index_tree.specs.Order.{key_rank}
use Rattle.index_tree.specs.Shape.{filled, begins_within}
use Rattle.index_tree.specs.Tree.{row, kept_all}
use Rattle.index_tree.proofs.TreeLaws.{kept_cons, row-begins}
use Rattle.index_tree.specs.declared.node.Node.{Node}
use Rattle.index_tree.specs.declared.node.Node.TheViews.{out-Node}
use Rattle.index_tree.proofs.node.begins_below.Goals as goal

-- below a rank is within the one before it
lower : (rank at : ℕ) → nat_lt rank at ≡ (nat_lt 0 at && nat_le rank (at - 1))
lower rank zero = grind (arith, nat_tests)
lower rank (suc at) = grind (arith, nat_tests)

pub returns-in-Some : goal.returns-in-Some
returns-in-Some c =
    let e = c.in-Some.ensures.cases.0 in
    let one = c.in-Some.one.now in
    let rest = c.in-Some.field-0-1.now in
    let P : List Node → Type 0 = λ v. kept_all v ≡ true in
    let F : List Node → Type 0 = λ v. filled (row v) ≡ true in
    let k = kept_cons one rest (subst P e c.requires.first_keys) in
    let here = row-begins (c.args.at - 1) one rest k.head (subst F e c.requires.sound) in
    let same = ap (λ v. begins_within (c.args.at - 1) (row v)) e ∙ here in
    ap (λ n. nat_lt n c.args.at) c.rank.ensures ∙ lower (key_rank (out-Node one).first) c.args.at ∙ sym (ap (λ v. nat_lt 0 c.args.at && v) same)
