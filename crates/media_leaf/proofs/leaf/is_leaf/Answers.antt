use Rattle.std.proofs.Common.{◌∙◌, sym, arith}
use Rattle.media_leaf.proofs.LeafTest.{is_some_leaf, leaf_passes}
use Rattle.media_leaf.proofs.leaf.is_leaf.Goals as goal

pub returns : goal.returns
returns c =
    let kind = c.args.kind in
    let body = c.args.body.now in
    (λ h. is_some_leaf kind body (λ i. omega (arith, c.type_inv.body i)) (sym c.passes_a_test.ensures ∙ h), λ h. c.passes_a_test.ensures ∙ leaf_passes kind body h)
