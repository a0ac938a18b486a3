use Rattle.std.proofs.Common.{ap, subst, ◌<◌, ◌^◌, ℕ, sym, ◌∙◌}
use Rattle.ubifs_base.specs.Key.{IsKey}
use Rattle.ubifs_base.specs.R5.{r5_of}
use Rattle.index_tree.specs.declared.leaf.Leaf.{Leaf}
use Rattle.group_nodes.specs.FitLaws.{r5_small}
use Rattle.log_replay.proofs.application.set_name.Goals as goal

pub put-requires : goal.put-requires
put-requires c =
    let small : c.r5-hash.result < 2 ^ 29 = subst (λ (n : ℕ). n < 2 ^ 29) (sym (c.r5-hash.ensures ∙ ap r5_of c.as_slice.ensures)) (r5_small c.args.name) in
    subst (λ (x : Leaf). IsKey x.key) (sym c.at_place-leaf.ensures) (c.ranges.dir.fits, small)
