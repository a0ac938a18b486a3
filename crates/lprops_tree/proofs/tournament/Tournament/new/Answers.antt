use Rattle.std.proofs.Common.{◌*◌, drop, replicate, ap, ◌∙◌, arith}
use Rattle.std.proofs.lemmas.List.{drop-replicate}
use Rattle.lprops_tree.specs.Tournament.{nobody}
use Rattle.lprops_tree.proofs.tournament.Tournament.new.Goals as goal

pub returns : goal.returns
returns c =
    ap (drop c.args.count) (c.in_ok-vec.ensures.items_if_clones_equal (λ y e. e))
    ∙ (drop-replicate c.args.count (2 * c.args.count) nobody ∙ ap (λ n. replicate n nobody) (omega arith))
