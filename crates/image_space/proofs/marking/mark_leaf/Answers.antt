use Rattle.image_space.specs.declared.leb_use.LebUse.{LebUse}
use Rattle.std.proofs.Common.{◌≡◌, true, length, rules, arith}
use Rattle.image_space.proofs.Marked.{marked_none}
use Rattle.image_space.proofs.marking.mark_leaf.Goals as goal

pub returns-in_default : goal.returns-in_default
returns-in_default c =
    let len : length c.args.uses.now.items ≡ c.len.result = search rules in
    marked_none c.args.first c.args.leaf.lnum (λ (seen : LebUse). record seen { filled = true }) c.args.uses.now.items (λ at less. c.in_default.ensures.none at (omega (arith, less, len)))
