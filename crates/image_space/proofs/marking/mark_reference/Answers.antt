use Rattle.image_space.specs.declared.leb_use.LebUse.{LebUse}
use Rattle.std.proofs.Common.{◌≡◌, true, length, rules, arith}
use Rattle.std.specs.Prelude.{◌==◌, ◌||◌, not}
use Rattle.ubifs_base.specs.JournalHead.{head_number}
use Rattle.image_space.proofs.Marked.{marked_none}
use Rattle.image_space.proofs.marking.mark_reference.Goals as goal

pub returns-in_default : goal.returns-in_default
returns-in_default c =
    let len : length c.args.uses.now.items ≡ c.len.result = search rules in
    marked_none c.args.first c.args.reference.lnum (λ (seen : LebUse). record seen { named = true; for_others = seen.for_others || not (head_number c.args.reference.head == 0) }) c.args.uses.now.items (λ at less. c.in_default.ensures.none at (omega (arith, less, len)))
