use Rattle.std.proofs.Common.{◌≡◌, Option, Some, None, refl, sym, ap, ◌∙◌}
use Rattle.std.specs.Prelude.{unwrap_or}
use Rattle.std.specs.Option.{option_flatten}
use Rattle.plain_backing.proofs.Seen.{lookup-seen}
use Rattle.plain_backing.proofs.cell.insert.Goals as goal

flat : {V : Type 0} (o : Option (Option V)) → option_flatten o ≡ unwrap_or o None
flat None = refl
flat (Some held) = refl

pub returns-in-Ok-clause-old : goal.returns-in-Ok-clause-old
returns-in-Ok-clause-old g c =
    c.flatten.ensures ∙ flat c.in-Ok.old ∙ ap (λ o. unwrap_or o None) c.in-Ok.ensures.old ∙ sym (lookup-seen g.met.K.Ord.total c.args.map.now.entries c.args.key c.insert.ensures.was_ordered)
