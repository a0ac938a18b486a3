use Rattle.std.proofs.Common.{sym, ap, ◌∙◌, None}
use Rattle.std.specs.Prelude.{unwrap_or}
use Rattle.plain_backing.proofs.Seen.{lookup-seen}
use Rattle.plain_backing.proofs.cell.held.Goals as goal

pub returns-in-Some : goal.returns-in-Some
returns-in-Some g c = c.as_ref.ensures.value ∙ ap (λ o. unwrap_or o None) c.in-Some.ensures.value ∙ sym (lookup-seen g.met.K.Ord.total c.args.map.now.entries c.args.key.now c.len-len.ensures.ordered)

pub returns-in-None : goal.returns-in-None
returns-in-None g c = ap (λ o. unwrap_or o None) c.in-None.ensures.value ∙ sym (lookup-seen g.met.K.Ord.total c.args.map.now.entries c.args.key.now c.len-len.ensures.ordered)
