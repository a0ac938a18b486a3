use Rattle.std.proofs.Common.{sym, ap, ◌∙◌, None}
use Rattle.std.specs.Prelude.{unwrap_or}
use Rattle.std.specs.BTreeMap.{is_at}
use Rattle.plain_backing.proofs.Seen.{lookup-seen, put-absent}
use Rattle.plain_backing.proofs.cell.put.Goals as goal

pub returns-in-Some-clause-old : goal.returns-in-Some-clause-old
returns-in-Some-clause-old g c =
    c.replace.ensures.value ∙ ap (λ o. unwrap_or o None) c.in-Some.ensures.value ∙ sym (lookup-seen g.met.K.Ord.total c.args.map.now.entries c.args.key.now c.get_mut.ensures.ordered)

pub returns-in-None-clause-cells : goal.returns-in-None-clause-cells
returns-in-None-clause-cells g c =
    ap (λ m. m.entries) c.get_mut.follows.holds-at-none ∙ sym (put-absent (is_at (g.K.Ord.cmp c.args.key.now)) c.args.map.now.entries c.args.value (sym c.in-None.ensures.value))

pub returns-in-None-clause-old : goal.returns-in-None-clause-old
returns-in-None-clause-old g c =
    ap (λ o. unwrap_or o None) c.in-None.ensures.value ∙ sym (lookup-seen g.met.K.Ord.total c.args.map.now.entries c.args.key.now c.get_mut.ensures.ordered)
