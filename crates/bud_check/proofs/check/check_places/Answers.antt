use Rattle.std.proofs.Common.{List, sym, subst, ◌∙◌, arith}
use Rattle.std.specs.List.{AllByRecursion}
use Rattle.ubifs_base.specs.RawOf.{raw_of}
use Rattle.journal_scan.specs.Journal.{IsReadable}
use Rattle.journal_scan.specs.declared.bud_text.BudText.{BudText}
use Rattle.bud_check.proofs.SoundBuds.{buds_broken, buds_met, readable}
use Rattle.bud_check.proofs.check.check_places.Goals as goal

pub judge-requires : goal.judge-requires
judge-requires g c =
    let old = g.V.Volume.state c.args.volume.now in
    let count = c.requires.geometry.leb_cnt in
    let size = c.args.geometry.now.in_range.leb_size.1 in
    let R : List BudText → Type 0 = λ ts. AllByRecursion IsReadable ts in
    subst R (sym (c.deref.ensures.value ∙ c.in-Ok.ensures.texts))
    (readable (raw_of c.args.geometry.now) old.holds c.args.buds.now (λ lnum less. g.met.V.Volume.leb_len c.args.volume.now lnum (omega (arith, less, count)) ∙ sym c.requires.geometry.leb_size) (omega (arith, size)) c.requires.buds)

pub returns-in-Ok-clause-met : goal.returns-in-Ok-clause-met
returns-in-Ok-clause-met g c =
    let old = g.V.Volume.state c.args.volume.now in
    buds_met old.holds c.args.buds.now c.deref.result.now c.judge.result (c.deref.ensures.value ∙ c.in-Ok.ensures.texts) c.judge.ensures.met

pub returns-in-Ok-clause-broken : goal.returns-in-Ok-clause-broken
returns-in-Ok-clause-broken g c =
    let old = g.V.Volume.state c.args.volume.now in
    buds_broken old.holds c.args.buds.now c.deref.result.now c.judge.result (c.deref.ensures.value ∙ c.in-Ok.ensures.texts) c.judge.ensures.broken
