use Rattle.std.proofs.Common.{arith}
use Rattle.bud_log.specs.KeepsOnLaws.{on_ok}
use Rattle.bud_log.specs.Seen.{AreNamed, IsTaken}
use Rattle.bud_log.specs.RingRuns.{text_taken_of}
use Rattle.bud_log.proofs.reading.take.Goals as goal

pub returns : goal.returns
returns c =
    let leb = c.args.leb.now in
    let old = c.args.buds.now.items in
    let new = c.name_buds.new.buds.items in
    on_ok c.name_buds.result (AreNamed leb old new) (IsTaken leb c.args.lnum old new c.args.seen) (λ h. text_taken_of c.one_text.ensures leb c.args.lnum old new c.args.seen (λ i. omega (arith, c.type_inv.leb i)) c.requires.seen h) c.name_buds.ensures
