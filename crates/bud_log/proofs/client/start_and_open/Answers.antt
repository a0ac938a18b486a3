use Rattle.std.proofs.Common.{ℕ, inr, refl, ap, sym, subst}
use Rattle.bud_log.specs.Buds.{named_also, buds_of}
use Rattle.bud_log.specs.LogAt.{LogAt, references_to}
use Rattle.bud_log.specs.Writing.{AreOthersOlder, IsLogReady}
use Rattle.bud_log.proofs.client.start_and_open.Goals as goal

pub returns-clause-ready : goal.returns-clause-ready
returns-clause-ready g c =
    let e = g.V.Volume.state c.open_bud.new.volume in
    let section = c.start_section.new.self.section in
    let after = c.open_bud.new.self in
    let buds = buds_of (references_to c.args.heads.now) in
    let done = c.in-Ok-open_bud.ensures.done section buds (inr refl) (c.in-Ok.ensures.section c.requires.older) in
    let R : ℕ → Type 0 = λ n. IsLogReady e after.geo n after.lnum after.offs c.open_bud.new.sqnum (named_also buds (record { lnum = c.args.lnum; offs = 0; head = c.args.head })) in
    subst R (sym (ap (λ (z : LogAt). z.section) c.in-Ok-open_bud.ensures.opened.moved)) done

pub returns-clause-stands : goal.returns-clause-stands
returns-clause-stands g c =
    let a = g.V.Volume.state c.args.volume.now in
    let at = c.args.log.now in
    let started = c.in-Ok.ensures.started in
    let S : ℕ → Type 0 = λ n. AreOthersOlder a at.geo n c.args.sqnum.now in
    let section = started.section (subst S (sym (ap (λ (z : LogAt). z.section) started.moved)) c.requires.older) in
    c.in-Ok-open_bud.ensures.opened.section c.start_section.new.sqnum c.args.sqnum.now (buds_of (references_to c.args.heads.now)) (c.in-Ok.ensures.section c.requires.older) section
