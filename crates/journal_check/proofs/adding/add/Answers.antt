use Rattle.std.proofs.Common.{◌∙◌, ap, refl, arith, Option, ℕ}
use Rattle.ubifs_base.specs.RawOf.{raw_of}
use Rattle.journal_check.specs.LogChecks.{torn_behind}
use Rattle.journal_check.specs.declared.read_lebs.ReadLebs.{ReadLebs}
use Rattle.journal_check.proofs.Added.{added}
use Rattle.journal_check.proofs.adding.add.Goals as goal

pub returns : goal.returns
returns c =
    let old = c.args.read.now in
    let leb = c.args.leb.now in
    let new : ReadLebs = record { lnums = c.push.new.self; references = c.take_references.new.references; misnamed = c.sooner-read.result; torn = c.sooner-read-2.result; last = c.args.lnum; tail = c.args.seen.tail; alone = c.args.seen.alone } in
    added c.one_text.ensures (raw_of c.args.geometry.now) leb c.args.lnum c.args.seen old new c.take_references.new.references.items c.in_ok-misnamed.misnamed c.torn_behind.result (λ i. omega (arith, c.type_inv.leb i)) c.requires.seen c.in_ok-misnamed.ensures
    c.in_ok-push.ensures.items refl c.sooner-read.ensures (c.torn_behind.ensures ∙ ap (λ (o : Option ℕ). torn_behind old.tail c.args.lnum leb o) c.start_of.ensures) c.sooner-read-2.ensures refl refl refl
