use Rattle.std.proofs.Common.{◌≡◌, ℕ, None, List, rules, refl, sym, ◌∙◌, subst}
use Rattle.ubifs_base.specs.RawOf.{raw_of}
use Rattle.ubi_volume.specs.VolumeLaws.{Keeps-then}
use Rattle.bud_log.specs.Log.{Log, IsLog}
use Rattle.bud_log.specs.LogText.{start_of, BeginsCommit}
use Rattle.bud_log.specs.Seen.{IsTaken}
use Rattle.bud_log.specs.declared.head_at.HeadAt.{HeadAt}
use Rattle.bud_log.specs.declared.read_to.ReadTo.{ReadTo}
use Rattle.bud_log.specs.RingRuns.{log_alone, log_further, read_moved}
use Rattle.bud_log.proofs.reading.read_from.Goals as goal

pub returns-in_default-clause-log : goal.returns-in_default-clause-log
returns-in_default-clause-log g c =
    let a = g.V.Volume.state c.args.volume.now in
    let geo = raw_of c.args.geometry.now in
    let from = c.args.from in
    let seen = c.in_ok-seen.seen in
    let new = c.read_text.new.buds.items in
    let end = c.end_at-end.result in
    let commit = c.commit_of-commit.result in
    let P : List HeadAt → Type 0 = λ old. IsTaken (a.holds from) from old new seen in
    let B : List ℕ → Type 0 = λ leb. BeginsCommit leb seen.begins commit in
    let Q : Log → Type 0 = λ log. IsLog a.holds geo from log in
    let none : start_of seen.begins ≡ None = search rules in
    subst Q (sym c.log_to.ensures)
    (log_alone a.holds geo from commit seen new end (subst B c.in_ok-seen.ensures.read c.commit_of-commit.ensures) (subst P c.new-buds.ensures.items c.in_ok-seen.ensures.taken) none
    c.end_at-end.ensures.lnum c.end_at-end.ensures.offs c.end_at-end.ensures.tail)

pub returns-clause-log : goal.returns-clause-log
returns-clause-log g c =
    let a = g.V.Volume.state c.args.volume.now in
    let b = g.V.Volume.state c.read_text.new.volume in
    let geo = raw_of c.args.geometry.now in
    let from = c.args.from in
    let seen = c.in_ok-seen.seen in
    let now = c.read_text.new.buds.items in
    let new = c.read_on.new.buds.items in
    let first : ReadTo = record { end = c.end_at-end.result; sqnum = seen.sqnum } in
    let read = c.in_ok-read.read in
    let P : List HeadAt → Type 0 = λ old. IsTaken (a.holds from) from old now seen in
    let Q : Log → Type 0 = λ log. IsLog a.holds geo from log in
    let commit = c.commit_of-commit.result in
    let B : List ℕ → Type 0 = λ leb. BeginsCommit leb seen.begins commit in
    let on = read_moved b.holds a.holds geo from c.in-Some.number first now new read c.read_text.ensures.keeps.holds c.in_ok-read.ensures.read in
    subst Q (sym c.log_to-2.ensures)
    (log_further a.holds geo from c.in-Some.number commit seen now new first read (subst B c.in_ok-seen.ensures.read c.commit_of-commit.ensures) (subst P c.new-buds.ensures.items c.in_ok-seen.ensures.taken) (sym c.start_of.ensures ∙ c.in-Some.is)
    c.end_at-end.ensures.lnum c.end_at-end.ensures.offs c.end_at-end.ensures.tail refl on)

pub returns-clause-keeps : goal.returns-clause-keeps
returns-clause-keeps g c =
    let a = g.V.Volume.state c.args.volume.now in
    let b = g.V.Volume.state c.read_text.new.volume in
    let e = g.V.Volume.state c.read_on.new.volume in
    Keeps-then a b e c.read_text.ensures.keeps c.read_on.ensures.keeps
