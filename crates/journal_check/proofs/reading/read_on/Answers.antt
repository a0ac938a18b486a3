use Rattle.std.proofs.Common.{◌≡◌, ◌<◌, true, false, List, ℕ, ◌∙◌, subst, sym, inr, rules}
use Rattle.ubifs_base.specs.RawOf.{raw_of}
use Rattle.ubi_volume.specs.Faults.{IsNotVolume}
use Rattle.bud_log.specs.Writing.{IsOlder}
use Rattle.ubi_volume.specs.VolumeLaws.{Keeps-then}
use Rattle.bud_log.specs.KeepsOnLaws.{keeps_on_then}
use Rattle.bud_log.specs.RingRuns.{fewer_left, lebs_left_of}
use Rattle.journal_check.specs.LogChecks.{IsAddedTo, IsReadUpTo}
use Rattle.journal_check.specs.declared.read_lebs.ReadLebs.{ReadLebs}
use Rattle.journal_check.proofs.LogTexts.{all_read, next_read}
use Rattle.journal_check.proofs.reading.read_on.Goals as goal

pub loop-lnum-preserved : goal.loop-lnum-preserved
loop-lnum-preserved g c =
    let a = g.V.Volume.state c.args.volume.now in
    let b = g.V.Volume.state c.loop-lnum.volume in
    let e = g.V.Volume.state c.read_later.new.volume in
    let geo = raw_of c.args.geometry.now in
    let lnum = c.loop-lnum.lnum in
    let kept = c.loop-lnum.invariant.2 in
    let is_later : c.in_ok-later.later ≡ true = search rules in
    let added = c.in_ok-later.ensures.added is_later in
    let P : List ℕ → Type 0 = λ leb. IsAddedTo geo leb lnum added.0 c.loop-lnum.read c.read_later.new.read in (
      next_read a.holds geo c.args.from c.args.number lnum c.next_leb-lnum-in-loop-lnum.result added.0 c.loop-lnum.read c.read_later.new.read c.loop-lnum.invariant.0 c.loop-lnum-test.true (subst P (kept.keeps.holds lnum) added.1) added.2 c.next_leb-lnum-in-loop-lnum.ensures.next,
      c.next_leb-lnum-in-loop-lnum.ensures.ring,
      keeps_on_then a b e (IsNotVolume c.read_later.result) kept c.read_later.ensures.keeps c.read_later.ensures.shape c.in_ok-later.ensures.cause c.read_later.ensures.sure,
      c.read_later.ensures.len ∙ c.loop-lnum.invariant.3,
    )

pub returns-then-not-later-clause-read : goal.returns-then-not-later-clause-read
returns-then-not-later-clause-read g c =
    let a = g.V.Volume.state c.args.volume.now in
    let geo = raw_of c.args.geometry.now in
    let lnum = c.loop-lnum.lnum in
    let kept = c.loop-lnum.invariant.2 in
    let not_later : c.in_ok-later.later ≡ false = search rules in
    let passed = c.in_ok-later.ensures.passed not_later in
    let P : List ℕ → Type 0 = λ leb. IsOlder c.args.number lnum leb in
    let Q : ReadLebs → Type 0 = λ read. IsReadUpTo a.holds geo c.args.from c.args.number lnum read in
    all_read a.holds geo c.args.from c.args.number lnum c.read_later.new.read (subst Q (sym passed.1) c.loop-lnum.invariant.0) (inr (subst P (kept.keeps.holds lnum) passed.0))

pub returns-then-not-later-clause-keeps : goal.returns-then-not-later-clause-keeps
returns-then-not-later-clause-keeps g c =
    let a = g.V.Volume.state c.args.volume.now in
    let b = g.V.Volume.state c.loop-lnum.volume in
    let e = g.V.Volume.state c.read_later.new.volume in
    let kept = c.loop-lnum.invariant.2 in
    Keeps-then a b e kept.keeps c.read_later.ensures.keeps

pub loop-lnum-smaller : goal.loop-lnum-smaller
loop-lnum-smaller g c =
    let geo = raw_of c.args.geometry.now in
    let P : ℕ → Type 0 = λ n. lebs_left_of geo c.args.from n < lebs_left_of geo c.args.from c.loop-lnum.lnum in
    subst P (sym c.next_leb-lnum-in-loop-lnum.ensures.next) (fewer_left geo c.args.from c.loop-lnum.lnum c.requires.ring c.loop-lnum.invariant.1 c.loop-lnum-test.true)
