use Rattle.std.proofs.Common.{◌≡◌, true, Option, IfSome, List, ℕ, ◌∙◌, subst}
use Rattle.ubifs_base.specs.RawOf.{raw_of}
use Rattle.ubi_volume.specs.Faults.{IsNotVolume}
use Rattle.bud_log.specs.KeepsOnLaws.{keeps_on_then}
use Rattle.bud_log.specs.LogText.{is_later}
use Rattle.bud_log.specs.Seen.{IsTaken}
use Rattle.bud_log.specs.declared.seen.Seen.{Seen}
use Rattle.bud_log.specs.RingRuns.{so_far_next}
use Rattle.bud_log.proofs.reading.read_on.Goals as goal

pub loop-lnum-preserved : goal.loop-lnum-preserved
loop-lnum-preserved g c =
    let a = g.V.Volume.state c.args.volume.now in
    let b = g.V.Volume.state c.loop-lnum.volume in
    let e = g.V.Volume.state c.read_later.new.volume in
    let lnum = c.loop-lnum.lnum in
    let seen = c.in-Some.seen in
    let now = c.loop-lnum.buds.items in
    let new = c.read_later.new.buds.items in
    let kept = c.loop-lnum.invariant.2 in
    let O : Option Seen → Type 0 = λ o. IfSome o (λ (s : Seen). IsTaken (b.holds lnum) lnum now new s × (is_later c.args.number s.begins ≡ true)) in
    let taken = subst O c.in-Some.is c.in_ok-seen.ensures.taken in
    let P : List ℕ → Type 0 = λ leb. IsTaken leb lnum now new seen in (
      so_far_next a.holds (raw_of c.args.geometry.now) c.args.from c.args.number lnum c.next_leb-lnum-in-loop-lnum.result c.args.first c.args.buds.now.items now new c.loop-lnum.last c.end_at-here.result c.loop-lnum.read c.read_past-read.result seen
          c.loop-lnum.invariant.0 c.loop-lnum-test.true (subst P (kept.keeps.holds lnum) taken.0) taken.1 c.end_at-here.ensures.lnum c.end_at-here.ensures.offs c.end_at-here.ensures.tail c.read_past-read.ensures.end c.read_past-read.ensures.sqnum c.next_leb-lnum-in-loop-lnum.ensures.next,
      c.next_leb-lnum-in-loop-lnum.ensures.ring,
      keeps_on_then a b e (IsNotVolume c.read_later.result) kept c.read_later.ensures.keeps c.read_later.ensures.shape c.in_ok-seen.ensures.cause c.read_later.ensures.sure,
      c.read_later.ensures.len ∙ c.loop-lnum.invariant.3,
    )
