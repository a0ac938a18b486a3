use Rattle.std.proofs.Common.{◌≡◌, ◌+◌, ◌<◌, ◌≤◌, ◌∙◌, ℕ, List, Option, true, false, ap, sym, subst, length, rules, arith}
use Rattle.std.specs.Prelude.{◌==◌, IsOk}
use Rattle.std.specs.List.{list_any}
use Rattle.ubifs_base.specs.Areas.{lpt_first}
use Rattle.ubifs_base.specs.RawOf.{raw_of}
use Rattle.bud_log.specs.KeepsOnLaws.{KeepsOn, keeps_on_then}
use Rattle.bud_log.specs.Seen.{IsSeen}
use Rattle.image_check.specs.WrongValues.{sooner_of}
use Rattle.image_check.specs.declared.wrong_value.WrongValue.{WrongValue}
use Rattle.journal_check.proofs.NewerLebs.{IsNewerSoFar, newer_all, newer_next, newer_skip}
use Rattle.journal_check.proofs.newer.first_newer.Goals.{then-not-is_among+in_ok-seen, else-not-is_among}
use Rattle.journal_check.proofs.newer.first_newer.Goals as goal

pub loop-lnum-preserved : goal.loop-lnum-preserved
loop-lnum-preserved g c =
    let a = g.V.Volume.state c.args.volume.now in
    let b = g.V.Volume.state c.loop-lnum.volume in
    let geo = raw_of c.args.geometry.now in
    let lnum = c.loop-lnum.lnum in
    let lnums = c.args.lnums.now in
    let inv = c.loop-lnum.invariant in
    let low : 3 ≤ lnum = inv.1 in
    let end = inv.2 in
    let kept = inv.3 in
    let lebs = c.requires.lebs in
    let less : lnum < c.lpt_first-lnum-end.result = search rules in
    let high : lnum < lpt_first geo = omega (arith, less, end) in
    let next : 3 ≤ lnum + 1 = omega (arith, low) in
    elim c.if-not-is_among.branch [
      | then-not-is_among+in_ok-seen w ↦
          let e = g.V.Volume.state w.read_seen.new.volume in
          let not : list_any (λ k. k == lnum) lnums ≡ false = sym c.is_among.ensures ∙ w.if-not-is_among.true in
          let first : c.if-not-is_among.first ≡ sooner_of c.loop-lnum.first w.newer_at.result = (let x = w.first-is in let y = w.sooner-first.ensures in cc) in
          let vol : w.read_seen.new.volume ≡ c.if-not-is_among.volume = (let x = w.volume-is in cc) in
          let len : c.if-not-is_among.leb ≡ w.read_seen.new.leb = (let x = w.leb-is in cc) in
          let P : List ℕ → Type 0 = λ leb. IsSeen leb w.in_ok-seen.seen in
          let Q : _ → Type 0 = λ v. KeepsOn a (g.V.Volume.state v) in (
            newer_next c.one_node.ensures c.one_text.ensures a.holds geo c.args.number lnums lnum c.loop-lnum.first w.newer_at.result c.if-not-is_among.first w.in_ok-seen.seen (g.met.V.Volume.leb_bytes c.args.volume.now lnum (omega (arith, high, lebs)))
                (record { low = low; high = high }) not (subst P (kept.keeps.holds lnum) w.in_ok-seen.ensures.seen) w.newer_at.ensures first inv.0,
            next,
            end,
            subst Q vol (keeps_on_then a b e (IsOk w.read_seen.result) kept w.read_seen.ensures.keeps w.read_seen.ensures.shape w.in_ok-seen.ensures.cause w.read_seen.ensures.sure),
            ap length len ∙ w.read_seen.ensures.len ∙ inv.4,
          )
      | else-not-is_among w ↦
          let is : list_any (λ k. k == lnum) lnums ≡ true = sym c.is_among.ensures ∙ w.if-not-is_among.false in
          let first : c.loop-lnum.first ≡ c.if-not-is_among.first = (let x = w.first-is in cc) in
          let vol : c.loop-lnum.volume ≡ c.if-not-is_among.volume = (let x = w.volume-is in cc) in
          let len : c.if-not-is_among.leb ≡ c.loop-lnum.leb = (let x = w.leb-is in cc) in
          let P : Option WrongValue → Type 0 = λ o. IsNewerSoFar a.holds geo c.args.number lnums (lnum + 1) o in
          let Q : _ → Type 0 = λ v. KeepsOn a (g.V.Volume.state v) in
          (subst P first (newer_skip a.holds geo c.args.number lnums lnum c.loop-lnum.first is inv.0), next, end, subst Q vol kept, ap length len ∙ inv.4)
    ]

pub returns-clause-first : goal.returns-clause-first
returns-clause-first g c =
    let a = g.V.Volume.state c.args.volume.now in
    let geo = raw_of c.args.geometry.now in
    let lnum = c.loop-lnum.lnum in
    let end = c.loop-lnum.invariant.2 in
    let past : c.lpt_first-lnum-end.result ≤ lnum = search rules in
    newer_all a.holds geo c.args.number c.args.lnums.now lnum c.loop-lnum.first (omega (arith, past, end)) c.loop-lnum.invariant.0
