use Rattle.std.proofs.Common.{◌≡◌, ◌∙◌, ℕ, List, Some, false, sym, refl, subst, arith}
use Rattle.ubifs_base.specs.RawOf.{raw_of}
use Rattle.ubi_volume.specs.VolumeLaws.{Keeps-then}
use Rattle.bud_log.specs.LogText.{BeginsCommit}
use Rattle.journal_check.specs.LogChecks.{IsAddedTo, IsFirstNewer, IsJudgedLog, IsOtherStart, IsReadWhole}
use Rattle.journal_check.specs.declared.log_verdict.LogVerdict.{LogVerdict}
use Rattle.journal_check.proofs.Calls.{same_contents}
use Rattle.journal_check.proofs.Judged.{judged, start_wrong}
use Rattle.journal_check.proofs.LogTexts.{first_read}
use Rattle.journal_check.proofs.log_check.judge_in.Goals as goal

pub returns-in-Err-clause-judged : goal.returns-in-Err-clause-judged
returns-in-Err-clause-judged g c =
    let a = g.V.Volume.state c.args.volume.now in
    let geo = raw_of c.args.geometry.now in
    let master = c.args.master.now in
    let from = master.log_lnum in
    let seen = c.in_ok-seen.seen in
    let added = c.in_ok-seen.ensures.added in
    let high = c.requires.ring.high in
    let lebs = c.requires.lebs in
    let P : List ℕ → Type 0 = λ leb. IsOtherStart leb from seen.begins master.cmt_no c.in-Err.at in
    start_wrong c.one_node.ensures c.one_text.ensures a.holds geo master added.text seen.begins c.in-Err.at (g.met.V.Volume.leb_bytes c.args.volume.now from (omega (arith, high, lebs))) added.is_text added.begins
    (subst P c.in_ok-seen.ensures.read c.in-Err.ensures.err)

pub read_on-requires-clause-begun : goal.read_on-requires-clause-begun
read_on-requires-clause-begun g c =
    let b = g.V.Volume.state c.read_first.new.volume in
    let geo = raw_of c.args.geometry.now in
    let from = c.args.master.now.log_lnum in
    let seen = c.in_ok-seen.seen in
    let fresh = c.nothing_read-read.result in
    let read = c.read_first.new.read in
    let P : List ℕ → Type 0 = λ leb. IsAddedTo geo leb from seen fresh read in
    first_read b.holds geo from c.in-Ok.number seen fresh read (record read { alone = false }) c.nothing_read-read.ensures.fresh (subst P (sym (c.read_first.ensures.keeps.holds from)) c.in_ok-seen.ensures.added) c.in-Ok.ensures.ok.0 refl

pub returns-in_err-newer-clause-keeps : goal.returns-in_err-newer-clause-keeps
returns-in_err-newer-clause-keeps g c =
    let a = g.V.Volume.state c.args.volume.now in
    let b = g.V.Volume.state c.read_first.new.volume in
    let d = g.V.Volume.state c.read_on.new.volume in
    let e = g.V.Volume.state c.first_newer.new.volume in
    Keeps-then a d e (Keeps-then a b d c.read_first.ensures.keeps c.read_on.ensures.keeps) c.first_newer.ensures.keeps

pub returns-clause-judged : goal.returns-clause-judged
returns-clause-judged g c =
    let a = g.V.Volume.state c.args.volume.now in
    let b = g.V.Volume.state c.read_first.new.volume in
    let d = g.V.Volume.state c.read_on.new.volume in
    let geo = raw_of c.args.geometry.now in
    let master = c.args.master.now in
    let from = master.log_lnum in
    let number = c.in-Ok.number in
    let seen = c.in_ok-seen.seen in
    let added = c.in_ok-seen.ensures.added in
    let read = c.read_on.new.read in
    let newer = c.in_ok-newer.newer in
    let high = c.requires.ring.high in
    let lebs = c.requires.lebs in
    let ba : b.holds ≡ a.holds = same_contents b.holds a.holds c.read_first.ensures.keeps.holds in
    let da : d.holds ≡ a.holds = same_contents d.holds b.holds c.read_on.ensures.keeps.holds ∙ ba in
    let P : (ℕ → List ℕ) → Type 0 = λ h. IsReadWhole h geo from number read in
    let Q : (ℕ → List ℕ) → Type 0 = λ h. IsFirstNewer h geo number read.lnums.items newer in
    let R : List ℕ → Type 0 = λ lnums. IsFirstNewer d.holds geo number lnums newer in
    let B : List ℕ → Type 0 = λ leb. BeginsCommit leb seen.begins (Some master.cmt_no) in
    let C : _ → Type 0 = λ begins. BeginsCommit (a.holds from) begins (Some master.cmt_no) in
    let V : LogVerdict → Type 0 = λ v. IsJudgedLog a.holds geo master v in
    subst V (sym c.verdict.ensures)
    (judged c.one_node.ensures c.one_text.ensures a.holds geo master number read newer added.text (g.met.V.Volume.leb_bytes c.args.volume.now from (omega (arith, high, lebs))) added.is_text
    (subst C added.begins (subst B c.in_ok-seen.ensures.read c.in-Ok.ensures.ok.1)) (subst P ba c.in_ok-read_on.ensures.read) (subst Q da (subst R c.deref.ensures.value c.in_ok-newer.ensures.first)))

pub returns-clause-keeps : goal.returns-clause-keeps
returns-clause-keeps g c =
    let a = g.V.Volume.state c.args.volume.now in
    let b = g.V.Volume.state c.read_first.new.volume in
    let d = g.V.Volume.state c.read_on.new.volume in
    let e = g.V.Volume.state c.first_newer.new.volume in
    Keeps-then a d e (Keeps-then a b d c.read_first.ensures.keeps c.read_on.ensures.keeps) c.first_newer.ensures.keeps
