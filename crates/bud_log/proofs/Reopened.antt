-- A log is opened again behind an unmount.
use Rattle.std.proofs.Common.{◌≡◌, ℕ, List, inr, ap, ◌∙◌, sym, subst, arith}
use Rattle.ubifs_base.specs.NodeLaws.{IsBytes}
use Rattle.ubifs_base.specs.declared.raw_geometry.RawGeometry.{RawGeometry}
use Rattle.ubi_volume.specs.Volume.{VolumeState}
use Rattle.bud_log.specs.AfterCut.{OpensReady, log_opened_at}
use Rattle.bud_log.specs.HeldLaws.{IsReady-unmounted}
use Rattle.bud_log.specs.Log.{Log, IsLogLeb, log_of}
use Rattle.bud_log.specs.LogAnswers.{IsSection}
use Rattle.bud_log.specs.LogAt.{LogAt, IsAt}
use Rattle.bud_log.specs.RingRuns.{OneLebText}
use Rattle.bud_log.specs.Writing.{offs_behind, IsLogReady}
use Rattle.bud_log.specs.declared.head_at.HeadAt.{HeadAt}
use Rattle.bud_log.specs.declared.log_end.LogEnd.{LogEnd}
use Rattle.bud_log.specs.declared.log_read.LogRead.{LogRead}

-- What was read is opened where a call may write, and is ready for a number above the greatest that was read. It goes on in the same LEB.
pub reopened : OneLebText → (a b : VolumeState) (at : LogAt) (geo : RawGeometry) (number low : ℕ) (buds : List HeadAt) (read : LogRead) → at.geo ≡ geo → IsLogReady a at.geo at.section at.lnum at.offs number buds → IsAt a at → IsSection a at low
    → ((k : ℕ) → IsLogLeb at.geo k → IsBytes (a.holds k)) → ((k : ℕ) → IsLogLeb at.geo k → a.left_now k (a.holds k)) → OpensReady a b geo at.section read
    → let now : LogAt = log_opened_at geo at.section (log_of read).ends in
    IsAt b now × IsLogReady b now.geo now.section now.lnum now.offs read.sqnum buds × (now.lnum ≡ at.lnum)
reopened one a b at geo number low buds read same h is_at section fits held opens =
    let O : RawGeometry → Type 0 = λ z. OpensReady a b z at.section read in
    let G : RawGeometry → Type 0 = λ z. let now : LogAt = log_opened_at z at.section (log_of read).ends in IsAt b now × IsLogReady b now.geo now.section now.lnum now.offs read.sqnum buds × (now.lnum ≡ at.lnum) in
    let r = IsReady-unmounted one a at number low buds h is_at section fits held in
    let o = (subst O (sym same) opens) number r.0 r.1 in
    let now : LogAt = log_opened_at at.geo at.section (log_of read).ends in
    let B : List HeadAt → Type 0 = λ bs. IsLogReady b now.geo now.section now.lnum now.offs read.sqnum bs in
    let named : read.buds.items ≡ buds = ap (λ (l : Log). l.buds) o.0 ∙ r.2 in
    let lnum : (log_of read).ends.lnum ≡ at.lnum = ap (λ (l : Log). l.ends.lnum) o.0 ∙ r.4 in
    subst G same (o.2 is_at.leb_size is_at.min_io r.3, subst B named (o.1 read.sqnum (inr (omega arith))), lnum)

-- opened with these parts
pub opened_is : (geo : RawGeometry) (from section offs : ℕ) (ends : LogEnd) → from ≡ section → offs ≡ offs_behind geo ends
    → let at : LogAt = record { geo = geo; first = from; section = from; lnum = ends.lnum; offs = offs } in
    at ≡ log_opened_at geo section ends
opened_is geo from section offs ends same place =
    let O : ℕ → ℕ → LogAt = λ m n. record { geo = geo; first = m; section = m; lnum = ends.lnum; offs = n } in
    ap (λ (m : ℕ). O m offs) same ∙ ap (O section) place
