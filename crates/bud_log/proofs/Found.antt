-- A log that was read of a volume that holds one.
use Rattle.std.proofs.Common.{◌≡◌, ◌⊎◌, ℕ, ◌≤◌, List, length, Result, Ok, Err, IfOk, sym, ◌∙◌, subst, arith}
use Rattle.ubifs_base.specs.Areas.{lpt_first}
use Rattle.ubifs_base.specs.Geometry.{IsGeometry}
use Rattle.ubifs_base.specs.NodeLaws.{IsBytes}
use Rattle.ubifs_base.specs.declared.raw_geometry.RawGeometry.{RawGeometry}
use Rattle.ubi_volume.specs.Volume.{VolumeState, SameShape, Keeps}
use Rattle.ubi_volume.specs.declared.fault.AreaFault.{AreaFault}
use Rattle.bud_log.specs.AfterCut.{log_opened_at, OpensReady}
use Rattle.bud_log.specs.AfterCutLaws.{IsHeldLog-opens, IsHeldLog-next}
use Rattle.bud_log.specs.Log.{IsLogLeb, Log, IsLog, log_of}
use Rattle.bud_log.specs.LogAt.{LogAt, IsAt}
use Rattle.bud_log.specs.LogLaws.{IsReady-same}
use Rattle.bud_log.specs.OpenedLaws.{IsHeldLog-at}
use Rattle.bud_log.specs.Writing.{offs_behind, IsLogReady}
use Rattle.bud_log.specs.declared.log_read.LogRead.{LogRead}

-- contents are at most one log
abbrev pub OneLog : Type 0
OneLog = (contents : ℕ → List ℕ) (geo : RawGeometry) (from : ℕ) (a b : Log) → IsLogLeb geo from → ((k : ℕ) → IsLogLeb geo k → IsBytes (contents k)) → IsLog contents geo from a → IsLog contents geo from b → a ≡ b

at_still : (old new : VolumeState) (at : LogAt) → SameShape old new → Keeps old new → IsAt old at → IsAt new at
at_still old new at shape keeps h =
    let lebs = h.lebs in
    let cnt = shape.leb_cnt in
    let is_open = h.is_open in
    let same = keeps.written at.lnum in
    record {
      leb_size = h.leb_size ∙ sym shape.leb_size;
      min_io = h.min_io ∙ sym shape.min_io;
      lebs = omega (arith, lebs, cnt);
      first = h.first;
      section = h.section;
      here = h.here;
      on_the_way = h.on_the_way;
      within = h.within;
      unit = h.unit;
      is_open = omega (arith, is_open, same);
    }

-- what is asked of a volume that is read, and what reading does to it
pub record IsReading (old new : VolumeState) (geo : RawGeometry) (from : ℕ) : Type 0 where
  pub geometry : IsGeometry geo
  pub ring : IsLogLeb geo from
  pub lebs : lpt_first geo ≤ old.leb_cnt
  pub bytes : (k : ℕ) → IsLogLeb geo k → IsBytes (old.holds k)
  pub long : (k : ℕ) → IsLogLeb geo k → length (old.holds k) ≡ old.leb_size
  pub shape : SameShape old new
  pub keeps : Keeps old new

-- so what was read is what it holds
opens_ready : OneLog → (old new : VolumeState) (geo : RawGeometry) (from : ℕ) (read : LogRead) → IsReading old new geo from → IsLog old.holds geo from (log_of read) → OpensReady old new geo from read
opens_ready one old new geo from read r is = λ number log held.
    let lebs = r.lebs in
    let keeps = r.keeps in
    let e = one old.holds geo from log (log_of read) r.ring r.bytes held.ready.is_log is in
    let A : Log → Type 0 = λ l. IsAt old (log_opened_at geo from l.ends) in (
      sym e,
      λ next most.
          let P : Log → Type 0 = λ l. IsLogReady old geo from l.ends.lnum (offs_behind geo l.ends) next l.buds in
          let N : Log → Type 0 = λ l. (number ≤ next) ⊎ (l.sqnum ≤ next) in
          IsReady-same old new geo from read.lnum (offs_behind geo (log_of read).ends) next read.buds.items r.ring
          (λ k in_log. record { holds = keeps.holds k; written = keeps.written k; left = λ c. (keeps.left k c).0; mapped = λ c. (keeps.left_mapped k c).0 })
          (subst P e (IsHeldLog-opens old geo from next log r.geometry (IsHeldLog-next old geo from number next log (subst N (sym e) most) held))),
      λ size unit is_open. at_still old new (log_opened_at geo from (log_of read).ends) r.shape keeps (subst A e (IsHeldLog-at old geo from number log r.geometry r.ring lebs size unit r.long held is_open)),
    )

-- whatever is answered
pub opens_result : OneLog → (old new : VolumeState) (geo : RawGeometry) (from : ℕ) (result : Result LogRead AreaFault) → IsReading old new geo from → IfOk result (λ (read : LogRead). IsLog old.holds geo from (log_of read)) → IfOk result (OpensReady old new geo from)
opens_result one old new geo from (Ok read) r is = opens_ready one old new geo from read r is
opens_result one old new geo from (Err fault) r is = tt
