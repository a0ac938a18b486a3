-- What a session promised has room.
use Rattle.std.proofs.Common.{ℕ, Bool, refl, ap, subst}
use Rattle.ubifs_base.specs.declared.raw_geometry.RawGeometry.{RawGeometry}
use Rattle.ubifs_base.specs.Areas.{main_lebs}
use Rattle.buffered_files.specs.declared.kept.Kept.{Kept}
use Rattle.buffered_files.specs.Present.{IsKept}
use Rattle.plain_backing.specs.declared.backing.PlainBacking.{PlainBacking}
use Rattle.plain_backing.specs.Covering.{IsCovering}
use Rattle.plain_backing.specs.PlainBacking.{backing_state_of}
use Rattle.script_run.specs.declared.session.Session.{Session}
use Rattle.script_run.specs.Run.{IsScriptCovered, ScriptRunning}
use Rattle.script_run.specs.Sessions.{IsSession, IsSteady, mounted_over, running_of}

-- what is promised over a backing of which no call fails
abbrev pub steady_covers : (geo : RawGeometry) (backing : PlainBacking) (kept : Kept) (now : ℕ) → IsKept (backing_state_of backing).tree kept → IsSteady geo backing kept → IsScriptCovered geo (mounted_over backing kept now)
steady_covers geo backing kept now fits steady =
    let state = backing_state_of backing in
    record {
      kept = kept;
      fits = fits;
      seen = refl;
      space = state.space;
      main = ap main_lebs steady.geometry;
      used = refl;
      credits = steady.credits;
      weight = refl;
      index = refl;
      grant = state.grant;
      covers = subst (λ (g : RawGeometry). IsCovering g state.tree state.space state.grant) steady.geometry steady.covers;
    }

-- whether the volume is mounted, the time, the number of the line and the workers stand beside it
abbrev pub covered_in : (geo : RawGeometry) (here : ScriptRunning) (mounted : Bool) (now number workers : ℕ) → IsScriptCovered geo here → IsScriptCovered geo (record here { mounted = mounted; now = now; number = number; workers = workers })
covered_in geo here mounted now number workers is = record {
  kept = is.kept;
  fits = is.fits;
  seen = is.seen;
  space = is.space;
  main = is.main;
  used = is.used;
  credits = is.credits;
  weight = is.weight;
  index = is.index;
  grant = is.grant;
  covers = is.covers;
}

pub session_covers : (geo : RawGeometry) (session : Session) → IsSession geo session → IsScriptCovered geo (running_of session)
session_covers geo session is =
    covered_in geo (mounted_over session.fs.backing session.fs.kept session.now) session.mounted session.now session.number session.workers
    (steady_covers geo session.fs.backing session.fs.kept session.now session.fs.ready.kept_fits is.steady)
