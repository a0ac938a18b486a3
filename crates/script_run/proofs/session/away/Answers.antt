use Rattle.std.proofs.Common.{refl, subst}
use Rattle.ubifs_base.specs.declared.raw_geometry.RawGeometry.{RawGeometry}
use Rattle.script_run.specs.Run.{HasGrown}
use Rattle.script_run.specs.Sessions.{IsSteady, mounted_over}
use Rattle.script_run.proofs.session.away.Goals as goal

pub returns-clause-session : goal.returns-clause-session
returns-clause-session c =
    let was = c.requires.session.geometry in
    let fs = c.in_ok-fs.fs in
    record { geometry = was; steady = subst (λ (geo : RawGeometry). IsSteady geo fs.backing fs.kept) was c.in_ok-fs.ensures.steady; bare = λ none. c.in_ok-fs.ensures.bare }

pub returns-clause-unmounted : goal.returns-clause-unmounted
returns-clause-unmounted c =
    let old = c.args.session.fs in
    let new = c.in_ok-fs.fs in
    let away = c.in_ok-fs.ensures in
    let grown = subst (λ (g : RawGeometry). HasGrown g 0 0 (mounted_over old.backing old.kept 0) (mounted_over new.backing new.kept 0)) c.requires.session.geometry away.grown in
    record {
      put = away.files.0;
      same = away.files.1;
      stored = away.files.2;
      files = away.files.3;
      left = away.left;
      grown = record { weight = grown.weight; index = grown.index };
      closed = away.closed;
      mounted = refl;
      now = refl;
      number = refl;
      workers = refl;
    }
