use Rattle.std.proofs.Common.{ap, length, refl, sym, subst, ◌∙◌}
use Rattle.ubifs_base.specs.RawOf.{raw_of}
use Rattle.plain_backing.specs.declared.backing.PlainBacking.{PlainBacking}
use Rattle.plain_backing.specs.PlainBacking.{backing_state_of}
use Rattle.script_run.specs.Run.{LeavesOnly}
use Rattle.script_run.specs.Sessions.{IsSteady}
use Rattle.script_run.proofs.session.first_session.Goals as goal

pub returns-clause-session : goal.returns-clause-session
returns-clause-session c =
    let made = c.in_ok-backing.ensures in
    let bare = c.in_ok-fs.ensures.bare in
    let P : PlainBacking → Type 0 = λ backing. IsSteady (raw_of c.args.opening.geometry) backing c.in_ok-fs.fs.kept in
    record {
      geometry = refl;
      steady = subst P (sym c.in_ok-fs.ensures.backing) (record {
        geometry = made.geometry;
        mode = made.mode;
        faults = made.faults;
        strike = made.strike;
        covers = made.covers;
        orphans = made.orphans;
        credits = made.credits ∙ sym (ap (λ dirty. length dirty) bare.pages);
      });
      bare = λ none. bare;
    }

pub returns-clause-left : goal.returns-clause-left
returns-clause-left c = subst (λ (b : PlainBacking). LeavesOnly (backing_state_of b).journal c.args.opening.tree) (sym c.in_ok-fs.ensures.backing) c.in_ok-backing.ensures.left
