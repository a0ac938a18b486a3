use Rattle.std.proofs.Common.{◌≡◌, ap, ◌∙◌, refl, subst, sym}
use Rattle.ubifs_base.specs.RawOf.{raw_of}
use Rattle.fs_model.specs.Files.{Tree}
use Rattle.fs_model.specs.Proper.{IsProper}
use Rattle.fs_model.specs.Orphan.{without_nameless}
use Rattle.plain_backing.specs.PlainBacking.{backing_state_of}
use Rattle.script_run.specs.Sessions.{running_of, state_in}
use Rattle.script_run.proofs.Covering.{session_covers}
use Rattle.script_run.proofs.Leaving.{stored_left}
use Rattle.script_run.proofs.LeftCover.{named_in}
use Rattle.script_run.proofs.Running.{bare_files}
use Rattle.script_run.proofs.whole.write_lines.Goals as goal

pub returns-clause-proper : goal.returns-clause-proper
returns-clause-proper g c =
    let P : Tree → Type 0 = λ tree. IsProper tree in
    let same : c.into_tree.result ≡ (backing_state_of c.in_ok-played.played.session.fs.backing).tree = c.into_tree.ensures ∙ ap (λ b. (backing_state_of b).tree) c.into_parts.ensures in
    subst P (sym c.in_ok-tree.ensures) (c.a_mount_keeps_trees_proper.ensures c.into_tree.result (subst P (sym same) c.in_ok-played.played.session.fs.ready.kept_fits.proper))

pub returns-clause-played : goal.returns-clause-played
returns-clause-played g c =
    let session = c.in_ok-played.played.session in
    let same : c.into_tree.result ≡ (state_in session).tree = c.into_tree.ensures ∙ ap (λ b. (backing_state_of b).tree) c.into_parts.ensures in
    record {
      first = c.in_ok-played.ensures.run.0;
      only = c.in_ok-played.ensures.run.1;
      last = running_of session;
      lines = c.in_ok-played.ensures.run.2;
      covered = session_covers (raw_of c.args.opening.geometry) session c.in_ok-played.ensures.session;
      left = record {
        under = record { kept = session.fs.kept; fits = session.fs.ready.kept_fits; seen = refl };
        stored = stored_left session.fs.backing;
        unmounted = λ away. bare_files (state_in session).tree (state_in session).tree session.fs.kept refl (c.in_ok-played.ensures.session.bare away);
      };
      named = c.in_ok-tree.ensures ∙ ap without_nameless same;
    }

pub returns-clause-covered : goal.returns-clause-covered
returns-clause-covered g c =
    let session = c.in_ok-played.played.session in
    let stored : c.into_tree.result ≡ (state_in session).tree = c.into_tree.ensures ∙ ap (λ b. (backing_state_of b).tree) c.into_parts.ensures in
    let steady = c.in_ok-played.ensures.session.steady in
    named_in (raw_of c.args.opening.geometry) session.fs.backing c.into_tree.result c.in_ok-tree.tree steady.geometry stored c.in_ok-tree.ensures c.more_never_lowers_the_need.ensures.admitted (returns-clause-proper g c) steady.covers
