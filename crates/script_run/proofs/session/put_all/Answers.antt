use Rattle.std.proofs.Common.{ap, subst, sym, ◌∙◌}
use Rattle.ubifs_base.specs.declared.raw_geometry.RawGeometry.{RawGeometry}
use Rattle.fs_model.specs.Files.{Tree}
use Rattle.buffered_files.specs.Alike.{IsAlike}
use Rattle.buffered_files.specs.declared.kept.Kept.{Kept}
use Rattle.buffered_files.specs.Present.{present}
use Rattle.plain_backing.specs.PlainBacking.{backing_state_of}
use Rattle.script_run.specs.Run.{HasGrown}
use Rattle.script_run.specs.Sessions.{IsSteady, mounted_over}
use Rattle.script_run.proofs.Growth.{grown_then}
use Rattle.script_run.proofs.Running.{put_alike}
use Rattle.script_run.proofs.session.put_all.Goals as goal

pub commit-requires : goal.commit-requires
commit-requires c =
    let steady = c.in_ok-flush.ensures.steady in
    record { steady = subst (λ (g : RawGeometry). IsSteady g c.flush.new.fs.backing c.flush.new.fs.kept) (sym steady.geometry) steady }

pub returns-clause-steady : goal.returns-clause-steady
returns-clause-steady c = subst (λ (g : RawGeometry). IsSteady g c.commit.new.fs.backing c.commit.new.fs.kept) c.in_ok-flush.ensures.steady.geometry c.in_ok-commit.ensures.steady

pub returns-clause-clean : goal.returns-clause-clean
returns-clause-clean c = ap (λ (kept : Kept). kept.pages.dirty) c.in_ok-commit.ensures.kept ∙ c.in_ok-flush.ensures.pages

pub returns-clause-files : goal.returns-clause-files
returns-clause-files c =
    let files = present (backing_state_of c.args.fs.now.backing).tree c.args.fs.now.kept in
    let flushed = c.flush.new.fs in
    let put = put_alike files (backing_state_of flushed.backing).tree flushed.kept c.in_ok-flush.ensures.files c.in_ok-flush.ensures.pages c.in_ok-flush.ensures.inodes in
    subst (λ (t : Tree). IsAlike files (record files { tree = t })) (sym c.in_ok-commit.ensures.tree) put

pub returns-clause-grown : goal.returns-clause-grown
returns-clause-grown c =
    let geo = (backing_state_of c.args.fs.now.backing).geometry in
    let start = mounted_over c.args.fs.now.backing c.args.fs.now.kept 0 in
    let flushed = mounted_over c.flush.new.fs.backing c.flush.new.fs.kept 0 in
    let committed = mounted_over c.commit.new.fs.backing c.commit.new.fs.kept 0 in
    let second = subst (λ (g : RawGeometry). HasGrown g 0 0 flushed committed) c.in_ok-flush.ensures.steady.geometry c.in_ok-commit.ensures.grown in
    grown_then geo start flushed committed c.in_ok-flush.ensures.grown second
