use Rattle.std.proofs.Common.{◌≡◌, ap, length, subst, sym, ◌∙◌}
use Rattle.ubifs_base.specs.RawOf.{raw_of}
use Rattle.ubifs_base.specs.declared.raw_geometry.RawGeometry.{RawGeometry}
use Rattle.fs_model.specs.Orphan.{without_nameless}
use Rattle.fs_model.specs.Proper.{IsProper}
use Rattle.plain_backing.specs.declared.backing.PlainBacking.{PlainBacking}
use Rattle.plain_backing.specs.PlainBacking.{Covers, backing_state_of}
use Rattle.script_run.specs.Run.{HasGrown}
use Rattle.script_run.specs.Sessions.{IsSteady, mounted_over}
use Rattle.script_run.proofs.Growth.{grown_anew, grown_then}
use Rattle.script_run.proofs.Running.{bare_files}
use Rattle.script_run.proofs.session.put_away.Goals as goal

pub put_all-requires : goal.put_all-requires
put_all-requires c = record { steady = subst (λ (g : RawGeometry). IsSteady g c.args.fs.backing c.args.fs.kept) (sym c.requires.steady.geometry) c.requires.steady }

pub named_files-requires-clause-geometry : goal.named_files-requires-clause-geometry
named_files-requires-clause-geometry c = ap (λ (b : PlainBacking). (backing_state_of b).geometry) c.into_parts.ensures ∙ (c.in_ok-put_all.ensures.steady.geometry ∙ c.requires.steady.geometry)

pub named_files-requires-clause-proper : goal.named_files-requires-clause-proper
named_files-requires-clause-proper c = subst (λ (b : PlainBacking). IsProper (backing_state_of b).tree) (sym c.into_parts.ensures) c.put_all.new.fs.ready.kept_fits.proper

pub named_files-requires-clause-credits : goal.named_files-requires-clause-credits
named_files-requires-clause-credits c =
    ap (λ (b : PlainBacking). (backing_state_of b).space.credits) c.into_parts.ensures ∙ (c.in_ok-put_all.ensures.steady.credits ∙ ap (λ dirty. length dirty) c.in_ok-put_all.ensures.clean)

pub named_files-requires-clause-covers : goal.named_files-requires-clause-covers
named_files-requires-clause-covers c = subst (λ (b : PlainBacking). Covers (backing_state_of b)) (sym c.into_parts.ensures) c.in_ok-put_all.ensures.steady.covers

pub returns-clause-steady : goal.returns-clause-steady
returns-clause-steady c = c.in_ok-named.ensures.steady

pub returns-clause-bare : goal.returns-clause-bare
returns-clause-bare c = c.in_ok-named.ensures.bare

pub returns-clause-closed : goal.returns-clause-closed
returns-clause-closed c = c.in_ok-named.ensures.closed

pub returns-clause-left : goal.returns-clause-left
returns-clause-left c = c.in_ok-named.ensures.left

pub returns-clause-files : goal.returns-clause-files
returns-clause-files c =
    let put = (backing_state_of c.put_all.new.fs.backing).tree in
    let made = c.in_ok-named.named in
    let left : (backing_state_of made.backing).tree ≡ without_nameless put = c.in_ok-named.ensures.tree ∙ ap (λ (b : PlainBacking). without_nameless (backing_state_of b).tree) c.into_parts.ensures in
    (put, c.in_ok-put_all.ensures.files, left, bare_files (backing_state_of made.backing).tree (without_nameless put) made.kept left c.in_ok-named.ensures.bare)

pub returns-clause-grown : goal.returns-clause-grown
returns-clause-grown c =
    let geo = raw_of c.args.geometry in
    let put = c.put_all.new.fs in
    let made = c.in_ok-named.named in
    let start = mounted_over c.args.fs.backing c.args.fs.kept 0 in
    let committed = mounted_over put.backing put.kept 0 in
    let weight = c.in_ok-named.ensures.weight.0 ∙ ap (λ (b : PlainBacking). (backing_state_of b).space.weight) c.into_parts.ensures in
    let index = c.in_ok-named.ensures.weight.1 ∙ ap (λ (b : PlainBacking). (backing_state_of b).space.index) c.into_parts.ensures in
    let first = subst (λ (g : RawGeometry). HasGrown g 0 0 start committed) c.requires.steady.geometry c.in_ok-put_all.ensures.grown in
    grown_then geo start committed (mounted_over made.backing made.kept 0) first (grown_anew geo put.backing made.backing put.kept made.kept weight index c.in_ok-named.ensures.bare.pages)
