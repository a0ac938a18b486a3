use Rattle.std.proofs.Common.{ap, subst, sym, ◌∙◌}
use Rattle.fs_model.specs.declared.space.Grant.{Grant}
use Rattle.fs_model.specs.Backing.{BackingState, FitsGroup}
use Rattle.fs_model.specs.Truncation.{truncating}
use Rattle.buffered_files.specs.Cuts.{put_fate}
use Rattle.buffered_files.specs.Present.{present}
use Rattle.buffered_files.specs.Resized.{size_need}
use Rattle.buffered_files.proofs.Reading.{Reads-tree}
use Rattle.buffered_files.proofs.SizePut.{cut_on, goes_on, grows_by, none_looked, ok_on, resizing_on, size_fits}
use Rattle.buffered_files.proofs.truncations.put_size.Goals as goal

pub put_truncation-requires-clause-granted : goal.put_truncation-requires-clause-granted
put_truncation-requires-clause-granted g c =
    let old = g.B.Backing.state c.args.backing.now in
    let kept = c.args.kept.now in
    let seen = present old.tree kept in
    let looks = c.block_of.ensures.reads in
    let grant : Grant = record { bytes = (size_need seen.tree c.args.ino c.args.inode c.args.size c.args.now).bytes; nodes = (size_need seen.tree c.args.ino c.args.inode c.args.size c.args.now).nodes } in
    let fits = size_fits seen c.args.ino c.args.inode c.args.size c.args.now c.an_operation_fits_its_grant.ensures (c.present_files_are_sound.ensures.proper old.tree kept c.requires.kept) c.requires.found c.requires.file c.requires.inside c.ranges.now.fits in
    (grant, ap (λ (s : BackingState). s.grant) looks ∙ c.requires.granted, subst (λ (s : BackingState). FitsGroup (present s.tree kept).tree grant c.in_ok-group.group) (sym looks) (subst (λ group. FitsGroup seen.tree grant group) (sym (c.in_ok-group.ensures seen.tree (sym c.requires.sized) (λ less. sym (c.as_slice.ensures ∙ c.in_ok-last.ensures.bytes)))) fits))

pub put_truncation-requires-clause-resizing : goal.put_truncation-requires-clause-resizing
put_truncation-requires-clause-resizing g c =
    let old = g.B.Backing.state c.args.backing.now in
    let made = c.in_ok-group.ensures (present old.tree c.args.kept.now).tree (sym c.requires.sized) (λ less. sym (c.as_slice.ensures ∙ c.in_ok-last.ensures.bytes)) in
    resizing_on (g.B.Backing.state c.block_of.new.backing).tree old.tree c.args.kept.now c.in_ok-group.group c.args.ino c.args.inode c.args.size c.args.now (Reads-tree old (g.B.Backing.state c.block_of.new.backing) c.block_of.ensures.reads) c.requires.found c.requires.file c.requires.inside made

pub returns-in_err-last-clause-cut : goal.returns-in_err-last-clause-cut
returns-in_err-last-clause-cut g c =
    none_looked (Unit {0}) c.from_residual.result (g.B.Backing.state c.args.backing.now) (g.B.Backing.state c.block_of.new.backing) c.args.kept.now _ c.block_of.ensures.reads c.from_residual.ensures.0

pub returns-in_err-group-clause-cut : goal.returns-in_err-group-clause-cut
returns-in_err-group-clause-cut g c =
    none_looked (Unit {0}) c.from_residual-in_err-group.result (g.B.Backing.state c.args.backing.now) (g.B.Backing.state c.block_of.new.backing) c.args.kept.now _ c.block_of.ensures.reads c.from_residual-in_err-group.ensures.0

pub returns-clause-ok : goal.returns-clause-ok
returns-clause-ok g c =
    let old = g.B.Backing.state c.args.backing.now in
    let made = c.in_ok-group.ensures (present old.tree c.args.kept.now).tree (sym c.requires.sized) (λ less. sym (c.as_slice.ensures ∙ c.in_ok-last.ensures.bytes)) in
    ok_on old (g.B.Backing.state c.block_of.new.backing) (g.B.Backing.state c.put_truncation.new.backing) c.args.kept.now c.put_truncation.new.kept c.in_ok-group.group (truncating (present old.tree c.args.kept.now).tree c.args.ino c.args.inode c.args.size c.args.now) c.block_of.ensures.reads made c.put_truncation.result c.put_truncation.ensures.ok

pub returns-clause-cut : goal.returns-clause-cut
returns-clause-cut g c =
    let old = g.B.Backing.state c.args.backing.now in
    let made = c.in_ok-group.ensures (present old.tree c.args.kept.now).tree (sym c.requires.sized) (λ less. sym (c.as_slice.ensures ∙ c.in_ok-last.ensures.bytes)) in
    cut_on old (g.B.Backing.state c.block_of.new.backing) (g.B.Backing.state c.put_truncation.new.backing) c.args.kept.now c.put_truncation.new.kept c.in_ok-group.group (truncating (present old.tree c.args.kept.now).tree c.args.ino c.args.inode c.args.size c.args.now) c.block_of.ensures.reads made (put_fate c.put_truncation.result) c.put_truncation.ensures.cut

pub returns-clause-goes : goal.returns-clause-goes
returns-clause-goes g c =
    let old = g.B.Backing.state c.args.backing.now in
    let made = c.in_ok-group.ensures (present old.tree c.args.kept.now).tree (sym c.requires.sized) (λ less. sym (c.as_slice.ensures ∙ c.in_ok-last.ensures.bytes)) in
    goes_on old (g.B.Backing.state c.block_of.new.backing) (g.B.Backing.state c.put_truncation.new.backing) c.args.kept.now c.put_truncation.new.kept c.in_ok-group.group (truncating (present old.tree c.args.kept.now).tree c.args.ino c.args.inode c.args.size c.args.now) c.block_of.ensures.reads made c.block_of.ensures.goes c.put_truncation.ensures.goes

pub returns-clause-grows : goal.returns-clause-grows
returns-clause-grows g c =
    let old = g.B.Backing.state c.args.backing.now in
    let made = c.in_ok-group.ensures (present old.tree c.args.kept.now).tree (sym c.requires.sized) (λ less. sym (c.as_slice.ensures ∙ c.in_ok-last.ensures.bytes)) in
    grows_by old (g.B.Backing.state c.block_of.new.backing) (g.B.Backing.state c.put_truncation.new.backing) c.args.kept.now c.put_truncation.new.kept c.in_ok-group.group (truncating (present old.tree c.args.kept.now).tree c.args.ino c.args.inode c.args.size c.args.now) c.block_of.ensures.reads made c.put_truncation.result c.put_truncation.ensures.grows
