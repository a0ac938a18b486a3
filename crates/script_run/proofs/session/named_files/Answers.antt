use Rattle.std.proofs.Common.{ap, length, subst, sym, ◌∙◌}
use Rattle.ubifs_base.specs.Areas.{main_lebs}
use Rattle.ubifs_base.specs.RawOf.{raw_of}
use Rattle.fs_model.specs.declared.space.Space.{Space}
use Rattle.fs_model.specs.Files.{Tree}
use Rattle.fs_model.specs.Orphan.{without_nameless}
use Rattle.fs_model.specs.Proper.{IsProper}
use Rattle.plain_backing.specs.declared.backing.PlainBacking.{PlainBacking}
use Rattle.plain_backing.specs.PlainBacking.{backing_state_of}
use Rattle.script_run.specs.Run.{LeavesOnly}
use Rattle.script_run.specs.Sessions.{IsSteady}
use Rattle.script_run.proofs.LeftCover.{named_covers}
use Rattle.script_run.proofs.session.named_files.Goals as goal

pub backing_of-requires-clause-main : goal.backing_of-requires-clause-main
backing_of-requires-clause-main c = ap (λ (s : Space). s.main) c.space-space.ensures ∙ ap main_lebs c.requires.geometry

pub backing_of-requires-clause-credits : goal.backing_of-requires-clause-credits
backing_of-requires-clause-credits c = ap (λ (s : Space). s.credits) c.space-space.ensures ∙ c.requires.credits

pub backing_of-requires-clause-covers : goal.backing_of-requires-clause-covers
backing_of-requires-clause-covers c =
    let P : Tree → Type 0 = λ tree. IsProper tree in
    let proper = c.a_mount_keeps_trees_proper.ensures c.into_tree.result (subst P (sym c.into_tree.ensures) c.requires.proper) in
    named_covers (raw_of c.args.geometry) c.args.backing c.space-space.result c.into_tree.result c.in_ok-tree.tree c.requires.geometry c.space-space.ensures c.into_tree.ensures c.in_ok-tree.ensures c.more_never_lowers_the_need.ensures.admitted
    (subst P (sym c.in_ok-tree.ensures) proper) c.requires.covers

pub files_over-requires : goal.files_over-requires
files_over-requires c =
    let P : Tree → Type 0 = λ tree. IsProper tree in
    let proper = c.a_mount_keeps_trees_proper.ensures c.into_tree.result (subst P (sym c.into_tree.ensures) c.requires.proper) in
    record { proper = subst P (sym (c.in_ok-backing.ensures.tree ∙ c.in_ok-tree.ensures)) proper }

pub returns-clause-steady : goal.returns-clause-steady
returns-clause-steady c =
    let made = c.in_ok-backing.ensures in
    let P : PlainBacking → Type 0 = λ backing. IsSteady (raw_of c.args.geometry) backing c.in_ok-fs.fs.kept in
    subst P (sym c.in_ok-fs.ensures.backing) (record {
      geometry = made.geometry;
      mode = made.mode;
      faults = made.faults;
      strike = made.strike;
      covers = made.covers;
      orphans = made.orphans;
      credits = made.credits ∙ sym (ap (λ dirty. length dirty) c.in_ok-fs.ensures.bare.pages);
    })

pub returns-clause-bare : goal.returns-clause-bare
returns-clause-bare c = c.in_ok-fs.ensures.bare

pub returns-clause-tree : goal.returns-clause-tree
returns-clause-tree c =
    ap (λ (b : PlainBacking). (backing_state_of b).tree) c.in_ok-fs.ensures.backing ∙ (c.in_ok-backing.ensures.tree ∙ (c.in_ok-tree.ensures ∙ ap without_nameless c.into_tree.ensures))

pub returns-clause-closed : goal.returns-clause-closed
returns-clause-closed c = ap (λ (b : PlainBacking). (backing_state_of b).closed) c.in_ok-fs.ensures.backing ∙ c.in_ok-backing.ensures.closed

pub returns-clause-left : goal.returns-clause-left
returns-clause-left c =
    let made = c.in_ok-backing.backing in
    let alone = subst (λ (tree : Tree). LeavesOnly (backing_state_of made).journal tree) (sym c.in_ok-backing.ensures.tree) c.in_ok-backing.ensures.left in
    subst (λ (b : PlainBacking). LeavesOnly (backing_state_of b).journal (backing_state_of b).tree) (sym c.in_ok-fs.ensures.backing) alone

pub returns-clause-weight : goal.returns-clause-weight
returns-clause-weight c =
    let made = c.in_ok-backing.ensures.weight in
    let same = c.in_ok-fs.ensures.backing in
    let space = c.space-space.ensures in
    (ap (λ (b : PlainBacking). (backing_state_of b).space.weight) same ∙ (made.0 ∙ ap (λ (s : Space). s.weight) space), ap (λ (b : PlainBacking). (backing_state_of b).space.index) same ∙ (made.1 ∙ ap (λ (s : Space). s.index) space))
