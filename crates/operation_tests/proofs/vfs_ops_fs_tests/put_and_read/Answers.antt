use Rattle.std.proofs.Common.{ap, sym, subst}
use Rattle.std.specs.Prelude.{IsTrue}
use Rattle.fs_model.specs.Backing.{BackingState, FitsGroup, FitsOrphans}
use Rattle.fs_model.specs.Files.{Tree}
use Rattle.fs_model.specs.Orphan.{all_revive_none}
use Rattle.fs_model.specs.declared.space.Grant.{Grant}
use Rattle.operation_tests.proofs.vfs_ops_fs_tests.put_and_read.Goals as goal

pub put_group-requires : goal.put_group-requires
put_group-requires c =
    let ok = c.in_ok-admit.ensures.ok in
    let grant : Grant = record { bytes = c.args.need.now.bytes; nodes = c.args.need.now.nodes } in
    let P : Tree → Type 0 = λ tree. FitsGroup tree grant c.args.group.now in
    let tree = ap (λ (s : BackingState). s.tree) ok in
    record {
      grant = grant;
      granted = ap (λ (s : BackingState). s.grant) ok;
      revives_none = subst (λ (tree : Tree). IsTrue (all_revive_none tree c.args.group.now)) (sym tree) c.requires.group.revives_none;
      paid = λ proper. subst P (sym tree) c.requires.group;
      orphans = λ proper. subst (λ (s : BackingState). FitsOrphans s.tree s.closed s.orphan_limit c.args.group.now) (sym ok) c.requires.orphans;
    }
