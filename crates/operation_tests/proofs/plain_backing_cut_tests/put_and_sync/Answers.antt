use Rattle.std.proofs.Common.{sym, ap, subst, ◌∙◌}
use Rattle.std.specs.Prelude.{IsTrue}
use Rattle.fs_model.specs.Backing.{BackingState, FitsGroup, FitsOrphans}
use Rattle.fs_model.specs.declared.space.Grant.{Grant}
use Rattle.fs_model.specs.Change.{apply}
use Rattle.fs_model.specs.Files.{Tree}
use Rattle.fs_model.specs.Orphan.{all_revive_none, without_nameless}
use Rattle.operation_tests.proofs.plain_backing_cut_tests.put_and_sync.Goals as goal

pub put_group-requires : goal.put_group-requires
put_group-requires g c =
    let ok = c.in_default.ensures.ok in
    let grant : Grant = record { bytes = c.args.need.now.bytes; nodes = c.args.need.now.nodes } in
    let P : Tree → Type 0 = λ tree. FitsGroup tree grant c.args.group.now in
    let tree = ap (λ (s : BackingState). s.tree) ok in
    record {
      grant = grant;
      granted = ap (λ (s : BackingState). s.grant) ok;
      revives_none = subst (λ (tree : Tree). IsTrue (all_revive_none tree c.args.group.now)) (sym tree) c.requires.group.revives_none;
      paid = λ proper. subst P (sym tree) c.requires.group;
      orphans = λ proper. subst (λ (s : BackingState). FitsOrphans s.tree s.closed s.orphan_limit c.args.group.now) (sym ok) c.requires.orphans;
    }

pub returns : goal.returns
returns g c = record {
  left = λ put tree may.
      c.a_cut_keeps_what_was_synced.ensures.now (g.B.Backing.state c.sync.new.self) (g.met.B.Backing.journal c.sync.new.self) c.in_ok-sync.ensures.ok tree may
      ∙ ap without_nameless (c.sync.ensures.files.tree ∙ c.in_ok-put_group.ensures.ok.tree ∙ ap (λ (s : BackingState). apply s.tree c.args.group.now) c.in_default.ensures.ok);
}
