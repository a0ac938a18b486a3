use Rattle.std.proofs.Common.{◌++◌, ◌∷◌, [], ℕ, List, sym, ap, subst, ◌∙◌}
use Rattle.std.specs.Prelude.{IsTrue}
use Rattle.fs_model.specs.Backing.{BackingState, FitsGroup, FitsOrphans, put_by}
use Rattle.fs_model.specs.declared.change.Change.{Change}
use Rattle.fs_model.specs.declared.space.Grant.{Grant}
use Rattle.fs_model.specs.Files.{Tree}
use Rattle.fs_model.specs.Journal.{Journal, MightLeave, base_head}
use Rattle.fs_model.specs.Orphan.{all_revive_none}
use Rattle.operation_tests.proofs.CutsTold.{orphans_still}
use Rattle.operation_tests.proofs.plain_backing_cut_tests.put_in_a_commit.Goals as goal

pub put_group-requires : goal.put_group-requires
put_group-requires g c =
    let ok = c.in_default.ensures.ok in
    let files = c.commit_start.ensures.files in
    let before = g.B.Backing.state c.admit.new.self in
    let after = g.B.Backing.state c.commit_start.new.self in
    let grant : Grant = record { bytes = c.args.need.now.bytes; nodes = c.args.need.now.nodes } in
    let P : Tree → Type 0 = λ tree. FitsGroup tree grant c.args.group.now in
    let Q : Tree → Type 0 = λ tree. FitsOrphans tree after.closed after.orphan_limit c.args.group.now in
    let R : ℕ → Type 0 = λ limit. FitsOrphans before.tree after.closed limit c.args.group.now in
    let tree = files.tree ∙ ap (λ (s : BackingState). s.tree) ok in
    let room = subst (λ (s : BackingState). FitsOrphans s.tree s.closed s.orphan_limit c.args.group.now) (sym ok) c.requires.orphans in
    record {
      grant = grant;
      granted = files.grant ∙ ap (λ (s : BackingState). s.grant) ok;
      revives_none = subst (λ (tree : Tree). IsTrue (all_revive_none tree c.args.group.now)) (sym tree) c.requires.group.revives_none;
      paid = λ proper. subst P (sym tree) c.requires.group;
      orphans = λ proper. subst Q (sym files.tree) (subst R (sym c.commit_start.ensures.goes.orphan_limit) (orphans_still before.tree before.closed after.closed before.orphan_limit c.args.group.now files.closed room));
    }

pub returns : goal.returns
returns g c = record {
  cut = λ put more tree left.
      let group = (base_head, c.args.group.now) ∷ [] in
      let Q : Journal → Type 0 = λ journal. MightLeave journal (group ++ more) tree in
      let S : List (ℕ × List Change) → Type 0 = λ puts. MightLeave (g.B.Backing.state c.commit_start.new.self).journal (puts ++ more) tree in
      let stepped = c.commit_step.ensures.cut more tree (c.commit_end.ensures.cut more tree left) in
      let grouped = subst S (ap (λ result. put_by result group) c.in_ok-put_group.was) (c.put_group.ensures.cut more tree stepped) in
      subst Q (ap (λ (s : BackingState). s.journal) c.in_default.ensures.ok) (c.commit_start.ensures.cut (group ++ more) tree grouped);
}
