use Rattle.std.proofs.Common.{◌≡◌, true, ℕ, List, sym, ap, subst, ◌∙◌, arith}
use Rattle.fs_model.specs.declared.change.Change.{Change}
use Rattle.fs_model.specs.declared.op.Op.{Op}
use Rattle.fs_model.specs.declared.space.Grant.{Grant}
use Rattle.fs_model.specs.declared.space.Need.{Need}
use Rattle.fs_model.specs.Backing.{BackingState, FitsGroup, FitsOrphans}
use Rattle.fs_model.specs.Change.{apply}
use Rattle.fs_model.specs.Files.{Tree, Files}
use Rattle.fs_model.specs.Need.{need_of}
use Rattle.fs_model.specs.Operation.{group_of}
use Rattle.fs_model.specs.Orphan.{all_revive_none}
use Rattle.fs_model.specs.Proper.{IsProper}
use Rattle.fs_laws.specs.Asked.{IsAsked}
use Rattle.fs_laws.specs.Sound.{IsSound, IsMoment, IsCall, Pays}
use Rattle.fs_laws.proofs.client.put_operation.Goals as goal

asked_fits : (tree : Tree) (need : Need) (group : List Change) → IsAsked tree need group
    → ((files : Files) (caller now : ℕ) (op : Op) (grant : Grant) → IsSound files → IsMoment now → IsCall op → Pays grant (need_of files caller now op) → FitsGroup files.tree grant (group_of files caller now op))
    → FitsGroup tree (record { bytes = need.bytes; nodes = need.nodes }) group
asked_fits tree need group it law =
    let files : Files = record { tree = tree; handles = it.handles } in
    let grant : Grant = record { bytes = need.bytes; nodes = need.nodes } in
    let P : Need → Type 0 = λ asked. Pays grant asked in
    let pays : Pays grant (need_of files it.caller it.now it.op) = subst P it.need_is (record { bytes = omega arith; nodes = omega arith }) in
    let Q : List Change → Type 0 = λ changes. FitsGroup tree grant changes in
    subst Q (sym it.group_is) (law files it.caller it.now it.op grant it.sound it.moment it.call pays)

pub put_group-requires : goal.put_group-requires
put_group-requires g c =
    let ok = c.in_default.ensures.ok in
    let grant : Grant = record { bytes = c.args.need.now.bytes; nodes = c.args.need.now.nodes } in
    let P : Tree → Type 0 = λ tree. FitsGroup tree grant c.args.group.now in
    let fits = asked_fits (g.B.Backing.state c.args.backing.now).tree c.args.need.now c.args.group.now c.requires.asked c.an_operation_fits_its_grant.ensures in
    let tree = ap (λ (s : BackingState). s.tree) ok in
    record {
      grant = grant;
      granted = ap (λ (s : BackingState). s.grant) ok;
      revives_none = subst (λ (tree : Tree). all_revive_none tree c.args.group.now ≡ true) (sym tree) fits.revives_none;
      paid = λ proper. subst P (sym tree) fits;
      orphans = λ proper. subst (λ (s : BackingState). FitsOrphans s.tree s.closed s.orphan_limit c.args.group.now) (sym ok) c.requires.orphans;
    }

pub returns-clause-proper : goal.returns-clause-proper
returns-clause-proper g c =
    let fits = asked_fits (g.B.Backing.state c.args.backing.now).tree c.args.need.now c.args.group.now c.requires.asked c.an_operation_fits_its_grant.ensures in
    let tree = c.in_ok-put_group.ensures.ok.tree ∙ ap (λ (s : BackingState). apply s.tree c.args.group.now) c.in_default.ensures.ok in
    subst IsProper (sym tree) fits.proper
