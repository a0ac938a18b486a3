use Rattle.std.proofs.Common.{◌≤◌, length, ap, arith, refl, rules, subst, sym, ◌∙◌}
use Rattle.std.specs.Prelude.{filter}
use Rattle.fs_model.specs.Backing.{BackingState, FitsGroup}
use Rattle.buffered_files.specs.CallLaws.{Goes-put}
use Rattle.buffered_files.specs.CutLaws.{Puts-none, Puts-with}
use Rattle.buffered_files.specs.Cuts.{ValuesOf}
use Rattle.buffered_files.specs.Cuts.GroupFate.{NotPut, WasPut}
use Rattle.buffered_files.specs.Follow.{is_of_inode}
use Rattle.buffered_files.specs.Present.{present}
use Rattle.buffered_files.proofs.Alike.{present_alike, present_bytes}
use Rattle.buffered_files.proofs.Cutting.{with_given}
use Rattle.buffered_files.proofs.PlaceValues.{group_done_cut, group_failed_cut, present_ordered}
use Rattle.buffered_files.proofs.Growing.{group_failed, no_more}
use Rattle.buffered_files.proofs.GroupPut.{GroupPut, group_put, goes_given}
use Rattle.buffered_files.proofs.groups.put_group.Given.{Over}
use Rattle.buffered_files.proofs.groups.put_group.Goals as goal

pub put_group-requires : goal.put_group-requires
put_group-requires g c =
    let tree = (g.B.Backing.state c.args.backing.now).tree in
    let kept = c.args.kept.now in
    let it = c.requires.granted in
    let alike = present_alike tree kept c.requires.kept in
    let fits = c.groups_fit_trees_built_alike.ensures.fits (present tree kept).tree tree it.0 c.args.group.now alike (present_bytes tree kept c.requires.kept) c.requires.kept.proper it.2 in
    record {
      grant = it.0;
      granted = it.1;
      revives_none = fits.revives_none;
      paid = λ proper. fits;
      orphans = λ proper. c.groups_fit_trees_built_alike.ensures.orphans (present tree kept).tree tree (g.B.Backing.state c.args.backing.now).closed (g.B.Backing.state c.args.backing.now).orphan_limit c.args.group.now alike c.requires.orphans;
    }

made : (g : Over) (c : goal.After-give_back g) → GroupPut (g.B.Backing.state c.args.backing.now).tree (g.B.Backing.state c.give_back.new.self).tree c.args.kept.now c.follow_all-gone.new.kept c.args.group.now
made g c =
    let old = g.B.Backing.state c.args.backing.now in
    let kept = c.args.kept.now in
    let it = c.requires.granted in
    let fits : FitsGroup old.tree it.0 c.args.group.now = c.groups_fit_trees_built_alike.ensures.fits (present old.tree kept).tree old.tree it.0 c.args.group.now (present_alike old.tree kept c.requires.kept) (present_bytes old.tree kept c.requires.kept) c.requires.kept.proper it.2 in
    group_put old (g.B.Backing.state c.put_group.new.self) (g.B.Backing.state c.give_back.new.self) kept c.follow_all-gone.new.kept c.args.group.now c.in_ok-changes.changes.items it.0 c.follow_all-gone.result
    c.requires.kept c.requires.names fits c.in_ok-put_group.ensures.ok (c.in_ok-changes.ensures ∙ ap (λ changes. filter is_of_inode changes) c.as_slice.ensures) c.follow_all-gone.ensures.kept c.give_back.ensures.given

pub returns-clause-kept : goal.returns-clause-kept
returns-clause-kept g c = (made g c).fits

pub returns-clause-ok : goal.returns-clause-ok
returns-clause-ok g c = (made g c).seen

pub returns-clause-goes : goal.returns-clause-goes
returns-clause-goes g c =
    goes_given (length c.args.group.now) (g.B.Backing.state c.args.backing.now) (g.B.Backing.state c.put_group.new.self) (g.B.Backing.state c.give_back.new.self) c.follow_all-gone.result (Goes-put c.put_group.result c.args.group.now (g.B.Backing.state c.args.backing.now) (g.B.Backing.state c.put_group.new.self) c.put_group.ensures.goes) c.give_back.ensures.given

pub returns-in_err-put_group-clause-goes : goal.returns-in_err-put_group-clause-goes
returns-in_err-put_group-clause-goes g c = Goes-put c.put_group.result c.args.group.now (g.B.Backing.state c.args.backing.now) (g.B.Backing.state c.put_group.new.self) c.put_group.ensures.goes

pub returns-in_err-put_group-clause-grows : goal.returns-in_err-put_group-clause-grows
returns-in_err-put_group-clause-grows g c =
    let f = group_failed (Unit {0}) (Unit {0}) c.in_err-put_group.field-0.0 c.args.group.now (g.B.Backing.state c.args.backing.now) (g.B.Backing.state c.put_group.new.self) c.args.kept.now c.in_err-put_group.ensures.goes in
    search (rules, f)

pub returns-clause-grows : goal.returns-clause-grows
returns-clause-grows g c =
    let gone = c.follow_all-gone.ensures.gone in
    no_more (length c.args.group.now) (g.B.Backing.state c.args.backing.now) (g.B.Backing.state c.give_back.new.self) c.args.kept.now c.follow_all-gone.new.kept (returns-clause-goes g c) (omega (arith, gone))

pub returns-clause-closed : goal.returns-clause-closed
returns-clause-closed g c =
    subst (λ (s : BackingState). s.closed ≤ (g.B.Backing.state c.args.backing.now).closed) (sym c.give_back.ensures.given) c.in_ok-put_group.ensures.ok.closed

pub returns-in_err-changes-clause-cut : goal.returns-in_err-changes-clause-cut
returns-in_err-changes-clause-cut g c =
    let old = g.B.Backing.state c.args.backing.now in
    let tree = (present old.tree c.args.kept.now).tree in
    let f = Puts-with tree c.args.group.now NotPut old.journal old.journal refl (Puts-none (ValuesOf tree) old.journal) in
    search (rules, f)

pub returns-in_err-put_group-clause-cut : goal.returns-in_err-put_group-clause-cut
returns-in_err-put_group-clause-cut g c =
    let old = g.B.Backing.state c.args.backing.now in
    let f = group_failed_cut (Unit {0}) (present old.tree c.args.kept.now).tree c.args.group.now old.journal (g.B.Backing.state c.put_group.new.self).journal c.in_err-put_group.field-0.0
    (present_ordered old.tree c.args.kept.now c.requires.kept) c.requires.names c.requires.granted.2.revives_none c.in_err-put_group.ensures.cut in
    search (rules, f)

pub returns-clause-cut : goal.returns-clause-cut
returns-clause-cut g c =
    let old = g.B.Backing.state c.args.backing.now in
    let put = g.B.Backing.state c.put_group.new.self in
    let one = group_done_cut (Unit {0}) (present old.tree c.args.kept.now).tree c.args.group.now old.journal put.journal (present_ordered old.tree c.args.kept.now c.requires.kept) c.requires.names c.requires.granted.2.revives_none c.in_ok-put_group.ensures.cut in
    with_given old put (g.B.Backing.state c.give_back.new.self) c.args.kept.now c.args.group.now WasPut c.follow_all-gone.result one c.give_back.ensures.given
