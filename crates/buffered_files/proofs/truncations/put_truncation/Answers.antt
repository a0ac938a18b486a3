use Rattle.std.proofs.Common.{◌≤◌, ◌≡◌, ◌+◌, length, ap, arith, rules, subst, sym, ◌∙◌, inl}
use Rattle.std.specs.Prelude.{filter}
use Rattle.fs_model.specs.Backing.{BackingState, FitsGroup, FitsOrphans}
use Rattle.fs_model.specs.Change.{apply}
use Rattle.fs_model.specs.Orphan.{nameless}
use Rattle.buffered_files.specs.declared.kept.Kept.{Kept}
use Rattle.buffered_files.specs.CallLaws.{Goes-put}
use Rattle.buffered_files.specs.Cuts.GroupFate.{WasPut}
use Rattle.buffered_files.specs.Follow.{followed, is_of_inode}
use Rattle.buffered_files.specs.Present.{present}
use Rattle.buffered_files.specs.Resized.{EndsInside, pages_left}
use Rattle.buffered_files.proofs.Alike.{present_alike, present_bytes}
use Rattle.buffered_files.proofs.Cutting.{with_given}
use Rattle.buffered_files.proofs.PlaceValues.{present_ordered}
use Rattle.buffered_files.proofs.Growing.{group_failed, no_more}
use Rattle.buffered_files.proofs.GroupPut.{GroupPut, goes_given}
use Rattle.buffered_files.proofs.Resizing.{resized_alike, seen_there}
use Rattle.buffered_files.proofs.SizePut.{ends_inside, size_made}
use Rattle.buffered_files.proofs.SizeValues.{none_by_fault, size_done_cut, size_failed_cut}
use Rattle.buffered_files.proofs.truncations.put_truncation.Given.{Over}
use Rattle.buffered_files.proofs.truncations.put_truncation.Goals as goal

pub put_group-requires : goal.put_group-requires
put_group-requires g c =
    let old = g.B.Backing.state c.args.backing.now in
    let kept = c.args.kept.now in
    let seen = (present old.tree kept).tree in
    let group = c.args.group.now in
    let it = c.requires.granted in
    let r = c.requires.resizing in
    let alike = present_alike old.tree kept c.requires.kept in
    let fits = c.groups_fit_trees_built_alike.ensures.fits seen old.tree it.0 group alike (present_bytes old.tree kept c.requires.kept) c.requires.kept.proper it.2 in
    let same : length (nameless (apply seen group)) ≡ length (nameless seen) =
    c.groups_fit_trees_built_alike.ensures.nameless (apply seen group) seen (resized_alike seen group (present_ordered old.tree kept c.requires.kept).inodes r (seen_there old.tree kept r.ino r.inode c.requires.kept r.found)) in
    let few : FitsOrphans seen old.closed old.orphan_limit group = inl (omega (arith, same)) in
    record {
      grant = it.0;
      granted = it.1;
      revives_none = fits.revives_none;
      paid = λ proper. fits;
      orphans = λ proper. c.groups_fit_trees_built_alike.ensures.orphans seen old.tree old.closed old.orphan_limit group alike few;
    }

pub drop_pages-requires : goal.drop_pages-requires
drop_pages-requires g c = subst EndsInside (sym c.as_slice-2.ensures) (ends_inside (present (g.B.Backing.state c.args.backing.now).tree c.args.kept.now).tree c.args.group.now c.requires.resizing)

made : (g : Over) (c : goal.After-give_back g) → GroupPut (g.B.Backing.state c.args.backing.now).tree (g.B.Backing.state c.give_back.new.self).tree c.args.kept.now c.drop_pages.new.kept c.args.group.now
made g c =
    let old = g.B.Backing.state c.args.backing.now in
    let kept = c.args.kept.now in
    let seen = (present old.tree kept).tree in
    let it = c.requires.granted in
    let fits : FitsGroup old.tree it.0 c.args.group.now = c.groups_fit_trees_built_alike.ensures.fits seen old.tree it.0 c.args.group.now (present_alike old.tree kept c.requires.kept) (present_bytes old.tree kept c.requires.kept) c.requires.kept.proper it.2 in
    let copied : c.in_ok-changes.changes.items ≡ filter is_of_inode c.args.group.now = c.in_ok-changes.ensures ∙ ap (λ changes. filter is_of_inode changes) c.as_slice.ensures in
    let first : c.follow_all.new.kept ≡ followed kept c.in_ok-changes.changes.items = c.follow_all.ensures.kept in
    let last : c.drop_pages.new.kept ≡ record c.follow_all.new.kept { pages = pages_left c.follow_all.new.kept.pages c.args.group.now } = c.drop_pages.ensures.kept ∙ ap (λ changes. record c.follow_all.new.kept { pages = pages_left c.follow_all.new.kept.pages changes }) c.as_slice-2.ensures in
    let left : Kept → Kept = λ k. record k { pages = pages_left k.pages c.args.group.now } in
    size_made old (g.B.Backing.state c.put_group.new.self) (g.B.Backing.state c.give_back.new.self) kept c.drop_pages.new.kept c.args.group.now c.in_ok-changes.changes.items it.0 (c.follow_all.result + c.drop_pages.result)
    c.requires.kept c.dirty-dirty.ensures.cache.dirty_once c.requires.resizing fits c.in_ok-put_group.ensures.ok copied (last ∙ ap left first) c.give_back.ensures.given

pub returns-clause-kept : goal.returns-clause-kept
returns-clause-kept g c = (made g c).fits

pub returns-clause-ok : goal.returns-clause-ok
returns-clause-ok g c = (made g c).seen

pub returns-clause-goes : goal.returns-clause-goes
returns-clause-goes g c =
    goes_given (length c.args.group.now) (g.B.Backing.state c.args.backing.now) (g.B.Backing.state c.put_group.new.self) (g.B.Backing.state c.give_back.new.self) (c.follow_all.result + c.drop_pages.result) (Goes-put c.put_group.result c.args.group.now (g.B.Backing.state c.args.backing.now) (g.B.Backing.state c.put_group.new.self) c.put_group.ensures.goes) c.give_back.ensures.given

pub returns-in_err-put_group-clause-goes : goal.returns-in_err-put_group-clause-goes
returns-in_err-put_group-clause-goes g c = Goes-put c.put_group.result c.args.group.now (g.B.Backing.state c.args.backing.now) (g.B.Backing.state c.put_group.new.self) c.put_group.ensures.goes

pub returns-in_err-put_group-clause-grows : goal.returns-in_err-put_group-clause-grows
returns-in_err-put_group-clause-grows g c =
    let f = group_failed (Unit {0}) (Unit {0}) c.in_err-put_group.field-0.0 c.args.group.now (g.B.Backing.state c.args.backing.now) (g.B.Backing.state c.put_group.new.self) c.args.kept.now c.in_err-put_group.ensures.goes in
    search (rules, f)

pub returns-clause-grows : goal.returns-clause-grows
returns-clause-grows g c =
    let gone = c.follow_all.ensures.gone in
    let more = c.drop_pages.ensures.gone in
    no_more (length c.args.group.now) (g.B.Backing.state c.args.backing.now) (g.B.Backing.state c.give_back.new.self) c.args.kept.now c.drop_pages.new.kept (returns-clause-goes g c) (omega (arith, gone, more))

pub returns-clause-closed : goal.returns-clause-closed
returns-clause-closed g c =
    subst (λ (s : BackingState). s.closed ≤ (g.B.Backing.state c.args.backing.now).closed) (sym c.give_back.ensures.given) c.in_ok-put_group.ensures.ok.closed

pub returns-in_err-changes-clause-cut : goal.returns-in_err-changes-clause-cut
returns-in_err-changes-clause-cut g c =
    let old = g.B.Backing.state c.args.backing.now in
    none_by_fault (Unit {0}) c.from_residual.result (present old.tree c.args.kept.now).tree c.args.group.now old.journal c.from_residual.ensures.0

pub returns-in_err-put_group-clause-cut : goal.returns-in_err-put_group-clause-cut
returns-in_err-put_group-clause-cut g c =
    let old = g.B.Backing.state c.args.backing.now in
    let f = size_failed_cut (Unit {0}) (present old.tree c.args.kept.now).tree c.args.group.now old.journal (g.B.Backing.state c.put_group.new.self).journal c.in_err-put_group.field-0.0
    (present_ordered old.tree c.args.kept.now c.requires.kept) c.requires.resizing c.requires.granted.2.revives_none c.in_err-put_group.ensures.cut in
    search (rules, f)

pub returns-clause-cut : goal.returns-clause-cut
returns-clause-cut g c =
    let old = g.B.Backing.state c.args.backing.now in
    let put = g.B.Backing.state c.put_group.new.self in
    let one = size_done_cut (present old.tree c.args.kept.now).tree c.args.group.now old.journal put.journal (present_ordered old.tree c.args.kept.now c.requires.kept) c.requires.resizing c.requires.granted.2.revives_none c.in_ok-put_group.ensures.cut in
    with_given old put (g.B.Backing.state c.give_back.new.self) c.args.kept.now c.args.group.now WasPut (c.follow_all.result + c.drop_pages.result) one c.give_back.ensures.given
