use Rattle.std.proofs.Common.{◌≤◌, arith, subst, sym}
use Rattle.fs_model.specs.Backing.{BackingState, next_orphans}
use Rattle.fs_model.specs.Change.{without_inode}
use Rattle.fs_model.specs.Proper.{IsProper}
use Rattle.buffered_files.specs.Present.{present}
use Rattle.buffered_files.proofs.Alike.{present_alike}
use Rattle.buffered_files.proofs.Growing.{no_more}
use Rattle.buffered_files.proofs.GroupPut.{goes_given}
use Rattle.buffered_files.proofs.Dropping.{Dropped, alike_without, dropped, nameless_alike, nodes_without, orphan_gone, orphans_kept}
use Rattle.buffered_files.proofs.orphans.drop_orphan.Given.{Over}
use Rattle.buffered_files.proofs.orphans.drop_orphan.Goals as goal

pub drop_orphan-requires : goal.drop_orphan-requires
drop_orphan-requires g c =
    let tree = (g.B.Backing.state c.args.backing.now).tree in
    nameless_alike (present tree c.args.kept.now).tree tree c.args.ino (present_alike tree c.args.kept.now c.requires.kept) c.requires.nameless

made : (g : Over) (c : goal.After-give_back g) → Dropped (g.B.Backing.state c.args.backing.now).tree (g.B.Backing.state c.give_back.new.self).tree c.args.kept.now c.let_go-gone.new.kept c.args.ino
made g c =
    let old = g.B.Backing.state c.args.backing.now in
    let kept = c.args.kept.now in
    let alike = present_alike old.tree kept c.requires.kept in
    let none = nameless_alike (present old.tree kept).tree old.tree c.args.ino alike c.requires.nameless in
    let proper : IsProper (without_inode old.tree c.args.ino) = c.trees_built_alike_are_proper.ensures.proper (without_inode (present old.tree kept).tree c.args.ino) (without_inode old.tree c.args.ino)
    c.requires.proper (alike_without (present old.tree kept).tree old.tree c.args.ino alike) (nodes_without old.tree c.args.ino c.requires.kept.proper) in
    dropped old (g.B.Backing.state c.drop_orphan.new.self) (g.B.Backing.state c.give_back.new.self) kept c.let_go-gone.new.kept c.args.ino c.let_go-gone.result
    c.requires.kept none proper c.in_ok-drop_orphan.ensures.ok c.let_go-gone.ensures.kept c.give_back.ensures.given

pub returns-clause-kept : goal.returns-clause-kept
returns-clause-kept g c = (made g c).fits

pub returns-clause-ok : goal.returns-clause-ok
returns-clause-ok g c = (made g c).seen

pub returns-clause-goes : goal.returns-clause-goes
returns-clause-goes g c =
    goes_given 0 (g.B.Backing.state c.args.backing.now) (g.B.Backing.state c.drop_orphan.new.self) (g.B.Backing.state c.give_back.new.self) c.let_go-gone.result c.drop_orphan.ensures.goes c.give_back.ensures.given

pub returns-clause-grows : goal.returns-clause-grows
returns-clause-grows g c =
    let gone = c.let_go-gone.ensures.gone in
    no_more 0 (g.B.Backing.state c.args.backing.now) (g.B.Backing.state c.give_back.new.self) c.args.kept.now c.let_go-gone.new.kept (returns-clause-goes g c) (omega (arith, gone))

pub returns-clause-orphans : goal.returns-clause-orphans
returns-clause-orphans g c =
    let old = g.B.Backing.state c.args.backing.now in
    let alike = present_alike old.tree c.args.kept.now c.requires.kept in
    let none = nameless_alike (present old.tree c.args.kept.now).tree old.tree c.args.ino alike c.requires.nameless in
    subst (λ (s : BackingState). next_orphans s ≤ next_orphans old) (sym c.give_back.ensures.given) (orphan_gone old (g.B.Backing.state c.drop_orphan.new.self) c.args.ino none c.in_ok-drop_orphan.ensures.ok)

pub returns-in_err-drop_orphan-clause-orphans : goal.returns-in_err-drop_orphan-clause-orphans
returns-in_err-drop_orphan-clause-orphans g c = orphans_kept (g.B.Backing.state c.args.backing.now) (g.B.Backing.state c.drop_orphan.new.self) c.in_err-drop_orphan.ensures.err

pub returns-in_err-drop_orphan-clause-grows : goal.returns-in_err-drop_orphan-clause-grows
returns-in_err-drop_orphan-clause-grows g c = no_more 0 (g.B.Backing.state c.args.backing.now) (g.B.Backing.state c.drop_orphan.new.self) c.args.kept.now c.args.kept.now c.drop_orphan.ensures.goes (omega arith)
