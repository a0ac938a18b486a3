use Rattle.std.proofs.Common.{◌*◌, ◌≤◌, sym, subst}
use Rattle.ubifs_base.specs.RawOf.{raw_of}
use Rattle.fs_model.specs.Cover.{index_lebs}
use Rattle.space_budget.specs.Books.{AreGrantsCovered, BookState, after_commit}
use Rattle.space_budget.proofs.Covering.{commit-covers}
use Rattle.space_budget.proofs.book.Book.committed.Goals as goal

pub returns-clause-covered : goal.returns-clause-covered
returns-clause-covered c =
    let book : BookState = record { geo = raw_of c.self.inside.geo; space = c.self.inside.space; grant = c.self.inside.grant } in
    let P : BookState → Type 0 = λ v. AreGrantsCovered v → AreGrantsCovered (after_commit book c.args.weight c.args.index c.args.empty) in
    let W : BookState → Type 0 = λ v. c.args.weight ≤ v.space.weight in
    let I : BookState → Type 0 = λ v. c.args.index ≤ 2 * index_lebs v.geo v.space.weight in
    subst P c.self.view_is (commit-covers c.a_commit_keeps_what_was_granted.ensures.index book c.args.weight c.args.index c.args.empty
    (subst W (sym c.self.view_is) c.requires.weight) (subst I (sym c.self.view_is) c.requires.index))
