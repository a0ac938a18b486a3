use Rattle.std.proofs.Common.{subst}
use Rattle.ubifs_base.specs.RawOf.{raw_of}
use Rattle.space_budget.specs.Books.{AreGrantsCovered, BookState, after_return}
use Rattle.space_budget.proofs.Covering.{return-covers}
use Rattle.space_budget.proofs.book.Book.give_back.Goals as goal

pub returns-clause-covered : goal.returns-clause-covered
returns-clause-covered c =
    let book : BookState = record { geo = raw_of c.self.inside.geo; space = c.self.inside.space; grant = c.self.inside.grant } in
    let P : BookState → Type 0 = λ v. AreGrantsCovered v → AreGrantsCovered (after_return book c.args.credits) in
    subst P c.self.view_is (return-covers c.more_never_lowers_the_need.ensures.admitted book c.args.credits)
