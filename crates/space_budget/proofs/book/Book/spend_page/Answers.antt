use Rattle.std.proofs.Common.{sym, subst}
use Rattle.ubifs_base.specs.RawOf.{raw_of}
use Rattle.space_budget.specs.Books.{AreGrantsCovered, BookState, IsPaidByCredit, after_page}
use Rattle.space_budget.proofs.Covering.{page-covers}
use Rattle.space_budget.proofs.book.Book.spend_page.Goals as goal

pub returns-clause-covered : goal.returns-clause-covered
returns-clause-covered c =
    let book : BookState = record { geo = raw_of c.self.inside.geo; space = c.self.inside.space; grant = c.self.inside.grant } in
    let P : BookState → Type 0 = λ v. AreGrantsCovered v → AreGrantsCovered (after_page book c.args.used c.args.held c.args.nodes) in
    let Q : BookState → Type 0 = λ v. IsPaidByCredit v.space c.args.used c.args.held c.args.nodes in
    subst P c.self.view_is (page-covers c.what_was_admitted_can_be_put.ensures.page book c.args.used c.args.held c.args.nodes (subst Q (sym c.self.view_is) c.requires.paid))
