use Rattle.std.proofs.Common.{arith}
use Rattle.ubifs_base.specs.RawOf.{raw_of}
use Rattle.space_budget.specs.Books.{BookState}
use Rattle.space_budget.proofs.Covering.{admission-covers}
use Rattle.space_budget.proofs.book.Book.admit.Goals as goal

pub returns-clause-covered : goal.returns-clause-covered
returns-clause-covered c =
    let book : BookState = record { geo = raw_of c.self.inside.geo; space = c.self.inside.space; grant = c.self.inside.grant } in
    admission-covers c.what_was_admitted_can_be_put.ensures.granted book c.args.need.now (record { fits = omega (arith, c.room-sides.ensures.need, c.room-sides.ensures.limit, c.if-sides.false) })
