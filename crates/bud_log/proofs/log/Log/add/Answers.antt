use Rattle.std.proofs.Common.{◌≡◌, ◌≤◌, ◌+◌, ◌%◌, ℕ, Bool, length, sym, subst}
use Rattle.ubi_volume.specs.Volume.{WorksOn}
use Rattle.bud_log.specs.LogAt.{LogAt, IsAt, lnum_at, offs_at}
use Rattle.bud_log.specs.LogCalls.{BeginUnderWay, AddDuring}
use Rattle.bud_log.specs.contracts.log.Log.{the_view}
use Rattle.bud_log.proofs.Spelled.{at_here}
use Rattle.bud_log.proofs.log.Log.add.Goals as goal

pub returns-then-here-clause-at : goal.returns-then-here-clause-at
returns-then-here-clause-at g c =
    let a = g.V.Volume.state c.args.volume.now in
    let b = g.V.Volume.state c.write.new.self in
    let n = length c.args.bytes.now in
    let A : LogAt → Type 0 = λ at. IsAt a at in
    let R : LogAt → Type 0 = λ at. offs_at c.args.here at + n ≤ at.geo.leb_size in
    let H : Bool → Type 0 = λ here. offs_at here (the_view c.self.inside) + n ≤ c.self.inside.geometry.leb_size in
    let W : LogAt → Type 0 = λ at. n % at.geo.min_io ≡ 0 in
    at_here a b (the_view c.self.inside) n (subst A (sym c.self.view_is) c.requires.at) (subst H c.if-here.true (subst R (sym c.self.view_is) c.requires.room)) (subst W (sym c.self.view_is) c.requires.whole) c.in_ok-write.ensures.done.written c.write.ensures.shape

pub returns-clause-works : goal.returns-clause-works
returns-clause-works g c =
    let a = g.V.Volume.state c.args.volume.now in
    let b = g.V.Volume.state c.begin.new.volume in
    let n = length c.args.bytes.now in
    let W : ℕ → Type 0 = λ there. WorksOn a b there (BeginUnderWay a there n) in
    let H : Bool → Type 0 = λ here. WorksOn a b (lnum_at here (the_view c.self.inside)) (AddDuring here a (the_view c.self.inside) n) in
    let A : LogAt → Type 0 = λ at. WorksOn a b (lnum_at c.args.here at) (AddDuring c.args.here a at n) in
    subst A c.self.view_is (subst H (sym c.if-here.false) (subst W c.next_leb-next.ensures.next c.begin.ensures.works))
