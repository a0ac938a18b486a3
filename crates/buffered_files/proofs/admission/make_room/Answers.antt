use Rattle.std.proofs.Common.{◌+◌, ◌*◌, arith, length}
use Rattle.buffered_files.proofs.Cutting.{nothing_then}
use Rattle.buffered_files.proofs.Growing.{none_put}
use Rattle.buffered_files.proofs.MakingRoom.{on_ok, all_put}
use Rattle.buffered_files.specs.CallLaws.{Goes-then, Goes-within}
use Rattle.buffered_files.proofs.admission.make_room.Goals as goal

pub returns-clause-goes : goal.returns-clause-goes
returns-clause-goes g c =
    let old = g.B.Backing.state c.args.backing.now in
    let put = g.B.Backing.state c.write_back.new.backing in
    let new = g.B.Backing.state c.commit.new.backing in
    let n = 2 * length c.args.kept.now.pages.dirty in
    Goes-within (n + 0) n old new (omega arith) (Goes-then n 0 old put new c.write_back.ensures.goes c.commit.ensures.goes)

pub returns-clause-room : goal.returns-clause-room
returns-clause-room g c =
    let old = g.B.Backing.state c.args.backing.now in
    let put = g.B.Backing.state c.write_back.new.backing in
    let new = g.B.Backing.state c.commit.new.backing in
    on_ok c.commit.result (λ done.
    all_put old put new c.args.kept.now c.write_back.new.kept done c.write_back.ensures.same c.in_ok-write_back.ensures.pages c.in_ok-write_back.ensures.inodes
    c.commit.ensures.files.tree c.commit.ensures.files.credits c.write_back.ensures.issued
    (g.met.B.Backing.used c.commit.new.backing) (g.met.B.Backing.main c.commit.new.backing) (returns-clause-goes g c)) c.commit.ensures.done

pub returns-clause-closed : goal.returns-clause-closed
returns-clause-closed g c = let put = c.write_back.ensures.closed in let done = c.commit.ensures.files.closed in omega (arith, put, done)

pub returns-clause-grows : goal.returns-clause-grows
returns-clause-grows g c =
    none_put _ (g.B.Backing.state c.args.backing.now) (g.B.Backing.state c.write_back.new.backing) (g.B.Backing.state c.commit.new.backing) c.args.kept.now c.write_back.new.kept c.in_ok-write_back.ensures.grows c.commit.ensures.goes

pub returns-clause-cut : goal.returns-clause-cut
returns-clause-cut g c =
    nothing_then (g.B.Backing.state c.args.backing.now) (g.B.Backing.state c.write_back.new.backing) (g.B.Backing.state c.commit.new.backing) c.args.kept.now c.write_back.ensures.cut c.commit.ensures.cut
