use Rattle.std.proofs.Common.{[]}
use Rattle.fs_model.specs.JournalLaws.{Leaves-then}
use Rattle.buffered_files.specs.CallLaws.{Goes-then}
use Rattle.buffered_files.proofs.commits.commit.Goals as goal

pub returns-in-Began-clause-goes : goal.returns-in-Began-clause-goes
returns-in-Began-clause-goes g c =
    Goes-then 0 0 (g.B.Backing.state c.args.backing.now) (g.B.Backing.state c.commit_start.new.self) (g.B.Backing.state c.finish.new.backing) c.commit_start.ensures.goes c.finish.ensures.goes

pub returns-in_err-finish-in-Running-clause-goes : goal.returns-in_err-finish-in-Running-clause-goes
returns-in_err-finish-in-Running-clause-goes g c =
    Goes-then 0 0 (g.B.Backing.state c.args.backing.now) (g.B.Backing.state c.commit_start.new.self) (g.B.Backing.state c.finish-in-Running.new.backing) c.commit_start.ensures.goes c.finish-in-Running.ensures.goes

pub returns-in_err-commit_start-in-Running-clause-goes : goal.returns-in_err-commit_start-in-Running-clause-goes
returns-in_err-commit_start-in-Running-clause-goes g c =
    let old = g.B.Backing.state c.args.backing.now in
    let begun = g.B.Backing.state c.commit_start.new.self in
    let ended = g.B.Backing.state c.finish-in-Running.new.backing in
    let new = g.B.Backing.state c.commit_start-in-Running.new.self in
    Goes-then 0 0 old ended new (Goes-then 0 0 old begun ended c.commit_start.ensures.goes c.finish-in-Running.ensures.goes) c.commit_start-in-Running.ensures.goes

pub returns-in_ok-commit_start-in-Running-clause-goes : goal.returns-in_ok-commit_start-in-Running-clause-goes
returns-in_ok-commit_start-in-Running-clause-goes g c =
    let old = g.B.Backing.state c.args.backing.now in
    let begun = g.B.Backing.state c.commit_start.new.self in
    let ended = g.B.Backing.state c.finish-in-Running.new.backing in
    let again = g.B.Backing.state c.commit_start-in-Running.new.self in
    let new = g.B.Backing.state c.finish-in-Running-2.new.backing in
    Goes-then 0 0 old again new (Goes-then 0 0 old ended again (Goes-then 0 0 old begun ended c.commit_start.ensures.goes c.finish-in-Running.ensures.goes) c.commit_start-in-Running.ensures.goes) c.finish-in-Running-2.ensures.goes

pub returns-in-Began-clause-cut : goal.returns-in-Began-clause-cut
returns-in-Began-clause-cut g c =
    Leaves-then (g.B.Backing.state c.args.backing.now).journal (g.B.Backing.state c.commit_start.new.self).journal (g.B.Backing.state c.finish.new.backing).journal [] [] c.commit_start.ensures.cut c.finish.ensures.cut

pub returns-in_err-finish-in-Running-clause-cut : goal.returns-in_err-finish-in-Running-clause-cut
returns-in_err-finish-in-Running-clause-cut g c =
    Leaves-then (g.B.Backing.state c.args.backing.now).journal (g.B.Backing.state c.commit_start.new.self).journal (g.B.Backing.state c.finish-in-Running.new.backing).journal [] [] c.commit_start.ensures.cut c.finish-in-Running.ensures.cut

pub returns-in_err-commit_start-in-Running-clause-cut : goal.returns-in_err-commit_start-in-Running-clause-cut
returns-in_err-commit_start-in-Running-clause-cut g c =
    let old = (g.B.Backing.state c.args.backing.now).journal in
    let begun = (g.B.Backing.state c.commit_start.new.self).journal in
    let ended = (g.B.Backing.state c.finish-in-Running.new.backing).journal in
    let new = (g.B.Backing.state c.commit_start-in-Running.new.self).journal in
    Leaves-then old ended new [] [] (Leaves-then old begun ended [] [] c.commit_start.ensures.cut c.finish-in-Running.ensures.cut) c.commit_start-in-Running.ensures.cut

pub returns-in_ok-commit_start-in-Running-clause-cut : goal.returns-in_ok-commit_start-in-Running-clause-cut
returns-in_ok-commit_start-in-Running-clause-cut g c =
    let old = (g.B.Backing.state c.args.backing.now).journal in
    let begun = (g.B.Backing.state c.commit_start.new.self).journal in
    let ended = (g.B.Backing.state c.finish-in-Running.new.backing).journal in
    let again = (g.B.Backing.state c.commit_start-in-Running.new.self).journal in
    let new = (g.B.Backing.state c.finish-in-Running-2.new.backing).journal in
    Leaves-then old again new [] [] (Leaves-then old ended again [] [] (Leaves-then old begun ended [] [] c.commit_start.ensures.cut c.finish-in-Running.ensures.cut) c.commit_start-in-Running.ensures.cut) c.finish-in-Running-2.ensures.cut
