use Rattle.std.proofs.Common.{◌∙◌, []}
use Rattle.fs_model.specs.JournalLaws.{Leaves-then}
use Rattle.buffered_files.specs.CallLaws.{Goes-then, Files-then, Sure-then}
use Rattle.buffered_files.proofs.commits.finish.Goals as goal

pub loop-left-preserved : goal.loop-left-preserved
loop-left-preserved g c =
    let i = c.loop-left.invariant in
    let old = g.B.Backing.state c.args.backing.now in
    let now = g.B.Backing.state c.loop-left.backing in
    let new = g.B.Backing.state c.step-in-loop-left.new.backing in
    let e = c.step-in-loop-left.ensures in
    let ok = c.in_ok-left-2.ensures in
    record {
      told = ok.told;
      running = rw ok.running i.running;
      later = ok.later ∙ i.later;
      files = Files-then old now new i.files e.files;
      cut = Leaves-then old.journal now.journal new.journal [] [] i.cut e.cut;
      goes = Goes-then 0 0 old now new i.goes e.goes;
      sure = Sure-then (g.B.Backing.outlook c.args.backing.now) (g.B.Backing.outlook c.loop-left.backing) (g.B.Backing.outlook c.step-in-loop-left.new.backing) old now new i.sure e.sure;
    }

pub returns-in_err-commit_end-clause-goes : goal.returns-in_err-commit_end-clause-goes
returns-in_err-commit_end-clause-goes g c =
    Goes-then 0 0 (g.B.Backing.state c.args.backing.now) (g.B.Backing.state c.loop-left.backing) (g.B.Backing.state c.commit_end.new.self) c.loop-left.invariant.goes c.commit_end.ensures.goes

pub returns-in_err-left-2-clause-goes : goal.returns-in_err-left-2-clause-goes
returns-in_err-left-2-clause-goes g c =
    Goes-then 0 0 (g.B.Backing.state c.args.backing.now) (g.B.Backing.state c.loop-left.backing) (g.B.Backing.state c.step-in-loop-left.new.backing) c.loop-left.invariant.goes c.step-in-loop-left.ensures.goes

pub returns-in_err-commit_end-clause-cut : goal.returns-in_err-commit_end-clause-cut
returns-in_err-commit_end-clause-cut g c =
    Leaves-then (g.B.Backing.state c.args.backing.now).journal (g.B.Backing.state c.loop-left.backing).journal (g.B.Backing.state c.commit_end.new.self).journal [] [] c.loop-left.invariant.cut c.commit_end.ensures.cut

pub returns-in_err-left-2-clause-cut : goal.returns-in_err-left-2-clause-cut
returns-in_err-left-2-clause-cut g c =
    Leaves-then (g.B.Backing.state c.args.backing.now).journal (g.B.Backing.state c.loop-left.backing).journal (g.B.Backing.state c.step-in-loop-left.new.backing).journal [] [] c.loop-left.invariant.cut c.step-in-loop-left.ensures.cut

pub returns-clause-cut : goal.returns-clause-cut
returns-clause-cut g c =
    Leaves-then (g.B.Backing.state c.args.backing.now).journal (g.B.Backing.state c.loop-left.backing).journal (g.B.Backing.state c.commit_end.new.self).journal [] [] c.loop-left.invariant.cut c.commit_end.ensures.cut
