use Rattle.std.proofs.Common.{rules}
use Rattle.laid_index.proofs.Answering.{others_works}
use Rattle.laid_index.proofs.open_leb.write_leb.Goals as goal

pub returns-in_err-change-clause-answer : goal.returns-in_err-change-clause-answer
returns-in_err-change-clause-answer g c = record {
  others = others_works (g.V.Volume.state c.args.volume.now) (g.V.Volume.state c.change.new.self) c.args.lnum _ c.change.ensures.works;
  spent = c.change.ensures.works.spent;
  shape = c.change.ensures.shape;
  cause = search rules;
  sure = search rules;
}

pub returns-clause-answer : goal.returns-clause-answer
returns-clause-answer g c = record {
  others = others_works (g.V.Volume.state c.args.volume.now) (g.V.Volume.state c.change.new.self) c.args.lnum _ c.change.ensures.works;
  spent = c.change.ensures.works.spent;
  shape = c.change.ensures.shape;
  cause = search rules;
  sure = search rules;
}
