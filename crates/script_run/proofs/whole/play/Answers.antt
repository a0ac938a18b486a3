use Rattle.std.proofs.Common.{sym, ◌∙◌}
use Rattle.ubifs_base.specs.RawOf.{raw_of}
use Rattle.script_run.proofs.Openings.{settled_unspent}
use Rattle.script_run.proofs.whole.play.Goals as goal

pub read_text-requires-clause-unspent : goal.read_text-requires-clause-unspent
read_text-requires-clause-unspent g c = settled_unspent (raw_of c.args.geometry) c.in_ok-space.space c.in-Some.cause (sym c.settled.ensures ∙ c.in-Some.is)
