use Rattle.journal_scan.proofs.Whole.{gaps_have_none, leaves_joined}
use Rattle.journal_scan.proofs.laws.leaves_are_joined.Goals as goal

pub returns-clause-joined : goal.returns-clause-joined
returns-clause-joined c = leaves_joined

pub returns-clause-gaps : goal.returns-clause-gaps
returns-clause-gaps c = gaps_have_none
