use Rattle.std.proofs.Common.{◌<◌, ℕ, arith, sym, subst}
use Rattle.ubifs_base.specs.JournalHead.{head_number}
use Rattle.ubifs_base.specs.declared.journal_head.JournalHead.{JournalHead}
use Rattle.ubifs_base.specs.declared.journal_head.JournalHead.TheVariants.{Base, Collector, Data}
use Rattle.journal_heads.proofs.heads.index_of.Goals as goal

below_three : (head : JournalHead) → head_number head < 3
below_three Collector = omega arith
below_three Base = omega arith
below_three Data = omega arith

pub returns-clause-less : goal.returns-clause-less
returns-clause-less c = let P : ℕ → Type 0 = λ n. n < 3 in subst P (sym c.number.ensures) (below_three c.args.head)
