-- The numbers of the journal's heads (ubifs-media.h).
use Rattle.std.proofs.Common.{refl}
use Rattle.std.specs.Prelude.{◌≡◌, ℕ, ◌==◌, if◌then◌else◌, Option, Some, None}
use Rattle.ubifs_base.specs.declared.journal_head.JournalHead.{JournalHead}
use Rattle.ubifs_base.specs.declared.journal_head.JournalHead.TheVariants.{Collector, Base, Data}

-- the number in a reference
abbrev pub head_number : JournalHead → ℕ
head_number Collector = 0
head_number Base = 1
head_number Data = 2

-- the head of a number
abbrev pub head_numbered : ℕ → Option JournalHead
head_numbered n = if n == 0 then Some Collector else if n == 1 then Some Base else if n == 2 then Some Data else None

-- a head is that of its number
pub head-numbered : (head : JournalHead) → head_numbered (head_number head) ≡ Some head
head-numbered Collector = refl
head-numbered Base = refl
head-numbered Data = refl
