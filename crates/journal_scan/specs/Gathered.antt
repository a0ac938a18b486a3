-- What is read of one LEB after another.
use Rattle.std.specs.Prelude.{◌≡◌, List, [], ◌∷◌, ◌++◌, map}
use Rattle.std.specs.List.{AllByRecursion}
use Rattle.journal_scan.specs.Content.{told}
use Rattle.journal_scan.specs.Journal.{BudRead, IsBudRead, copies_in, greatest_in, journal_nodes_in}
use Rattle.journal_scan.specs.declared.bud_text.BudText.{BudText}
use Rattle.journal_scan.specs.declared.journal_read.JournalRead.{JournalRead}

-- the nodes, the copies and the tails of these LEBs stand behind what was read before, and their numbers were looked at
pub record AreBehind (reads : List BudRead) (old new : JournalRead) : Type 0 where
  pub nodes : new.nodes.items ≡ old.nodes.items ++ map told (journal_nodes_in reads)
  pub copies : new.copies.items ≡ old.copies.items ++ map told (copies_in reads)
  pub sqnum : new.sqnum ≡ greatest_in old.sqnum reads
  pub tails : new.tails.items ≡ old.tails.items ++ map (λ x. x.tail) reads

-- what these LEBs say was put behind what was read before
pub record AreGathered (buds : List BudText) (reads : List BudRead) (old new : JournalRead) : Type 0 where
  pub of_buds : map (λ x. x.bud) reads ≡ buds
  pub texts : AllByRecursion IsBudRead reads
  pub behind : AreBehind reads old new

-- what one LEB says was
pub record IsOneMore (bud : BudText) (one : BudRead) (old new : JournalRead) : Type 0 where
  pub of_bud : one.bud ≡ bud
  pub text : IsBudRead one
  pub behind : AreBehind (one ∷ []) old new
