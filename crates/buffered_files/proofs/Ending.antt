-- What holds while a commit is brought to its end.
use Rattle.std.proofs.Common.{◌≡◌, ℕ, []}
use Rattle.std.specs.Prelude.{is_some, true}
use Rattle.fs_model.specs.Backing.{BackingState, Outlook, Goes, KeepsFiles}
use Rattle.fs_model.specs.Journal.{Leaves}
use Rattle.buffered_files.specs.Calls.{SureGoes}

-- what holds with so many LEBs of the index left to write
pub record Ending (x y : Outlook) (old now : BackingState) (left : ℕ) : Type 0 where
  pub told : left ≡ now.journal.left
  pub running : is_some now.journal.running ≡ true
  pub later : now.journal.later ≡ old.journal.later
  pub files : KeepsFiles old now
  pub cut : Leaves old.journal now.journal []
  pub goes : Goes 0 old now
  pub sure : SureGoes x y old now
