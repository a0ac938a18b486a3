-- How a run ended, over a keeper's files before and after it.
use Rattle.std.specs.Prelude.{◌≡◌, ℕ, IsTrue, List}
use Rattle.ubifs_base.specs.Faults.{Rose}
use Rattle.io_edges.specs.Keeper.{KeeperState, SameFiles, SetsFile}
use Rattle.ubifs_tools.specs.Command.{IsInputRead, file_line}
use Rattle.ubifs_tools.specs.RunCommand.{IsBadText, IsBadVolume, IsBadGeometry, IsRunDone, IsUnread}
use Rattle.ubifs_tools.specs.declared.command.Ended.{Ended}
use Rattle.ubifs_tools.specs.declared.command.Ended.TheVariants.{Unread, BadText, BadGeometry, Done}
use Rattle.ubifs_tools.specs.declared.command.RunEnded.{RunEnded}
use Rattle.ubifs_tools.specs.declared.command.RunEnded.TheVariants as run

-- the work was done, over these texts and with this image, which the keeper has now
pub record IsFinished (old new : KeeperState) (manifest script image : List ℕ) (text : List ℕ) : Type 0 where
  pub texts : List ℕ × List ℕ
  pub bytes : List ℕ
  pub read : IsInputRead old manifest script texts
  pub done : IsRunDone old texts text bytes
  pub written : IsTrue old.tells → SetsFile old image bytes new
  pub telling : new.tells ≡ old.tells

-- nothing was done, because of what was read; the files are as they were
pub record IsRunTurnedDown (old new : KeeperState) (manifest script : List ℕ) (Why : List ℕ × List ℕ → Type 0) : Type 0 where
  pub texts : List ℕ × List ℕ
  pub read : IsInputRead old manifest script texts
  pub why : Why texts
  pub same : SameFiles old new

-- how a run ended
abbrev pub IsRunEnded : KeeperState → KeeperState → List ℕ → List ℕ → List ℕ → RunEnded → Type 0
IsRunEnded old new manifest script image (run.Unread line) = IsUnread old new manifest script image line.items × SameFiles old new
IsRunEnded old new manifest script image (run.BadText line) = IsRunTurnedDown old new manifest script (λ texts. IsBadText texts line.items)
IsRunEnded old new manifest script image (run.BadImage line) = IsRunTurnedDown old new manifest script (λ texts. IsBadVolume texts line.items)
IsRunEnded old new manifest script image (run.BadGeometry line) = IsRunTurnedDown old new manifest script (λ texts. IsBadGeometry old texts line.items)
IsRunEnded old new manifest script image (run.Done text) = IsFinished old new manifest script image text.items

-- the image of a run was written, which printed this; or the keeper failed, and the line names the image
abbrev pub IsWrittenOut : KeeperState → KeeperState → List ℕ → List ℕ → List ℕ → RunEnded → Type 0
IsWrittenOut old new image bytes text (run.Done told) = (told.items ≡ text) × (IsTrue old.tells → SetsFile old image bytes new) × (new.tells ≡ old.tells)
IsWrittenOut old new image bytes text (run.Unread line) = Rose old.faults new.faults × (line.items ≡ file_line image) × SameFiles old new
IsWrittenOut old new image bytes text (run.BadText line) = ⊥
IsWrittenOut old new image bytes text (run.BadImage line) = ⊥
IsWrittenOut old new image bytes text (run.BadGeometry line) = ⊥

-- the line names this file, which a run didn't read or write
abbrev pub NamesRunFile : List ℕ → RunEnded → Type 0
NamesRunFile name (run.Unread line) = line.items ≡ file_line name
NamesRunFile name (run.BadText line) = ⊥
NamesRunFile name (run.BadImage line) = ⊥
NamesRunFile name (run.BadGeometry line) = ⊥
NamesRunFile name (run.Done text) = ⊥

-- the line names this file
abbrev pub NamesFile : List ℕ → Ended → Type 0
NamesFile name (Unread line) = line.items ≡ file_line name
NamesFile name (BadText line) = ⊥
NamesFile name (BadGeometry line) = ⊥
NamesFile name (Done text) = ⊥
