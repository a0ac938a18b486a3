-- How a run ended, over the keeper's files before its texts were read.
use Rattle.std.proofs.Common.{◌≡◌, List, ℕ, inl, inr, refl, sym, subst, ◌∙◌}
use Rattle.std.specs.Prelude.{IsTrue, Result, Ok, Err, IfOk, OnErr}
use Rattle.ubifs_base.specs.Faults.{Rose-before}
use Rattle.io_edges.specs.Keeper.{KeeperState, SameFiles, SetsFile}
use Rattle.ubifs_tools.specs.Command.{IsInputRead}
use Rattle.ubifs_tools.specs.Copies.{FilesStay}
use Rattle.ubifs_tools.specs.Ended.{IsRunEnded, IsFinished, IsRunTurnedDown, IsWrittenOut}
use Rattle.ubifs_tools.specs.declared.command.RunEnded.{RunEnded}
use Rattle.ubifs_tools.specs.declared.command.RunEnded.TheVariants as ended
use Rattle.ubifs_tools.specs.RunCommand.{IsBadGeometry, IsBadText, IsBadVolume, IsCopyUnread, IsRunDone, IsUnread}
use Rattle.ubifs_tools.proofs.Making.{sets_over}
use Rattle.ubifs_tools.proofs.Readings.{bad_before, copy_before, done_before, stay_all}

-- what a run reads, and what it leaves as it was
pub record HasBegun (old mid new : KeeperState) (manifest script : List ℕ) (texts : List ℕ × List ℕ) : Type 0 where
  pub read : IsInputRead old manifest script texts
  pub before : FilesStay old mid
  pub after : FilesStay mid new

pub turned_text : (old mid new : KeeperState) (manifest script : List ℕ) (texts : List ℕ × List ℕ) (line : List ℕ) → HasBegun old mid new manifest script texts → IsBadText texts line
    → IsRunTurnedDown old new manifest script (λ texts. IsBadText texts line)
turned_text old mid new manifest script texts line h why = record { texts = texts; read = h.read; why = why; same = (stay_all old mid new h.before h.after).same }

pub turned_volume : (old mid new : KeeperState) (manifest script : List ℕ) (texts : List ℕ × List ℕ) (line : List ℕ) → HasBegun old mid new manifest script texts → IsBadVolume texts line
    → IsRunTurnedDown old new manifest script (λ texts. IsBadVolume texts line)
turned_volume old mid new manifest script texts line h why = record { texts = texts; read = h.read; why = why; same = (stay_all old mid new h.before h.after).same }

pub turned_geometry : (old mid new : KeeperState) (manifest script : List ℕ) (texts : List ℕ × List ℕ) (line : List ℕ) → HasBegun old mid new manifest script texts → IsBadGeometry mid texts line
    → IsRunTurnedDown old new manifest script (λ texts. IsBadGeometry old texts line)
turned_geometry old mid new manifest script texts line h why =
    record { texts = texts; read = h.read; why = bad_before old mid texts line h.before why; same = (stay_all old mid new h.before h.after).same }

pub unread_copy : (old mid new : KeeperState) (manifest script image : List ℕ) (texts : List ℕ × List ℕ) (line : List ℕ) → HasBegun old mid new manifest script texts → IsCopyUnread mid new texts line → IsUnread old new manifest script image line
unread_copy old mid new manifest script image texts line h unread = inr (inr (inr (texts, h.read, copy_before old mid new texts line h.before unread)))

pub finished : (old mid new last : KeeperState) (manifest script image : List ℕ) (texts : List ℕ × List ℕ) (text bytes given : List ℕ) → HasBegun old mid new manifest script texts → IsRunDone mid texts text bytes → given ≡ bytes
    → (IsTrue new.tells → SetsFile new image given last) → last.tells ≡ new.tells → IsFinished old last manifest script image text
finished old mid new last manifest script image texts text bytes given h done is written telling =
    let all = stay_all old mid new h.before h.after in
    record {
      texts = texts;
      bytes = bytes;
      read = h.read;
      done = done_before old mid texts text bytes h.before done;
      written = sets_over old new last image bytes given all.same all.telling is written;
      telling = telling ∙ all.telling;
    }

-- how a run ended once its image was to be written
pub written_out : {E : Type 0} (r : Result RunEnded E) (old mid new last : KeeperState) (manifest script image : List ℕ) (texts : List ℕ × List ℕ) (text bytes given : List ℕ) → HasBegun old mid new manifest script texts → IsRunDone mid texts text bytes → given ≡ bytes
    → IfOk r (IsWrittenOut new last image given text) → IfOk r (IsRunEnded old last manifest script image)
written_out (Err fault) old mid new last manifest script image texts text bytes given h done is written = tt
written_out (Ok (ended.Done told)) old mid new last manifest script image texts text bytes given h done is written =
    subst (λ t. IsFinished old last manifest script image t) (sym written.0) (finished old mid new last manifest script image texts text bytes given h done is written.1 written.2)
written_out (Ok (ended.Unread line)) old mid new last manifest script image texts text bytes given h done is written =
    let all = stay_all old mid new h.before h.after in
    (inl (Rose-before old.faults new.faults last.faults all.counted written.0, (image, inr (inr refl), written.1)), λ name. written.2 name ∙ all.same name)
written_out (Ok (ended.BadText line)) old mid new last manifest script image texts text bytes given h done is written = absurd written
written_out (Ok (ended.BadImage line)) old mid new last manifest script image texts text bytes given h done is written = absurd written
written_out (Ok (ended.BadGeometry line)) old mid new last manifest script image texts text bytes given h done is written = absurd written

pub left_same : {T E : Type 0} (r : Result T E) (old mid new last : KeeperState) → FilesStay old mid → FilesStay mid new → OnErr r (SameFiles new last) → OnErr r (SameFiles old last)
left_same (Ok x) old mid new last before after same = tt
left_same (Err fault) old mid new last before after same = λ name. same name ∙ (stay_all old mid new before after).same name
