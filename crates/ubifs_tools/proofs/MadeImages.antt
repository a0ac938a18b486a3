-- How a making of an image ended once it was to be written.
use Rattle.std.proofs.Common.{◌≡◌, List, ℕ, ap, inl, inr, refl, sym, subst, ◌∙◌}
use Rattle.std.specs.Prelude.{IsTrue, Result, Ok, Err, IfOk, ◌++◌, zero, suc}
use Rattle.ubifs_base.specs.Faults.{Rose-before}
use Rattle.io_edges.specs.Keeper.{KeeperState, SetsFile}
use Rattle.io_edges.specs.Pieces.{first_pieces}
use Rattle.ubi_volume.specs.Volume.{image_of}
use Rattle.ubifs_tools.specs.Command.{Told}
use Rattle.ubifs_tools.specs.Copies.{FilesStay}
use Rattle.ubifs_tools.specs.Making.{IsMadeOf, IsMkfsEnded, IsMkfsFinished, IsWrittenAs}
use Rattle.ubifs_tools.specs.declared.command.Ended.{Ended}
use Rattle.ubifs_tools.specs.declared.command.Ended.TheVariants.{Unread, BadText, BadGeometry, Done}
use Rattle.ubifs_tools.proofs.Making.{sets_over}

-- LEBs one behind another are the bytes of their volume
pub image_in_pieces : (holds : ℕ → List ℕ) (n : ℕ) → first_pieces holds n ≡ image_of holds n
image_in_pieces holds zero = refl
image_in_pieces holds (suc n) = ap (λ (front : List ℕ). front ++ holds n) (image_in_pieces holds n)

-- what was written and told is what was made
finished_with : (old new last : KeeperState) (manifest image text told bytes : List ℕ) → Told old manifest text → IsMadeOf old text told bytes → FilesStay old new
    → (IsTrue new.tells → SetsFile new image bytes last) → last.tells ≡ new.tells → IsMkfsFinished old last manifest image told
finished_with old new last manifest image text told bytes read made stay written telling = record {
  text = text;
  bytes = bytes;
  read = read;
  made = made;
  written = sets_over old new last image bytes bytes stay.same stay.telling refl written;
  telling = telling ∙ stay.telling;
}

pub made_out : {E : Type 0} (r : Result Ended E) (old new last : KeeperState) (manifest image text told bytes : List ℕ) → Told old manifest text → IsMadeOf old text told bytes → FilesStay old new
    → IfOk r (IsWrittenAs new last image bytes told) → IfOk r (IsMkfsEnded old last manifest image)
made_out (Err fault) old new last manifest image text told bytes read made stay written = tt
made_out (Ok (Done line)) old new last manifest image text told bytes read made stay written =
    subst (λ t. IsMkfsFinished old last manifest image t) (sym written.0) (finished_with old new last manifest image text told bytes read made stay written.1 written.2)
made_out (Ok (Unread line)) old new last manifest image text told bytes read made stay written = record {
  name = image;
  why = inl (Rose-before old.faults new.faults last.faults stay.counted written.0, inr (inl refl));
  line_is = written.1;
  same = λ name. written.2 name ∙ stay.same name;
}
made_out (Ok (BadText line)) old new last manifest image text told bytes read made stay written = absurd written
made_out (Ok (BadGeometry line)) old new last manifest image text told bytes read made stay written = absurd written
