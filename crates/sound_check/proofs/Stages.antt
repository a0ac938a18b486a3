-- What was read of the same contents.
use Rattle.std.proofs.Common.{◌≡◌, ℕ, List, subst}
use Rattle.sound_image.specs.Image.{Image}
use Rattle.sound_image.specs.declared.rule.Rule.{Rule}
use Rattle.sound_check.specs.Stages.{HasRecovered, IsImageUpTo}
use Rattle.sound_check.specs.declared.journal.FoundJournal.{FoundJournal}
use Rattle.sound_check.specs.declared.leaves.FoundLeaves.{FoundLeaves}

pub up_to_same : (rule : Rule) (one other : ℕ → List ℕ) (journal : FoundJournal) (image : Image) → one ≡ other → IsImageUpTo rule one journal image → IsImageUpTo rule other journal image
up_to_same rule one other journal image same h = let P : (ℕ → List ℕ) → Type 0 = λ contents. IsImageUpTo rule contents journal image in subst P same h

pub recovered_same : (rule : Rule) (one other : ℕ → List ℕ) (recovered : FoundLeaves) (image : Image) → one ≡ other → HasRecovered rule one recovered image → HasRecovered rule other recovered image
recovered_same rule one other recovered image same h = let P : (ℕ → List ℕ) → Type 0 = λ contents. HasRecovered rule contents recovered image in subst P same h
