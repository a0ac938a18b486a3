-- What a mount replays of an image.
use Rattle.std.specs.Prelude.{◌≡◌, ℕ, List, map}
use Rattle.bud_log.specs.Buds.{buds_of}
use Rattle.bud_log.specs.Log.{references_of}
use Rattle.index_tree.specs.Shape.{contents as leaves_in}
use Rattle.index_tree.specs.Tree.{shape}
use Rattle.index_tree.specs.declared.index.Index.{Index}
use Rattle.index_media.specs.PlacedRow.{plain}
use Rattle.log_replay.specs.Replay.{IsReplayed, told_committed}
use Rattle.log_replay.specs.declared.replayed.Replayed.{Replayed}
use Rattle.sound_image.specs.Buds.{bud_text}
use Rattle.sound_image.specs.Image.{Image}

-- This index in memory has the leaves of an image's committed index.
abbrev pub IsCommittedIndex : Image → Index → Type 0
IsCommittedIndex image index = leaves_in (shape index.root) ≡ leaves_in (plain image.placed)

-- This is replayed of an image: of an index with its committed leaves, of what stands at their places, of the texts of its buds, and of its list.
abbrev pub IsReplayOf : (ℕ → List ℕ) → Image → Index → Replayed → Type 0
IsReplayOf contents image index made =
    IsCommittedIndex image index × IsReplayed index (map told_committed image.committed) (map (bud_text contents) (buds_of (references_of image.log))) image.listed made
