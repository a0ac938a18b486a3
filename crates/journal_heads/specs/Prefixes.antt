-- What a cut leaves of the nodes that were put on a head: a first part of them, with all that were synced.
use Rattle.std.specs.Prelude.{◌≡◌, ℕ, ◌+◌, ◌≤◌, List, ◌++◌, length}
use Rattle.leb_scan.specs.Meant.{IsMeant, ShowsFirst}
use Rattle.leb_scan.specs.Text.{Stand}
use Rattle.leb_scan.specs.declared.item.Item.{Item}
use Rattle.ubi_volume.specs.Volume.{VolumeState, Torn, filled}
use Rattle.write_buffer.specs.Buffer.{Buffered, IsOpenFor, text_of}

-- A head's text, as it is meant to stand in its LEB with nothing behind it: these items, one behind another, whether or not a unit begins within one.
pub record IsMeantText (size : ℕ) (text : List ℕ) (items : List Item) : Type 0 where
  pub fits : length text ≤ size
  pub stand : Stand (filled size text) 0 items (length text)

-- A head has put these bytes behind its text, which all wait or are under way, and a cut left this of its LEB. No item that was torn begins one.
pub record IsCutHead (state : VolumeState) (buffer : Buffered) (lnum : ℕ) (bytes : List ℕ) (items : List Item) (left : List ℕ) : Type 0 where
  pub opened : IsOpenFor state buffer lnum
  pub held : length (state.holds lnum) ≡ state.leb_size
  pub meant : IsMeantText state.leb_size (text_of state buffer lnum ++ bytes) items
  pub torn : (units : ℕ) × Torn buffer.place units (state.holds lnum) left
  pub premise : IsMeant (filled state.leb_size (text_of state buffer lnum ++ bytes)) 0 items left

-- what it left shows a first part of the items, with all that end in what was written
abbrev pub ShowsPut : VolumeState → Buffered → ℕ → List ℕ → List Item → List ℕ → Type 0
ShowsPut state buffer lnum bytes items left =
    ShowsFirst (filled state.leb_size (text_of state buffer lnum ++ bytes)) 0 (length (text_of state buffer lnum ++ bytes)) items buffer.place left

-- the first of the items, which end in what a sync wrote
pub record AreSyncedItems (state : VolumeState) (buffer : Buffered) (lnum : ℕ) (bytes : List ℕ) (before : List Item) : Type 0 where
  pub end : ℕ
  pub stand : Stand (filled state.leb_size (text_of state buffer lnum ++ bytes)) 0 before end
  pub written : end ≤ buffer.place
