-- LEBs into which nodes are laid, while one of them is open: its bytes are in a buffer.
use Rattle.std.specs.Prelude.{◌≡◌, ℕ, ◌+◌, ◌-◌, ◌%◌, ◌<◌, ◌≤◌, ◌^◌, List, [], ◌∷◌, ◌++◌, length, take}
use Rattle.ubifs_base.specs.Gap.{gap_of}
use Rattle.ubifs_base.specs.declared.raw_geometry.RawGeometry.{RawGeometry}
use Rattle.ubi_volume.specs.Volume.{filled}
use Rattle.lpt_area.specs.Written.{in_units}
use Rattle.media_sys.specs.Index.{Index}
use Rattle.media_sys.specs.SystemNode.{IsSystemNode, index, written}
use Rattle.media_sys.specs.declared.branch.Branch.{Branch}
use Rattle.index_media.specs.PlacedRow.{node_end}
use Rattle.laid_main.specs.Filling.{AreFilled, TakesOfLebs}
use Rattle.laid_index.specs.Packing.{len_over, packed}
use Rattle.laid_index.specs.declared.open_leb.OpenLeb.{OpenLeb}

-- the number of the open LEB
abbrev pub open_lnum : OpenLeb → ℕ
open_lnum leb = leb.first + length leb.used.items

-- the bytes taken of each LEB, the open one's last
abbrev pub bytes_taken_of : OpenLeb → List ℕ
bytes_taken_of leb = leb.used.items ++ length leb.bytes.items ∷ []

-- the bytes taken of each LEB once nodes of these lengths are laid too
abbrev pub taken_after : RawGeometry → OpenLeb → List ℕ → List ℕ
taken_after geo leb lens = leb.used.items ++ packed geo.leb_size (length leb.bytes.items) lens

-- an index node, and a gap to the next multiple of 8
abbrev pub node_text : ℕ → Index → List ℕ
node_text sqnum said = written sqnum 0 (index said) ++ gap_of (node_end (len_over (length said.branches)) - len_over (length said.branches))

-- contents in which LEBs are as they were closed, and the open one begins with the buffer's bytes
pub record GoesOnInLeb (leb : OpenLeb) (holds contents : ℕ → List ℕ) : Type 0 where
  pub closed : (k : ℕ) → k < open_lnum leb → contents k ≡ holds k
  pub front : take (length leb.bytes.items) (contents (open_lnum leb)) ≡ leb.bytes.items

-- closed LEBs are filled, and the buffer has whole words that fit a LEB
pub record IsLebOpen (geo : RawGeometry) (leb : OpenLeb) (holds : ℕ → List ℕ) : Type 0 where
  pub filled : AreFilled geo holds leb.first leb.used.items
  pub words : length leb.bytes.items % 8 ≡ 0
  pub fits : length leb.bytes.items ≤ geo.leb_size

-- The buffer went into its LEB, with a gap up to the unit, and the next LEB is open
pub record IsClosed (geo : RawGeometry) (old new : OpenLeb) (now : ℕ → List ℕ) : Type 0 where
  pub first : new.first ≡ old.first
  pub used : new.used.items ≡ old.used.items ++ length old.bytes.items ∷ []
  pub bytes : new.bytes.items ≡ []
  pub number : new.sqnum ≡ old.sqnum
  pub long : length (old.bytes.items ++ gap_of (in_units geo.min_io (length old.bytes.items) - length old.bytes.items)) ≡ in_units geo.min_io (length old.bytes.items)
  pub holds : now (open_lnum old) ≡ filled geo.leb_size (old.bytes.items ++ gap_of (in_units geo.min_io (length old.bytes.items) - length old.bytes.items))

-- There is room for a node of this length, and what is laid goes on to stand
pub record MakesRoom (geo : RawGeometry) (len : ℕ) (old : OpenLeb) (was : ℕ → List ℕ) (new : OpenLeb) (now : ℕ → List ℕ) : Type 0 where
  pub is_open : IsLebOpen geo new now
  pub first : new.first ≡ old.first
  pub number : new.sqnum ≡ old.sqnum
  pub fits : length new.bytes.items + len ≤ geo.leb_size
  pub lnum : open_lnum new < geo.leb_cnt
  pub goes_on : (contents : ℕ → List ℕ) → GoesOnInLeb new now contents → GoesOnInLeb old was contents
  pub takes : (before : List Branch) → TakesOfLebs old.first (bytes_taken_of old) before → TakesOfLebs new.first (bytes_taken_of new) before
  pub after : (lens : List ℕ) → taken_after geo new (len ∷ lens) ≡ taken_after geo old (len ∷ lens)

-- A node was put into the buffer
pub record IsNodeAppended (said : Index) (old new : OpenLeb) : Type 0 where
  pub first : new.first ≡ old.first
  pub used : new.used.items ≡ old.used.items
  pub bytes : new.bytes.items ≡ old.bytes.items ++ node_text old.sqnum said
  pub number : new.sqnum ≡ old.sqnum + 1
  pub node : IsSystemNode (written old.sqnum 0 (index said)) old.sqnum 0 (index said)
  pub long : length (written old.sqnum 0 (index said)) ≡ len_over (length said.branches)
  pub text : length (node_text old.sqnum said) ≡ node_end (len_over (length said.branches))

-- nodes of these lengths can be laid: LEBs and numbers suffice
pub record AreNodesReady (geo : RawGeometry) (lens : List ℕ) (leb : OpenLeb) (holds : ℕ → List ℕ) : Type 0 where
  pub is_open : IsLebOpen geo leb holds
  pub room : leb.first + length (taken_after geo leb lens) ≤ geo.leb_cnt
  pub number : leb.sqnum + length lens < 2 ^ 64

-- From an open LEB to a later one: what is laid goes on to stand, and nodes were laid to which these branches lead. Some are of these lengths.
pub record Lays (geo : RawGeometry) (lens : List ℕ) (branches : List Branch) (old : OpenLeb) (was : ℕ → List ℕ) (new : OpenLeb) (now : ℕ → List ℕ) : Type 0 where
  pub is_open : IsLebOpen geo new now
  pub first : new.first ≡ old.first
  pub goes_on : (contents : ℕ → List ℕ) → GoesOnInLeb new now contents → GoesOnInLeb old was contents
  pub takes : (before : List Branch) → TakesOfLebs old.first (bytes_taken_of old) before → TakesOfLebs new.first (bytes_taken_of new) (before ++ branches)
  pub after : (lens' : List ℕ) → taken_after geo new lens' ≡ taken_after geo old (lens ++ lens')
  pub number : new.sqnum ≡ old.sqnum + length branches
  pub many : length branches ≡ length lens
