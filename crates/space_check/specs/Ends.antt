-- The free bytes at the ends of main LEBs.
use Rattle.std.specs.Prelude.{◌≡◌, ◌≢◌, ℕ, ◌+◌, ◌<◌, ◌≤◌, ◌==◌, ◌&&◌, nat_lt, not, Bool, List, get_or}
use Rattle.ubifs_base.specs.declared.raw_geometry.RawGeometry.{RawGeometry}
use Rattle.media_lpt.specs.declared.lprop.Lprop.{Lprop}
use Rattle.media_sys.specs.declared.master.Master.{Master}
use Rattle.space_check.specs.declared.written_byte.WrittenByte.{WrittenByte}

-- whether the end of a main LEB has to be unwritten: some of its bytes are free, but not all, and index nodes don't go on there
abbrev pub has_free_end : RawGeometry → Master → ℕ → Lprop → Bool
has_free_end geo master lnum prop = nat_lt 0 prop.free && (nat_lt prop.free geo.leb_size && not (lnum == master.ihead_lnum))

-- the bytes from an offset on are unwritten
abbrev pub IsUnwrittenFrom : List ℕ → ℕ → Type 0
IsUnwrittenFrom leb from = (k : ℕ) → from ≤ k → get_or leb k 255 ≡ 255

-- from an offset on this byte is the first that is written
pub record IsFirstWritten (leb : List ℕ) (from : ℕ) (at : WrittenByte) : Type 0 where
  pub behind : from ≤ at.offs
  pub byte : at.byte ≡ get_or leb at.offs 255
  pub written : get_or leb at.offs 255 ≢ 255
  pub before : (k : ℕ) → from ≤ k → k < at.offs → get_or leb k 255 ≡ 255

-- of the bytes of a LEB from an offset on this is the first that is written
pub record IsFirstIn (end : List ℕ) (from : ℕ) (at : WrittenByte) : Type 0 where
  pub place : ℕ
  pub offs : at.offs ≡ from + place
  pub byte : at.byte ≡ get_or end place 255
  pub written : get_or end place 255 ≢ 255
  pub before : (k : ℕ) → k < place → get_or end k 255 ≡ 255
