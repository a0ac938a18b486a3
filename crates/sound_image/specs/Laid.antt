-- LEBs that hold one node alone, a log to which nothing else was written, and leaves without attributes.
use Rattle.std.specs.Prelude.{◌≡◌, ◌≢◌, ⊤, ℕ, ◌%◌, ◌^◌, ◌<◌, bit_and, false, IsTrue, List, ◌++◌, length}
use Rattle.ubifs_base.specs.Gap.{gap_of}
use Rattle.ubifs_base.specs.declared.raw_geometry.RawGeometry.{RawGeometry}
use Rattle.ubi_volume.specs.Volume.{filled}
use Rattle.media_leaf.specs.LeafNode.{LeafNode, inode, block, entry, truncation}
use Rattle.media_sys.specs.SystemNode.{commit_start, written}
use Rattle.leb_scan.specs.Text.{is_blank}
use Rattle.bud_log.specs.Log.{IsLogLeb}

-- a LEB begins with these bytes, of whole words; behind them are a gap and unwritten bytes
pub record BeginsAlone (leb bytes : List ℕ) : Type 0 where
  pub size : ℕ
  pub gap : ℕ
  pub is : leb ≡ filled size (bytes ++ gap_of gap)
  pub words : length bytes % 8 ≡ 0
  pub even : gap % 8 ≡ 0
  pub fits : gap < 2 ^ 32

-- a log of which this LEB holds the start of this commit alone, and in whose others nothing is written
pub record IsFreshLog (contents : ℕ → List ℕ) (geo : RawGeometry) (from sqnum cmt_no : ℕ) : Type 0 where
  pub in_log : IsLogLeb geo from
  pub start : BeginsAlone (contents from) (written sqnum 0 (commit_start (record { cmt_no = cmt_no })))
  pub blank : (lnum : ℕ) → IsLogLeb geo lnum → lnum ≢ from → IsTrue (is_blank (contents lnum))

-- a leaf node that says nothing of attributes: an inode without them, and no entry of one
abbrev pub IsPlainLeaf : LeafNode → Type 0
IsPlainLeaf (inode node) = (bit_and node.flags 0x20 ≡ 0) × (node.xattr_cnt ≡ 0)
IsPlainLeaf (entry node) = node.attribute ≡ false
IsPlainLeaf (block node) = ⊤
IsPlainLeaf (truncation node) = ⊤
