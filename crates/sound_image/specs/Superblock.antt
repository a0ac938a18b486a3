-- The rule on the superblock (`ubifs_read_superblock` and `validate_sb` of Linux fs/ubifs).
use Rattle.std.specs.Prelude.{◌≡◌, ℕ, ◌≤◌, List, length, take, None}
use Rattle.ubifs_base.specs.Geometry.{IsGeometry}
use Rattle.ubifs_base.specs.declared.raw_geometry.RawGeometry.{RawGeometry}
use Rattle.media_sys.specs.Features.{features_of, first_of, geometry_of}
use Rattle.media_sys.specs.SystemNode.{IsSuper}
use Rattle.media_sys.specs.declared.super_node.Super.{Super}

-- a LEB begins with an intact superblock node, which says this
pub record BeginsWithSuper (leb : List ℕ) (node : Super) : Type 0 where
  pub room : 4096 ≤ length leb
  pub sqnum : ℕ
  pub group : ℕ
  pub is : IsSuper (take 4096 leb) sqnum group node

-- LEB 0 begins with an intact superblock node, which needs no unknown feature, and whose geometry is this and in range.
pub record HasSuperblock (contents : ℕ → List ℕ) (geo : RawGeometry) : Type 0 where
  pub node : Super
  pub begins : BeginsWithSuper (contents 0) node
  pub known : first_of (features_of node) ≡ None
  pub geometry : geo ≡ geometry_of node
  pub in_range : IsGeometry geo
