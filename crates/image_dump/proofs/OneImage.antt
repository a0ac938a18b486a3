-- An image begins with one superblock and has one geometry.
use Rattle.std.proofs.Common.{◌≡◌, ℕ, List, take, ap, sym, ◌∙◌, inl, inr}
use Rattle.ubifs_base.specs.Geometry.{IsGeometry}
use Rattle.ubifs_base.specs.GeometryFaults.{IsFirstOut, tested_fields}
use Rattle.ubifs_base.specs.NodeLaws.{IsBytes}
use Rattle.ubifs_base.specs.declared.raw_geometry.RawGeometry.{RawGeometry}
use Rattle.ubifs_base.specs.declared.raw_geometry.GeomFault.{GeomFault}
use Rattle.media_sys.specs.Features.{geometry_of}
use Rattle.media_sys.specs.SystemNode.{superblock}
use Rattle.media_sys.specs.declared.super_node.Super.{Super}
use Rattle.small_areas.specs.MasterLaws.{OneNode, take_bytes}
use Rattle.sound_image.specs.Superblock.{BeginsWithSuper}
use Rattle.image_dump.specs.Opening.{HasGeometry}

super_same : (m n : Super) → superblock m ≡ superblock n → m ≡ n
super_same m n h = cc

pub one_super : OneNode → (image : List ℕ) (m n : Super) → IsBytes image → BeginsWithSuper image m → BeginsWithSuper image n → m ≡ n
one_super one image m n fits a b = super_same m n (one (take 4096 image) a.sqnum a.group b.sqnum b.group (superblock m) (superblock n) (take_bytes 4096 image fits) a.is b.is).2

pub one_geometry : OneNode → (image : List ℕ) (g h : RawGeometry) → IsBytes image → HasGeometry image g → HasGeometry image h → g ≡ h
one_geometry one image g h fits a b = a.geometry ∙ ap geometry_of (one_super one image a.node b.node fits a.begins b.begins) ∙ sym b.geometry

-- a geometry in range has no field that is out of its range
pub none_out : (geo : RawGeometry) (out : GeomFault) → IsGeometry geo → IsFirstOut geo tested_fields out → ⊥
none_out geo out h (inl a) = a.0 h.min_io
none_out geo out h (inr (_, inl a)) = a.0 h.leb_size
none_out geo out h (inr (_, inr (_, inl a))) = a.0 h.log_lebs
none_out geo out h (inr (_, inr (_, inr (_, inl a)))) = a.0 h.lpt_lebs
none_out geo out h (inr (_, inr (_, inr (_, inr (_, inl a))))) = a.0 h.orph_lebs
none_out geo out h (inr (_, inr (_, inr (_, inr (_, inr (_, inl a)))))) = a.0 h.leb_cnt
none_out geo out h (inr (_, inr (_, inr (_, inr (_, inr (_, inr (_, inl a))))))) = a.0 (h.max_leb_cnt, h.one_leb)
none_out geo out h (inr (_, inr (_, inr (_, inr (_, inr (_, inr (_, inr (_, inl a)))))))) = a.0 h.fanout
none_out geo out h (inr (_, inr (_, inr (_, inr (_, inr (_, inr (_, inr (_, inr (_, never))))))))) = never
