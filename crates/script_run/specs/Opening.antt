-- With which numbers a volume is mounted.
use Rattle.ubifs_base.specs.declared.raw_geometry.RawGeometry.{RawGeometry}
use Rattle.ubifs_base.specs.Areas.{main_lebs}
use Rattle.fs_model.specs.declared.space.Space.{Space}
use Rattle.fs_model.specs.Cover.{tree_bytes}
use Rattle.fs_model.specs.Files.{Tree}

-- The numbers of a volume with these files whose image has this space, before any call: the image's, but that of bytes only those of the files count.
abbrev pub mounted_space : RawGeometry → Tree → Space → Space
mounted_space geo tree space = record { used = tree_bytes tree; held = 0; credits = 0; empty = space.empty; index = space.index; weight = space.weight; main = main_lebs geo }
