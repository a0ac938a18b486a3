-- The LEBs of a volume in memory as pieces.
use Rattle.std.specs.Prelude.{ℕ, List}
use Rattle.ubi_volume.specs.MemVolume.{state_of}
use Rattle.ubi_volume.specs.Volume.{image_of}
use Rattle.ubi_volume.specs.declared.mem_volume.MemVolume.{MemVolume}
use Rattle.io_edges.specs.Pieces.{PieceList}
use Rattle.ubifs_tools.specs.declared.volume_pieces.VolumePieces.{VolumePieces}

-- the bytes of a volume
abbrev pub volume_image : MemVolume → List ℕ
volume_image volume = image_of (state_of volume).holds (state_of volume).leb_cnt

-- its LEBs
abbrev pub pieces_of : VolumePieces → PieceList
pieces_of it = record { count = (state_of it.volume).leb_cnt; size = (state_of it.volume).leb_size; piece = (state_of it.volume).holds }
