use Rattle.ubi_volume.specs.MemVolume.{state_of}
use Rattle.ubifs_tools.proofs.MadeImages.{image_in_pieces}
use Rattle.ubifs_tools.proofs.volume_pieces.VolumePieces.new.Goals as goal

pub returns : goal.returns
returns c = image_in_pieces (state_of c.args.volume).holds (state_of c.args.volume).leb_cnt
