use Rattle.image_volume.proofs.Loaded.{loaded_state}
use Rattle.image_volume.proofs.image_volume.ImageVolume.new.Goals as goal

pub returns-clause-loaded : goal.returns-clause-loaded
returns-clause-loaded c = loaded_state c.args.shape c.args.bytes.now c.requires
