use Rattle.sound_image.proofs.PlainBuds.{plain_bud}
use Rattle.sound_image.proofs.laws.a_bud_of_plain_nodes_is_sound.Goals as goal

pub returns : goal.returns
returns c = plain_bud
