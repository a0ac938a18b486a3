use Rattle.sound_image.proofs.LeastImage.{least_is_sound, least_is_told}
use Rattle.sound_image.proofs.laws.the_least_image_is_sound.Goals as goal

pub returns-clause-told : goal.returns-clause-told
returns-clause-told c = least_is_told

pub returns-clause-sound : goal.returns-clause-sound
returns-clause-sound c = least_is_sound
