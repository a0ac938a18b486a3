use Rattle.sound_image.proofs.Readable.{have_places, readable}
use Rattle.sound_image.proofs.laws.a_mount_can_read_a_sound_image.Goals as goal

pub returns-clause-readable : goal.returns-clause-readable
returns-clause-readable c = readable

pub returns-clause-places : goal.returns-clause-places
returns-clause-places c = have_places c.nodes_have_places.ensures.places
