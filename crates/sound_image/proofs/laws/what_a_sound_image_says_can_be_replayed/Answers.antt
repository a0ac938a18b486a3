use Rattle.sound_image.proofs.Replaying.{copies_set_something, lebs_named, places_named, sound_found}
use Rattle.sound_image.proofs.laws.what_a_sound_image_says_can_be_replayed.Goals as goal

pub returns-clause-copies : goal.returns-clause-copies
returns-clause-copies c = copies_set_something

pub returns-clause-found : goal.returns-clause-found
returns-clause-found c = sound_found c.a_stored_index_is_an_index.ensures.index

pub returns-clause-places : goal.returns-clause-places
returns-clause-places c = places_named

pub returns-clause-lebs : goal.returns-clause-lebs
returns-clause-lebs c = lebs_named
