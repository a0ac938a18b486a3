use Rattle.sound_image.proofs.FirstOf.{no_sooner_on, one_is_first, one_way}
use Rattle.sound_image.proofs.laws.of_some_places_one_is_first.Goals as goal

pub returns-clause-first : goal.returns-clause-first
returns-clause-first c = one_is_first

pub returns-clause-later : goal.returns-clause-later
returns-clause-later c = no_sooner_on

pub returns-clause-one_way : goal.returns-clause-one_way
returns-clause-one_way c = one_way
