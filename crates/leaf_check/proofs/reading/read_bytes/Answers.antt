use Rattle.leaf_check.proofs.reading.read_bytes.Goals as goal

pub room_of-requires : goal.room_of-requires
room_of-requires g c = (c.has_place.ensures.yes c.if-not-has_place.false).most
