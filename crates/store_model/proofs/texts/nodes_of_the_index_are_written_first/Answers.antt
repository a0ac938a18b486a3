use Rattle.std.proofs.Common.{refl}
use Rattle.store_model.proofs.IndexCommits.{begin_indexed, end_indexed, free_indexed, move_indexed, offer_indexed}
use Rattle.store_model.proofs.texts.nodes_of_the_index_are_written_first.Goals as goal

pub returns-clause-begun : goal.returns-clause-begun
returns-clause-begun c = λ m victim s. begin_indexed m victim s.standing.indexed

pub returns-clause-moved : goal.returns-clause-moved
returns-clause-moved c = λ m copying can s. move_indexed m copying can.fits can.index.places can.index.children s.apart s.taking s.standing.indexed

pub returns-clause-freed : goal.returns-clause-freed
returns-clause-freed c = λ m s. free_indexed m m.moving refl s.apart s.taking s.standing.indexed

pub returns-clause-offered : goal.returns-clause-offered
returns-clause-offered c = λ m s. offer_indexed m s.standing.indexed

pub returns-clause-ended : goal.returns-clause-ended
returns-clause-ended c = λ m can s. end_indexed m m.next refl can s.apart s.taking s.standing.indexed
