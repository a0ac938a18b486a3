use Rattle.store_model.proofs.TextOpens.{open_texts}
use Rattle.store_model.proofs.TextPuts.{put_texts}
use Rattle.store_model.proofs.TextSyncs.{drop_texts, sync_texts}
use Rattle.store_model.proofs.Units.{some_unit}
use Rattle.store_model.proofs.texts.texts_have_what_was_put.Goals as goal

pub returns-clause-put : goal.returns-clause-put
returns-clause-put c = λ m p can s. put_texts m p can.parts (some_unit m.geo s.geometry) s.apart s.since s.numbers s.standing.texts

pub returns-clause-open : goal.returns-clause-open
returns-clause-open c = λ m head lnum can s. open_texts m head lnum can.empty (some_unit m.geo s.geometry) s.geometry.leb_size.2 s.apart s.taking s.standing.texts

pub returns-clause-sync : goal.returns-clause-sync
returns-clause-sync c = λ m s. sync_texts m (some_unit m.geo s.geometry) s.geometry.leb_size.2 s.apart s.taking s.standing.texts

pub returns-clause-dropped : goal.returns-clause-dropped
returns-clause-dropped c = λ m ino index s. drop_texts m ino index s.apart s.taking s.standing.texts
