use Rattle.index_media.proofs.RemovingSound.{replaced_count, replaced_fits, replaced_levelled, replaced_keys}
use Rattle.index_media.proofs.law.a_replacement_keeps_what_nodes_are.Goals as goal

pub returns : goal.returns
returns c = record { children = replaced_fits; number = replaced_count; levels = replaced_levelled; keys = replaced_keys }
