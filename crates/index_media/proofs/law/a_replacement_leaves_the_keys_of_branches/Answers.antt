use Rattle.index_media.proofs.RemovedContents.{replaced_leaves}
use Rattle.index_media.proofs.Removing.{replaced_bare, replaced_bounded}
use Rattle.index_media.proofs.law.a_replacement_leaves_the_keys_of_branches.Goals as goal

pub returns : goal.returns
returns c = record { same = replaced_bare; contents = replaced_leaves; keys = replaced_bounded }
