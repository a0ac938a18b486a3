use Rattle.image_report.proofs.Laid.{files_magic, one_files}
use Rattle.image_report.proofs.OneTold.{one_space}
use Rattle.image_report.proofs.volume_law.bytes_hold_one_tree.Goals as goal

pub returns-clause-one : goal.returns-clause-one
returns-clause-one c = one_files c.never_both.ensures.geometry c.one_tree_is_read.ensures

pub returns-clause-space : goal.returns-clause-space
returns-clause-space c = one_space c.never_both.ensures.geometry c.contents_say_one_thing.ensures.image

pub returns-clause-magic : goal.returns-clause-magic
returns-clause-magic c = files_magic
