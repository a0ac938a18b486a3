use Rattle.image_report.proofs.Laid.{laid_bytes, laid_files, laid_holds}
use Rattle.image_report.proofs.volume_law.the_bytes_of_a_volume_hold_what_it_holds.Goals as goal

pub returns-clause-image : goal.returns-clause-image
returns-clause-image c = laid_holds

pub returns-clause-files : goal.returns-clause-files
returns-clause-files c = laid_files c.the_files_of_an_image_are_proper.ensures.proper c.the_files_of_an_image_are_proper.ensures.whole

pub returns-clause-bytes : goal.returns-clause-bytes
returns-clause-bytes c = λ contents geo are. laid_bytes contents geo.leb_cnt are.lebs.bytes
