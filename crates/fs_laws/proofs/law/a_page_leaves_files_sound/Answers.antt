use Rattle.fs_laws.proofs.Pages.{page_keeps}
use Rattle.fs_laws.proofs.law.a_page_leaves_files_sound.Goals as goal

pub returns : goal.returns
returns c files page = page_keeps files page
