use Rattle.fs_laws.proofs.Pages.{page_fits}
use Rattle.fs_laws.proofs.law.a_page_keeps_trees_proper.Goals as goal

pub returns : goal.returns
returns c tree page = page_fits tree page
