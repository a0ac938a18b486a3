use Rattle.std.proofs.Common.{length}
use Rattle.page_cache.specs.Pages.{pages_of}
use Rattle.file_tests.proofs.page_cache_tests.clean_all.Given as goal

abbrev pub decreases-loop-ticket : goal.decreases-loop-ticket
decreases-loop-ticket l = length (pages_of l.cache.dirty l.ino)
