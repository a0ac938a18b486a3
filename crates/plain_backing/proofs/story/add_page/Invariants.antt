use Rattle.fs_model.specs.Backing.{page_puts}
use Rattle.plain_backing.specs.Story.{failed_puts}
use Rattle.plain_backing.proofs.story.add_page.Given as goal

abbrev pub ghost-tell_of : goal.ghost-tell_of
ghost-tell_of a = λ told. failed_puts told.0.value.value (page_puts told.1.value)
