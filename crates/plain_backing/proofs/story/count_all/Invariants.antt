use Rattle.plain_backing.specs.Story.{with_all}
use Rattle.plain_backing.proofs.story.count_all.Given as goal

abbrev pub ghost-tell_of : goal.ghost-tell_of
ghost-tell_of a = λ told. with_all told.value.value
