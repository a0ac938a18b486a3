use Rattle.plain_backing.specs.Story.{begun}
use Rattle.plain_backing.proofs.story.begin_story.Given as goal

abbrev pub ghost-tell_of : goal.ghost-tell_of
ghost-tell_of a = λ told. begun told.0.value.value told.1.value
