use Rattle.plain_backing.specs.Story.{ended_story}
use Rattle.plain_backing.proofs.story.end_story.Given as goal

abbrev pub ghost-tell_of : goal.ghost-tell_of
ghost-tell_of a = λ told. ended_story told.value.value
