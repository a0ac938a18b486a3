use Rattle.plain_backing.specs.Story.{opened_story}
use Rattle.plain_backing.proofs.story.open_story.Given as goal

abbrev pub ghost-tell_of : goal.ghost-tell_of
ghost-tell_of a = opened_story
