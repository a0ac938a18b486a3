use Rattle.plain_backing.specs.Story.{synced_story}
use Rattle.plain_backing.proofs.story.sync_story.Given as goal

abbrev pub ghost-tell_of : goal.ghost-tell_of
ghost-tell_of a = λ told. synced_story told.value.value
