use Rattle.std.specs.Prelude.{[], ◌∷◌}
use Rattle.fs_model.specs.Journal.{base_head}
use Rattle.plain_backing.specs.Story.{failed_puts}
use Rattle.plain_backing.proofs.story.add_group.Given as goal

abbrev pub ghost-tell_of : goal.ghost-tell_of
ghost-tell_of a = λ told. failed_puts told.0.value.value ((base_head, told.1.value) ∷ [])
