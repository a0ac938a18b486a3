use Rattle.index_commit.proofs.Rooming.{next_taken}
use Rattle.index_commit.proofs.laws.a_leb_follows_those_before_it.Goals as goal

pub returns : goal.returns
returns c = λ geo lebs full lnum a b d i j k. next_taken c.places_are_kept.ensures.both geo lebs full lnum a b d i j k
