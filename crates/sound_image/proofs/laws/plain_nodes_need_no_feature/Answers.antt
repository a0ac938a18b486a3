use Rattle.sound_image.proofs.KnownNodes.{blank_known, plain_known}
use Rattle.sound_image.proofs.laws.plain_nodes_need_no_feature.Goals as goal

pub returns-clause-blank : goal.returns-clause-blank
returns-clause-blank c = blank_known

pub returns-clause-plain : goal.returns-clause-plain
returns-clause-plain c = plain_known
