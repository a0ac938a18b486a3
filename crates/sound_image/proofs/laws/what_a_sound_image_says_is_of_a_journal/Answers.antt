use Rattle.sound_image.proofs.OfJournal.{replayed_highest, replayed_leaves, replayed_nodes, sound_journal, sound_parts}
use Rattle.sound_image.proofs.laws.what_a_sound_image_says_is_of_a_journal.Goals as goal

pub returns-clause-journal : goal.returns-clause-journal
returns-clause-journal c = sound_journal c.nodes_have_places.ensures.places c.a_stored_index_is_an_index.ensures.index

pub returns-clause-parts : goal.returns-clause-parts
returns-clause-parts c = sound_parts c.nodes_have_places.ensures.places c.a_stored_index_is_an_index.ensures.index

pub returns-clause-leaves : goal.returns-clause-leaves
returns-clause-leaves c = replayed_leaves c.nodes_have_places.ensures.places c.a_stored_index_is_an_index.ensures.index c.one_text.ensures c.one_node.ensures

pub returns-clause-highest : goal.returns-clause-highest
returns-clause-highest c = replayed_highest c.nodes_have_places.ensures.places c.a_stored_index_is_an_index.ensures.index c.one_text.ensures c.one_node.ensures c.what_was_read_has_the_numbers.ensures.highest

pub returns-clause-nodes : goal.returns-clause-nodes
returns-clause-nodes c = replayed_nodes c.nodes_have_places.ensures.places c.a_stored_index_is_an_index.ensures.index c.one_text.ensures c.one_node.ensures
