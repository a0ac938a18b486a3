use Rattle.sound_image.proofs.OneBreach.{broken_rule, laws_of, none_wrong, one_breach}
use Rattle.sound_image.proofs.laws.a_first_breach_is_one.Goals as goal

pub returns-clause-rule : goal.returns-clause-rule
returns-clause-rule c = broken_rule (laws_of c.one_node.ensures c.one_node-2.ensures c.one_node-3.ensures.nnode c.one_text.ensures c.a_root_leads_to_one_index.ensures c.one_list.ensures c.still_there.ensures)

pub returns-clause-sound : goal.returns-clause-sound
returns-clause-sound c = none_wrong (laws_of c.one_node.ensures c.one_node-2.ensures c.one_node-3.ensures.nnode c.one_text.ensures c.a_root_leads_to_one_index.ensures c.one_list.ensures c.still_there.ensures)

pub returns-clause-one : goal.returns-clause-one
returns-clause-one c = one_breach (laws_of c.one_node.ensures c.one_node-2.ensures c.one_node-3.ensures.nnode c.one_text.ensures c.a_root_leads_to_one_index.ensures c.one_list.ensures c.still_there.ensures)
