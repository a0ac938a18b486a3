use Rattle.traced_files.proofs.Plain.{asked_few, plain_is_early}
use Rattle.traced_files.proofs.law.laws.Goals as goal

pub returns : goal.returns
returns c = record {
  answer = c.alike_files_answer_alike.ensures;
  need = c.alike_files_ask_alike.ensures.need;
  sound = c.an_operation_leaves_files_sound.ensures;
  short = asked_few;
  early = plain_is_early;
  few = c.a_call_adds_few_nodes.ensures;
  told = c.a_plain_answer_is_no_refusal.ensures;
  clean = c.clean_files_are_those_of_the_backing.ensures;
  bytes = c.a_reply_with_bytes_leaves_the_files.ensures;
  cuts = record {
    makes = c.groups_make_the_changes.ensures;
    pages = c.a_cut_leaves_what_was_put.ensures.not_put;
    event = c.a_cut_leaves_old_values_or_new_ones.ensures.event;
    refused = c.a_cut_leaves_old_values_or_new_ones.ensures.refused;
    flushed = c.a_cut_after_a_flush_leaves_the_files.ensures;
    synced = c.a_cut_keeps_what_was_synced.ensures.now;
  };
}
