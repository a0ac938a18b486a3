use Rattle.std.proofs.Common.{◌∙◌, sym, ap, subst}
use Rattle.ubifs_base.specs.Geometry.{IsGeometry}
use Rattle.store_model.specs.Invariant.{main_lnums}
use Rattle.store_model.proofs.whole.each_event_keeps_a_store.Goals as goal

pub returns : goal.returns
returns c = λ m event can s rest.
    let area = c.each_event_keeps_the_main_area.ensures in
    let geo = area.geometry m event in
    record {
      geometry = subst IsGeometry (sym geo) s.geometry;
      main = area.lebs m event ∙ s.main ∙ ap main_lnums (sym geo);
      files = c.each_event_keeps_the_files.ensures m event can s.distinct s.files;
      owned = c.each_event_keeps_blocks_with_their_inodes.ensures m event can s.distinct s.files s.owned;
      views = c.each_event_keeps_what_was_committed.ensures m event can s;
      distinct = c.each_event_keeps_leaves_apart.ensures m event can s;
      places = c.each_event_keeps_a_place_for_each_node.ensures m event can s.places;
      stands = c.live_leaves_stand.ensures m event can s;
      bare = c.each_event_keeps_other_lebs_bare.ensures m event can s.apart s.bare;
      proper_now = c.each_event_keeps_a_proper_tree.ensures m event can s;
      proper = rest.proper;
      data_head = c.each_event_keeps_the_head_of_data.ensures m event can s.data_head;
      history = c.each_event_keeps_the_history.ensures m event can s;
      leads = c.each_event_keeps_what_the_journal_leads_to.ensures m event can s.proper_now s.nameless_are s.apart s.numbers s.begun s.leads;
      numbers = c.each_event_keeps_the_numbers.ensures m event can s.numbers;
      accounted = c.each_event_loses_no_committed_leaf.ensures m event can s;
      gone = c.each_event_keeps_what_is_gone.ensures m event can s;
      whole_or_left = c.each_event_leaves_lebs_whole_or_left.ensures m event can s;
      orphans = c.each_event_keeps_the_orphans.ensures m event can s;
      nameless_are = c.each_event_keeps_who_has_no_name.ensures m event can s;
      apart = c.each_event_keeps_what_lebs_are_for.ensures m event can s.taking s.since s.apart;
      taking = c.each_event_keeps_what_a_commit_took.ensures m event can s.geometry s.apart s.places s.standing.indexed.last s.taking;
      allotted = c.each_event_keeps_what_places_a_commit_allotted.ensures m event can s;
      since = c.each_event_keeps_what_came_since.ensures m event can s.apart s.since;
      begun = c.each_event_keeps_what_a_commit_began_on.ensures m event can s.apart s.since s.numbers s.leads s.begun;
      standing = record { texts = rest.texts; indexed = rest.indexed; of_views = c.leaves_are_of_the_views.ensures m event can s };
      weight = c.each_event_keeps_the_weight.ensures m event can s;
      next_index = c.each_event_keeps_a_running_commits_index_small.ensures m event can s;
      log = c.each_event_keeps_the_log.ensures m event can s.geometry s.log;
      covered = rest.covered;
      settled = c.each_event_keeps_a_store_settled.ensures m event can s;
    }
