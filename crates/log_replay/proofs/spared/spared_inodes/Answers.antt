use Rattle.std.specs.Prelude.{is_some}
use Rattle.std.specs.BTreeMap.{get}
use Rattle.std.specs.Ordering.{nat_cmp}
use Rattle.log_replay.specs.Spared.{is_spared_by_map}
use Rattle.log_replay.proofs.Sparing.{any_on}
use Rattle.log_replay.proofs.spared.spared_inodes.Goals as goal

pub sparing-preserved : goal.sparing-preserved
sparing-preserved c = λ q.
    any_on (is_spared_by_map c.args.named.now q) c.sparing.left.now c.in-Some.rest.now c.args.leaves.now c.in-Some.first.now (is_some (get nat_cmp c.sparing.spared q)) (is_some (get nat_cmp c.note_spared.new.spared q))
    c.in-Some.ensures.cases.0 (c.sparing.invariant q) (c.in_ok-note_spared.ensures q)
