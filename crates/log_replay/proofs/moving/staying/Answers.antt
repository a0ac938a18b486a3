use Rattle.std.proofs.Common.{◌∙◌}
use Rattle.std.specs.Prelude.{is_some}
use Rattle.std.specs.BTreeMap.{get}
use Rattle.std.specs.Ordering.{nat_cmp}
use Rattle.index_tree.specs.Shape.{contents}
use Rattle.index_tree.specs.Tree.{shape}
use Rattle.log_replay.proofs.Staying.{none, stay_end, stay_on, weighs_on}
use Rattle.log_replay.proofs.moving.staying.Goals as goal

pub staying-preserved : goal.staying-preserved
staying-preserved c =
    let i = c.staying.invariant in
    let n = c.note_stay.ensures in
    record {
      stay = λ lnum. stay_on (contents (shape c.args.index.now.root)) (contents (shape c.staying.index.root)) lnum c.staying.left.now c.in-Some.rest.now c.args.candidates.now c.in-Some.first.now
          (is_some (get nat_cmp c.staying.stays lnum)) (is_some (get nat_cmp c.note_stay.new.stays lnum)) c.in-Some.ensures.cases.0 i.leaves (i.stay lnum) (c.in_ok-note_stay.ensures.stay lnum);
      leaves = n.leaves ∙ i.leaves;
      weight = weighs_on c.args.index.now.fanout c.staying.index.fanout (shape c.args.index.now.root) (shape c.staying.index.root) (shape c.note_stay.new.index.root) i.fanout i.weight n.weight;
      fanout = n.fanout ∙ i.fanout;
    }

pub returns-clause-stay : goal.returns-clause-stay
returns-clause-stay c = λ lnum.
    stay_end (contents (shape c.args.index.now.root)) lnum c.staying.left.now c.args.candidates.now (is_some (get nat_cmp c.staying.stays lnum)) (none c.staying.left.now c.in_default.ensures.cases) (c.staying.invariant.stay lnum)
