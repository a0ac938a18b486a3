use Rattle.std.proofs.Common.{ℕ, List, subst}
use Rattle.std.specs.Prelude.{take, drop}
use Rattle.image_check.specs.KeptLaws.{kept_next, kept_start, sure_of_area}
use Rattle.recovered_tree.specs.Sets.{IsShownIn}
use Rattle.recovered_tree.proofs.SetsSoFar.{read_all, read_next, read_starts}
use Rattle.recovered_tree.proofs.leaf_sets.read_sets.Goals as goal

pub reading-init : goal.reading-init
reading-init g c =
    let old = g.V.Volume.state c.args.volume.now in
    record { kept = kept_start old; read = λ kept is stand. read_starts old.holds kept c.args.leaves.now (record { inodes = c.new-inodes.result; others = c.new-others.result }) c.new-inodes.ensures.items c.new-others.ensures.items is stand }

pub reading-preserved : goal.reading-preserved
reading-preserved g c =
    let old = g.V.Volume.state c.args.volume.now in
    let now = g.V.Volume.state c.reading.volume in
    let new = g.V.Volume.state c.read_shown.new.volume in
    let i = c.reading.invariant in
    let leaf = c.in-Some.leaf.now in
    let P : List ℕ → Type 0 = λ leb. IsShownIn (take leaf.len (drop leaf.offs leb)) c.in_ok-shown.shown in
    let here = subst P (i.kept.keeps.holds leaf.lnum) c.in_ok-shown.ensures.shown in
    record {
      kept = kept_next old now new i.kept c.read_shown.ensures.keeps c.read_shown.ensures.shape c.in_ok-shown.ensures.cause (sure_of_area now new c.read_shown.result c.read_shown.ensures.sure);
      read = λ kept is stand. read_next old.holds kept c.reading.left.now c.in-Some.rest.now leaf c.reading.sets c.push_set.new.sets c.in_ok-shown.shown c.in-Some.ensures.cases.0 here c.in_ok-push_set.ensures.inodes c.in_ok-push_set.ensures.others (i.read kept is stand);
    }

pub returns-clause-sets : goal.returns-clause-sets
returns-clause-sets g c kept is stand =
    read_all (g.V.Volume.state c.args.volume.now).holds kept c.reading.left.now c.reading.sets c.in_default.ensures.cases (c.reading.invariant.read kept is stand)
