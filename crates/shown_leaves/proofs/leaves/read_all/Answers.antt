use Rattle.std.proofs.Common.{sym, ◌∙◌}
use Rattle.image_check.specs.KeptLaws.{kept_next, sure_of_area}
use Rattle.shown_leaves.proofs.JudgedLeaves.{all_right, all_told, judged_moved, sourced_moved, told_next}
use Rattle.shown_leaves.proofs.Members.{no_left}
use Rattle.shown_leaves.proofs.leaves.read_all.Goals as goal

pub reading-preserved : goal.reading-preserved
reading-preserved g c =
    let old = g.V.Volume.state c.args.volume.now in
    let now = g.V.Volume.state c.reading.volume in
    let new = g.V.Volume.state c.judge_leaf.new.volume in
    let i = c.reading.invariant in
    let same = i.kept.keeps.holds in
    let one = c.in_ok-one.one in
    let leaf = c.in-Some.leaf.now in
    record {
      room = c.judge_leaf.ensures.len ∙ i.room;
      kept = kept_next old now new i.kept c.judge_leaf.ensures.keeps c.judge_leaf.ensures.shape c.in_ok-one.ensures.cause (sure_of_area now new c.judge_leaf.result c.judge_leaf.ensures.sure);
      told = λ kept sourced. told_next old.holds kept c.reading.left.now c.in-Some.rest.now leaf c.reading.shown.items c.push.new.self.items one.leaf c.reading.unlike one.unlike c.sooner-unlike.result c.in-Some.ensures.cases.0 c.in_ok-push.ensures.items c.sooner-unlike.ensures
          (λ x s. let j = c.in_ok-one.ensures.judged x (sourced_moved old.holds now.holds same x leaf s) in judged_moved now.holds old.holds (λ k. sym (same k)) x one.leaf one.unlike (record { shows = j.0; first = j.1; right = j.2 }))
          (i.told kept sourced);
    }

pub returns-clause-shown : goal.returns-clause-shown
returns-clause-shown g c kept sourced =
    (all_told (g.V.Volume.state c.args.volume.now).holds kept c.reading.left.now c.reading.shown.items c.reading.unlike (no_left c.reading.left.now c.in_default.ensures.cases) (c.reading.invariant.told kept sourced)).0

pub returns-clause-unlike : goal.returns-clause-unlike
returns-clause-unlike g c kept sourced =
    (all_told (g.V.Volume.state c.args.volume.now).holds kept c.reading.left.now c.reading.shown.items c.reading.unlike (no_left c.reading.left.now c.in_default.ensures.cases) (c.reading.invariant.told kept sourced)).1

pub returns-clause-all : goal.returns-clause-all
returns-clause-all g c kept sourced =
    all_right (g.V.Volume.state c.args.volume.now).holds kept c.reading.left.now c.reading.shown.items c.reading.unlike (no_left c.reading.left.now c.in_default.ensures.cases) (c.reading.invariant.told kept sourced)
